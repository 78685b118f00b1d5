-- A member at positions of a text, by its parts.
use mathlib.Core.Path.{◌≡◌, refl, ap, ◌∙◌}
use mathlib.Core.Bool.{true}
use Rattle.std.specs.Prelude.{Option, None, Some}
use Prim.Native.Nat.{ℕ, ◌+◌, ◌≤◌}
use native.Mathlib.Omega.{arith}
use lib.ListN.{length, drop, get_or}
use Rattle.rules.specs.Bytes.{Bytes, ◌>>=◌}
use Rattle.rules.specs.Json.Text.{Text, Reader, behind, spelled, byte}
use Rattle.rules.specs.Json.Strings.{string}
use Rattle.rules.specs.Json.Values.{colon, member, value}
use Rattle.rules.proofs.Json.Places.{member-place}
use Rattle.json_values.proofs.Names.{colon-bare, value-bare}
use Rattle.json_strings.specs.Scanned.{Scanned}
use Rattle.json_strings.specs.declared.spellings.Spelling.TheVariants.{Plain}
use Rattle.field_names.proofs.Quoting.{named-plain, named-string}
use Rattle.field_objects.specs.Places.{value_in}
use Rattle.field_names.specs.Spelled.{Quoted}
use Rattle.field_objects.specs.Standing.{Stands}
use Rattle.field_names.specs.declared.keys.Spell.{Spell}

module _ (read : Reader) (t : Text) where
  pub member-nameless : (byte 0x22 t >>= string) ≡ None → member read t ≡ None
  unfolding member
  member-nameless e = go (byte 0x22 t) refl e
    where
      go : (o : Option Text) → byte 0x22 t ≡ o → (o >>= string) ≡ None → member read t ≡ None
      go None p e = rw (member, p)
      go (Some n) p e = rw (member, p, e)

  module _ {n r : Text} {name : Bytes} (a : byte 0x22 t ≡ Some n) (b : string n ≡ Some (name, r)) where
    pub member-no-colon : colon r ≡ None → member read t ≡ None
    unfolding member
    member-no-colon c = rw (member, a, b, c)

    pub member-no-value : {v : Text} → colon r ≡ Some v → read v ≡ None → member read t ≡ None
    unfolding member spelled
    member-no-value c d = rw (member, a, b, c, spelled, d)

pub member-stands : (read : Reader) (s : Text) (i : ℕ) (n : Spell) (v e : ℕ) → Quoted s i n → n.end + 1 ≤ v → v + 1 ≤ e → e ≤ length s
    → colon (drop n.end s) ≡ Some (drop v s) → read (drop v s) ≡ Some (drop e s)
    → Stands (member read (drop i s)) s i n v e
unfolding value_in
member-stands read s i n v e q h k w c d =
    let low : n.at + 1 ≤ n.end = q.named.from in
    let lower : i + 1 ≤ n.at = q.from in
    record {
      quote = q.quote;
      first = lower;
      named = q.named;
      read = member-place read s i v e (omega arith) w q.quote (named-string s n q.named) c d;
      value = rw (value_in, q.quote, named-string s n q.named) c;
      from = omega arith;
      ordered = omega arith;
      within = w;
    }

-- ---- two plain strings, and a colon with nothing around it

pub plain-stands : (d : ℕ) (s : Text) (at i n e : ℕ) → byte 0x22 (drop at s) ≡ Some (drop i s) → at + 1 ≤ i → Scanned s i (Plain n) → n + 2 ≤ length s
    → get_or s n 0 ≡ 0x3A → get_or s (n + 1) 0 ≡ 0x22 → Scanned s (n + 2) (Plain e)
    → Stands (member (value d) (drop at s)) s at (record { at = i; end = n; plain = true }) (n + 1) e
plain-stands d s at i n e q low x fits c o y =
    let further : n + 2 + 1 ≤ e = y.1 in
    member-stands (value d) s at (record { at = i; end = n; plain = true }) (n + 1) e
    (record { quote = q; from = low; named = named-plain s i n x.0 x.1 x.2 }) (omega arith) (omega arith) y.2
    (colon-bare s n fits o c)
    (value-bare s n fits o d ∙ ap behind y.0)

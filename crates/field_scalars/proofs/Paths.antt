-- A path is a string of 1 to 512 decoded bytes.
use mathlib.Core.Path.{◌≡◌, refl, sym, ap, ◌∙◌, subst}
use mathlib.Core.Bool.{Bool}
use Rattle.std.specs.Prelude.{Option, None, Some}
use Prim.Native.Nat.{ℕ, ◌+◌, ◌-◌, ◌≤◌, ◌<◌}
use native.Mathlib.Omega.{arith}
use lib.ListN.{length, drop}
use Rattle.rules.specs.Actions.{in_action}
use Rattle.rules.specs.Bytes.{Bytes, ◌>>=◌, guard, among}
use Rattle.rules.specs.Json.Text.{Text, byte}
use Rattle.rules.specs.Json.Strings.{string}
use Rattle.rules.specs.Json.Fields.{string_of}
use Rattle.rules.proofs.Json.Suffix.{some_same}
use Rattle.rules.proofs.Ranges.{among-within, among_below, among-above}
use Rattle.json_strings.specs.Decoded.{decoded}
use Rattle.field_objects.specs.declared.notes.Slot.{Slot}
use Rattle.field_scalars.specs.Inside.{Proper, string_in}
use Rattle.field_scalars.specs.Texts.{Read, path_of}
use Rattle.field_scalars.proofs.Single.{proper-single, text-single}
use Rattle.field_scalars.proofs.Strings.{string_of-none}
use Rattle.field_scalars.proofs.Begins.{byte_next}
use Rattle.field_scalars.proofs.Sizes.{quoted-ends, quoted-read, quoted-most, quoted-least}

module _ {o : Option Bytes} {s : Text} {p n : ℕ} (r : Read o s p) (size : n ≡ length (decoded (drop p s))) where
  sized : {test : Bool} → among 1 512 n ≡ test → path_of o ≡ (guard test >>= (λ _. Some (decoded (drop p s))))
  sized {test} e = ap path_of r.says ∙ ap (λ (b : Bool). guard b >>= (λ _. Some (decoded (drop p s)))) (ap (among 1 512) (sym size) ∙ e)

  pub path_empty : n ≡ 0 → path_of o ≡ None
  path_empty z = sized (among_below 1 512 n (omega arith))

  pub path-long : 512 < n → path_of o ≡ None
  path-long l = sized (among-above 1 512 n (omega arith) l)

  pub path-good : (n ≡ 0 → ⊥) → n ≤ 512 → Read (path_of o) s p
  path-good z l = record { spelled = r.spelled; says = sized (among-within 1 512 n (omega arith) l) }

-- ---- the path of a field that stands once, by the first byte of its text

module _ (s : Text) (x : Slot) (p : Proper s x) (sole : x.seen ≡ 1) where
  pub path-no-string : byte 0x22 (drop x.start s) ≡ None → path_of (string_in s x) ≡ None
  path-no-string n =
      let q = proper-single s x sole p in
      ap path_of (sym (text-single s x string_of sole) ∙ string_of-none s x.start x.end q.0 (ap (λ (o : Option Text). o >>= string) n))

  module _ (i : ℕ) (l : i ≤ length s) (b : byte 0x22 (drop x.start s) ≡ Some (drop i s)) where
    pub path-ends : i + 1 ≤ x.end
    path-ends = let q = proper-single s x sole p in quoted-ends in_action s x.start x.end q.0 q.1 q.2 i l b

    pub path-next : i ≡ x.start + 1
    path-next = let q = proper-single s x sole p in byte_next s x.start i 0x22 (omega (arith, q.0, q.1)) l b

    here : Read (string_in s x) s i
    here =
        let q = proper-single s x sole p in
        subst (λ (o : Option Bytes). Read o s i) (text-single s x string_of sole) (quoted-read in_action s x.start x.end q.0 q.1 q.2 i l b)

    pub path-unspelled : x.end - 1 - i ≡ 0 → path_of (string_in s x) ≡ None
    path-unspelled z =
        let q = proper-single s x sole p in
        path_empty here refl (omega (arith, quoted-most in_action s x.start x.end q.0 q.1 q.2 i l b))

    module _ (z : x.end - 1 - i ≡ 0 → ⊥) where
      some_bytes : length (decoded (drop i s)) ≡ 0 → ⊥
      some_bytes = let q = proper-single s x sole p in quoted-least in_action s x.start x.end q.0 q.1 q.2 i l b z

      pub path-short : x.end - 1 - i ≤ 512 → Read (path_of (string_in s x)) s i
      path-short n =
          let q = proper-single s x sole p in
          path-good here refl some_bytes (omega (arith, quoted-most in_action s x.start x.end q.0 q.1 q.2 i l b))

      -- measured, wherever it was found again
      pub path-measured : (j n : ℕ) → Read (string_in s x) s j → n ≡ length (decoded (drop j s)) → n ≤ 512 → Read (path_of (string_in s x)) s j
      path-measured j n r size m =
          path-good r size (λ e. some_bytes (ap length (some_same (sym here.says ∙ r.says)) ∙ sym size ∙ e)) m

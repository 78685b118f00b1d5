-- A name at a place has one answer: the rules fix the string and what is left, and these the places.
use mathlib.Core.Path.{◌≡◌, refl, sym, ap, ◌∙◌, subst}
use mathlib.Core.Bool.{Bool, true, false}
use Rattle.std.specs.Prelude.{Option, None}
use Prim.Native.Nat.{ℕ, ◌+◌, ◌-◌, ◌≤◌, ◌<◌}
use native.Mathlib.Omega.{arith}
use lib.ListN.{length, drop, length-drop}
use lib.Seq.{length-take-le}
use Rattle.rules.specs.Bytes.{◌>>=◌}
use Rattle.rules.specs.Json.Text.{Text, behind, byte}
use Rattle.rules.specs.Json.Strings.{string}
use Rattle.rules.proofs.Json.Suffix.{some_same, answered-none}
use Rattle.json_tokens.proofs.Alone.{left_alone}
use Rattle.json_strings.specs.Decoded.{decoded}
use Rattle.field_names.specs.Spelled.{Quoted, NameIs}
use Rattle.field_names.specs.declared.keys.Spell.{Spell}
use Rattle.std.specs.Prelude.{Some}

module _ (s : Text) (at : ℕ) where
  abbrev spell : ℕ → ℕ → Bool → Spell
  spell i e p = record { at = i; end = e; plain = p }

  plain_size : (i e : ℕ) → Quoted s at (spell i e true) → length (decoded (drop i s)) ≡ e - 1 - i
  plain_size i e q =
      let low : i + 1 ≤ e = q.named.from in
      let high : e ≤ length s = q.named.within in
      let fits : e - 1 - i ≤ length (drop i s) = omega (arith, length-drop i s) in
      ap length (q.named.raw refl) ∙ length-take-le (e - 1 - i) (drop i s) fits

  plain-alone : (i e : ℕ) (p q : Bool) → Quoted s at (spell i e p) → Quoted s at (spell i e q) → p ≡ q
  plain-alone i e true true f k = refl
  plain-alone i e true false f k = let few : length (decoded (drop i s)) < e - 1 - i = k.named.fewer refl in absurd (omega (arith, plain_size i e f))
  plain-alone i e false true f k = let few : length (decoded (drop i s)) < e - 1 - i = f.named.fewer refl in absurd (omega (arith, plain_size i e k))
  plain-alone i e false false f k = refl

  at-within : (n : Spell) → Quoted s at n → n.at ≤ length s
  at-within n q = omega (arith, q.named.from, q.named.within)

  quoted-alone : (n m : Spell) → Quoted s at n → Quoted s at m → n ≡ m
  quoted-alone n m f k =
      let begins : n.at ≡ m.at = left_alone s n.at m.at (at-within n f) (at-within m k) (some_same (sym f.quote ∙ k.quote)) in
      let ends : n.end ≡ m.end = left_alone s n.end m.end f.named.within k.named.within
      (some_same (sym f.named.closed ∙ ap (λ (i : ℕ). behind (string (drop i s))) begins ∙ k.named.closed)) in
      let moved : Quoted s at (spell n.at n.end m.plain) =
      subst (λ (e : ℕ). Quoted s at (spell n.at e m.plain)) (sym ends) (subst (λ (i : ℕ). Quoted s at (spell i m.end m.plain)) (sym begins) k) in
      ap (λ (p : Bool). spell n.at n.end p) (plain-alone n.at n.end n.plain m.plain f moved)
      ∙ ap (λ (i : ℕ). spell i n.end m.plain) begins ∙ ap (λ (e : ℕ). spell m.at e m.plain) ends

  no_name : {P : Type 0} (n : Spell) → Quoted s at n → (byte 0x22 (drop at s) >>= string) ≡ None → P
  no_name n f e = answered-none f.named.closed (ap behind (sym (ap (λ (o : Option Text). o >>= string) f.quote) ∙ e))

  pub name-alone : (r q : Option Spell) → NameIs s at r → NameIs s at q → r ≡ q
  name-alone (Some n) (Some m) f k = ap Some (quoted-alone n m f k)
  name-alone (Some n) None f k = no_name n f k
  name-alone None (Some m) f k = no_name m k f
  name-alone None None f k = refl

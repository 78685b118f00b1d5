-- A scan of a string has one answer: what is left fixes the position, and a string with escapes is longer than what it stands for.
use mathlib.Core.Path.{◌≡◌, refl, sym, ap, ◌∙◌}
use Rattle.std.specs.Prelude.{Some}
use Prim.Native.Nat.{ℕ, ◌+◌, ◌-◌, ◌≤◌, ◌<◌}
use native.Mathlib.Omega.{arith}
use lib.ListN.{length, drop, length-drop}
use lib.Seq.{length-take-le}
use Rattle.rules.specs.Json.Text.{Text, behind}
use Rattle.rules.specs.Json.Strings.{string}
use Rattle.json_tokens.proofs.Alone.{left_alone}
use Rattle.rules.proofs.Json.Suffix.{some_same, answered-none}
use Rattle.json_strings.specs.Decoded.{decoded}
use Rattle.json_strings.specs.Scanned.{Scanned}
use Rattle.json_strings.specs.declared.spellings.Spelling.{Spelling}
use Rattle.json_strings.specs.declared.spellings.Spelling.TheVariants.{Plain, Escaped, Bad}
use Rattle.json_strings.proofs.Decoding.{decoded-some}

module _ (s : Text) (at : ℕ) where
  -- up to where a string goes, plain or not
  plain-behind : (i : ℕ) → Scanned s at (Plain i) → behind (string (drop at s)) ≡ Some (drop i s)
  plain-behind i h = ap behind h.0

  plain_size : (i : ℕ) → Scanned s at (Plain i) → length (decoded (drop at s)) ≡ i - 1 - at
  plain_size i h =
      let low : at + 1 ≤ i = h.1 in
      let high : i ≤ length s = h.2 in
      let fits : i - 1 - at ≤ length (drop at s) = omega (arith, length-drop at s) in
      ap length (decoded-some (drop at s) h.0) ∙ length-take-le (i - 1 - at) (drop at s) fits

  place-alone : (i j : ℕ) → i ≤ length s → j ≤ length s → behind (string (drop at s)) ≡ Some (drop i s) → behind (string (drop at s)) ≡ Some (drop j s) → i ≡ j
  place-alone i j h k e f = left_alone s i j h k (some_same (sym e ∙ f))

  -- a plain string is not one with escapes
  apart-kinds : {P : Type 0} (i j : ℕ) → Scanned s at (Plain i) → Scanned s at (Escaped j) → P
  apart-kinds i j h k =
      let same : i ≡ j = place-alone i j h.2 k.2 (plain-behind i h) k.0 in
      let fewer : length (decoded (drop at s)) < j - 1 - at = k.3 in
      absurd (omega (arith, plain_size i h))

  pub scanned-alone : (r q : Spelling) → Scanned s at r → Scanned s at q → r ≡ q
  scanned-alone (Plain i) (Plain j) h k = ap Plain (place-alone i j h.2 k.2 (plain-behind i h) (plain-behind j k))
  scanned-alone (Plain i) (Escaped j) h k = apart-kinds i j h k
  scanned-alone (Plain i) Bad h k = answered-none h.0 k
  scanned-alone (Escaped i) (Plain j) h k = apart-kinds j i k h
  scanned-alone (Escaped i) (Escaped j) h k = ap Escaped (place-alone i j h.2 k.2 h.0 k.0)
  scanned-alone (Escaped i) Bad h k = answered-none h.0 (ap behind k)
  scanned-alone Bad (Plain j) h k = answered-none k.0 h
  scanned-alone Bad (Escaped j) h k = answered-none k.0 (ap behind h)
  scanned-alone Bad Bad h k = refl

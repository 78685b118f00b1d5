-- Texts that are JSON and texts that are not, by computation. They write ' for the double quote.
use mathlib.Core.Path.{◌≡◌, refl}
use mathlib.Core.Bool.{true, false}
use mathlib.Core.List.{List, [], ◌∷◌}
use Prim.Native.Nat.{ℕ}
use Prim.Native.String.{String}
use Rattle.rules.specs.Samples.{json}
use Rattle.rules.proofs.Opened.{rules}
use Rattle.json_values.specs.Whole.{is_json}

-- each text is JSON, nested as deep as the number beside it allows
abbrev Accepted : List (ℕ × String) → Type 0
Accepted [] = Unit {0}
Accepted (row ∷ rows) = (is_json row.0 (json row.1) ≡ true) × Accepted rows

abbrev Refused : List (ℕ × String) → Type 0
Refused [] = Unit {0}
Refused (row ∷ rows) = (is_json row.0 (json row.1) ≡ false) × Refused rows

pub accepted : Accepted ((0, " true ") ∷ (0, "-1.5e3") ∷ (0, "'a'") ∷ (1, "[]") ∷ (1, "[ 1 , 'a' ]") ∷ (2, "{'a':[],'a':null}") ∷ [])
unfolding rules is_json
accepted = (refl, (refl, (refl, (refl, (refl, (refl, tt))))))

pub refused : Refused ((0, "") ∷ (0, "1 2") ∷ (0, "[]") ∷ (1, "[[]]") ∷ (1, "[1,]") ∷ (1, "[1}") ∷ (1, "{'a' 1}") ∷ (1, "{a:1}") ∷ (0, "truE") ∷ [])
unfolding rules is_json
refused = (refl, (refl, (refl, (refl, (refl, (refl, (refl, (refl, (refl, tt)))))))))

-- Partition values by the members that say them: pair by pair, and under the same names.
use mathlib.Core.Path.{◌≡◌, sym, ap, ◌∙◌}
use Rattle.std.specs.Prelude.{Option, Some}
use mathlib.Core.List.{List, [], ◌∷◌}
use Rattle.rules.specs.Bytes.{Bytes, firsts}
use Rattle.rules.specs.Json.Values.{Member}
use Rattle.rules.specs.Json.Fields.{string_or_null}
use Rattle.rules.specs.Actions.{Pairs, pairs}
use Rattle.rules.proofs.Json.Suffix.{some_same, bound}

pub pairs-cons : (m : Member) (ms : List Member) {ps : Pairs} → pairs (m ∷ ms) ≡ Some ps
    → (x : Option Bytes) × (qs : Pairs) × (string_or_null m.1 ≡ Some x) × (pairs ms ≡ Some qs) × (ps ≡ (m.0, x) ∷ qs)
unfolding pairs
pairs-cons m ms e = bound (string_or_null m.1) _ e (λ x f g. bound (pairs ms) _ g (λ qs h k. (x, qs, f, h, sym (some_same k))))

pub firsts-pairs : (ms : List Member) {ps : Pairs} → pairs ms ≡ Some ps → firsts ps ≡ firsts ms
unfolding pairs firsts
firsts-pairs [] e = ap firsts (sym (some_same e))
firsts-pairs (m ∷ ms) e =
    let (x, qs, f, g, h) = pairs-cons m ms e in
    ap firsts h ∙ ap (λ (l : List Bytes). m.0 ∷ l) (firsts-pairs ms g)

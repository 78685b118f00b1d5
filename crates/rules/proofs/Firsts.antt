-- What holds of the answer of a list of tests: it is enough to look at what stands beside each test.
use mathlib.Core.Path.{◌≡◌}
use mathlib.Core.Bool.{Bool, true}
use Rattle.std.specs.Prelude.{Option, None, Some}
use mathlib.Core.List.{List, [], ◌∷◌}
use Rattle.facts.specs.Lists.{All}
use Rattle.rules.specs.Bytes.{first}
use Rattle.rules.proofs.Tests.{by, apart}

-- what stands beside a test that passes is no answer, or one of which P holds
abbrev pub Answers : {A : Type 0} → (A → Type 0) → Bool × Option A → Type 0
Answers {A} P c = (c.0 ≡ true) → (x : A) → (c.1 ≡ Some x) → P x

pub first-answers : {A : Type 0} (P : A → Type 0) (cs : List (Bool × Option A)) {a : A} → All (Answers P) cs → first cs None ≡ Some a → P a
unfolding first All
first-answers P [] h e = apart (cc)
first-answers P (c ∷ cs) {a} h e = by c.0
    (λ p. h.0 p a (rw (first, p) at e))
    (λ p. first-answers P cs h.1 (rw (first, p) at e))

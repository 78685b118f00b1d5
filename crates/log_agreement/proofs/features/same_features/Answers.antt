-- `same_features` meets its contract: one way, and then the other.
use Rattle.rules.specs.Bytes.{same_set, all_among}
use Rattle.log_agreement.proofs.Stated.{and-then, and-else}
use Rattle.log_agreement.proofs.features.same_features.Goals as goal

pub returns-then-features_held : goal.returns-then-features_held
unfolding same_set
returns-then-features_held c =
    λ xs ys f g. and-then (c.features_held.ensures xs ys f g) (c.features_held-then-features_held.ensures ys xs g f) c.if-features_held.true

pub returns-else-features_held : goal.returns-else-features_held
unfolding same_set
returns-else-features_held c = λ xs ys f g. and-else (all_among xs ys) (c.features_held.ensures xs ys f g) c.if-features_held.false

-- `features_held` meets its contract: no features are all among any.
use mathlib.Core.Path.{sym, ap}
use Rattle.rules.specs.Bytes.{all_among}
use Rattle.field_containers.proofs.Walking.{listed_more}
use Rattle.log_agreement.proofs.Listing.{features-none, features-listed, listed-empty}
use Rattle.log_agreement.proofs.features.features_held.Goals as goal

pub returns-then-at-eq0 : goal.returns-then-at-eq0
unfolding all_among
returns-then-at-eq0 c = λ xs ys f g. sym (ap (all_among ys) (features-none c.args.s.now c.args.at c.if-at-eq0.true f))

pub opening-requires : goal.opening-requires
opening-requires c = (features-listed c.args.s.now c.args.at c.if-at-eq0.false c.requires.0.listed).0

pub returns-in-More : goal.returns-in-More
returns-in-More c =
    λ xs ys f g.
    c.features_from.ensures xs ys
    (listed_more c.args.s.now c.args.at xs (features-listed c.args.s.now c.args.at c.if-at-eq0.false f).1 c.in-More.first c.in-More.ensures)
    g

pub returns-in_default : goal.returns-in_default
unfolding all_among
returns-in_default c =
    λ xs ys f g. sym (ap (all_among ys)
    (listed-empty c.args.s.now c.args.at xs (features-listed c.args.s.now c.args.at c.if-at-eq0.false f).1 c.opening.result c.opening.ensures
    c.in_default.not-More))

-- `feature_held` meets its contract: where none are stated, none is held.
use mathlib.Core.Path.{sym, ap}
use lib.ListN.{drop}
use Rattle.rules.specs.Bytes.{holds}
use Rattle.json_strings.specs.Decoded.{decoded}
use Rattle.log_agreement.proofs.Listing.{features-none, features-listed}
use Rattle.log_agreement.proofs.features.feature_held.Goals as goal

pub holds_string-requires : goal.holds_string-requires
holds_string-requires c =
    let l = features-listed c.args.t.now c.args.from c.if-from-ne0.true c.requires.0.listed in
    (l.0, c.requires.1, record { ss = c.requires.0.features; listed = l.1 })

pub returns-then-from-ne0 : goal.returns-then-from-ne0
returns-then-from-ne0 c = λ ys f. c.holds_string.ensures ys (features-listed c.args.t.now c.args.from c.if-from-ne0.true f).1

pub returns-else-from-ne0 : goal.returns-else-from-ne0
unfolding holds
returns-else-from-ne0 c =
    λ ys f. let e = c.if-from-ne0.false in rw e (sym (ap (holds (decoded (drop c.args.j c.args.s.now))) (features-none c.args.t.now c.args.from e f)))

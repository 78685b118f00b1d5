-- `find_name` meets its contract.
use mathlib.Core.Path.{subst}
use lib.ListN.{drop}
use Rattle.json_values.specs.Follows.{Follows}
use Rattle.json_strings.specs.Decoded.{decoded}
use Rattle.field_objects.proofs.Going.{standing-neither, standing-closed, standing-more}
use Rattle.field_objects.proofs.lookup.find_name.Goals as goal

pub find_from-requires : goal.find_from-requires
find_from-requires c =
    let f = subst (Follows _ _ _) c.in-More.is c.opening.ensures in
    (f.2, standing-more _ _ _ (decoded (drop c.args.j c.args.t.now)) c.requires.1 _ f, c.requires.2)

pub returns-in-Neither : goal.returns-in-Neither
returns-in-Neither c =
    λ w. standing-neither _ _ _
    (decoded (drop c.args.j c.args.t.now))
    w
    (subst (Follows _ _ _) c.in-Neither.is c.opening.ensures)

pub returns-in-Closed : goal.returns-in-Closed
returns-in-Closed c =
    λ w. standing-closed _ _ _
    (decoded (drop c.args.j c.args.t.now))
    w
    (subst (Follows _ _ _) c.in-Closed.is c.opening.ensures)

pub returns-in-More : goal.returns-in-More
returns-in-More c =
    λ w. c.find_from.ensures (standing-more _ _ _ (decoded (drop c.args.j c.args.t.now)) w _
    (subst (Follows _ _ _) c.in-More.is c.opening.ensures))

-- `holds_string` meets its contract. An empty array holds nothing.
use mathlib.Core.Path.{sym, ap}
use lib.ListN.{drop}
use Rattle.rules.specs.Bytes.{holds}
use Rattle.json_strings.specs.Decoded.{decoded}
use Rattle.field_containers.proofs.Walking.{listed-neither, listed-closed, listed_more}
use Rattle.field_containers.proofs.lists.holds_string.Goals as goal

pub held_from-requires : goal.held_from-requires
held_from-requires c =
    let f = c.in-More.ensures in
    (f.2, c.requires.1)

pub returns-in-Neither : goal.returns-in-Neither
returns-in-Neither c =
    λ ss l. listed-neither c.args.s.now c.args.at ss l c.in-Neither.ensures

pub returns-in-Closed : goal.returns-in-Closed
unfolding holds
returns-in-Closed c =
    λ ss l. sym (ap (holds (decoded (drop c.args.j c.args.t.now)))
    (listed-closed c.args.s.now c.args.at ss l c.in-Closed.ensures))

pub returns-in-More : goal.returns-in-More
returns-in-More c =
    λ ss l. c.held_from.ensures ss
    (listed_more c.args.s.now c.args.at ss l c.in-More.first c.in-More.ensures)

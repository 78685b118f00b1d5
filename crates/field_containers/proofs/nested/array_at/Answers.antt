-- `array_at` meets its contract. The bracket, and the strings behind it.
use Rattle.rules.specs.Actions.{in_field}
use Rattle.field_containers.proofs.Arrays.{array-missing, array-refused, array-strung}
use Rattle.field_containers.proofs.nested.array_at.Goals as goal

pub returns-in_err-at : goal.returns-in_err-at
returns-in_err-at c =
    rw c.from_residual.ensures (array-missing c.args.s.now c.args.v c.args.e c.requires.0 c.requires.1 c.requires.2 c.in_err-at.ensures)

pub strings_in-requires : goal.strings_in-requires
strings_in-requires c = c.in_ok-at.ensures.2

pub returns-in_err-n : goal.returns-in_err-n
returns-in_err-n c =
    let q = c.in_ok-at.ensures in
    rw c.from_residual-in_err-n.ensures
    (array-refused c.args.s.now c.args.v c.args.e c.requires.0 c.requires.1 c.requires.2 c.in_ok-at.at q.2 q.0 (c.in_err-n.ensures in_field))

pub returns : goal.returns
returns c =
    let q = c.in_ok-at.ensures in
    array-strung
    c.args.s.now
    c.args.v
    c.args.e
    c.requires.0
    c.requires.1
    c.requires.2
    c.in_ok-at.at
    q.2
    q.0
    c.in_ok-n.n
    c.in_ok-n.field-0-1
    q.1
    (c.in_ok-n.ensures in_field)

-- `plain_member` meets its contract. Each string is told by `plain_end`, and the two bytes between them are there.
use native.Mathlib.Omega.{arith}
use Rattle.json_characters.proofs.Inside.{closes-answer}
use Rattle.json_values.proofs.Names.{member-bare}
use Rattle.json_values.proofs.plain_member.Goals as goal

pub plain_end-n-requires : goal.plain_end-n-requires
plain_end-n-requires c = c.in-Some.ensures.2

pub overflow_sub-s : goal.overflow_sub-s
overflow_sub-s c =
    let q = c.in-Some.ensures in
    let x = closes-answer c.args.s.now _ _ q.2 c.plain_end-n.ensures (omega arith) in
    x.2

pub returns : goal.returns
returns c d h =
    let q = c.in-Some.ensures in
    member-bare d c.args.s.now _ _ _ _
    q.0
    q.1
    (closes-answer c.args.s.now _ _ q.2 c.plain_end-n.ensures (omega arith))
    (omega arith)
    (omega arith)
    (omega arith)
    (closes-answer c.args.s.now _ _ (omega arith) c.plain_end.ensures h)

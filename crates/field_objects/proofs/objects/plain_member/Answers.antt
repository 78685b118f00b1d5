-- `plain_member` meets its contract. Each string is told by `characters::plain_end`, and the two bytes between them are there.
use native.Mathlib.Omega.{arith}
use Rattle.json_strings.proofs.Scanning.{closes-scanned}
use Rattle.field_objects.proofs.Members.{plain-stands}
use Rattle.field_objects.proofs.objects.plain_member.Goals as goal

pub plain_end-n-requires : goal.plain_end-n-requires
plain_end-n-requires c = c.in_ok-i.ensures.2

pub overflow_sub-s : goal.overflow_sub-s
overflow_sub-s c =
    let q = c.in_ok-i.ensures in
    let x = closes-scanned c.args.s.now _ _ q.2 c.plain_end-n.ensures (omega arith) in
    x.2

pub returns : goal.returns
returns c d =
    let q = c.in_ok-i.ensures in
    plain-stands d c.args.s.now _ _ _ _
    q.0
    q.1
    (closes-scanned c.args.s.now _ _ q.2 c.plain_end-n.ensures (omega arith))
    (omega arith)
    (omega arith)
    (omega arith)
    (closes-scanned c.args.s.now _ _ (omega arith) c.plain_end-e.ensures (omega arith))

-- Two names of 96 bytes are compared; the last entry has no next.
use mathlib.Core.Path.{sym, ◌∙◌}
use Rattle.file_bundle.proofs.Entries.{first_two-last}
use Rattle.file_bundle.proofs.Ascent.{is_lt-next}
use Rattle.file_bundle.proofs.ascends.Goals as goal

pub returns-then-k-n : goal.returns-then-k-n
returns-then-k-n c =
    sym (first_two-last c.args.s.now c.args.n c.args.k c.if-k-n.true)

pub returns : goal.returns
returns c =
    c.is_lt.ensures
    ∙ is_lt-next c.args.s.now c.args.n c.args.k c.requires.0 c.if-k-n.false c.order_bytes.result
    c.order_bytes.ensures

-- `remove_in` meets its contract. The path of its field.
use Rattle.field_names.specs.Kinds.{names_of}
use Rattle.line_actions.proofs.Slotted.{lined-proper}
use Rattle.line_actions.proofs.Assembled.{remove-no-path, remove-there}
use native.Mathlib.Omega.{arith}
use Rattle.line_actions.proofs.acts.remove_in.Goals as goal

pub path_in-requires : goal.path_in-requires
unfolding names_of
path_in-requires c = lined-proper c.args.s.now 1 c.requires 0 (omega arith)

pub returns-in_err-p : goal.returns-in_err-p
returns-in_err-p c = rw c.from_residual.ensures (remove-no-path c.args.s.now c.requires c.in_err-p.ensures)

pub returns : goal.returns
returns c = remove-there c.args.s.now c.requires c.in_ok-p.p c.in_ok-p.ensures

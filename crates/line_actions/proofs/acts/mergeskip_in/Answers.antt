-- `mergeskip_in` meets its contract. Its three fields.
use mathlib.Core.Path.{sym, ◌∙◌}
use Rattle.field_names.specs.Kinds.{names_of}
use Rattle.line_actions.proofs.Slotted.{lined-inside, lined-proper}
use Rattle.line_actions.proofs.Assembled.{mergeskip-no-path, mergeskip-no-count, mergeskip-no-retry, mergeskip-there, at_once-is}
use native.Mathlib.Omega.{arith}
use Rattle.line_actions.proofs.acts.mergeskip_in.Goals as goal

pub path_in-requires : goal.path_in-requires
unfolding names_of
path_in-requires c = lined-proper c.args.s.now 4 c.requires 0 (omega arith)

pub returns-in_err-path : goal.returns-in_err-path
returns-in_err-path c = rw c.from_residual.ensures (mergeskip-no-path c.args.s.now c.requires c.in_err-path.ensures)

pub count_in-requires : goal.count_in-requires
unfolding names_of
count_in-requires c = lined-inside c.args.s.now 4 c.requires 1 (omega arith)

pub returns-in_err-count : goal.returns-in_err-count
returns-in_err-count c = rw c.from_residual-in_err-count.ensures (mergeskip-no-count c.args.s.now c.requires (sym c.in_err-count.ensures))

pub records_in-requires : goal.records_in-requires
unfolding names_of
records_in-requires c = lined-inside c.args.s.now 4 c.requires 2 (omega arith)

pub returns-in_err-retry : goal.returns-in_err-retry
returns-in_err-retry c = rw c.from_residual-in_err-retry.ensures (mergeskip-no-retry c.args.s.now c.requires (sym c.in_err-retry.ensures))

pub returns : goal.returns
returns c =
    mergeskip-there c.args.s.now c.requires c.in_ok-path.path c.in_ok-count.count _ c.in_ok-retry.retry c.in_ok-path.ensures
    (sym c.in_ok-count.ensures) (sym c.in_ok-retry.ensures) (at_once-is c.in_ok-retry.retry ∙ sym c.unwrap_or.ensures)

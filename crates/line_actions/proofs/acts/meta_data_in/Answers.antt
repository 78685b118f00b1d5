-- `meta_data_in` meets its contract. Its two fields.
use Rattle.field_names.specs.Kinds.{names_of}
use Rattle.line_actions.proofs.Slotted.{lined-inside, lined-proper}
use Rattle.line_actions.proofs.Assembled.{meta-no-id, meta-no-columns, meta-there}
use native.Mathlib.Omega.{arith}
use Rattle.line_actions.proofs.acts.meta_data_in.Goals as goal

pub some_string_in-requires : goal.some_string_in-requires
unfolding names_of
some_string_in-requires c = lined-inside c.args.s.now 3 c.requires 0 (omega arith)

pub returns-in_err-place : goal.returns-in_err-place
returns-in_err-place c = rw c.from_residual.ensures (meta-no-id c.args.s.now c.requires c.in_err-place.ensures)

pub columns_in-requires : goal.columns_in-requires
unfolding names_of
columns_in-requires c = lined-proper c.args.s.now 3 c.requires 1 (omega arith)

pub returns-in_err-at : goal.returns-in_err-at
returns-in_err-at c = rw c.from_residual-in_err-at.ensures (meta-no-columns c.args.s.now c.requires c.in_err-at.ensures)

pub returns : goal.returns
returns c = meta-there c.args.s.now c.requires c.in_ok-place.place c.in_ok-at.at c.in_ok-place.ensures.0 c.in_ok-at.ensures

-- `protocol_in` meets its contract. Its fields, one after another.
use mathlib.Core.Path.{sym}
use Rattle.field_names.specs.Kinds.{names_of}
use Rattle.line_actions.proofs.Slotted.{lined-inside, lined-proper}
use Rattle.line_actions.proofs.Assembled.{protocol-no-reader, protocol-no-writer, protocol-no-reader-features}
use Rattle.line_actions.proofs.Assembled.{protocol-no-writer-features, protocol-there}
use native.Mathlib.Omega.{arith}
use Rattle.line_actions.proofs.acts.protocol_in.Goals as goal

pub version_in-requires : goal.version_in-requires
unfolding names_of
version_in-requires c = lined-inside c.args.s.now 2 c.requires 0 (omega arith)

pub returns-in_err-reader : goal.returns-in_err-reader
returns-in_err-reader c = rw c.from_residual.ensures (protocol-no-reader c.args.s.now c.requires (sym c.in_err-reader.ensures))

pub version_in-requires-2 : goal.version_in-requires-2
unfolding names_of
version_in-requires-2 c = lined-inside c.args.s.now 2 c.requires 1 (omega arith)

pub returns-in_err-writer : goal.returns-in_err-writer
returns-in_err-writer c = rw c.from_residual-in_err-writer.ensures (protocol-no-writer c.args.s.now c.requires (sym c.in_err-writer.ensures))

pub features_in-requires : goal.features_in-requires
unfolding names_of
features_in-requires c = lined-proper c.args.s.now 2 c.requires 2 (omega arith)

pub returns-in_err-readers : goal.returns-in_err-readers
returns-in_err-readers c = rw c.from_residual-in_err-readers.ensures (protocol-no-reader-features c.args.s.now c.requires c.in_err-readers.ensures)

pub features_in-requires-2 : goal.features_in-requires-2
unfolding names_of
features_in-requires-2 c = lined-proper c.args.s.now 2 c.requires 3 (omega arith)

pub returns-in_err-writers : goal.returns-in_err-writers
returns-in_err-writers c = rw c.from_residual-in_err-writers.ensures (protocol-no-writer-features c.args.s.now c.requires c.in_err-writers.ensures)

pub returns : goal.returns
returns c =
    protocol-there c.args.s.now c.requires c.in_ok-reader.reader c.in_ok-writer.writer c.in_ok-readers.readers c.in_ok-writers.writers
    c.in_ok-readers.readable c.in_ok-writers.writable
    (sym c.in_ok-reader.ensures) (sym c.in_ok-writer.ensures) c.in_ok-readers.ensures c.in_ok-writers.ensures

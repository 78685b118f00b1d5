-- `writer_knows` meets its contract. By the tests made, in the order of the names.
use mathlib.Core.Path.{◌∙◌}
use Rattle.rules.specs.Bytes.{ascii}
use Rattle.rules.specs.Gate.{reader_names, writer_names}
use Rattle.field_names.specs.Spelled.{name_in}
use Rattle.field_containers.proofs.Named.{Asked, asked-first, asked_then, asked_else, asked-found, asked-rest}
use Rattle.field_containers.proofs.features.writer_knows.Goals as goal
use Rattle.field_containers.proofs.features.writer_knows.Goals.{then-name_is, else-name_is}

pub returns-then-name_is-2 : goal.returns-then-name_is-2
unfolding writer_names ascii
returns-then-name_is-2 c =
    let two : Asked (name_in c.args.s.now c.args.n) writer_names reader_names c.if-name_is.value =
    elim c.if-name_is.branch [
      | then-name_is w ↦ asked_then (asked-first c.name_is.ensures) w.if-name_is.true w.value-is
      | else-name_is w ↦ asked_else (asked-first c.name_is.ensures) w.if-name_is.false (w.value-is ∙ w.name_is-else-name_is.ensures)
    ] in
    asked-found two c.if-name_is-2.true

pub returns-else-name_is-2 : goal.returns-else-name_is-2
unfolding writer_names ascii
returns-else-name_is-2 c =
    let two : Asked (name_in c.args.s.now c.args.n) writer_names reader_names c.if-name_is.value =
    elim c.if-name_is.branch [
      | then-name_is w ↦ asked_then (asked-first c.name_is.ensures) w.if-name_is.true w.value-is
      | else-name_is w ↦ asked_else (asked-first c.name_is.ensures) w.if-name_is.false (w.value-is ∙ w.name_is-else-name_is.ensures)
    ] in
    asked-rest two c.if-name_is-2.false c.reader_knows.ensures

-- `reader_knows` meets its contract. By the tests made, in the order of the names.
use mathlib.Core.Path.{◌∙◌}
use mathlib.Core.List.{[], ◌∷◌}
use Rattle.rules.specs.Bytes.{ascii}
use Rattle.rules.specs.Gate.{reader_names}
use Rattle.field_names.specs.Spelled.{name_in}
use Rattle.field_containers.proofs.Named.{Asked, asked-first, asked_then, asked_else, asked-found, asked-rest, asked-last}
use Rattle.field_containers.proofs.features.reader_knows.Goals as goal
use Rattle.field_containers.proofs.features.reader_knows.Goals.{then-name_is, else-name_is, then-name_is-2, else-name_is-2}

pub returns-then-name_is-3 : goal.returns-then-name_is-3
unfolding reader_names ascii
returns-then-name_is-3 c =
    let two : Asked (name_in c.args.s.now c.args.n) reader_names (ascii "footerOffsets" ∷ ascii "schemaDeduplication" ∷ []) c.if-name_is.value =
    elim c.if-name_is.branch [
      | then-name_is w ↦ asked_then (asked-first c.name_is.ensures) w.if-name_is.true w.value-is
      | else-name_is w ↦ asked_else (asked-first c.name_is.ensures) w.if-name_is.false (w.value-is ∙ w.name_is-else-name_is.ensures)
    ] in
    let three : Asked (name_in c.args.s.now c.args.n) reader_names (ascii "schemaDeduplication" ∷ []) c.if-name_is-2.value =
    elim c.if-name_is-2.branch [
      | then-name_is-2 w ↦ asked_then two w.if-name_is-2.true w.value-is
      | else-name_is-2 w ↦ asked_else two w.if-name_is-2.false (w.value-is ∙ w.name_is-else-name_is-2.ensures)
    ] in
    asked-found three c.if-name_is-3.true

pub returns-else-name_is-3 : goal.returns-else-name_is-3
unfolding reader_names ascii
returns-else-name_is-3 c =
    let two : Asked (name_in c.args.s.now c.args.n) reader_names (ascii "footerOffsets" ∷ ascii "schemaDeduplication" ∷ []) c.if-name_is.value =
    elim c.if-name_is.branch [
      | then-name_is w ↦ asked_then (asked-first c.name_is.ensures) w.if-name_is.true w.value-is
      | else-name_is w ↦ asked_else (asked-first c.name_is.ensures) w.if-name_is.false (w.value-is ∙ w.name_is-else-name_is.ensures)
    ] in
    let three : Asked (name_in c.args.s.now c.args.n) reader_names (ascii "schemaDeduplication" ∷ []) c.if-name_is-2.value =
    elim c.if-name_is-2.branch [
      | then-name_is-2 w ↦ asked_then two w.if-name_is-2.true w.value-is
      | else-name_is-2 w ↦ asked_else two w.if-name_is-2.false (w.value-is ∙ w.name_is-else-name_is-2.ensures)
    ] in
    asked-rest three c.if-name_is-3.false (asked-last _ _ _ c.name_is-else-name_is-3.ensures)

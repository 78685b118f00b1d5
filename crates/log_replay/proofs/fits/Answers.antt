-- `fits` meets its contract: the keys beside the columns of the metaData's line, at first the quick way, or beside none.
use mathlib.Core.Path.{sym, ap, ◌∙◌}
use mathlib.Core.List.{List, []}
use native.Mathlib.Omega.{arith}
use Rattle.facts.specs.Parts.{part}
use Rattle.rules.specs.Bytes.{Bytes, same_set, firsts}
use Rattle.log_replay.specs.Views.{line_at, table_at, or_no_table}
use Rattle.log_replay.proofs.Fitting.{fits-held, fits-free, no-columns, said-columns, no-strings}
use Rattle.log_replay.proofs.fits.Goals as goal

pub keys_fit-requires : goal.keys_fit-requires
keys_fit-requires c = (c.requires.paired.0, omega arith, record { ss = []; listed = no-strings })

pub returns-then-table-eq0 : goal.returns-then-table-eq0
returns-then-table-eq0 c =
    λ f p. c.keys_fit.ensures f.partition_values [] p no-strings
    ∙ sym (fits-held f (or_no_table (table_at c.args.src.now c.args.table)) c.if-held.true
    ∙ ap (λ (cs : List Bytes). same_set (firsts f.partition_values) cs) (no-columns c.args.src.now c.args.table c.if-table-eq0.true))

pub usual_fit-requires : goal.usual_fit-requires
unfolding line_at part
usual_fit-requires c =
    let said = c.requires.table_said (omega (arith, c.if-table-eq0.false)) in
    (c.requires.paired.1, said.within)

pub returns-then-usual_fit : goal.returns-then-usual_fit
unfolding line_at part
returns-then-usual_fit c =
    let said = c.requires.table_said (omega (arith, c.if-table-eq0.false)) in
    λ f p. sym (fits-held f (or_no_table (table_at c.args.src.now c.args.table)) c.if-held.true
    ∙ ap (λ (cs : List Bytes). same_set (firsts f.partition_values) cs) (said-columns c.args.src.now c.args.table said)
    ∙ c.usual_fit.ensures c.if-usual_fit.true f.partition_values said.table.partition_columns p said.listed)

pub keys_fit-requires-then-held : goal.keys_fit-requires-then-held
unfolding line_at part
keys_fit-requires-then-held c =
    let said = c.requires.table_said (omega (arith, c.if-table-eq0.false)) in
    (c.requires.paired.0, said.within, record { ss = said.table.partition_columns; listed = said.listed })

pub returns-then-held : goal.returns-then-held
unfolding line_at part
returns-then-held c =
    let said = c.requires.table_said (omega (arith, c.if-table-eq0.false)) in
    λ f p. c.keys_fit-then-held.ensures f.partition_values said.table.partition_columns p said.listed
    ∙ sym (fits-held f (or_no_table (table_at c.args.src.now c.args.table)) c.if-held.true
    ∙ ap (λ (cs : List Bytes). same_set (firsts f.partition_values) cs) (said-columns c.args.src.now c.args.table said))

pub returns : goal.returns
returns c =
    λ f p. sym (fits-free f (or_no_table (table_at c.args.src.now c.args.table)) c.if-held.false)

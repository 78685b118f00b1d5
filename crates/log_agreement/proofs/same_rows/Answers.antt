-- `same_rows` meets its contract: what is asked of all rows is asked of those from k on.
use mathlib.Core.Path.{sym, ap₂, ◌∙◌, subst}
use Rattle.rules.specs.Agreement.{agree_row}
use Rattle.row_table.specs.declared.Cells.{Cells}
use Rattle.log_replay.specs.Views.{row_of, Stands}
use Rattle.log_agreement.proofs.Views.{going_end, going-same, going-differs, row-stands}
use Rattle.log_agreement.proofs.same_rows.Goals as goal

pub same_files-requires : goal.same_files-requires
same_files-requires c = (
  subst
      (Stands c.args.src.now)
      (sym (c.row_at-c.ensures c.args.n c.loop-k-test.true))
      (row-stands c.args.src.now c.args.n c.args.ta.now c.loop-k.k c.loop-k-test.true c.requires.0),
  subst
      (Stands c.args.src.now)
      (sym (c.row_at-d.ensures c.args.n c.loop-k-test.true))
      (row-stands c.args.src.now c.args.n c.args.tb.now c.loop-k.k c.loop-k-test.true c.requires.1),
)

pub loop-k-preserved : goal.loop-k-preserved
loop-k-preserved c =
    going-same c.args.src.now c.args.n c.args.ta.now c.args.tb.now c.loop-k.k c.loop-k.invariant c.loop-k-test.true
    (sym (ap₂ (λ (p q : Cells). agree_row (row_of c.args.src.now p) (row_of c.args.src.now q)) (c.row_at-c.ensures c.args.n c.loop-k-test.true)
    (c.row_at-d.ensures c.args.n c.loop-k-test.true)) ∙ sym c.same_files.ensures ∙ c.if-not-same_files.false)

pub returns-then-not-same_files : goal.returns-then-not-same_files
returns-then-not-same_files c =
    sym (going-differs c.args.src.now c.args.n c.args.ta.now c.args.tb.now c.loop-k.k c.loop-k.invariant c.loop-k-test.true
    (sym (ap₂ (λ (p q : Cells). agree_row (row_of c.args.src.now p) (row_of c.args.src.now q)) (c.row_at-c.ensures c.args.n c.loop-k-test.true)
    (c.row_at-d.ensures c.args.n c.loop-k-test.true)) ∙ sym c.same_files.ensures ∙ c.if-not-same_files.true))

pub returns : goal.returns
returns c = sym (going_end c.args.src.now c.args.n c.args.ta.now c.args.tb.now c.loop-k.k c.loop-k.invariant c.loop-k-test.false)

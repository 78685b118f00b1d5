-- `columns_differ` meets its contract: what is asked of all columns is asked of those from k on.
use Rattle.query_conditions.proofs.Columns.{columns-none, columns-twice, columns-past}
use Rattle.query_conditions.specs.Reading.{names_at}
use Rattle.json_strings.specs.Decoded.{decoded, WellSpelled}
use Rattle.facts.specs.Parts.{part}
use Rattle.facts.specs.Lists.{All}
use Rattle.facts.proofs.Parts.{part-behind}
use Rattle.facts.proofs.Lists.{All-at, All-drop}
use Rattle.rules.specs.Bytes.{holds}
use lib.ListN.{length, take, drop, get_or}
use Prim.Native.Nat.{ℕ, ◌+◌, ◌-◌}
use mathlib.Core.List.{List}
use mathlib.Core.Path.{◌≡◌, sym, ap, ◌∙◌, subst}
use native.Mathlib.Omega.{arith}
use Rattle.query_conditions.proofs.reading.columns_differ.Goals as goal

-- what is lent from k on
lent : (ps : List ℕ) (k : ℕ) → take (length ps - k) (drop k ps) ≡ drop k ps
unfolding part
lent ps k = part-behind ps k (length ps) (omega arith)

pub holds_column-requires : goal.holds_column-requires
holds_column-requires c =
    let spelled = WellSpelled c.args.q.now in (
      subst (All spelled) (sym (lent c.args.columns.now (c.loop-k.k + 1))) (All-drop spelled (c.loop-k.k + 1) c.args.columns.now c.requires),
      All-at spelled c.args.columns.now c.loop-k.k 0 c.loop-k-test.true c.requires,
    )

pub returns-then-holds_column : goal.returns-then-holds_column
returns-then-holds_column c =
    columns-twice c.args.q.now c.args.columns.now c.loop-k.k c.loop-k-test.true
    (ap (λ (xs : List ℕ). holds (decoded (drop (get_or c.args.columns.now c.loop-k.k 0) c.args.q.now)) (names_at c.args.q.now xs))
    (sym (lent c.args.columns.now (c.loop-k.k + 1)))
    ∙ sym c.if-holds_column.ensures) ∙ sym c.loop-k.invariant

pub loop-k-preserved : goal.loop-k-preserved
loop-k-preserved c =
    c.loop-k.invariant
    ∙ columns-past c.args.q.now c.args.columns.now c.loop-k.k c.loop-k-test.true
    (ap (λ (xs : List ℕ). holds (decoded (drop (get_or c.args.columns.now c.loop-k.k 0) c.args.q.now)) (names_at c.args.q.now xs))
    (sym (lent c.args.columns.now (c.loop-k.k + 1)))
    ∙ sym c.if-holds_column.ensures)

pub returns : goal.returns
returns c = columns-none c.args.q.now c.args.columns.now c.loop-k.k c.loop-k-test.false ∙ sym c.loop-k.invariant

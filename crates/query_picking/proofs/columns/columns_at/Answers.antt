-- `columns_at` meets its contract: the columns that the metaData lists, or none where the line says no metaData.
use mathlib.Core.Path.{◌≡◌, sym, ap, ◌∙◌}
use mathlib.Core.List.{List, []}
use Prim.Native.Nat.{ℕ, ◌≤◌}
use native.Mathlib.Omega.{arith}
use lib.Dec.{eqb}
use lib.ListN.{length}
use borrow.Author.Rules.{rules}
use Rattle.facts.specs.Parts.{part}
use Rattle.rules.specs.Bytes.{Bytes, all_among}
use Rattle.query_conditions.specs.Reading.{columns_of}
use Rattle.query_conditions.specs.declared.conditions.Condition.{Condition}
use Rattle.log_replay.specs.Views.{line_at}
use Rattle.query_picking.proofs.Among.{none-among, table-columns, no-columns}
use Rattle.query_picking.proofs.columns.columns_at.Goals as goal

-- where the line has no columns
none : (q : Bytes) (n : ℕ) (conditions : List Condition) (names : List Bytes) → n ≤ length conditions → names ≡ []
    → eqb n 0 ≡ all_among names (columns_of q n conditions)
none q n conditions names few e = none-among q n conditions few ∙ sym (ap (λ (names : List Bytes). all_among names (columns_of q n conditions)) e)

pub all_held-requires : goal.all_held-requires
unfolding line_at part
all_held-requires c =
    let x = c.in-Some.ensures in
    (x.2.within, record { ss = x.0.partition_columns; listed = x.2.columns }, c.requires.1)

pub returns-in-Some : goal.returns-in-Some
unfolding line_at part
returns-in-Some c =
    let x = c.in-Some.ensures in
    c.all_held.ensures x.0.partition_columns x.2.columns
    ∙ sym (ap (λ (names : List Bytes). all_among names (columns_of c.args.q.now c.args.n c.args.conditions)) (table-columns c.args.src.now c.args.at x.1))

pub returns-in-None : goal.returns-in-None
unfolding line_at part
returns-in-None c =
    let size : length c.args.conditions ≡ 8 = search rules in
    none c.args.q.now c.args.n c.args.conditions _ (omega (arith, size, c.requires.1.few)) (no-columns c.args.src.now c.args.at c.in-None.ensures)

-- `pick` meets its contract: where nothing is asked every row stays; else the rows are tested.
use mathlib.Core.Path.{◌≡◌}
use mathlib.Core.List.{List, []}
use Prim.Native.Nat.{ℕ}
use Rattle.rules.specs.Json.Text.{Text}
use Rattle.query_conditions.specs.declared.conditions.Condition.{Condition}
use Rattle.query_conditions.specs.Reading.{conditions_of}
use Rattle.query_picking.proofs.Fronting.{picks-all}
use Rattle.query_picking.proofs.pick.Goals as goal

conditions-none : (q : Text) (n : ℕ) (cs : List Condition) → n ≡ 0 → conditions_of q n cs ≡ []
unfolding conditions_of
conditions-none q n cs e = rw (e, conditions_of)

pub returns-then-asked-eq0 : goal.returns-then-asked-eq0
returns-then-asked-eq0 c =
    picks-all _ _ _ _ (conditions-none c.args.q.now c.args.asked.count c.args.asked.conditions c.if-asked-eq0.true)

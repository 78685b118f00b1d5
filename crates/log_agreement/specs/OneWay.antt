-- Partition values, one way: each pair of the one line is a pair of the other.
use Rattle.std.specs.Prelude.{◌≡◌, Bool, true, false, List, [], ◌∷◌, ℕ, suc, length, drop}
use Rattle.std.specs.Prelude.{Some}
use Rattle.rules.specs.Json.Text.{Text}
use Rattle.rules.specs.Json.Values.{Member, items, member, value}
use Rattle.rules.specs.Actions.{Pairs, pairs}
use Rattle.rules.specs.Picking.{value_at}
use Rattle.rules.specs.Agreement.{agree_found}

-- each of `these` has its value in qs. Where no two of `these` are of one column, this is `agree_on these these qs` (proofs/Columns)
unfoldable pub held_in : (these qs : Pairs) → Bool
held_in [] qs = true
held_in (c ∷ these) qs = elim (agree_found (Some c.1) (value_at c.0 qs)) [ true ↦ held_in these qs | false ↦ false ]

-- ps are the partition values from the member at i on
pub record Onward (s : Text) (i : ℕ) (ps : Pairs) : Type 0 where
  pub ms : List Member
  pub left : Text
  pub all : items (member (value 29)) 0x7D (suc (length (drop i s))) (drop i s) ≡ Some (ms, left)
  pub each : pairs ms ≡ Some ps

-- What is held of a state and its table where it is compared with another.
use Rattle.std.specs.Prelude.{ℕ, List}
use Rattle.std.proofs.Common.{arith}
use Rattle.facts.specs.Lists.{All}
use Rattle.rules.specs.Json.Text.{Text}
use Rattle.row_table.specs.Table.{rows, Room, behind}
use Rattle.log_replay.specs.Views.{Inside, Stands, Carries}
use Rattle.log_replay.specs.declared.State.{State}

-- the first n rows of t are each of a line of src that is an add
pub record HeldRows (src : Text) (n : ℕ) (t : List ℕ) : Type 0 where
  pub room : Room n t
  pub stands : All (Stands src) (rows n t)

pub record Held (src : Text) (st : State) (t : List ℕ) : Type 0 where
  pub before : Room st.base t
  pub rows : HeldRows src st.live (behind st.base t)
  pub meta_data : Inside src st.table
  pub protocol : Inside src st.protocol

-- what is carried while a log is read is so held
pub carries-held : {src : Text} {limit : ℕ} {st : State} {t : List ℕ} → Carries src limit st t → Held src st t
carries-held c = record {
  before = omega (arith, c.few, c.room);
  rows = record { room = c.table.room; stands = c.stands };
  meta_data = c.meta_data;
  protocol = c.protocol;
}

-- What the places of lines, carried beside a table of live rows, stand for: the state of the rules; and what is always
-- true of what is carried.
use Rattle.std.specs.Prelude.{◌≡◌, List, [], map, ℕ, ◌+◌, ◌≤◌, ◌<◌, length}
use Rattle.std.specs.Prelude.{Option, None, Some}
use Rattle.facts.specs.Lists.{All}
use Rattle.facts.specs.Parts.{part}
use Rattle.rules.specs.Json.Text.{Text}
use Rattle.rules.specs.Actions.{Facts, Skip, MetaData, Protocol, Action, add, action}
use Rattle.rules.specs.Live.{Row}
use Rattle.rules.specs.History.{no_table, or_unstated}
use Rattle.rules.specs.History.{State as RuleState, Said as RuleSaid}
use Rattle.row_table.specs.Table.{rows, Room, behind}
use Rattle.row_table.specs.declared.Cells.{Cells}
use Rattle.row_live.specs.Live.{places, place_of, key, Table}
use Rattle.field_containers.specs.Strung.{Listed}
use Rattle.line_actions.specs.Asked.{add_in, protocol_in, meta_data_in}
use Rattle.log_replay.specs.declared.Span.{Span}
use Rattle.log_replay.specs.declared.State.{State}
use Rattle.log_replay.specs.declared.begin.Said.{Said}

-- ---- bodies and lines are parts of the bundle

-- the bytes p stand in src at place `from`
pub record Lies (src : Text) (from : ℕ) (p : Text) : Type 0 where
  pub within : from + length p ≤ length src
  pub same : part src from (from + length p) ≡ p

-- ---- a line by its place

unfoldable pub line_at : Text → Span → Text
line_at src sp = part src sp.at (sp.at + sp.size)

-- the metaData, or the protocol, that a line says
unfoldable pub table_at : Text → Span → Option MetaData
table_at src sp = meta_data_in (action (line_at src sp))

unfoldable pub protocol_at : Text → Span → Option Protocol
protocol_at src sp = protocol_in (action (line_at src sp))

-- ---- a row of the table

-- what stands where there are no facts
unfoldable pub no_facts : Facts
no_facts = record { path = []; size = 0; modification_time = 0; num_records = None; partition_values = [] }

unfoldable pub or_no_table : Option MetaData → MetaData
or_no_table None = no_table
or_no_table (Some m) = m

unfoldable pub or_no_facts : Option Facts → Facts
or_no_facts None = no_facts
or_no_facts (Some f) = f

unfoldable pub facts_in : Option Action → Facts
unfolding or_no_facts add_in
facts_in o = or_no_facts (add_in o)

-- the facts that the add of a row's line says
unfoldable pub facts_at : Text → Cells → Facts
facts_at src c = facts_in (action (part src (place_of c) (place_of c + c.len)))

-- what was said of its file since
unfoldable pub skip_of : Cells → Skip
skip_of c = record { count = c.skips; retry_after = c.retry }

unfoldable pub row_of : Text → Cells → Row
row_of src c = record { at = place_of c; size = c.len; facts = facts_at src c; skip = skip_of c }

-- ---- what is carried

unfoldable pub state_of : Text → State → List ℕ → RuleState
state_of src st t = record {
  table = or_no_table (table_at src st.table);
  in_force = or_unstated (protocol_at src st.protocol);
  live = map (row_of src) (rows st.live (behind st.base t));
}

unfoldable pub said_of : Text → Said → RuleSaid
said_of src x = record { of_table = table_at src x.table; of_protocol = protocol_at src x.protocol }

abbrev pub Inside : Text → Span → Type 0
Inside src sp = sp.at + sp.size ≤ length src

-- a line says a metaData, and behind the bracket before `columns` of it stand its partition columns
pub record TableSaid (src : Text) (sp : Span) (columns : ℕ) : Type 0 where
  pub table : MetaData
  pub says : table_at src sp ≡ Some table
  pub within : columns ≤ length (line_at src sp)
  pub listed : Listed (line_at src sp) columns table.partition_columns

-- the row is of a line of src, an add with the row's path and numbers
pub record Stands (src : Text) (c : Cells) : Type 0 where
  pub facts : Facts
  pub within : place_of c + c.len ≤ length src
  pub adds : action (part src (place_of c) (place_of c + c.len)) ≡ Some (add facts)
  pub path : facts.path ≡ key src c
  pub size : facts.size ≡ c.size
  pub time : facts.modification_time ≡ c.time

-- st and the table t, which has room for `limit` rows, are carried over the bundle src
pub record Carries (src : Text) (limit : ℕ) (st : State) (t : List ℕ) : Type 0 where
  pub short : length src < places
  pub room : Room limit t
  pub few : st.base + st.live ≤ limit
  pub table : Table src st.live (behind st.base t)
  pub stands : All (Stands src) (rows st.live (behind st.base t))
  pub meta_data : Inside src st.table
  pub told : 0 < st.table.size → TableSaid src st.table st.columns
  pub protocol : Inside src st.protocol

-- what version 0 said: where there is a line, it says a metaData, or a protocol
pub record Stated (src : Text) (x : Said) : Type 0 where
  pub meta_data : Inside src x.table
  pub protocol : Inside src x.protocol
  pub of_table : 0 < x.table.size → TableSaid src x.table x.columns
  pub of_protocol : 0 < x.protocol.size → (p : Protocol) × (protocol_at src x.protocol ≡ Some p)

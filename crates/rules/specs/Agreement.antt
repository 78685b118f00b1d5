-- Whether two states agree, as the cleaner tests it: id and partition columns, protocol numbers, feature sets, paths, size, modificationTime,
-- numRecords, partition pairs, skipCount, retryAfter.
use Rattle.std.specs.Prelude.{Bool, true, false, ◌&&◌, List, [], ◌∷◌, ℕ, eqb}
use Rattle.std.specs.Prelude.{Option, None, Some}
use Rattle.rules.specs.Bytes.{Bytes, same, same_set, same_each}
use Rattle.rules.specs.Actions.{Facts, Pairs, Skip, Protocol, MetaData}
use Rattle.rules.specs.Live.{Row}
use Rattle.rules.specs.Picking.{value_at}
use Rattle.rules.specs.History.{State}

-- null is a value
unfoldable pub agree_value : Option Bytes → Option Bytes → Bool
agree_value None None = true
agree_value None (Some y) = false
agree_value (Some x) None = false
agree_value (Some x) (Some y) = same x y

unfoldable pub agree_found : Option (Option Bytes) → Option (Option Bytes) → Bool
agree_found None None = true
agree_found None (Some y) = false
agree_found (Some x) None = false
agree_found (Some x) (Some y) = agree_value x y

-- each column of `these` has the same value in ps and in qs
unfoldable pub agree_on : (these ps qs : Pairs) → Bool
agree_on [] ps qs = true
agree_on (c ∷ these) ps qs = elim (agree_found (value_at c.0 ps) (value_at c.0 qs)) [ true ↦ agree_on these ps qs | false ↦ false ]

-- pairs in any order
unfoldable pub agree_pairs : Pairs → Pairs → Bool
agree_pairs ps qs = agree_on ps ps qs && agree_on qs ps qs

-- null is as missing
unfoldable pub agree_records : Option ℕ → Option ℕ → Bool
agree_records None None = true
agree_records None (Some y) = false
agree_records (Some x) None = false
agree_records (Some x) (Some y) = eqb x y

unfoldable pub agree_facts : Facts → Facts → Bool
agree_facts f g =
    same f.path g.path
    && (eqb f.size g.size
    && (eqb f.modification_time g.modification_time
    && (agree_records f.num_records g.num_records
    && agree_pairs f.partition_values g.partition_values)))

unfoldable pub agree_skip : Skip → Skip → Bool
agree_skip a b = eqb a.count b.count && eqb a.retry_after b.retry_after

unfoldable pub agree_row : Row → Row → Bool
agree_row r s = agree_facts r.facts s.facts && agree_skip r.skip s.skip

-- rows are in path order on both sides
unfoldable pub agree_rows : List Row → List Row → Bool
agree_rows [] [] = true
agree_rows [] (s ∷ ss) = false
agree_rows (r ∷ rs) [] = false
agree_rows (r ∷ rs) (s ∷ ss) = elim (agree_row r s) [ true ↦ agree_rows rs ss | false ↦ false ]

unfoldable pub agree_protocols : Protocol → Protocol → Bool
agree_protocols p q =
    eqb p.min_reader_version q.min_reader_version
    && (eqb p.min_writer_version q.min_writer_version
    && (same_set p.reader_features q.reader_features
    && same_set p.writer_features q.writer_features))

-- partition columns in order
unfoldable pub agree_tables : MetaData → MetaData → Bool
agree_tables m n = same m.id n.id && same_each m.partition_columns n.partition_columns

unfoldable pub agree : State → State → Bool
agree s t =
    agree_tables s.table t.table
    && (agree_protocols s.in_force t.in_force
    && agree_rows s.live t.live)

-- The files due for a second merge at a stated time: skipped before, and the retry time not later.
use Rattle.std.specs.Prelude.{Bool, ◌&&◌, List, [], ◌∷◌, ℕ, leb, ltb}
use Rattle.rules.specs.Bytes.{Bytes, ascii, keep_if}
use Rattle.rules.specs.Actions.{Skip}
use Rattle.rules.specs.Live.{Row}
use Rattle.rules.specs.Reading.{Asked, Listing, reading}
use Rattle.rules.specs.Refusals.{Answer, accepted, ◌>>=◌}

-- skip count above 0, retry time not later
unfoldable pub is_due : (time : ℕ) → Skip → Bool
is_due time s = ltb 0 s.count && leb s.retry_after time

-- in path order
unfoldable pub due_rows : (time : ℕ) → List Row → List Row
due_rows time [] = []
due_rows time (r ∷ rs) = keep_if (is_due time r.skip) r (due_rows time rs)

-- a listing with the due files alone
unfoldable pub due_listing : (time : ℕ) → Listing → Listing
due_listing time l = record {
  version = l.version;
  table = l.table;
  in_force = l.in_force;
  can_write = l.can_write;
  rows = due_rows time l.rows;
}

-- refusals 1, 2, 3, 4, 5, then 6, 21 or 7 by first line met, 8, 9: those of reading under the query []; what is told of it and what it leaves
-- in a lent room are reading's too
unfoldable pub due : (room : ℕ) → (s : Bytes) → Asked → (time : ℕ) → Answer Listing
due room s asked time = do
  l ← reading room s (ascii "[]") asked
  accepted (due_listing time l)

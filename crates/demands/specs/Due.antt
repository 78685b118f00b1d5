-- Demand 2: the files due for a second merge are exactly the live ones that were skipped and whose retry time is not later; it is refused as
-- reading under the query [] is.
use Rattle.std.specs.Prelude.{◌≡◌, ◌↔◌, List, [], ◌∷◌, ℕ, ◌≤◌, ◌<◌}
use Rattle.rules.specs.Bytes.{Bytes, ascii}
use Rattle.rules.specs.Live.{Row}
use Rattle.rules.specs.Gate.{writable}
use Rattle.rules.specs.Reading.{Asked, Listing, reading}
use Rattle.rules.specs.Due.{due}
use Rattle.rules.specs.Refusals.{Refusal, accepted, refused}
use Rattle.demands.specs.Exactly.{Readable, version_in, Read}

-- skip count above 0, retry time not later
abbrev pub IsDue : (time : ℕ) → Row → Type 0
IsDue time r = (0 < r.skip.count) × (r.skip.retry_after ≤ time)

-- those that are so, in their order
pub data DueOf (time : ℕ) : (rows due : List Row) → Type 0 where
  no_more : DueOf time [] []
  waits : {r : Row} {rs ds : List Row} → IsDue time r → DueOf time rs ds → DueOf time (r ∷ rs) (r ∷ ds)
  passes : {r : Row} {rs ds : List Row} → (IsDue time r → ⊥) → DueOf time rs ds → DueOf time (r ∷ rs) ds

-- the bundle is read at the version asked for, its protocol is readable, and the rows are those of the live files that are due
pub record DueSays (room : ℕ) (s : Bytes) (asked : Asked) (time : ℕ) (l : Listing) : Type 0 where
  pub read : Read room s (ascii "[]") asked
  pub readable : Readable read.state.in_force
  pub version : l.version ≡ version_in asked read.opened
  pub table : l.table ≡ read.state.table
  pub in_force : l.in_force ≡ read.state.in_force
  pub can_write : l.can_write ≡ writable read.state.in_force
  pub rows : DueOf time read.state.live l.rows

abbrev pub DueExactly : Type 0
DueExactly = (room : ℕ) (s : Bytes) (asked : Asked) (time : ℕ) (l : Listing) → (due room s asked time ≡ accepted l) ↔ DueSays room s asked time l

abbrev pub DueRefusesExactly : Type 0
DueRefusesExactly =
    (room : ℕ) (s : Bytes) (asked : Asked) (time : ℕ) (r : Refusal)
    → (due room s asked time ≡ refused r) ↔ (reading room s (ascii "[]") asked ≡ refused r)

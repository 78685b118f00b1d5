-- Demand 2: the files a query picks, the manifests it keeps and the verdict of a protocol are exactly those of the written rules.
use Rattle.std.specs.Prelude.{◌≡◌, ◌⊎◌, ◌↔◌, true, false, List, [], ◌∷◌, ℕ, suc, ℤ}
use Rattle.std.specs.Prelude.{Option, None, Some}
use Rattle.facts.specs.Lists.{All}
use Rattle.rules.specs.Bytes.{Bytes, Order, same, order, is_more}
use Rattle.rules.specs.Actions.{Facts, Protocol}
use Rattle.rules.specs.Live.{Row}
use Rattle.rules.specs.Gate.{writable}
use Rattle.rules.specs.Query.{number, number_of, As, as_text, as_number, Op, Condition}
use Rattle.rules.specs.Picking.{meets, order_of_numbers, value_at, picked}
use Rattle.rules.specs.Manifests.{Bounds, Manifest, kept_from}
use Rattle.demands.specs.CleaningExactly.{NotWritable}

-- ---- a file is picked when it meets every condition; a missing, null or unreadable value meets none

-- text compares by unsigned bytes; numbers as numbers, both of them readable
abbrev pub MeetsAs : As → Op → (value bound : Bytes) → Type 0
MeetsAs as_text op x b = meets op (order x b) ≡ true
MeetsAs as_number op x b = (m n : ℤ) × (number_of x ≡ number m) × (number_of b ≡ number n) × (meets op (order_of_numbers m n) ≡ true)

abbrev pub Meets : Condition → Facts → Type 0
Meets c f = (x : Bytes) × (value_at c.column f.partition_values ≡ Some (Some x)) × MeetsAs c.kind c.op x c.bound

abbrev pub MeetsEvery : List Condition → Facts → Type 0
MeetsEvery cs f = All (λ (c : Condition). Meets c f) cs

-- those that are so, in their order
pub data Picks (cs : List Condition) : (rows picked : List Row) → Type 0 where
  no_more : Picks cs [] []
  picks : {r : Row} {rs ps : List Row} → MeetsEvery cs r.facts → Picks cs rs ps → Picks cs (r ∷ rs) (r ∷ ps)
  passes : {r : Row} {rs ps : List Row} → (MeetsEvery cs r.facts → ⊥) → Picks cs rs ps → Picks cs (r ∷ rs) ps

abbrev pub PicksExactly : Type 0
PicksExactly = (cs : List Condition) (rs : List Row) → Picks cs rs (picked cs rs)

-- ---- a manifest is dropped exactly when, for some condition, both bounds are there, readable as its kind, min <= max, and no value from min to max meets it

pub record Excludes {A : Type 0} (compare : A → A → Order) (op : Op) (bound min max : A) : Type 0 where
  pub rises : is_more (compare min max) ≡ false
  pub none-meets : (x : A) → is_more (compare min x) ≡ false → is_more (compare x max) ≡ false → meets op (compare x bound) ≡ false

abbrev pub ExcludesAs : As → Op → (bound min max : Bytes) → Type 0
ExcludesAs as_text op b lo hi = Excludes order op b lo hi
ExcludesAs as_number op b lo hi =
    (x y z : ℤ) × (number_of b ≡ number x) × (number_of lo ≡ number y) × (number_of hi ≡ number z) × Excludes order_of_numbers op x y z

-- the bounds of a column
unfoldable pub bounds_at : Bytes → List (Bytes × Bounds) → Option Bounds
bounds_at column [] = None
bounds_at column (b ∷ bs) = elim (same column b.0) [ true ↦ Some b.1 | false ↦ bounds_at column bs ]

pub record Drops (c : Condition) (m : Manifest) : Type 0 where
  pub bounds : Bounds
  pub min : Bytes
  pub max : Bytes
  pub bounds-there : bounds_at c.column m.bounds ≡ Some bounds
  pub min-there : bounds.min ≡ Some min
  pub max-there : bounds.max ≡ Some max
  pub excludes : ExcludesAs c.kind c.op c.bound min max

abbrev pub Dropped : List Condition → Manifest → Type 0
Dropped [] m = ⊥
Dropped (c ∷ cs) m = Drops c m ⊎ Dropped cs m

-- the numbers of those kept, ascending from k on
pub data Keeps (cs : List Condition) : ℕ → List Manifest → List ℕ → Type 0 where
  no_more : {k : ℕ} → Keeps cs k [] []
  keeps : {k : ℕ} {m : Manifest} {ms : List Manifest} {ks : List ℕ} → (Dropped cs m → ⊥) → Keeps cs (suc k) ms ks → Keeps cs k (m ∷ ms) (k ∷ ks)
  drops : {k : ℕ} {m : Manifest} {ms : List Manifest} {ks : List ℕ} → Dropped cs m → Keeps cs (suc k) ms ks → Keeps cs k (m ∷ ms) ks

abbrev pub KeepsExactly : Type 0
KeepsExactly = (cs : List Condition) (ms : List Manifest) → Keeps cs 0 ms (kept_from 0 cs ms)

-- ---- writable: minWriterVersion at most 3, writer features all among the six

abbrev pub WritableExactly : Type 0
WritableExactly = (p : Protocol) → (writable p ≡ true) ↔ (NotWritable p → ⊥)

-- The state manifest: its text, which manifests a query keeps, and the directory of one.
use Rattle.std.specs.Prelude.{Bool, true, false, not, ◌||◌, ◌&&◌, List, [], ◌∷◌, ℕ, suc, leb, eqb, length}
use Rattle.std.specs.Prelude.{Option, None, Some}
use Rattle.rules.specs.Bytes.{Bytes, ascii, ◌>>=◌, guard, same, begins, Order, order, is_less, is_more, distinct, firsts, keep_if}
use Rattle.rules.specs.Json.Text.{Text}
use Rattle.rules.specs.Json.Values.{Member, object_of, array_of}
use Rattle.rules.specs.Json.Fields.{once, optional, if_there, string_of, string_at}
use Rattle.rules.specs.Query.{Number, number, out_of_range, not_number, number_of, As, as_text, as_number, Op, eq, lt, le, gt, ge, Condition}
use Rattle.rules.specs.Picking.{meets, order_of_numbers}

-- ---- the text: one JSON object with `manifests`, an array of objects; other fields are ignored

-- what is said of a column's values in a manifest; none is missing or null
pub record Bounds : Type 0 where
  pub min : Option Bytes
  pub max : Option Bytes

pub record Manifest : Type 0 where
  pub path : Bytes
  pub bounds : List (Bytes × Bounds)

-- how deep values may nest inside of 1 to 5 objects and arrays
abbrev pub in_state : ℕ
in_state = 31

abbrev pub in_manifests : ℕ
in_manifests = 30

abbrev pub in_manifest : ℕ
in_manifest = 29

abbrev pub in_bounds : ℕ
in_bounds = 28

abbrev pub in_column : ℕ
in_column = 27

-- `min`, `max`, each string, null or missing
unfoldable pub bounds_of : Text → Option Bounds
bounds_of v = do
  ms ← object_of in_column v
  lo ← optional "min" ms
  min ← if_there string_of lo
  hi ← optional "max" ms
  max ← if_there string_of hi
  Some (record { min = min; max = max })

unfoldable pub columns_in : List Member → Option (List (Bytes × Bounds))
columns_in [] = Some []
columns_in (m ∷ ms) = do
  b ← bounds_of m.1
  bs ← columns_in ms
  Some ((m.0, b) ∷ bs)

-- column to an object, no column twice
unfoldable pub columns_of : Text → Option (List (Bytes × Bounds))
columns_of v = do
  ms ← object_of in_bounds v
  _ ← guard (distinct (firsts ms))
  columns_in ms

unfoldable pub or_no_bounds : Option (List (Bytes × Bounds)) → List (Bytes × Bounds)
or_no_bounds None = []
or_no_bounds (Some bs) = bs

-- `path` (non-empty string), `partitionBounds` (missing, null, or column to an object)
unfoldable pub manifest_of : Text → Option Manifest
manifest_of v = do
  ms ← object_of in_manifest v
  p ← string_at "path" ms
  _ ← guard (leb 1 (length p))
  b ← optional "partitionBounds" ms
  bs ← if_there columns_of b
  Some (record { path = p; bounds = or_no_bounds bs })

unfoldable pub manifests_in : List Text → Option (List Manifest)
manifests_in [] = Some []
manifests_in (v ∷ vs) = do
  m ← manifest_of v
  ms ← manifests_in vs
  Some (m ∷ ms)

-- none where the state manifest is malformed
unfoldable pub manifests : Text → Option (List Manifest)
manifests s = do
  ms ← object_of in_state s
  v ← once "manifests" ms
  vs ← array_of in_manifests v
  manifests_in vs

unfoldable pub most_manifests : ℕ
most_manifests = 256

-- ---- keeping and dropping

-- no value from min to max meets the condition, by how these two stand to its own value:
-- the lowest is the nearest to meeting lt and le, the highest to meeting gt and ge
unfoldable pub none_meets : Op → (min max : Order) → Bool
none_meets eq lo hi = is_more lo || is_less hi
none_meets lt lo hi = not (meets lt lo)
none_meets le lo hi = not (meets le lo)
none_meets gt lo hi = not (meets gt hi)
none_meets ge lo hi = not (meets ge hi)

-- min <= max, and no value from min to max meets the condition
unfoldable pub outside : {A : Type 0} → (A → A → Order) → Op → (bound min max : A) → Bool
outside compare op b lo hi = elim (is_more (compare lo hi)) [ true ↦ false | false ↦ none_meets op (compare lo b) (compare hi b) ]

-- all readable as numbers
unfoldable pub outside_numbers : Op → (bound min max : Number) → Bool
outside_numbers op (number b) (number lo) (number hi) = outside order_of_numbers op b lo hi
outside_numbers op (number b) (number lo) out_of_range = false
outside_numbers op (number b) (number lo) not_number = false
outside_numbers op (number b) out_of_range hi = false
outside_numbers op (number b) not_number hi = false
outside_numbers op out_of_range lo hi = false
outside_numbers op not_number lo hi = false

unfoldable pub outside_as : As → Op → (bound min max : Bytes) → Bool
outside_as as_text op b lo hi = outside order op b lo hi
outside_as as_number op b lo hi = outside_numbers op (number_of b) (number_of lo) (number_of hi)

-- both bounds are there
unfoldable pub both_there : Condition → (min max : Option Bytes) → Bool
both_there c None hi = false
both_there c (Some lo) None = false
both_there c (Some lo) (Some hi) = outside_as c.kind c.op c.bound lo hi

-- the condition drops a manifest that has these bounds
unfoldable pub drops : Condition → List (Bytes × Bounds) → Bool
drops c [] = false
drops c (b ∷ bs) = elim (same c.column b.0) [ true ↦ both_there c b.1.min b.1.max | false ↦ drops c bs ]

-- a manifest is dropped when some condition drops it
unfoldable pub dropped : List Condition → Manifest → Bool
dropped [] m = false
dropped (c ∷ cs) m = elim (drops c m.bounds) [ true ↦ true | false ↦ dropped cs m ]

-- the numbers of those that are kept, the next of which is number k
unfoldable pub kept_from : ℕ → List Condition → List Manifest → List ℕ
kept_from k cs [] = []
kept_from k cs (m ∷ ms) = keep_if (not (dropped cs m)) k (kept_from (suc k) cs ms)

-- ---- the directory

unfoldable pub slash : ℕ
slash = 0x2F

unfoldable pub has_slash : Bytes → Bool
has_slash [] = false
has_slash (b ∷ bs) = elim (eqb b slash) [ true ↦ true | false ↦ has_slash bs ]

-- the bytes before the last slash
unfoldable pub before_last_slash : Bytes → Bytes
before_last_slash [] = []
before_last_slash (b ∷ bs) = elim (has_slash bs) [ true ↦ b ∷ before_last_slash bs | false ↦ [] ]

-- a path that begins `manifests/`, or begins `state-v` and holds a slash, stands as it is
unfoldable pub stands_as_is : Bytes → Bool
stands_as_is p = begins (ascii "manifests/") p || (begins (ascii "state-v") p && has_slash p)

-- the directory shown, without its closing slash: of the path, or for the others the state's directory as lent
unfoldable pub directory : (path state_directory : Bytes) → Bytes
directory p d = elim (stands_as_is p) [ true ↦ before_last_slash p | false ↦ d ]

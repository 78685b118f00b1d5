-- Byte strings, and what every rule is written with: texts in ASCII, tests, answers that may be missing,
-- the order of byte strings, lists of them.
use Rattle.std.specs.Prelude.{Bool, true, false, ◌&&◌, List, [], ◌∷◌, ℕ, eqb, ltb, leb, length}
use Rattle.std.specs.Prelude.{Option, None, Some}
use Prim.Native.Char.{code}
use Prim.Native.String.{String, [] as end, ◌∷◌ as ◌then◌}

-- bytes, each a number below 256
abbrev pub Bytes : Type 0
Bytes = List ℕ

-- the bytes of a text in ASCII
unfoldable pub ascii : String → Bytes
ascii end = []
ascii (c then s) = code c ∷ ascii s

-- ---- answers that may be missing, and tests

infixl 20 ◌>>=◌
abbrev pub ◌>>=◌ : {A B : Type 0} → Option A → (A → Option B) → Option B
◌>>=◌ None f = None
◌>>=◌ (Some a) f = f a

-- go on only where the test passes
abbrev pub guard : Bool → Option (Unit {0})
guard true = Some tt
guard false = None

unfoldable pub is_some : {A : Type 0} → Option A → Bool
is_some None = false
is_some (Some a) = true

-- what stands beside the first test that passes, and `otherwise` where none does
unfoldable pub first : {A : Type 0} → List (Bool × A) → A → A
first [] otherwise = otherwise
first (c ∷ cs) otherwise = elim c.0 [ true ↦ c.1 | false ↦ first cs otherwise ]

-- from lo to hi, both included
unfoldable pub among : ℕ → ℕ → ℕ → Bool
among lo hi n = leb lo n && leb n hi

unfoldable pub is_empty : {A : Type 0} → List A → Bool
is_empty [] = true
is_empty (x ∷ xs) = false

unfoldable pub keep_if : {A : Type 0} → Bool → A → List A → List A
keep_if true x xs = x ∷ xs
keep_if false x xs = xs

-- ---- byte strings

unfoldable pub same : Bytes → Bytes → Bool
same [] [] = true
same [] (y ∷ ys) = false
same (x ∷ xs) [] = false
same (x ∷ xs) (y ∷ ys) = elim (eqb x y) [ true ↦ same xs ys | false ↦ false ]

unfoldable pub begins : Bytes → Bytes → Bool
begins [] ys = true
begins (x ∷ xs) [] = false
begins (x ∷ xs) (y ∷ ys) = elim (eqb x y) [ true ↦ begins xs ys | false ↦ false ]

-- 1 byte at least
abbrev pub non_empty : Bytes → Option Bytes
non_empty x = do
  _ ← guard (leb 1 (length x))
  Some x

pub data Order : Type 0 where
  less equal more : Order

-- by unsigned bytes; a string stands before those that it begins
unfoldable pub order : Bytes → Bytes → Order
order [] [] = equal
order [] (y ∷ ys) = less
order (x ∷ xs) [] = more
order (x ∷ xs) (y ∷ ys) = elim (ltb x y) [ true ↦ less | false ↦ elim (ltb y x) [ true ↦ more | false ↦ order xs ys ] ]

unfoldable pub is_less : Order → Bool
is_less less = true
is_less equal = false
is_less more = false

unfoldable pub is_equal : Order → Bool
is_equal less = false
is_equal equal = true
is_equal more = false

unfoldable pub is_more : Order → Bool
is_more less = false
is_more equal = false
is_more more = true

-- ---- lists of byte strings

unfoldable pub holds : Bytes → List Bytes → Bool
holds x [] = false
holds x (y ∷ ys) = elim (same x y) [ true ↦ true | false ↦ holds x ys ]

unfoldable pub distinct : List Bytes → Bool
distinct [] = true
distinct (x ∷ xs) = elim (holds x xs) [ true ↦ false | false ↦ distinct xs ]

-- every one of xs is among names
unfoldable pub all_among : List Bytes → List Bytes → Bool
all_among names [] = true
all_among names (x ∷ xs) = elim (holds x names) [ true ↦ all_among names xs | false ↦ false ]

-- the same strings, in any order
unfoldable pub same_set : List Bytes → List Bytes → Bool
same_set xs ys = all_among ys xs && all_among xs ys

-- the same strings, one after the other
unfoldable pub same_each : List Bytes → List Bytes → Bool
same_each [] [] = true
same_each [] (y ∷ ys) = false
same_each (x ∷ xs) [] = false
same_each (x ∷ xs) (y ∷ ys) = elim (same x y) [ true ↦ same_each xs ys | false ↦ false ]

-- the first of each pair
unfoldable pub firsts : {A : Type 0} → List (Bytes × A) → List Bytes
firsts [] = []
firsts (p ∷ ps) = p.0 ∷ firsts ps

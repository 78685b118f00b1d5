-- Laws of lists that lib.ListN and lib.Seq lack: suffixes `drop i s`, lists that agree from a place on or up to it, seams,
-- repeated elements, maps, every element. The next place is `i + 1`, as in code. Not here, for they are there: `length-drop`,
-- `drop_of_length-le` (nothing is left past the end), `drop-drop`, `set_out`, `ext_get_or` (lists are equal by their elements).
use mathlib.Core.Path.{◌≡◌, refl, sym, ap}
use Prim.Native.Nat.{ℕ, zero, suc, ◌+◌, ◌-◌, ◌≤◌, ◌<◌, suc-le-suc}
use native.Mathlib.Nat.{le_of_suc-le-suc, not-suc-le-zero, zero-add, suc-add, sub-zero, zero-sub, suc-sub-suc}
use native.Mathlib.Numerals.{add-one}
use native.Mathlib.Omega.{arith}
use mathlib.Core.List.{List, [], ◌∷◌, ◌++◌, map}
use lib.ListN.{length, take, drop, get_or, set, replicate, length-drop, take-append-drop, replicate-append-replicate}
use lib.Seq.{drop-cons, drop-drop, take-suc, drop-nil, take-nil, set_split, take-suc-set, drop-append-add, get_or-drop, get_or-take}
use Rattle.facts.specs.Lists.{All}

module _ {A : Type 0} where
  -- ---- a suffix and its first element

  pub drop_here : (s : List A) (i : ℕ) (d : A) → i < length s → drop i s ≡ get_or s i d ∷ drop (i + 1) s
  drop_here s i d h = rw (add-one, drop-cons s i d)

  -- the same where the element is known
  pub drop-is : (s : List A) (i : ℕ) (d x : A) → i < length s → get_or s i d ≡ x → drop i s ≡ x ∷ drop (i + 1) s
  drop-is s i d x h e = rw (drop_here s i d h, e)

  -- ---- the place of a suffix

  pub drop-place : (s : List A) (i : ℕ) → i ≤ length s → length s - length (drop i s) ≡ i
  drop-place s i h = simp length-drop (omega arith)

  -- a suffix is known by its length
  pub drop-by-length : (s : List A) (i : ℕ) → drop (length s - length (drop i s)) s ≡ drop i s
  drop-by-length s zero = let e : length s - length s ≡ 0 = omega arith in rw e
  drop-by-length [] (suc i) = drop-nil (0 - 0)
  drop-by-length (x ∷ s) (suc i) =
      let e : suc (length s) - length (drop i s) ≡ suc (length s - length (drop i s)) = simp length-drop (omega arith) in
      rw e (drop-by-length s i)

  -- ---- lists that agree from a place on, or up to it

  pub drop-later : (a b : ℕ) (t u : List A) → a ≤ b → drop a t ≡ drop a u → drop b t ≡ drop b u
  drop-later a b t u h e =
      let q : b ≡ a + (b - a) = omega arith in
      rw (q, ← drop-drop (b - a) a t, ← drop-drop (b - a) a u, e)

  pub get_d-behind : (a i : ℕ) (d : A) (t u : List A) → a ≤ i → drop a t ≡ drop a u → get_or t i d ≡ get_or u i d
  get_d-behind a i d t u h e =
      let q : i ≡ a + (i - a) = omega arith in
      rw (q, ← get_or-drop a t (i - a) d, ← get_or-drop a u (i - a) d, e)

  pub get_d-before : (a i : ℕ) (d : A) (t u : List A) → i < a → take a t ≡ take a u → get_or t i d ≡ get_or u i d
  get_d-before a i d t u h e = rw (← get_or-take a t i d h, ← get_or-take a u i d h, e)

  -- ---- one more element

  pub take-one-more : (s : List A) (i : ℕ) (d : A) → i < length s → take (i + 1) s ≡ take i s ++ (get_or s i d ∷ [])
  take-one-more s i d h = rw (add-one, take-suc s i d)

  pub set_here : (s : List A) (i : ℕ) (v : A) → i < length s → set s i v ≡ take i s ++ v ∷ drop (i + 1) s
  set_here s i v h = rw (add-one, set_split s i v)

  pub take-set-here : (s : List A) (i : ℕ) (v : A) → i < length s → take (i + 1) (set s i v) ≡ take i s ++ (v ∷ [])
  take-set-here s i v h = rw (add-one, take-suc-set s i v)

  -- ---- parts of parts, and both sides of a seam

  pub drop-take : (i m : ℕ) (s : List A) → drop i (take m s) ≡ take (m - i) (drop i s)
  drop-take zero m s = rw sub-zero
  drop-take (suc i) zero s = rw zero-sub
  drop-take (suc i) (suc m) [] = rw (take-nil (suc m - suc i))
  drop-take (suc i) (suc m) (x ∷ s) = rw suc-sub-suc (drop-take i m s)

  pub drop_past : (p q : List A) (n i : ℕ) → length p ≡ n → drop (n + i) (p ++ q) ≡ drop i q
  drop_past p q n i e = rw (← e) (drop-append-add p q i)

  pub set_past : (p q : List A) (n i : ℕ) (v : A) → length p ≡ n → set (p ++ q) (n + i) v ≡ p ++ set q i v
  set_past [] q n i v e = rw (← e, zero-add)
  set_past (x ∷ p) q n i v e = rw (← e, suc-add) (ap (λ (l : List A). x ∷ l) (set_past p q (length p) i v refl))

  -- ---- one element repeated

  pub take-replicate : (i n : ℕ) (a : A) → i ≤ n → take i (replicate n a) ≡ replicate i a
  take-replicate zero n a h = refl
  take-replicate (suc i) zero a h = absurd (not-suc-le-zero h)
  take-replicate (suc i) (suc n) a h = ap (λ (l : List A). a ∷ l) (take-replicate i n a (le_of_suc-le-suc h))

  pub drop-replicate : (i n : ℕ) (a : A) → drop i (replicate n a) ≡ replicate (n - i) a
  drop-replicate zero n a = rw sub-zero
  drop-replicate (suc i) zero a = rw zero-sub
  drop-replicate (suc i) (suc n) a = rw suc-sub-suc (drop-replicate i n a)

  pub replicate-one-more : (n : ℕ) (a : A) → replicate (n + 1) a ≡ replicate n a ++ (a ∷ [])
  replicate-one-more n a = sym (replicate-append-replicate n 1 a)

-- ---- maps

module _ {A B : Type 0} (f : A → B) where
  pub map-take : (n : ℕ) (xs : List A) → map f (take n xs) ≡ take n (map f xs)
  map-take zero xs = refl
  map-take (suc n) [] = refl
  map-take (suc n) (x ∷ xs) = ap (λ (l : List B). f x ∷ l) (map-take n xs)

  pub map-drop : (n : ℕ) (xs : List A) → map f (drop n xs) ≡ drop n (map f xs)
  map-drop zero xs = refl
  map-drop (suc n) [] = refl
  map-drop (suc n) (x ∷ xs) = map-drop n xs

  pub map-set : (xs : List A) (i : ℕ) (v : A) → map f (set xs i v) ≡ set (map f xs) i (f v)
  map-set [] i v = refl
  map-set (x ∷ xs) zero v = refl
  map-set (x ∷ xs) (suc i) v = ap (λ (l : List B). f x ∷ l) (map-set xs i v)

  -- whatever stands for a missing element, on either side
  pub get_d_map : (xs : List A) (i : ℕ) (d : A) (e : B) → i < length xs → get_or (map f xs) i e ≡ f (get_or xs i d)
  get_d_map [] i d e h = absurd (not-suc-le-zero h)
  get_d_map (x ∷ xs) zero d e h = refl
  get_d_map (x ∷ xs) (suc i) d e h = get_d_map xs i d e (le_of_suc-le-suc h)

-- ---- every element

module _ {A : Type 0} (P : A → Type 0) where
  pub All-at : (xs : List A) (i : ℕ) (d : A) → i < length xs → All P xs → P (get_or xs i d)
  unfolding All
  All-at [] i d h p = absurd (not-suc-le-zero h)
  All-at (x ∷ xs) zero d h p = p.0
  All-at (x ∷ xs) (suc i) d h p = All-at xs i d (le_of_suc-le-suc h) p.1

  pub All-of : (xs : List A) (d : A) → ((i : ℕ) → i < length xs → P (get_or xs i d)) → All P xs
  unfolding All
  All-of [] d f = tt
  All-of (x ∷ xs) d f = (f 0 (omega arith), All-of xs d (λ i h. f (suc i) (suc-le-suc h)))

  pub All-append : (xs ys : List A) → All P xs → All P ys → All P (xs ++ ys)
  unfolding All
  All-append [] ys p q = q
  All-append (x ∷ xs) ys p q = (p.0, All-append xs ys p.1 q)

  pub All-left : (xs ys : List A) → All P (xs ++ ys) → All P xs
  unfolding All
  All-left [] ys p = tt
  All-left (x ∷ xs) ys p = (p.0, All-left xs ys p.1)

  pub All-right : (xs ys : List A) → All P (xs ++ ys) → All P ys
  unfolding All
  All-right [] ys p = p
  All-right (x ∷ xs) ys p = All-right xs ys p.1

  pub All-take : (n : ℕ) (xs : List A) → All P xs → All P (take n xs)
  All-take n xs p = All-left (take n xs) (drop n xs) (rw take-append-drop p)

  pub All-drop : (n : ℕ) (xs : List A) → All P xs → All P (drop n xs)
  All-drop n xs p = All-right (take n xs) (drop n xs) (rw take-append-drop p)

  pub All-set : (xs : List A) (i : ℕ) (v : A) → All P xs → P v → All P (set xs i v)
  unfolding All
  All-set [] i v p q = p
  All-set (x ∷ xs) zero v p q = (q, p.1)
  All-set (x ∷ xs) (suc i) v p q = (p.0, All-set xs i v p.1 q)

  pub All-weaken : (Q : A → Type 0) (xs : List A) → ((x : A) → P x → Q x) → All P xs → All Q xs
  unfolding All
  All-weaken Q [] f p = tt
  All-weaken Q (x ∷ xs) f p = (f x p.0, All-weaken Q xs f p.1)

pub All-map : {A B : Type 0} (P : B → Type 0) (f : A → B) (xs : List A) → All (λ (x : A). P (f x)) xs → All P (map f xs)
unfolding All
All-map P f [] p = tt
All-map P f (x ∷ xs) p = (p.0, All-map P f xs p.1)

pub map-All : {A B : Type 0} (P : B → Type 0) (f : A → B) (xs : List A) → All P (map f xs) → All (λ (x : A). P (f x)) xs
unfolding All
map-All P f [] p = tt
map-All P f (x ∷ xs) p = (p.0, map-All P f xs p.1)

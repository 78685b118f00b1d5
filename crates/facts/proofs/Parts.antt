-- Laws of parts: a line, a value or a name of a text, by absolute places.
use mathlib.Core.Path.{◌≡◌, sym, ap, ◌∙◌}
use Prim.Native.Nat.{ℕ, suc, ◌+◌, ◌-◌, ◌≤◌, ◌<◌}
use native.Mathlib.Omega.{arith}
use mathlib.Core.List.{List, [], ◌∷◌, ◌++◌}
use lib.ListN.{length, drop, get_or, length-drop, take-append-drop}
use lib.Seq.{drop-drop, take-take, take-add, take_all, length-take-le, get_or-drop, get_or-take}
use Rattle.facts.specs.Parts.{part}
use Rattle.facts.proofs.Lists.{drop_here, drop-take}

module _ {A : Type 0} where
  -- ---- its length and its ends

  pub length_part : (s : List A) (a b : ℕ) → b ≤ length s → length (part s a b) ≡ b - a
  unfolding part
  length_part s a b h = length-take-le (b - a) (drop a s) (simp length-drop (omega arith))

  pub part_none : (s : List A) (a b : ℕ) → b ≤ a → part s a b ≡ []
  unfolding part
  part_none s a b h = let e : b - a ≡ 0 = omega arith in rw e

  pub part-behind : (s : List A) (a b : ℕ) → length s ≤ b → part s a b ≡ drop a s
  unfolding part
  part-behind s a b h = take_all (b - a) (drop a s) (simp length-drop (omega arith))

  pub part-whole : (s : List A) (b : ℕ) → length s ≤ b → part s 0 b ≡ s
  part-whole s b h = part-behind s 0 b h

  -- ---- its elements

  pub get_d_part : (s : List A) (a b i : ℕ) (d : A) → a + i < b → get_or (part s a b) i d ≡ get_or s (a + i) d
  unfolding part
  get_d_part s a b i d h = get_or-take (b - a) (drop a s) i d (omega arith) ∙ get_or-drop a s i d

  -- the first element, and the part that starts one later
  pub part-cons : (s : List A) (a b : ℕ) (d : A) → a < b → b ≤ length s → part s a b ≡ get_or s a d ∷ part s (a + 1) b
  unfolding part
  part-cons s a b d h l =
      let e : b - a ≡ suc (b - (a + 1)) = omega arith in
      rw (e, drop_here s a d (omega arith))

  -- the same where the element is known
  pub part-is : (s : List A) (a b : ℕ) (d x : A) → a < b → b ≤ length s → get_or s a d ≡ x → part s a b ≡ x ∷ part s (a + 1) b
  part-is s a b d x h l e = rw (part-cons s a b d h l, e)

  -- ---- parts of it

  pub drop-part : (s : List A) (a b k : ℕ) → drop k (part s a b) ≡ part s (a + k) b
  unfolding part
  drop-part s a b k =
      let e : b - (a + k) ≡ b - a - k = omega arith in
      rw (e, ← drop-drop k a s) (drop-take k (b - a) (drop a s))

  pub part-part : (s : List A) (a b c e : ℕ) → a + e ≤ b → part (part s a b) c e ≡ part s (a + c) (a + e)
  unfolding part
  part-part s a b c e h =
      let f : a + e - (a + c) ≡ e - c = omega arith in
      rw (f, drop-take c (b - a) (drop a s), drop-drop c a s) (take-take (e - c) (b - a - c) (drop (a + c) s) (omega arith))

  -- ---- it is cut, or one longer

  pub part-split : (s : List A) (a m b : ℕ) → a ≤ m → m ≤ b → part s a b ≡ part s a m ++ part s m b
  unfolding part
  part-split s a m b h k =
      let e : b - a ≡ m - a + (b - m) = omega arith in
      let f : a + (m - a) ≡ m = omega arith in
      rw (e, take-add (m - a) (b - m) (drop a s), drop-drop (m - a) a s, f)

  pub part-snoc : (s : List A) (a b : ℕ) (d : A) → a ≤ b → b < length s → part s a (b + 1) ≡ part s a b ++ (get_or s b d ∷ [])
  part-snoc s a b d h l =
      rw (part-split s a b (b + 1) h (omega arith), part-cons s b (b + 1) d (omega arith) (omega arith), part_none s (b + 1) (b + 1) (omega arith))

  -- the list behind it, and around it
  pub part-rest : (s : List A) (a b : ℕ) → a ≤ b → part s a b ++ drop b s ≡ drop a s
  unfolding part
  part-rest s a b h =
      let e : b ≡ a + (b - a) = omega arith in
      let f : drop b s ≡ drop (b - a) (drop a s) = ap (λ (n : ℕ). drop n s) e ∙ sym (drop-drop (b - a) a s) in
      rw f (take-append-drop (b - a) (drop a s))
  -- ---- lists that agree there

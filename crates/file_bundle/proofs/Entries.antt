-- The contents: each entry by its number, and what is left behind one.
use mathlib.Core.Path.{◌≡◌, refl}
use mathlib.Core.Bool.{Bool, true, false, ◌&&◌}
use mathlib.Core.List.{List, [], ◌∷◌}
use Prim.Native.Nat.{ℕ, zero, suc, ◌+◌, ◌*◌, ◌-◌, ◌≤◌, ◌<◌}
use native.Mathlib.Nat.{not-suc-le-zero, le_of_suc-le-suc}
use native.Mathlib.Omega.{arith}
use lib.ListN.{take, drop, get_or}
use lib.Seq.{drop-drop}
use Rattle.rules.specs.Bytes.{Bytes, order, is_less}
use Rattle.rules.specs.Numbers.{little}
use Rattle.rules.specs.Bundle.{Entry, entry_bytes, field, entry_of, entries, ascending}
use Rattle.file_bundle.specs.Files.{first_two, left}
use Rattle.rules.proofs.LittleFields.{field-drop}

-- ---- the parts of the entry that lies at e

module _ (e : ℕ) (s : Bytes) where
  -- its name is cut out by where it ends
  pub entry-padded : (end : ℕ) → end ≡ e + 96 → take (end - e) (drop e s) ≡ (entry_of (drop e s)).padded
  unfolding entry_of field
  entry-padded end h = let l : end - e ≡ 96 = omega arith in rw l

  pub entry-start : (entry_of (drop e s)).start ≡ little (field (e + 96) 4 s)
  unfolding entry_of
  entry-start = rw (field-drop e 96 4 s)

  pub entry-size : (at : ℕ) → at ≡ e + 100 → (entry_of (drop e s)).size ≡ little (field at 4 s)
  unfolding entry_of
  entry-size at h = rw (field-drop e 100 4 s, h)

  pub entry-time : (at : ℕ) → at ≡ e + 104 → (entry_of (drop e s)).time ≡ little (field at 8 s)
  unfolding entry_of
  entry-time at h = rw (field-drop e 104 8 s, h)

-- ---- one after another

pub entries_at : (n j : ℕ) (t : Bytes) (d : Entry) → j < n → get_or (entries n t) j d ≡ entry_of (drop (112 * j) t)
unfolding entries entry_bytes
entries_at zero j t d h = absurd (not-suc-le-zero h)
entries_at (suc n) zero t d h = refl
entries_at (suc n) (suc j) t d h =
    let l : 112 * suc j ≡ 112 + 112 * j = omega arith in
    rw (l, ← drop-drop (112 * j) 112 t) (entries_at n j (drop 112 t) d (le_of_suc-le-suc h))

pub ascending-cons : (a : Entry) (es : List Entry) → ascending (a ∷ es) ≡ (first_two (a ∷ es) && ascending es)
unfolding ascending first_two
ascending-cons a [] = refl
ascending-cons a (b ∷ es) = go (is_less (order a.padded b.padded))
  where
    go : (x : Bool) → elim x [ true ↦ ascending (b ∷ es) | false ↦ false ] ≡ (x && ascending (b ∷ es))
    go true = refl
    go false = refl

-- ---- left of the bundle s, which has n

module _ (s : Bytes) (n k : ℕ) where
  pub left-cons : k < n → left s n k ≡ entry_of (drop (4 + 112 * k) s) ∷ left s n (k + 1)
  unfolding left entries entry_bytes
  left-cons h =
      let m : n - k ≡ suc (n - (k + 1)) = omega arith in
      let l : 4 + 112 * (k + 1) ≡ 4 + 112 * k + 112 = omega arith in
      rw (m, l, ← drop-drop 112 (4 + 112 * k) s)

  pub left-none : n ≤ k → left s n k ≡ []
  unfolding left entries
  left-none h = let m : n - k ≡ 0 = omega arith in rw m

-- the last entry has no next
pub first_two-last : (s : Bytes) (n k : ℕ) → k + 1 ≡ n → first_two (left s n k) ≡ true
unfolding first_two
first_two-last s n k h = rw (left-cons s n k (omega arith), left-none s n (k + 1) (omega arith))

pub first_two-next : (s : Bytes) (n k : ℕ) → k + 1 < n
    → first_two (left s n k) ≡ is_less (order (entry_of (drop (4 + 112 * k) s)).padded (entry_of (drop (4 + 112 * k + 112) s)).padded)
unfolding first_two
first_two-next s n k h =
    let l : 4 + 112 * (k + 1) ≡ 4 + 112 * k + 112 = omega arith in
    rw (left-cons s n k (omega arith), left-cons s n (k + 1) h, l)

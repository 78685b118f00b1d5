-- What a lent room holds at the end, as code leaves it: numbers in front, zeros written behind them, the rest as it was.
-- `filled` and `zeroed` stay shut in what is said here, so that a room's thousands of zeros are never written out.
use mathlib.Core.Path.{◌≡◌, refl, sym, ap, ◌∙◌}
use mathlib.Core.List.{List, [], ◌∷◌}
use Prim.Native.Nat.{ℕ, ◌*◌, ◌≤◌}
use native.Mathlib.Omega.{arith}
use lib.ListN.{length, take, drop, length-append, length-drop, length-replicate}
use lib.Seq.{take_at}
use borrow.Author.Tests.{eq-eqb, ne_eqb}
use Rattle.facts.specs.Rows.{flat, rows_of, Layout}
use Rattle.facts.specs.Moves.{zeroed}
use Rattle.facts.proofs.Moves.{zeroed-whole}
use Rattle.facts.proofs.Tables.{zeroed-flat}
use Rattle.rules.specs.Live.{Row}
use Rattle.rules.specs.Refusals.{Refusal, accepted, refused}
use Rattle.rules.specs.Rooms.{Room, filled, leaves, row_numbers, rows_numbers}

-- ---- rows

pub rows_numbers-flat : (rs : List Row) → rows_numbers rs ≡ flat row_numbers rs
unfolding rows_numbers flat
rows_numbers-flat [] = refl
rows_numbers-flat (r ∷ rs) = rw (rows_numbers-flat rs)

-- ---- a room that is filled

pub length-filled : (n : ℕ) (xs : List ℕ) (room : Room) → length xs ≤ n → n ≤ length room → length (filled n xs room) ≡ length room
unfolding filled
length-filled n xs room h l = simp (length-append, length-replicate, length-drop) (omega arith)

-- the first a numbers of t are xs, and beyond n it is the room: zeros written from a up to n make it so
pub zeroed-filled : (a n : ℕ) (xs t : List ℕ) (room : Room) → length xs ≡ a → a ≤ n → n ≤ length t → take a t ≡ xs → drop n t ≡ drop n room
    → zeroed a n t ≡ filled n xs room
unfolding filled
zeroed-filled a n xs t room c h l e f = rw c (zeroed-whole a n t h l xs room e f)

-- the same where the numbers are k rows of any layout
pub zeroed-rows-filled : {A : Type 0}
    {w : ℕ}
    {cells : A → List ℕ}
    {row : List ℕ → A}
    (L : Layout w cells row)
    (k n : ℕ)
    (rs : List A)
    (t : List ℕ)
    (room : Room)
    → k * w ≤ n → n ≤ length t → rows_of w row k t ≡ rs → drop n t ≡ drop n room → zeroed (k * w) n t ≡ filled n (flat cells rs) room
unfolding filled
zeroed-rows-filled L k n rs t room h l e f = zeroed-flat L k n rs t room h l e f

-- zeros alone
pub zeroed-none-filled : (n : ℕ) (t : List ℕ) (room : Room) → n ≤ length t → drop n t ≡ drop n room → zeroed 0 n t ≡ filled n [] room
zeroed-none-filled n t room l f = zeroed-filled 0 n [] t room refl (omega arith) l refl f

-- ---- what an answer leaves

module _ {A : Type 0} (n : ℕ) (numbers : A → List ℕ) (room : Room) where
  pub leaves-accepted : (a : A) → leaves n numbers (accepted a) room ≡ filled n (numbers a) room
  unfolding leaves
  leaves-accepted a = refl

  pub leaves-untouched : (r : Refusal) → r.number ≡ 1 → leaves n numbers (refused r) room ≡ room
  unfolding leaves
  leaves-untouched r e = rw (leaves, eq-eqb r.number 1 e)

  pub leaves-zeros : (r : Refusal) → (r.number ≡ 1 → ⊥) → leaves n numbers (refused r) room ≡ filled n [] room
  unfolding leaves
  leaves-zeros r h = rw (leaves, ne_eqb r.number 1 h)

  -- the numbers of an answer stand in the front of the room
  pub leaves-front : (a : A) (after : Room) (k : ℕ) → after ≡ leaves n numbers (accepted a) room → length (numbers a) ≡ k → numbers a ≡ take k after
  unfolding leaves filled
  leaves-front a after k e h = sym (ap (take k) e ∙ take_at (numbers a) _ k h)

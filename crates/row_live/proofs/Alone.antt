-- A path stands in one place of the table, or would stand in one; two positions are packed in one number.
use mathlib.Core.Path.{◌≡◌, sym, ap, ◌∙◌}
use mathlib.Core.List.{List, []}
use Prim.Native.Nat.{ℕ, ◌/◌, ◌%◌, ◌≤◌, ◌<◌}
use native.Mathlib.Omega.{arith}
use lib.Dec.{ltb}
use lib.ListN.{length, get_or}
use borrow.Author.Tests.{ltb-true, ltb-false}
use Rattle.facts.proofs.Rows.{length-rows_of}
use Rattle.rules.specs.Bytes.{Bytes}
use Rattle.rules.specs.Json.Text.{Text}
use Rattle.rules.specs.Keyed.{Ascends, Bracket}
use Rattle.rules.proofs.Tests.{by, apart}
use Rattle.rules.proofs.Order.{order-less-ne, order-more-ne}
use Rattle.rules.proofs.Ascending.{ascends-at}
use Rattle.row_table.specs.Table.{wide, row, rows}
use Rattle.row_live.specs.Live.{places, key, Packed, Table, Finds}
use Rattle.std.specs.Prelude.{Result, Ok, Err}

pub packed-alone : (line spelling a b : ℕ) → Packed line spelling a → Packed line spelling b → a ≡ b
packed-alone line spelling a b h k =
    let low : a % places ≡ b % places = h.place ∙ sym k.place in
    let high : a / places ≡ b / places = h.path ∙ sym k.path in
    omega arith

-- ---- of things whose keys ascend

module _ {A : Type 0} (key : A → Bytes) (k : Bytes) (xs : List A) (d : A) where
  not-later : Ascends key xs → (i j : ℕ) → j < length xs → key (get_or xs i d) ≡ k → key (get_or xs j d) ≡ k → j ≤ i
  not-later s i j l e f =
      by (ltb i j) (λ t. absurd (order-less-ne _ _ (ascends-at key xs s i j d (ltb-true i j t) l) (e ∙ sym f))) (λ u. ltb-false i j u)

  held-alone : Ascends key xs → (i j : ℕ) → i < length xs → j < length xs → key (get_or xs i d) ≡ k → key (get_or xs j d) ≡ k → i ≡ j
  held-alone s i j l m e f = omega (arith, not-later s i j m e f, not-later s j i l f e)

  -- where a key would stand, it does not stand
  not-held : {P : Type 0} (i j : ℕ) → j < length xs → key (get_or xs j d) ≡ k → Bracket key k xs d i i → P
  not-held i j l e b =
      absurd (by (ltb j i) (λ t. order-less-ne _ _ (b.below j (ltb-true j i t)) e) (λ u. order-more-ne _ _ (b.above j (ltb-false j i u) l) e))

  not-above : (i j : ℕ) → Bracket key k xs d i i → Bracket key k xs d j j → j ≤ i
  not-above i j a b = by (ltb i j) (λ t. met (ltb-true i j t)) (λ u. ltb-false i j u)
    where
      met : i < j → j ≤ i
      met l =
          let up = a.above i (omega arith) (omega (arith, b.hi-le)) in
          let down = b.below i l in
          apart (cc)

  place-alone : (i j : ℕ) → Bracket key k xs d i i → Bracket key k xs d j j → i ≡ j
  place-alone i j a b = omega (arith, not-above i j a b, not-above j i b a)

-- ---- of the rows

module _ (src : Text) (k : Bytes) (n : ℕ) (t : List ℕ) (s : Table src n t) where
  size : length (rows n t) ≡ n
  size = length-rows_of wide row n t

  pub finds-alone : (r q : Result ℕ ℕ) → Finds src k n t r → Finds src k n t q → r ≡ q
  finds-alone (Ok i) (Ok j) h g =
      ap Ok (held-alone (key src) k (rows n t) (row []) s.ascends i j (omega (arith, size, h.0)) (omega (arith, size, g.0)) h.1 g.1)
  finds-alone (Ok i) (Err j) h g = not-held (key src) k (rows n t) (row []) j i (omega (arith, size, h.0)) h.1 g
  finds-alone (Err i) (Ok j) h g = not-held (key src) k (rows n t) (row []) i j (omega (arith, size, g.0)) g.1 h
  finds-alone (Err i) (Err j) h g = ap Err (place-alone (key src) k (rows n t) (row []) i j h g)

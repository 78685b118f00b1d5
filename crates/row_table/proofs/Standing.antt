-- Rows that stand behind free ones: what a row put in or taken out on either side makes of them.
use Prim.Native.Nat.{ℕ, ◌+◌, ◌-◌, ◌*◌, ◌≤◌, ◌<◌}
use mathlib.Core.Path.{◌≡◌, refl, sym, ap, ap₂, ◌∙◌}
use native.Mathlib.Omega.{arith}
use mathlib.Core.List.{List, ◌∷◌, ◌++◌, append_assoc}
use lib.ListN.{length, take, drop, set, take-append-drop}
use lib.Seq.{length-take-le, drop-append_seam, drop-append-le, drop-drop}
use Rattle.facts.specs.Rows.{insert_at, remove_at}
use Rattle.facts.proofs.Lists.{set_here, set_past, drop-take, drop-later}
use Rattle.facts.proofs.Rows.{length-rows_of, take-rows_of, drop-rows_of}
use Rattle.row_table.specs.declared.Cells.{Cells}
use Rattle.row_table.specs.Table.{wide, row, rows, Room, behind, Changed, Stood}

-- ---- lists

module _ {A : Type 0} where
  -- what lies behind a front of known length
  drop-front : (p q : List A) (n : ℕ) → length p ≡ n → drop n (p ++ q) ≡ q
  drop-front p q n e = rw (← e) (drop-append_seam p q)

  -- a place behind a front
  pub over : (l : List A) (base k : ℕ) (c : A) → base + k < length l → drop base (set l (base + k) c) ≡ set (drop base l) k c
  over l base k c h =
      let e : length (take base l) ≡ base = length-take-le base l (omega arith) in
      let s : set l (base + k) c ≡ take base l ++ set (drop base l) k c
      = ap (λ (x : List A). set x (base + k) c) (sym (take-append-drop base l)) ∙ set_past (take base l) (drop base l) base k c e in
      ap (drop base) s ∙ drop-front (take base l) (set (drop base l) k c) base e

  pub put_right : (l : List A) (base n k : ℕ) (c : A) → length l ≡ base + n → k ≤ n → drop base (insert_at (base + k) c l) ≡ insert_at k c (drop base l)
  unfolding insert_at
  put_right l base n k c e h =
      let m : base + k - base ≡ k = omega arith in
      let fits : base ≤ length (take (base + k) l) = omega (arith, length-take-le (base + k) l (omega arith)) in
      drop-append-le base (take (base + k) l) (c ∷ drop (base + k) l) fits
      ∙ rw (drop-take base (base + k) l, m, drop-drop k base l)

  pub out-right : (l : List A) (base n k : ℕ) → length l ≡ base + n → k < n → drop base (remove_at (base + k) l) ≡ remove_at k (drop base l)
  unfolding remove_at
  out-right l base n k e h =
      let m : base + k - base ≡ k = omega arith in
      let next : base + (k + 1) ≡ base + k + 1 = omega arith in
      let fits : base ≤ length (take (base + k) l) = omega (arith, length-take-le (base + k) l (omega arith)) in
      drop-append-le base (take (base + k) l) (drop (base + k + 1) l) fits
      ∙ rw (drop-take base (base + k) l, m, drop-drop (k + 1) base l, next)

  pub put-left : (l x : List A) (base b n k : ℕ) (c : A) → base ≡ b + 1 → length l ≡ base + n → length x ≡ base + n → k ≤ n
      → take (base + k - 1) x ≡ remove_at b (take (base + k) l) → drop (base + k) x ≡ drop (base + k) l
      → drop b (set x (base + k - 1) c) ≡ insert_at k c (drop base l)
  unfolding insert_at remove_at
  put-left l x base b n k c e el ex h front rest =
      let next : base + k - 1 + 1 ≡ base + k = omega arith in
      let m : base + k - base ≡ k = omega arith in
      let front_length : length (take b (take (base + k) l)) ≡ b =
      length-take-le b (take (base + k) l) (omega (arith, length-take-le (base + k) l (omega arith))) in
      let written : set x (base + k - 1) c ≡ (take b (take (base + k) l) ++ drop (b + 1) (take (base + k) l)) ++ c ∷ drop (base + k) l
      = set_here x (base + k - 1) c (omega arith) ∙ rw (next, front, rest) in
      ap (drop b) (written ∙ append_assoc (take b (take (base + k) l)) (drop (b + 1) (take (base + k) l)) (c ∷ drop (base + k) l))
      ∙ drop-front (take b (take (base + k) l)) (drop (b + 1) (take (base + k) l) ++ c ∷ drop (base + k) l) b front_length
      ∙ rw (← e, drop-take base (base + k) l, m, drop-drop k base l)

  pub out-left : (l x : List A) (base n k : ℕ) (c : A) → length l ≡ base + n → k < n
      → take (base + k + 1) x ≡ insert_at base c (take (base + k) l) → drop (base + k + 1) x ≡ drop (base + k + 1) l
      → drop (base + 1) x ≡ remove_at k (drop base l)
  unfolding insert_at remove_at
  out-left l x base n k c el h front rest =
      let m : base + k - base ≡ k = omega arith in
      let next : base + (k + 1) ≡ base + k + 1 = omega arith in
      let front_length : length (take base (take (base + k) l)) ≡ base =
      length-take-le base (take (base + k) l) (omega (arith, length-take-le (base + k) l (omega arith))) in
      let whole : x ≡ take base (take (base + k) l) ++ c ∷ (drop base (take (base + k) l) ++ drop (base + k + 1) l)
      = sym (take-append-drop (base + k + 1) x) ∙ ap₂ (λ (p q : List A). p ++ q) front rest
      ∙ append_assoc (take base (take (base + k) l)) (c ∷ drop base (take (base + k) l)) (drop (base + k + 1) l) in
      ap (drop (base + 1)) whole
      ∙ sym (drop-drop 1 base (take base (take (base + k) l) ++ c ∷ (drop base (take (base + k) l) ++ drop (base + k + 1) l)))
      ∙ ap (drop 1) (drop-front (take base (take (base + k) l)) (c ∷ (drop base (take (base + k) l) ++ drop (base + k + 1) l)) base front_length)
      ∙ rw (drop-take base (base + k) l, m, drop-drop (k + 1) base l, next)

-- ---- rows

-- the rows behind others, as a part of all
pub window : (base m : ℕ) (t : List ℕ) → rows m (behind base t) ≡ drop base (rows (base + m) t)
window base m t =
    let e : base + m - base ≡ m = omega arith in
    sym (rw e at (drop-rows_of wide row base (base + m) t (omega arith)))

pub stood-none : (base n limit : ℕ) (t : List ℕ) → base + n ≤ limit → Stood base n (rows n (behind base t)) limit t t
stood-none base n limit t h = record { rows = refl; within = h; rest = refl; length = refl }

-- the same rows, said otherwise
pub stood-as : {base m limit : ℕ} {rs ss : List Cells} {t u : List ℕ} → rs ≡ ss → Stood base m rs limit t u → Stood base m ss limit t u
stood-as e p = record { rows = p.rows ∙ e; within = p.within; rest = p.rest; length = p.length }

module _ (base n k limit : ℕ) (t t' : List ℕ) (fits : base + n ≤ limit) (room : Room limit t) where
  later : (j : ℕ) → j ≤ limit → behind j t' ≡ behind j t → behind limit t' ≡ behind limit t
  later j h e = drop-later (j * wide) (limit * wide) t' t (omega arith) e

  pub stood-over : (c : Cells) → k < n → Changed (base + n) (set (rows (base + n) t) (base + k) c) (base + n) t t'
      → Stood base n (set (rows n (behind base t)) k c) limit t t'
  stood-over c h p = record {
    rows = window base n t' ∙ ap (drop base) p.rows ∙ over (rows (base + n) t) base k c (omega (arith, length-rows_of wide row (base + n) t))
        ∙ ap (λ (l : List Cells). set l k c) (sym (window base n t));
    within = fits;
    rest = later (base + n) fits p.rest;
    length = p.length;
  }

  pub stood-put-right : (c : Cells) → k ≤ n → base + n < limit → Changed (base + n + 1) (insert_at (base + k) c (rows (base + n) t)) (base + n + 1) t t'
      → Stood base (n + 1) (insert_at k c (rows n (behind base t))) limit t t'
  stood-put-right c h l p =
      let m : base + (n + 1) ≡ base + n + 1 = omega arith in
      record {
        rows = window base (n + 1) t' ∙ ap (λ (j : ℕ). drop base (rows j t')) m ∙ ap (drop base) p.rows
            ∙ put_right (rows (base + n) t) base n k c (length-rows_of wide row (base + n) t) h ∙ ap (insert_at k c) (sym (window base n t));
        within = omega arith;
        rest = later (base + n + 1) (omega arith) p.rest;
        length = p.length;
      }

  pub stood-out-right : k < n → Changed (base + n - 1) (remove_at (base + k) (rows (base + n) t)) (base + n) t t'
      → Stood base (n - 1) (remove_at k (rows n (behind base t))) limit t t'
  stood-out-right h p =
      let m : base + (n - 1) ≡ base + n - 1 = omega arith in
      record {
        rows = window base (n - 1) t' ∙ ap (λ (j : ℕ). drop base (rows j t')) m ∙ ap (drop base) p.rows
            ∙ out-right (rows (base + n) t) base n k (length-rows_of wide row (base + n) t) h ∙ ap (remove_at k) (sym (window base n t));
        within = omega arith;
        rest = later (base + n) (omega arith) p.rest;
        length = p.length;
      }

  pub stood-out-left : (c : Cells) → k < n → Changed (base + k + 1) (insert_at base c (rows (base + k) t)) (base + k + 1) t t'
      → Stood (base + 1) (n - 1) (remove_at k (rows n (behind base t))) limit t t'
  stood-out-left c h p =
      let m : base + 1 + (n - 1) ≡ base + n = omega arith in
      let front : take (base + k + 1) (rows (base + n) t') ≡ insert_at base c (take (base + k) (rows (base + n) t))
      = take-rows_of wide row (base + k + 1) (base + n) t' (omega arith) ∙ p.rows
      ∙ ap (insert_at base c) (sym (take-rows_of wide row (base + k) (base + n) t (omega arith))) in
      let back : drop (base + k + 1) (rows (base + n) t') ≡ drop (base + k + 1) (rows (base + n) t)
      = drop-rows_of wide row (base + k + 1) (base + n) t' (omega arith) ∙ ap (rows (base + n - (base + k + 1))) p.rest
      ∙ sym (drop-rows_of wide row (base + k + 1) (base + n) t (omega arith)) in
      record {
        rows = window (base + 1) (n - 1) t' ∙ ap (λ (j : ℕ). drop (base + 1) (rows j t')) m
            ∙ out-left (rows (base + n) t) (rows (base + n) t') base n k c (length-rows_of wide row (base + n) t) h front back
            ∙ ap (remove_at k) (sym (window base n t));
        within = omega arith;
        rest = later (base + k + 1) (omega arith) p.rest;
        length = p.length;
      }

  pub stood-put-left : (b : ℕ) (c : Cells) (u : List ℕ) → base ≡ b + 1 → k ≤ n → Changed (base + k - 1) (remove_at b (rows (base + k) t)) (base + k) t u
      → Changed (base + n) (set (rows (base + n) u) (base + k - 1) c) (base + n) u t' → Stood b (n + 1) (insert_at k c (rows n (behind base t))) limit t t'
  stood-put-left b c u e h p q =
      let m : b + (n + 1) ≡ base + n = omega arith in
      let front : take (base + k - 1) (rows (base + n) u) ≡ remove_at b (take (base + k) (rows (base + n) t))
      = take-rows_of wide row (base + k - 1) (base + n) u (omega arith) ∙ p.rows
      ∙ ap (remove_at b) (sym (take-rows_of wide row (base + k) (base + n) t (omega arith))) in
      let back : drop (base + k) (rows (base + n) u) ≡ drop (base + k) (rows (base + n) t)
      = drop-rows_of wide row (base + k) (base + n) u (omega arith) ∙ ap (rows (base + n - (base + k))) p.rest
      ∙ sym (drop-rows_of wide row (base + k) (base + n) t (omega arith)) in
      record {
        rows = window b (n + 1) t' ∙ ap (λ (j : ℕ). drop b (rows j t')) m ∙ ap (drop b) q.rows
            ∙ put-left (rows (base + n) t) (rows (base + n) u) base b n k c e (length-rows_of wide row (base + n) t) (length-rows_of wide row (base + n) u) h
            front back
            ∙ ap (insert_at k c) (sym (window base n t));
        within = omega arith;
        rest = later (base + n) fits (q.rest ∙ drop-later ((base + k) * wide) ((base + n) * wide) u t (omega arith) p.rest);
        length = q.length ∙ p.length;
      }

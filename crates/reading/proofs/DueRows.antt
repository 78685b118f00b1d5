-- The rows of a listing in their room, and those of them that are due: the rules' rows, in the same order.
use mathlib.Core.Path.{◌≡◌, refl, sym, ap, ◌∙◌}
use mathlib.Core.Bool.{Bool, true, false}
use mathlib.Core.List.{List, [], ◌∷◌, ◌++◌, map, append_assoc}
use Prim.Native.Nat.{ℕ, ◌+◌, ◌-◌, ◌*◌, ◌≤◌}
use native.Mathlib.Omega.{arith}
use borrow.Author.Tests.{leb-true, leb-false}
use lib.Dec.{leb}
use lib.ListN.{length, drop, replicate, length-append, length-replicate, length-drop, length-map}
use lib.Seq.{drop-append_seam}
use Rattle.facts.specs.Kept.{kept}
use Rattle.facts.specs.Moves.{zeroed}
use Rattle.facts.specs.Rows.{flat}
use Rattle.facts.proofs.Lists.{drop-later}
use Rattle.facts.proofs.Rows.{length-rows_of, length-flat, rows_of-flat}
use Rattle.rules.specs.Bytes.{Bytes, ascii, keep_if}
use Rattle.rules.specs.Live.{Row}
use Rattle.rules.specs.Rooms.{Room, rows_room, filled, row_numbers, rows_numbers}
use Rattle.rules.specs.Refusals.{Answer, accepted, refused, room_too_short}
use Rattle.rules.specs.Reading.{the_latest, Told, told, room_after_reading, reading}
use Rattle.rules.specs.Reading.{Listing as RuleListing}
use Rattle.rules.specs.Due.{is_due, due_rows, due_listing, due}
use Rattle.rules.proofs.Due.{due-accepted, due-refused as rule-refused}
use Rattle.rules.proofs.Tests.{apart, by}
use Rattle.rules.proofs.Rooms.{zeroed-rows-filled, leaves-accepted}
use Rattle.row_table.specs.Table.{wide, cells, row, layout, rows}
use Rattle.row_table.specs.declared.Cells.{Cells}
use Rattle.refusals.specs.declared.Refusal.{Refusal}
use Rattle.query_picking.specs.Picked.{due_row, Dues}
use Rattle.reading.specs.Answers.{read_is, AnswerIs, ReadIs, DueIs}
use Rattle.reading.specs.declared.Listing.{Listing}
use Rattle.std.specs.Prelude.{Ok, Err}
use Rattle.reading.proofs.Rooms.{numbers}
use Rattle.reading.proofs.Rules.{reading-short}

-- ---- rows as they lie in the room

cells_of : Row → Cells
cells_of r = record {
  head = r.at;
  len = r.size;
  size = r.facts.size;
  time = r.facts.modification_time;
  skips = r.skip.count;
  retry = r.skip.retry_after;
}

numbers-flat : (rs : List Row) → rows_numbers rs ≡ flat cells (map cells_of rs)
unfolding rows_numbers row_numbers flat cells cells_of
numbers-flat [] = refl
numbers-flat (r ∷ rs) = ap (λ (xs : List ℕ). row_numbers r ++ xs) (numbers-flat rs)

rows-filled : (rs : List Row) (n : ℕ) (t : List ℕ) → length rs ≡ n → rows n (filled 6144 (rows_numbers rs) t) ≡ map cells_of rs
unfolding filled
rows-filled rs n t e =
    ap (λ (xs : List ℕ). rows n (xs ++ (replicate (6144 - length xs) 0 ++ drop 6144 t))) (numbers-flat rs)
    ∙ rows_of-flat layout (map cells_of rs) _ n (length-map rs cells_of ∙ e)

length-numbers : (rs : List Row) (n : ℕ) → length rs ≡ n → length (rows_numbers rs) ≡ n * wide
length-numbers rs n e = ap length (numbers-flat rs) ∙ length-flat layout (map cells_of rs) ∙ ap (λ (m : ℕ). m * wide) (length-map rs cells_of ∙ e)

due-kept : (time : ℕ) (rs : List Row) → kept (due_row time) (map cells_of rs) ≡ map cells_of (due_rows time rs)
unfolding kept due_rows keep_if cells_of
due-kept time [] = refl
due-kept time (r ∷ rs) = go (due-kept time rs) (is_due time r.skip) refl
  where
    go : kept (due_row time) (map cells_of rs) ≡ map cells_of (due_rows time rs) → (b : Bool) → is_due time r.skip ≡ b
        → kept (due_row time) (map cells_of (r ∷ rs)) ≡ map cells_of (due_rows time (r ∷ rs))
    go ih true e = rw (kept, due_rows, keep_if, e, ih)
    go ih false e = rw (kept, due_rows, keep_if, e, ih)

-- what lies beyond stays
filled-beyond : (rs : List Row) (n : ℕ) (t : List ℕ) → length rs ≡ n → n * wide ≤ 6144 → drop 6144 (filled 6144 (rows_numbers rs) t) ≡ drop 6144 t
unfolding filled
filled-beyond rs n t e h =
    let xs : List ℕ = rows_numbers rs in
    let front : List ℕ = xs ++ replicate (6144 - length xs) 0 in
    let l : length front ≡ 6144 =
    omega (arith, length-append xs (replicate (6144 - length xs) 0), length-replicate {A = ℕ} (6144 - length xs) 0, length-numbers rs n e) in
    ap (drop 6144) (sym (append_assoc xs (replicate (6144 - length xs) 0) (drop 6144 t)))
    ∙ ap (λ (k : ℕ). drop k (front ++ drop 6144 t)) (sym l)
    ∙ drop-append_seam front (drop 6144 t)

-- as many rows as are filled in fit, where the room kept its length
fills-few : (rs : List Row) (n : ℕ) (t : List ℕ) → length rs ≡ n → 6144 ≤ length t → length (filled 6144 (rows_numbers rs) t) ≡ length t → n * wide ≤ 6144
unfolding filled
fills-few rs n t e h l =
    let xs : List ℕ = rows_numbers rs in
    let k : length xs ≡ n * wide = length-numbers rs n e in
    let zeros : List ℕ = replicate (6144 - length xs) 0 in
    let a : length (filled 6144 xs t) ≡ length xs + (length zeros + length (drop 6144 t)) =
    length-append xs (zeros ++ drop 6144 t) ∙ ap (λ (m : ℕ). length xs + m) (length-append zeros (drop 6144 t)) in
    omega (arith, length-drop 6144 t)

-- ---- the answer

reading-long : (room : ℕ) (src q : Bytes) (l : RuleListing) → reading room src q the_latest ≡ accepted l → 6144 ≤ room
reading-long room src q l e =
    by (leb 6144 room) (leb-true 6144 room) (λ f.
    let g : accepted l ≡ refused room_too_short = sym e ∙ reading-short room src q the_latest (leb-false 6144 room f) in
    apart (cc))

-- what is told, by its count
count_in : Answer Told → ℕ
count_in (accepted t) = t.count
count_in (refused r) = 0

counted : Answer Told → ℕ → Answer Told
counted (accepted t) n = accepted (record { version = t.version; count = n; reader = t.reader; writer = t.writer; can_write = t.can_write })
counted (refused r) n = refused r

module _ (src : Bytes) (room t₁ : Room) (l : Listing) (a : ReadIs src (ascii "[]") the_latest room t₁ (Ok l)) where
  -- it was listed
  record All : Type 0 where
    files : RuleListing
    says : reading (length room) src (ascii "[]") the_latest ≡ accepted files
    long : 6144 ≤ length room
    count : length files.rows ≡ l.rows
    told : read_is (Ok l) ≡ told (accepted files)
    holds : t₁ ≡ filled 6144 (rows_numbers files.rows) room

  all : All
  unfolding read_is told count_in room_after_reading rows_room numbers
  all = go (reading (length room) src (ascii "[]") the_latest) refl a
    where
      go : (o : Answer RuleListing) → reading (length room) src (ascii "[]") the_latest ≡ o → AnswerIs o room t₁ (Ok l) → All
      go (accepted x) e b = record {
        files = x;
        says = e;
        long = reading-long (length room) src (ascii "[]") x e;
        count = sym (ap count_in b.answer);
        told = b.answer;
        holds = b.holds ∙ leaves-accepted 6144 numbers room x;
      }
      go (refused r) e b = let f = b.answer in apart (cc)

  module _ (same : length t₁ ≡ length room) where
    -- as many rows fit
    pub due-room : l.rows * wide ≤ length t₁
    due-room =
        let few : l.rows * wide ≤ 6144 =
        fills-few all.files.rows l.rows room all.count all.long (sym (ap length all.holds) ∙ same) in
        omega (arith, all.long)

    module _ (time m : ℕ) (t₂ : Room) (p : Dues time l.rows t₁ m t₂) where
      due-few : m * wide ≤ 6144
      due-few =
          let few : l.rows * wide ≤ 6144 =
          fills-few all.files.rows l.rows room all.count all.long (sym (ap length all.holds) ∙ same) in
          omega (arith, p.few)

      pub due-zeros : (m * wide ≤ 6144) × (6144 ≤ length t₂)
      due-zeros = (due-few, omega (arith, all.long, p.length))

      due-rows : rows m t₂ ≡ map cells_of (due_rows time all.files.rows)
      due-rows =
          p.holds
          ∙ ap (λ (t : List ℕ). kept (due_row time) (rows l.rows t)) all.holds
          ∙ ap (kept (due_row time)) (rows-filled all.files.rows l.rows room all.count)
          ∙ due-kept time all.files.rows

      due-count : length (due_rows time all.files.rows) ≡ m
      due-count = sym (length-map (due_rows time all.files.rows) cells_of) ∙ ap length (sym due-rows) ∙ length-rows_of wide row m t₂

      beyond : drop 6144 t₂ ≡ drop 6144 room
      unfolding filled
      beyond =
          let few : l.rows * wide ≤ 6144 =
          fills-few all.files.rows l.rows room all.count all.long (sym (ap length all.holds) ∙ same) in
          drop-later (l.rows * wide) 6144 t₂ t₁ few p.rest ∙ ap (drop 6144) all.holds ∙ filled-beyond all.files.rows l.rows room all.count few

      pub answer-due : (after : Room) → after ≡ zeroed (m * wide) 6144 t₂
          → DueIs src time room after (Ok (record { version = l.version; rows = m; reader = l.reader; writer = l.writer; writable = l.writable }))
      unfolding due_listing read_is told counted room_after_reading rows_room numbers
      answer-due after z =
          let x = all.files in
          let k : due (length room) src the_latest time ≡ accepted (due_listing time x) = due-accepted (length room) src the_latest time all.says in
          record {
            answer = says ∙ sym (ap told k);
            holds =
                z
                ∙ zeroed-rows-filled layout m 6144 (map cells_of (due_rows time x.rows)) t₂ room due-few due-zeros.1 due-rows beyond
                ∙ ap (λ (xs : List ℕ). filled 6144 xs room) (sym (numbers-flat (due_rows time x.rows)))
                ∙ sym (ap (λ (a : Answer RuleListing). room_after_reading a room) k ∙ leaves-accepted 6144 numbers room (due_listing time x));
          }
        where
          says : read_is (Ok (record { version = l.version; rows = m; reader = l.reader; writer = l.writer; writable = l.writable }))
              ≡ told (accepted (due_listing time all.files))
          says = ap (λ (n : Answer Told). counted n m) all.told ∙ ap (λ (n : ℕ). counted (told (accepted all.files)) n) (sym due-count)

-- ---- a refusal

pub due-refused : (src : Bytes) (time : ℕ) (room t₁ : Room) (x : Refusal) → ReadIs src (ascii "[]") the_latest room t₁ (Err x)
    → DueIs src time room t₁ (Err x)
unfolding read_is told room_after_reading
due-refused src time room t₁ x a = go (reading (length room) src (ascii "[]") the_latest) refl a
  where
    go : (o : Answer RuleListing) → reading (length room) src (ascii "[]") the_latest ≡ o → AnswerIs o room t₁ (Err x) → DueIs src time room t₁ (Err x)
    go (accepted y) e b = let f = b.answer in apart (cc)
    go (refused r) e b =
        let k : due (length room) src the_latest time ≡ refused r = rule-refused (length room) src the_latest time e in
        record { answer = b.answer ∙ sym (ap told k); holds = b.holds ∙ sym (ap (λ (a : Answer RuleListing). room_after_reading a room) k) }

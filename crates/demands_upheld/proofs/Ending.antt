-- Demand 1, of the entries.
use mathlib.Core.Path.{◌≡◌, refl, sym, ◌∙◌, ap, subst}
use mathlib.Core.List.{List, []}
use Prim.Native.Nat.{ℕ, ◌*◌}
use lib.ListN.{length, take}
use Rattle.rules.specs.Bytes.{Bytes}
use Rattle.rules.specs.Rooms.{Room, rows_room, kept_room, names_room, leaves, row_width, rows_numbers, counted}
use Rattle.rules.specs.Reading.{Asked, the_latest, Listing, Told, reading, room_after_reading}
use Rattle.rules.specs.Due.{due}
use Rattle.rules.specs.Keeping.{keeping, room_after_keeping}
use Rattle.rules.specs.Cleaning.{cleaning, names_after_cleaning}
use Rattle.rules.specs.Refusals.{Refusal, Answer, accepted, refused}
use Rattle.rules.proofs.Rooms.{leaves-front}
use Rattle.rules.proofs.Telling.{told-refused, told-accepted, told-count, counted-refused, counted-accepted}
use Rattle.demands.specs.Ending.{Ends, RoomEnds}
use Rattle.demands.proofs.Ending.{reading-ends, keeping-ends, cleaning-ends, ends-told, ends-counted}
use Rattle.demands.proofs.LentRooms.{room-told, length-rows_numbers, reading-room-ends, due-room-ends, keeping-room-ends, cleaning-rooms-end}
use Rattle.demands.proofs.Due.{due-ends}
use Rattle.reading.specs.Answers.{read_is, AnswerIs, ReadIs, DueIs}
use Rattle.std.specs.Prelude.{Result}
use Rattle.cleaning.specs.Answers.{cleaned_is, lent, CleanIs}
use Rattle.manifests.specs.Rooms.{kept_is, KeepIs}
use Rattle.demands_upheld.specs.Upheld.{rows_told, ReadingEnds, DueEnds, CleaningEnds, KeepingEnds, Demand1}
use Rattle.reading.specs.declared.Listing.{Listing as CodeListing}
use Rattle.refusals.specs.declared.Refusal.{Refusal as CodeRefusal}

-- ---- reading, and the files due for a second merge

abbrev numbers : Listing → List ℕ
numbers l = rows_numbers l.rows

-- `ruled` is what the rules answer
module _ (ruled : Answer Listing) (room after : Room) (r : Result CodeListing CodeRefusal) (c : AnswerIs ruled room after r) where
  listed-front : (t : Told) → read_is r ≡ accepted t → (l : Listing) × (ruled ≡ accepted l) × (numbers l ≡ rows_told after t)
  unfolding room_after_reading row_width
  listed-front t h =
      let l = told-accepted ruled t (sym c.answer ∙ h) in
      let n : length (numbers l.0) ≡ t.count * row_width =
      length-rows_numbers l.0.rows ∙ ap (λ (k : ℕ). k * row_width) (told-count l.0 t l.2) in
      let e = c.holds ∙ ap (λ (a : Answer Listing). room_after_reading a room) l.1 in
      (l.0, l.1, leaves-front rows_room numbers room l.0 after (t.count * row_width) e n)

  listed-room : RoomEnds rows_room numbers ruled room (room_after_reading ruled room) → RoomEnds rows_room (rows_told after) (read_is r) room after
  listed-room h =
      room-told rows_room numbers (rows_told after) ruled (read_is r) room after
      (λ x e. told-refused ruled x (sym c.answer ∙ e)) listed-front
      (subst (RoomEnds rows_room numbers ruled room) (sym c.holds) h)

reading-upheld : (s q : Bytes) (asked : Asked) (room after : Room) (r : Result CodeListing CodeRefusal) → ReadIs s q asked room after r
    → ReadingEnds room after r
reading-upheld s q asked room after r c = record {
  ends = subst (Ends _) (sym c.answer) (ends-told (reading-ends (length room) s q asked));
  table = listed-room (reading (length room) s q asked) room after r c (reading-room-ends room s q asked);
}

due-upheld : (s : Bytes) (time : ℕ) (room after : Room) (r : Result CodeListing CodeRefusal) → DueIs s time room after r → DueEnds room after r
due-upheld s time room after r c = record {
  ends = subst (Ends _) (sym c.answer) (ends-told (due-ends (length room) s time));
  table = listed-room (due (length room) s the_latest time) room after r c (due-room-ends room s the_latest time);
}

-- ---- numbers in a room: of files named, of manifests kept

abbrev all : List ℕ → List ℕ
all ns = ns

module _ (size : ℕ) (ruled : Answer (List ℕ)) (said : Answer ℕ) (answer : said ≡ counted ruled) (before after : Room) where
  refused-too : (x : Refusal) → said ≡ refused x → ruled ≡ refused x
  refused-too x h = counted-refused ruled x (sym answer ∙ h)

  pub counted-front : after ≡ leaves size all ruled before → (n : ℕ) → said ≡ accepted n
      → (ns : List ℕ) × (ruled ≡ accepted ns) × (ns ≡ take n after) × (length ns ≡ n)
  counted-front holds n h =
      let k = counted-accepted ruled n (sym answer ∙ h) in
      let e = holds ∙ ap (λ (a : Answer (List ℕ)). leaves size all a before) k.1 in
      (k.0, k.1, leaves-front size all before k.0 after n e k.2, k.2)

  counted-room : {back : Room} → back ≡ leaves size all ruled before → after ≡ back
      → RoomEnds size all ruled before back → RoomEnds size (λ (n : ℕ). take n after) said before after
  counted-room b e h =
      room-told size all (λ (n : ℕ). take n after) ruled said before after refused-too
      (λ n h. let f = counted-front (e ∙ b) n h in (f.0, f.1, f.2)) (subst (RoomEnds size all ruled before) (sym e) h)

  -- a table that holds zeros whatever is named
  counted-table : {back : Room} → after ≡ back → RoomEnds size (λ (ns : List ℕ). []) ruled before back → RoomEnds size (λ (n : ℕ). []) said before after
  counted-table e h =
      room-told size (λ (ns : List ℕ). []) (λ (n : ℕ). []) ruled said before after refused-too
      (λ n h. let k = counted-accepted ruled n (sym answer ∙ h) in (k.0, k.1, refl)) (subst (RoomEnds size (λ (ns : List ℕ). []) ruled before) (sym e) h)

cleaning-upheld : (s : Bytes) (now retention : ℕ) (room room' one one' two two' : Room) (r : Result ℕ CodeRefusal)
    → CleanIs s now retention room room' one one' two two' r → CleaningEnds room room' one one' two two' r
unfolding names_after_cleaning
cleaning-upheld s now retention room room' one one' two two' r c =
    let ruled = cleaning (lent room one two) s now retention in
    let ends = cleaning-rooms-end room one two s now retention in
    record {
      ends = subst (Ends _) (sym c.answer) (ends-counted (cleaning-ends (lent room one two) s now retention));
      names = counted-room names_room ruled (cleaned_is r) c.answer room room' refl c.names ends.of-names;
      first = counted-table rows_room ruled (cleaned_is r) c.answer one one' c.first ends.first-table;
      second = counted-table rows_room ruled (cleaned_is r) c.answer two two' c.second ends.second-table;
    }

keeping-upheld : (state q : Bytes) (room after : Room) (r : Result ℕ CodeRefusal) → KeepIs state q room after r → KeepingEnds room after r
unfolding room_after_keeping
keeping-upheld state q room after r c =
    let ruled = keeping (length room) state q in
    record {
      ends = subst (Ends _) (sym c.answer) (ends-counted (keeping-ends (length room) state q));
      numbers = counted-room kept_room ruled (kept_is r) c.answer room after refl c.holds (keeping-room-ends room state q);
    }

pub demand-1 : Demand1
demand-1 = record { reading = reading-upheld; due = due-upheld; cleaning = cleaning-upheld; keeping = keeping-upheld }

-- What is answered for a bundle, times and rooms, by what was ruled; and what the rooms hold in the end.
use mathlib.Core.Path.{◌≡◌, refl, sym, ap, ◌∙◌}
use mathlib.Core.Bool.{false, ◌&&◌}
use mathlib.Core.List.{List, []}
use Prim.Native.Nat.{ℕ, ◌≤◌, ◌<◌}
use native.Mathlib.Omega.{arith}
use lib.Dec.{leb}
use lib.ListN.{length, drop}
use borrow.Author.Tests.{le-leb, lt-leb}
use Rattle.facts.specs.Moves.{zeroed}
use Rattle.rules.specs.Bytes.{Bytes}
use Rattle.rules.specs.Live.{most_live}
use Rattle.rules.specs.Rooms.{Room, rows_room, names_room, counted}
use Rattle.rules.specs.Cleaning.{Lent, enough, cleaning, names_after_cleaning, table_after_cleaning}
use Rattle.rules.specs.Refusals.{Answer, accepted, refused, room_too_short}
use Rattle.rules.proofs.Tests.{and-fails-left, and-fails-right}
use Rattle.rules.proofs.Answers.{number_of}
use Rattle.rules.proofs.Rooms.{zeroed-filled, zeroed-none-filled, leaves-accepted, leaves-untouched, leaves-zeros}
use Rattle.refusals.specs.Numbered.{numbered}
use Rattle.refusals.specs.declared.Refusal.{Refusal as CodeRefusal}
use Rattle.refusals.specs.declared.Refusal.TheVariants.{RoomTooShort}
use Rattle.log_replay.specs.Answers.{Left}
use Rattle.cleaning.specs.Naming.{Naming}
use Rattle.cleaning.specs.Ruled.{ruled}
use Rattle.cleaning.specs.Answers.{cleaned_is, lent, CleanIs}
use Rattle.std.specs.Prelude.{Ok, Err}

-- ---- the rooms that are lent

cleaning-short : (l : Lent) (src : Bytes) (today retention : ℕ) → enough l ≡ false → cleaning l src today retention ≡ refused room_too_short
unfolding cleaning
cleaning-short l src today retention e = rw e

module _ (room one two : Room) where
  short-names : length room < 1024 → enough (lent room one two) ≡ false
  unfolding enough names_room rows_room
  short-names h = and-fails-left (leb 6144 (length one) && leb 6144 (length two)) (lt-leb 1024 (length room) h)

  short-one : length one < 6144 → enough (lent room one two) ≡ false
  unfolding enough names_room rows_room
  short-one h = and-fails-right (leb 1024 (length room)) (and-fails-left (leb 6144 (length two)) (lt-leb 6144 (length one) h))

  short-two : length two < 6144 → enough (lent room one two) ≡ false
  unfolding enough names_room rows_room
  short-two h = and-fails-right (leb 1024 (length room)) (and-fails-right (leb 6144 (length one)) (lt-leb 6144 (length two) h))

  cleaning-long : 1024 ≤ length room → 6144 ≤ length one → 6144 ≤ length two → (src : Bytes) (today retention : ℕ)
      → cleaning (lent room one two) src today retention ≡ ruled src today retention
  unfolding cleaning ruled enough names_room rows_room
  cleaning-long h k l src today retention = rw (le-leb 1024 (length room) h, le-leb 6144 (length one) k, le-leb 6144 (length two) l)

-- ---- a table, which holds anything in its first 6,144 numbers, after zeros are written over them

left-drop : {t t' : Room} → Left most_live t t' → drop 6144 t' ≡ drop 6144 t
unfolding most_live
left-drop w = w.rest

table-zeros : (o : Answer (List ℕ)) (t t' : Room) → (number_of o ≡ 1 → ⊥) → 6144 ≤ length t → Left most_live t t' → zeroed 0 6144 t' ≡ table_after_cleaning o t
unfolding table_after_cleaning number_of rows_room
table-zeros (accepted es) t t' n l w = zeroed-none-filled 6144 t' t (omega (arith, w.length)) (left-drop w) ∙ sym (leaves-accepted 6144 (λ es. []) t es)
table-zeros (refused x) t t' n l w = zeroed-none-filled 6144 t' t (omega (arith, w.length)) (left-drop w) ∙ sym (leaves-zeros 6144 (λ es. []) t x n)

-- ---- the answer

module _ (src : Bytes) (today retention : ℕ) (room one two : Room) where
  untouched : enough (lent room one two) ≡ false → CleanIs src today retention room room one one two two (Err RoomTooShort)
  unfolding cleaned_is counted numbered names_after_cleaning table_after_cleaning
  untouched e =
      let k = cleaning-short (lent room one two) src today retention e in
      record {
        answer = sym (ap counted k);
        names = sym (ap (λ (a : Answer (List ℕ)). names_after_cleaning a room) k ∙ leaves-untouched names_room (λ es. es) room room_too_short refl);
        first = sym (ap (λ (a : Answer (List ℕ)). table_after_cleaning a one) k ∙ leaves-untouched rows_room (λ es. []) one room_too_short refl);
        second = sym (ap (λ (a : Answer (List ℕ)). table_after_cleaning a two) k ∙ leaves-untouched rows_room (λ es. []) two room_too_short refl);
      }

  pub clean-names-short : length room < 1024 → CleanIs src today retention room room one one two two (Err RoomTooShort)
  clean-names-short h = untouched (short-names room one two h)

  pub clean-one-short : length one < 6144 → CleanIs src today retention room room one one two two (Err RoomTooShort)
  clean-one-short h = untouched (short-one room one two h)

  pub clean-two-short : length two < 6144 → CleanIs src today retention room room one one two two (Err RoomTooShort)
  clean-two-short h = untouched (short-two room one two h)

  module _
      (h : 1024 ≤ length room)
      (k : 6144 ≤ length one)
      (l : 6144 ≤ length two)
      (one₁ two₁ : Room)
      (v : Left most_live one one₁)
      (w : Left most_live two two₁)
      (one' two' : Room)
      (a : one' ≡ zeroed 0 6144 one₁) (b : two' ≡ zeroed 0 6144 two₁) (room' : Room) where
    long : cleaning (lent room one two) src today retention ≡ ruled src today retention
    long = cleaning-long room one two h k l src today retention

    tables : {o : Answer (List ℕ)} → cleaning (lent room one two) src today retention ≡ o → (number_of o ≡ 1 → ⊥)
        → (one' ≡ table_after_cleaning (cleaning (lent room one two) src today retention) one)
        × (two' ≡ table_after_cleaning (cleaning (lent room one two) src today retention) two)
    tables {o} e n = (
      a ∙ table-zeros o one one₁ n k v ∙ sym (ap (λ (x : Answer (List ℕ)). table_after_cleaning x one) e),
      b ∙ table-zeros o two two₁ n l w ∙ sym (ap (λ (x : Answer (List ℕ)). table_after_cleaning x two) e),
    )

    pub clean-named : (es : List ℕ) → ruled src today retention ≡ accepted es → (between : Room) (n : ℕ) → Naming es room between n
        → room' ≡ zeroed n 1024 between
        → CleanIs src today retention room room' one one' two two' (Ok n)
    unfolding cleaned_is counted names_after_cleaning names_room number_of
    clean-named es e between n g z =
        let q = long ∙ e in
        let t = tables q (λ i. omega arith) in
        record {
          answer = ap accepted (sym g.count) ∙ sym (ap counted q);
          names = z ∙ zeroed-filled n 1024 es between room g.count g.few (omega (arith, g.same)) g.front g.beyond
              ∙ sym (ap (λ (x : Answer (List ℕ)). names_after_cleaning x room) q ∙ leaves-accepted 1024 (λ es. es) room es);
          first = t.0;
          second = t.1;
        }

    pub clean-nothing : ruled src today retention ≡ accepted [] → room' ≡ zeroed 0 1024 room
        → CleanIs src today retention room room' one one' two two' (Ok 0)
    clean-nothing e z = clean-named [] e room 0 (record { count = refl; few = omega arith; front = refl; beyond = refl; same = refl }) z

    pub clean-refused : (x : CodeRefusal) → ruled src today retention ≡ refused (numbered x) → ((numbered x).number ≡ 1 → ⊥) → room' ≡ zeroed 0 1024 room
        → CleanIs src today retention room room' one one' two two' (Err x)
    unfolding cleaned_is counted names_after_cleaning names_room number_of
    clean-refused x e n z =
        let q = long ∙ e in
        let t = tables q n in
        let w = z ∙ zeroed-none-filled 1024 room room h refl in
        record {
          answer = sym (ap counted q);
          names = w ∙ sym (ap (λ (y : Answer (List ℕ)). names_after_cleaning y room) q ∙ leaves-zeros 1024 (λ es. es) room (numbered x) n);
          first = t.0;
          second = t.1;
        }

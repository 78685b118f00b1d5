-- The wrong programs that list the due files are told from right ones by one small bundle, by computation.
use mathlib.Core.Path.{◌≡◌, refl, sym, ◌∙◌, ap}
use Rattle.std.specs.Prelude.{Option, None, Some}
use Prim.Native.Nat.{ℕ, ◌<◌}
use native.Mathlib.Omega.{arith}
use lib.ListN.{get_or}
use Rattle.rules.specs.Bytes.{ascii}
use Rattle.rules.specs.Rooms.{Room, rows_room, row_width}
use Rattle.rules.specs.Reading.{the_latest, Told, told, reading, room_after_reading}
use Rattle.rules.specs.Due.{due}
use Rattle.rules.specs.Refusals.{Answer, accepted, refused}
use Rattle.rules.proofs.Opened.{rules}
use Rattle.rules.proofs.Tests.{apart}
use Rattle.demands.specs.WrongPrograms.{sevens}
use Rattle.demands.specs.WrongListings.{Lister, KeepsPromise, RefusesEverything, ListsNone, ListsAll, HeedsNoTime, InTheOrderOfLines, TurnsTheTwo}
use Rattle.demands.specs.WrongListings.{NoListerKeepsThePromise, two_waiting}
use Rattle.demands.proofs.WrongPrograms.{count_in, length-sevens}

-- ---- computed

-- what the room holds at 5, when both may be tried again
room_at_five : Room
room_at_five = room_after_reading (due rows_room two_waiting the_latest 5) sevens

two-at-5 : count_in (told (due rows_room two_waiting the_latest 5)) ≡ Some 2
unfolding rules count_in told two_waiting
two-at-5 = refl

none-at-4 : count_in (told (due rows_room two_waiting the_latest 4)) ≡ Some 0
unfolding rules count_in told two_waiting
none-at-4 = refl

three-live : count_in (told (reading rows_room two_waiting (ascii "[]") the_latest)) ≡ Some 3
unfolding rules count_in told two_waiting
three-live = refl

-- the line of a stands behind that of c; a was skipped 3 times, until 5
behind : get_or room_at_five row_width 0 < get_or room_at_five 0 0
unfolding rules room_at_five two_waiting sevens
behind = omega arith

skips : get_or room_at_five 4 0 ≡ 3
unfolding rules room_at_five two_waiting sevens
skips = refl

retries : get_or room_at_five 5 0 ≡ 5
unfolding rules room_at_five two_waiting sevens
retries = refl

-- ---- none of the wrong ones keeps the promise

module _ (p : Lister) (k : KeepsPromise p) where
  answers-as : (time : ℕ) → p.answer sevens two_waiting time ≡ told (due rows_room two_waiting the_latest time)
  answers-as time = k.answers sevens two_waiting time ∙ ap (λ (n : ℕ). told (due n two_waiting the_latest time)) length-sevens

  leaves-as : p.leaves sevens two_waiting 5 ≡ room_at_five
  unfolding room_at_five
  leaves-as = k.table sevens two_waiting 5 ∙ ap (λ (n : ℕ). room_after_reading (due n two_waiting the_latest 5) sevens) length-sevens

  -- at 5 it accepts, and tells of two
  accepts : (t : Told) × (p.answer sevens two_waiting 5 ≡ accepted t) × (t.count ≡ 2)
  unfolding count_in
  accepts = go (p.answer sevens two_waiting 5) refl (ap count_in (answers-as 5) ∙ two-at-5)
    where
      go : (a : Answer Told) → p.answer sevens two_waiting 5 ≡ a → count_in a ≡ Some 2
          → (t : Told) × (p.answer sevens two_waiting 5 ≡ accepted t) × (t.count ≡ 2)
      go (accepted t) q h = (t, q, cc)
      go (refused r) q h = apart (cc)

  not-refusing : RefusesEverything p → ⊥
  unfolding count_in
  not-refusing h =
      let e : ◌≡◌ {A = Option ℕ} None (Some 2) = sym (ap count_in (h sevens two_waiting 5).1) ∙ ap count_in (answers-as 5) ∙ two-at-5 in
      apart (cc)

  not_none : ListsNone p → ⊥
  not_none h =
      let a = accepts in
      let e : ◌≡◌ {A = ℕ} 2 0 = sym a.2 ∙ h sevens two_waiting 5 a.0 a.1 in
      omega arith

  not-all : ListsAll p → ⊥
  not-all h =
      let e : ◌≡◌ {A = Option ℕ} (Some 2) (Some 3) =
      sym two-at-5
      ∙ sym (ap count_in (answers-as 5))
      ∙ ap count_in (h sevens two_waiting 5 ∙ ap (λ (n : ℕ). told (reading n two_waiting (ascii "[]") the_latest)) length-sevens)
      ∙ three-live in
      apart (cc)

  not-timeless : HeedsNoTime p → ⊥
  not-timeless h =
      let e : ◌≡◌ {A = Option ℕ} (Some 2) (Some 0) =
      sym two-at-5 ∙ sym (ap count_in (answers-as 5)) ∙ ap count_in (h sevens two_waiting 5 4 ∙ answers-as 4) ∙ none-at-4 in
      apart (cc)

  not-by-lines : InTheOrderOfLines p → ⊥
  not-by-lines h =
      let a = accepts in
      let l : get_or (p.leaves sevens two_waiting 5) 0 0 < get_or (p.leaves sevens two_waiting 5) row_width 0 = h sevens two_waiting 5 a.0 a.1 a.2 in
      let m : get_or room_at_five 0 0 < get_or room_at_five row_width 0 = rw leaves-as at l in
      omega (arith, m, behind)

  not-turned : TurnsTheTwo p → ⊥
  unfolding room_at_five
  not-turned h =
      let a = accepts in
      let e : ◌≡◌ {A = ℕ} 3 5 =
      sym skips
      ∙ sym (ap (λ (r : Room). get_or r 4 0) leaves-as)
      ∙ h sevens two_waiting 5 a.0 a.1
      ∙ ap (λ (n : ℕ). get_or (room_after_reading (due n two_waiting the_latest 5) sevens) 5 0) length-sevens
      ∙ retries in
      omega arith

pub no-lister-keeps-the-promise : NoListerKeepsThePromise
no-lister-keeps-the-promise p k = record {
  refuses = not-refusing p k;
  lists-none = not_none p k;
  lists-all = not-all p k;
  heeds-no-time = not-timeless p k;
  in-line-order = not-by-lines p k;
  turned = not-turned p k;
}

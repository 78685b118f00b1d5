-- The wrong programs are told from right ones by three small bundles, by computation.
use mathlib.Core.Path.{◌≡◌, refl, sym, ◌∙◌, ap, subst}
use Rattle.std.specs.Prelude.{Option, None, Some}
use mathlib.Core.List.{List, []}
use Prim.Native.Nat.{ℕ}
use native.Mathlib.Omega.{arith}
use lib.ListN.{length, get_or, length-replicate}
use Rattle.rules.specs.Bytes.{Bytes, ascii}
use Rattle.rules.specs.Bundle.{File, bundle}
use Rattle.rules.specs.Starts.{log_of, start_at}
use Rattle.rules.specs.Rooms.{Room, rows_room}
use Rattle.rules.specs.Reading.{Asked, the_latest, the_version, Told, told, reading, room_after_reading}
use Rattle.rules.specs.Refusals.{Answer, accepted, refused, not_kept}
use Rattle.rules.proofs.Opened.{rules}
use Rattle.rules.proofs.Tests.{apart}
use Rattle.rules.proofs.Json.Suffix.{some_same}
use Rattle.demands.specs.WrongPrograms.{Reader, KeepsPromise, RefusesEverything, SameTableForAll, WritesNothing}
use Rattle.demands.specs.WrongPrograms.{NoCheckpoint, AppliesTheFirstOnly, Accepts, InventsTheCount, SameCountForAll}
use Rattle.demands.specs.WrongPrograms.{NoneKeepsThePromise, removed_and_added, added_and_removed, removed_later, sevens}

-- ---- what is looked at

unfoldable pub count_in : Answer Told → Option ℕ
count_in (accepted t) = Some t.count
count_in (refused r) = None

-- the third number of a room: the size of the first row's file
size_in : Room → ℕ
size_in room = get_or room 2 0

all : Bytes
all = ascii "[]"

-- ---- computed

count-live : count_in (told (reading rows_room removed_and_added all the_latest)) ≡ Some 1
unfolding rules all count_in told removed_and_added
count-live = refl

count_none : count_in (told (reading rows_room added_and_removed all the_latest)) ≡ Some 0
unfolding rules all count_in told added_and_removed
count_none = refl

size-live : size_in (room_after_reading (reading rows_room removed_and_added all the_latest) sevens) ≡ 1
unfolding rules all size_in removed_and_added sevens
size-live = refl

size_none : size_in (room_after_reading (reading rows_room added_and_removed all the_latest) sevens) ≡ 0
unfolding rules all size_in added_and_removed sevens
size_none = refl

count-at-1 : count_in (told (reading rows_room removed_later all (the_version 1))) ≡ Some 1
unfolding rules all count_in told removed_later
count-at-1 = refl

count-at-2 : count_in (told (reading rows_room removed_later all (the_version 2))) ≡ Some 0
unfolding rules all count_in told removed_later
count-at-2 = refl

size-at-1 : size_in (room_after_reading (reading rows_room removed_later all (the_version 1)) sevens) ≡ 1
unfolding rules all size_in removed_later sevens
size-at-1 = refl

size-at-2 : size_in (room_after_reading (reading rows_room removed_later all (the_version 2)) sevens) ≡ 0
unfolding rules all size_in removed_later sevens
size-at-2 = refl

files_of : Option (List File) → List File
files_of None = []
files_of (Some fs) = fs

later-no-checkpoint : NoCheckpoint removed_later
unfolding rules removed_later files_of
later-no-checkpoint fs e c = subst (λ (x : List File). start_at (log_of x) c ≡ None) (ap files_of e) computed
  where
    computed : start_at (log_of (files_of (bundle removed_later))) c ≡ None
    computed = refl

size-sevens : size_in sevens ≡ 7
unfolding rules size_in sevens
size-sevens = refl

-- ---- a program that keeps the promise, in that room

pub length-sevens : length sevens ≡ rows_room
unfolding sevens
length-sevens = length-replicate rows_room 7

module _ (p : Reader) (k : KeepsPromise p) (s : Bytes) (asked : Asked) where
  answers-as : p.answer sevens s all asked ≡ told (reading rows_room s all asked)
  answers-as = k.answers sevens s all asked ∙ ap (λ (n : ℕ). told (reading n s all asked)) length-sevens

  leaves-as : p.leaves sevens s all asked ≡ room_after_reading (reading rows_room s all asked) sevens
  leaves-as = k.table sevens s all asked ∙ ap (λ (n : ℕ). room_after_reading (reading n s all asked) sevens) length-sevens

-- ---- none of the wrong ones does

module _ (p : Reader) (k : KeepsPromise p) where
  not-refusing : RefusesEverything p → ⊥
  unfolding count_in
  not-refusing h =
      let r = h sevens removed_and_added all the_latest in
      let e : ◌≡◌ {A = Option ℕ} None (Some 1) = sym (ap count_in r.1) ∙ ap count_in (answers-as p k removed_and_added the_latest) ∙ count-live in
      apart (cc)

  accepts : (s : Bytes) (asked : Asked) (n : ℕ) → count_in (told (reading rows_room s all asked)) ≡ Some n
      → (t : Told) × (p.answer sevens s all asked ≡ accepted t) × (t.count ≡ n)
  unfolding count_in
  accepts s asked n e = go (p.answer sevens s all asked) refl (ap count_in (answers-as p k s asked) ∙ e)
    where
      go : (a : Answer Told) → p.answer sevens s all asked ≡ a → count_in a ≡ Some n → (t : Told) × (p.answer sevens s all asked ≡ accepted t) × (t.count ≡ n)
      go (accepted t) q h = (t, q, cc)
      go (refused r) q h = apart (cc)

  is-accepted : (s : Bytes) (asked : Asked) (n : ℕ) → count_in (told (reading rows_room s all asked)) ≡ Some n → Accepts p sevens s all asked
  is-accepted s asked n e = let a = accepts s asked n e in (a.0, a.1)

  not-same-table : SameTableForAll p → ⊥
  not-same-table h =
      let e : ◌≡◌ {A = ℕ} 1 0 =
      sym size-live ∙ sym (ap size_in (leaves-as p k removed_and_added the_latest))
      ∙ ap size_in
      (h sevens removed_and_added added_and_removed all the_latest (is-accepted removed_and_added the_latest 1 count-live)
      (is-accepted added_and_removed the_latest 0 count_none))
      ∙ ap size_in (leaves-as p k added_and_removed the_latest) ∙ size_none in
      omega arith

  not-silent : WritesNothing p → ⊥
  not-silent h =
      let e : ◌≡◌ {A = ℕ} 7 0 = sym size-sevens
      ∙ sym (ap size_in (h sevens added_and_removed all the_latest (is-accepted added_and_removed the_latest 0 count_none)))
      ∙ ap size_in (leaves-as p k added_and_removed the_latest) ∙ size_none in
      omega arith

  not-first-only : AppliesTheFirstOnly p → ⊥
  not-first-only h =
      let e : ◌≡◌ {A = ℕ} 0 1 =
      sym size-at-2 ∙ sym (ap size_in (leaves-as p k removed_later (the_version 2)))
      ∙ ap size_in
      (h sevens removed_later all 1 later-no-checkpoint (is-accepted removed_later (the_version 2) 0 count-at-2)
      (is-accepted removed_later (the_version 1) 1 count-at-1))
      ∙ ap size_in (leaves-as p k removed_later (the_version 1)) ∙ size-at-1 in
      omega arith

  not-invented : InventsTheCount p → ⊥
  unfolding count_in told
  not-invented i =
      let e : accepted i.t ≡ told (reading (length i.room) i.s i.q i.asked) = sym i.says ∙ k.answers i.room i.s i.q i.asked in
      let c : Some i.t.count ≡ Some (length i.l.rows) = ap count_in (e ∙ ap told i.picks) in
      i.invents (some_same c)

  not-same-count : SameCountForAll p → ⊥
  not-same-count (n, h) =
      let a = accepts removed_and_added the_latest 1 count-live in
      let b = accepts added_and_removed the_latest 0 count_none in
      let x : n ≡ 1 = sym (h sevens removed_and_added all the_latest a.0 a.1) ∙ a.2 in
      let y : n ≡ 0 = sym (h sevens added_and_removed all the_latest b.0 b.1) ∙ b.2 in
      omega arith

pub none-keeps-the-promise : NoneKeepsThePromise
none-keeps-the-promise p k = record {
  refuses = not-refusing p k;
  says_five = λ h. not-refusing p k (λ room s q asked. (not_kept, h room s q asked));
  same-table = not-same-table p k;
  writes_nothing = not-silent p k;
  first-only = not-first-only p k;
  invents = not-invented p k;
  same_count = not-same-count p k;
}

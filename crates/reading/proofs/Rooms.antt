-- The lent room: what a refusal leaves, and that what was written into its first 6,144 numbers before does not matter.
use mathlib.Core.Path.{◌≡◌, refl, sym, ap, ◌∙◌, subst}
use mathlib.Core.List.{List, [], ◌++◌}
use Prim.Native.Nat.{ℕ, ◌-◌, ◌<◌}
use native.Mathlib.Omega.{arith}
use lib.ListN.{length, drop, replicate}
use Rattle.facts.specs.Moves.{zeroed}
use Rattle.rules.specs.Bytes.{Bytes}
use Rattle.rules.specs.Live.{most_live}
use Rattle.rules.specs.Rooms.{Room, rows_room, filled, leaves, rows_numbers}
use Rattle.rules.specs.Refusals.{Answer, accepted, refused, room_too_short}
use Rattle.rules.specs.Reading.{Asked, told, room_after_reading}
use Rattle.rules.specs.Reading.{Listing as RuleListing}
use Rattle.rules.proofs.Rooms.{zeroed-none-filled, leaves-accepted, leaves-untouched, leaves-zeros}
use Rattle.row_table.specs.Table.{Room as HasRoom}
use Rattle.log_replay.specs.Answers.{Left}
use Rattle.refusals.specs.Numbered.{numbered}
use Rattle.refusals.specs.declared.Refusal.{Refusal}
use Rattle.refusals.specs.declared.Refusal.TheVariants.{RoomTooShort}
use Rattle.reading.specs.Answers.{read_is, AnswerIs, ReadIs}
use Rattle.std.specs.Prelude.{Result, Err}
use Rattle.reading.specs.declared.Listing.{Listing}
use Rattle.rules.proofs.Later.{Later}
use Rattle.reading.proofs.Rules.{reading-short}

-- the numbers of what is listed
unfoldable pub numbers : RuleListing → List ℕ
numbers l = rows_numbers l.rows

-- ---- what is written before

filled-same : (n : ℕ) (xs : List ℕ) (t u : Room) → drop n t ≡ drop n u → filled n xs t ≡ filled n xs u
unfolding filled
filled-same n xs t u e = ap (λ (rest : List ℕ). xs ++ (replicate (n - length xs) 0 ++ rest)) e

leaves-same : (n : ℕ) (o : Answer RuleListing) (t u : Room) → Later o → drop n t ≡ drop n u → leaves n numbers o t ≡ leaves n numbers o u
unfolding Later
leaves-same n (accepted l) t u h e = leaves-accepted n numbers t l ∙ filled-same n (numbers l) t u e ∙ sym (leaves-accepted n numbers u l)
leaves-same n (refused r) t u h e = leaves-zeros n numbers t r h ∙ filled-same n [] t u e ∙ sym (leaves-zeros n numbers u r h)

pub left-beyond : (room between : Room) → Left most_live room between → drop 6144 between ≡ drop 6144 room
unfolding most_live
left-beyond room between l = l.rest

pub left-long : (room between : Room) → Left most_live room between → HasRoom most_live room → HasRoom most_live between
left-long room between l h = omega (arith, l.length)

module _ (o : Answer RuleListing) (room after : Room) (r : Result Listing Refusal) where
  pub answer-left : (between : Room) → Later o → Left most_live room between → AnswerIs o between after r → AnswerIs o room after r
  unfolding room_after_reading numbers rows_room
  answer-left between h l a = record { answer = a.answer; holds = a.holds ∙ leaves-same 6144 o between room h (left-beyond room between l) }

  pub answer-same : (o' : Answer RuleListing) → o' ≡ o → AnswerIs o room after r → AnswerIs o' room after r
  answer-same o' e a = subst (λ (x : Answer RuleListing). AnswerIs x room after r) (sym e) a

-- ---- a refusal

pub answer-refused : (x : Refusal) (t after : Room) → HasRoom most_live t → ((numbered x).number ≡ 1 → ⊥) → after ≡ zeroed 0 6144 t
    → AnswerIs (refused (numbered x)) t after (Err x)
unfolding read_is told room_after_reading rows_room numbers most_live
answer-refused x t after h n e = record { answer = refl; holds = e ∙ zeroed-none-filled 6144 t t h refl ∙ sym (leaves-zeros 6144 numbers t (numbered x) n) }

pub read_short : (src q : Bytes) (asked : Asked) (room : Room) → length room < 6144 → ReadIs src q asked room room (Err RoomTooShort)
unfolding read_is told numbered room_after_reading numbers
read_short src q asked room h =
    let k = reading-short (length room) src q asked h in
    record {
      answer = sym (ap told k);
      holds = sym (ap (λ (a : Answer RuleListing). room_after_reading a room) k ∙ leaves-untouched rows_room numbers room room_too_short refl);
    }

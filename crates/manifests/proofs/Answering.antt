-- What is answered for a state manifest, a query and a room, by what was read.
use mathlib.Core.Path.{◌≡◌, refl, sym, ap, ◌∙◌}
use Rattle.std.specs.Prelude.{None, Some}
use mathlib.Core.List.{List}
use Prim.Native.Nat.{ℕ, ◌≤◌, ◌<◌}
use native.Mathlib.Omega.{arith}
use borrow.Author.Tests.{le-leb, lt-leb}
use lib.ListN.{length}
use lib.Seq.{length-take-le}
use Rattle.facts.specs.Moves.{zeroed}
use Rattle.rules.specs.Bytes.{Bytes}
use Rattle.rules.specs.Query.{Condition, query}
use Rattle.rules.specs.Manifests.{Manifest, manifests, most_manifests, kept_from}
use Rattle.rules.specs.Rooms.{Room, kept_room, counted}
use Rattle.rules.specs.Refusals.{Answer, accepted, refused, room_too_short, query_malformed, state_malformed, too_many_manifests}
use Rattle.rules.specs.Keeping.{keeping, room_after_keeping}
use Rattle.rules.proofs.Rooms.{zeroed-filled, zeroed-none-filled, leaves-accepted, leaves-untouched, leaves-zeros}
use Rattle.refusals.specs.Numbered.{numbered}
use Rattle.refusals.specs.declared.Refusal.{Refusal}
use Rattle.refusals.specs.declared.Refusal.TheVariants.{RoomTooShort}
use Rattle.manifests.specs.Walks.{Beyond, Noted}
use Rattle.manifests.specs.Rooms.{refused_by, kept_is, KeepIs}
use Rattle.std.specs.Prelude.{Result, Ok, Err}

-- ---- the rule, by what was read

module _ (room : ℕ) (state q : Bytes) where
  keeping-short : room < 256 → keeping room state q ≡ refused room_too_short
  unfolding keeping kept_room
  keeping-short h = rw (keeping, lt-leb 256 room h)

  module _ (h : 256 ≤ room) where
    pub keeping-query : query q ≡ None → keeping room state q ≡ refused query_malformed
    unfolding keeping kept_room
    keeping-query e = rw (keeping, le-leb 256 room h, e)

    module _ (cs : List Condition) (e : query q ≡ Some cs) where
      pub keeping-state : manifests state ≡ None → keeping room state q ≡ refused state_malformed
      unfolding keeping kept_room
      keeping-state f = rw (keeping, le-leb 256 room h, e, f)

      module _ (ms : List Manifest) (f : manifests state ≡ Some ms) where
        pub keeping-many : 256 < length ms → keeping room state q ≡ refused too_many_manifests
        unfolding keeping kept_room most_manifests
        keeping-many l = rw (keeping, le-leb 256 room h, e, f, lt-leb (length ms) 256 l)

        pub keeping-kept : length ms ≤ 256 → keeping room state q ≡ accepted (kept_from 0 cs ms)
        unfolding keeping kept_room most_manifests
        keeping-kept l = rw (keeping, le-leb 256 room h, e, f, le-leb (length ms) 256 l)

-- ---- the answer and the room

pub beyond-long : {room between : Room} → Beyond room between → 256 ≤ length room → 256 ≤ length between
beyond-long b h = omega (arith, b.same)

module _ (state q : Bytes) (room after : Room) where
  pub keep-short : length room < 256 → after ≡ room → KeepIs state q room after (Err RoomTooShort)
  unfolding kept_is counted numbered room_after_keeping
  keep-short h e =
      let k = keeping-short (length room) state q h in
      record {
        answer = sym (ap counted k);
        holds = e ∙ sym (ap (λ (a : Answer (List ℕ)). room_after_keeping a room) k ∙ leaves-untouched kept_room (λ ks. ks) room room_too_short refl);
      }

  module _ (h : 256 ≤ length room) (between : Room) (b : Beyond room between) where
    long : 256 ≤ length between
    long = beyond-long b h

    -- a refusal that leaves zeros
    pub keep-refused : (x : Refusal) (r : Result ℕ Refusal) → keeping (length room) state q ≡ refused (numbered x) → ((numbered x).number ≡ 1 → ⊥)
        → r ≡ refused_by x → after ≡ zeroed 0 256 between → KeepIs state q room after r
    unfolding kept_is counted room_after_keeping kept_room
    keep-refused x r k n e f = record {
      answer = ap kept_is e ∙ sym (ap counted k);
      holds = f ∙ zeroed-none-filled 256 between room long b.beyond
          ∙ sym (ap (λ (a : Answer (List ℕ)). room_after_keeping a room) k ∙ leaves-zeros 256 (λ ks. ks) room (numbered x) n);
    }

    pub keep-kept : (cs : List Condition) (ms : List Manifest) (n : ℕ) → Noted cs ms n room between → length ms ≤ 256
        → keeping (length room) state q ≡ accepted (kept_from 0 cs ms) → after ≡ zeroed n 256 between → KeepIs state q room after (Ok n)
    unfolding kept_is counted room_after_keeping kept_room
    keep-kept cs ms n g l k f =
        let size : length (kept_from 0 cs ms) ≡ n = sym (ap length (g.numbers l)) ∙ length-take-le n between (omega (arith, long, g.least)) in
        record {
          answer = ap accepted (sym size) ∙ sym (ap counted k);
          holds = f ∙ zeroed-filled n 256 (kept_from 0 cs ms) between room size g.least long (g.numbers l) b.beyond
              ∙ sym (ap (λ (a : Answer (List ℕ)). room_after_keeping a room) k ∙ leaves-accepted 256 (λ ks. ks) room (kept_from 0 cs ms));
        }

-- Keeping manifests: the answer for a state manifest, a query and a lent room.
use Rattle.std.specs.Prelude.{List, ℕ, leb, length}
use Rattle.rules.specs.Bytes.{Bytes}
use Rattle.rules.specs.Query.{query}
use Rattle.rules.specs.Manifests.{manifests, most_manifests, kept_from}
use Rattle.rules.specs.Rooms.{Room, kept_room, leaves}
use Rattle.rules.specs.Refusals.{Answer, accepted, ◌>>=◌, or_refuse, require, room_too_short, query_malformed, state_malformed, too_many_manifests}

-- refusals 1, 10, 14, 15, or the numbers of the manifests kept, ascending; `room` is how many u32 are lent
unfoldable pub keeping : (room : ℕ) → (state q : Bytes) → Answer (List ℕ)
keeping room state q = do
  _ ← require room_too_short (leb kept_room room)
  cs ← or_refuse query_malformed (query q)
  ms ← or_refuse state_malformed (manifests state)
  _ ← require too_many_manifests (leb (length ms) most_manifests)
  accepted (kept_from 0 cs ms)

-- what a lent room holds afterwards
unfoldable pub room_after_keeping : Answer (List ℕ) → Room → Room
room_after_keeping answer room = leaves kept_room (λ ks. ks) answer room

-- Demand 2 of keeping manifests.
use mathlib.Core.Path.{◌≡◌, refl, sym, ◌∙◌, ap, subst}
use mathlib.Core.Bool.{Bool, true, false}
use Rattle.std.specs.Prelude.{Option, None, Some}
use mathlib.Core.List.{List}
use Prim.Native.Nat.{ℕ, ◌≤◌, ◌<◌}
use lib.Dec.{leb}
use lib.ListN.{length}
use borrow.Author.Tests.{leb-true, leb-false, le-leb, lt-leb}
use Rattle.rules.specs.Bytes.{Bytes}
use Rattle.rules.specs.Query.{Condition, query}
use Rattle.rules.specs.Manifests.{Manifest, manifests, most_manifests, kept_from}
use Rattle.rules.specs.Rooms.{kept_room}
use Rattle.rules.specs.Keeping.{keeping}
use Rattle.rules.specs.Refusals.{Answer, accepted, refused, room_too_short, query_malformed, state_malformed, too_many_manifests}
use Rattle.demands.specs.Reaching.{There}
use Rattle.demands.specs.Exactly.{KeepingRefusesExactly}

module _ (room : ℕ) (state q : Bytes) where
  data Says : Answer (List ℕ) → Type 0 where
    short : room < kept_room → Says (refused room_too_short)
    bad-query : kept_room ≤ room → query q ≡ None → Says (refused query_malformed)
    bad-state : kept_room ≤ room → There (query q) → manifests state ≡ None → Says (refused state_malformed)
    many : kept_room ≤ room → There (query q) → (ms : List Manifest) → manifests state ≡ Some ms → most_manifests < length ms
        → Says (refused too_many_manifests)
    answer : kept_room ≤ room → (cs : List Condition) → query q ≡ Some cs → (ms : List Manifest) → manifests state ≡ Some ms → length ms ≤ most_manifests
        → Says (accepted (kept_from 0 cs ms))

  says-keeping : (a : Answer (List ℕ)) → Says a → keeping room state q ≡ a
  unfolding keeping
  says-keeping _ (short l) = rw (lt-leb kept_room room l)
  says-keeping _ (bad-query l e) = rw (le-leb kept_room room l, e)
  says-keeping _ (bad-state l c e) = rw (le-leb kept_room room l, c.1, e)
  says-keeping _ (many l c ms e m) = rw (le-leb kept_room room l, c.1, e, lt-leb (length ms) most_manifests m)
  says-keeping _ (answer l cs c ms e m) = rw (le-leb kept_room room l, c, e, le-leb (length ms) most_manifests m)

  said : (a : Answer (List ℕ)) × Says a
  said = go (leb kept_room room) refl (query q) refl (manifests state) refl
    where
      counted : kept_room ≤ room → (cs : List Condition) → query q ≡ Some cs → (ms : List Manifest) → manifests state ≡ Some ms → (b : Bool)
          → leb (length ms) most_manifests ≡ b → (a : Answer (List ℕ)) × Says a
      counted l cs eq ms em true e = (_, answer l cs eq ms em (leb-true (length ms) most_manifests e))
      counted l cs eq ms em false e = (_, many l (cs, eq) ms em (leb-false (length ms) most_manifests e))

      go : (b : Bool) → leb kept_room room ≡ b → (c : Option (List Condition)) → query q ≡ c → (m : Option (List Manifest)) → manifests state ≡ m
          → (a : Answer (List ℕ)) × Says a
      go false e c eq m em = (_, short (leb-false kept_room room e))
      go true e None eq m em = (_, bad-query (leb-true kept_room room e) eq)
      go true e (Some cs) eq None em = (_, bad-state (leb-true kept_room room e) (cs, eq) em)
      go true e (Some cs) eq (Some ms) em = counted (leb-true kept_room room e) cs eq ms em (leb (length ms) most_manifests) refl

  keeping-says : (a : Answer (List ℕ)) → keeping room state q ≡ a → Says a
  keeping-says a e = let p = said in subst Says (sym (says-keeping p.0 p.1) ∙ e) p.1

pub keeping-exactly : KeepingRefusesExactly
keeping-exactly room state q = record {
  no-1 = ((λ e. f1 (keeping-says room state q (refused room_too_short) e)), λ l. says-keeping room state q _ (short l));
  no-10 = ((λ e. f10 (keeping-says room state q (refused query_malformed) e)), λ c. says-keeping room state q _ (bad-query c.0 c.1));
  no-14 = ((λ e. f14 (keeping-says room state q (refused state_malformed) e)), λ c. says-keeping room state q _ (bad-state c.0 c.1 c.2));
  no-15 = (
    (λ e. f15 (keeping-says room state q (refused too_many_manifests) e)),
    λ c. says-keeping room state q _ (many c.0 c.1 c.2.0 c.2.1 c.2.2),
  );
  no-0 = λ ks. (
    (λ e. f0 ks (keeping-says room state q (accepted ks) e)),
    λ c. says-keeping room state q _ (answer c.0 c.1.0 c.1.1 c.1.2.0 c.1.2.1 c.1.2.2) ∙ ap accepted c.1.2.3,
  );
}
  where
    f1 : Says room state q (refused room_too_short) → room < kept_room
    f1 (short l) = l

    f10 : Says room state q (refused query_malformed) → (kept_room ≤ room) × (query q ≡ None)
    f10 (bad-query l e) = (l, e)

    f14 : Says room state q (refused state_malformed) → (kept_room ≤ room) × There (query q) × (manifests state ≡ None)
    f14 (bad-state l c e) = (l, c, e)

    f15 : Says room state q (refused too_many_manifests)
        → (kept_room ≤ room) × There (query q) × ((ms : List Manifest) × (manifests state ≡ Some ms) × (most_manifests < length ms))
    f15 (many l c ms e m) = (l, c, (ms, e, m))

    f0 : (ks : List ℕ) → Says room state q (accepted ks)
        → (kept_room ≤ room)
        × ((cs : List Condition) × (query q ≡ Some cs)
        × ((ms : List Manifest) × (manifests state ≡ Some ms) × (length ms ≤ most_manifests) × (kept_from 0 cs ms ≡ ks)))
    f0 ks (answer l cs c ms e m) = (l, (cs, c, (ms, e, m, refl)))

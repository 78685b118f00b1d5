-- The manifests of an array: one after another, and as a text of their own.
use mathlib.Core.Path.{◌≡◌, refl, ap, ◌∙◌}
use mathlib.Core.Bool.{Bool, true, false}
use Rattle.std.specs.Prelude.{Option, None, Some}
use mathlib.Core.List.{List, [], ◌∷◌}
use Prim.Native.Nat.{ℕ, ◌≤◌}
use lib.ListN.{length, drop}
use Rattle.rules.specs.Bytes.{◌>>=◌, is_empty}
use Rattle.rules.specs.Query.{Condition}
use Rattle.rules.specs.Manifests.{Manifest, in_manifests, manifest_of, manifests_in}
use Rattle.rules.specs.Rooms.{Room}
use Rattle.rules.specs.Json.Text.{Text, spelled, ws, byte}
use Rattle.rules.specs.Json.Values.{list, elements, value, alone, array_of}
use Rattle.rules.proofs.Json.Steps.{elements-list, array_of-elements, array_of-none}
use Rattle.json_tokens.specs.Answers.{Skips}
use Rattle.manifest_state.specs.States.{manifests_of}
use Rattle.manifests.specs.Walks.{Noted, Walked}
use Rattle.manifest_state.proofs.Gathering.{each, made, Listed}

-- ---- one after another

manifests-each : (vs : List Text) → manifests_in vs ≡ each manifest_of vs
unfolding manifests_in
manifests-each [] = refl
manifests-each (v ∷ vs) = ap (λ o. manifest_of v >>= (λ m. o >>= (λ ms. Some (m ∷ ms)))) (manifests-each vs)

manifests-made : (o : Option (List Text × Text)) → (o >>= (λ p. manifests_in p.0)) ≡ made manifest_of o
manifests-made None = refl
manifests-made (Some p) = manifests-each p.0

module _ (u : Text) (at : ℕ) where
  pub walked_none : made manifest_of (list (spelled (value in_manifests)) 0x5D (drop at u)) ≡ None
      → (elements (value in_manifests) (drop at u) >>= (λ p. manifests_in p.0)) ≡ None
  walked_none e = manifests-made (elements (value in_manifests) (drop at u)) ∙ ap (made manifest_of) (elements-list (value in_manifests) (drop at u)) ∙ e

  pub walked-listed : (end k n : ℕ) (ms : List Manifest) (cs : List Condition) (room after : Room)
      → Listed (spelled (value in_manifests)) 0x5D manifest_of u at end ms
      → length ms ≡ k → Noted cs ms n room after → end ≤ length u → Walked (elements (value in_manifests) (drop at u)) cs u room after end k n
  walked-listed end k n ms cs room after l count noted h = record {
    vs = l.xs;
    ms = ms;
    all = elements-list (value in_manifests) (drop at u) ∙ l.read;
    each = manifests-each l.xs ∙ l.all;
    count = count;
    noted = noted;
    within = h;
  }

-- ---- a text of their own

module _ (u : Text) where
  pub manifests-none : array_of in_manifests u ≡ None → manifests_of u ≡ None
  manifests-none e = ap (λ o. o >>= manifests_in) e

  pub manifests-of : {vs : List Text} → array_of in_manifests u ≡ Some vs → manifests_of u ≡ manifests_in vs
  manifests-of e = ap (λ o. o >>= manifests_in) e

  -- some manifest is malformed
  pub manifests-malformed : (o : Option (List Text × Text)) → array_of in_manifests u ≡ alone o → (o >>= (λ p. manifests_in p.0)) ≡ None → manifests_of u ≡ None
  unfolding alone
  manifests-malformed None e f = manifests-none e
  manifests-malformed (Some p) e f = go (is_empty (ws p.1)) refl
    where
      go : (b : Bool) → is_empty (ws p.1) ≡ b → manifests_of u ≡ None
      go true g = manifests-of (e ∙ rw (alone, g)) ∙ f
      go false g = manifests-none (e ∙ rw (alone, g))

  -- before the bracket: white space up to i
  module _ (i : ℕ) (w : Skips (ws u) u 0 i) where
    pub array-unopened : byte 0x5B (drop i u) ≡ None → array_of in_manifests u ≡ None
    array-unopened e = array_of-none in_manifests u (ap (byte 0x5B) w.left ∙ e)

    pub array-opened : {r : Text} → byte 0x5B (drop i u) ≡ Some r → array_of in_manifests u ≡ alone (elements (value in_manifests) r)
    array-opened e = array_of-elements in_manifests u (ap (byte 0x5B) w.left ∙ e)

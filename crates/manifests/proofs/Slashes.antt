-- The last slash of a path, found from behind.
use mathlib.Core.Path.{◌≡◌, refl, sym, ap, ◌∙◌}
use mathlib.Core.Bool.{false}
use mathlib.Core.List.{[], ◌∷◌, ◌++◌}
use Rattle.std.specs.Prelude.{Option, None, Some, MatchOption}
use Prim.Native.Nat.{ℕ, suc, ◌+◌, ◌<◌}
use native.Mathlib.Omega.{arith}
use borrow.Author.Tests.{eqb-true}
use lib.Dec.{eqb}
use lib.ListN.{length, take, drop, get_or, take-append-drop, length-drop}
use lib.Seq.{get_or-drop}
use Rattle.facts.proofs.Lists.{drop-is}
use Rattle.rules.specs.Bytes.{Bytes}
use Rattle.rules.specs.Manifests.{slash, has_slash, before_last_slash}
use Rattle.rules.proofs.Tests.{false_of}
use Rattle.rules.proofs.Slashes.{has_slash-miss, has_slash-at, before_last_slash-at}
use Rattle.manifests.specs.Slashes.{Slashed, SlashIs}

-- none stands behind i
module _ (p : Bytes) (i : ℕ) (l : i < length p) (h : has_slash (drop (i + 1) p) ≡ false) where
  slashed-at : get_or p i 0 ≡ slash → Slashed p i
  slashed-at e =
      let s : p ≡ take i p ++ (slash ∷ drop (i + 1) p) = sym (take-append-drop i p) ∙ ap (λ (x : Bytes). take i p ++ x) (drop-is p i 0 slash l e) in
      record {
        within = l;
        held = ap has_slash s ∙ has_slash-at (take i p) (drop (i + 1) p);
        before = ap before_last_slash s ∙ before_last_slash-at (take i p) (drop (i + 1) p) h;
      }

-- ---- by the places of a path

none-held : (p : Bytes) → ((k : ℕ) → k < length p → get_or p k 0 ≡ slash → ⊥) → has_slash p ≡ false
unfolding has_slash
none-held [] f = refl
none-held (b ∷ bs) f =
    has_slash-miss b bs (false_of (eqb b slash) (λ e. f 0 (omega arith) (eqb-true b slash e))) ∙ none-held bs (λ k h. f (suc k) (omega arith))

none-behind : (p : Bytes) (i : ℕ) → ((k : ℕ) → i < k → k < length p → get_or p k 0 ≡ slash → ⊥) → has_slash (drop (i + 1) p) ≡ false
none-behind p i f =
    none-held (drop (i + 1) p) (λ k h e.
    let l : i + 1 + k < length p = omega (arith, length-drop (i + 1) p) in
    f (i + 1 + k) (omega arith) l (sym (get_or-drop (i + 1) p k 0) ∙ e))

-- it stands at i, and no other behind it; or nowhere
pub slash-is : (p : Bytes) (r : Option ℕ)
    → MatchOption r ((k : ℕ) → k < length p → get_or p k 0 ≡ 0x2F → ⊥)
    (λ i. (i < length p) × (get_or p i 0 ≡ 0x2F) × ((k : ℕ) → i < k → k < length p → get_or p k 0 ≡ 0x2F → ⊥))
    → SlashIs p r
unfolding slash
slash-is p None f = none-held p f
slash-is p (Some i) (l, e, f) = slashed-at p i l (none-behind p i f) e

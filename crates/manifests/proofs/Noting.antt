-- The numbers of the manifests kept, in the room that is lent: what one manifest more does to them.
use mathlib.Core.Path.{◌≡◌, refl, sym, ap, ◌∙◌, subst}
use mathlib.Core.Bool.{Bool, true, false, not, ◌&&◌}
use mathlib.Core.List.{List, [], ◌∷◌, ◌++◌, append-nil}
use Prim.Native.Nat.{ℕ, suc, ◌+◌, ◌≤◌, ◌<◌}
use native.Mathlib.Nat.{add-zero}
use native.Mathlib.Omega.{arith}
use borrow.Author.Tests.{ltb-true, ltb-false}
use lib.Dec.{ltb}
use lib.ListN.{length, take, set, length-append, length-set}
use lib.Seq.{drop-set-lt}
use Rattle.facts.proofs.Lists.{take-set-here}
use Rattle.rules.specs.Bytes.{keep_if}
use Rattle.rules.specs.Query.{Condition}
use Rattle.rules.specs.Manifests.{Manifest, dropped, kept_from}
use Rattle.rules.specs.Rooms.{Room}
use Rattle.manifests.specs.Walks.{written, Stepped, Noted}

-- ---- one more at the end

keep_if-append : {A : Type 0} (b : Bool) (x : A) (xs ys : List A) → keep_if b x (xs ++ ys) ≡ keep_if b x xs ++ ys
unfolding keep_if
keep_if-append true x xs ys = refl
keep_if-append false x xs ys = refl

kept-last : (a : ℕ) (cs : List Condition) (ms : List Manifest) (x : Manifest)
    → kept_from a cs (ms ++ (x ∷ [])) ≡ kept_from a cs ms ++ keep_if (not (dropped cs x)) (a + length ms) []
unfolding kept_from
kept-last a cs [] x = rw add-zero
kept-last a cs (m ∷ ms) x =
    let e : a + suc (length ms) ≡ suc a + length ms = omega arith in
    rw (kept-last (suc a) cs ms x, e) (keep_if-append (not (dropped cs m)) a (kept_from (suc a) cs ms) (keep_if (not (dropped cs x)) (suc a + length ms) []))

module _ (cs : List Condition) (ms : List Manifest) (x : Manifest) where
  kept-dropped : dropped cs x ≡ true → kept_from 0 cs (ms ++ (x ∷ [])) ≡ kept_from 0 cs ms
  unfolding keep_if
  kept-dropped d = kept-last 0 cs ms x ∙ ap (λ (b : Bool). kept_from 0 cs ms ++ keep_if (not b) (0 + length ms) []) d ∙ append-nil (kept_from 0 cs ms)

  kept_more : dropped cs x ≡ false → kept_from 0 cs (ms ++ (x ∷ [])) ≡ kept_from 0 cs ms ++ (length ms ∷ [])
  unfolding keep_if
  kept_more d =
      let e : 0 + length ms ≡ length ms = omega arith in
      kept-last 0 cs ms x ∙ ap (λ (b : Bool). kept_from 0 cs ms ++ keep_if (not b) (0 + length ms) []) d ∙ ap (λ (i : ℕ). kept_from 0 cs ms ++ (i ∷ [])) e

-- ---- the room

pub noted-start : (cs : List Condition) (room : Room) → Noted cs [] 0 room room
unfolding kept_from
noted-start cs room = record { few = omega arith; least = omega arith; numbers = λ h. refl; outer = record { same = refl; beyond = refl } }

module _ (cs : List Condition) (ms : List Manifest) (x : Manifest) (n k m : ℕ) (room before after : Room)
    (g : Noted cs ms n room before) (count : length ms ≡ k) (long : 256 ≤ length room) where
  abbrev more : List Manifest
  more = ms ++ (x ∷ [])

  longer : length more ≡ length ms + 1
  longer = length-append ms (x ∷ [])

  -- nothing is written
  unwritten : (length more ≤ 256 → take n before ≡ kept_from 0 cs more) → m ≡ n → after ≡ before → Noted cs more m room after
  unwritten f p q = subst (λ (i : ℕ). Noted cs more i room after) (sym p) (subst (λ (t : Room). Noted cs more n room t) (sym q) (record {
    few = omega (arith, longer, g.few);
    least = g.least;
    numbers = f;
    outer = g.outer;
  }))

  -- number k is written
  number-written : dropped cs x ≡ false → k < 256 → m ≡ n + 1 → after ≡ set before n k → Noted cs more m room after
  number-written d l p q = subst (λ (i : ℕ). Noted cs more i room after) (sym p) (subst (λ (t : Room). Noted cs more (n + 1) room t) (sym q) (record {
    few = omega (arith, longer, g.few);
    least = omega (arith, g.few, count);
    numbers =
        λ h. take-set-here before n k (omega (arith, g.few, count, g.outer.same)) ∙ ap (λ (xs : Room). xs ++ (k ∷ [])) (g.numbers (omega (arith, count)))
        ∙ ap (λ (i : ℕ). kept_from 0 cs ms ++ (i ∷ [])) (sym count) ∙ sym (kept_more cs ms x d);
    outer = record {
      same = length-set before n k ∙ g.outer.same;
      beyond = drop-set-lt 256 before n k (omega (arith, g.few, count)) ∙ g.outer.beyond;
    };
  }))

  pub noted_step : Stepped (written cs x k) n k before m after → Noted cs more m room after
  noted_step s = go (dropped cs x) refl (ltb k 256) refl
    where
      stepped : (d l : Bool) → dropped cs x ≡ d → ltb k 256 ≡ l → Stepped (not d && l) n k before m after
      stepped d l p q =
          subst (λ (b : Bool). Stepped (not b && l) n k before m after) p (subst (λ (b : Bool). Stepped (not (dropped cs x) && b) n k before m after) q s)

      go : (d : Bool) → dropped cs x ≡ d → (l : Bool) → ltb k 256 ≡ l → Noted cs more m room after
      go true p l q =
          let t = stepped true l p q in
          unwritten (λ h. g.numbers (omega (arith, longer)) ∙ sym (kept-dropped cs ms x p)) t.0 t.1
      go false p true q =
          let t = stepped false true p q in
          number-written p (ltb-true k 256 q) t.0 t.1
      go false p false q =
          let t = stepped false false p q in
          unwritten (λ h. absurd (omega (arith, longer, count, ltb-false k 256 q))) t.0 t.1

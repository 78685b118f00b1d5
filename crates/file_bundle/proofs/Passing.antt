-- What is left fits where its first entry does and the rest fits: one turn over the entries.
use mathlib.Core.Path.{◌≡◌, refl, sym, ap, ◌∙◌}
use mathlib.Core.Bool.{Bool, true, false, ◌&&◌}
use mathlib.Core.Logic.{◌⊎◌, inl, inr}
use Rattle.std.specs.Prelude.{Option}
use mathlib.Core.List.{List, ◌∷◌}
use Prim.Native.Nat.{ℕ, suc, ◌+◌, ◌*◌, ◌-◌, ◌≤◌, ◌<◌}
use native.Mathlib.Numerals.{add-one}
use native.Mathlib.Omega.{arith}
use lib.Dec.{eqb, leb}
use lib.ListN.{length, drop, length-drop, drop_of_length-le}
use lib.Seq.{drop-drop}
use borrow.Author.Tests.{eq-eqb, ne_eqb, le-leb, lt-leb}
use Rattle.facts.proofs.Lists.{drop_here}
use Rattle.rules.specs.Bytes.{Bytes, is_empty, is_some}
use Rattle.rules.specs.Bundle.{Entry, File, entry_of, name_in, ascending, files_from}
use Rattle.rules.proofs.Order.{trichotomy}
use Rattle.rules.proofs.Tests.{and-fails-left, and-fails-right}
use Rattle.file_bundle.specs.Files.{first_two, left, left_fits}
use Rattle.rules.proofs.Choices.{is_some-bind, is_some-guard}
use Rattle.file_bundle.proofs.Entries.{ascending-cons, left-cons, left-none}

and-true : (a : Bool) → (a && true) ≡ a
and-true true = refl
and-true false = refl

fits-cons : (k at : ℕ) (e : Entry) (es : List Entry) (rest : Bytes)
    → is_some (files_from k at (e ∷ es) rest)
    ≡ (is_some (name_in e.padded)
    && (eqb e.start at && (leb e.size (length rest) && is_some (files_from (suc k) (at + e.size) es (drop e.size rest)))))
unfolding files_from is_some
fits-cons k at e es rest =
    let behind = files_from (suc k) (at + e.size) es (drop e.size rest) in
    is_some-bind (name_in e.padded) _ (eqb e.start at && (leb e.size (length rest) && is_some behind))
    (λ name.
    is_some-guard (eqb e.start at) _
    ∙ ap (λ (b : Bool). eqb e.start at && b)
    (is_some-guard (leb e.size (length rest)) _
    ∙ ap (λ (b : Bool). leb e.size (length rest) && b) (is_some-bind behind _ true (λ fs. refl) ∙ and-true (is_some behind))))

module _ (s : Bytes) (n k at : ℕ) (h : k < n) where
  -- the entry in question
  abbrev this : Entry
  this = entry_of (drop (4 + 112 * k) s)

  abbrev behind : Option (List File)
  behind = files_from (suc k) (at + this.size) (left s n (k + 1)) (drop this.size (drop at s))

  -- what is asked, in turn
  abbrev orderly : Bool
  orderly = first_two (left s n k) && ascending (left s n (k + 1))

  abbrev named : Bool
  named = is_some (name_in this.padded)

  abbrev placed : Bool
  placed = eqb this.start at

  abbrev inside : Bool
  inside = leb this.size (length (drop at s))

  left_fits-cons : left_fits s n k at ≡ (orderly && (named && (placed && (inside && is_some behind))))
  unfolding left_fits
  left_fits-cons =
      rw (left_fits, left-cons s n k h, ascending-cons this (left s n (k + 1)), fits-cons k at this (left s n (k + 1)) (drop at s))

  -- ---- what stops it

  pub left_fits-name : is_some (name_in this.padded) ≡ false → left_fits s n k at ≡ false
  left_fits-name e = left_fits-cons ∙ and-fails-right orderly (and-fails-left (placed && (inside && is_some behind)) e)

  pub left_fits-order : first_two (left s n k) ≡ false → left_fits s n k at ≡ false
  left_fits-order e = left_fits-cons ∙ and-fails-left (named && (placed && (inside && is_some behind))) (and-fails-left (ascending (left s n (k + 1))) e)

  pub left_fits-start : (this.start ≡ at → ⊥) → left_fits s n k at ≡ false
  left_fits-start e = left_fits-cons ∙ and-fails-right orderly (and-fails-right named (and-fails-left (inside && is_some behind) (ne_eqb _ _ e)))

  pub left_fits-size : length s - at < this.size → left_fits s n k at ≡ false
  left_fits-size l =
      let m : length (drop at s) < this.size = rw (length-drop at s) l in
      left_fits-cons ∙ and-fails-right orderly (and-fails-right named (and-fails-right placed (and-fails-left (is_some behind) (lt-leb _ _ m))))

  -- ---- the rest decides

  pub left_fits-more : is_some (name_in this.padded) ≡ true → first_two (left s n k) ≡ true → this.start ≡ at → this.size ≤ length s - at
      → left_fits s n k at ≡ left_fits s n (k + 1) (at + this.size)
  unfolding left_fits
  left_fits-more name two start size =
      let m : this.size ≤ length (drop at s) = rw (length-drop at s) size in
      left_fits-cons
      ∙ rw (name, two, eq-eqb _ _ start, le-leb _ _ m, left_fits, drop-drop this.size at s, add-one k)

-- ---- nothing is left

module _ (s : Bytes) (n k at : ℕ) (h : n ≤ k) where
  pub left_fits-end : at ≡ length s → left_fits s n k at ≡ true
  unfolding left_fits ascending files_from is_some is_empty
  left_fits-end e =
      let l : length s ≤ at = omega arith in
      rw (left_fits, left-none s n k h, drop_of_length-le s l)

  pub left_fits-early : at < length s → left_fits s n k at ≡ false
  unfolding left_fits ascending files_from is_some is_empty
  left_fits-early l = rw (left_fits, left-none s n k h, drop_here s at 0 l)

-- the last body ends where the bundle does
pub left_fits-last : (s : Bytes) (n k at : ℕ) → n ≤ k → at ≤ length s → eqb at (length s) ≡ left_fits s n k at
left_fits-last s n k at h l = go (trichotomy at (length s))
  where
    go : (at < length s) ⊎ ((length s < at) ⊎ (at ≡ length s)) → eqb at (length s) ≡ left_fits s n k at
    go (inl m) = ne_eqb at (length s) (λ e. omega (arith, m, e)) ∙ sym (left_fits-early s n k at h m)
    go (inr (inl m)) = absurd (omega arith)
    go (inr (inr e)) = eq-eqb at (length s) e ∙ sym (left_fits-end s n k at h e)

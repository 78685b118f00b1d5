-- The loop over the items of a container, with those that it has passed: what its turns keep, and what each way out of it answers.
use mathlib.Core.Path.{◌≡◌, sym, ap, ◌∙◌}
use Rattle.std.specs.Prelude.{Option, None, Some}
use mathlib.Core.List.{List, [], ◌∷◌, ◌++◌}
use Prim.Native.Nat.{ℕ, ◌+◌, ◌≤◌}
use native.Mathlib.Omega.{arith}
use lib.ListN.{length, drop, length-drop}
use Rattle.rules.specs.Json.Text.{Text, Taker}
use Rattle.rules.specs.Json.Values.{Behind, closed, onward, neither, opening, closing, and_then, after_item, items, list}
use Rattle.rules.proofs.Tests.{apart}
use Rattle.rules.proofs.Json.Suffix.{EachTakes, reads-fewer, value_same, left-same}
use Rattle.rules.proofs.Json.ValueReads.{list-reads}
use Rattle.rules.proofs.Json.Steps.{rest}
use Rattle.rules.proofs.Json.Joined.{joined, joined-start, joined-none, joined-onward, joined-closed, joined-neither}
use Rattle.json_values.specs.Follows.{Follows}
use Rattle.json_values.specs.declared.Tail.TheVariants.{Closed, More, Neither}

-- a list that is read from `at` to `end` takes a byte at least
pub list-further : {A : Type 0} {item : Taker A} → EachTakes 1 item → (close : ℕ) (s : Text) (at end : ℕ) {xs : List A} → at ≤ length s → end ≤ length s
    → list item close (drop at s) ≡ Some (xs, drop end s) → at + 1 ≤ end
list-further {item = item} each close s at end {xs} h k e =
    let n : length (drop end s) + 1 ≤ length (drop at s) = reads-fewer (list-reads item close each xs (drop at s) (drop end s) e) in
    omega (arith, n, length-drop end s, length-drop at s)

-- `gone` went by, and the items from i on are left
pub record Passed {A : Type 0} (item : Taker A) (close : ℕ) (s : Text) (at i : ℕ) (gone : List A) : Type 0 where
  pub within : i ≤ length s
  pub left : joined gone (rest item close (drop i s)) ≡ list item close (drop at s)

pub passed_start : {A : Type 0} (item : Taker A) (close : ℕ) (s : Text) (at : ℕ) {i : ℕ} → Follows (opening close (drop at s)) s at (More i)
    → Passed item close s at i []
passed_start item close s at f = record { within = f.2; left = joined-start item close (drop at s) f.0 }

-- ---- a turn, whose item stands from i to j

module _ {A : Type 0} {item : Taker A} {close : ℕ} {s : Text} {at i : ℕ} {gone : List A} (p : Passed item close s at i gone) where
  pub passed_none : item (drop i s) ≡ None → list item close (drop at s) ≡ None
  passed_none e = sym p.left ∙ joined-none item close gone (drop i s) e

  module _ (j : ℕ) {x : A} (e : item (drop i s) ≡ Some (x, drop j s)) where
    pub passed-neither : Follows (closing close (drop j s)) s (j + 1) Neither → list item close (drop at s) ≡ None
    passed-neither f = sym p.left ∙ joined-neither item close gone (drop i s) e f

    pub passed-closed : {k : ℕ} → Follows (closing close (drop j s)) s (j + 1) (Closed k) → list item close (drop at s) ≡ Some (gone ++ (x ∷ []), drop k s)
    passed-closed f = sym p.left ∙ joined-closed item close gone (drop i s) e f.0

    pub passed-more : EachTakes 1 item → {k : ℕ} → Follows (closing close (drop j s)) s (j + 1) (More k) → Passed item close s at k (gone ++ (x ∷ []))
    passed-more each f = record { within = f.2; left = joined-onward item close gone (drop i s) e each f.0 ∙ p.left }

-- ---- the items that are left

pub and_then-some : {A : Type 0} (x : A) (o : Option (List A × Text)) {xs : List A} {u : Text} → and_then x o ≡ Some (xs, u)
    → (ys : List A) × (xs ≡ x ∷ ys) × (o ≡ Some (ys, u))
unfolding and_then
and_then-some x None e = apart (cc)
and_then-some x (Some p) e = (p.0, sym (value_same e), ap (λ (u : Text). Some (p.0, u)) (left-same e))

-- what is left begins with the item that is read first
pub items-first : {A : Type 0} (item : Taker A) (close : ℕ) (t : Text) {x : A} {r : Text} {xs : List A} {u : Text} → item t ≡ Some (x, r)
    → rest item close t ≡ Some (xs, u)
    → (ys : List A) × (xs ≡ x ∷ ys)
unfolding items after_item
items-first {A} item close t {x} {r} {xs} {u} e f = go (closing close r) (sym turn ∙ f)
  where
    turn : rest item close t ≡ after_item x (closing close r) (λ v. items item close (length t) v)
    turn = rw (items, e)

    go : (c : Behind) → after_item x c (λ v. items item close (length t) v) ≡ Some (xs, u) → (ys : List A) × (xs ≡ x ∷ ys)
    go (closed v) g = ([], sym (value_same g))
    go (onward v) g = let (ys, h, k) = and_then-some x (items item close (length t) v) g in (ys, h)
    go neither g = apart (cc)

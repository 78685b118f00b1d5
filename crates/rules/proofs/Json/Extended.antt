-- A container looks at nothing behind its closing byte: where more text follows, the same is read, and more is left.
use mathlib.Core.Path.{◌≡◌, refl, sym, ap, ◌∙◌}
use Rattle.std.specs.Prelude.{Option, None, Some}
use mathlib.Core.List.{List, [], ◌∷◌, ◌++◌, append_assoc}
use Prim.Native.Nat.{ℕ, zero, suc, ◌+◌, ◌≤◌}
use native.Mathlib.Omega.{arith}
use borrow.Author.Tests.{eqb-true, eqb-false}
use lib.Dec.{eqb}
use lib.ListN.{length}
use Rattle.rules.specs.Json.Text.{Text, Taker, is_ws, ws}
use Rattle.rules.specs.Json.Values.{Member, Behind, closed, onward, neither, opened_by, opening, closed_by, closing}
use Rattle.rules.specs.Json.Values.{and_then, after_item, items, items_behind, list, contents, elements, value}
use Rattle.rules.proofs.Tests.{apart, by}
use Rattle.rules.proofs.Json.Suffix.{EachTakes, alike, bound, some_same, reads-fewer}
use Rattle.rules.proofs.Json.Bounds.{within_more}
use Rattle.rules.proofs.Json.TextReads.{ws-more, ws-stop, spelled-reads}
use Rattle.rules.proofs.Json.ValueReads.{items-within, member-reads, value-reads}
use Rattle.rules.proofs.Json.Steps.{opening-close, opening-item, closing-close, closing-comma, list-closed, list-onward, contents-list, elements-list}

ws-extends : (t u : Text) {b : ℕ} {y : Text} → ws t ≡ b ∷ y → ws (t ++ u) ≡ b ∷ (y ++ u)
unfolding ws
ws-extends [] u e = apart (cc)
ws-extends (c ∷ t) u {b} {y} e = by (is_ws c)
    (λ p. ws-more c (t ++ u) p ∙ ws-extends t u (sym (ws-more c t p) ∙ e))
    (λ p. ws-stop c (t ++ u) p ∙ ap (λ (w : Text). w ++ u) (sym (ws-stop c t p) ∙ e))

-- ---- behind the opening byte, and behind an item

module _ (close : ℕ) (w u : Text) where
  opening-closed-more : {r : Text} → opening close w ≡ closed r → opening close (w ++ u) ≡ closed (r ++ u)
  unfolding opening opened_by
  opening-closed-more {r} e = go (ws w) refl e
    where
      go : (v : Text) → ws w ≡ v → opened_by close v ≡ closed r → opening close (w ++ u) ≡ closed (r ++ u)
      go [] f g = apart (cc)
      go (b ∷ v) f g = by (eqb b close)
          (λ p. let h : opened_by close (b ∷ v) ≡ closed v = rw (opened_by, p) in
          let same_rest : v ≡ r = cc in
          opening-close close (w ++ u) (ws-extends w u f ∙ ap (λ (c : ℕ). c ∷ (v ++ u)) (eqb-true b close p)) ∙ ap (λ (x : Text). closed (x ++ u)) same_rest)
          (λ p. let h : opened_by close (b ∷ v) ≡ onward (b ∷ v) = rw (opened_by, p) in apart (cc))

  opening-onward-more : {r : Text} → opening close w ≡ onward r → opening close (w ++ u) ≡ onward (r ++ u)
  unfolding opening opened_by
  opening-onward-more {r} e = go (ws w) refl e
    where
      go : (v : Text) → ws w ≡ v → opened_by close v ≡ onward r → opening close (w ++ u) ≡ onward (r ++ u)
      go [] f g = apart (cc)
      go (b ∷ v) f g = by (eqb b close)
          (λ p. let h : opened_by close (b ∷ v) ≡ closed v = rw (opened_by, p) in apart (cc))
          (λ p. let h : opened_by close (b ∷ v) ≡ onward (b ∷ v) = rw (opened_by, p) in
          let same_rest : b ∷ v ≡ r = cc in
          opening-item close (w ++ u) (ws-extends w u f) (eqb-false b close p) ∙ ap (λ (x : Text). onward (x ++ u)) same_rest)

  closing-closed-more : {r : Text} → closing close w ≡ closed r → closing close (w ++ u) ≡ closed (r ++ u)
  unfolding closing closed_by
  closing-closed-more {r} e = go (ws w) refl e
    where
      go : (v : Text) → ws w ≡ v → closed_by close v ≡ closed r → closing close (w ++ u) ≡ closed (r ++ u)
      go [] f g = apart (cc)
      go (b ∷ v) f g = by (eqb b close)
          (λ p. let h : closed_by close (b ∷ v) ≡ closed v = rw (closed_by, p) in
          let same_rest : v ≡ r = cc in
          closing-close close (w ++ u) (ws-extends w u f ∙ ap (λ (c : ℕ). c ∷ (v ++ u)) (eqb-true b close p)) ∙ ap (λ (x : Text). closed (x ++ u)) same_rest)
          (λ p. by (eqb b 0x2C)
          (λ q. let h : closed_by close (b ∷ v) ≡ onward (ws v) = rw (closed_by, p, q) in apart (cc))
          (λ q. let h : closed_by close (b ∷ v) ≡ neither = rw (closed_by, p, q) in apart (cc)))

  closing-onward-more : {c : ℕ} {r : Text} → closing close w ≡ onward (c ∷ r) → closing close (w ++ u) ≡ onward (c ∷ (r ++ u))
  unfolding closing closed_by
  closing-onward-more {c} {r} e = go (ws w) refl e
    where
      go : (v : Text) → ws w ≡ v → closed_by close v ≡ onward (c ∷ r) → closing close (w ++ u) ≡ onward (c ∷ (r ++ u))
      go [] f g = apart (cc)
      go (b ∷ v) f g = by (eqb b close)
          (λ p. let h : closed_by close (b ∷ v) ≡ closed v = rw (closed_by, p) in apart (cc))
          (λ p. by (eqb b 0x2C)
          (λ q. let h : closed_by close (b ∷ v) ≡ onward (ws v) = rw (closed_by, p, q) in
          let same_rest : ws v ≡ c ∷ r = cc in
          let comma : b ≡ 0x2C = eqb-true b 0x2C q in
          closing-comma close (w ++ u) (ws-extends w u f ∙ ap (λ (d : ℕ). d ∷ (v ++ u)) comma) (λ z. eqb-false b close p (comma ∙ z))
          ∙ ap onward (ws-extends v u same_rest))
          (λ q. let h : closed_by close (b ∷ v) ≡ neither = rw (closed_by, p, q) in apart (cc)))

-- ---- items

module _ {A : Type 0} {item : Taker A} (each : EachTakes 1 item) (close : ℕ) (u : Text) where
  item-extends : (x : A) (t : Text) (b : ℕ) (w : Text) → item t ≡ Some (x, b ∷ w) → item (t ++ u) ≡ Some (x, b ∷ (w ++ u))
  item-extends x t b w e =
      let h = each x t (b ∷ w) e in
      ap (λ (v : Text). item (v ++ u)) h.split ∙ ap item (append_assoc h.passed (b ∷ w) u) ∙ h.again (b ∷ (w ++ u)) alike

  items-step : (n : ℕ) (t : Text) {x : A} {r : Text} → item t ≡ Some (x, r)
      → items item close (suc n) t ≡ after_item x (closing close r) (λ v. items item close n v)
  unfolding items
  items-step n t e = rw (items, e)

  items-end : (n : ℕ) {p : List A × Text} → items item close n [] ≡ Some p → ⊥
  unfolding items
  items-end zero e = apart (cc)
  items-end (suc n) e = bound (item []) _ e (λ q f g. let few : length q.1 + 1 ≤ 0 = reads-fewer (each q.0 [] q.1 f) in absurd (omega arith))

  items-extends : (n : ℕ) (t : Text) (xs : List A) (r : Text) → items item close n t ≡ Some (xs, r) → items item close n (t ++ u) ≡ Some (xs, r ++ u)
  unfolding items after_item and_then closing closed_by ws
  items-extends zero t xs r e = apart (cc)
  items-extends (suc n) t xs r e = bound (item t) _ e (λ p f g. one (λ w ys q. items-extends n w ys q) p.0 p.1 f g)
    where
      one : ((w : Text) (ys : List A) (q : Text) → items item close n w ≡ Some (ys, q) → items item close n (w ++ u) ≡ Some (ys, q ++ u))
          → (x : A) (w : Text) → item t ≡ Some (x, w) → after_item x (closing close w) (λ v. items item close n v) ≡ Some (xs, r)
          → items item close (suc n) (t ++ u) ≡ Some (xs, r ++ u)
      one ih x [] f g = apart (cc)
      one ih x (b ∷ w) f g = turn (closing close (b ∷ w)) refl g
        where
          here : items item close (suc n) (t ++ u) ≡ after_item x (closing close (b ∷ (w ++ u))) (λ v. items item close n v)
          here = items-step n (t ++ u) (item-extends x t b w f)

          turn : (c : Behind) → closing close (b ∷ w) ≡ c → after_item x c (λ v. items item close n v) ≡ Some (xs, r)
              → items item close (suc n) (t ++ u) ≡ Some (xs, r ++ u)
          turn (closed v) h k =
              here ∙ ap (λ c. after_item x c (λ v. items item close n v)) (closing-closed-more close (b ∷ w) u h)
              ∙ ap (λ (p : List A × Text). Some (p.0, p.1 ++ u)) (some_same k)
          turn neither h k = apart (cc)
          turn (onward []) h k = last (items item close n []) refl k
            where
              last : (o : Option (List A × Text)) → items item close n [] ≡ o → and_then x o ≡ Some (xs, r)
                  → items item close (suc n) (t ++ u) ≡ Some (xs, r ++ u)
              last None i j = apart (cc)
              last (Some p) i j = absurd (items-end n i)
          turn (onward (c ∷ v)) h k = next (items item close n (c ∷ v)) refl k
            where
              next : (o : Option (List A × Text)) → items item close n (c ∷ v) ≡ o → and_then x o ≡ Some (xs, r)
                  → items item close (suc n) (t ++ u) ≡ Some (xs, r ++ u)
              next None i j = apart (cc)
              next (Some p) i j =
                  here ∙ ap (λ c. after_item x c (λ v. items item close n v)) (closing-onward-more close (b ∷ w) u h)
                  ∙ ap (and_then x) (ih (c ∷ v) p.0 p.1 i) ∙ ap (λ (p : List A × Text). Some (p.0, p.1 ++ u)) (some_same j)

  list-extends : (t : Text) (xs : List A) (r : Text) → list item close t ≡ Some (xs, r) → list item close (t ++ u) ≡ Some (xs, r ++ u)
  unfolding list items_behind
  list-extends t xs r e = go (opening close t) refl e
    where
      go : (c : Behind) → opening close t ≡ c → items_behind item close c ≡ Some (xs, r) → list item close (t ++ u) ≡ Some (xs, r ++ u)
      go (closed v) h k = list-closed item close (t ++ u) (opening-closed-more close t u h) ∙ ap (λ (p : List A × Text). Some (p.0, p.1 ++ u)) (some_same k)
      go neither h k = apart (cc)
      go (onward v) h k = list-onward item close (t ++ u) (opening-onward-more close t u h)
          ∙ within_more (items-within item close each) {n = suc (length v)} {m = suc (length (v ++ u))} (items-extends (suc (length v)) v xs r k) (omega arith)

pub contents-extends : (d : ℕ) (t u : Text) (ms : List Member) (r : Text) → contents (value d) t ≡ Some (ms, r)
    → contents (value d) (t ++ u) ≡ Some (ms, r ++ u)
contents-extends d t u ms r e =
    contents-list (value d) (t ++ u) ∙ list-extends (member-reads (value-reads d)) 0x7D u t ms r (sym (contents-list (value d) t) ∙ e)

pub elements-extends : (d : ℕ) (t u : Text) (vs : List Text) (r : Text) → elements (value d) t ≡ Some (vs, r) → elements (value d) (t ++ u) ≡ Some (vs, r ++ u)
elements-extends d t u vs r e =
    elements-list (value d) (t ++ u) ∙ list-extends (spelled-reads (value-reads d)) 0x5D u t vs r (sym (elements-list (value d) t) ∙ e)

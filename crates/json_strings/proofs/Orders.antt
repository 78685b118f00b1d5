-- Two strings met byte by byte, as a reader meets them.
use mathlib.Core.Path.{◌≡◌, refl, sym, ap, ◌∙◌}
use mathlib.Core.List.{[], ◌∷◌}
use Prim.Native.Nat.{ℕ, ◌<◌}
use lib.ListN.{drop}
use Rattle.rules.specs.Bytes.{Bytes, same, Order as RuleOrder, less, equal, more, order, is_equal}
use Rattle.rules.specs.Json.Text.{Text}
use Rattle.rules.proofs.Order.{order-cons-less, order-cons-more, order-cons-equal, same-order}
use Rattle.std.specs.Ordering.{is_eq}
use Rattle.bytes_values.specs.Answers.{order_is}
use Rattle.std.specs.declared.cmp.Ordering.{Ordering}
use Rattle.json_tokens.proofs.Anew.{anew, anew-same}
use Rattle.json_strings.specs.Decoded.{decoded, WellSpelled}
use Rattle.json_strings.specs.Flat.{flat}
use Rattle.json_strings.proofs.Raw.{well-flat}

module _ {y : Bytes} where
  pub order-none-none : y ≡ [] → order [] y ≡ equal
  unfolding order
  order-none-none e = rw e

  pub order-none-some : {b : ℕ} {v : Bytes} → y ≡ b ∷ v → order [] y ≡ less
  unfolding order
  order-none-some e = rw e

  module _ {x u : Bytes} {a : ℕ} (d : x ≡ a ∷ u) where
    pub order-some-none : y ≡ [] → order x y ≡ more
    unfolding order
    order-some-none e = rw (d, e)

    module _ {b : ℕ} {v : Bytes} (e : y ≡ b ∷ v) where
      pub order-next-less : a < b → order x y ≡ less
      order-next-less h = rw (d, e) (order-cons-less a b u v h)

      pub order-next-more : b < a → order x y ≡ more
      order-next-more h = rw (d, e) (order-cons-more a b u v h)

      pub order-next-equal : a ≡ b → order x y ≡ order u v
      order-next-equal h = rw (d, e) (order-cons-equal a b u v h)

-- ---- sameness by the order's answer

pub same_answer : (x y : Bytes) (r : Ordering) → r ≡ order_is (order x y) → is_eq r ≡ same x y
unfolding order_is is_equal
same_answer x y r e = ap is_eq e ∙ back (order x y) ∙ sym (same-order x y)
  where
    back : (o : RuleOrder) → is_eq (order_is o) ≡ is_equal o
    back less = refl
    back equal = refl
    back more = refl

pub order-decoded : {s t : Text} {i j : ℕ} → WellSpelled s i → WellSpelled t j
    → order (flat (drop i s)) (flat (drop j t)) ≡ order (decoded (drop i s)) (decoded (drop j t))
order-decoded {s} {t} {i} {j} v w = ap (λ (x : Bytes). order x (flat (drop j t))) (well-flat v) ∙ ap (order (decoded (drop i s))) (well-flat w)

-- ---- texts that are handed on anew

pub order-anew : (s t : Text) (i j : ℕ) → order (flat (drop i (anew s))) (flat (drop j (anew t))) ≡ order (flat (drop i s)) (flat (drop j t))
order-anew s t i j =
    ap (λ (x : Text). order (flat (drop i x)) (flat (drop j (anew t)))) (anew-same s)
    ∙ ap (λ (x : Text). order (flat (drop i s)) (flat (drop j x))) (anew-same t)

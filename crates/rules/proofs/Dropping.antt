-- The test for dropping a manifest is the paper's sentence: min is not above max, and NO value from min to max meets the condition.
-- Over any total order: texts, and numbers, where the values are all whole numbers.
use mathlib.Core.Path.{◌≡◌, refl, ap, ◌∙◌}
use mathlib.Core.Logic.{◌⊎◌, inl, inr}
use mathlib.Core.Bool.{Bool, true, false, not}
use lib.IntN.{ℤ}
use borrow.Author.Tests.{not-true, not-false}
use Rattle.rules.specs.Bytes.{Bytes, Order, less, equal, more, order, is_less, is_equal, is_more}
use Rattle.rules.specs.Query.{Number, number, out_of_range, not_number, as_text, Op, eq, lt, le, gt, ge}
use Rattle.rules.specs.Picking.{meets, order_of_numbers}
use Rattle.rules.specs.Manifests.{none_meets, outside, outside_numbers, outside_as}
use Rattle.rules.proofs.Tests.{apart, by, not-of-true, not_of_false, true-not-false, or_left, or_right, or_cases}
use Rattle.rules.proofs.TotalOrders.{TotalOrder, more-flipped, rising-lt, rising_le, rising-gt, rising-ge}
use Rattle.rules.proofs.TotalOrders.{compare_refl, not-above-itself, rising, order-total, numbers-total}

-- the sentence
pub record Excludes {A : Type 0} (compare : A → A → Order) (op : Op) (b lo hi : A) : Type 0 where
  pub rises : is_more (compare lo hi) ≡ false
  pub none-meets : (x : A) → is_more (compare lo x) ≡ false → is_more (compare x hi) ≡ false → meets op (compare x b) ≡ false

-- ---- one sign alone

more-not-equal : (o : Order) → is_more o ≡ true → is_equal o ≡ false
unfolding is_more is_equal
more-not-equal less h = refl
more-not-equal equal h = apart (cc)
more-not-equal more h = refl

less-not-equal : (o : Order) → is_less o ≡ true → is_equal o ≡ false
unfolding is_less is_equal
less-not-equal less h = refl
less-not-equal equal h = apart (cc)
less-not-equal more h = refl

-- ---- the test is the sentence

module _ {A : Type 0} (compare : A → A → Order) (total : TotalOrder compare) (b lo hi : A) where
  -- for x between, by how min and max stand to the bound
  between : (op : Op) (x : A) → is_more (compare lo x) ≡ false → is_more (compare x hi) ≡ false → none_meets op (compare lo b) (compare hi b) ≡ true
      → meets op (compare x b) ≡ false
  unfolding none_meets meets
  between eq x l h t = go (or_cases (is_more (compare lo b)) (is_less (compare hi b)) t)
    where
      go : (is_more (compare lo b) ≡ true) ⊎ (is_less (compare hi b) ≡ true) → is_equal (compare x b) ≡ false
      go (inl m) = more-not-equal (compare x b) (rising-gt (rising compare total lo x b l) m)
      go (inr m) = less-not-equal (compare x b) (rising-lt (rising compare total x hi b h) m)
  between lt x l h t = rising-ge (rising compare total lo x b l) (not-true (is_less (compare lo b)) t)
  between le x l h t = not-of-true (rising-gt (rising compare total lo x b l) (not-false (is_more (compare lo b)) (not-true (not (is_more (compare lo b))) t)))
  between gt x l h t = rising_le (rising compare total x hi b h) (not-true (is_more (compare hi b)) t)
  between ge x l h t = not-of-true (rising-lt (rising compare total x hi b h) (not-false (is_less (compare hi b)) (not-true (not (is_less (compare hi b))) t)))

  -- if none between meets, then not min, not max, and not the bound itself
  nearest : (op : Op) → Excludes compare op b lo hi → none_meets op (compare lo b) (compare hi b) ≡ true
  unfolding none_meets meets is_equal
  nearest eq s =
      by (is_more (compare lo b)) (λ m. or_left (is_less (compare hi b)) m) (λ m.
      by (is_less (compare hi b)) (λ d. or_right (is_more (compare lo b)) d) (λ d.
      absurd (true-not-false (ap is_equal (compare_refl compare total b)) (s.none-meets b m (ap is_more (total.flip hi b) ∙ more-flipped (compare hi b) ∙ d)))))
  nearest lt s = not_of_false (s.none-meets lo (not-above-itself compare total lo) s.rises)
  nearest le s = not_of_false (s.none-meets lo (not-above-itself compare total lo) s.rises)
  nearest gt s = not_of_false (s.none-meets hi s.rises (not-above-itself compare total hi))
  nearest ge s = not_of_false (s.none-meets hi s.rises (not-above-itself compare total hi))

  pub outside-true : (op : Op) → outside compare op b lo hi ≡ true → Excludes compare op b lo hi
  unfolding outside
  outside-true op h = go (is_more (compare lo hi)) refl h
    where
      go : (t : Bool) → is_more (compare lo hi) ≡ t → elim t [ true ↦ false | false ↦ none_meets op (compare lo b) (compare hi b) ] ≡ true
          → Excludes compare op b lo hi
      go true e h = apart (cc)
      go false e h = record { rises = e; none-meets = λ x l m. between op x l m h }

  pub excludes-outside : (op : Op) → Excludes compare op b lo hi → outside compare op b lo hi ≡ true
  unfolding outside
  excludes-outside op s = rw (s.rises, outside) (nearest op s)

-- ---- texts

pub outside_texts-true : (op : Op) (b lo hi : Bytes) → outside_as as_text op b lo hi ≡ true → Excludes order op b lo hi
unfolding outside_as
outside_texts-true op b lo hi h = outside-true order order-total b lo hi op h

pub excludes-outside_texts : {op : Op} {b lo hi : Bytes} → Excludes order op b lo hi → outside_as as_text op b lo hi ≡ true
unfolding outside_as
excludes-outside_texts {op} {b} {lo} {hi} s = excludes-outside order order-total b lo hi op s

-- ---- numbers: all three are readable

pub record ExcludesNumbers (op : Op) (b lo hi : Number) : Type 0 where
  pub bound : ℤ
  pub min : ℤ
  pub max : ℤ
  pub bound-read : b ≡ number bound
  pub min-read : lo ≡ number min
  pub max-read : hi ≡ number max
  pub excludes : Excludes order_of_numbers op bound min max

pub outside_numbers-true : (op : Op) (b lo hi : Number) → outside_numbers op b lo hi ≡ true → ExcludesNumbers op b lo hi
unfolding outside_numbers
outside_numbers-true op (number b) (number lo) (number hi) h =
    record {
      bound = b;
      min = lo;
      max = hi;
      bound-read = refl;
      min-read = refl;
      max-read = refl;
      excludes = outside-true order_of_numbers numbers-total b lo hi op h;
    }
outside_numbers-true op (number b) (number lo) out_of_range h = apart (cc)
outside_numbers-true op (number b) (number lo) not_number h = apart (cc)
outside_numbers-true op (number b) out_of_range hi h = apart (cc)
outside_numbers-true op (number b) not_number hi h = apart (cc)
outside_numbers-true op out_of_range lo hi h = apart (cc)
outside_numbers-true op not_number lo hi h = apart (cc)

pub excludes-outside_numbers : {op : Op} {b lo hi : Number} → ExcludesNumbers op b lo hi → outside_numbers op b lo hi ≡ true
unfolding outside_numbers
excludes-outside_numbers {op} s =
    rw (s.bound-read, s.min-read, s.max-read) (excludes-outside order_of_numbers numbers-total s.bound s.min s.max op s.excludes)

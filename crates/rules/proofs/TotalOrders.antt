-- Total orders, as rules compare by them: byte strings, and whole numbers.
use mathlib.Core.Path.{◌≡◌, refl, sym, ap, ◌∙◌}
use mathlib.Core.Logic.{◌⊎◌, inl, inr}
use mathlib.Core.Bool.{true, false}
use Prim.Native.Nat.{◌<◌}
use native.Mathlib.Omega.{arith}
use lib.IntN.{ℤ, pos, negsuc}
use lib.Signed.{lt_z}
use borrow.Author.Tests.{ltb-true, lt-ltb, le-ltb}
use Rattle.rules.specs.Bytes.{Order, less, equal, more, order, is_less, is_more}
use Rattle.rules.specs.Picking.{order_of_numbers}
use Rattle.rules.proofs.Tests.{apart, true-not-false, false_of, true_of}
use Rattle.rules.proofs.Order.{trichotomy, flipped, order_flip, order-equal, order_trans}

pub record TotalOrder {A : Type 0} (compare : A → A → Order) : Type 0 where
  pub equal-eq : (x y : A) → compare x y ≡ equal → x ≡ y
  pub flip : (x y : A) → compare y x ≡ flipped (compare x y)
  pub trans : (x y z : A) → compare x y ≡ less → compare y z ≡ less → compare x z ≡ less

-- how o and p stand where o is not above p, in less, equal, more
pub data Rising : Order → Order → Type 0 where
  from_less : {p : Order} → Rising less p
  to-more : {o : Order} → Rising o more
  stays : Rising equal equal

pub rising-lt : {o p : Order} → Rising o p → is_less p ≡ true → is_less o ≡ true
unfolding is_less
rising-lt from_less h = refl
rising-lt to-more h = apart (cc)
rising-lt stays h = h

pub rising_le : {o p : Order} → Rising o p → is_more p ≡ false → is_more o ≡ false
unfolding is_more
rising_le from_less h = refl
rising_le to-more h = apart (cc)
rising_le stays h = h

pub rising-gt : {o p : Order} → Rising o p → is_more o ≡ true → is_more p ≡ true
rising-gt {o} {p} r h = true_of (is_more p) (λ f. true-not-false h (rising_le r f))

pub rising-ge : {o p : Order} → Rising o p → is_less o ≡ false → is_less p ≡ false
rising-ge {o} {p} r h = false_of (is_less p) (λ t. true-not-false (rising-lt r t) h)

pub more-flipped : (o : Order) → is_more (flipped o) ≡ is_less o
unfolding is_more is_less
more-flipped less = refl
more-flipped equal = refl
more-flipped more = refl

-- ---- laws of any

module _ {A : Type 0} (compare : A → A → Order) (total : TotalOrder compare) where
  pub compare_refl : (x : A) → compare x x ≡ equal
  compare_refl x = go (compare x x) refl (total.flip x x)
    where
      go : (o : Order) → compare x x ≡ o → compare x x ≡ flipped (compare x x) → compare x x ≡ equal
      go less e f = apart (cc (ap flipped e))
      go equal e f = e
      go more e f = apart (cc (ap flipped e))

  pub not-above-itself : (x : A) → is_more (compare x x) ≡ false
  unfolding is_more
  not-above-itself x = rw (compare_refl x)

  -- what is not above stands not above to anything
  pub rising : (x y b : A) → is_more (compare x y) ≡ false → Rising (compare x b) (compare y b)
  unfolding is_more
  rising x y b h = go (compare x b) refl (compare y b) refl
    where
      above : compare y x ≡ less → ⊥
      above e = true-not-false (ap is_more (total.flip y x ∙ ap flipped e)) h

      go : (o : Order) → compare x b ≡ o → (p : Order) → compare y b ≡ p → Rising o p
      go less e p f = from_less
      go equal e less f = absurd (above (rw (total.equal-eq x b e) f))
      go equal e equal f = stays
      go equal e more f = to-more
      go more e less f = absurd (above (total.trans y b x f (total.flip x b ∙ ap flipped e)))
      go more e equal f = absurd (above (rw (total.equal-eq y b f) (total.flip x b ∙ ap flipped e)))
      go more e more f = to-more

-- ---- byte strings

pub order-total : TotalOrder order
order-total = record { equal-eq = order-equal; flip = order_flip; trans = order_trans }

-- ---- whole numbers

lt_z-false : (a b : ℤ) → lt_z b a ≡ true → lt_z a b ≡ false
lt_z-false (pos a) (pos b) h = let l : b < a = ltb-true b a h in le-ltb a b (omega arith)
lt_z-false (pos a) (negsuc b) h = refl
lt_z-false (negsuc a) (pos b) h = apart (cc)
lt_z-false (negsuc a) (negsuc b) h = let l : a < b = ltb-true a b h in le-ltb b a (omega arith)

lt_z-irrefl : (a : ℤ) → lt_z a a ≡ false
lt_z-irrefl (pos a) = le-ltb a a (omega arith)
lt_z-irrefl (negsuc a) = le-ltb a a (omega arith)

lt_z-trans : (a b c : ℤ) → lt_z a b ≡ true → lt_z b c ≡ true → lt_z a c ≡ true
lt_z-trans (pos a) (pos b) (pos c) h k =
    let l : a < b = ltb-true a b h in
    let m : b < c = ltb-true b c k in
    lt-ltb a c (omega arith)
lt_z-trans (pos a) (pos b) (negsuc c) h k = k
lt_z-trans (pos a) (negsuc b) c h k = apart (cc)
lt_z-trans (negsuc a) b (pos c) h k = refl
lt_z-trans (negsuc a) (pos b) (negsuc c) h k = apart (cc)
lt_z-trans (negsuc a) (negsuc b) (negsuc c) h k =
    let l : b < a = ltb-true b a h in
    let m : c < b = ltb-true c b k in
    lt-ltb c a (omega arith)

pub number-trichotomy : (a b : ℤ) → (lt_z a b ≡ true) ⊎ ((lt_z b a ≡ true) ⊎ (a ≡ b))
number-trichotomy (pos a) (pos b) = go (trichotomy a b)
  where
    go : (a < b) ⊎ ((b < a) ⊎ (a ≡ b)) → (lt_z (pos a) (pos b) ≡ true) ⊎ ((lt_z (pos b) (pos a) ≡ true) ⊎ (pos a ≡ pos b))
    go (inl l) = inl (lt-ltb a b l)
    go (inr (inl l)) = inr (inl (lt-ltb b a l))
    go (inr (inr e)) = inr (inr (ap pos e))
number-trichotomy (pos a) (negsuc b) = inr (inl refl)
number-trichotomy (negsuc a) (pos b) = inl refl
number-trichotomy (negsuc a) (negsuc b) = go (trichotomy a b)
  where
    go : (a < b) ⊎ ((b < a) ⊎ (a ≡ b)) → (lt_z (negsuc a) (negsuc b) ≡ true) ⊎ ((lt_z (negsuc b) (negsuc a) ≡ true) ⊎ (negsuc a ≡ negsuc b))
    go (inl l) = inr (inl (lt-ltb a b l))
    go (inr (inl l)) = inl (lt-ltb b a l)
    go (inr (inr e)) = inr (inr (ap negsuc e))

numbers-refl : (a : ℤ) → order_of_numbers a a ≡ equal
unfolding order_of_numbers
numbers-refl a = rw (lt_z-irrefl a, lt_z-irrefl a, order_of_numbers)

module _ (a b : ℤ) where
  pub numbers-less : lt_z a b ≡ true → order_of_numbers a b ≡ less
  unfolding order_of_numbers
  numbers-less h = rw (h, order_of_numbers)

  pub numbers_more : lt_z b a ≡ true → order_of_numbers a b ≡ more
  unfolding order_of_numbers
  numbers_more h = rw (lt_z-false a b h, h, order_of_numbers)

  pub numbers-equal : a ≡ b → order_of_numbers a b ≡ equal
  numbers-equal e = rw (← e) (numbers-refl a)

pub numbers-total : TotalOrder order_of_numbers
numbers-total = record { equal-eq = same; flip = flips; trans = passes }
  where
    same : (x y : ℤ) → order_of_numbers x y ≡ equal → x ≡ y
    same x y e = go (number-trichotomy x y)
      where
        go : (lt_z x y ≡ true) ⊎ ((lt_z y x ≡ true) ⊎ (x ≡ y)) → x ≡ y
        go (inl l) = apart (cc (numbers-less x y l))
        go (inr (inl l)) = apart (cc (numbers_more x y l))
        go (inr (inr q)) = q

    flips : (x y : ℤ) → order_of_numbers y x ≡ flipped (order_of_numbers x y)
    flips x y = go (number-trichotomy x y)
      where
        go : (lt_z x y ≡ true) ⊎ ((lt_z y x ≡ true) ⊎ (x ≡ y)) → order_of_numbers y x ≡ flipped (order_of_numbers x y)
        go (inl l) = numbers_more y x l ∙ sym (ap flipped (numbers-less x y l))
        go (inr (inl l)) = numbers-less y x l ∙ sym (ap flipped (numbers_more x y l))
        go (inr (inr q)) = numbers-equal y x (sym q) ∙ sym (ap flipped (numbers-equal x y q))

    below : (x y : ℤ) → order_of_numbers x y ≡ less → lt_z x y ≡ true
    below x y e = go (number-trichotomy x y)
      where
        go : (lt_z x y ≡ true) ⊎ ((lt_z y x ≡ true) ⊎ (x ≡ y)) → lt_z x y ≡ true
        go (inl l) = l
        go (inr (inl l)) = apart (cc (numbers_more x y l))
        go (inr (inr q)) = apart (cc (numbers-equal x y q))

    passes : (x y z : ℤ) → order_of_numbers x y ≡ less → order_of_numbers y z ≡ less → order_of_numbers x z ≡ less
    passes x y z h k = numbers-less x z (lt_z-trans x y z (below x y h) (below y z k))

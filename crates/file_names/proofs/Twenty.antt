-- The last of twenty digits: whether the number is at most 2^63 - 1 is known only with it.
use mathlib.Core.Path.{◌≡◌, refl, ap, ◌∙◌}
use mathlib.Core.Bool.{Bool, true, false}
use mathlib.Core.List.{[], ◌∷◌, ◌++◌}
use Rattle.std.specs.Prelude.{Ok, Err}
use Prim.Native.Nat.{ℕ, ◌+◌, ◌-◌, ◌*◌, ◌≤◌, ◌<◌}
use native.Mathlib.Omega.{arith}
use lib.ListN.{length, take, get_or}
use borrow.Author.Tests.{le-leb, lt-leb}
use Rattle.std.proofs.lemmas.List.{take_more}
use Rattle.rules.specs.Bytes.{Bytes, ◌>>=◌}
use Rattle.rules.specs.Numbers.{is_digit, decimal, decimal_from, most}
use Rattle.file_names.specs.Names.{digits_is, number_is}
use Rattle.rules.proofs.Decimals.{decimal_digit, decimal-other}
use Rattle.file_names.specs.declared.Name.TheVariants.{Other, TooLarge}

module _ (n b : ℕ) where
  pub last-other : is_digit b ≡ false → Err Other ≡ digits_is (decimal_from n (b ∷ []))
  unfolding decimal_from digits_is
  last-other e = rw (decimal_from, e)

  pub last-above : is_digit b ≡ true → 9223372036854775807 < n * 10 + (b - 48) → Err TooLarge ≡ digits_is (decimal_from n (b ∷ []))
  unfolding decimal_from digits_is number_is most
  last-above e h = rw (decimal_from, e, lt-leb _ _ h)

  pub last-number : is_digit b ≡ true → n * 10 + (b - 48) ≤ 9223372036854775807 → Ok (record { 0 = n * 10 + (b - 48) }) ≡ digits_is (decimal_from n (b ∷ []))
  unfolding decimal_from digits_is number_is most
  last-number e h = rw (decimal_from, e, le-leb _ _ h)

-- ---- one digit behind others

digit-behind : (t : Bytes) (b k : ℕ) → decimal_from k (t ++ b ∷ []) ≡ decimal_from k t >>= (λ n. decimal_from n (b ∷ []))
unfolding decimal_from
digit-behind [] b k = refl
digit-behind (c ∷ t) b k = go (is_digit c) refl (digit-behind t b (k * 10 + (c - 48)))
  where
    go : (x : Bool) → is_digit c ≡ x → decimal_from (k * 10 + (c - 48)) (t ++ b ∷ []) ≡ decimal_from (k * 10 + (c - 48)) t >>= (λ n. decimal_from n (b ∷ []))
        → decimal_from k (c ∷ (t ++ b ∷ [])) ≡ decimal_from k (c ∷ t) >>= (λ n. decimal_from n (b ∷ []))
    go true p e = rw (decimal_digit c (t ++ b ∷ []) k p, decimal_digit c t k p) e
    go false p e = rw (decimal-other c (t ++ b ∷ []) k p, decimal-other c t k p)

pub twenty-parts : (s : Bytes) → 20 ≤ length s → decimal (take 20 s) ≡ decimal (take 19 s) >>= (λ n. decimal_from n (get_or s 19 0 ∷ []))
unfolding decimal
twenty-parts [] h = absurd (omega arith)
twenty-parts (b ∷ s) h = ap (decimal_from 0) (take_more (b ∷ s) 19 0 (omega arith)) ∙ digit-behind (b ∷ take 18 s) (get_or (b ∷ s) 19 0) 0

-- The order of one name to the next, as the code tells it.
use mathlib.Core.Path.{◌≡◌, refl}
use Prim.Native.Nat.{ℕ, ◌+◌, ◌*◌, ◌-◌, ◌<◌}
use native.Mathlib.Omega.{arith}
use lib.ListN.{take, drop}
use Rattle.rules.specs.Bytes.{Bytes, Order as RuleOrder, less, equal, more, order, is_less}
use Rattle.std.specs.declared.cmp.Ordering.{Ordering}
use Rattle.std.specs.Ordering.{is_lt}
use Rattle.bytes_values.specs.Answers.{order_is}
use Rattle.file_bundle.specs.Files.{first_two, left}
use Rattle.file_bundle.proofs.Entries.{entry-padded, first_two-next}

is_lt-order : (o : RuleOrder) → is_lt (order_is o) ≡ is_less o
unfolding order_is is_less
is_lt-order less = refl
is_lt-order equal = refl
is_lt-order more = refl

module _ (s : Bytes) (n k : ℕ) (h : k < n) (more : k + 1 ≡ n → ⊥) where
  pub is_lt-next : (o : Ordering)
      → o
      ≡ order_is (order (take (4 + 112 * k + 96 - (4 + 112 * k)) (drop (4 + 112 * k) s))
      (take (4 + 112 * k + 112 + 96 - (4 + 112 * k + 112)) (drop (4 + 112 * k + 112) s)))
      → is_lt o ≡ first_two (left s n k)
  is_lt-next o e =
      let a = 4 + 112 * k in
      let l : k + 1 < n = strictly in
      rw (e, entry-padded a s (a + 96) refl, entry-padded (a + 112) s (a + 112 + 96) refl, first_two-next s n k l) (is_lt-order _)
    where
      strictly : k + 1 < n
      strictly = omega arith

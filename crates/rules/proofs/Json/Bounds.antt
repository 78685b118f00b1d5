-- Loops with a bound: any bound from the number of bytes on gives the same, because a loop takes a byte or more for each turn.
use mathlib.Core.Path.{◌≡◌, refl, sym, ap, ◌∙◌, subst}
use Rattle.std.specs.Prelude.{Option, None, Some}
use mathlib.Core.List.{◌++◌, append_assoc}
use Prim.Native.Nat.{ℕ, zero, suc, ◌+◌, ◌≤◌}
use native.Mathlib.Omega.{arith}
use lib.ListN.{length, length-append}
use Rattle.rules.specs.Json.Text.{Text, Taker}
use Rattle.rules.proofs.Tests.{apart}
use Rattle.rules.proofs.Json.Suffix.{Beside, beside_same, beside-append, Reads, some_same}

-- `read`, with some bound, answers `answer r` of t: it passed a byte or more and left r,
-- and does the same with every bound from the number of bytes passed on, where another text stands behind that begins as r does
pub record Within {O : Type 0} (read : ℕ → Text → O) (answer : Text → O) (t r : Text) : Type 0 where
  pub passed : Text
  pub split : t ≡ passed ++ r
  pub enough : 1 ≤ length passed
  pub again : (n : ℕ) → length passed ≤ n → (v : Text) → Beside r v → read n (passed ++ v) ≡ answer v

-- a loop whose bound is above the number of bytes
pub within-reads : {O : Type 0} {read : ℕ → Text → O} {answer : Text → O} {t r : Text} → Within read answer t r
    → Reads 1 (λ u. read (suc (length u)) u) answer t r
within-reads h = record {
  passed = h.passed;
  split = h.split;
  enough = h.enough;
  again = λ v k. h.again (suc (length (h.passed ++ v))) (omega (arith, length-append h.passed v)) v k;
}

abbrev pub EachWithin : {A : Type 0} → (ℕ → Taker A) → Type 0
EachWithin {A} read = (n : ℕ) (x : A) (t r : Text) → read n t ≡ Some (x, r) → Within read (λ v. Some (x, v)) t r

module _ {A : Type 0} {read : ℕ → Taker A} (each : EachWithin read) where
  -- an answer is the answer under every bound from the number of bytes on
  pub within_more : {n m : ℕ} {t : Text} {p : A × Text} → read n t ≡ Some p → length t ≤ m → read m t ≡ Some p
  within_more {n} {m} {t} {p} e l =
      let h : Within read (λ v. Some (p.0, v)) t p.1 = each n p.0 t p.1 e in
      let k : length t ≡ length h.passed + length p.1 = ap length h.split ∙ length-append h.passed p.1 in
      ap (read m) h.split ∙ h.again m (omega arith) p.1 (beside_same p.1)

  pub within-bound : {n m : ℕ} {t : Text} → length t ≤ n → length t ≤ m → read n t ≡ read m t
  within-bound {n} {m} {t} k l = go (read n t) refl (read m t) refl
    where
      go : (o : Option (A × Text)) → read n t ≡ o → (q : Option (A × Text)) → read m t ≡ q → read n t ≡ read m t
      go (Some p) e q f = e ∙ sym (within_more e l)
      go None e (Some p) f = apart (cc (within_more f k))
      go None e None f = e ∙ sym f

-- the same answer, written in two ways
pub within-taken : {A : Type 0} {read : ℕ → Taker A} {t : Text} {p q : A × Text} → Some p ≡ Some q
    → Within read (λ v. Some (p.0, v)) t p.1 → Within read (λ v. Some (q.0, v)) t q.1
within-taken {A} {read} {t} e h = subst (λ (y : A × Text). Within read (λ v. Some (y.0, v)) t y.1) (some_same e) h

-- ---- loops, turn by turn

module _ {O P : Type 0} {read : ℕ → Text → P} {result : Text → P} {first answer : Text → O} {t r : Text} (h : Reads 1 first answer t r) where
  -- the last turn reads what `first` reads
  pub within-last : ((n : ℕ) (w v : Text) → first w ≡ answer v → read (suc n) w ≡ result v) → Within read result t r
  within-last f = record { passed = h.passed; split = h.split; enough = h.enough; again = go }
    where
      go : (n : ℕ) → length h.passed ≤ n → (v : Text) → Beside r v → read n (h.passed ++ v) ≡ result v
      go zero l v j = absurd (omega (arith, h.enough, l))
      go (suc n) l v j = f n (h.passed ++ v) v (h.again v j)

  -- a turn reads what `first` reads, and the loop goes on behind it
  pub within-turn : {rest : Text → P} {u : Text} → Within read rest r u
      → ((n : ℕ) (w s v : Text) → first w ≡ answer s → read n s ≡ rest v → read (suc n) w ≡ result v) → Within read result t u
  within-turn {rest} {u} k f = record {
    passed = h.passed ++ k.passed;
    split = h.split ∙ ap (λ (x : Text). h.passed ++ x) k.split ∙ sym (append_assoc h.passed k.passed u);
    enough = omega (arith, h.enough, length-append h.passed k.passed);
    again = go;
  }
    where
      go : (n : ℕ) → length (h.passed ++ k.passed) ≤ n → (v : Text) → Beside u v → read n ((h.passed ++ k.passed) ++ v) ≡ result v
      go zero l v j = absurd (omega (arith, h.enough, l, length-append h.passed k.passed))
      go (suc n) l v j =
          let behind-it : Beside r (k.passed ++ v) = subst (λ (x : Text). Beside x (k.passed ++ v)) (sym k.split) (beside-append k.passed j) in
          let fewer : length k.passed ≤ n = omega (arith, h.enough, l, length-append h.passed k.passed) in
          ap (read (suc n)) (append_assoc h.passed k.passed v)
          ∙ f n (h.passed ++ (k.passed ++ v)) (k.passed ++ v) v (h.again (k.passed ++ v) behind-it) (k.again n fewer v j)

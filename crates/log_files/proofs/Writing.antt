-- Digits written from the last to the first over the front of a slice.
use mathlib.Core.Path.{◌≡◌, refl, sym, ap, ◌∙◌}
use mathlib.Core.Logic.{◌⊎◌, inl, inr}
use mathlib.Core.List.{[], ◌∷◌, ◌++◌, append-nil, append_assoc}
use Prim.Native.Nat.{ℕ, zero, suc, ◌+◌, ◌-◌, ◌/◌, ◌%◌, ◌≤◌, ◌<◌}
use native.Mathlib.Nat.{eq-or-lt_of_le}
use native.Mathlib.Omega.{arith}
use lib.ListN.{length, take, drop, set}
use lib.Seq.{take-take, take_all, take-append-le, append_snoc}
use Rattle.facts.specs.Moves.{put_at}
use Rattle.facts.proofs.Moves.{put_at-cons, put_at-none}
use Rattle.rules.specs.Bytes.{Bytes}
use Rattle.log_files.specs.Logs.{digits}
use Rattle.log_files.proofs.Digits.{length_digits}

-- of the digits of v, those from place i on are written, and `left` is still to be
pub record Writing (v : ℕ) (t₀ t : Bytes) (i left : ℕ) : Type 0 where
  pub behind : Bytes
  pub size : i + length behind ≡ 20
  pub written : t ≡ put_at i behind t₀
  pub all : digits i left ++ behind ≡ digits 20 v

module _ {v : ℕ} {t₀ : Bytes} (room : 20 ≤ length t₀) where
  pub writing_start : Writing v t₀ t₀ 20 v
  writing_start = record { behind = []; size = refl; written = sym (put_at-none 20 t₀); all = append-nil (digits 20 v) }

  module _ {t : Bytes} {i left : ℕ} (w : Writing v t₀ t i left) where
    pub writing-next : 0 < i → Writing v t₀ (set t (i - 1) (48 + left % 10)) (i - 1) (left / 10)
    unfolding digits
    writing-next h =
        let d : ℕ = 48 + left % 10 in
        let s : i - 1 + 1 ≡ i = omega arith in
        let k : i ≡ suc (i - 1) = omega arith in
        record {
          behind = d ∷ w.behind;
          size = omega (arith, w.size);
          written = ap (λ (x : Bytes). set x (i - 1) d) w.written ∙ (rw s at (put_at-cons (i - 1) w.behind t₀ d (omega (arith, w.size))));
          all = sym (append_snoc (digits (i - 1) (left / 10)) d w.behind) ∙ (rw k at w.all);
        }

    -- where what is left is no more than what stood there before
    pub writing-end : take i t₀ ≡ digits i left → t ≡ digits 20 v ++ drop 20 t₀
    unfolding put_at
    writing-end e =
        let a : t ≡ take i t₀ ++ (w.behind ++ drop 20 t₀) = rw (← w.size) w.written in
        a ∙ rw (e, ← w.all) (sym (append_assoc (digits i left) w.behind (drop 20 t₀)))

-- ---- zeros are what stood there

pub digits-before : (t : Bytes) (i left : ℕ) → i ≤ 0 → take i t ≡ digits i left
unfolding digits
digits-before t zero left h = refl
digits-before t (suc i) left h = absurd (omega arith)

take-zeros : (n i : ℕ) → i ≤ n → take i (digits n 0) ≡ digits i 0
unfolding digits
take-zeros zero i h = let e : i ≡ 0 = omega arith in rw e
take-zeros (suc n) i h = go (take-zeros n i) (eq-or-lt_of_le h)
  where
    go : (i ≤ n → take i (digits n 0) ≡ digits i 0) → (i ≡ suc n) ⊎ (i < suc n) → take i (digits (suc n) 0) ≡ digits i 0
    go ih (inl e) = rw e (take_all (suc n) (digits (suc n) 0) (omega (arith, length_digits (suc n) 0)))
    go ih (inr k) = take-append-le i (digits n 0) (48 ∷ []) (omega (arith, length_digits n 0)) ∙ ih (omega arith)

pub digits-zeros : (t : Bytes) (i left : ℕ) → take 20 t ≡ digits 20 0 → i ≤ 20 → left ≡ 0 → take i t ≡ digits i left
digits-zeros t i left z h e = rw e (sym (take-take i 20 t h) ∙ ap (take i) z ∙ take-zeros 20 i h)

-- Laws of runs of plain bytes: how eight at a time find them, and that what holds over each plain byte holds over a run.
use mathlib.Core.Path.{◌≡◌, sym, ap, ◌∙◌, subst}
use mathlib.Core.Bool.{true}
use Prim.Native.Nat.{ℕ, zero, suc, ◌+◌, ◌-◌, ◌≤◌, ◌<◌}
use native.Mathlib.Omega.{arith}
use lib.Dec.{leb}
use lib.ListN.{length, get_or}
use borrow.Author.Tests.{leb-true, leb-false}
use Rattle.rules.specs.Json.Text.{Text}
use Rattle.rules.specs.Json.Strings.{is_plain}
use Rattle.rules.proofs.Tests.{by}
use Rattle.bytes_eights.specs.Words.{Eight, Plain, PlainTo}
use Rattle.json_characters.specs.Runs.{Plains, Run}

pub plains-none : (s : Text) (a : ℕ) → Plains s a a
plains-none s a j h m = absurd (omega arith)

pub plains-joined : (s : Text) (a b c : ℕ) → Plains s a b → Plains s b c → Plains s a c
plains-joined s a b c f g j h m = by (leb b j) (λ t. g j (leb-true b j t) m) (λ u. f j h (leb-false b j u))

pub plains-one : (s : Text) (i : ℕ) → is_plain (get_or s i 0) ≡ true → Plains s i (i + 1)
plains-one s i e j h m =
    let q : i ≡ j = omega arith in
    subst (λ (k : ℕ). is_plain (get_or s k 0) ≡ true) q e

-- the bytes that a number of eight finds plain
pub plains-eight : (s : Text) (i w n : ℕ) → Eight w s i → n ≤ 8 → Plain w n → Plains s i (i + n)
plains-eight s i w n f l p j h m =
    let q : i + (j - i) ≡ j = omega arith in
    subst (λ (k : ℕ). is_plain (get_or s k 0) ≡ true) q (ap is_plain (sym (f (j - i) (omega arith))) ∙ p (j - i) (omega arith))

-- a run that ends within a number of eight
pub run-eight : (s : Text) (at i w n : ℕ) → at ≤ i → Plains s at i → i + 8 ≤ length s → Eight w s i → n < 8 → PlainTo w n → Run s at (i + n)
run-eight s at i w n h p l f m t = (
  omega arith,
  omega arith,
  plains-joined s at i (i + n) p (plains-eight s i w n f (omega arith) t.0),
  λ k. ap is_plain (sym (f n m)) ∙ t.1 m,
)

-- what each plain byte keeps, a run keeps
pub plains-keep : (P : ℕ → Type 0) (s : Text) → ((i : ℕ) → P i → i < length s → is_plain (get_or s i 0) ≡ true → P (i + 1))
    → (a b : ℕ) → a ≤ b → b ≤ length s → Plains s a b → P a → P b
plains-keep P s step a b h l p x = subst P same (go (b - a) (omega arith))
  where
    same : a + (b - a) ≡ b
    same = omega arith

    go : (d : ℕ) → a + d ≤ b → P (a + d)
    go zero m = subst P (omega arith) x
    go (suc d) m =
        let e : a + d + 1 ≡ a + suc d = omega arith in
        subst P e (step (a + d) (go d (omega arith)) (omega arith) (p (a + d) (omega arith) (omega arith)))

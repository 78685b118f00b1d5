-- Numbers and their parts, by what they pass (`Reads`).
use mathlib.Core.Path.{◌≡◌, refl, sym, ap, subst}
use mathlib.Core.Bool.{true, false}
use Rattle.std.specs.Prelude.{Some}
use mathlib.Core.List.{[], ◌∷◌}
use Prim.Native.Nat.{ℕ}
use native.Mathlib.Omega.{arith}
use lib.Dec.{eqb}
use Rattle.rules.specs.Bytes.{◌>>=◌, first}
use Rattle.rules.specs.Numbers.{is_digit}
use Rattle.rules.specs.Json.Text.{Text}
use Rattle.rules.specs.Json.Numbers.{digits, digits1, minus, int, frac, sign, exp, number}
use Rattle.rules.proofs.Tests.{apart, by}
use Rattle.rules.proofs.Json.Suffix.{Reads, EachReads, reads_end, reads_here, reads_byte, reads_made, reads_then, reads-least}
use Rattle.rules.proofs.Json.Suffix.{some_same, bound, answered-here, answered_byte, answered-none, answered-after, answered-as}
use Rattle.rules.proofs.Json.TextReads.{all, passes-reads}

pub digits_more : (b : ℕ) (t : Text) → is_digit b ≡ true → digits (b ∷ t) ≡ digits t
unfolding digits
digits_more b t e = rw (digits, e)

pub digits-stop : (b : ℕ) (t : Text) → is_digit b ≡ false → digits (b ∷ t) ≡ b ∷ t
unfolding digits
digits-stop b t e = rw (digits, e)

pub digits-reads : (t : Text) → Reads 0 digits all t (digits t)
unfolding digits
digits-reads = passes-reads is_digit refl digits_more digits-stop

pub digits1-reads : EachReads 1 digits1
unfolding digits1
digits1-reads [] r e = apart (cc)
digits1-reads (b ∷ t) r e = by (is_digit b)
    (λ p. answered-after {other = λ w. Some (digits w)} e (λ w. rw (digits1, p))
    (λ q. subst (Reads 0 (λ w. Some (digits w)) Some t) (some_same q) (reads_made (λ w u d. ap Some d) (digits-reads t))))
    (λ p. answered-none e (rw (digits1, p)))

pub minus-reads : (t : Text) → Reads 0 minus all t (minus t)
unfolding minus
minus-reads [] = reads_end refl
minus-reads (b ∷ t) = by (eqb b 0x2D)
    (λ p. let f : (w : Text) → minus (b ∷ w) ≡ w = λ w. rw (minus, p) in
    subst (Reads 0 minus all (b ∷ t)) (sym (f t)) (reads-least (omega arith) (reads_byte t f)))
    (λ p. let f : (w : Text) → minus (b ∷ w) ≡ b ∷ w = λ w. rw (minus, p) in
    subst (Reads 0 minus all (b ∷ t)) (sym (f t)) (reads_here t refl f))

pub int-reads : EachReads 1 int
unfolding int
int-reads [] r e = apart (cc)
int-reads (b ∷ t) r e = by (eqb b 0x30)
    (λ p. answered_byte e (λ w. rw (int, p)))
    (λ p. answered-as {other = digits1} e (λ w. rw (int, p)) (digits1-reads (b ∷ t) r))

pub frac-reads : EachReads 0 frac
unfolding frac
frac-reads [] r e = subst (Reads 0 frac Some []) (some_same e) (reads_end refl)
frac-reads (b ∷ t) r e = by (eqb b 0x2E)
    (λ p. reads-least (omega arith) (answered-after {other = digits1} e (λ w. rw (frac, p)) (digits1-reads t r)))
    (λ p. answered-here e refl (λ w. rw (frac, p)))

pub sign_reads : (t : Text) → Reads 0 sign all t (sign t)
unfolding sign first
sign_reads [] = reads_end refl
sign_reads (b ∷ t) = by (eqb b 0x2D)
    (λ p. past (λ w. rw (sign, p)))
    (λ p. by (eqb b 0x2B)
    (λ q. past (λ w. rw (sign, p, q)))
    (λ q. let f : (w : Text) → sign (b ∷ w) ≡ b ∷ w = λ w. rw (sign, p, q) in
    subst (Reads 0 sign all (b ∷ t)) (sym (f t)) (reads_here t refl f)))
  where
    past : ((w : Text) → sign (b ∷ w) ≡ w) → Reads 0 sign all (b ∷ t) (sign (b ∷ t))
    past f = subst (Reads 0 sign all (b ∷ t)) (sym (f t)) (reads-least (omega arith) (reads_byte t f))

-- what stands behind e or E
power-reads : EachReads 1 (λ t. digits1 (sign t))
power-reads t r e = reads_then (sign_reads t) (digits1-reads (sign t) r e) (λ w x s. ap digits1 s)

pub exp-reads : EachReads 0 exp
unfolding exp first
exp-reads [] r e = subst (Reads 0 exp Some []) (some_same e) (reads_end refl)
exp-reads (b ∷ t) r e = by (eqb b 0x65)
    (λ p. past (λ w. rw (exp, p)))
    (λ p. by (eqb b 0x45)
    (λ q. past (λ w. rw (exp, p, q)))
    (λ q. answered-here e refl (λ w. rw (exp, p, q))))
  where
    past : ((w : Text) → exp (b ∷ w) ≡ digits1 (sign w)) → Reads 0 exp Some (b ∷ t) r
    past f = reads-least (omega arith) (answered-after {other = λ w. digits1 (sign w)} e f (power-reads t r))

-- [ frac ] [ exp ]
ends-reads : EachReads 0 (λ t. frac t >>= exp)
ends-reads t r e =
    bound (frac t) exp e (λ u p q.
    reads_then (frac-reads t u p) (exp-reads u r q) (λ w x s. ap (λ o. o >>= exp) s))

pub number-reads : EachReads 1 number
unfolding number
number-reads t r e =
    bound (int (minus t)) (λ u. frac u >>= exp) e (λ u p q.
    reads_then {both = number} (reads_then {both = λ w. int (minus w)} (minus-reads t) (int-reads (minus t) u p) (λ w x s. ap int s)) (ends-reads u r q)
    (λ w x s. rw (number, s)))

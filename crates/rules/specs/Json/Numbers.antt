-- Numbers of RFC 8259, and the paper's whole numbers among them.
use Rattle.std.specs.Prelude.{true, false, [], ◌∷◌, ℕ, eqb, leb}
use Rattle.std.specs.Prelude.{Option, None, Some}
use Rattle.rules.specs.Bytes.{◌>>=◌, guard, first, is_empty}
use Rattle.rules.specs.Numbers.{is_digit, decimal, most}
use Rattle.rules.specs.Json.Text.{Text, Reader}

-- *DIGIT
unfoldable pub digits : Text → Text
digits [] = []
digits (b ∷ t) = elim (is_digit b) [ true ↦ digits t | false ↦ b ∷ t ]

-- 1*DIGIT
unfoldable pub digits1 : Reader
digits1 [] = None
digits1 (b ∷ t) = elim (is_digit b) [ true ↦ Some (digits t) | false ↦ None ]

-- [ minus ], minus = %x2D
unfoldable pub minus : Text → Text
minus [] = []
minus (b ∷ t) = elim (eqb b 0x2D) [ true ↦ t | false ↦ b ∷ t ]

-- int = zero / ( digit1-9 *DIGIT )
unfoldable pub int : Reader
int [] = None
int (b ∷ t) = elim (eqb b 0x30) [ true ↦ Some t | false ↦ digits1 (b ∷ t) ]

-- [ frac ], frac = decimal-point 1*DIGIT
unfoldable pub frac : Reader
frac [] = Some []
frac (b ∷ t) = elim (eqb b 0x2E) [ true ↦ digits1 t | false ↦ Some (b ∷ t) ]

-- [ minus / plus ]
unfoldable pub sign : Text → Text
sign [] = []
sign (b ∷ t) = first ((eqb b 0x2D, t) ∷ (eqb b 0x2B, t) ∷ []) (b ∷ t)

-- [ exp ], exp = e [ minus / plus ] 1*DIGIT
unfoldable pub exp : Reader
exp [] = Some []
exp (b ∷ t) = first ((eqb b 0x65, digits1 (sign t)) ∷ (eqb b 0x45, digits1 (sign t)) ∷ []) (Some (b ∷ t))

-- number = [ minus ] int [ frac ] [ exp ]
unfoldable pub number : Reader
number t = do
  r ← int (minus t)
  u ← frac r
  exp u

-- a whole number: digits without sign, fraction or exponent, as RFC 8259 writes them (int), 0 to 2^63 - 1
unfoldable pub whole : Text → Option ℕ
whole t = do
  r ← int t
  _ ← guard (is_empty r)
  n ← decimal t
  _ ← guard (leb n most)
  Some n

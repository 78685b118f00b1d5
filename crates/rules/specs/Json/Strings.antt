-- Strings of RFC 8259 and the bytes, in UTF-8, that they stand for. A lone surrogate escape is malformed.
use Rattle.std.specs.Prelude.{Bool, true, false, [], ◌∷◌, ◌++◌, ℕ, zero, suc, ◌+◌, ◌-◌, ◌*◌, ◌/◌, ◌%◌, eqb, ltb, length}
use Rattle.std.specs.Prelude.{Option, None, Some}
use Rattle.rules.specs.Bytes.{Bytes, ascii, ◌>>=◌, guard, first, among}
use Rattle.rules.specs.Json.Text.{Reader, Taker, spelled, byte_in, word}

-- ---- unescaped = %x20-21 / %x23-5B / %x5D-10FFFF, in UTF-8 (RFC 3629, section 4)

-- n times UTF8-tail = %x80-BF
unfoldable pub tails : ℕ → Reader
tails zero t = Some t
tails (suc n) t = do
  r ← byte_in 0x80 0xBF t
  tails n r

-- by a character's first byte above 0x7F: from where to where its second ranges, and how many tails follow
unfoldable pub leads : ℕ → Option (ℕ × ℕ × ℕ)
leads b =
    first
    ((among 0xC2 0xDF b, Some (0x80, 0xBF, 0))
    ∷ (eqb b 0xE0, Some (0xA0, 0xBF, 1))
    ∷ (among 0xE1 0xEC b, Some (0x80, 0xBF, 1))
    ∷ (eqb b 0xED, Some (0x80, 0x9F, 1))
    ∷ (among 0xEE 0xEF b, Some (0x80, 0xBF, 1))
    ∷ (eqb b 0xF0, Some (0x90, 0xBF, 2))
    ∷ (among 0xF1 0xF3 b, Some (0x80, 0xBF, 2))
    ∷ (eqb b 0xF4, Some (0x80, 0x8F, 2))
    ∷ [])
    None

unfoldable pub is_plain : ℕ → Bool
is_plain b = first ((among 0x20 0x21 b, true) ∷ (among 0x23 0x5B b, true) ∷ (among 0x5D 0x7F b, true) ∷ []) false

-- UTF8-2 / UTF8-3 / UTF8-4
unfoldable pub multibyte : Reader
multibyte [] = None
multibyte (b ∷ t) = do
  (lo, hi, n) ← leads b
  r ← byte_in lo hi t
  tails n r

unfoldable pub unescaped : Reader
unescaped [] = None
unescaped (b ∷ t) = elim (is_plain b) [ true ↦ Some t | false ↦ multibyte (b ∷ t) ]

-- ---- escapes

-- %x75 4HEXDIG: the value of a digit
unfoldable pub hex_digit : ℕ → Option ℕ
hex_digit b =
    first
    ((among 0x30 0x39 b, Some (b - 0x30))
    ∷ (among 0x41 0x46 b, Some (b - 0x37))
    ∷ (among 0x61 0x66 b, Some (b - 0x57))
    ∷ [])
    None

-- n digits, behind digits that stand for `sofar`
unfoldable pub hex_digits : ℕ → (sofar : ℕ) → Taker ℕ
hex_digits zero sofar t = Some (sofar, t)
hex_digits (suc n) sofar [] = None
hex_digits (suc n) sofar (b ∷ t) = do
  d ← hex_digit b
  hex_digits n (sofar * 16 + d) t

unfoldable pub code_unit : Taker ℕ
code_unit t = hex_digits 4 0 t

pub data Surrogate : Type 0 where
  high low neither : Surrogate

unfoldable pub surrogate : ℕ → Surrogate
surrogate u = first ((among 0xD800 0xDBFF u, high) ∷ (among 0xDC00 0xDFFF u, low) ∷ []) neither

-- a code unit that is no surrogate stands for itself; a high one needs an escaped low one behind it
unfoldable pub paired : Surrogate → ℕ → Taker ℕ
paired neither u t = Some (u, t)
paired low u t = None
paired high u t = do
  r ← word (ascii "\\u") t
  (w, q) ← code_unit r
  _ ← guard (among 0xDC00 0xDFFF w)
  Some (0x10000 + (u - 0xD800) * 0x400 + (w - 0xDC00), q)

-- the code point of the digits behind \u
unfoldable pub code_point : Taker ℕ
code_point t = do
  (u, r) ← code_unit t
  paired (surrogate u) u r

-- a code point in UTF-8 (RFC 3629, section 3)
unfoldable pub utf8 : ℕ → Bytes
utf8 c =
    first
    ((ltb c 0x80, c ∷ [])
    ∷ (ltb c 0x800, (0xC0 + c / 0x40) ∷ (0x80 + c % 0x40) ∷ [])
    ∷ (ltb c 0x10000, (0xE0 + c / 0x1000) ∷ (0x80 + c / 0x40 % 0x40) ∷ (0x80 + c % 0x40) ∷ [])
    ∷ [])
    ((0xF0 + c / 0x40000) ∷ (0x80 + c / 0x1000 % 0x40) ∷ (0x80 + c / 0x40 % 0x40) ∷ (0x80 + c % 0x40) ∷ [])

-- %x22 / %x5C / %x2F / b / f / n / r / t behind the backslash: the byte that is meant
unfoldable pub short_escape : ℕ → Option ℕ
short_escape b =
    first
    ((eqb b 0x22, Some 0x22)
    ∷ (eqb b 0x5C, Some 0x5C)
    ∷ (eqb b 0x2F, Some 0x2F)
    ∷ (eqb b 0x62, Some 0x08)
    ∷ (eqb b 0x66, Some 0x0C)
    ∷ (eqb b 0x6E, Some 0x0A)
    ∷ (eqb b 0x72, Some 0x0D)
    ∷ (eqb b 0x74, Some 0x09)
    ∷ [])
    None

-- behind the backslash: the code point that is meant
unfoldable pub escaped : Taker ℕ
escaped [] = None
escaped (b ∷ t) = elim (eqb b 0x75) [
  | true ↦ code_point t
  | false ↦ do
    c ← short_escape b
    Some (c, t)
]

-- ---- strings

-- char = unescaped / escape ( .. ): the bytes that it stands for
unfoldable pub char : Taker Bytes
char [] = None
char (b ∷ t) = elim (eqb b 0x5C) [
  | true ↦ do
    (c, r) ← escaped t
    Some (utf8 c, r)
  | false ↦ spelled unescaped (b ∷ t)
]

-- *char quotation-mark, with fewer characters than the bound
unfoldable pub chars : (bound : ℕ) → Taker Bytes
chars zero t = None
chars (suc n) [] = None
chars (suc n) (b ∷ t) = elim (eqb b 0x22) [
  | true ↦ Some ([], t)
  | false ↦ do
    (x, r) ← char (b ∷ t)
    (xs, u) ← chars n r
    Some (x ++ xs, u)
]

-- string = quotation-mark *char quotation-mark, behind the opening quote
unfoldable pub string : Taker Bytes
string t = chars (suc (length t)) t

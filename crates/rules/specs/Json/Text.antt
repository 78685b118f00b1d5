-- Readers of texts. A reader takes a text to what is left behind the thing that it reads, or to none where the text begins with no such thing.
use Rattle.std.specs.Prelude.{Bool, true, false, [], ◌∷◌, ℕ, ◌-◌, eqb, length, take}
use Rattle.std.specs.Prelude.{Option, None, Some}
use Rattle.rules.specs.Bytes.{Bytes, ◌>>=◌, among, first}

abbrev pub Text : Type 0
Text = Bytes

abbrev pub Reader : Type 0
Reader = Text → Option Text

-- a reader that also says what it read
abbrev pub Taker : Type 0 → Type 0
Taker A = Text → Option (A × Text)

-- what is left, alone
abbrev pub behind : {A : Type 0} → Option (A × Text) → Option Text
behind None = None
behind (Some p) = Some p.1

-- the text that a reader passes over, and what is left
unfoldable pub spelled : Reader → Taker Text
spelled read t = do
  r ← read t
  Some (take (length t - length r) t, r)

-- ws = *( %x20 / %x09 / %x0A / %x0D )
unfoldable pub is_ws : ℕ → Bool
is_ws b = first ((eqb b 0x20, true) ∷ (eqb b 0x09, true) ∷ (eqb b 0x0A, true) ∷ (eqb b 0x0D, true) ∷ []) false

unfoldable pub ws : Text → Text
ws [] = []
ws (b ∷ t) = elim (is_ws b) [ true ↦ ws t | false ↦ b ∷ t ]

-- one given byte
unfoldable pub byte : ℕ → Reader
byte c [] = None
byte c (b ∷ t) = elim (eqb b c) [ true ↦ Some t | false ↦ None ]

-- one byte from lo to hi
unfoldable pub byte_in : ℕ → ℕ → Reader
byte_in lo hi [] = None
byte_in lo hi (b ∷ t) = elim (among lo hi b) [ true ↦ Some t | false ↦ None ]

-- the bytes of a word, in order
unfoldable pub word : Bytes → Reader
word [] t = Some t
word (c ∷ w) [] = None
word (c ∷ w) (b ∷ t) = elim (eqb b c) [ true ↦ word w t | false ↦ None ]

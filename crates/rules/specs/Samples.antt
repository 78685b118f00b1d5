-- Lines and bundles for the worked examples: texts write ' for the double quote.
use Rattle.std.specs.Prelude.{true, false, List, [], ◌∷◌, ◌++◌, ℕ, zero, suc, ◌+◌, ◌*◌, ◌-◌, ◌/◌, ◌%◌, eqb, length, replicate}
use Prim.Native.String.{String}
use Rattle.rules.specs.Bytes.{Bytes, ascii}
use Rattle.rules.specs.Bundle.{entry_bytes}

unfoldable pub quotes : Bytes → Bytes
quotes [] = []
quotes (b ∷ bs) = elim (eqb b 0x27) [ true ↦ 0x22 ∷ quotes bs | false ↦ b ∷ quotes bs ]

unfoldable pub json : String → Bytes
json s = quotes (ascii s)

-- each line with its line feed
unfoldable pub body_of : List String → Bytes
body_of [] = []
body_of (l ∷ ls) = json l ++ 0x0A ∷ body_of ls

-- ---- bundles

pub record Sample : Type 0 where
  pub name : Bytes
  pub time : ℕ
  pub body : Bytes

unfoldable pub file : String → (time : ℕ) → List String → Sample
file name time ls = record { name = ascii name; time = time; body = body_of ls }

-- n in so many bytes, little-endian
unfoldable pub little_of : (bytes : ℕ) → ℕ → Bytes
little_of zero n = []
little_of (suc k) n = n % 256 ∷ little_of k (n / 256)

unfoldable pub padded : ℕ → Bytes → Bytes
padded n s = s ++ replicate (n - length s) 0

unfoldable pub contents_of : (at : ℕ) → List Sample → Bytes
contents_of at [] = []
contents_of at (x ∷ xs) =
    padded 96 x.name
    ++ (little_of 4 at
    ++ (little_of 4 (length x.body)
    ++ (little_of 8 x.time
    ++ contents_of (at + length x.body) xs)))

unfoldable pub bodies_of : List Sample → Bytes
bodies_of [] = []
bodies_of (x ∷ xs) = x.body ++ bodies_of xs

-- the samples in the order given
unfoldable pub bundle_of : List Sample → Bytes
bundle_of xs = little_of 4 (length xs) ++ (contents_of (4 + entry_bytes * length xs) xs ++ bodies_of xs)

-- The bundle: a count, the contents entries, then the bodies, each where the last ended.
use Rattle.std.specs.Prelude.{◌≡◌, Bool, true, false, List, [], ◌∷◌, ℕ, zero, suc, ◌+◌, ◌*◌, leb, eqb, length, take, drop}
use Rattle.std.specs.Prelude.{Option, None, Some}
use Rattle.rules.specs.Bytes.{Bytes, ◌>>=◌, guard, is_some, among, is_empty, non_empty, order, is_less}
use Rattle.rules.specs.Numbers.{little}

unfoldable pub most_bytes : ℕ
most_bytes = 1_048_576

unfoldable pub most_entries : ℕ
most_entries = 1_024

unfoldable pub entry_bytes : ℕ
entry_bytes = 112

-- ---- the contents

-- an entry as it stands: name (96 bytes), u32 start, u32 length, u64 modified time
pub record Entry : Type 0 where
  pub padded : Bytes
  pub start : ℕ
  pub size : ℕ
  pub time : ℕ

-- the `size` bytes from `at` on
unfoldable pub field : (at size : ℕ) → Bytes → Bytes
field at size s = take size (drop at s)

unfoldable pub entry_of : Bytes → Entry
entry_of s = record {
  padded = field 0 96 s;
  start = little (field 96 4 s);
  size = little (field 100 4 s);
  time = little (field 104 8 s);
}

-- the n entries that s begins with
unfoldable pub entries : ℕ → Bytes → List Entry
entries zero s = []
entries (suc n) s = entry_of s ∷ entries n (drop entry_bytes s)

unfoldable pub zeros : Bytes → Bool
zeros [] = true
zeros (b ∷ bs) = elim (eqb b 0) [ true ↦ zeros bs | false ↦ false ]

-- bytes from 0x21 to 0x7E, then zeros: the bytes before the zeros
unfoldable pub unpadded : Bytes → Option Bytes
unpadded [] = Some []
unpadded (b ∷ bs) = elim (among 0x21 0x7E b) [
  | true ↦ do
    name ← unpadded bs
    Some (b ∷ name)
  | false ↦ elim (zeros (b ∷ bs)) [ true ↦ Some [] | false ↦ None ]
]

-- a name has 1 byte at least
unfoldable pub name_in : Bytes → Option Bytes
name_in padded = do
  name ← unpadded padded
  non_empty name

-- names ascend strictly, as 96 bytes
unfoldable pub ascending : List Entry → Bool
ascending [] = true
ascending (a ∷ []) = true
ascending (a ∷ b ∷ es) = elim (is_less (order a.padded b.padded)) [ true ↦ ascending (b ∷ es) | false ↦ false ]

-- ---- the files

-- a file: its entry's number from 0, its name, where its body starts in the bundle, its modified time and its body
pub record File : Type 0 where
  pub entry : ℕ
  pub name : Bytes
  pub start : ℕ
  pub time : ℕ
  pub body : Bytes

-- the files of the entries left, the next of which is number k; its body starts at `at`, where `rest` begins, and the last ends where `rest` does
unfoldable pub files_from : (k at : ℕ) → List Entry → (rest : Bytes) → Option (List File)
files_from k at [] rest = do
  _ ← guard (is_empty rest)
  Some []
files_from k at (e ∷ es) rest = do
  name ← name_in e.padded
  _ ← guard (eqb e.start at)
  _ ← guard (leb e.size (length rest))
  fs ← files_from (suc k) (at + e.size) es (drop e.size rest)
  Some (record { entry = k; name = name; start = at; time = e.time; body = take e.size rest } ∷ fs)

-- with the count read: n entries, then the bodies
unfoldable pub files_of : (n : ℕ) → Bytes → Option (List File)
files_of n s = do
  _ ← guard (leb n most_entries)
  _ ← guard (leb (4 + entry_bytes * n) (length s))
  _ ← guard (ascending (entries n (drop 4 s)))
  files_from 0 (4 + entry_bytes * n) (entries n (drop 4 s)) (drop (4 + entry_bytes * n) s)

-- the files of a well-formed bundle; none where it is malformed
unfoldable pub bundle : Bytes → Option (List File)
bundle s = do
  _ ← guard (among 4 most_bytes (length s))
  files_of (little (take 4 s)) s

abbrev pub IsBundle : Bytes → Type 0
IsBundle s = is_some (bundle s) ≡ true

-- What each answer of the crate says, in the rules' terms.
use Rattle.std.specs.Prelude.{◌≡◌, false, List, ℕ, ◌+◌, ◌*◌, ◌≤◌, length}
use Rattle.std.specs.Prelude.{Option, None, Some}
use Rattle.facts.specs.Parts.{part}
use Rattle.rules.specs.Bytes.{Bytes}
use Rattle.rules.specs.Bundle.{File}
use Rattle.file_bundle.specs.Files.{left_fits}
use Rattle.file_bundle.specs.declared.Entry.{Entry}

-- of what the bundle's bytes are: so many files, or malformed
abbrev pub OpenedAs : Option (List File) → Option ℕ → Type 0
OpenedAs o (Some n) = (fs : List File) × (o ≡ Some fs) × (length fs ≡ n)
OpenedAs o None = o ≡ None

-- of entry number k of n, whose body is to start at `at`: the rest decides, from where the next body is to start; or nothing does
abbrev pub Passed : Bytes → (n k at : ℕ) → Option ℕ → Type 0
Passed s n k at (Some b) = (b ≤ length s) × (left_fits s n k at ≡ left_fits s n (k + 1) b)
Passed s n k at None = left_fits s n k at ≡ false

-- of entry number k, whose file is f: where the bundle s has its name and its body, and its time
pub record EntryIs (s : Bytes) (f : File) (k : ℕ) (r : Entry) : Type 0 where
  pub contents : 4 + 112 * k + 96 ≤ length s
  pub short : r.name ≤ 96
  pub name : part s (4 + 112 * k) (4 + 112 * k + r.name) ≡ f.name
  pub start : r.start ≡ f.start
  pub inside : r.start + r.size ≤ length s
  pub body : part s r.start (r.start + r.size) ≡ f.body
  pub time : r.time.0 ≡ f.time
  pub number : f.entry ≡ k

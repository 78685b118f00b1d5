-- A file among the entries of a bundle, and the names that say a version.
use Rattle.std.specs.Prelude.{◌≡◌, [], ◌∷◌, ◌++◌, ℕ, zero, suc, ◌+◌, ◌/◌, ◌%◌, ◌<◌, length}
use Rattle.std.specs.Prelude.{Option, None, Some}
use Rattle.rules.specs.Bytes.{Bytes}
use Rattle.rules.specs.Bundle.{File}
use Rattle.file_bundle.specs.Files.{files_in, file_in}

-- of the file that is looked for in the bundle s: it is that of entry k; or there is none
abbrev pub PlaceIs : Bytes → Option File → Option ℕ → Type 0
PlaceIs s o (Some k) = (k < length (files_in s)) × (o ≡ Some (file_in s k))
PlaceIs s o None = o ≡ None

-- a file's name
abbrev pub title : File → Bytes
title f = f.name

-- v in n decimal digits, zeros in front
unfoldable pub digits : (n : ℕ) → (v : ℕ) → Bytes
digits zero v = []
digits (suc n) v = digits n (v / 10) ++ ((0x30 + v % 10) ∷ [])

abbrev pub twenty : ℕ → Bytes
twenty v = digits 20 v

-- A promised place is the only one: a file has the number of its entry.
use mathlib.Core.Path.{◌≡◌, refl, sym, ap, ◌∙◌}
use Rattle.std.specs.Prelude.{Option}
use Prim.Native.Nat.{ℕ, ◌<◌}
use lib.ListN.{length}
use Rattle.rules.specs.Bytes.{Bytes}
use Rattle.rules.specs.Bundle.{File}
use Rattle.rules.proofs.Tests.{apart}
use Rattle.file_bundle.specs.Files.{files_in, file_in}
use Rattle.rules.proofs.Json.Suffix.{some_same}
use Rattle.file_bundle.proofs.Reading.{found}
use Rattle.log_files.specs.Logs.{PlaceIs}
use Rattle.std.specs.Prelude.{Some, None}

pub number-alone : (s : Bytes) (j k : ℕ) → j < length (files_in s) → k < length (files_in s) → file_in s j ≡ file_in s k → j ≡ k
number-alone s j k l m e = sym (found s j l).file.number ∙ ap (λ (f : File). f.entry) e ∙ (found s k m).file.number

pub place-alone : (s : Bytes) (o : Option File) (p q : Option ℕ) → PlaceIs s o p → PlaceIs s o q → p ≡ q
place-alone s o (Some j) (Some k) h g = ap Some (number-alone s j k h.0 g.0 (some_same (sym h.1 ∙ g.1)))
place-alone s o (Some j) None h g = apart (cc)
place-alone s o None (Some k) h g = apart (cc)
place-alone s o None None h g = refl

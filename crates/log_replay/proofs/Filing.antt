-- A file of the bundle is read as the bytes of its body are, at their place and under its entry's number.
use mathlib.Core.Path.{◌≡◌, sym}
use Prim.Native.Nat.{ℕ, ◌+◌}
use Rattle.facts.specs.Parts.{part}
use Rattle.rules.specs.Bundle.{File}
use Rattle.rules.specs.Json.Text.{Text}
use Rattle.rules.specs.History.{Origin, read_file, read_zero}
use Rattle.rules.specs.History.{State as RuleState}
use Rattle.file_bundle.specs.Answers.{EntryIs}
use Rattle.file_bundle.specs.declared.Entry.{Entry}
use Rattle.log_replay.specs.Answers.{body_as}
use Rattle.rules.proofs.Applying.{read_file-same, read_zero-same}

module _ {src : Text} {f : File} {k : ℕ} {r : Entry} (x : EntryIs src f k r) where
  abbrev body : Text
  body = part src r.start (r.start + r.size)

  pub read_file-body : (limit : ℕ) (of : Origin) (st : RuleState) → read_file limit of (body_as k r.start body) st ≡ read_file limit of f st
  unfolding body_as
  read_file-body limit of st = read_file-same limit of (body_as k r.start body) f st (sym x.number) x.start x.body

  pub read_zero-body : read_zero (body_as k r.start body) ≡ read_zero f
  unfolding body_as
  read_zero-body = read_zero-same (body_as k r.start body) f (sym x.number) x.body

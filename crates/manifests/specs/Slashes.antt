-- The last slash of a path, by its place.
use Rattle.std.specs.Prelude.{◌≡◌, true, false, ℕ, ◌<◌, length, take}
use Rattle.rules.specs.Bytes.{Bytes}
use Rattle.rules.specs.Manifests.{has_slash, before_last_slash}
use Rattle.std.specs.Prelude.{Option, Some, None}

pub record Slashed (p : Bytes) (i : ℕ) : Type 0 where
  pub within : i < length p
  pub held : has_slash p ≡ true
  pub before : before_last_slash p ≡ take i p

abbrev pub SlashIs : Bytes → Option ℕ → Type 0
SlashIs p (Some i) = Slashed p i
SlashIs p None = has_slash p ≡ false

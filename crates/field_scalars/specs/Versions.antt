-- The number of a protocol that a whole number is.
use Rattle.std.specs.Prelude.{Option}
use Rattle.std.specs.Prelude.{ℕ}
use Rattle.rules.specs.Bytes.{◌>>=◌}
use Rattle.rules.specs.Actions.{protocol_number}

abbrev pub version_of : Option ℕ → Option ℕ
version_of o = o >>= protocol_number

-- What a query says of one manifest.
use Rattle.std.specs.Prelude.{Bool, true, false, List}
use Rattle.std.specs.Prelude.{Option, None, Some}
use Rattle.rules.specs.Query.{Condition}
use Rattle.rules.specs.Manifests.{Manifest, dropped}

abbrev pub verdict_by : (is_dropped : Bool) → Option Bool
verdict_by true = (Some false)
verdict_by false = (Some true)

abbrev pub verdict_of : List Condition → Option Manifest → Option Bool
verdict_of cs None = None
verdict_of cs (Some m) = verdict_by (dropped cs m)

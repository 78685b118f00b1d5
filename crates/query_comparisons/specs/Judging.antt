-- What conditions say of values, as the code answers it.
use Rattle.std.specs.Prelude.{Bool, true, false}
use Rattle.std.specs.Prelude.{Result, Ok, Err}
use Rattle.query_comparisons.specs.declared.OutOfRange.{OutOfRange}

-- where a value is out of range, nothing else is said
unfoldable pub judged_is : (out met : Bool) → Result Bool OutOfRange
judged_is true met = (Err (record {}))
judged_is false true = (Ok true)
judged_is false false = (Ok false)

-- `is_null`: the word is the rules'.
use Rattle.rules.specs.Bytes.{ascii}
use Rattle.rules.specs.Json.Fields.{is_null}
use Rattle.bytes_values.proofs.is_null.Goals as goal

pub returns : goal.returns
unfolding is_null ascii
returns c = c.same_bytes.ensures

-- `is_digit` meets its contract: std and the rules mean the same digits.
use Rattle.rules.specs.Bytes.{among}
use Rattle.rules.specs.Numbers.{is_digit}
use Rattle.json_tokens.proofs.numbers.is_digit.Goals as goal

pub returns : goal.returns
unfolding is_digit among
returns c = c.is_ascii_digit.ensures.value

-- `skip_word` meets its contract. The word has been met up to its byte b and the position i.
use Rattle.json_tokens.proofs.Words.{Met}
use Rattle.json_tokens.proofs.tokens.skip_word.Given as goal

abbrev pub invariant-loop-b : goal.invariant-loop-b
invariant-loop-b l = Met l.w l.s l.at l.i l.b-index

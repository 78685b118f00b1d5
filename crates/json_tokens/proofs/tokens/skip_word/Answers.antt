-- `skip_word` meets its contract. The word has been met up to its byte b and the position i.
use Rattle.json_tokens.proofs.Words.{met_start, met-more, met-none, met-whole}
use Rattle.json_tokens.proofs.tokens.skip_word.Goals as goal

pub loop-b-init : goal.loop-b-init
loop-b-init c = met_start c.requires

pub skip_byte-requires : goal.skip_byte-requires
skip_byte-requires c = c.loop-b.invariant.within

pub returns-in_err-i : goal.returns-in_err-i
returns-in_err-i c = rw c.from_residual.ensures (met-none c.loop-b.invariant c.loop-b-test.true c.in_err-i.ensures)

pub loop-b-preserved : goal.loop-b-preserved
loop-b-preserved c =
    let e = c.in_ok-i.ensures in
    met-more c.loop-b.invariant c.loop-b-test.true e.0 e.1 e.2

pub returns : goal.returns
returns c = (met-whole c.loop-b.invariant c.loop-b-test.false, c.loop-b.invariant.from, c.loop-b.invariant.within)

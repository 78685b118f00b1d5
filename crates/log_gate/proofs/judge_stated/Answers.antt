-- `judge_stated` meets its contract: refusal 8 by the number, then 9 by the features.
use Rattle.log_gate.proofs.Judging.{judged-high, judged-unknown, judged-passed}
use Rattle.log_gate.proofs.judge_stated.Goals as goal

pub returns-then-reader-gt-KNOWN_READER : goal.returns-then-reader-gt-KNOWN_READER
returns-then-reader-gt-KNOWN_READER c = λ s q i. judged-high s q c.args.p i c.if-reader-gt-KNOWN_READER.true

pub returns-then-p : goal.returns-then-p
returns-then-p c = λ s q i. judged-passed s q c.args.p i c.if-reader-gt-KNOWN_READER.false c.if-p.true _ c.can_write-writable.ensures

pub returns : goal.returns
returns c = λ s q i. judged-unknown s q c.args.p i c.if-reader-gt-KNOWN_READER.false c.if-p.false

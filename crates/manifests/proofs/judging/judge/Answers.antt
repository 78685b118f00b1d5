-- `judge` meets its contract. By what the text states, and by whether a condition drops what it states.
use Rattle.query_conditions.specs.Reading.{conditions_of}
use Rattle.manifests.proofs.Excluding.{dropped-none, verdict-kept}
use Rattle.manifests.proofs.judging.judge.Goals as goal

pub returns-in_default : goal.returns-in_default
returns-in_default c =
    let m = rw c.in_default.is at c.in_ok-v.ensures in
    let cs = conditions_of c.args.q.now c.args.asked.count c.args.asked.conditions in
    verdict-kept cs m.1 (dropped-none m.0 cs m.2)

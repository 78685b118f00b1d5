-- `read_zero` reads the lines of the file's body.
use mathlib.Core.Path.{subst}
use native.Mathlib.Omega.{arith}
use Rattle.facts.specs.Parts.{part}
use Rattle.rules.specs.Refusals.{Answer}
use Rattle.rules.specs.History.{State}
use Rattle.log_replay.specs.Answers.{ZeroIs}
use Rattle.log_replay.proofs.Lying.{part_lies}
use Rattle.log_replay.proofs.Filing.{read_zero-body}
use Rattle.log_replay.proofs.begin.read_zero.Goals as goal

pub zero_lines-requires : goal.zero_lines-requires
unfolding part
zero_lines-requires c = part_lies _ _ _ (omega arith) c.entry_at-e.ensures.inside

pub returns : goal.returns
unfolding part
returns c =
    subst
    (λ (o : Answer State). ZeroIs c.args.src.now o c.zero_lines.result)
    (read_zero-body c.entry_at-e.ensures)
    c.zero_lines.ensures

-- `read_file` reads the lines of the file's body.
use mathlib.Core.Path.{subst}
use native.Mathlib.Omega.{arith}
use Rattle.facts.specs.Parts.{part}
use Rattle.rules.specs.Refusals.{Answer}
use Rattle.rules.specs.History.{State}
use Rattle.log_replay.specs.Views.{state_of}
use Rattle.log_replay.specs.Answers.{origin, OutcomeIs}
use Rattle.log_replay.proofs.Lying.{part_lies}
use Rattle.log_replay.proofs.Filing.{read_file-body}
use Rattle.log_replay.proofs.read_file.Goals as goal

pub read_lines-requires : goal.read_lines-requires
unfolding part
read_lines-requires c =
    (c.requires.0, part_lies _ _ _ (omega arith) c.entry_at-e.ensures.inside)

pub returns : goal.returns
unfolding part
returns c =
    subst (λ (o : Answer State). OutcomeIs c.args.src.now c.args.limit o c.args.t.now c.read_lines.new.t c.read_lines.result)
    (read_file-body c.entry_at-e.ensures c.args.limit (origin c.args.held)
    (state_of c.args.src.now c.args.st c.args.t.now))
    c.read_lines.ensures

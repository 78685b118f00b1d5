-- `same_files` meets its contract: by the two numbers, then by the facts.
use mathlib.Core.Path.{◌≡◌, refl, sym, ◌∙◌}
use mathlib.Core.Bool.{◌&&◌}
use lib.Dec.{eqb}
use borrow.Author.Tests.{eq-eqb, ne_eqb}
use Rattle.rules.specs.Agreement.{agree_facts}
use Rattle.log_replay.specs.Views.{facts_at}
use Rattle.log_agreement.proofs.Stated.{and-then, and-else}
use Rattle.log_agreement.proofs.Views.{row-by}
use Rattle.log_agreement.proofs.same_files.Goals as goal
use Rattle.log_agreement.proofs.same_files.Goals.{Joined-c-d, then-c-d, else-c-d}

skips : (c : Joined-c-d) → c.if-c-d.skips ≡ (eqb c.args.c.skips c.args.d.skips && eqb c.args.c.retry c.args.d.retry)
skips c = elim c.if-c-d.branch [
  | then-c-d w ↦ and-then refl w.skips-is (eq-eqb _ _ w.if-c-d.true)
  | else-c-d w ↦ w.skips-is ∙ and-else (eqb c.args.c.retry c.args.d.retry) refl (ne_eqb _ _ w.if-c-d.false)
]

pub returns-then-skips : goal.returns-then-skips
returns-then-skips c =
    and-then (skips (goal.at.returns-then-skips c).Joined-c-d) c.same_facts.ensures c.if-skips.true ∙ sym (row-by c.args.src.now c.args.c c.args.d)

pub returns-else-skips : goal.returns-else-skips
returns-else-skips c =
    and-else (agree_facts (facts_at c.args.src.now c.args.c) (facts_at c.args.src.now c.args.d)) (skips (goal.at.returns-else-skips c).Joined-c-d)
    c.if-skips.false
    ∙ sym (row-by c.args.src.now c.args.c c.args.d)

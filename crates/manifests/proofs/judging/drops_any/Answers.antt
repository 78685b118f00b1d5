-- `drops_any` meets its contract: the conditions are asked one after another, as the rules ask them.
use mathlib.Core.Path.{sym, ◌∙◌, subst}
use lib.ListN.{take}
use Rattle.facts.proofs.Lists.{All-at}
use Rattle.query_conditions.proofs.Columns.{sounds-all}
use Rattle.std.proofs.Common.{rules, tests}
use Rattle.std.proofs.lemmas.Iterator.{YieldsList-from_slice}
use Rattle.std.proofs.lemmas.Iterator.Adapters.{serves_from_places}
use Rattle.std.proofs.lemmas.Iterator.Search.{any_from_yields_List}
use Rattle.rules.specs.Manifests.{drops}
use Rattle.query_conditions.specs.Conditions.{condition_of, Sound}
use Rattle.query_conditions.specs.declared.conditions.Condition.{Condition}
use Rattle.manifests.proofs.Excluding.{dropped-any}
use Rattle.manifests.proofs.judging.drops_any.Goals as goal

pub any-requires-clause-callable : goal.any-requires-clause-callable
any-requires-clause-callable c =
    serves_from_places (YieldsList-from_slice (take c.args.asked.count c.args.asked.conditions) cc) (λ x q k. search (rules, tests)) (λ x k h e.
    let here = All-at (Sound c.args.q.now) (take c.args.asked.count c.args.asked.conditions) k x.now h
    (sounds-all c.args.q.now c.args.asked.count c.args.asked.conditions c.requires.0) in
    let sound : Sound c.args.q.now x.now = subst (Sound c.args.q.now) (sym e) here in
    search rules)

pub returns : goal.returns
returns c =
    λ m w. any_from_yields_List (λ (x : Condition). drops (condition_of c.args.q.now x) m.bounds) _ _ c.any.result c.any.ensures.ran
    (YieldsList-from_slice (take c.args.asked.count c.args.asked.conditions) cc) (λ x b q k. search (rules, tests))
    ∙ dropped-any m c.args.q.now c.args.asked.count c.args.asked.conditions

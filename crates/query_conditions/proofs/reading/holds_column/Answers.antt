-- `holds_column` meets its contract: the strings behind the columns are asked one after another, as the rules ask names.
use Rattle.query_conditions.proofs.Columns.{any-held}
use Rattle.json_strings.specs.Decoded.{decoded, WellSpelled}
use Rattle.facts.proofs.Lists.{All-at}
use Rattle.rules.specs.Bytes.{same}
use Rattle.std.proofs.Common.{rules, tests}
use Rattle.std.proofs.lemmas.Iterator.{YieldsList-from_slice}
use Rattle.std.proofs.lemmas.Iterator.Adapters.{serves_from_places}
use Rattle.std.proofs.lemmas.Iterator.Search.{any_from_yields_List}
use lib.ListN.{drop}
use Prim.Native.Nat.{ℕ}
use mathlib.Core.Path.{sym, ◌∙◌, subst}
use Rattle.query_conditions.proofs.reading.holds_column.Goals as goal

pub any-requires-clause-callable : goal.any-requires-clause-callable
any-requires-clause-callable c =
    serves_from_places (YieldsList-from_slice c.args.columns.now cc) (λ x q k. search (rules, tests)) (λ x k h e.
    let spelled : WellSpelled c.args.q.now x.now =
    subst (WellSpelled c.args.q.now) (sym e) (All-at (WellSpelled c.args.q.now) c.args.columns.now k x.now h c.requires.0) in
    search rules)

pub returns : goal.returns
returns c =
    any_from_yields_List (λ (p : ℕ). same (decoded (drop c.args.at c.args.q.now)) (decoded (drop p c.args.q.now))) _ _ c.any.result c.any.ensures.ran
    (YieldsList-from_slice c.args.columns.now cc) (λ x b q k. search (rules, tests))
    ∙ any-held c.args.q.now (decoded (drop c.args.at c.args.q.now)) c.args.columns.now

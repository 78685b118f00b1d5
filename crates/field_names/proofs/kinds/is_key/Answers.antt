-- `is_key` meets its contract. Each byte is the key's, where there are as many.
use Rattle.std.proofs.Common.{rules, tests, ap}
use Rattle.std.proofs.lemmas.Iterator.{YieldsList-from_slice, YieldsList-from_zip, same_from_all}
use borrow.Author.Tests.{eq-eqb, eqb-true}
use lib.ListN.{length}
use Rattle.rules.proofs.Order.{same_true, eq-same}
use Rattle.rules.proofs.Tests.{tests-equal}
use Rattle.field_names.proofs.kinds.is_key.Goals as goal

pub returns-then-name-key : goal.returns-then-name-key
returns-then-name-key c =
    let d = same_from_all c.all.new.self _ _ _ _ c.all.ensures.ran
    (YieldsList-from_zip (YieldsList-from_slice c.args.name.now cc) (YieldsList-from_slice c.args.key.now cc)) (search rules)
    (λ x q k. search (rules, tests)) (λ x q k. search (rules, tests)) in
    tests-equal _ _ (λ e. eq-same (d.0 e)) (λ e. d.1 (same_true _ _ e))

pub returns-else-name-key : goal.returns-else-name-key
returns-else-name-key c = tests-equal _ _ (λ e. absurd (c.if-name-key.false (eqb-true _ _ e))) (λ e. eq-eqb _ _ (ap length (same_true _ _ e)))

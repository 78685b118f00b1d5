-- `same_tables` meets its contract: by what each of the two lines says.
use mathlib.Core.Path.{refl, sym, subst, ap₂, ◌∙◌}
use Rattle.facts.specs.Parts.{part}
use Rattle.rules.specs.Agreement.{agree_tables}
use Rattle.rules.proofs.Agreement.{same-agree_tables}
use Rattle.line_actions.specs.Asked.{TableOf}
use Rattle.log_replay.specs.Views.{line_at}
use Rattle.log_agreement.proofs.Tabled.{table_is, table_none, left_alone, right-alone}
use Rattle.log_agreement.proofs.tables.same_tables.Goals as goal

pub same_tabled-requires : goal.same_tabled-requires
unfolding line_at part
same_tabled-requires c =
    let p = c.in-Some-Some.ensures in
    let q = c.in-Some-Some.ensures' in
    (record { table = p.0; says = p.2 }, record { table = q.0; says = q.2 })

pub returns-in-Some-Some : goal.returns-in-Some-Some
unfolding line_at part
returns-in-Some-Some c =
    let p = c.in-Some-Some.ensures in
    let q = c.in-Some-Some.ensures' in
    c.same_tabled.ensures p.0 q.0 p.2 q.2
    ∙ sym (ap₂ agree_tables (table_is c.args.src.now c.args.a p.1) (table_is c.args.src.now c.args.b q.1))

pub returns-in-None-None : goal.returns-in-None-None
unfolding line_at part
returns-in-None-None c =
    let p = subst (TableOf _ _) c.in-None-None.is-0 c.table_of.ensures in
    let q = c.in-None-None.ensures in
    sym (ap₂ agree_tables (table_none c.args.src.now c.args.a p) (table_none c.args.src.now c.args.b q) ∙ same-agree_tables refl)

pub returns-in_default : goal.returns-in_default
unfolding line_at part
returns-in_default c =
    let p = c.in_default.ensures in
    let q = subst (TableOf _ _) c.in_default.is-1 c.table_of-2.ensures in
    sym (ap₂ agree_tables (table_is c.args.src.now c.args.a p.1) (table_none c.args.src.now c.args.b q) ∙ left_alone _ p.1)

pub returns-in_default-2 : goal.returns-in_default-2
unfolding line_at part
returns-in_default-2 c =
    let p = subst (TableOf _ _) c.in_default.is-0 c.table_of.ensures in
    let q = c.in_default.ensures in
    sym (ap₂ agree_tables (table_none c.args.src.now c.args.a p) (table_is c.args.src.now c.args.b q.1) ∙ right-alone _ q.1)

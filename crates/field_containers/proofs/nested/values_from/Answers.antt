-- `values_from` meets its contract. The second member, its name beside the first's, and what stands behind it.
use mathlib.Core.Path.{sym, ◌∙◌, subst}
use Rattle.rules.specs.Actions.{in_field}
use Rattle.field_scalars.specs.Texts.{Told}
use Rattle.field_containers.proofs.Valued.{member-valued}
use Rattle.field_containers.proofs.Few.{usual-none, second_none, second-refused, second-same, second-neither, second-closed, second-usual}
use Rattle.field_containers.proofs.nested.values_from.Goals as goal

pub returns-in_err-m : goal.returns-in_err-m
unfolding in_field
returns-in_err-m c =
    rw c.from_residual.ensures (λ w. second_none c.args.s.now c.args.at c.args.n c.args.i c.requires.1 w c.in_err-m.ensures)

pub string_or_null-requires : goal.string_or_null-requires
unfolding in_field
string_or_null-requires c =
    let m = c.in_ok-m.ensures in
    (m.ordered, m.within, member-valued in_field _ _ _ m.read)

pub same_names-requires : goal.same_names-requires
same_names-requires c = (
  c.requires.1.named,
  c.in_ok-m.ensures.named,
)

pub returns-then-same_names : goal.returns-then-same_names
unfolding in_field
returns-then-same_names c =
    λ w. second-same
    c.args.s.now
    c.args.at
    c.args.n
    c.args.i
    c.requires.1
    w _ _ _
    c.in_ok-m.ensures
    (sym c.same_names.ensures ∙ c.if-same_names.true)

pub closing-requires : goal.closing-requires
closing-requires c =
    let m = c.in_ok-m.ensures in
    m.within

pub returns-then-many_values : goal.returns-then-many_values
returns-then-many_values c =
    λ w. (subst (Told _) c.if-many_values.true (c.many_values.ensures w), usual-none c.args.s.now c.args.at)

pub returns-in-Neither : goal.returns-in-Neither
unfolding in_field
returns-in-Neither c =
    λ w. second-neither
    c.args.s.now
    c.args.at
    c.args.n
    c.args.i
    c.requires.1
    w _ _ _
    c.in_ok-m.ensures
    c.in-Neither.ensures

pub returns-in-Closed : goal.returns-in-Closed
unfolding in_field
returns-in-Closed c =
    let m = c.in_ok-m.ensures in
    let f = c.in-Closed.ensures in
    λ w. (
      second-closed
          c.args.s.now
          c.args.at
          c.args.n
          c.args.i
          c.requires.1
          w _ _ _ m
          (subst (Told _) c.if-string_or_null.true c.string_or_null.ensures)
          (sym c.same_names.ensures ∙ c.if-same_names.false)
          f,
      second-usual c.args.s.now c.args.at c.args.n c.args.i c.requires.1 w _ _ _ m c.requires.2 f,
    )

pub returns-else-many_values : goal.returns-else-many_values
returns-else-many_values c = λ w. subst (Told _) c.if-many_values.false (c.many_values.ensures w)

pub returns-else-string_or_null : goal.returns-else-string_or_null
unfolding in_field
returns-else-string_or_null c =
    λ w. second-refused
    c.args.s.now
    c.args.at
    c.args.n
    c.args.i
    c.requires.1
    w _ _ _
    c.in_ok-m.ensures
    (subst (Told _) c.if-string_or_null.false c.string_or_null.ensures)

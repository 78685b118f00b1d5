-- `are_values` meets its contract. The first member, if there is one, and what stands behind it.
use mathlib.Core.Path.{subst}
use Rattle.rules.specs.Actions.{in_field}
use Rattle.field_scalars.specs.Texts.{Told}
use Rattle.field_containers.proofs.Valued.{member-valued}
use Rattle.field_containers.proofs.Few.{usual-none, told-opens, few-neither, few-none, first-none, first-refused, first-neither, first-closed}
use Rattle.field_containers.proofs.Few.{first-usual, first_more}
use Rattle.field_containers.proofs.nested.are_values.Goals as goal

pub read_member-requires : goal.read_member-requires
read_member-requires c = let o = c.in-More.ensures in o.2

pub returns-in_err-n-in-More : goal.returns-in_err-n-in-More
unfolding in_field
returns-in_err-n-in-More c =
    rw c.from_residual.ensures (λ w. first-none c.args.s.now c.args.at w c.in-More.first c.in-More.ensures c.in_err-n-in-More.ensures)

pub string_or_null-requires : goal.string_or_null-requires
unfolding in_field
string_or_null-requires c =
    let m = c.in_ok-n-in-More.ensures in
    (m.ordered, m.within, member-valued in_field _ _ _ m.read)

pub closing-requires : goal.closing-requires
closing-requires c =
    let m = c.in_ok-n-in-More.ensures in
    m.within

pub values_from-requires : goal.values_from-requires
unfolding in_field
values_from-requires c =
    let m = c.in_ok-n-in-More.ensures in (
      c.requires.0,
      first_more c.args.s.now c.args.at c.requires.1 c.in-More.first c.in-More.ensures _ _ _ m
          (subst (Told _) c.if-string_or_null.true c.string_or_null.ensures)
          c.in-More-closing.ensures,
      told-opens m c.told_end-end.ensures,
    )

pub returns-in-Neither : goal.returns-in-Neither
returns-in-Neither c =
    λ w. few-neither c.args.s.now c.args.at w c.in-Neither.ensures

pub returns-in-Closed : goal.returns-in-Closed
returns-in-Closed c =
    λ w. (
      few-none c.args.s.now c.args.at w c.in-Closed.ensures,
      usual-none c.args.s.now c.args.at,
    )

pub returns-in-Neither-closing : goal.returns-in-Neither-closing
unfolding in_field
returns-in-Neither-closing c =
    λ w. first-neither
    c.args.s.now
    c.args.at
    w
    c.in-More.first
    c.in-More.ensures
    _ _ _
    c.in_ok-n-in-More.ensures
    c.in-Neither-closing.ensures

pub returns-in-Closed-closing : goal.returns-in-Closed-closing
unfolding in_field
returns-in-Closed-closing c =
    let m = c.in_ok-n-in-More.ensures in
    let y = subst (Told _) c.if-string_or_null.true c.string_or_null.ensures in
    let f = c.in-Closed-closing.ensures in
    λ w. (
      first-closed c.args.s.now c.args.at w c.in-More.first c.in-More.ensures _ _ _ m y f,
      first-usual
          c.args.s.now
          c.args.at
          w
          c.in-More.first
          c.in-More.ensures
          _ _ _ m y
          (told-opens m c.told_end-end.ensures)
          f,
    )

pub returns-else-string_or_null : goal.returns-else-string_or_null
unfolding in_field
returns-else-string_or_null c =
    λ w. first-refused
    c.args.s.now
    c.args.at
    w
    c.in-More.first
    c.in-More.ensures
    _ _ _
    c.in_ok-n-in-More.ensures
    (subst (Told _) c.if-string_or_null.false c.string_or_null.ensures)

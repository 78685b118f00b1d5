-- `columns_in` meets its contract. One field, an array of strings, so many and distinct.
use mathlib.Core.Path.{sym, ◌∙◌}
use Rattle.rules.proofs.Tests.{by}
use Rattle.field_containers.specs.Nested.{columns_of}
use Rattle.field_scalars.proofs.Single.{proper-single, text-not-single}
use Rattle.field_containers.proofs.Arrays.{columns-not, columns-many, columns-twice, columns-there}
use Rattle.field_containers.proofs.nested.columns_in.Goals as goal

pub returns-then-slot-ne1 : goal.returns-then-slot-ne1
returns-then-slot-ne1 c =
    sym (text-not-single c.args.s.now c.args.slot columns_of c.if-slot-ne1.true)

pub array_at-requires : goal.array_at-requires
array_at-requires c =
    proper-single c.args.s.now c.args.slot c.if-slot-ne1.false c.requires

pub returns-in_err-at : goal.returns-in_err-at
returns-in_err-at c =
    rw c.from_residual.ensures (columns-not c.args.s.now c.args.slot c.if-slot-ne1.false c.in_err-at.ensures)

pub returns-then-n-gt-MOST_COLUMNS : goal.returns-then-n-gt-MOST_COLUMNS
returns-then-n-gt-MOST_COLUMNS c =
    columns-many
    c.args.s.now
    c.args.slot
    c.if-slot-ne1.false
    c.in_ok-at.at
    c.in_ok-at.n
    c.in_ok-at.ensures
    c.if-n-gt-MOST_COLUMNS.true

pub distinct_strings-requires : goal.distinct_strings-requires
distinct_strings-requires c =
    let a = c.in_ok-at.ensures in
    (a.within, record { ss = a.xs; listed = a.listed })

pub returns : goal.returns
returns c =
    let a = c.in_ok-at.ensures in
    by c.distinct_strings.result
    (λ p. rw (c.then_some.ensures, p)
    (columns-there c.args.s.now c.args.slot c.if-slot-ne1.false c.in_ok-at.at c.in_ok-at.n a c.if-n-gt-MOST_COLUMNS.false
    (sym (c.distinct_strings.ensures a.xs a.listed) ∙ p)))
    (λ p. rw (c.then_some.ensures, p)
    (columns-twice c.args.s.now c.args.slot c.if-slot-ne1.false c.in_ok-at.at c.in_ok-at.n a c.if-n-gt-MOST_COLUMNS.false
    (sym (c.distinct_strings.ensures a.xs a.listed) ∙ p)))

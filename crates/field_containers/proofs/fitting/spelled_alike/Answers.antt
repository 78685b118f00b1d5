-- `spelled_alike` meets its contract. No names are as no strings are.
use mathlib.Core.Path.{sym, ◌∙◌}
use mathlib.Core.Bool.{false≢true}
use Rattle.field_objects.proofs.Meeting.{object-closed, object-more}
use Rattle.field_containers.proofs.Walking.{listed-closed, listed_more}
use Rattle.field_containers.proofs.fitting.spelled_alike.Goals as goal

pub spelled_from-requires : goal.spelled_from-requires
spelled_from-requires c =
    let f = c.in-More.ensures in
    let g = c.in-More-opening-2.ensures in
    (f.2, g.2)

pub returns-in-Neither : goal.returns-in-Neither
returns-in-Neither c = λ e. absurd (false≢true e)

pub returns-in-Neither-opening : goal.returns-in-Neither-opening
returns-in-Neither-opening c = λ e. absurd (false≢true e)

pub returns-in-Closed-opening : goal.returns-in-Closed-opening
returns-in-Closed-opening c =
    λ _ xs ys w l. object-closed 29
    c.args.s.now
    c.args.values
    xs w
    c.in-Closed.ensures
    ∙ sym (listed-closed c.args.t.now c.args.columns ys l c.in-Closed-opening.ensures)

pub returns-in-More-opening : goal.returns-in-More-opening
returns-in-More-opening c = λ e. absurd (false≢true e)

pub returns-in-Neither-opening-2 : goal.returns-in-Neither-opening-2
returns-in-Neither-opening-2 c = λ e. absurd (false≢true e)

pub returns-in-Closed-opening-2 : goal.returns-in-Closed-opening-2
returns-in-Closed-opening-2 c = λ e. absurd (false≢true e)

pub returns-in-More-opening-2 : goal.returns-in-More-opening-2
returns-in-More-opening-2 c =
    λ e xs ys w l. c.spelled_from.ensures e xs ys
    (object-more 29 c.args.s.now c.args.values xs w c.in-More.first c.in-More.ensures)
    (listed_more c.args.t.now c.args.columns ys l c.in-More-opening-2.other c.in-More-opening-2.ensures)

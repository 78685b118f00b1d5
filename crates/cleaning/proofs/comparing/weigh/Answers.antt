-- `weigh` meets its contract: by the verdict of the gate, and then by whether the states agree.
use mathlib.Core.Path.{refl, sym, ◌∙◌}
use Rattle.std.proofs.lemmas.Result.{err_from_is_err_and}
use Rattle.std.specs.Prelude.{Ok, Err}
use Rattle.std.proofs.lemmas.Bool.{not-true, not-false}
use Rattle.log_agreement.specs.Held.{carries-held}
use Rattle.cleaning.proofs.Weighing.{weigh-unreadable, weigh-unwritable, weigh-differs, weigh-agrees}
use Rattle.cleaning.proofs.comparing.weigh.Goals as goal

pub agree-same-requires : goal.agree-same-requires
agree-same-requires c =
    (carries-held c.requires.0, carries-held c.requires.1)

pub returns-in_err-n : goal.returns-in_err-n
returns-in_err-n c =
    let p = err_from_is_err_and c.from_residual.result c.from_residual.ensures.1 in
    rw (p.1, p.2)
    (weigh-unreadable c.args.src.now c.args.mine c.args.theirs c.args.one.now c.args.two.now (Err _) c.in_err-n.ensures _ refl)

pub returns-then-not-n : goal.returns-then-not-n
returns-then-not-n c =
    weigh-unwritable c.args.src.now c.args.mine c.args.theirs c.args.one.now c.args.two.now (Ok _) c.in_ok-n.ensures
    c.in_ok-n.n refl (not-true _ c.if-not-n.true)

pub returns-then-not-same : goal.returns-then-not-same
returns-then-not-same c =
    weigh-differs c.args.src.now c.args.mine c.args.theirs c.args.one.now c.args.two.now (Ok _) c.in_ok-n.ensures
    c.in_ok-n.n refl (not-false _ c.if-not-n.false) (sym c.agree-same.ensures ∙ c.if-not-same.true)

pub returns : goal.returns
returns c =
    weigh-agrees c.args.src.now c.args.mine c.args.theirs c.args.one.now c.args.two.now (Ok _) c.in_ok-n.ensures
    c.in_ok-n.n refl (not-false _ c.if-not-n.false) (sym c.agree-same.ensures ∙ c.if-not-same.false)

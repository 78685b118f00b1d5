-- `rule_at` meets its contract: by whether another start reaches the checkpoint, and then by what is compared.
use Rattle.std.proofs.lemmas.Result.{err_from_is_err_and}
use Rattle.log_history.proofs.Walking.{left-same}
use Rattle.cleaning.proofs.Deciding.{started, ruled-alone, ruled-agreed, ruled-refused}
use Rattle.cleaning.proofs.comparing.rule_at.Goals as goal

pub compare-requires : goal.compare-requires
compare-requires c =
    let (w, e, s) = started c.args.src.now c.args.c.0 _ c.in-Some.other c.in-Some.ensures in
    (c.requires.0, c.requires.1, c.requires.2.0, (w, s), c.requires.3, c.requires.4)

pub returns-in_default : goal.returns-in_default
returns-in_default c = (ruled-alone c.args.src.now c.args.zero c.args.k c.args.c c.requires.2.1 c.in_default.ensures, left-same, left-same)

pub returns : goal.returns
returns c = (
  ruled-agreed c.args.src.now c.args.zero c.args.k c.args.c c.requires.2.1 c.in-Some.other c.in-Some.ensures
      c.compare.result c.compare.ensures.0 c.requires.0 c.in_ok-compare.was,
  c.compare.ensures.1,
  c.compare.ensures.2,
)

pub returns-in_err-compare : goal.returns-in_err-compare
returns-in_err-compare c =
    let p = err_from_is_err_and c.from_residual.result c.from_residual.ensures.1 in
    rw (p.1, p.2) (
      ruled-refused c.args.src.now c.args.zero c.args.k c.args.c c.requires.2.1 c.in-Some.other c.in-Some.ensures
          c.compare.result c.compare.ensures.0 _ c.in_err-compare.was,
      c.compare.ensures.1,
      c.compare.ensures.2,
    )

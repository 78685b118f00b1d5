-- `compare_with` meets its contract: the state at the end of the way is weighed, or the way is refused.
use Rattle.std.proofs.lemmas.Result.{err_from_is_err_and}
use Rattle.rules.specs.Live.{most_live}
use Rattle.cleaning.proofs.Weighing.{with-carries, with-done, with-refused}
use Rattle.cleaning.proofs.comparing.compare_with.Goals as goal

pub follow-requires : goal.follow-requires
unfolding most_live
follow-requires c = (c.requires.0, c.requires.1, c.requires.2)

pub weigh-requires : goal.weigh-requires
unfolding most_live
weigh-requires c = (
  c.requires.3,
  with-carries c.args.src.now c.args.z c.args.start c.args.c.0 c.args.mine c.args.one.now c.args.two.now _ c.requires.2 c.follow.result c.follow.ensures
      c.in_ok-theirs.theirs c.in_ok-theirs.was,
)

pub returns-in_err-theirs : goal.returns-in_err-theirs
unfolding most_live
returns-in_err-theirs c =
    let p = err_from_is_err_and c.from_residual.result c.from_residual.ensures.1 in
    rw (p.1, p.2)
    (with-refused c.args.src.now c.args.z c.args.start c.args.c.0 c.args.mine c.args.one.now c.args.two.now _ c.requires.2 c.follow.result c.follow.ensures
    _ c.in_err-theirs.was)

pub returns : goal.returns
unfolding most_live
returns c =
    with-done c.args.src.now c.args.z c.args.start c.args.c.0 c.args.mine c.args.one.now c.args.two.now _ c.requires.2 c.follow.result c.follow.ensures
    c.in_ok-theirs.theirs c.in_ok-theirs.was c.weigh.result c.weigh.ensures

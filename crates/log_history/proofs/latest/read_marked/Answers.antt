-- `read_marked`: the files of the marker's checkpoint and of version 0 are looked up, and what their lines give is what `Begun` says.
use Prim.Native.Nat.{◌<◌}
use mathlib.Core.Path.{sym, subst}
use Rattle.rules.specs.Live.{most_live}
use Rattle.log_replay.specs.Answers.{OutcomeIs}
use Rattle.log_history.proofs.Reaching.{bundle-places}
use Rattle.log_history.proofs.Beginning.{begun}
use native.Mathlib.Omega.{arith}
use Rattle.log_history.proofs.latest.read_marked.Goals as goal

pub read_zero-requires : goal.read_zero-requires
read_zero-requires c = c.in_ok-f.ensures.0

pub read_file-requires : goal.read_file-requires
unfolding most_live
read_file-requires c =
    let zero = c.in-Ok.ensures.2 most_live c.args.t.now (bundle-places c.args.src.now c.requires.0) (omega arith) c.requires.1 in
    (c.nothing_live-empty.ensures.1 c.args.src.now most_live c.args.t.now zero, c.in_ok-k.ensures.0)

pub returns-in_default-read_file : goal.returns-in_default-read_file
unfolding most_live
returns-in_default-read_file c = (subst (OutcomeIs _ _ _ _ _) c.in_default-read_file.is c.read_file.ensures).1

pub returns-then-st-eq0 : goal.returns-then-st-eq0
unfolding most_live
returns-then-st-eq0 c = c.in-Ok-read_file.ensures.1.left

pub returns : goal.returns
unfolding most_live
returns c =
    let d = c.in-Ok-read_file.ensures in
    let told : 0 < c.in-Ok-read_file.st.table.size = omega (arith, c.if-st-eq0.false) in
    let b = begun _ _ c.nothing_live-empty.result _ c.in_ok-f.ensures.1 c.in-Ok.ensures (sym c.in_ok-n.ensures) c.in_ok-k.ensures.1
    c.nothing_live-empty.ensures d told in
    (b, d.1.left)

-- `held_from` meets its contract. The loop keeps that all pairs are held where those that are left are; what is left gets shorter.
use Rattle.log_agreement.proofs.Passing.{going-none, going-fails, going-last, going_more}
use Rattle.log_agreement.proofs.partitions.held_from.Goals as goal

pub returns-then-not-pair_held : goal.returns-then-not-pair_held
returns-then-not-pair_held c =
    going-fails c.args.s.now c.args.at c.args.t.now c.args.from c.loop-n.i c.loop-n.invariant.1 c.in-Some.n c.in-Some.v c.in-Some.e c.in-Some.ensures
    c.pair_held.ensures c.if-not-pair_held.true

pub returns-in_default-closing : goal.returns-in_default-closing
returns-in_default-closing c =
    going-last c.args.s.now c.args.at c.args.t.now c.args.from c.loop-n.i c.loop-n.invariant.1 c.in-Some.n c.in-Some.v c.in-Some.e c.in-Some.ensures
    c.pair_held.ensures c.if-not-pair_held.false c.closing.result c.closing.ensures c.in_default-closing.not-More

pub loop-n-preserved : goal.loop-n-preserved
loop-n-preserved c = (
  c.in-More.ensures.2,
  going_more c.args.s.now c.args.at c.args.t.now c.args.from c.loop-n.i c.loop-n.invariant.1 c.in-Some.n c.in-Some.v c.in-Some.e c.in-Some.ensures
      c.pair_held.ensures c.if-not-pair_held.false c.in-More.k c.in-More.ensures,
)

pub returns : goal.returns
returns c =
    λ ps qs o w. going-none c.args.s.now c.args.at c.args.t.now c.args.from c.loop-n.i c.loop-n.invariant.1 c.in_default.ensures ps qs o w

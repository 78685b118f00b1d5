-- `judge_each` meets its contract: what all conditions say is what those from k on say, and whether those before are met.
use mathlib.Core.Path.{◌≡◌, refl}
use Prim.Native.Nat.{◌≤◌}
use native.Mathlib.Omega.{arith}
use borrow.Author.Rules.{rules}
use lib.ListN.{length}
use Rattle.std.proofs.lemmas.Result.{err_from_is_err_and}
use Rattle.query_picking.proofs.Each.{going-all, going-next, going-out}
use Rattle.query_picking.proofs.judge_each.Goals as goal

pub loop-k-init : goal.loop-k-init
loop-k-init c = (omega arith, λ f w. refl)

pub offset_bounds-conditions-k : goal.offset_bounds-conditions-k
offset_bounds-conditions-k c =
    let few : c.args.count ≤ 8 = c.requires.1.few in search rules

pub bounds-conditions-k : goal.bounds-conditions-k
bounds-conditions-k c =
    let few : c.args.count ≤ 8 = c.requires.1.few in search rules

pub judge_next-requires : goal.judge_next-requires
judge_next-requires c =
    (c.requires.0, c.requires.1.each c.loop-k.k c.loop-k-test.true)

pub loop-k-preserved : goal.loop-k-preserved
loop-k-preserved c =
    let size : length c.args.conditions ≡ 8 = search rules in (
      omega arith,
      λ f w.
          going-next c.args.q.now c.args.count c.args.conditions (omega (arith, size, c.requires.1.few)) f c.loop-k.k c.loop-k.met
          (c.loop-k.invariant.1 f w) c.loop-k-test.true _ (c.in_ok-met.ensures f.partition_values w),
    )

pub returns-in_err-met : goal.returns-in_err-met
returns-in_err-met c =
    let size : length c.args.conditions ≡ 8 = search rules in
    let p = err_from_is_err_and c.from_residual.result c.from_residual.ensures.1 in
    rw (p.1, p.2) (λ f w.
    going-out c.args.q.now c.args.count c.args.conditions (omega (arith, size, c.requires.1.few)) f c.loop-k.k c.loop-k.met (c.loop-k.invariant.1 f w)
    c.loop-k-test.true (c.in_err-met.ensures f.partition_values w))

pub returns : goal.returns
returns c =
    let size : length c.args.conditions ≡ 8 = search rules in
    λ f w.
    going-all c.args.q.now c.args.count c.args.conditions (omega (arith, size, c.requires.1.few)) f c.loop-k.k c.loop-k.met (c.loop-k.invariant.1 f w)
    c.loop-k-test.false

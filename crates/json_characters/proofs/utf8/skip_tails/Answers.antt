-- `skip_tails` meets its contract. Of the n tails from `at` on, those that are not counted are left at i.
use mathlib.Core.Path.{◌≡◌, subst}
use Prim.Native.Nat.{◌+◌, ◌-◌}
use native.Mathlib.Omega.{arith}
use Rattle.rules.proofs.Json.Tails.{Tailing, tailing-start, tailing-more, tailing-none, tailing-end}
use Rattle.json_characters.proofs.utf8.skip_tails.Goals as goal

pub loop-init : goal.loop-init
loop-init c =
    let all : c.args.n ≡ c.args.n - 0 = omega arith in
    subst (Tailing c.args.n c.args.s.now c.args.at c.args.at) all (tailing-start c.requires)

pub skip_in-requires : goal.skip_in-requires
skip_in-requires c = c.loop.invariant.within

pub returns-in_err-i : goal.returns-in_err-i
returns-in_err-i c = rw c.from_residual.ensures (tailing-none c.loop.invariant (omega arith) c.in_err-i.ensures)

pub loop-preserved : goal.loop-preserved
loop-preserved c =
    let e = c.in_ok-i.ensures in
    let fewer : c.args.n - c.loop.counter - 1 ≡ c.args.n - (c.loop.counter + 1) = omega arith in
    subst (Tailing c.args.n c.args.s.now c.args.at c.in_ok-i.i) fewer (tailing-more c.loop.invariant (omega arith) e.0 e.1 e.2)

pub returns : goal.returns
returns c = (tailing-end c.loop.invariant (omega arith), c.loop.invariant.from, c.loop.invariant.within)

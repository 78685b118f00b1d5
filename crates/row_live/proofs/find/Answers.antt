-- `find` halves what is left to look at, as `Halving` says.
use mathlib.Core.Path.{sym, ◌∙◌, subst}
use Prim.Native.Nat.{ℕ, ◌+◌, ◌-◌, ◌/◌}
use lib.ListN.{length}
use Rattle.facts.specs.Parts.{part}
use Rattle.facts.proofs.Parts.{part-whole}
use Rattle.rules.specs.Json.Text.{Text}
use Rattle.json_strings.specs.Spelling.{Raw}
use Rattle.json_strings.proofs.Raw.{well-within}
use Rattle.row_live.proofs.Halving.{halving-start, halving-end, halving-spelled, halving-up, halving-down, halving-hit}
use native.Mathlib.Omega.{arith}
use Rattle.row_live.proofs.find.Goals as goal

abbrev mid : (lo hi : ℕ) → ℕ
mid lo hi = lo + (hi - lo) / 2

pub raw_end-end-requires : goal.raw_end-end-requires
raw_end-end-requires c = omega (arith, well-within c.requires.1)

pub loop-lo-init : goal.loop-lo-init
loop-lo-init c = halving-start

pub overflow_sub-mid : goal.overflow_sub-mid
overflow_sub-mid c = omega arith

pub row_at-c-requires : goal.row_at-c-requires
row_at-c-requires c = omega arith

pub order_raw-requires : goal.order_raw-requires
unfolding part
order_raw-requires c =
    let whole = part-whole c.args.src.now (length c.args.src.now) (omega arith) in
    let raw = subst (λ (x : Text). Raw x c.args.path c.raw_end-end.result) whole c.raw_end-end.ensures in
    (halving-spelled c.requires.0 (mid c.loop-lo.lo c.loop-lo.hi) (c.row_at-c.ensures _ (omega arith)) (omega arith), c.requires.1, raw)

pub loop-lo-smaller-in-Less : goal.loop-lo-smaller-in-Less
loop-lo-smaller-in-Less c = omega arith

pub loop-lo-preserved-in-Less : goal.loop-lo-preserved-in-Less
loop-lo-preserved-in-Less c =
    halving-up
    c.requires.0
    (mid c.loop-lo.lo c.loop-lo.hi)
    (c.row_at-c.ensures _ (omega arith))
    c.loop-lo.invariant
    (omega arith)
    (omega arith)
    (sym c.in-Less.is ∙ c.order_raw.ensures)

pub returns-in-Equal : goal.returns-in-Equal
returns-in-Equal c =
    halving-hit
    c.requires.0
    (mid c.loop-lo.lo c.loop-lo.hi)
    (c.row_at-c.ensures _ (omega arith))
    c.loop-lo.invariant
    (omega arith)
    (omega arith)
    (sym c.in-Equal.is ∙ c.order_raw.ensures)

pub loop-lo-smaller : goal.loop-lo-smaller
loop-lo-smaller c = omega arith

pub loop-lo-preserved : goal.loop-lo-preserved
loop-lo-preserved c =
    halving-down
    c.requires.0
    (mid c.loop-lo.lo c.loop-lo.hi)
    (c.row_at-c.ensures _ (omega arith))
    c.loop-lo.invariant
    (omega arith)
    (omega arith)
    (sym c.in-Greater.is ∙ c.order_raw.ensures)

pub returns : goal.returns
returns c = halving-end c.loop-lo.invariant c.loop-lo-test.false

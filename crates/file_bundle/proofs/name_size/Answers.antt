-- The bytes passed, and the size of what is left.
use native.Mathlib.Omega.{arith}
use Rattle.file_bundle.proofs.Padding.{name_size-here, name_size-more, name_size-end}
use Rattle.file_bundle.proofs.name_size.Goals as goal

pub returns-then-p-i-eq0 : goal.returns-then-p-i-eq0
returns-then-p-i-eq0 c =
    let z = name_size-here c.args.p.now c.loop-i.i (omega arith) c.if-p-i-eq0.true in
    (omega arith, omega arith)

pub loop-i-preserved : goal.loop-i-preserved
loop-i-preserved c =
    let z = name_size-more c.args.p.now c.loop-i.i (omega arith) c.if-p-i-eq0.false in
    omega arith

pub returns : goal.returns
returns c =
    let z = name_size-end c.args.p.now c.loop-i.i (omega arith) in
    (omega arith, omega arith)

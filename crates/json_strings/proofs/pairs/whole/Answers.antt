-- `whole` meets its contract: a backslash stands before no other.
use native.Mathlib.Omega.{arith}
use Rattle.json_strings.proofs.AsSpelled.{whole-cut, whole-kept}
use Rattle.json_strings.proofs.pairs.whole.Goals as goal

pub returns-then-t-j-eq-BACKSLASH : goal.returns-then-t-j-eq-BACKSLASH
returns-then-t-j-eq-BACKSLASH c =
    (omega arith, whole-cut c.requires.0 (omega arith) c.requires.1 c.if-t-j-eq-BACKSLASH.true)

pub returns-else-t-j-eq-BACKSLASH : goal.returns-else-t-j-eq-BACKSLASH
returns-else-t-j-eq-BACKSLASH c =
    (omega arith, whole-kept c.args.t.now c.args.j (omega arith) c.if-t-j-eq-BACKSLASH.false)

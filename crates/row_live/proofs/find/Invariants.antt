-- `find` halves what is left to look at, as `Halving` says.
use Prim.Native.Nat.{◌-◌}
use lib.ListN.{drop}
use Rattle.json_strings.specs.Decoded.{decoded}
use Rattle.row_live.proofs.Halving.{Halving}
use Rattle.row_live.proofs.find.Given as goal

abbrev pub invariant-loop-lo : goal.invariant-loop-lo
invariant-loop-lo l = Halving l.src (decoded (drop l.path l.src)) l.n l.t l.lo l.hi

abbrev pub decreases-loop-lo : goal.decreases-loop-lo
decreases-loop-lo l = l.hi - l.lo

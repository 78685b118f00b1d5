-- Going down from v to n, what is left to find out is the same as at v.
use mathlib.Core.Path.{◌≡◌}
use Prim.Native.Nat.{◌-◌}
use Rattle.rules.specs.Starts.{log_of}
use Rattle.file_bundle.specs.Files.{files_in}
use Rattle.log_starts.specs.Ways.{passing}
use Rattle.log_starts.proofs.passes.Given as goal

abbrev pub invariant-loop-w : goal.invariant-loop-w
invariant-loop-w l = passing (log_of (files_in l.s)) l.fn.n.0 (l.w - l.fn.n.0) ≡ passing (log_of (files_in l.s)) l.fn.n.0 (l.fn.v.0 - l.fn.n.0)

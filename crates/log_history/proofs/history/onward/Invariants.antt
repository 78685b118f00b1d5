-- `onward`: each turn reads the version file behind `w`, as `Onward` says.
use Rattle.log_history.proofs.Walking.{Onward}
use Rattle.log_history.proofs.history.onward.Given as goal

abbrev pub invariant-loop-w : goal.invariant-loop-w
invariant-loop-w l = Onward l.src l.limit l.fn.s.0 l.fn.v.0 l.initial.t l.initial.state l.t l.w l.state

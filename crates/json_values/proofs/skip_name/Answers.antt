use Prim.Native.Nat.{◌+◌, ◌≤◌}
use native.Mathlib.Omega.{arith}
use Rattle.json_tokens.proofs.Places.{answer-from}
use Rattle.json_values.specs.Whole.{name}
use Rattle.json_values.proofs.skip_name.Goals as goal

pub returns-in_err-i : goal.returns-in_err-i
unfolding name
returns-in_err-i c = rw c.from_residual.ensures (rw c.in_err-i.ensures)

pub returns-in_err-j : goal.returns-in_err-j
unfolding name
returns-in_err-j c = rw c.from_residual-in_err-j.ensures (rw (c.in_ok-i.ensures.0, c.in_err-j.ensures))

pub returns : goal.returns
unfolding name
returns c =
    let e = c.in_ok-i.ensures in
    let f = c.in_ok-j.ensures in
    let l : c.args.at + 1 ≤ c.in_ok-i.i = e.1 in
    let m : c.in_ok-i.i + 1 ≤ c.in_ok-j.j = f.1 in
    answer-from _ _ c.args.s.now _ _ c.skip_colon.result c.skip_colon.ensures (omega arith) (rw (e.0, f.0))

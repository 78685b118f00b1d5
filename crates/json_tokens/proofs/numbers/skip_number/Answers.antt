-- `skip_number` meets its contract. One part after the other.
use native.Mathlib.Nat.{le_trans}
use native.Mathlib.Omega.{arith}
use Rattle.rules.specs.Json.Numbers.{number}
use Rattle.json_tokens.proofs.Places.{answer-from}
use Rattle.json_tokens.proofs.numbers.skip_number.Goals as goal

pub returns-in_err-i : goal.returns-in_err-i
unfolding number
returns-in_err-i c = rw c.from_residual.ensures (rw (c.skip_minus.ensures.left, c.in_err-i.ensures))

pub returns-in_err-j : goal.returns-in_err-j
unfolding number
returns-in_err-j c = rw c.from_residual-in_err-j.ensures (rw (c.skip_minus.ensures.left, c.in_ok-i.ensures.0, c.in_err-j.ensures))

pub returns : goal.returns
unfolding number
returns c =
    answer-from _ _
    c.args.s.now
    _ _
    c.skip_exp.result
    c.skip_exp.ensures
    (le_trans (le_trans (omega arith) c.in_ok-i.ensures.1) c.in_ok-j.ensures.1)
    (rw (c.skip_minus.ensures.left, c.in_ok-i.ensures.0, c.in_ok-j.ensures.0))

-- `code_point` meets its contract. A code unit by its range: high, low or no surrogate.
use mathlib.Core.Path.{◌≡◌}
use native.Mathlib.Omega.{arith}
use Rattle.rules.specs.Bytes.{first, among}
use Rattle.rules.specs.Json.Strings.{surrogate, neither, low, high, paired, code_point}
use Rattle.json_characters.proofs.Taking.{taken-from}
use Rattle.json_characters.proofs.escapes.code_point.Goals as goal

pub returns-in_err-u : goal.returns-in_err-u
unfolding code_point
returns-in_err-u c = rw c.from_residual.ensures (rw (code_point, c.in_err-u.ensures))

pub returns-in-55296-to-56319 : goal.returns-in-55296-to-56319
unfolding code_point surrogate first among
returns-in-55296-to-56319 c =
    let kind : surrogate c.in_ok-u.u ≡ high = grind arith in
    taken-from _ _ c.args.s.now _ _ _ c.low_half.result c.low_half.ensures c.in_ok-u.ensures.1 (rw (code_point, c.in_ok-u.ensures.0, kind))

pub returns-in-56320-to-57343 : goal.returns-in-56320-to-57343
unfolding code_point surrogate first among paired
returns-in-56320-to-57343 c =
    let kind : surrogate c.in_ok-u.u ≡ low = grind arith in
    rw (code_point, c.in_ok-u.ensures.0, kind)

pub returns-in_default : goal.returns-in_default
unfolding code_point surrogate first among paired
returns-in_default c =
    let e = c.in_ok-u.ensures in
    let kind : surrogate c.in_ok-u.u ≡ neither = grind arith in
    (rw (code_point, e.0, kind), e.1, e.2, omega (arith, e.3))

pub returns-in_default-2 : goal.returns-in_default-2
unfolding code_point surrogate first among paired
returns-in_default-2 c =
    let e = c.in_ok-u.ensures in
    let kind : surrogate c.in_ok-u.u ≡ neither = grind arith in
    (rw (code_point, e.0, kind), e.1, e.2, omega (arith, e.3))

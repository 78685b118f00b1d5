use Prim.Native.Nat.{◌+◌, ◌≤◌}
use Rattle.std.specs.Prelude.{Some}
use mathlib.Core.Path.{ap, ◌∙◌}
use native.Mathlib.Omega.{arith}
use Rattle.rules.specs.Json.Text.{byte}
use Rattle.rules.proofs.Json.Steps.{colon-some, colon-none}
use Rattle.json_values.proofs.skip_colon.Goals as goal

pub returns-in_err-i : goal.returns-in_err-i
returns-in_err-i c =
    rw c.from_residual.ensures (colon-none _ (ap (byte 0x3A) c.skip_ws.ensures.left ∙ c.in_err-i.ensures))

pub returns : goal.returns
returns c =
    let e = c.in_ok-i.ensures in
    let l : c.skip_ws.result + 1 ≤ c.in_ok-i.i = e.1 in
    (colon-some _ (ap (byte 0x3A) c.skip_ws.ensures.left ∙ e.0) ∙ ap Some c.skip_ws-2.ensures.left, omega arith, c.skip_ws-2.ensures.within)

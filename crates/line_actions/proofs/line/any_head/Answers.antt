-- `any_head` meets its contract. White space, a brace, and the first member.
use mathlib.Core.Path.{ap, ◌∙◌}
use Rattle.rules.specs.Json.Text.{byte}
use Rattle.line_actions.proofs.Lines.{line-no-brace, line-memberless, line-braced}
use Rattle.line_actions.proofs.line.any_head.Goals as goal

pub returns-in_err-i : goal.returns-in_err-i
returns-in_err-i c =
    rw c.from_residual.ensures (line-no-brace c.args.line.now (ap (byte 0x7B) c.skip_ws-first.ensures.left ∙ c.in_err-i.ensures))

pub key_at-requires : goal.key_at-requires
key_at-requires c =
    let f = c.in-More.ensures in
    line-braced c.args.line.now c.in_ok-i.i (ap (byte 0x7B) c.skip_ws-first.ensures.left ∙ c.in_ok-i.ensures.0) c.in-More.j f.2 f.0

pub returns-in_default : goal.returns-in_default
returns-in_default c =
    line-memberless c.args.line.now c.in_ok-i.i (ap (byte 0x7B) c.skip_ws-first.ensures.left ∙ c.in_ok-i.ensures.0) c.opening.result c.opening.ensures
    c.in_default.not-More

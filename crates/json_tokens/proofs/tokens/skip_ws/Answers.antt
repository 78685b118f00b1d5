-- `skip_ws` meets its contract. The run of white space from `at` on goes on at i.
use mathlib.Core.Path.{sym}
use Rattle.json_tokens.proofs.Runs.{ws-run, ws-above, running-start, running_more, running-stop, running-ended}
use Rattle.json_tokens.proofs.tokens.skip_ws.Goals as goal

pub returns-then-s-at-gt32 : goal.returns-then-s-at-gt32
returns-then-s-at-gt32 c = running-stop ws-run (running-start c.requires) c.if-at-s.true (ws-above _ c.if-s-at-gt32.true)

pub loop-i-init : goal.loop-i-init
loop-i-init c = running-start c.requires

pub loop-i-preserved : goal.loop-i-preserved
loop-i-preserved c = running_more ws-run c.loop-i.invariant c.loop-i-test.true (sym c.if-is_ws.ensures)

pub returns-else-is_ws : goal.returns-else-is_ws
returns-else-is_ws c = running-stop ws-run c.loop-i.invariant c.loop-i-test.true (sym c.if-is_ws.ensures)

pub returns-after-loop-i : goal.returns-after-loop-i
returns-after-loop-i c = running-ended ws-run c.loop-i.invariant c.loop-i-test.false

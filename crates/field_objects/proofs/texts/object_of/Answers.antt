-- `object_of` meets its contract. By the brace, by what the scan says, and by what stands behind.
use mathlib.Core.Path.{◌∙◌}
use native.Mathlib.Omega.{arith}
use Rattle.rules.proofs.Json.Steps.{alone-none}
use Rattle.field_objects.proofs.Whole.{alone-whole, alone-trailing, object-unopened, object-opened}
use Rattle.field_objects.proofs.texts.object_of.Goals as goal

pub returns-in_err-at : goal.returns-in_err-at
returns-in_err-at c = rw c.from_residual.ensures (object-unopened c.args.depth c.args.t.now c.skip_ws.result c.skip_ws.ensures c.in_err-at.ensures)

pub scan-requires : goal.scan-requires
scan-requires c = c.in_ok-at.ensures.2

pub returns-in_err-f : goal.returns-in_err-f
returns-in_err-f c =
    rw c.from_residual-in_err-f.ensures
    (object-opened c.args.depth c.args.t.now c.skip_ws.result c.skip_ws.ensures c.in_ok-at.ensures.0 ∙ alone-none c.in_err-f.ensures)

pub skip_ws-requires-2 : goal.skip_ws-requires-2
skip_ws-requires-2 c = c.in_ok-f.ensures.within

pub returns-then-skip_ws-t : goal.returns-then-skip_ws-t
returns-then-skip_ws-t c =
    object-opened c.args.depth c.args.t.now c.skip_ws.result c.skip_ws.ensures c.in_ok-at.ensures.0
    ∙ alone-trailing c.args.t.now c.in_ok-f.f.end c.skip_ws-2.result c.in_ok-f.ensures.all c.skip_ws-2.ensures c.if-skip_ws-t.true

pub returns : goal.returns
returns c =
    let filled = c.in_ok-f.ensures in
    record {
      ms = filled.ms;
      all = object-opened c.args.depth c.args.t.now c.skip_ws.result c.skip_ws.ensures c.in_ok-at.ensures.0
          ∙ alone-whole c.args.t.now c.in_ok-f.f.end c.skip_ws-2.result filled.all c.skip_ws-2.ensures (omega arith);
      each = filled.each;
    }

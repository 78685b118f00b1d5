-- `skip_in` meets its contract. A range by two comparisons.
use native.Mathlib.Omega.{arith}
use lib.ListN.{get_or}
use mathlib.Core.Bool.{false}
use mathlib.Core.Path.{◌≡◌}
use Rattle.rules.specs.Bytes.{among}
use Rattle.rules.specs.Json.Text.{byte_in}
use Rattle.json_tokens.proofs.Places.{here, ended}
use Rattle.rules.proofs.Ranges.{among-within}
use Rattle.json_characters.proofs.utf8.skip_in.Goals as goal

pub returns-then-s-at : goal.returns-then-s-at
unfolding byte_in
returns-then-s-at c = rw (ended _ _ c.if-s-at.true)

pub returns-then-b-low : goal.returns-then-b-low
unfolding byte_in among
returns-then-b-low c =
    let other : among c.args.low c.args.high (get_or c.args.s.now c.args.at 0) ≡ false = grind arith in
    rw (here _ _ c.if-s-at.false, byte_in, other)

pub returns : goal.returns
unfolding byte_in
returns c = (rw (here _ _ c.if-s-at.false, byte_in, among-within _ _ _ c.if-b-low.false c.if-high-b.false), omega arith, omega arith)

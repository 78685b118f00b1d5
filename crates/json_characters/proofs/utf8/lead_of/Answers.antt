-- `lead_of` meets its contract. Each kind of first byte by its range.
use native.Mathlib.Omega.{arith}
use Rattle.rules.specs.Bytes.{first, among}
use Rattle.rules.specs.Json.Strings.{leads}
use Rattle.json_characters.proofs.utf8.lead_of.Goals as goal

pub returns-in-224 : goal.returns-in-224
unfolding leads first among
returns-in-224 c = grind arith

pub returns-in-237 : goal.returns-in-237
unfolding leads first among
returns-in-237 c = grind arith

pub returns-in-240 : goal.returns-in-240
unfolding leads first among
returns-in-240 c = grind arith

pub returns-in-244 : goal.returns-in-244
unfolding leads first among
returns-in-244 c = grind arith

pub returns-in-194-to-223 : goal.returns-in-194-to-223
unfolding leads first among
returns-in-194-to-223 c = grind arith

pub returns-in-225-to-236 : goal.returns-in-225-to-236
unfolding leads first among
returns-in-225-to-236 c = grind arith

pub returns-in-238-to-239 : goal.returns-in-238-to-239
unfolding leads first among
returns-in-238-to-239 c = grind arith

pub returns-in-241-to-243 : goal.returns-in-241-to-243
unfolding leads first among
returns-in-241-to-243 c = grind arith

pub returns-in_default : goal.returns-in_default
unfolding leads first among
returns-in_default c = grind arith

pub returns-in_default-2 : goal.returns-in_default-2
unfolding leads first among
returns-in_default-2 c = grind arith

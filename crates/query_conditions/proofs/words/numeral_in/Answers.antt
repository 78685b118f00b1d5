-- `numeral_in` meets its contract. The bytes gathered and those to come are the string's.
use mathlib.Core.Path.{refl, sym, ap, ◌∙◌}
use native.Mathlib.Omega.{arith}
use Rattle.query_numbers.specs.Answers.{numeral_is}
use Rattle.json_strings.specs.Ahead.{fresh}
use Rattle.json_strings.proofs.Ahead.{ahead-fresh, sound-fresh}
use Rattle.json_strings.proofs.Gathered.{gathered-long}
use Rattle.query_conditions.proofs.Numerals.{number_of-long}
use Rattle.json_strings.proofs.Raw.{well-flat, well-within}
use Rattle.query_conditions.proofs.words.numeral_in.Goals as goal

pub loop-n-init : goal.loop-n-init
loop-n-init c = (
  sound-fresh c.args.s.now c.args.at (omega (arith, well-within c.requires)),
  refl,
  sym (well-flat c.requires) ∙ sym (ahead-fresh c.args.s.now (fresh c.args.at) refl),
)

pub returns : goal.returns
unfolding numeral_is
returns c =
    ap numeral_is (sym (number_of-long _ (omega (arith, gathered-long c.loop-n.digits _ _ c.loop-n.n (omega arith) c.loop-n.invariant.2))))

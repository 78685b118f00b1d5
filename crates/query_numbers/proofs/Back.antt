-- For callers: what an answer says of the rules, where it is known which answer it was.
use mathlib.Core.Path.{◌≡◌, refl, sym, ap, ◌∙◌}
use lib.IntN.{ℤ, pos, negsuc}
use Rattle.rules.specs.Query.{Number as RuleNumber, number, out_of_range, not_number}
use Rattle.rules.proofs.Tests.{apart}
use Rattle.query_numbers.specs.Answers.{signed_as, signed_is, signed_of, numeral_is}
use Rattle.query_numbers.specs.declared.Signed.{Signed}
use Rattle.std.specs.Prelude.{Ok, Err}
use Rattle.query_numbers.specs.declared.NoNumber.TheVariants.{OutOfRange, NotNumber}

pub signed_back : (z : ℤ) → signed_is (signed_of z) ≡ z
unfolding signed_is signed_as signed_of
signed_back (pos n) = refl
signed_back (negsuc n) = refl

pub numeral-number : (x : RuleNumber) {s : Signed} → Ok s ≡ numeral_is x → x ≡ number (signed_is s)
unfolding numeral_is
numeral-number (number z) {s} e = let q : s ≡ signed_of z = cc in ap number (sym (ap signed_is q ∙ signed_back z))
numeral-number out_of_range e = apart (cc)
numeral-number not_number e = apart (cc)

pub numeral-out : (x : RuleNumber) → Err OutOfRange ≡ numeral_is x → x ≡ out_of_range
unfolding numeral_is
numeral-out (number z) e = apart (cc)
numeral-out out_of_range e = refl
numeral-out not_number e = apart (cc)

pub numeral-not : (x : RuleNumber) → Err NotNumber ≡ numeral_is x → x ≡ not_number
unfolding numeral_is
numeral-not (number z) e = apart (cc)
numeral-not out_of_range e = apart (cc)
numeral-not not_number e = refl

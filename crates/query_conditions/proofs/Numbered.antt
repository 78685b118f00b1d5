-- The number of a condition is the number of its own value.
use mathlib.Core.Path.{◌≡◌, sym, ap, ◌∙◌}
use lib.ListN.{drop}
use Rattle.rules.specs.Json.Text.{Text}
use Rattle.rules.specs.Query.{Number as RuleNumber, number, out_of_range, not_number, number_of}
use Rattle.rules.proofs.Tests.{apart}
use Rattle.query_numbers.specs.Answers.{signed_is, signed_of}
use Rattle.query_numbers.specs.declared.Signed.{Signed}
use Rattle.query_numbers.proofs.Back.{signed_back}
use Rattle.json_strings.specs.Decoded.{decoded}
use Rattle.query_conditions.specs.Words.{as_is, fit_by, fit_is}
use Rattle.query_conditions.specs.Conditions.{Sound}
use Rattle.query_conditions.specs.declared.words.As.{As}
use Rattle.query_conditions.specs.declared.words.As.TheVariants.{Number as AsNumber}
use Rattle.std.specs.Prelude.{Some}
use Rattle.query_conditions.specs.declared.conditions.Condition.{Condition}

fit-back : (x : RuleNumber) {n : Signed} → Some n ≡ fit_by x → x ≡ number (signed_is n)
unfolding fit_by
fit-back (number z) {n} e = let same : n ≡ signed_of z = cc in ap number (sym (ap signed_is same ∙ signed_back z))
fit-back out_of_range e = apart (cc)
fit-back not_number e = apart (cc)

pub bound-number : (q : Text) (c : Condition) → Sound q c → c.kind ≡ AsNumber → number_of (decoded (drop c.bound q)) ≡ number (signed_is c.number)
unfolding as_is fit_is
bound-number q c s e =
    fit-back (number_of (decoded (drop c.bound q))) (s.number ∙ ap (λ (k : As). fit_is (as_is k) (decoded (drop c.bound q))) e)

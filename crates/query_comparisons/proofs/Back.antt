-- For callers: what an answer says of values, where it is known which answer it was.
use mathlib.Core.Path.{◌≡◌, refl}
use mathlib.Core.Bool.{Bool, true, false}
use Rattle.rules.proofs.Tests.{apart}
use Rattle.query_comparisons.specs.Judging.{judged_is}
use Rattle.std.specs.Prelude.{Ok, Err}

pub judged-met : (out met : Bool) → (Ok true) ≡ judged_is out met → (out ≡ false) × (met ≡ true)
unfolding judged_is
judged-met true met e = apart (cc)
judged-met false true e = (refl, refl)
judged-met false false e = apart (cc)

pub judged-unmet : (out met : Bool) → (Ok false) ≡ judged_is out met → (out ≡ false) × (met ≡ false)
unfolding judged_is
judged-unmet true met e = apart (cc)
judged-unmet false true e = apart (cc)
judged-unmet false false e = (refl, refl)

pub judged-out : (out met : Bool) → (Err (record {})) ≡ judged_is out met → out ≡ true
unfolding judged_is
judged-out true met e = refl
judged-out false true e = apart (cc)
judged-out false false e = apart (cc)

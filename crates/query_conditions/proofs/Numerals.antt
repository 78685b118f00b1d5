-- How long a query's number may be.
use mathlib.Core.Path.{◌≡◌}
use mathlib.Core.List.{[], ◌∷◌}
use Prim.Native.Nat.{◌<◌}
use native.Mathlib.Omega.{arith}
use lib.Dec.{eqb}
use lib.ListN.{length}
use Rattle.rules.specs.Bytes.{Bytes}
use Rattle.rules.specs.Query.{positive, negative, not_number, number_of}
use Rattle.rules.proofs.Tests.{by}
use Rattle.query_numbers.proofs.Queries.{digits-many}

-- a minus and 20 digits are the most
pub number_of-long : (x : Bytes) → 21 < length x → number_of x ≡ not_number
unfolding number_of positive negative
number_of-long [] h = absurd (omega arith)
number_of-long (b ∷ x) h = by (eqb b 0x2D)
    (λ p. rw (number_of, p, digits-many x (omega arith)))
    (λ p. rw (number_of, p, digits-many (b ∷ x) (omega arith)))

-- What is told of an answer, and of which answer it is told: of a listing its numbers, of numbers their count.
use mathlib.Core.Path.{◌≡◌, refl, ap}
use mathlib.Core.List.{List}
use Prim.Native.Nat.{ℕ}
use lib.ListN.{length}
use Rattle.rules.specs.Rooms.{counted}
use Rattle.rules.specs.Reading.{Listing, Told, told}
use Rattle.rules.specs.Same.{SameListing}
use Rattle.rules.specs.Refusals.{Refusal, Answer, accepted, refused}
use Rattle.rules.proofs.Tests.{apart}
use Rattle.rules.proofs.Sameness.{length-same-rows}

-- ---- of a listing

pub told-refused : (o : Answer Listing) (x : Refusal) → told o ≡ refused x → o ≡ refused x
unfolding told
told-refused (accepted l) x e = apart (cc)
told-refused (refused y) x e = let q : y ≡ x = cc in ap refused q

pub told-accepted : (o : Answer Listing) (t : Told) → told o ≡ accepted t → (l : Listing) × (o ≡ accepted l) × (told (accepted l) ≡ accepted t)
unfolding told
told-accepted (accepted l) t e = (l, refl, e)
told-accepted (refused y) t e = apart (cc)

pub told-count : (l : Listing) (t : Told) → told (accepted l) ≡ accepted t → length l.rows ≡ t.count
unfolding told
told-count l t e = cc

-- the same listings tell the same
pub told_same : {l m : Listing} → SameListing l m → told (accepted l) ≡ told (accepted m)
unfolding told
told_same h = cc (length-same-rows h.rows)

-- ---- of numbers

pub counted-refused : (o : Answer (List ℕ)) (x : Refusal) → counted o ≡ refused x → o ≡ refused x
unfolding counted
counted-refused (accepted ns) x e = apart (cc)
counted-refused (refused y) x e = let q : y ≡ x = cc in ap refused q

pub counted-accepted : (o : Answer (List ℕ)) (n : ℕ) → counted o ≡ accepted n → (ns : List ℕ) × (o ≡ accepted ns) × (length ns ≡ n)
unfolding counted
counted-accepted (accepted ns) n e = (ns, refl, cc)
counted-accepted (refused y) n e = apart (cc)

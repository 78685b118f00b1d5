-- The due files of a list of rows: a filter, the same of the same rows, and none more than there are; what the due listing comes to.
use mathlib.Core.Path.{◌≡◌, refl, ap, subst}
use mathlib.Core.Bool.{Bool, true, false}
use Rattle.std.specs.Prelude.{Some}
use mathlib.Core.List.{List, [], ◌∷◌, map}
use Prim.Native.Nat.{ℕ, suc, ◌≤◌}
use native.Mathlib.Omega.{arith}
use lib.ListN.{length}
use Rattle.facts.specs.Kept.{kept}
use Rattle.rules.specs.Bytes.{Bytes, ascii, keep_if}
use Rattle.rules.specs.Live.{Row}
use Rattle.rules.specs.Query.{query}
use Rattle.rules.specs.Reading.{Asked, Listing, reading}
use Rattle.rules.specs.Due.{is_due, due_rows, due_listing, due}
use Rattle.rules.specs.Refusals.{Refusal, Answer, accepted, refused, ◌>>=◌}
use Rattle.rules.specs.Same.{SameRows, no_rows, row, SameListing, SameAnswer, both-accepted}
use Rattle.rules.proofs.Opened.{rules}
use Rattle.rules.proofs.Moving.{keep_if-same}
use Rattle.rules.proofs.Answers.{same-bind}

-- ---- rows

-- the due rows are the rows of the due ones of what they are the rows of
pub due_rows-map : {A : Type 0} (time : ℕ) (of : A → Row) (xs : List A)
    → due_rows time (map of xs) ≡ map of (kept (λ (x : A). is_due time (of x).skip) xs)
unfolding due_rows kept keep_if
due_rows-map time of [] = refl
due_rows-map {A} time of (x ∷ xs) = go (due_rows-map time of xs) (is_due time (of x).skip) refl
  where
    go : due_rows time (map of xs) ≡ map of (kept (λ (y : A). is_due time (of y).skip) xs) → (b : Bool) → is_due time (of x).skip ≡ b
        → due_rows time (map of (x ∷ xs)) ≡ map of (kept (λ (y : A). is_due time (of y).skip) (x ∷ xs))
    go ih true e = rw (due_rows, kept, keep_if, e, ih)
    go ih false e = rw (due_rows, kept, keep_if, e, ih)

pub due_rows-same : (time : ℕ) {rs ss : List Row} → SameRows rs ss → SameRows (due_rows time rs) (due_rows time ss)
unfolding due_rows
due_rows-same time no_rows = no_rows
due_rows-same time (row {r} {s} {rs} {ss} a k h) =
    subst (λ (b : Bool). SameRows (due_rows time (r ∷ rs)) (keep_if b s (due_rows time ss))) (ap (is_due time) k)
    (keep_if-same (is_due time r.skip) r s a k (due_rows-same time h))

pub due_rows-few : (time : ℕ) (rs : List Row) → length (due_rows time rs) ≤ length rs
unfolding due_rows keep_if
due_rows-few time [] = omega arith
due_rows-few time (r ∷ rs) = go (is_due time r.skip) (due_rows-few time rs)
  where
    go : (b : Bool) → length (due_rows time rs) ≤ length rs → length (keep_if b r (due_rows time rs)) ≤ suc (length rs)
    go true h = omega arith
    go false h = omega arith

-- ---- the listing

pub due-accepted : (room : ℕ) (s : Bytes) (asked : Asked) (time : ℕ) {l : Listing} → reading room s (ascii "[]") asked ≡ accepted l
    → due room s asked time ≡ accepted (due_listing time l)
unfolding due
due-accepted room s asked time e = ap (λ (o : Answer Listing). o >>= (λ l. accepted (due_listing time l))) e

pub due-refused : (room : ℕ) (s : Bytes) (asked : Asked) (time : ℕ) {r : Refusal} → reading room s (ascii "[]") asked ≡ refused r
    → due room s asked time ≡ refused r
unfolding due
due-refused room s asked time e = ap (λ (o : Answer Listing). o >>= (λ l. accepted (due_listing time l))) e

-- the query [] asks nothing
pub query-none : query (ascii "[]") ≡ Some []
unfolding rules
query-none = refl

-- the same readings have the same due listings
pub due_listing-same : (time : ℕ) {l m : Listing} → SameListing l m → SameListing (due_listing time l) (due_listing time m)
unfolding due_listing
due_listing-same time h =
    record { version = h.version; table = h.table; in_force = h.in_force; can_write = h.can_write; rows = due_rows-same time h.rows }

pub due-same : (room : ℕ) (s t : Bytes) (asked asked' : Asked) (time : ℕ)
    → SameAnswer SameListing (reading room s (ascii "[]") asked) (reading room t (ascii "[]") asked')
    → SameAnswer SameListing (due room s asked time) (due room t asked' time)
unfolding due
due-same room s t asked asked' time h =
    same-bind (λ l. accepted (due_listing time l)) (λ l. accepted (due_listing time l)) h (λ l m e. both-accepted (due_listing-same time e))

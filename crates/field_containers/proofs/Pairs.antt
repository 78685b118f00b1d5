-- Partition values as members of an object: the value of a column, by the member that has the column's name; and their names.
use mathlib.Core.Path.{◌≡◌, refl, sym, ap, ◌∙◌}
use mathlib.Core.Bool.{Bool, true, false}
use Rattle.std.specs.Prelude.{Option, Some}
use mathlib.Core.List.{List, [], ◌∷◌}
use Prim.Native.Nat.{ℕ}
use lib.ListN.{drop}
use Rattle.rules.specs.Bytes.{Bytes, ◌>>=◌, is_some, same, holds, same_set, firsts}
use Rattle.rules.specs.Json.Text.{Text}
use Rattle.rules.specs.Json.Values.{Member, contents, value}
use Rattle.rules.specs.Json.Fields.{string_or_null}
use Rattle.rules.specs.Actions.{in_field, Pairs, pairs}
use Rattle.rules.specs.Picking.{value_at}
use Rattle.rules.proofs.Holding.{holds-same_set}
use Rattle.rules.proofs.Pairs.{pairs-cons, firsts-pairs}
use Rattle.rules.proofs.Json.Suffix.{some_same}
use Rattle.field_objects.specs.Lookup.{Standing, lookup}
use Rattle.field_objects.specs.Namings.{Object}
use Rattle.field_containers.specs.Nested.{Pairing}

-- ---- the column

pub value_at-lookup : (column : Bytes) (ms : List Member) {ps : Pairs} → pairs ms ≡ Some ps → value_at column ps ≡ (lookup column ms >>= string_or_null)
unfolding pairs value_at lookup
value_at-lookup column [] e = ap (value_at column) (sym (some_same e))
value_at-lookup column (m ∷ ms) {ps} e =
    let (x, qs, f, g, h) = pairs-cons m ms e in
    ap (value_at column) h ∙ go x qs f (value_at-lookup column ms g) (same column m.0) refl
  where
    go : (x : Option Bytes) (qs : Pairs) → string_or_null m.1 ≡ Some x → value_at column qs ≡ (lookup column ms >>= string_or_null)
        → (b : Bool) → same column m.0 ≡ b → value_at column ((m.0, x) ∷ qs) ≡ (lookup column (m ∷ ms) >>= string_or_null)
    go x qs f ih true k = rw (value_at, lookup, k, f)
    go x qs f ih false k = rw (value_at, lookup, k, ih)

-- ---- the object

pub read-object : {s : Text} {at : ℕ} {ps : Pairs} (w : Pairing s at ps) → contents (value 29) (drop at s) ≡ Some (w.ms, w.left)
unfolding in_field
read-object w = w.all

abbrev pub standing : {s : Text} {at : ℕ} {ps : Pairs} → Pairing s at ps → Standing 29 s at
standing w = record { ms = w.ms; left = w.left; all = read-object w }

-- ---- the names

pub pairing-object : {s : Text} {at : ℕ} {ps : Pairs} → Pairing s at ps → Object 29 s at (firsts ps)
pairing-object w = record { ms = w.ms; left = w.left; all = read-object w; each = sym (firsts-pairs w.ms w.each) }

-- a name is held where its value is found
pub holds-lookup : (name : Bytes) (ms : List Member) → holds name (firsts ms) ≡ is_some (lookup name ms)
unfolding lookup holds firsts is_some
holds-lookup name [] = refl
holds-lookup name (m ∷ ms) = go (holds-lookup name ms) (same name m.0)
  where
    go : holds name (firsts ms) ≡ is_some (lookup name ms) → (b : Bool)
        → elim b [ true ↦ true | false ↦ holds name (firsts ms) ] ≡ is_some {A = Text} (elim b [ true ↦ Some m.1 | false ↦ lookup name ms ])
    go ih true = refl
    go ih false = ih

-- equal lists are the same set
pub sets_same : {xs ys : List Bytes} → xs ≡ ys → same_set xs ys ≡ true
sets_same {xs} {ys} e = holds-same_set xs ys (λ x. ap (holds x) e)

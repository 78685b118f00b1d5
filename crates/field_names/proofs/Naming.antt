-- The names of each kind: fewer than there are slots, no two alike, and each short and plain.
use mathlib.Core.Path.{◌≡◌, refl}
use mathlib.Core.Bool.{Bool, true, ◌&&◌}
use mathlib.Core.List.{List, [], ◌∷◌}
use Prim.Native.Nat.{ℕ, zero, suc, ◌≤◌, ◌<◌}
use native.Mathlib.Omega.{arith}
use borrow.Author.Tests.{leb-true}
use lib.Dec.{leb}
use lib.ListN.{length, get_or}
use Rattle.rules.specs.Bytes.{Bytes, ascii, same, first, among, holds, distinct}
use Rattle.rules.specs.Json.Strings.{is_plain}
use Rattle.rules.proofs.Tests.{and_left, and_right}
use Rattle.field_names.specs.Kinds.{names_of, seek}
use Rattle.field_names.specs.declared.kinds.Kind.{Kind}
use Rattle.field_names.specs.declared.kinds.Kind.TheVariants.{Line, Add, Remove, Protocol, MetaData, Mergeskip}
use Rattle.field_names.specs.declared.kinds.Kind.TheVariants.{Marker, State, Manifest, Bounds, Condition}
use Rattle.field_names.proofs.Seeking.{seek-most}

pub names-few : (k : Kind) → length (names_of k) < 8
unfolding names_of
names-few Line = omega arith
names-few Add = omega arith
names-few Remove = omega arith
names-few Protocol = omega arith
names-few MetaData = omega arith
names-few Mergeskip = omega arith
names-few Marker = omega arith
names-few State = omega arith
names-few Manifest = omega arith
names-few Bounds = omega arith
names-few Condition = omega arith

pub place-few : (k : Kind) (name : Bytes) → seek name (names_of k) < 8
place-few k name = omega (arith, seek-most name (names_of k), names-few k)

pub names-distinct : (k : Kind) → distinct (names_of k) ≡ true
unfolding names_of ascii same holds distinct
names-distinct Line = refl
names-distinct Add = refl
names-distinct Remove = refl
names-distinct Protocol = refl
names-distinct MetaData = refl
names-distinct Mergeskip = refl
names-distinct Marker = refl
names-distinct State = refl
names-distinct Manifest = refl
names-distinct Bounds = refl
names-distinct Condition = refl

-- ---- each at most sixteen bytes, which are plain

pub every : {A : Type 0} → (A → Bool) → List A → Bool
every test [] = true
every test (x ∷ xs) = test x && every test xs

pub every-at : {A : Type 0} (test : A → Bool) (d : A) (xs : List A) → every test xs ≡ true → (i : ℕ) → i < length xs → test (get_or xs i d) ≡ true
unfolding every
every-at test d [] e i h = absurd (omega arith)
every-at test d (x ∷ xs) e zero h = and_left (test x) (every test xs) e
every-at test d (x ∷ xs) e (suc i) h = every-at test d xs (and_right (test x) (every test xs) e) i (omega arith)

written : Bytes → Bool
written x = leb (length x) 16 && every is_plain x

names-written : (k : Kind) → every written (names_of k) ≡ true
unfolding names_of ascii written every is_plain first among
names-written Line = refl
names-written Add = refl
names-written Remove = refl
names-written Protocol = refl
names-written MetaData = refl
names-written Mergeskip = refl
names-written Marker = refl
names-written State = refl
names-written Manifest = refl
names-written Bounds = refl
names-written Condition = refl

module _ (kind : Kind) (k : ℕ) (h : k < length (names_of kind)) where
  pub name-short : length (get_or (names_of kind) k []) ≤ 16
  unfolding written
  name-short = leb-true _ 16 (and_left _ _ (every-at written [] (names_of kind) (names-written kind) k h))

  pub name-plain : every is_plain (get_or (names_of kind) k []) ≡ true
  unfolding written
  name-plain = and_right (leb (length (get_or (names_of kind) k [])) 16) _ (every-at written [] (names_of kind) (names-written kind) k h)

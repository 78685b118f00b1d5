-- Fields by name: what stands under a name in a list that grows, and what a field is by the number of times that it stands there.
use mathlib.Core.Path.{◌≡◌, refl, sym, ap, ◌∙◌}
use mathlib.Core.Bool.{Bool, true, false}
use Rattle.std.specs.Prelude.{Option, None, Some}
use mathlib.Core.List.{List, [], ◌∷◌, ◌++◌, append-nil}
use Prim.Native.Nat.{◌≤◌}
use Prim.Native.String.{String}
use native.Mathlib.Omega.{arith}
use lib.ListN.{length}
use Rattle.rules.specs.Bytes.{Bytes, ascii, ◌>>=◌, same, is_empty}
use Rattle.rules.specs.Json.Text.{Text, byte}
use Rattle.rules.specs.Json.Values.{Member}
use Rattle.rules.specs.Json.Fields.{under, sole, once, is_null, sole_or_none, optional, absent, string_of, string_or_null, strings}
use Rattle.rules.proofs.Tests.{by}
use Rattle.rules.proofs.Order.{same_true}
use Rattle.rules.proofs.Json.Suffix.{some_same, bound, answered-none}

-- ---- under a name

module _ (name : Bytes) where
  pub under-hit : (m : Member) (ms : List Member) → same m.0 name ≡ true → under name (m ∷ ms) ≡ m.1 ∷ under name ms
  unfolding under
  under-hit m ms e = rw (under, e)

  pub under-miss : (m : Member) (ms : List Member) → same m.0 name ≡ false → under name (m ∷ ms) ≡ under name ms
  unfolding under
  under-miss m ms e = rw (under, e)

  pub under-append : (xs ys : List Member) → under name (xs ++ ys) ≡ under name xs ++ under name ys
  unfolding under
  under-append [] ys = refl
  under-append (m ∷ xs) ys = go (under-append xs ys) (same m.0 name) refl
    where
      go : under name (xs ++ ys) ≡ under name xs ++ under name ys → (test : Bool) → same m.0 name ≡ test
          → under name (m ∷ (xs ++ ys)) ≡ under name (m ∷ xs) ++ under name ys
      go ih true e = rw (under-hit m (xs ++ ys) e, under-hit m xs e) (ap (λ (l : List Text). m.1 ∷ l) ih)
      go ih false e = rw (under-miss m (xs ++ ys) e, under-miss m xs e) ih

  -- one member more at the end
  pub under-last-hit : (gone : List Member) (m : Member) → same m.0 name ≡ true → under name (gone ++ (m ∷ [])) ≡ under name gone ++ (m.1 ∷ [])
  unfolding under
  under-last-hit gone m e = under-append gone (m ∷ []) ∙ ap (λ (l : List Text). under name gone ++ l) (under-hit m [] e)

  pub under-last-miss : (gone : List Member) (m : Member) → same m.0 name ≡ false → under name (gone ++ (m ∷ [])) ≡ under name gone
  unfolding under
  under-last-miss gone m e = under-append gone (m ∷ []) ∙ ap (λ (l : List Text). under name gone ++ l) (under-miss m [] e) ∙ append-nil (under name gone)

-- ---- a field that stands twice or more

pub sole-more : (vs : List Text) → 2 ≤ length vs → sole vs ≡ None
unfolding sole
sole-more [] n = refl
sole-more (v ∷ []) n = absurd (omega (arith, n))
sole-more (v ∷ w ∷ vs) n = refl

pub sole_or_none-more : (vs : List Text) → 2 ≤ length vs → sole_or_none vs ≡ None
unfolding sole_or_none
sole_or_none-more [] n = absurd (omega (arith, n))
sole_or_none-more (v ∷ []) n = absurd (omega (arith, n))
sole_or_none-more (v ∷ w ∷ vs) n = refl

-- ---- fields, by what stands under their name

module _ (name : String) (ms : List Member) where
  pub once-missing : under (ascii name) ms ≡ [] → once name ms ≡ None
  unfolding once sole
  once-missing e = rw (once, e)

  pub once-there : {v : Text} → under (ascii name) ms ≡ v ∷ [] → once name ms ≡ Some v
  unfolding once sole
  once-there e = rw (once, e)

  pub once-twice : 2 ≤ length (under (ascii name) ms) → once name ms ≡ None
  unfolding once
  once-twice n = sole-more (under (ascii name) ms) n

  pub optional-missing : under (ascii name) ms ≡ [] → optional name ms ≡ Some None
  unfolding optional sole_or_none
  optional-missing e = rw (optional, e)

  pub optional-twice : 2 ≤ length (under (ascii name) ms) → optional name ms ≡ None
  unfolding optional
  optional-twice n = sole_or_none-more (under (ascii name) ms) n

  pub absent-missing : under (ascii name) ms ≡ [] → absent name ms ≡ true
  unfolding absent is_empty
  absent-missing e = rw (absent, e)

  pub absent-there : {v : Text} {vs : List Text} → under (ascii name) ms ≡ v ∷ vs → absent name ms ≡ false
  unfolding absent is_empty
  absent-there e = rw (absent, e)

-- ---- a string or null, and lists of strings

module _ (v : Text) where
  pub string_or_null-null : is_null v ≡ true → string_or_null v ≡ Some None
  unfolding string_or_null
  string_or_null-null n = rw (string_or_null, n)

  pub string_or_null-there : {s : Bytes} → is_null v ≡ false → string_of v ≡ Some s → string_or_null v ≡ Some (Some s)
  unfolding string_or_null
  string_or_null-there n e = rw (string_or_null, n, e)

  pub string_or_null-none : is_null v ≡ false → string_of v ≡ None → string_or_null v ≡ None
  unfolding string_or_null
  string_or_null-none n e = rw (string_or_null, n, e)

null-no-string : string_of (ascii "null") ≡ None
unfolding ascii string_of byte
null-no-string = refl

pub string_or_null-text : (v : Text) {b : Bytes} → string_of v ≡ Some b → string_or_null v ≡ Some (Some b)
unfolding is_null
string_or_null-text v e = by (is_null v)
    (λ n. answered-none e (ap string_of (same_true v (ascii "null") n) ∙ null-no-string))
    (λ n. string_or_null-there v n e)

-- a value that is one of the two is the string where there is a string, and null where there is none
module _ (v : Text) {x : Option Bytes} (f : string_or_null v ≡ Some x) where
  pub string_or_null-string : {b : Bytes} → string_of v ≡ Some b → x ≡ Some b
  string_or_null-string e = some_same (sym f ∙ string_or_null-text v e)

  pub string_or_null-no-string : string_of v ≡ None → x ≡ None
  string_or_null-no-string e = by (is_null v) (λ n. some_same (sym f ∙ string_or_null-null v n)) (λ n. answered-none f (string_or_null-none v n e))

-- one string more at the end
pub strings-last : (vs : List Text) (v : Text) {ss : List Bytes} {s : Bytes} → strings vs ≡ Some ss → string_of v ≡ Some s
    → strings (vs ++ (v ∷ [])) ≡ Some (ss ++ (s ∷ []))
unfolding strings
strings-last [] v {ss} {s} e f = rw (f, ← some_same e)
strings-last (w ∷ vs) v {ss} {s} e f =
    bound (string_of w) _ e (λ x g h.
    bound (strings vs) _ h (λ xs i j.
    rw (g, strings-last vs v i f) (ap (λ (l : List Bytes). Some (l ++ (s ∷ []))) (some_same j))))

-- one value that is none
pub strings-none : (vs : List Text) (v : Text) (ws : List Text) → string_of v ≡ None → strings (vs ++ (v ∷ ws)) ≡ None
unfolding strings
strings-none [] v ws f = rw f
strings-none (w ∷ vs) v ws f = go (strings-none vs v ws f) (string_of w)
  where
    go : strings (vs ++ (v ∷ ws)) ≡ None → (o : Option Bytes) → (o >>= (λ s. strings (vs ++ (v ∷ ws)) >>= (λ ss. Some (s ∷ ss)))) ≡ None
    go ih None = refl
    go ih (Some s) = rw ih

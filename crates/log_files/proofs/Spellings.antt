-- The names that say a version: only its twenty digits and the ending do, and so a file is found by that name.
use mathlib.Core.Path.{◌≡◌, refl, sym, ap, subst, ◌∙◌}
use mathlib.Core.Bool.{Bool, true, false}
use Rattle.std.specs.Prelude.{Option, None, Some}
use mathlib.Core.List.{List, [], ◌∷◌, ◌++◌}
use Prim.Native.Nat.{ℕ, ◌≤◌, ◌<◌}
use native.Mathlib.Omega.{arith}
use lib.Dec.{leb}
use lib.ListN.{length, take, drop, length-append, length-drop, take-append-drop}
use lib.Seq.{length-take-le, take_at, drop_at}
use borrow.Author.Tests.{eqb-true, eq-eqb, le-leb, leb-true, leb-false}
use Rattle.rules.specs.Bytes.{Bytes, ascii, same, ◌>>=◌, guard}
use Rattle.rules.specs.Numbers.{decimal, most}
use Rattle.rules.specs.Bundle.{File}
use Rattle.rules.specs.Names.{Name, marker, numbered, with_ending, name_of, version_in, checkpoint_in, is_marker, is}
use Rattle.rules.specs.Starts.{find}
use Rattle.rules.proofs.Tests.{apart, by, false_of, tests-equal}
use Rattle.rules.proofs.Order.{same_true, same_false, eq-same, ne_same}
use Rattle.rules.specs.Keyed.{lookup}
use Rattle.rules.proofs.Decimals.{decimal-start}
use Rattle.rules.proofs.Choices.{bind-some, guard-bind}
use Rattle.rules.proofs.Json.Suffix.{some_same}
use Rattle.file_bundle.specs.Files.{files_in}
use Rattle.log_files.specs.Logs.{title, digits, PlaceIs}
use Rattle.log_files.proofs.Digits.{length_digits, digits_decimal, decimal-digits}

-- ---- a linear look for what a name says is one for the name

module _ (test : Name → Bool) where
  pub find-lookup : (k : Bytes) → ((n : Bytes) → test (name_of n) ≡ same k n) → (fs : List File) → find test fs ≡ lookup title k fs
  unfolding find lookup
  find-lookup k h [] = refl
  find-lookup k h (f ∷ fs) = rw (find, h f.name, lookup) (go (find-lookup k h fs) (same k f.name))
    where
      go : find test fs ≡ lookup title k fs → (here : Bool)
          → ◌≡◌ {A = Option File} (elim here [ true ↦ Some f | false ↦ find test fs ]) (elim here [ true ↦ Some f | false ↦ lookup title k fs ])
      go ih true = refl
      go ih false = ih

  pub find_none : ((n : Bytes) → test (name_of n) ≡ false) → (fs : List File) → find test fs ≡ None
  unfolding find
  find_none h [] = refl
  find_none h (f ∷ fs) = rw (find, h f.name) (find_none h fs)

-- ---- by the ending behind the digits

-- the number where the ending is this one and the number is at most 2^63 - 1
abbrev pub told : (ending : Bytes) → Option ℕ → Bytes → Option ℕ
told ending o e = do
  n ← o
  _ ← guard (same e ending)
  _ ← guard (leb n most)
  Some n

pub version-told : (o : Option ℕ) (e : Bytes) → version_in (with_ending o e) ≡ told (ascii ".json") o e
unfolding version_in with_ending numbered
version-told None e = refl
version-told (Some n) e = go (same e (ascii ".json")) (same e (ascii ".checkpoint.json")) (leb n most)
  where
    go : (v c small : Bool) → version_in (numbered v c small n) ≡ (guard v >>= λ _. guard small >>= λ _. Some n)
    go true c true = refl
    go true c false = refl
    go false true true = refl
    go false true false = refl
    go false false small = refl

pub checkpoint-told : (o : Option ℕ) (e : Bytes) → checkpoint_in (with_ending o e) ≡ told (ascii ".checkpoint.json") o e
unfolding checkpoint_in with_ending numbered same ascii
checkpoint-told None e = refl
checkpoint-told (Some n) e = go (same e (ascii ".json")) refl (same e (ascii ".checkpoint.json")) refl (leb n most)
  where
    go : (v : Bool) → same e (ascii ".json") ≡ v → (c : Bool) → same e (ascii ".checkpoint.json") ≡ c → (small : Bool)
        → checkpoint_in (numbered v c small n) ≡ (guard c >>= λ _. guard small >>= λ _. Some n)
    go true p true q small = apart (cc (same_true e (ascii ".json") p, same_true e (ascii ".checkpoint.json") q))
    go true p false q true = refl
    go true p false q false = refl
    go false p true q true = refl
    go false p true q false = refl
    go false p false q small = refl

-- ---- the name itself

-- a reading of names that goes by an ending
pub record ByEnding (tell : Name → Option ℕ) (ending : Bytes) : Type 0 where
  pub marker : tell marker ≡ None
  pub ended : (o : Option ℕ) (e : Bytes) → tell (with_ending o e) ≡ told ending o e
  pub some_bytes : 0 < length ending

name-digits : (n : Bytes) → same n (ascii "_last_checkpoint") ≡ false → name_of n ≡ with_ending (decimal (take 20 n)) (drop 20 n)
unfolding name_of
name-digits n e = rw (name_of, e)

is_some : (v : ℕ) (o : Option ℕ) → is v o ≡ true → o ≡ Some v
unfolding is
is_some v None h = apart (cc)
is_some v (Some m) h = ap Some (sym (eqb-true v m h))

module _ {tell : Name → Option ℕ} {ending : Bytes} (b : ByEnding tell ending) where
  module _ (v : ℕ) (n : Bytes) where
    -- the digits and the ending of a name that says v are these
    ended-spelled : told ending (decimal (take 20 n)) (drop 20 n) ≡ Some v → (v ≤ most) × (digits 20 v ++ ending ≡ n)
    ended-spelled h =
        let a = bind-some (decimal (take 20 n)) (λ m. guard (same (drop 20 n) ending) >>= λ _. guard (leb m most) >>= λ _. Some m) h in
        let c = guard-bind (same (drop 20 n) ending) (λ _. guard (leb a.0 most) >>= λ _. Some a.0) a.2 in
        let d = guard-bind (leb a.0 most) (λ _. Some a.0) c.1 in
        let w : a.0 ≡ v = some_same d.1 in
        let r : drop 20 n ≡ ending = same_true (drop 20 n) ending c.0 in
        let long : 20 < length n = omega (arith, length-drop 20 n, ap length r, b.some_bytes) in
        let l : length (take 20 n) ≡ 20 = length-take-le 20 n (omega arith) in
        let q : take 20 n ≡ digits 20 v = decimal-digits 20 (take 20 n) v l (sym (decimal-start (take 20 n) (omega arith)) ∙ a.1 ∙ ap Some w) in
        (rw w at (leb-true a.0 most d.0), rw (← q, ← r) (take-append-drop 20 n))

    says-spelled : is v (tell (name_of n)) ≡ true → (v ≤ most) × (digits 20 v ++ ending ≡ n)
    unfolding name_of is
    says-spelled h = by (same n (ascii "_last_checkpoint")) marked (λ e. ended-spelled (sym (b.ended _ _) ∙ is_some v _ (rw (name-digits n e) at h)))
      where
        marked : same n (ascii "_last_checkpoint") ≡ true → (v ≤ most) × (digits 20 v ++ ending ≡ n)
        marked e =
            let m : name_of n ≡ marker = rw (name_of, e) in
            apart (cc (ap (λ (x : Name). is v (tell x)) m, ap (is v) b.marker))

    spelled-says : v ≤ most → digits 20 v ++ ending ≡ n → is v (tell (name_of n)) ≡ true
    unfolding is ascii most
    spelled-says l e =
        let d : length (digits 20 v) ≡ 20 = length_digits 20 v in
        let long : 16 < length n = omega (arith, ap length e, length-append (digits 20 v) ending) in
        let other : same n (ascii "_last_checkpoint") ≡ false = false_of _ (λ t. omega (arith, ap length (same_true n _ t))) in
        let front : take 20 n ≡ digits 20 v = rw (← e) (take_at (digits 20 v) ending 20 d) in
        let back : drop 20 n ≡ ending = rw (← e) (drop_at (digits 20 v) ending 20 d) in
        let read : decimal (digits 20 v) ≡ Some v = decimal-start (digits 20 v) (omega arith) ∙ digits_decimal 20 v (omega arith) in
        rw (name-digits n other, b.ended _ _, front, back, read, eq-same {x = ending} refl, le-leb v most l) (eq-eqb v v refl)

  pub says_same : (v : ℕ) → v ≤ most → (n : Bytes) → is v (tell (name_of n)) ≡ same (digits 20 v ++ ending) n
  says_same v l n = tests-equal _ _ (λ h. eq-same (says-spelled v n h).1) (λ h. spelled-says v n l (same_true _ _ h))

  pub says-above : (v : ℕ) → most < v → (n : Bytes) → is v (tell (name_of n)) ≡ false
  says-above v l n = false_of _ (λ h. let r = (says-spelled v n h).0 in omega arith)

-- ---- the three readings

pub version-ended : ByEnding version_in (ascii ".json")
unfolding version_in ascii
version-ended = record { marker = refl; ended = version-told; some_bytes = omega arith }

pub checkpoint-ended : ByEnding checkpoint_in (ascii ".checkpoint.json")
unfolding checkpoint_in ascii
checkpoint-ended = record { marker = refl; ended = checkpoint-told; some_bytes = omega arith }

-- digits and an ending never say the marker
marker-ended : (o : Option ℕ) (e : Bytes) → is_marker (with_ending o e) ≡ false
unfolding is_marker with_ending numbered
marker-ended None e = refl
marker-ended (Some n) e = go (same e (ascii ".json")) (same e (ascii ".checkpoint.json")) (leb n most)
  where
    go : (v c small : Bool) → is_marker (numbered v c small n) ≡ false
    go true c true = refl
    go true c false = refl
    go false true true = refl
    go false true false = refl
    go false false small = refl

pub marker-same : (n : Bytes) → is_marker (name_of n) ≡ same (ascii "_last_checkpoint") n
unfolding name_of is_marker
marker-same n = by (same n (ascii "_last_checkpoint")) here away
  where
    here : same n (ascii "_last_checkpoint") ≡ true → is_marker (name_of n) ≡ same (ascii "_last_checkpoint") n
    here e = rw (name_of, e, eq-same (sym (same_true n _ e)))

    away : same n (ascii "_last_checkpoint") ≡ false → is_marker (name_of n) ≡ same (ascii "_last_checkpoint") n
    away e = rw (name-digits n e, marker-ended) (sym (ne_same (ascii "_last_checkpoint") n (λ q. same_false n _ e (sym q))))

-- ---- the file that says v is the one of that name

module _ {tell : Name → Option ℕ} {ending : Bytes} (b : ByEnding tell ending) (v : ℕ) (fs : List File) where
  pub find-said : v ≤ most → (name : Bytes) → name ≡ digits 20 v ++ ending → find (λ (n : Name). is v (tell n)) fs ≡ lookup title name fs
  find-said l name e = rw e (find-lookup (λ (n : Name). is v (tell n)) (digits 20 v ++ ending) (says_same b v l) fs)

  pub find-above : most < v → find (λ (n : Name). is v (tell n)) fs ≡ None
  find-above l = find_none (λ (n : Name). is v (tell n)) (says-above b v l) fs

-- where a place is promised by the name up to the highest version, and none above it, it is promised by the number
pub place-said : {tell : Name → Option ℕ} {ending : Bytes} → ByEnding tell ending → (s : Bytes) (v : ℕ) (r : Option ℕ)
    → (most < v → r ≡ None) → (v ≤ most → PlaceIs s (lookup title (digits 20 v ++ ending) (files_in s)) r)
    → PlaceIs s (find (λ (n : Name). is v (tell n)) (files_in s)) r
place-said b s v r above within =
    by (leb v most)
    (λ e. let l = leb-true v most e in subst (λ (o : Option File). PlaceIs s o r) (sym (find-said b v (files_in s) l _ refl)) (within l))
    (λ e. let l = leb-false v most e in subst (PlaceIs s _) (sym (above l)) (find-above b v (files_in s) l))

-- The bundle as a whole: when its bytes are well-formed, and how many files it then has.
use mathlib.Core.Path.{◌≡◌, sym, ap, ◌∙◌}
use mathlib.Core.Bool.{Bool, false, ◌&&◌}
use Rattle.std.specs.Prelude.{Option, Some}
use mathlib.Core.List.{List, [], ◌∷◌}
use Prim.Native.Nat.{ℕ, suc, ◌+◌, ◌*◌, ◌≤◌, ◌<◌}
use native.Mathlib.Nat.{sub-zero}
use native.Mathlib.Omega.{arith}
use lib.Dec.{leb}
use lib.ListN.{length, take, drop}
use borrow.Author.Tests.{le-leb, lt-leb, leb-true, eqb-true}
use Rattle.rules.specs.Bytes.{Bytes, among, is_empty, ◌>>=◌, guard, is_some}
use Rattle.rules.specs.Numbers.{little}
use Rattle.rules.specs.Bundle.{Entry, File, most_bytes, most_entries, entry_bytes, entries, name_in, ascending, files_from, files_of, bundle}
use Rattle.rules.proofs.Ranges.{among-true, among-within, among_below, among-above}
use Rattle.file_bundle.specs.Files.{left, left_fits}
use Rattle.rules.proofs.Choices.{bind-some, guard-bind, is_some-guard}
use Rattle.rules.proofs.Json.Suffix.{some_same}
use Rattle.rules.proofs.Bundles.{length-entries}

-- ---- by what is left before the first entry

left-all : (s : Bytes) (n : ℕ) → left s n 0 ≡ entries n (drop 4 s)
unfolding left
left-all s n = rw sub-zero

is_some-files_of : (s : Bytes) (n : ℕ) → is_some (files_of n s) ≡ (leb n 1024 && (leb (4 + 112 * n) (length s) && left_fits s n 0 (4 + 112 * n)))
unfolding files_of most_entries entry_bytes left_fits
is_some-files_of s n =
    rw (left_fits, left-all s n)
    (is_some-guard (leb n 1024) _
    ∙ ap (λ (b : Bool). leb n 1024 && b)
    (is_some-guard (leb (4 + 112 * n) (length s)) _
    ∙ ap (λ (b : Bool). leb (4 + 112 * n) (length s) && b) (is_some-guard (ascending (entries n (drop 4 s))) _)))

module _ (s : Bytes) where
  pub bundle-short : length s < 4 → is_some (bundle s) ≡ false
  unfolding bundle is_some
  bundle-short h =
      let e : among 4 most_bytes (length s) ≡ false = among_below 4 most_bytes (length s) h in
      rw (bundle, e)

  pub bundle-long : 1048576 < length s → is_some (bundle s) ≡ false
  unfolding bundle is_some most_bytes
  bundle-long h =
      let e : among 4 1048576 (length s) ≡ false = among-above 4 1048576 (length s) (omega arith) h in
      rw (bundle, e)

  module _ (n : ℕ) (count : n ≡ little (take 4 s)) (low : 4 ≤ length s) (high : length s ≤ 1048576) where
    bundle-counted : is_some (bundle s) ≡ is_some (files_of n s)
    unfolding bundle most_bytes
    bundle-counted = rw (bundle, among-within 4 1048576 (length s) low high, count)

    pub bundle-many : 1024 < n → is_some (bundle s) ≡ false
    bundle-many h = bundle-counted ∙ rw (is_some-files_of s n, lt-leb _ _ h)

    pub bundle-cut : n ≤ 1024 → length s < 4 + 112 * n → is_some (bundle s) ≡ false
    bundle-cut h l = bundle-counted ∙ rw (is_some-files_of s n, le-leb _ _ h, lt-leb _ _ l)

    pub bundle-left : n ≤ 1024 → 4 + 112 * n ≤ length s → is_some (bundle s) ≡ left_fits s n 0 (4 + 112 * n)
    bundle-left h l = bundle-counted ∙ rw (is_some-files_of s n, le-leb _ _ h, le-leb _ _ l)

-- ---- of a well-formed one

-- one file of each entry, and the others of the others
pub record Cut (k at : ℕ) (e : Entry) (es : List Entry) (rest : Bytes) (fs : List File) : Type 0 where
  pub name : Bytes
  pub others : List File
  pub named : name_in e.padded ≡ Some name
  pub placed : e.start ≡ at
  pub inside : e.size ≤ length rest
  pub behind : files_from (suc k) (at + e.size) es (drop e.size rest) ≡ Some others
  pub all : fs ≡ record { entry = k; name = name; start = at; time = e.time; body = take e.size rest } ∷ others

pub files-cut : (k at : ℕ) (e : Entry) (es : List Entry) (rest : Bytes) (fs : List File) → files_from k at (e ∷ es) rest ≡ Some fs → Cut k at e es rest fs
unfolding files_from
files-cut k at e es rest fs h =
    let a = bind-some (name_in e.padded) _ h in
    let b = guard-bind _ _ a.2 in
    let c = guard-bind _ _ b.1 in
    let d = bind-some (files_from (suc k) (at + e.size) es (drop e.size rest)) _ c.1 in
    record {
      name = a.0;
      others = d.0;
      named = a.1;
      placed = eqb-true _ _ b.0;
      inside = leb-true _ _ c.0;
      behind = d.1;
      all = sym (some_same d.2);
    }

pub length-files : (k at : ℕ) (es : List Entry) (rest : Bytes) (fs : List File) → files_from k at es rest ≡ Some fs → length fs ≡ length es
unfolding files_from
length-files k at [] rest fs h = let b = guard-bind (is_empty rest) _ h in ap length (sym (some_same b.1))
length-files k at (e ∷ es) rest fs h =
    let r = files-cut k at e es rest fs h in
    ap length r.all ∙ ap suc (length-files (suc k) (at + e.size) es (drop e.size rest) r.others r.behind)

-- what a bundle that is well-formed is made of
pub record WellFormed (s : Bytes) (n : ℕ) (fs : List File) : Type 0 where
  pub low : 4 ≤ length s
  pub contents : 4 + 112 * n ≤ length s
  pub files : files_from 0 (4 + 112 * n) (entries n (drop 4 s)) (drop (4 + 112 * n) s) ≡ Some fs
  pub count : length fs ≡ n

files_of-some : (s : Bytes) (n : ℕ) (fs : List File) → 4 ≤ length s → files_of n s ≡ Some fs → WellFormed s n fs
unfolding files_of entry_bytes
files_of-some s n fs low h =
    let es = entries n (drop 4 s) in
    let bodies : Unit {0} → Option (List File) = λ _. files_from 0 (4 + 112 * n) es (drop (4 + 112 * n) s) in
    let ordered : Unit {0} → Option (List File) = λ _. guard (ascending es) >>= bodies in
    let b = guard-bind (leb n most_entries) (λ _. guard (leb (4 + 112 * n) (length s)) >>= ordered) h in
    let c = guard-bind (leb (4 + 112 * n) (length s)) ordered b.1 in
    let d = guard-bind (ascending es) bodies c.1 in
    record {
      low = low;
      contents = leb-true _ _ c.0;
      files = d.1;
      count = length-files 0 (4 + 112 * n) (entries n (drop 4 s)) (drop (4 + 112 * n) s) fs d.1 ∙ length-entries n (drop 4 s);
    }

pub bundle-some : (s : Bytes) (fs : List File) → bundle s ≡ Some fs → WellFormed s (little (take 4 s)) fs
unfolding bundle
bundle-some s fs h =
    let a = guard-bind (among 4 most_bytes (length s)) (λ _. files_of (little (take 4 s)) s) h in
    files_of-some s (little (take 4 s)) fs (among-true 4 most_bytes (length s) a.0).0 a.1

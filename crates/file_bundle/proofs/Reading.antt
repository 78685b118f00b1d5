-- Of a well-formed bundle: what file k is, by the entry that lies in the contents.
use mathlib.Core.Path.{◌≡◌, refl, sym, ap, subst, ◌∙◌}
use mathlib.Core.Bool.{true}
use Rattle.std.specs.Prelude.{Option, None, Some}
use mathlib.Core.List.{List, [], ◌∷◌}
use Prim.Native.Nat.{ℕ, zero, suc, ◌+◌, ◌*◌, ◌-◌, ◌≤◌, ◌<◌}
use native.Mathlib.Nat.{not-suc-le-zero, le_of_suc-le-suc}
use native.Mathlib.Omega.{arith}
use lib.ListN.{length, take, drop, get_or, length-drop}
use lib.Seq.{drop-drop}
use Rattle.rules.specs.Bytes.{Bytes, is_some}
use Rattle.rules.specs.Numbers.{little}
use Rattle.rules.specs.Bundle.{Entry, File, entry_of, entries, name_in, files_from, bundle, IsBundle}
use Rattle.rules.proofs.Tests.{apart}
use Rattle.file_bundle.specs.Files.{files_or, files_in, file_in, no_file}
use Rattle.file_bundle.proofs.Entries.{entries_at}
use Rattle.file_bundle.proofs.Opening.{files-cut, length-files, bundle-some}

-- the file f is that of entry number k, which is e
pub record FileOf (s : Bytes) (e : Entry) (k : ℕ) (f : File) : Type 0 where
  pub number : f.entry ≡ k
  pub named : name_in e.padded ≡ Some f.name
  pub start : e.start ≡ f.start
  pub time : e.time ≡ f.time
  pub inside : e.start + e.size ≤ length s
  pub body : take e.size (drop e.start s) ≡ f.body

files-at : (s : Bytes) (es : List Entry) (k at j m : ℕ) (fs : List File) (d : Entry)
    → at ≤ length s → files_from k at es (drop at s) ≡ Some fs → j < length fs → m ≡ k + j
    → FileOf s (get_or es j d) m (get_or fs j no_file)
files-at s [] k at j m fs d l h b e = let z = length-files k at [] (drop at s) fs h in absurd (omega arith)
files-at s (x ∷ es) k at zero m fs d l h b e =
    let r = files-cut k at x es (drop at s) fs h in
    let i : x.size ≤ length s - at = rw length-drop at r.inside in
    let p : x.start ≡ at = r.placed in
    subst (λ (gs : List File). FileOf s x m (get_or gs 0 no_file)) (sym r.all)
    (record {
      number = omega arith;
      named = r.named;
      start = p;
      time = refl;
      inside = omega arith;
      body = rw p;
    })
files-at s (x ∷ es) k at (suc j) m fs d l h b e =
    let r = files-cut k at x es (drop at s) fs h in
    let i : x.size ≤ length s - at = rw length-drop at r.inside in
    let c : suc j < suc (length r.others) = subst (λ (gs : List File). suc j < length gs) r.all b in
    let g : files_from (suc k) (at + x.size) es (drop (at + x.size) s) ≡ Some r.others = rw (drop-drop x.size at s) at r.behind in
    subst (λ (gs : List File). FileOf s (get_or es j d) m (get_or gs (suc j) no_file)) (sym r.all)
    (files-at s es (suc k) (at + x.size) j m r.others d (omega arith) g (le_of_suc-le-suc c) (omega arith))

-- ---- file k of the bundle

pub record Found (s : Bytes) (k : ℕ) : Type 0 where
  pub contents : 4 + 112 * k + 112 ≤ length s
  pub file : FileOf s (entry_of (drop (4 + 112 * k) s)) k (file_in s k)

found_in : (s : Bytes) (k : ℕ) (fs : List File) → bundle s ≡ Some fs → k < length fs → Found s k
unfolding file_in files_in files_or
found_in s k fs e h =
    let w = bundle-some s fs e in
    let n = little (take 4 s) in
    let l : k < n = omega (arith, w.count) in
    let d = entry_of [] in
    let is : get_or (entries n (drop 4 s)) k d ≡ entry_of (drop (4 + 112 * k) s) = entries_at n k (drop 4 s) d l ∙ ap entry_of (drop-drop (112 * k) 4 s) in
    let f = files-at s (entries n (drop 4 s)) 0 (4 + 112 * n) k k fs d w.contents w.files h (omega arith) in
    record {
      contents = omega (arith, w.contents);
      file = rw e (subst (λ (x : Entry). FileOf s x k (get_or fs k no_file)) is f);
    }

pub found : (s : Bytes) (k : ℕ) → k < length (files_in s) → Found s k
unfolding files_in files_or
found s k h = go (bundle s) refl h
  where
    go : (o : Option (List File)) → bundle s ≡ o → k < length (files_or o) → Found s k
    go None e l = absurd (not-suc-le-zero l)
    go (Some fs) e l = found_in s k fs e l

-- ---- how many there are

pub files_in-count : (s : Bytes) → IsBundle s → (4 ≤ length s) × (length (files_in s) ≡ little (take 4 s))
unfolding files_in files_or is_some
files_in-count s h = go (bundle s) refl h
  where
    go : (o : Option (List File)) → bundle s ≡ o → is_some o ≡ true → (4 ≤ length s) × (length (files_or o) ≡ little (take 4 s))
    go None e t = apart (cc)
    go (Some fs) e t = let w = bundle-some s fs e in (w.low, w.count)

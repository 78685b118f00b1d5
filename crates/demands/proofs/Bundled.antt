-- Any choice of a bundle's files has a bundle: their entries are written anew, one behind the other, and then their bodies.
use mathlib.Core.Path.{◌≡◌, refl, ◌∙◌, ap}
use mathlib.Core.Bool.{true}
use Rattle.std.specs.Prelude.{Some}
use mathlib.Core.List.{List, [], ◌∷◌, ◌++◌, append_assoc}
use Prim.Native.Nat.{ℕ, suc, ◌+◌, ◌*◌, ◌≤◌, ◌<◌}
use native.Mathlib.Omega.{arith}
use lib.ListN.{length, take, drop, length-append}
use lib.Seq.{take_at, drop_at, drop-append_seam}
use borrow.Author.Tests.{le-leb, eq-eqb}
use Rattle.facts.specs.Lists.{All}
use Rattle.facts.proofs.Lists.{All-append, drop_past}
use Rattle.rules.specs.Bytes.{Bytes, is_empty, is_less}
use Rattle.rules.specs.Numbers.{little}
use Rattle.rules.specs.Bundle.{Entry, File, most_bytes, most_entries, entry_bytes, field, entry_of, entries, ascending, files_from, files_of, bundle}
use Rattle.rules.specs.Keyed.{Ascends}
use Rattle.rules.specs.Samples.{little_of}
use Rattle.rules.proofs.Ranges.{among-within}
use Rattle.demands.specs.Removed.{AreBytes, RemovalKeepsABundle}
use Rattle.demands.proofs.LittleEndian.{length-little_of, little-little_of, little_of-bytes, fits-4}
use Rattle.demands.proofs.KeptFiles.{Kept, Fit, Of, no_more, of, bodies, kept_padded, source, some-all, some-ascends, some-fewer, left, same-files}

-- the entries, the first of whose bodies starts at `at`
contents : (at : ℕ) → List Kept → Bytes
contents at [] = []
contents at (x ∷ xs) = x.padded ++ (little_of 4 at ++ (little_of 4 (length x.body) ++ (little_of 8 x.time ++ contents (at + length x.body) xs)))

written : List Kept → Bytes
written xs = little_of 4 (length xs) ++ (contents (4 + 112 * length xs) xs ++ bodies xs)

entry : ℕ → Kept → Entry
entry at x = record { padded = x.padded; start = at; size = length x.body; time = x.time }

entries_from : ℕ → List Kept → List Entry
entries_from at [] = []
entries_from at (x ∷ xs) = entry at x ∷ entries_from (at + length x.body) xs

files_at : (k at : ℕ) → List Kept → List File
files_at k at [] = []
files_at k at (x ∷ xs) = record { entry = k; name = x.name; start = at; time = x.time; body = x.body } ∷ files_at (suc k) (at + length x.body) xs

files-of : (k at : ℕ) (xs : List Kept) → Of xs (files_at k at xs)
unfolding files_at
files-of k at [] = no_more
files-of k at (x ∷ xs) = of refl refl refl (files-of (suc k) (at + length x.body) xs)

-- four fields, one behind the other
module _ (p a c d r : Bytes) (wp : length p ≡ 96) (wa : length a ≡ 4) (wc : length c ≡ 4) (wd : length d ≡ 8) where
  whole : Bytes
  whole = p ++ (a ++ (c ++ (d ++ r)))

  fields_read : entry_of whole ≡ record { padded = p; start = little a; size = little c; time = little d }
  unfolding whole entry_of field
  fields_read =
      let one : take 96 whole ≡ p = take_at p (a ++ (c ++ (d ++ r))) 96 wp in
      let two : take 4 (drop 96 whole) ≡ a = ap (take 4) (drop_at p (a ++ (c ++ (d ++ r))) 96 wp) ∙ take_at a (c ++ (d ++ r)) 4 wa in
      let third : drop 100 whole ≡ c ++ (d ++ r) = drop_past p (a ++ (c ++ (d ++ r))) 96 4 wp ∙ drop_at a (c ++ (d ++ r)) 4 wa in
      let three : take 4 (drop 100 whole) ≡ c = ap (take 4) third ∙ take_at c (d ++ r) 4 wc in
      let four : take 8 (drop 104 whole) ≡ d =
      ap (take 8) (drop_past p (a ++ (c ++ (d ++ r))) 96 8 wp ∙ drop_past a (c ++ (d ++ r)) 4 4 wa ∙ drop_at c (d ++ r) 4 wc) ∙ take_at d r 8 wd in
      rw (one, two, three, four)

  fields-rest : drop 112 whole ≡ r
  unfolding whole
  fields-rest = drop_past p (a ++ (c ++ (d ++ r))) 96 16 wp ∙ drop_past a (c ++ (d ++ r)) 4 12 wa ∙ drop_past c (d ++ r) 4 8 wc ∙ drop_at d r 8 wd

entries-written : (at : ℕ) (xs : List Kept) (r : Bytes) → All Fit xs → at + length (bodies xs) ≤ 1_048_576
    → entries (length xs) (contents at xs ++ r) ≡ entries_from at xs
unfolding entries entry_bytes contents entries_from entry bodies whole All
entries-written at [] r h l = refl
entries-written at (x ∷ xs) r h l =
    let n = length x.body in
    let more = contents (at + n) xs ++ r in
    let size : length (x.body ++ bodies xs) ≡ n + length (bodies xs) = length-append x.body (bodies xs) in
    let wa = length-little_of 4 at in
    let wc = length-little_of 4 n in
    let wd = length-little_of 8 x.time in
    let shape : contents at (x ∷ xs) ++ r ≡ x.padded ++ (little_of 4 at ++ (little_of 4 n ++ (little_of 8 x.time ++ more))) = simp append_assoc in
    let one : entry_of (contents at (x ∷ xs) ++ r) ≡ entry at x =
    ap entry_of shape ∙ fields_read x.padded (little_of 4 at) (little_of 4 n) (little_of 8 x.time) more h.0.wide wa wc wd
    ∙ rw (little-little_of 4 at (fits-4 at (omega arith)), little-little_of 4 n (fits-4 n (omega arith)), little-little_of 8 x.time h.0.time-fits) in
    let others : drop 112 (contents at (x ∷ xs) ++ r) ≡ more =
    ap (drop 112) shape ∙ fields-rest x.padded (little_of 4 at) (little_of 4 n) (little_of 8 x.time) more h.0.wide wa wc wd in
    ap (λ (e : Entry). e ∷ entries (length xs) (drop 112 (contents at (x ∷ xs) ++ r))) one
    ∙ ap (λ (t : Bytes). entry at x ∷ entries (length xs) t) others
    ∙ ap (λ (es : List Entry). entry at x ∷ es) (entries-written (at + n) xs r h.1 (omega arith))

length-contents : (at : ℕ) (xs : List Kept) → All Fit xs → length (contents at xs) ≡ 112 * length xs
unfolding contents All
length-contents at [] h = refl
length-contents at (x ∷ xs) h =
    let n = length x.body in
    let r = contents (at + n) xs in
    let a = length-append x.padded (little_of 4 at ++ (little_of 4 n ++ (little_of 8 x.time ++ r))) in
    let b = length-append (little_of 4 at) (little_of 4 n ++ (little_of 8 x.time ++ r)) in
    let c = length-append (little_of 4 n) (little_of 8 x.time ++ r) in
    let d = length-append (little_of 8 x.time) r in
    omega (arith, a, b, c, d, h.0.wide, length-little_of 4 at, length-little_of 4 n, length-little_of 8 x.time, length-contents (at + n) xs h.1)

ascending-written : (at : ℕ) (xs : List Kept) → Ascends kept_padded xs → ascending (entries_from at xs) ≡ true
unfolding ascending entries_from entry is_less All
ascending-written at [] h = refl
ascending-written at (x ∷ []) h = refl
ascending-written at (x ∷ y ∷ xs) h = rw (ascending, h.0.0) (ascending-written (at + length x.body) (y ∷ xs) h.1)

files-read : (k at : ℕ) (xs : List Kept) → All Fit xs → files_from k at (entries_from at xs) (bodies xs) ≡ Some (files_at k at xs)
unfolding files_from entries_from entry bodies files_at is_empty All
files-read k at [] h = refl
files-read k at (x ∷ xs) h =
    let n = length x.body in
    let fits : n ≤ length (x.body ++ bodies xs) = omega (arith, length-append x.body (bodies xs)) in
    let rest : drop n (x.body ++ bodies xs) ≡ bodies xs = drop-append_seam x.body (bodies xs) in
    let front : take n (x.body ++ bodies xs) ≡ x.body = take_at x.body (bodies xs) n refl in
    rw (h.0.named, eq-eqb at at refl, le-leb n (length (x.body ++ bodies xs)) fits, rest, files-read (suc k) (at + n) xs h.1, front)

bodies-bytes : (xs : List Kept) → All Fit xs → AreBytes (bodies xs)
unfolding bodies All
bodies-bytes [] h = tt
bodies-bytes (x ∷ xs) h = All-append (λ (b : ℕ). b < 256) x.body (bodies xs) h.0.body_bytes (bodies-bytes xs h.1)

contents-bytes : (at : ℕ) (xs : List Kept) → All Fit xs → AreBytes (contents at xs)
unfolding contents All
contents-bytes at [] h = tt
contents-bytes at (x ∷ xs) h =
    let n = length x.body in
    let r = contents (at + n) xs in
    All-append (λ (b : ℕ). b < 256) x.padded (little_of 4 at ++ (little_of 4 n ++ (little_of 8 x.time ++ r))) h.0.padded-bytes
    (All-append (λ (b : ℕ). b < 256) (little_of 4 at) (little_of 4 n ++ (little_of 8 x.time ++ r)) (little_of-bytes 4 at)
    (All-append (λ (b : ℕ). b < 256) (little_of 4 n) (little_of 8 x.time ++ r) (little_of-bytes 4 n)
    (All-append (λ (b : ℕ). b < 256) (little_of 8 x.time) r (little_of-bytes 8 x.time) (contents-bytes (at + n) xs h.1))))

-- where the bodies start
first : List Kept → ℕ
first xs = 4 + 112 * length xs

module _ (xs : List Kept) (h : All Fit xs) (up : Ascends kept_padded xs) (few : length xs ≤ 1_024)
    (short : 4 + 112 * length xs + length (bodies xs) ≤ 1_048_576) where
  length-written : length (written xs) ≡ first xs + length (bodies xs)
  unfolding first written
  length-written =
      let a = length-append (little_of 4 (length xs)) (contents (4 + 112 * length xs) xs ++ bodies xs) in
      let b = length-append (contents (4 + 112 * length xs) xs) (bodies xs) in
      omega (arith, a, b, length-little_of 4 (length xs), length-contents (4 + 112 * length xs) xs h)

  written_count : little (take 4 (written xs)) ≡ length xs
  unfolding written
  written_count =
      ap little (take_at (little_of 4 (length xs)) (contents (4 + 112 * length xs) xs ++ bodies xs) 4 (length-little_of 4 (length xs)))
      ∙ little-little_of 4 (length xs) (fits-4 (length xs) (omega arith))

  behind-count : drop 4 (written xs) ≡ contents (first xs) xs ++ bodies xs
  unfolding written first
  behind-count = drop_at (little_of 4 (length xs)) (contents (4 + 112 * length xs) xs ++ bodies xs) 4 (length-little_of 4 (length xs))

  behind-contents : drop (first xs) (written xs) ≡ bodies xs
  unfolding written first
  behind-contents =
      drop_past (little_of 4 (length xs)) (contents (4 + 112 * length xs) xs ++ bodies xs) 4 (112 * length xs) (length-little_of 4 (length xs))
      ∙ drop_at (contents (4 + 112 * length xs) xs) (bodies xs) (112 * length xs) (length-contents (4 + 112 * length xs) xs h)

  bundle_written : bundle (written xs) ≡ Some (files_at 0 (first xs) xs)
  unfolding bundle files_of entry_bytes most_bytes most_entries first
  bundle_written =
      let size = length-written in
      let es : entries (length xs) (drop 4 (written xs)) ≡ entries_from (first xs) xs =
      ap (entries (length xs)) behind-count ∙ entries-written (first xs) xs (bodies xs) h (omega arith) in
      let sized = among-within 4 1_048_576 (length (written xs)) (omega arith) (omega arith) in
      let within = le-leb (first xs) (length (written xs)) (omega arith) in
      let up-there = ascending-written (first xs) xs up in
      rw (bundle, sized, written_count, le-leb (length xs) 1_024 few, within, es, up-there, behind-contents) (files-read 0 (first xs) xs h)

  written-bytes : AreBytes (written xs)
  unfolding written
  written-bytes =
      All-append (λ (b : ℕ). b < 256) (little_of 4 (length xs)) (contents (4 + 112 * length xs) xs ++ bodies xs) (little_of-bytes 4 (length xs))
      (All-append (λ (b : ℕ). b < 256) (contents (4 + 112 * length xs) xs) (bodies xs) (contents-bytes (4 + 112 * length xs) xs h) (bodies-bytes xs h))

pub removal-keeps-a-bundle : RemovalKeepsABundle
removal-keeps-a-bundle MayGo s fs gs b e w =
    let r = source s fs b e in
    let (ys, p, q) = left r.files w in
    let h = some-all Fit p r.fit in
    let up = some-ascends p r.ascends in
    let fewer = some-fewer p in
    let few : length ys ≤ 1_024 = omega (arith, fewer.0, r.few) in
    let short : 4 + 112 * length ys + length (bodies ys) ≤ 1_048_576 = omega (arith, fewer.0, fewer.1, r.short) in
    (written ys, files_at 0 (first ys) ys, written-bytes ys h up few short, bundle_written ys h up few short, same-files q (files-of 0 (first ys) ys))

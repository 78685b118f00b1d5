-- What is kept of a bundle's files: the padded names, the times and the bodies; taken out of a bundle, and some of them.
use mathlib.Core.Path.{◌≡◌, refl, sym, ◌∙◌, ap, subst}
use mathlib.Core.Bool.{Bool, true, false}
use Rattle.std.specs.Prelude.{Option, Some}
use mathlib.Core.List.{List, [], ◌∷◌, ◌++◌}
use Prim.Native.Nat.{ℕ, zero, suc, ◌+◌, ◌-◌, ◌*◌, ◌≤◌, ◌<◌}
use native.Mathlib.Omega.{arith}
use native.Mathlib.Nat.{suc-mul}
use lib.Dec.{leb, eqb}
use lib.ListN.{length, take, drop, length-append, length-take, length-drop}
use lib.Seq.{length-take-le}
use borrow.Author.Tests.{leb-true}
use Rattle.facts.specs.Lists.{All}
use Rattle.facts.proofs.Lists.{All-take, All-drop}
use Rattle.rules.specs.Bytes.{◌>>=◌, Bytes, guard, among, is_empty, Order, less, equal, more, order, is_less}
use Rattle.rules.specs.Numbers.{little}
use Rattle.rules.specs.Bundle.{Entry, File, most_bytes, most_entries, entry_bytes, field, entry_of, entries, name_in, ascending, files_from, files_of, bundle}
use Rattle.rules.specs.Keyed.{Ascends}
use Rattle.rules.proofs.Tests.{apart}
use Rattle.rules.proofs.Json.Suffix.{some_same}
use Rattle.rules.proofs.Ascending.{ascends-cons}
use Rattle.rules.proofs.Ranges.{among-true}
use Rattle.rules.proofs.Bundles.{length-entries}
use Rattle.rules.proofs.Choices.{bind-some, guard-some}
use Rattle.demands.specs.Removed.{Without, end, keep, remove, AreBytes}
use Rattle.demands.proofs.LittleEndian.{Fits, fits-little}

-- ---- what is kept of a file

pub record Kept : Type 0 where
  pub padded : Bytes
  pub name : Bytes
  pub time : ℕ
  pub body : Bytes

pub record Fit (x : Kept) : Type 0 where
  pub named : name_in x.padded ≡ Some x.name
  pub wide : length x.padded ≡ 96
  pub padded-bytes : AreBytes x.padded
  pub time-fits : Fits 8 x.time
  pub body_bytes : AreBytes x.body

-- the files, but for their entry numbers and places
pub data Of : List Kept → List File → Type 0 where
  no_more : Of [] []
  of : {x : Kept} {f : File} {xs : List Kept} {fs : List File} → x.name ≡ f.name → x.time ≡ f.time → x.body ≡ f.body → Of xs fs → Of (x ∷ xs) (f ∷ fs)

unfoldable pub bodies : List Kept → Bytes
bodies [] = []
bodies (x ∷ xs) = x.body ++ bodies xs

-- ---- out of a bundle

abbrev EntryFits : Entry → Type 0
EntryFits e = (length e.padded ≡ 96) × AreBytes e.padded × Fits 8 e.time

entries_fit : (n : ℕ) (s : Bytes) → n * 112 ≤ length s → AreBytes s → All EntryFits (entries n s)
unfolding entries entry_of field entry_bytes All
entries_fit zero s l b = tt
entries_fit (suc n) s l b =
    let a : n * 112 + 112 ≤ length s = omega (arith, suc-mul n 112) in
    let m : length (take 8 (drop 104 s)) ≡ 8 = omega (arith, length-take 8 (drop 104 s), length-drop 104 s) in
    let bytes = All-take (λ (x : ℕ). x < 256) 8 (drop 104 s) (All-drop (λ (x : ℕ). x < 256) 104 s b) in
    let time : Fits 8 (little (take 8 (drop 104 s))) = subst (λ (k : ℕ). Fits k (little (take 8 (drop 104 s)))) m (fits-little (take 8 (drop 104 s)) bytes) in (
      (omega (arith, length-take 96 s), All-take (λ (x : ℕ). x < 256) 96 s b, time),
      entries_fit n (drop 112 s) (omega (arith, length-drop 112 s)) (All-drop (λ (x : ℕ). x < 256) 112 s b),
    )

abbrev padded_of : Entry → Bytes
padded_of e = e.padded

abbrev pub kept_padded : Kept → Bytes
kept_padded x = x.padded

record Taken (es : List Entry) (rest : Bytes) (fs : List File) : Type 0 where
  kept : List Kept
  files : Of kept fs
  fit : All Fit kept
  count : length kept ≡ length es
  size : length rest ≡ length (bodies kept)
  below : (p : Bytes) → All (λ (e : Entry). order p e.padded ≡ less) es → All (λ (x : Kept). order p x.padded ≡ less) kept
  ascends : Ascends padded_of es → Ascends kept_padded kept

taken-one : (k at : ℕ) (e : Entry) (es : List Entry) (rest name : Bytes) (fs : List File) → EntryFits e → AreBytes rest → name_in e.padded ≡ Some name
    → e.size ≤ length rest → Taken es (drop e.size rest) fs
    → Taken (e ∷ es) rest (record { entry = k; name = name; start = at; time = e.time; body = take e.size rest } ∷ fs)
unfolding All bodies
taken-one k at e es rest name fs h b named within r = record {
  kept = record { padded = e.padded; name = name; time = e.time; body = take e.size rest } ∷ r.kept;
  files = of refl refl refl r.files;
  fit = (
    record { named = named; wide = h.0; padded-bytes = h.1; time-fits = h.2; body_bytes = All-take (λ (y : ℕ). y < 256) e.size rest b },
    r.fit,
  );
  count = ap suc r.count;
  size = omega (arith, length-append (take e.size rest) (bodies r.kept), length-take-le e.size rest within, length-drop e.size rest, r.size);
  below = λ p l. (l.0, r.below p l.1);
  ascends = λ l. (r.below e.padded l.0, r.ascends l.1);
}

taken : (k at : ℕ) (es : List Entry) (rest : Bytes) (fs : List File) → All EntryFits es → AreBytes rest → files_from k at es rest ≡ Some fs → Taken es rest fs
unfolding files_from All bodies is_empty
taken k at [] rest fs h b e =
    let r = bind-some (guard (is_empty rest)) (λ _. Some []) e in
    record {
      kept = [];
      files = subst (Of []) (nothing r.2) no_more;
      fit = tt;
      count = refl;
      size = ap length (empty rest (guard-some (is_empty rest) r.1));
      below = λ p a. tt;
      ascends = λ a. tt;
    }
  where
    nothing : Some [] ≡ Some fs → [] ≡ fs
    nothing q = cc

    empty : (t : Bytes) → is_empty t ≡ true → t ≡ []
    empty [] q = refl
    empty (x ∷ t) q = apart (cc)
taken k at (e ∷ es) rest fs h b q =
    let a = bind-some (name_in e.padded) (λ name. guard (eqb e.start at) >>= (λ _. sized name)) q in
    let c = bind-some (guard (eqb e.start at)) (λ _. sized a.0) a.2 in
    let d = bind-some (guard (leb e.size (length rest))) (λ _. further >>= (λ gs. Some (this a.0 ∷ gs))) c.2 in
    let g = bind-some further (λ gs. Some (this a.0 ∷ gs)) d.2 in
    let within : e.size ≤ length rest = leb-true e.size (length rest) (guard-some (leb e.size (length rest)) d.1) in
    let r = taken (suc k) (at + e.size) es (drop e.size rest) g.0 h.1 (All-drop (λ (x : ℕ). x < 256) e.size rest b) g.1 in
    then a.0 g.0 a.1 within r g.2
  where
    this : Bytes → File
    this name = record { entry = k; name = name; start = at; time = e.time; body = take e.size rest }

    further : Option (List File)
    further = files_from (suc k) (at + e.size) es (drop e.size rest)

    sized : Bytes → Option (List File)
    sized name = guard (leb e.size (length rest)) >>= (λ _. further >>= (λ gs. Some (this name ∷ gs)))

    then : (name : Bytes) (gs : List File) → name_in e.padded ≡ Some name → e.size ≤ length rest → Taken es (drop e.size rest) gs
        → Some (this name ∷ gs) ≡ Some fs → Taken (e ∷ es) rest fs
    then name gs n l r i = subst (Taken (e ∷ es) rest) (some_same i) (taken-one k at e es rest name gs h.0 b n l r)

is_less-less : (o : Order) → is_less o ≡ true → o ≡ less
unfolding is_less
is_less-less less e = refl
is_less-less equal e = apart (cc)
is_less-less more e = apart (cc)

ascending-ascends : (es : List Entry) → ascending es ≡ true → Ascends padded_of es
unfolding ascending All
ascending-ascends [] h = tt
ascending-ascends (a ∷ []) h = (tt, tt)
ascending-ascends (a ∷ c ∷ es) h = go (is_less (order a.padded c.padded)) refl h (ascending-ascends (c ∷ es))
  where
    go : (t : Bool) → is_less (order a.padded c.padded) ≡ t → elim t [ true ↦ ascending (c ∷ es) | false ↦ false ] ≡ true
        → (ascending (c ∷ es) ≡ true → Ascends padded_of (c ∷ es)) → Ascends padded_of (a ∷ c ∷ es)
    go true e h ih = ascends-cons padded_of a c es (is_less-less (order a.padded c.padded) e) (ih h)
    go false e h ih = apart (cc)

pub record Source (s : Bytes) (fs : List File) : Type 0 where
  pub kept : List Kept
  pub files : Of kept fs
  pub fit : All Fit kept
  pub ascends : Ascends kept_padded kept
  pub few : length kept ≤ 1_024
  pub short : 4 + 112 * length kept + length (bodies kept) ≤ 1_048_576

pub source : (s : Bytes) (fs : List File) → AreBytes s → bundle s ≡ Some fs → Source s fs
unfolding bundle files_of entry_bytes most_bytes most_entries
source s fs b h =
    let a = bind-some (guard (among 4 most_bytes (length s))) (λ _. files_of (little (take 4 s)) s) h in
    go (little (take 4 s)) (among-true 4 most_bytes (length s) (guard-some (among 4 most_bytes (length s)) a.1)).1 a.2
  where
    go : (n : ℕ) → length s ≤ 1_048_576 → files_of n s ≡ Some fs → Source s fs
    go n most h =
        let es = entries n (drop 4 s) in
        let rest = drop (4 + 112 * n) s in
        let all = files_from 0 (4 + 112 * n) es rest in
        let c = bind-some (guard (leb n most_entries)) (λ _. guard (leb (4 + 112 * n) (length s)) >>= (λ _. guard (ascending es) >>= (λ _. all))) h in
        let d = bind-some (guard (leb (4 + 112 * n) (length s))) (λ _. guard (ascending es) >>= (λ _. all)) c.2 in
        let e = bind-some (guard (ascending es)) (λ _. all) d.2 in
        let m : 4 + 112 * n ≤ length s = leb-true (4 + 112 * n) (length s) (guard-some (leb (4 + 112 * n) (length s)) d.1) in
        let k : n ≤ 1_024 = leb-true n most_entries (guard-some (leb n most_entries) c.1) in
        let fit = entries_fit n (drop 4 s) (omega (arith, length-drop 4 s)) (All-drop (λ (x : ℕ). x < 256) 4 s b) in
        found n most m k (taken 0 (4 + 112 * n) es rest fs fit (All-drop (λ (x : ℕ). x < 256) (4 + 112 * n) s b) e.2)
        (ascending-ascends es (guard-some (ascending es) e.1))
      where
        found : (n : ℕ) → length s ≤ 1_048_576 → 4 + 112 * n ≤ length s → n ≤ 1_024 → Taken (entries n (drop 4 s)) (drop (4 + 112 * n) s) fs
            → Ascends padded_of (entries n (drop 4 s)) → Source s fs
        found n most m k t up =
            let count : length t.kept ≡ n = t.count ∙ length-entries n (drop 4 s) in
            let size : length (bodies t.kept) ≡ length (drop (4 + 112 * n) s) = sym t.size in
            let left : length (drop (4 + 112 * n) s) ≡ length s - (4 + 112 * n) = length-drop (4 + 112 * n) s in
            record { kept = t.kept; files = t.files; fit = t.fit; ascends = t.ascends up; few = omega arith; short = omega arith }

-- ---- some of them

pub data Stays : (ys xs : List Kept) → Type 0 where
  none_left : Stays [] []
  this : {x : Kept} {ys xs : List Kept} → Stays ys xs → Stays (x ∷ ys) (x ∷ xs)
  past : {x : Kept} {ys xs : List Kept} → Stays ys xs → Stays ys (x ∷ xs)

pub some-all : (P : Kept → Type 0) {ys xs : List Kept} → Stays ys xs → All P xs → All P ys
unfolding All
some-all P none_left h = tt
some-all P (this s) h = (h.0, some-all P s h.1)
some-all P (past s) h = some-all P s h.1

pub some-ascends : {ys xs : List Kept} → Stays ys xs → Ascends kept_padded xs → Ascends kept_padded ys
some-ascends none_left h = tt
some-ascends (this {x} s) h = (some-all (λ (y : Kept). order (kept_padded x) (kept_padded y) ≡ less) s h.0, some-ascends s h.1)
some-ascends (past s) h = some-ascends s h.1

pub some-fewer : {ys xs : List Kept} → Stays ys xs → (length ys ≤ length xs) × (length (bodies ys) ≤ length (bodies xs))
unfolding bodies
some-fewer none_left = (omega arith, omega arith)
some-fewer (this {x} {ys} {xs} s) =
    let r = some-fewer s in
    (omega (arith, r.0), omega (arith, r.1, length-append x.body (bodies ys), length-append x.body (bodies xs)))
some-fewer (past {x} {ys} {xs} s) = let r = some-fewer s in (omega (arith, r.0), omega (arith, r.1, length-append x.body (bodies xs)))

pub left : {MayGo : File → Type 0} {xs : List Kept} {fs gs : List File} → Of xs fs → Without MayGo fs gs → (ys : List Kept) × Stays ys xs × Of ys gs
left no_more end = ([], none_left, no_more)
left (of {x} n t b o) (keep s w) = let (ys, p, q) = left o w in (x ∷ ys, this p, of (n ∙ s.name) (t ∙ s.time) (b ∙ s.body) q)
left (of n t b o) (remove m w) = let (ys, p, q) = left o w in (ys, past p, q)

pub same-files : {ys : List Kept} {gs hs : List File} → Of ys gs → Of ys hs → Without (λ (f : File). ⊥) gs hs
same-files no_more no_more = end
same-files (of n t b o) (of m u c q) = keep (record { name = sym n ∙ m; time = sym t ∙ u; body = sym b ∙ c }) (same-files o q)

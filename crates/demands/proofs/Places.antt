-- The files of a bundle stand in it one behind the other, and their lines in them; a row comes from one of these lines.
use mathlib.Core.Path.{◌≡◌, refl, sym, ◌∙◌, ap, subst}
use mathlib.Core.Bool.{Bool, true, false}
use Rattle.std.specs.Prelude.{Option, None, Some}
use mathlib.Core.List.{List, [], ◌∷◌, ◌++◌, append_assoc}
use Prim.Native.Nat.{ℕ, suc, ◌+◌, ◌*◌, ◌≤◌}
use native.Mathlib.Omega.{arith}
use lib.Dec.{eqb, leb}
use lib.ListN.{length, take, drop, length-append, take-append-drop}
use lib.Seq.{length-take-le}
use borrow.Author.Tests.{eqb-true, leb-true}
use Rattle.facts.specs.Lists.{All}
use Rattle.facts.proofs.Lists.{All-append, All-weaken}
use Rattle.rules.specs.Bytes.{Bytes, ascii, less, order, same, guard, among, is_empty, keep_if}
use Rattle.rules.specs.Numbers.{little}
use Rattle.rules.specs.Bundle.{Entry, File, most_bytes, most_entries, entry_bytes, entries, name_in, ascending, files_from, files_of, bundle}
use Rattle.rules.specs.Names.{Name, name_of, version_in, checkpoint_in, is}
use Rattle.rules.specs.Lines.{onto, lines}
use Rattle.rules.specs.Actions.{Facts, Skip, no_skip, Action, add, remove, protocol, meta_data, mergeskip, other, action, is_line}
use Rattle.rules.specs.Live.{Row, path_of}
use Rattle.rules.specs.History.{State}
use Rattle.rules.specs.Starts.{find, log_of, is_start, if_start, start_at, Way, way_to}
use Rattle.rules.specs.Query.{Condition}
use Rattle.rules.specs.Picking.{meets_all, picked}
use Rattle.rules.specs.Reading.{Listing, state_by, reading}
use Rattle.rules.specs.Due.{is_due, due_rows, due_listing, due}
use Rattle.rules.specs.Refusals.{accepted}
use Rattle.rules.proofs.Replaying.{bind-accepted}
use Rattle.rules.proofs.Tests.{apart}
use Rattle.rules.proofs.Order.{same_refl, ne_same, order-less-ne}
use Rattle.rules.proofs.Choices.{guard-some}
use Rattle.rules.proofs.Json.Suffix.{some_same, bound}
use Rattle.demands.specs.Reaching.{From, at-checkpoint, at_zero, and-then}
use Rattle.demands.specs.Replayed.{Line, lines_from, lines_in, lines_on, with_skip, after, after_all, live_at, InPathOrder}
use Rattle.demands.specs.Places.{StandsIn, RowsStandInTheBundle, DueRowsStandInTheBundle}
use Rattle.demands.proofs.Starts.{read-from-the-highest}
use Rattle.demands.proofs.Ordered.{all_both}
use Rattle.demands.proofs.Exactly.{reading-exactly}
use Rattle.demands.proofs.Replayed.{replays-exactly}

-- ---- files in the bundle

record BodyIn (s : Bytes) (f : File) : Type 0 where
  before : Bytes
  behind : Bytes
  parts : s ≡ before ++ (f.body ++ behind)
  place : length before ≡ f.start

files_from-stand : (k at : ℕ) (es : List Entry) (before rest : Bytes) (fs : List File) → length before ≡ at → files_from k at es rest ≡ Some fs
    → All (BodyIn (before ++ rest)) fs
unfolding files_from All
files_from-stand k at [] before rest fs l h = bound (guard (is_empty rest)) _ h (λ _ _ e. subst (All (BodyIn (before ++ rest))) (some_same e) tt)
files_from-stand k at (e ∷ es) before rest fs l h =
    bound (name_in e.padded) _ h (λ name _ b.
    bound (guard (eqb e.start at)) _ b (λ _ _ c.
    bound (guard (leb n (length rest))) _ c (λ _ g d.
    bound (files_from (suc k) (at + n) es (drop n rest)) _ d (λ gs i j.
    subst (All (BodyIn (before ++ rest))) (some_same j) (
      this name,
      further gs (files_from-stand (suc k) (at + n) es (before ++ take n rest) (drop n rest) gs (behind (leb-true n (length rest) (guard-some _ g))) i),
    )))))
  where
    n : ℕ
    n = e.size

    this : (name : Bytes) → BodyIn (before ++ rest) (record { entry = k; name = name; start = at; time = e.time; body = take n rest })
    this name = record { before = before; behind = drop n rest; parts = ap (λ (x : Bytes). before ++ x) (sym (take-append-drop n rest)); place = l }

    behind : n ≤ length rest → length (before ++ take n rest) ≡ at + n
    behind m = omega (arith, length-append before (take n rest), length-take-le n rest m)

    further : (gs : List File) → All (BodyIn ((before ++ take n rest) ++ drop n rest)) gs → All (BodyIn (before ++ rest)) gs
    further gs a =
        subst (λ (x : Bytes). All (BodyIn x) gs) (append_assoc before (take n rest) (drop n rest) ∙ ap (λ (x : Bytes). before ++ x) (take-append-drop n rest)) a

bundle-stand : (s : Bytes) (fs : List File) → bundle s ≡ Some fs → All (BodyIn s) fs
unfolding bundle files_of
bundle-stand s fs h = bound (guard (among 4 most_bytes (length s))) _ h (λ _ _ a. go (little (take 4 s)) a)
  where
    go : (n : ℕ) → files_of n s ≡ Some fs → All (BodyIn s) fs
    go n h =
        let m : ℕ = 4 + entry_bytes * n in
        bound (guard (leb n most_entries)) _ h (λ _ _ a.
        bound (guard (leb m (length s))) _ a (λ _ g b.
        bound (guard (ascending (entries n (drop 4 s)))) _ b (λ _ _ c.
        subst (λ (x : Bytes). All (BodyIn x) fs) (take-append-drop m s)
        (files_from-stand 0 m (entries n (drop 4 s)) (take m s) (drop m s) fs (length-take-le m s (leb-true m (length s) (guard-some _ g))) c))))

-- ---- lines in a file

-- each line without 0x0A, each but the last in front of one
data Split : Bytes → List Bytes → Type 0 where
  no_line : Split [] []
  last_line : {l : Bytes} → is_line l ≡ true → Split l (l ∷ [])
  more-lines : {l rest : Bytes} {ls : List Bytes} → is_line l ≡ true → Split rest ls → Split (l ++ 0x0A ∷ rest) (l ∷ ls)

is_line-cons : (b : ℕ) (l : Bytes) → eqb b 0x0A ≡ false → is_line l ≡ true → is_line (b ∷ l) ≡ true
unfolding is_line
is_line-cons b l e i = rw (is_line, e) i

onto-split : (b : ℕ) (s : Bytes) (ls : List Bytes) → eqb b 0x0A ≡ false → Split s ls → Split (b ∷ s) (onto b ls)
unfolding onto is_line
onto-split b _ _ e no_line = last_line (is_line-cons b [] e refl)
onto-split b _ _ e (last_line {l = l} i) = last_line (is_line-cons b l e i)
onto-split b _ _ e (more-lines {l = l} {rest = rest} {ls = ls} i h) = more-lines {l = b ∷ l} {rest = rest} {ls = ls} (is_line-cons b l e i) h

lines_split : (s : Bytes) → Split s (lines s)
unfolding lines is_line
lines_split [] = no_line
lines_split (b ∷ bs) = go (eqb b 0x0A) refl (lines_split bs)
  where
    go : (t : Bool) → eqb b 0x0A ≡ t → Split bs (lines bs) → Split (b ∷ bs) (elim t [ true ↦ [] ∷ lines bs | false ↦ onto b (lines bs) ])
    go true e h = subst (λ (x : ℕ). Split (x ∷ bs) ([] ∷ lines bs)) (sym (eqb-true b 0x0A e)) (more-lines {l = []} {rest = bs} {ls = lines bs} refl h)
    go false e h = onto-split b bs (lines bs) e h

record LineIn (s : Bytes) (l : Line) : Type 0 where
  before : Bytes
  line : Bytes
  behind : Bytes
  parts : s ≡ before ++ (line ++ behind)
  place : length before ≡ l.at
  long : length line ≡ l.size
  is-line : is_line line ≡ true
  says : action line ≡ Some l.does

first-line : (l : Bytes) (ls : List Bytes) (at : ℕ) (s before behind : Bytes) → s ≡ before ++ (l ++ behind) → length before ≡ at → is_line l ≡ true
    → All (LineIn s) (lines_from (at + length l + 1) ls) → All (LineIn s) (lines_from at (l ∷ ls))
unfolding lines_from All
first-line [] ls at s before behind p b i h = let q : at + 0 + 1 ≡ at + 1 = omega arith in subst (λ (x : ℕ). All (LineIn s) (lines_from x ls)) q h
first-line (c ∷ cs) ls at s before behind p b i h = go (action (c ∷ cs)) refl
  where
    size : ℕ
    size = length (c ∷ cs)

    go : (o : Option Action) → action (c ∷ cs) ≡ o
        → All (LineIn s) (elim o [ None ↦ lines_from (at + size + 1) ls | Some a ↦ record { at = at; size = size; does = a } ∷ lines_from (at + size + 1) ls ])
    go None e = h
    go (Some a) e = (record { before = before; line = c ∷ cs; behind = behind; parts = p; place = b; long = refl; is-line = i; says = e }, h)

split-stand : (body : Bytes) (ls : List Bytes) → Split body ls → (at : ℕ) (before behind : Bytes) → length before ≡ at
    → All (LineIn (before ++ (body ++ behind))) (lines_from at ls)
unfolding lines_from All
split-stand _ _ no_line at before behind b = tt
split-stand _ _ (last_line {l = l} i) at before behind b = first-line l [] at (before ++ (l ++ behind)) before behind refl b i tt
split-stand _ _ (more-lines {l = l} {rest = rest} {ls = ls} i h) at before behind b =
    first-line l ls at
    (before ++ ((l ++ 0x0A ∷ rest) ++ behind))
    before
    (0x0A ∷ (rest ++ behind))
    (ap (λ (x : Bytes). before ++ x) (append_assoc l (0x0A ∷ rest) behind))
    b i
    (subst (λ (x : Bytes). All (LineIn x) (lines_from (at + length l + 1) ls)) past
    (split-stand rest ls h (at + length l + 1) (before ++ (l ++ 0x0A ∷ [])) behind next))
  where
    past : (before ++ (l ++ 0x0A ∷ [])) ++ (rest ++ behind) ≡ before ++ ((l ++ 0x0A ∷ rest) ++ behind)
    past =
        append_assoc before (l ++ 0x0A ∷ []) (rest ++ behind)
        ∙ ap (λ (x : Bytes). before ++ x) (append_assoc l (0x0A ∷ []) (rest ++ behind) ∙ sym (append_assoc l (0x0A ∷ rest) behind))

    next : length (before ++ (l ++ 0x0A ∷ [])) ≡ at + length l + 1
    next =
        let one : length (l ++ 0x0A ∷ []) ≡ length l + 1 = length-append l (0x0A ∷ []) in
        omega (arith, length-append before (l ++ 0x0A ∷ []))

file-stand : (s : Bytes) (f : File) → BodyIn s f → All (LineIn s) (lines_in f)
file-stand s f p =
    subst
    (λ (x : Bytes). All (LineIn x) (lines_in f))
    (sym p.parts)
    (split-stand f.body (lines f.body) (lines_split f.body) f.start p.before p.behind p.place)

-- ---- lines on a way

find-all : (P : File → Type 0) (test : Name → Bool) (fs : List File) (f : File) → All P fs → find test fs ≡ Some f → P f
unfolding find All
find-all P test [] f a e = apart (cc)
find-all P test (g ∷ fs) f a e = go (test (name_of g.name)) e (find-all P test fs f a.1)
  where
    go : (b : Bool) → ◌≡◌ {A = Option File} (elim b [ true ↦ Some g | false ↦ find test fs ]) (Some f) → (find test fs ≡ Some f → P f) → P f
    go true e ih = subst P (some_same e) a.0
    go false e ih = ih e

module _ (P : File → Type 0) (fs : List File) (a : All P fs) where
  version-all : (v : ℕ) (f : File) → (log_of fs).version_file v ≡ Some f → P f
  unfolding log_of
  version-all v f e = find-all P (λ n. is v (version_in n)) fs f a e

  checkpoint-all : (c : ℕ) (f : File) → (log_of fs).checkpoint_file c ≡ Some f → P f
  unfolding log_of
  checkpoint-all c f e = find-all P (λ n. is c (checkpoint_in n)) fs f a e

  start-all : (c : ℕ) (f : File) → start_at (log_of fs) c ≡ Some f → P f
  unfolding start_at if_start
  start-all c f e = go ((log_of fs).checkpoint_file c) refl e
    where
      go : (o : Option File) → (log_of fs).checkpoint_file c ≡ o → if_start o ≡ Some f → P f
      go None q e = apart (cc)
      go (Some g) q e = well (is_start g.body) e
        where
          well : (b : Bool) → ◌≡◌ {A = Option File} (elim b [ true ↦ Some g | false ↦ None ]) (Some f) → P f
          well true e = subst P (some_same e) (checkpoint-all c g q)
          well false e = apart (cc)

from-stand : (s : Bytes) (fs : List File) → All (BodyIn s) fs → (t v : ℕ) (w : Way) → From (log_of fs) t v w → All (LineIn s) (lines_on w)
unfolding lines_on All
from-stand s fs a t _ _ (at-checkpoint {f = f} e) = file-stand s f (start-all (BodyIn s) fs a t f e)
from-stand s fs a t _ _ (at_zero e) = tt
from-stand s fs a t _ _ (and-then {v = v} {w = w} {g = g} h e) =
    All-append (LineIn s) (lines_on w) (lines_in g) (from-stand s fs a t v w h) (file-stand s g (version-all (BodyIn s) fs a (suc v) g e))

-- ---- rows from lines

line_row : (s : Bytes) (l : Line) (f : Facts) → LineIn s l → l.does ≡ add f → StandsIn s (record { at = l.at; size = l.size; facts = f; skip = no_skip })
line_row s l f p e =
    record {
      before = p.before;
      line = p.line;
      behind = p.behind;
      parts = p.parts;
      place = p.place;
      long = p.long;
      says = (p.is-line, p.says ∙ ap Some e);
    }

-- a skip moves no line
with_skip-stand : (s : Bytes) (y : Skip) (was : Option Row) (r : Row) → ((x : Row) → was ≡ Some x → StandsIn s x) → with_skip y was ≡ Some r → StandsIn s r
unfolding with_skip
with_skip-stand s y None r k e = apart (cc)
with_skip-stand s y (Some x) r k e =
    let p = k x refl in
    subst (StandsIn s) (some_same e)
    (record { before = p.before; line = p.line; behind = p.behind; parts = p.parts; place = p.place; long = p.long; says = p.says })

after-stand : (s p : Bytes) (l : Line) (was : Option Row) (r : Row) → LineIn s l → ((x : Row) → was ≡ Some x → StandsIn s x)
    → after l.at l.size p l.does was ≡ Some r → StandsIn s r
unfolding after
after-stand s p l was r i k e = go l.does refl e
  where
    go : (a : Action) → l.does ≡ a → after l.at l.size p a was ≡ Some r → StandsIn s r
    go (add f) q e = added (same p f.path) e
      where
        added : (b : Bool)
            → ◌≡◌ {A = Option Row} (elim b [ true ↦ Some (record { at = l.at; size = l.size; facts = f; skip = no_skip }) | false ↦ was ]) (Some r)
            → StandsIn s r
        added true e = subst (StandsIn s) (some_same e) (line_row s l f i q)
        added false e = k r e
    go (remove x) q e = removed (same p x) e
      where
        removed : (b : Bool) → ◌≡◌ {A = Option Row} (elim b [ true ↦ None | false ↦ was ]) (Some r) → StandsIn s r
        removed true e = apart (cc)
        removed false e = k r e
    go (protocol x) q e = k r e
    go (meta_data m) q e = k r e
    go (mergeskip x y) q e = marked (same p x) e
      where
        marked : (b : Bool) → ◌≡◌ {A = Option Row} (elim b [ true ↦ with_skip y was | false ↦ was ]) (Some r) → StandsIn s r
        marked true e = with_skip-stand s y was r k e
        marked false e = k r e
    go other q e = k r e

after_all-stand : (s p : Bytes) (ls : List Line) (was : Option Row) (r : Row) → All (LineIn s) ls → ((x : Row) → was ≡ Some x → StandsIn s x)
    → after_all p ls was ≡ Some r → StandsIn s r
unfolding after_all All
after_all-stand s p [] was r a k e = k r e
after_all-stand s p (l ∷ ls) was r a k e =
    after_all-stand s p ls (after l.at l.size p l.does was) r a.1 (λ x. after-stand s p l was x a.0 k) e

-- in path order, each row is the one at its path
rows_at : (rs : List Row) → InPathOrder rs → All (λ (r : Row). live_at (path_of r) rs ≡ Some r) rs
unfolding live_at All
rows_at [] o = tt
rows_at (x ∷ xs) o = (
  here,
  All-weaken
      (λ (r : Row). (order (path_of x) (path_of r) ≡ less) × (live_at (path_of r) xs ≡ Some r))
      (λ (r : Row). live_at (path_of r) (x ∷ xs) ≡ Some r)
      xs later
      (all_both (λ (r : Row). order (path_of x) (path_of r) ≡ less) (λ (r : Row). live_at (path_of r) xs ≡ Some r) xs o.0 (rows_at xs o.1)),
)
  where
    here : live_at (path_of x) (x ∷ xs) ≡ Some x
    here = rw (live_at, same_refl (path_of x))

    later : (r : Row) → (order (path_of x) (path_of r) ≡ less) × (live_at (path_of r) xs ≡ Some r) → live_at (path_of r) (x ∷ xs) ≡ Some r
    later r (l, e) = rw (live_at, ne_same (path_of r) (path_of x) (λ q. order-less-ne (path_of x) (path_of r) l (sym q))) e

picked_all : (P : Row → Type 0) (cs : List Condition) (rs : List Row) → All P rs → All P (picked cs rs)
unfolding picked keep_if All
picked_all P cs [] a = tt
picked_all P cs (r ∷ rs) a = go (meets_all cs r.facts) (picked_all P cs rs a.1)
  where
    go : (b : Bool) → All P (picked cs rs) → All P (keep_if b r (picked cs rs))
    go true ih = (a.0, ih)
    go false ih = ih

-- ---- reading

state-stand : (s : Bytes) (fs : List File) (v : ℕ) (st : State) → bundle s ≡ Some fs → state_by (log_of fs) (way_to (log_of fs) v) ≡ accepted st
    → All (StandsIn s) st.live
state-stand s fs v st eb h =
    let p = replays-exactly (log_of fs) (way_to (log_of fs) v) st h in
    let q = (read-from-the-highest (log_of fs) v p.w).0 p.way-there in
    let ls : All (LineIn s) (lines_on p.w) = from-stand s fs (bundle-stand s fs eb) q.s v p.w q.begins in
    All-weaken (λ (r : Row). live_at (path_of r) st.live ≡ Some r) (StandsIn s) st.live
    (λ r e. after_all-stand s (path_of r) (lines_on p.w) None r ls (λ x n. apart (cc)) (sym (p.live (path_of r)) ∙ e)) (rows_at st.live p.in_order)

pub rows-stand-in-the-bundle : RowsStandInTheBundle
rows-stand-in-the-bundle room s q asked l h =
    let a = ((reading-exactly room s q asked).no-0 l).0 h in
    let r = a.0 in
    subst (λ (x : Listing). All (StandsIn s) x.rows) a.4
    (picked_all (StandsIn s) r.opened.cs r.state.live (state-stand s r.opened.fs _ r.state r.opened.bundle-read r.state-read))

-- ---- the due files

due_rows-all : (P : Row → Type 0) (time : ℕ) (rs : List Row) → All P rs → All P (due_rows time rs)
unfolding due_rows keep_if All
due_rows-all P time [] a = tt
due_rows-all P time (r ∷ rs) a = go (is_due time r.skip) (due_rows-all P time rs a.1)
  where
    go : (b : Bool) → All P (due_rows time rs) → All P (keep_if b r (due_rows time rs))
    go true ih = (a.0, ih)
    go false ih = ih

pub due-rows-stand-in-the-bundle : DueRowsStandInTheBundle
unfolding due due_listing
due-rows-stand-in-the-bundle room s asked time l h =
    let a = bind-accepted (reading room s (ascii "[]") asked) (λ m. accepted (due_listing time m)) h in
    let e : accepted (due_listing time a.0) ≡ accepted l = a.2 in
    let q : due_listing time a.0 ≡ l = cc in
    subst (λ (x : Listing). All (StandsIn s) x.rows) q
    (due_rows-all (StandsIn s) time a.0.rows (rows-stand-in-the-bundle room s (ascii "[]") asked a.0 a.1))

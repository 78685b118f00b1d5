-- Reading lines one by one, as they stand in a text; reading lines and files keeps the live list in path order and within the limit.
use mathlib.Core.Path.{◌≡◌, refl, sym, ap, subst}
use mathlib.Core.Logic.{◌⊎◌, inl, inr}
use mathlib.Core.Bool.{Bool, true, false}
use Rattle.std.specs.Prelude.{Option, None, Some}
use mathlib.Core.List.{List, [], ◌∷◌}
use Prim.Native.Nat.{ℕ, suc, ◌+◌, ◌≤◌, ◌<◌, zero-le}
use lib.Dec.{leb}
use native.Mathlib.Omega.{arith}
use lib.ListN.{length, get_or}
use borrow.Author.Tests.{leb-true}
use Rattle.facts.specs.Parts.{part}
use Rattle.facts.proofs.Parts.{length_part}
use Rattle.rules.specs.Bytes.{Bytes}
use Rattle.rules.specs.Bundle.{File}
use Rattle.rules.specs.Lines.{lines, any_object}
use Rattle.rules.specs.Actions.{MetaData, Action, add, remove, protocol, meta_data, mergeskip, other, action}
use Rattle.rules.specs.Live.{most_live, path_of, skipped}
use Rattle.rules.specs.Refusals.{Refusal, Answer, accepted, refused, ◌>>=◌, or_refuse, require}
use Rattle.rules.specs.Refusals.{malformed, foreign_keys, too_many_live, no_version_zero, not_kept}
use Rattle.rules.specs.History.{State, Origin, of_version, of_checkpoint, fits, Said, added, effect, within_limit, act, read_line, read_lines, read_file}
use Rattle.rules.specs.History.{said_nothing, zero_lines, or_unstated, read_zero}
use Rattle.rules.specs.Starts.{Log, Way, from_zero, from_checkpoint, and_then, nothing_live, follow}
use Rattle.rules.specs.Reading.{state_within, state_by}
use Rattle.rules.specs.Keyed.{Ascends}
use Rattle.rules.proofs.Tests.{apart}
use Rattle.rules.proofs.Lines.{lines-part, lines-part-none}
use Rattle.rules.proofs.Live.{ascends_put, ascends-take_out}
use Rattle.rules.proofs.Changing.{ascends-change}

-- ---- answers

pub bind-accepted : {A B : Type 0} (a : Answer A) (f : A → Answer B) {b : B} → (a >>= f) ≡ accepted b → (x : A) × (a ≡ accepted x) × (f x ≡ accepted b)
bind-accepted (accepted x) f e = (x, refl, e)
bind-accepted (refused r) f e = apart (cc)

pub require-accepted : (r : Refusal) (b : Bool) {u : Unit {0}} → require r b ≡ accepted u → b ≡ true
require-accepted r true e = refl
require-accepted r false e = apart (cc)

-- ---- one line

pub effect-ascends : (at size : ℕ) (a : Action) (st : State) → Ascends path_of st.live → Ascends path_of (effect at size a st).live
unfolding effect path_of skipped
effect-ascends at size (add f) st s = ascends_put path_of (added at size f) st.live s
effect-ascends at size (remove p) st s = ascends-take_out path_of p st.live s
effect-ascends at size (protocol p) st s = s
effect-ascends at size (meta_data m) st s = s
effect-ascends at size (mergeskip p k) st s = ascends-change path_of p (skipped k) (λ r. refl) st.live s
effect-ascends at size other st s = s

pub within_limit-accepted : (limit e k : ℕ) (st : State) {to : State} → within_limit limit e k st ≡ accepted to → (st ≡ to) × (length st.live ≤ limit)
unfolding within_limit
within_limit-accepted limit e k st {to} h = go (bind-accepted (require (too_many_live e k) (leb (length st.live) limit)) (λ u. accepted st) h)
  where
    go : (u : Unit {0}) × (require (too_many_live e k) (leb (length st.live) limit) ≡ accepted u) × (accepted st ≡ accepted to)
        → (st ≡ to) × (length st.live ≤ limit)
    go r =
        let q : require (too_many_live e k) (leb (length st.live) limit) ≡ accepted r.0 = r.1 in
        let p : accepted st ≡ accepted to = r.2 in
        (cc, leb-true (length st.live) limit (require-accepted (too_many_live e k) (leb (length st.live) limit) q))

-- an action that is accepted fits, and its effect is within the limit
pub act-accepted : (limit : ℕ) (of : Origin) (e k at size : ℕ) (a : Action) (st : State) {to : State} → act limit of e k at size a st ≡ accepted to
    → (fits of a st.table ≡ true) × (within_limit limit e k (effect at size a st) ≡ accepted to)
unfolding act
act-accepted limit of e k at size a st h =
    let r = bind-accepted (require (foreign_keys e k) (fits of a st.table)) (λ _. within_limit limit e k (effect at size a st)) h in
    (require-accepted (foreign_keys e k) (fits of a st.table) r.1, r.2)

-- a line that is accepted is empty, or its action's effect is within the limit
pub record Applied (limit at : ℕ) (l : Bytes) (st to : State) : Type 0 where
  pub does : Action
  pub said : action l ≡ Some does
  pub reached : effect at (length l) does st ≡ to
  pub fits : length to.live ≤ limit

pub read_line-accepted : (limit : ℕ) (of : Origin) (e k at : ℕ) (l : Bytes) (st to : State) → read_line limit of e k at l st ≡ accepted to
    → (st ≡ to) ⊎ Applied limit at l st to
unfolding read_line
read_line-accepted limit of e k at [] st to h = inl (cc)
read_line-accepted limit of e k at (b ∷ bs) st to h = go (action (b ∷ bs)) refl h
  where
    size : ℕ
    size = length (b ∷ bs)

    go : (o : Option Action) → action (b ∷ bs) ≡ o → (or_refuse (malformed e k) o >>= (λ a. act limit of e k at size a st)) ≡ accepted to
        → (st ≡ to) ⊎ Applied limit at (b ∷ bs) st to
    go None q h = apart (cc)
    go (Some a) q h =
        let r = within_limit-accepted limit e k (effect at size a st) (act-accepted limit of e k at size a st h).1 in
        inr (record { does = a; said = q; reached = r.0; fits = subst (λ (x : State). length x.live ≤ limit) r.0 r.1 })

-- ---- lines as they stand in a text: the first of them from a on ends at e

pub read_lines-part : (limit : ℕ) (of : Origin) (n k : ℕ) (s : Bytes) (a e b : ℕ) (st : State) → a < b → b ≤ length s → a ≤ e → e ≤ b
    → ((j : ℕ) → a ≤ j → j < e → get_or s j 0 ≡ 0x0A → ⊥) → (e < b → get_or s e 0 ≡ 0x0A)
    → read_lines limit of n k a (lines (part s a b)) st
    ≡ (read_line limit of n k a (part s a e) st >>= (λ next. read_lines limit of n (suc k) (e + 1) (lines (part s (e + 1) b)) next))
unfolding read_lines
read_lines-part limit of n k s a e b st ab bs ae eb before feed =
    let p : a + length (part s a e) + 1 ≡ e + 1 = omega (arith, length_part s a e (omega arith)) in
    rw (lines-part s a e b ab bs ae eb before feed, p)

pub read_lines-none : (limit : ℕ) (of : Origin) (n k : ℕ) (s : Bytes) (a b : ℕ) (st : State) → b ≤ a
    → read_lines limit of n k a (lines (part s a b)) st ≡ accepted st
unfolding read_lines
read_lines-none limit of n k s a b st h = rw (lines-part-none s a b h)

-- ---- what every line keeps, lines, files and ways keep

-- P of the state before an accepted line gives P of the state after it
abbrev pub Kept : (limit : ℕ) → (State → Type 0) → Type 0
Kept limit P = (of : Origin) (e k at : ℕ) (l : Bytes) (st to : State) → read_line limit of e k at l st ≡ accepted to → P st → P to

module _ (limit : ℕ) (P : State → Type 0) (kept : Kept limit P) where
  pub read_lines-keeps : (of : Origin) (e k at : ℕ) (ls : List Bytes) (st to : State) → read_lines limit of e k at ls st ≡ accepted to → P st → P to
  unfolding read_lines
  read_lines-keeps of e k at [] st to h p = subst P (cc) p
  read_lines-keeps of e k at (l ∷ ls) st to h p =
      let r = bind-accepted (read_line limit of e k at l st) (λ next. read_lines limit of e (suc k) (at + length l + 1) ls next) h in
      read_lines-keeps of e (suc k) (at + length l + 1) ls r.0 to r.2 (kept of e k at l st r.0 r.1 p)

  pub read_file-keeps : (of : Origin) (f : File) (st to : State) → read_file limit of f st ≡ accepted to → P st → P to
  unfolding read_file
  read_file-keeps of f st to h p = go (bind-accepted (read_lines limit of f.entry 1 f.start (lines f.body) st) ended h)
    where
      ended : State → Answer State
      ended next = require (malformed f.entry 0) (any_object (lines f.body)) >>= (λ _. accepted next)

      go : (next : State) × (read_lines limit of f.entry 1 f.start (lines f.body) st ≡ accepted next) × (ended next ≡ accepted to) → P to
      go r =
          let t = bind-accepted (require (malformed f.entry 0) (any_object (lines f.body))) (λ _. accepted r.0) r.2 in
          let q : accepted r.0 ≡ accepted to = t.2 in
          subst P (cc) (read_lines-keeps of f.entry 1 f.start (lines f.body) st r.0 r.1 p)

  -- where it holds of no live files, and of what version 0 gives
  pub follow-keeps : (z : State) (w : Way) (to : State) → follow limit z w ≡ accepted to → P z → P nothing_live → P to
  unfolding follow
  follow-keeps z from_zero to h p q = subst P (cc) p
  follow-keeps z (from_checkpoint f) to h p q = read_file-keeps of_checkpoint f nothing_live to h q
  follow-keeps z (and_then w g) to h p q =
      let r = bind-accepted (follow limit z w) (λ st. read_file limit of_version g st) h in
      read_file-keeps of_version g r.0 to r.2 (follow-keeps z w r.0 r.1 p q)

-- ---- path order and the limit

abbrev pub Ordered : State → Type 0
Ordered st = Ascends path_of st.live

abbrev pub Fits : ℕ → State → Type 0
Fits limit st = length st.live ≤ limit

pub ordered-kept : (limit : ℕ) → Kept limit Ordered
ordered-kept limit of e k at l st to h s = go (read_line-accepted limit of e k at l st to h)
  where
    go : (st ≡ to) ⊎ Applied limit at l st to → Ascends path_of to.live
    go (inl q) = subst (λ (x : State). Ascends path_of x.live) q s
    go (inr r) = subst (λ (x : State). Ascends path_of x.live) r.reached (effect-ascends at (length l) r.does st s)

pub fits_kept : (limit : ℕ) → Kept limit (Fits limit)
fits_kept limit of e k at l st to h s = go (read_line-accepted limit of e k at l st to h)
  where
    go : (st ≡ to) ⊎ Applied limit at l st to → length to.live ≤ limit
    go (inl q) = subst (λ (x : State). length x.live ≤ limit) q s
    go (inr r) = r.fits

-- ---- the state at a version

pub read_zero-live : (f : File) (st : State) → read_zero f ≡ accepted st → st.live ≡ []
unfolding read_zero
read_zero-live f st h = go (bind-accepted (zero_lines f.entry 1 (lines f.body) said_nothing) meta_data_of h)
  where
    state_of : Said → MetaData → State
    state_of s m = record { table = m; in_force = or_unstated s.of_protocol; live = [] }

    meta_data_of : Said → Answer State
    meta_data_of s = or_refuse (malformed f.entry 0) s.of_table >>= (λ m. accepted (state_of s m))

    go : (s : Said) × (zero_lines f.entry 1 (lines f.body) said_nothing ≡ accepted s) × (meta_data_of s ≡ accepted st) → st.live ≡ []
    go r =
        let t = bind-accepted (or_refuse (malformed f.entry 0) r.0.of_table) (λ m. accepted (state_of r.0 m)) r.2 in
        let q : accepted (state_of r.0 t.0) ≡ accepted st = t.2 in
        let e : state_of r.0 t.0 ≡ st = cc in
        sym (ap (λ (x : State). x.live) e)

-- every state that a log gives has its files in path order, within the limit
pub state_by-live : (log : Log) (way : Option Way) (st : State) → state_by log way ≡ accepted st → Ordered st × Fits most_live st
unfolding state_within nothing_live
state_by-live log way st h = go (bind-accepted (or_refuse no_version_zero (log.version_file 0)) with_zero h)
  where
    with_way : File → Way → Answer State
    with_way f w = read_zero f >>= (λ z. follow most_live z w)

    with_zero : File → Answer State
    with_zero f = or_refuse not_kept way >>= with_way f

    go : (f : File) × (or_refuse no_version_zero (log.version_file 0) ≡ accepted f) × (with_zero f ≡ accepted st) → Ordered st × Fits most_live st
    go r =
        let t = bind-accepted (or_refuse not_kept way) (with_way r.0) r.2 in
        let u = bind-accepted (read_zero r.0) (λ z. follow most_live z t.0) t.2 in
        let e : u.0.live ≡ [] = read_zero-live r.0 u.0 u.1 in (
          follow-keeps most_live Ordered (ordered-kept most_live) u.0 t.0 st u.2 (rw e tt) tt,
          follow-keeps most_live (Fits most_live) (fits_kept most_live) u.0 t.0 st u.2 (rw e zero-le) zero-le,
        )

-- A well-formed file is accepted, or has a foreign add or more than 1,024 live: so a full history has a state at each of its versions.
use mathlib.Core.Path.{◌≡◌, refl, sym, ◌∙◌, subst}
use mathlib.Core.Bool.{Bool, true, false}
use Rattle.std.specs.Prelude.{Option, None, Some}
use mathlib.Core.List.{List, [], ◌∷◌}
use Prim.Native.Nat.{ℕ, zero, suc, ◌+◌, ◌≤◌}
use native.Mathlib.Omega.{arith}
use lib.Dec.{leb}
use lib.ListN.{length}
use Rattle.rules.specs.Bytes.{Bytes}
use Rattle.rules.specs.Bundle.{File}
use Rattle.rules.specs.Lines.{lines, any_object}
use Rattle.rules.specs.Actions.{Action, action}
use Rattle.rules.specs.Live.{most_live}
use Rattle.rules.specs.History.{State, of_version, of_checkpoint, fits, effect, within_limit, act, read_line, read_lines, read_file, read_zero}
use Rattle.rules.specs.Starts.{Log, log_of, every_line, well_formed, is_start, start_at, Way, from_zero}
use Rattle.rules.specs.Starts.{from_checkpoint, and_then, by_file, onward_by, history_to, nothing_live, follow}
use Rattle.rules.specs.Reading.{state_by, state_within}
use Rattle.rules.specs.Refusals.{◌>>=◌, Answer, accepted, refused, or_refuse, require, no_version_zero, not_kept, malformed, foreign_keys, too_many_live}
use Rattle.rules.proofs.Tests.{apart}
use Rattle.rules.proofs.Replaying.{bind-accepted, read_file-keeps}
use Rattle.rules.proofs.Readable.{read_file-readable}
use Rattle.rules.proofs.Answers.{or_refuse-accepted}
use Rattle.rules.proofs.Tabled.{HasId, id-kept, read_zero-id, read_file-says, is_start-both}
use Rattle.demands.specs.Reaching.{There}
use Rattle.demands.specs.FullHistory.{FullHistory, TrueIsStart}
use Rattle.demands.proofs.Starts.{by_file-some}
use Rattle.demands.proofs.StartsExactly.{if_start-there}

data Fine : Answer State → Type 0 where
  fine : (st : State) → Fine (accepted st)
  foreign : (e l : ℕ) → Fine (refused (foreign_keys e l))
  over : (e l : ℕ) → Fine (refused (too_many_live e l))

fine_bind : {x : Answer State} (f : State → Answer State) → Fine x → ((st : State) → Fine (f st)) → Fine (x >>= f)
fine_bind f (fine st) h = h st
fine_bind f (foreign e l) h = foreign e l
fine_bind f (over e l) h = over e l

-- ---- lines and files

within_limit-fine : (e k : ℕ) (st : State) → Fine (within_limit most_live e k st)
unfolding within_limit
within_limit-fine e k st = go (leb (length st.live) most_live)
  where
    go : (b : Bool) → Fine (require (too_many_live e k) b >>= (λ _. accepted st))
    go true = fine st
    go false = over e k

act-fine : (e k at size : ℕ) (a : Action) (st : State) → Fine (act most_live of_version e k at size a st)
unfolding act
act-fine e k at size a st = go (fits of_version a st.table)
  where
    go : (b : Bool) → Fine (require (foreign_keys e k) b >>= (λ _. within_limit most_live e k (effect at size a st)))
    go true = within_limit-fine e k (effect at size a st)
    go false = foreign e k

-- a line, and those after it
every_line-cons : (l : Bytes) (ls : List Bytes) → every_line (l ∷ ls) ≡ true
    → ((e k at : ℕ) (st : State) → Fine (read_line most_live of_version e k at l st)) × (every_line ls ≡ true)
unfolding every_line read_line
every_line-cons [] ls h = ((λ e k at st. fine st), h)
every_line-cons (b ∷ bs) ls h = go (action (b ∷ bs)) h
  where
    go : (o : Option Action) → elim o [ None ↦ false | Some a ↦ every_line ls ] ≡ true
        → ((e k at : ℕ) (st : State) → Fine (or_refuse (malformed e k) o >>= (λ a. act most_live of_version e k at (length (b ∷ bs)) a st)))
        × (every_line ls ≡ true)
    go None h = apart (cc)
    go (Some a) h = ((λ e k at st. act-fine e k at (length (b ∷ bs)) a st), h)

read_lines-fine : (e k at : ℕ) (ls : List Bytes) (st : State) → every_line ls ≡ true → Fine (read_lines most_live of_version e k at ls st)
unfolding read_lines
read_lines-fine e k at [] st h = fine st
read_lines-fine e k at (l ∷ ls) st h =
    let p = every_line-cons l ls h in
    fine_bind
    (λ next. read_lines most_live of_version e (suc k) (at + length l + 1) ls next)
    (p.0 e k at st)
    (λ next. read_lines-fine e (suc k) (at + length l + 1) ls next p.1)

well_formed-both : (body : Bytes) → well_formed body ≡ true → (any_object (lines body) ≡ true) × (every_line (lines body) ≡ true)
unfolding well_formed
well_formed-both body h = go (any_object (lines body)) refl h
  where
    go : (b : Bool) → any_object (lines body) ≡ b → elim b [ true ↦ every_line (lines body) | false ↦ false ] ≡ true
        → (any_object (lines body) ≡ true) × (every_line (lines body) ≡ true)
    go true e h = (e, h)
    go false e h = apart (cc)

read_file-fine : (f : File) (st : State) → well_formed f.body ≡ true → Fine (read_file most_live of_version f st)
unfolding read_file
read_file-fine f st h =
    let p = well_formed-both f.body h in
    fine_bind (λ next. require (malformed f.entry 0) (any_object (lines f.body)) >>= (λ _. accepted next))
    (read_lines-fine f.entry 1 f.start (lines f.body) st p.1)
    (λ next. subst (λ (b : Bool). Fine (require (malformed f.entry 0) b >>= (λ _. accepted next))) (sym p.0) (fine next))

-- ---- the history

pub history-way : (log : Log) (n : ℕ) → ((w : ℕ) → w ≤ n → There (log.version_file w)) → (v : ℕ) → v ≤ n → There (history_to log v)
unfolding history_to by_file onward_by
history-way log n h zero l = (from_zero, refl)
history-way log n h (suc v) l = go (log.version_file (suc v)) (history_to log v) (h (suc v) l) (history-way log n h v (omega arith))
  where
    go : (o : Option File) (k : Option Way) → There o → There k → There (by_file o (λ _. k))
    go o k (g, e) (u, e') = (and_then u g, rw (e, e'))

history-fine : (log : Log) → ((w : ℕ) (f : File) → log.version_file (suc w) ≡ Some f → well_formed f.body ≡ true)
    → (v : ℕ) (h : Way) (z : State) → history_to log v ≡ Some h → Fine (follow most_live z h)
unfolding history_to follow
history-fine log r zero h z e = let q : from_zero ≡ h = cc in subst (λ (w : Way). Fine (follow most_live z w)) q (fine z)
history-fine log r (suc v) h z e =
    let b = by_file-some (log.version_file (suc v)) (λ _. history_to log v) h e in
    let u = b.2.0 in
    let g = b.0 in
    subst (λ (w : Way). Fine (follow most_live z w)) b.2.2
    (fine_bind (λ st. read_file most_live of_version g st) (history-fine log r v u z b.2.1) (λ st. read_file-fine g st (r v g b.1)))

-- reading from version file `zf` along w
pub state_by-is : (log : Log) (o : Option Way) (zf : File) (w : Way) → log.version_file 0 ≡ Some zf → o ≡ Some w
    → state_by log o ≡ (read_zero zf >>= (λ z. follow most_live z w))
unfolding state_within
state_by-is log o zf w e e' = rw (e, e')

pub history-told : (fs : List File) (n : ℕ) → FullHistory fs n → (v : ℕ) → v ≤ n
    → (st : State) × (state_by (log_of fs) (history_to (log_of fs) v) ≡ accepted st)
history-told fs n full v l =
    let z = full.all 0 (omega arith) in
    let x = full.zero-readable z.0 z.1 in
    let h = history-way (log_of fs) n full.all v l in
    let e = state_by-is (log_of fs) (history_to (log_of fs) v) z.0 h.0 z.1 h.1 in
    let f = history-fine (log_of fs) full.others-readable v h.0 x.0 h.1 in
    go z.0 h.0 x.0 x.1 e (follow most_live x.0 h.0) refl f
  where
    go : (zf : File) (h : Way) (x : State) → read_zero zf ≡ accepted x
        → state_by (log_of fs) (history_to (log_of fs) v) ≡ (read_zero zf >>= (λ z. follow most_live z h))
        → (a : Answer State) → follow most_live x h ≡ a → Fine a → (st : State) × (state_by (log_of fs) (history_to (log_of fs) v) ≡ accepted st)
    go zf h x ez e _ ef (fine st) = (st, e ∙ rw (ez, ef))
    go zf h x ez e _ ef (foreign i j) = absurd (full.none-foreign v i j l (e ∙ rw (ez, ef)))
    go zf h x ez e _ ef (over i j) = absurd (full.never-over v i j (e ∙ rw (ez, ef)))

-- ---- and what is accepted is readable

-- the history gives an id: version 0 does, and lines keep it
history-id : (log : Log) (v : ℕ) (h : Way) (z st : State) → history_to log v ≡ Some h → HasId z.table → follow most_live z h ≡ accepted st → HasId st.table
unfolding history_to follow
history-id log zero h z st e p f =
    let q : from_zero ≡ h = cc in
    let r : follow most_live z from_zero ≡ accepted st = subst (λ (w : Way). follow most_live z w ≡ accepted st) (sym q) f in
    let s : z ≡ st = cc in
    subst (λ (x : State). HasId x.table) s p
history-id log (suc v) h z st e p f =
    let b = by_file-some (log.version_file (suc v)) (λ _. history_to log v) h e in
    let r : follow most_live z (and_then b.2.0 b.0) ≡ accepted st = subst (λ (w : Way). follow most_live z w ≡ accepted st) (sym b.2.2) f in
    let c = bind-accepted (follow most_live z b.2.0) (λ x. read_file most_live of_version b.0 x) r in
    read_file-keeps most_live
    (λ (x : State). HasId x.table)
    (id-kept most_live)
    of_version
    b.0
    c.0
    st
    c.2
    (history-id log v b.2.0 z c.0 b.2.1 p c.1)

state_by-begun : (log : Log) (w : Option Way) (st : State) → state_by log w ≡ accepted st
    → (zf : File) × ((z : State) × ((u : Way) × ((w ≡ Some u) × ((read_zero zf ≡ accepted z) × (follow most_live z u ≡ accepted st)))))
unfolding state_within
state_by-begun log w st h =
    let a =
    bind-accepted (or_refuse no_version_zero (log.version_file 0)) (λ zf. or_refuse not_kept w >>= (λ u. read_zero zf >>= (λ z. follow most_live z u))) h in
    let b = bind-accepted (or_refuse not_kept w) (λ u. read_zero a.0 >>= (λ z. follow most_live z u)) a.2 in
    let c = bind-accepted (read_zero a.0) (λ z. follow most_live z b.0) b.2 in
    (a.0, (c.0, (b.0, (or_refuse-accepted not_kept w b.1, (c.1, c.2)))))

-- a true checkpoint has the history's id, so that a line of it says the metadata
pub true-is-start : TrueIsStart
unfolding follow start_at
true-is-start log c f e t =
    let (zf, (z, (u, (q, (ez, own))))) = state_by-begun log (Some (from_checkpoint f)) t.own t.own_read in
    let (yf, (y, (h, (p, (ey, his))))) = state_by-begun log (history_to log c) t.history t.history-read in
    let w : from_checkpoint f ≡ u = cc in
    let mine : read_file most_live of_checkpoint f nothing_live ≡ accepted t.own = subst (λ (x : Way). follow most_live z x ≡ accepted t.own) (sym w) own in
    let id : HasId t.own.table = subst HasId (sym t.same.table) (history-id log c h y t.history p (read_zero-id yf y ey) his) in
    let s : is_start f.body ≡ true =
    is_start-both f.body (read_file-readable most_live of_checkpoint f nothing_live t.own mine) (read_file-says most_live f t.own mine id) in
    if_start-there (log.checkpoint_file c) f e s

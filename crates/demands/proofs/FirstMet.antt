-- Reading is refused exactly at the first line met: forward by the steps of the reading, backward by the lines before it, which are accepted.
use mathlib.Core.Path.{◌≡◌, refl, sym, ◌∙◌, ap, subst}
use mathlib.Core.Logic.{◌⊎◌, inl, inr}
use mathlib.Core.Bool.{false}
use Rattle.std.specs.Prelude.{None, Some}
use mathlib.Core.List.{List, [], ◌∷◌, ◌++◌}
use Prim.Native.Nat.{ℕ, suc, ◌+◌, ◌<◌}
use native.Mathlib.Omega.{arith}
use lib.Dec.{leb}
use lib.ListN.{length}
use borrow.Author.Tests.{leb-false, lt-leb}
use Rattle.rules.specs.Bytes.{Bytes}
use Rattle.rules.specs.Bundle.{File}
use Rattle.rules.specs.Lines.{lines, any_object}
use Rattle.rules.specs.Actions.{Action, action}
use Rattle.rules.specs.Live.{most_live}
use Rattle.rules.specs.History.{State, Origin, fits, effect, within_limit, act, read_line, read_lines, read_file}
use Rattle.rules.specs.Refusals.{Refusal, Answer, accepted, refused, ◌>>=◌, or_refuse, require, malformed, foreign_keys, too_many_live}
use Rattle.rules.proofs.Tests.{apart}
use Rattle.rules.proofs.Replaying.{require-accepted}
use Rattle.rules.proofs.Answers.{bind-refused, or_refuse-refused, or_refuse-accepted, require-refused}
use Rattle.rules.proofs.Sameness.{same-state-refl, length-same-rows}
use Rattle.rules.proofs.Moving.{effect-same}
use Rattle.demands.specs.Met.{Foreign, Line, MetIn, malformed-line, foreign, too_many, no-object}
use Rattle.demands.proofs.Words.{fits-foreign, foreign-fits, none-foreign-fits, fits-none-foreign}

-- ---- one line

-- how many are live does not depend on where the line stands
effect-length : (at size : ℕ) (a : Action) (st : State) → length (effect at size a st).live ≡ length (effect 0 0 a st).live
effect-length at size a st = length-same-rows (effect-same at 0 size 0 a st st (same-state-refl st)).live

module _ (of : Origin) where
  -- a line that is not empty is refused as malformed, as foreign, or for too many live
  data Refuses (e k : ℕ) (l : Bytes) (st : State) : Refusal → Type 0 where
    by_form : action l ≡ None → Refuses e k l st (malformed e k)
    by-keys : (a : Action) → action l ≡ Some a → Foreign of a st.table → Refuses e k l st (foreign_keys e k)
    by_number : (a : Action) → action l ≡ Some a → (Foreign of a st.table → ⊥) → most_live < length (effect 0 0 a st).live
        → Refuses e k l st (too_many_live e k)

  read_line-refused : (e k at : ℕ) (l : Bytes) (st : State) (r : Refusal) → read_line most_live of e k at l st ≡ refused r → (l ≡ [] → ⊥) × Refuses e k l st r
  unfolding read_line act within_limit
  read_line-refused e k at [] st r h = apart (cc)
  read_line-refused e k at (b ∷ bs) st r h =
      ((λ q. apart (cc)), go (bind-refused (or_refuse (malformed e k) (action (b ∷ bs))) (λ a. act most_live of e k at (length (b ∷ bs)) a st) h))
    where
      over : (a : Action) → action (b ∷ bs) ≡ Some a → (Foreign of a st.table → ⊥)
          → within_limit most_live e k (effect at (length (b ∷ bs)) a st) ≡ refused r → Refuses e k (b ∷ bs) st r
      over a q n h =
          by_cases (bind-refused (require (too_many_live e k) (leb (length (effect at (length (b ∷ bs)) a st).live) most_live))
          (λ _. accepted (effect at (length (b ∷ bs)) a st)) h)
        where
          by_cases : (require (too_many_live e k) (leb (length (effect at (length (b ∷ bs)) a st).live) most_live) ≡ refused r)
              ⊎ ((u : Unit {0}) × (require (too_many_live e k) (leb (length (effect at (length (b ∷ bs)) a st).live) most_live) ≡ accepted u)
              × (accepted (effect at (length (b ∷ bs)) a st) ≡ refused r))
              → Refuses e k (b ∷ bs) st r
          by_cases (inl x) =
              let p = require-refused (too_many_live e k) (leb (length (effect at (length (b ∷ bs)) a st).live) most_live) x in
              subst (Refuses e k (b ∷ bs) st) p.1
              (by_number a q n
              (subst (λ (n : ℕ). most_live < n) (effect-length at (length (b ∷ bs)) a st)
              (leb-false (length (effect at (length (b ∷ bs)) a st).live) most_live p.0)))
          by_cases (inr (u, x, y)) = apart (cc)

      keyed : (a : Action) → action (b ∷ bs) ≡ Some a → act most_live of e k at (length (b ∷ bs)) a st ≡ refused r → Refuses e k (b ∷ bs) st r
      keyed a q h =
          by_cases (bind-refused (require (foreign_keys e k) (fits of a st.table)) (λ _. within_limit most_live e k (effect at (length (b ∷ bs)) a st)) h)
        where
          by_cases : (require (foreign_keys e k) (fits of a st.table) ≡ refused r)
              ⊎ ((u : Unit {0}) × (require (foreign_keys e k) (fits of a st.table) ≡ accepted u)
              × (within_limit most_live e k (effect at (length (b ∷ bs)) a st) ≡ refused r))
              → Refuses e k (b ∷ bs) st r
          by_cases (inl x) =
              let p = require-refused (foreign_keys e k) (fits of a st.table) x in
              subst (Refuses e k (b ∷ bs) st) p.1 (by-keys a q (fits-foreign of a st.table p.0))
          by_cases (inr (u, x, y)) = over a q (fits-none-foreign of a st.table (require-accepted (foreign_keys e k) (fits of a st.table) x)) y

      go : (or_refuse (malformed e k) (action (b ∷ bs)) ≡ refused r)
          ⊎ ((a : Action) × (or_refuse (malformed e k) (action (b ∷ bs)) ≡ accepted a)
          × (act most_live of e k at (length (b ∷ bs)) a st ≡ refused r)) → Refuses e k (b ∷ bs) st r
      go (inl x) = let p = or_refuse-refused (malformed e k) (action (b ∷ bs)) x in subst (Refuses e k (b ∷ bs) st) p.1 (by_form p.0)
      go (inr (a, x, y)) = keyed a (or_refuse-accepted (malformed e k) (action (b ∷ bs)) x) y

  refused-read_line : (e k at : ℕ) (l : Bytes) (st : State) (r : Refusal) → (l ≡ [] → ⊥) → Refuses e k l st r → read_line most_live of e k at l st ≡ refused r
  unfolding read_line act within_limit
  refused-read_line e k at [] st r n h = absurd (n refl)
  refused-read_line e k at (b ∷ bs) st _ n (by_form q) = rw q
  refused-read_line e k at (b ∷ bs) st _ n (by-keys a q f) = rw (q, foreign-fits of a st.table f)
  refused-read_line e k at (b ∷ bs) st _ n (by_number a q f l) =
      let m : most_live < length (effect at (length (b ∷ bs)) a st).live = subst (λ (x : ℕ). most_live < x) (sym (effect-length at (length (b ∷ bs)) a st)) l in
      rw (q, none-foreign-fits of a st.table f, lt-leb (length (effect at (length (b ∷ bs)) a st).live) most_live m)

  -- ---- lines

  -- reading stops at a line: those before it are accepted
  record Stop (e k at : ℕ) (ls : List Bytes) (st : State) (r : Refusal) : Type 0 where
    before : List Bytes
    line : Bytes
    behind : List Bytes
    split : ls ≡ before ++ line ∷ behind
    come-to : State
    accepted-before : read_lines most_live of e k at before st ≡ accepted come-to
    number : ℕ
    numbered : number ≡ k + length before
    at-line : ℕ
    refuses : read_line most_live of e number at-line line come-to ≡ refused r

  read_lines-stop : (e k at : ℕ) (ls : List Bytes) (st : State) (r : Refusal) → read_lines most_live of e k at ls st ≡ refused r → Stop e k at ls st r
  unfolding read_lines
  read_lines-stop e k at [] st r h = apart (cc)
  read_lines-stop e k at (l ∷ ls) st r h =
      go
      (bind-refused (read_line most_live of e k at l st) (λ next. read_lines most_live of e (suc k) (at + length l + 1) ls next) h)
      (λ next. read_lines-stop e (suc k) (at + length l + 1) ls next r)
    where
      go : (read_line most_live of e k at l st ≡ refused r)
          ⊎
          ((next : State) × (read_line most_live of e k at l st ≡ accepted next) × (read_lines most_live of e (suc k) (at + length l + 1) ls next ≡ refused r))
          → ((next : State) → read_lines most_live of e (suc k) (at + length l + 1) ls next ≡ refused r → Stop e (suc k) (at + length l + 1) ls next r)
          → Stop e k at (l ∷ ls) st r
      go (inl x) ih =
          record {
            before = [];
            line = l;
            behind = ls;
            split = refl;
            come-to = st;
            accepted-before = refl;
            number = k;
            numbered = omega arith;
            at-line = at;
            refuses = x;
          }
      go (inr (next, x, y)) ih =
          let p = ih next y in
          record {
            before = l ∷ p.before;
            line = p.line;
            behind = p.behind;
            split = ap (λ (xs : List Bytes). l ∷ xs) p.split;
            come-to = p.come-to;
            accepted-before = rw x p.accepted-before;
            number = p.number;
            numbered = omega (arith, p.numbered);
            at-line = p.at-line;
            refuses = p.refuses;
          }

  -- past lines that are accepted, reading goes on with the next number
  read_lines-past : (e k at : ℕ) (before rest : List Bytes) (st to : State) → read_lines most_live of e k at before st ≡ accepted to
      → (at' : ℕ) × (read_lines most_live of e k at (before ++ rest) st ≡ read_lines most_live of e (length before + k) at' rest to)
  unfolding read_lines
  read_lines-past e k at [] rest st to h =
      let q : st ≡ to = cc in
      let n : k ≡ 0 + k = omega arith in (
        at,
        subst (λ (x : State). read_lines most_live of e k at rest st ≡ read_lines most_live of e k at rest x) q refl
            ∙ ap (λ (x : ℕ). read_lines most_live of e x at rest to) n,
      )
  read_lines-past e k at (l ∷ ls) rest st to h =
      go (read_line most_live of e k at l st) h (λ next. read_lines-past e (suc k) (at + length l + 1) ls rest next to)
    where
      go : (a : Answer State) → (a >>= (λ next. read_lines most_live of e (suc k) (at + length l + 1) ls next)) ≡ accepted to
          → ((next : State) → read_lines most_live of e (suc k) (at + length l + 1) ls next ≡ accepted to
          → (at' : ℕ) × (read_lines most_live of e (suc k) (at + length l + 1) (ls ++ rest) next ≡ read_lines most_live of e (length ls + suc k) at' rest to))
          → (at' : ℕ)
          × ((a >>= (λ next. read_lines most_live of e (suc k) (at + length l + 1) (ls ++ rest) next))
          ≡ read_lines most_live of e (suc (length ls) + k) at' rest to)
      go (accepted next) h ih =
          let p = ih next h in
          let n : length ls + suc k ≡ suc (length ls) + k = omega arith in
          (p.0, p.1 ∙ ap (λ (x : ℕ). read_lines most_live of e x p.0 rest to) n)
      go (refused s) h ih = apart (cc)

  -- empty lines alone are accepted
  any_object-none : (e k at : ℕ) (ls : List Bytes) (st : State) → any_object ls ≡ false → read_lines most_live of e k at ls st ≡ accepted st
  unfolding read_lines read_line any_object
  any_object-none e k at [] st h = refl
  any_object-none e k at ([] ∷ ls) st h = any_object-none e (suc k) (at + 0 + 1) ls st h
  any_object-none e k at ((b ∷ bs) ∷ ls) st h = apart (cc)

  -- ---- a file

  pub read_file-met : (f : File) (st : State) (r : Refusal) → read_file most_live of f st ≡ refused r → MetIn of f st r
  unfolding read_file
  read_file-met f st r h = go (bind-refused (read_lines most_live of f.entry 1 f.start (lines f.body) st) ended h)
    where
      ended : State → Answer State
      ended next = require (malformed f.entry 0) (any_object (lines f.body)) >>= (λ _. accepted next)

      at-line : (p : Stop f.entry 1 f.start (lines f.body) st r) → Refuses f.entry p.number p.line p.come-to r → (p.line ≡ [] → ⊥)
          → MetIn of f st r
      at-line p h n = by-cause p.number (p.numbered ∙ omega arith) h
        where
          here : Line of f st
          here =
              record {
                before = p.before;
                line = p.line;
                behind = p.behind;
                split = p.split;
                not-empty = n;
                come-to = p.come-to;
                accepted-before = p.accepted-before;
              }

          by-cause : {x : Refusal} (k : ℕ) → k ≡ suc (length p.before) → Refuses f.entry k p.line p.come-to x → MetIn of f st x
          by-cause k q (by_form e) = subst (λ (n : ℕ). MetIn of f st (malformed f.entry n)) (sym q) (malformed-line here e)
          by-cause k q (by-keys a e u) = subst (λ (n : ℕ). MetIn of f st (foreign_keys f.entry n)) (sym q) (foreign here a e u)
          by-cause k q (by_number a e u l) = subst (λ (n : ℕ). MetIn of f st (too_many_live f.entry n)) (sym q) (too_many here a e u l)

      at-end : (next : State) → ended next ≡ refused r → MetIn of f st r
      at-end next h = by_cases (bind-refused (require (malformed f.entry 0) (any_object (lines f.body))) (λ _. accepted next) h)
        where
          by_cases : (require (malformed f.entry 0) (any_object (lines f.body)) ≡ refused r)
              ⊎ ((u : Unit {0}) × (require (malformed f.entry 0) (any_object (lines f.body)) ≡ accepted u) × (accepted next ≡ refused r)) → MetIn of f st r
          by_cases (inl x) = let p = require-refused (malformed f.entry 0) (any_object (lines f.body)) x in subst (MetIn of f st) p.1 (no-object p.0)
          by_cases (inr (u, x, y)) = apart (cc)

      go : (read_lines most_live of f.entry 1 f.start (lines f.body) st ≡ refused r)
          ⊎ ((next : State) × (read_lines most_live of f.entry 1 f.start (lines f.body) st ≡ accepted next) × (ended next ≡ refused r)) → MetIn of f st r
      go (inl x) =
          let p = read_lines-stop f.entry 1 f.start (lines f.body) st r x in
          let l = read_line-refused f.entry p.number p.at-line p.line p.come-to r p.refuses in
          at-line p l.1 l.0
      go (inr (next, x, y)) = at-end next y

  pub met-read_file : (f : File) (st : State) (r : Refusal) → MetIn of f st r → read_file most_live of f st ≡ refused r
  unfolding read_file read_lines
  met-read_file f st r h = go h
    where
      ended : State → Answer State
      ended next = require (malformed f.entry 0) (any_object (lines f.body)) >>= (λ _. accepted next)

      at-line : (l : Line of f st) (x : Refusal) → Refuses f.entry (suc (length l.before)) l.line l.come-to x
          → (read_lines most_live of f.entry 1 f.start (lines f.body) st >>= ended) ≡ refused x
      at-line l x h =
          let p = read_lines-past f.entry 1 f.start l.before (l.line ∷ l.behind) st l.come-to l.accepted-before in
          let n : length l.before + 1 ≡ suc (length l.before) = omega arith in
          let q : read_line most_live of f.entry (length l.before + 1) p.0 l.line l.come-to ≡ refused x =
          rw n (refused-read_line f.entry (suc (length l.before)) p.0 l.line l.come-to x l.not-empty h) in
          rw (l.split, p.1, q)

      go : {x : Refusal} → MetIn of f st x → (read_lines most_live of f.entry 1 f.start (lines f.body) st >>= ended) ≡ refused x
      go (malformed-line l e) = at-line l (malformed f.entry (suc (length l.before))) (by_form e)
      go (foreign l a e u) = at-line l (foreign_keys f.entry (suc (length l.before))) (by-keys a e u)
      go (too_many l a e u m) = at-line l (too_many_live f.entry (suc (length l.before))) (by_number a e u m)
      go (no-object e) = rw (any_object-none f.entry 1 f.start (lines f.body) st e, e)

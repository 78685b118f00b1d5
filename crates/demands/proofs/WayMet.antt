-- The first line met in version 0, and on the whole way.
use mathlib.Core.Path.{◌≡◌, refl, sym, ◌∙◌, ap, subst}
use mathlib.Core.Logic.{◌⊎◌, inl, inr}
use Rattle.std.specs.Prelude.{Option, None, Some}
use mathlib.Core.List.{List, [], ◌∷◌, ◌++◌}
use Prim.Native.Nat.{ℕ, suc, ◌+◌}
use native.Mathlib.Omega.{arith}
use lib.ListN.{length}
use Rattle.rules.specs.Bytes.{Bytes}
use Rattle.rules.specs.Bundle.{File}
use Rattle.rules.specs.Lines.{lines}
use Rattle.rules.specs.Actions.{MetaData, Action, action}
use Rattle.rules.specs.Live.{most_live}
use Rattle.rules.specs.History.{State, Origin, of_version, of_checkpoint, Said, read_file, said_nothing, say, zero_lines, or_unstated, read_zero}
use Rattle.rules.specs.Starts.{Way, from_zero, from_checkpoint, and_then, nothing_live, follow}
use Rattle.rules.specs.Refusals.{Refusal, Answer, accepted, refused, ◌>>=◌, or_refuse, malformed, foreign_keys, too_many_live}
use Rattle.rules.proofs.Tests.{apart}
use Rattle.rules.proofs.Answers.{bind-refused, or_refuse-refused}
use Rattle.demands.specs.Met.{MetIn, foreign, too_many, no-object, ZeroLine, MetInZero, malformed-line, out-of-place}
use Rattle.demands.specs.Met.{no-meta_data, MetOn, in-checkpoint, earlier, in-version, Met, in-zero, on-way}
use Rattle.demands.proofs.FirstMet.{read_file-met, met-read_file}

-- ---- lines of version 0

-- a line that is refused: malformed, or out of place
data Refuses (l : Bytes) (s : Said) : Type 0 where
  by_form : action l ≡ None → Refuses l s
  by_place : (a : Action) → action l ≡ Some a → say a s ≡ None → Refuses l s

record Stop (e k : ℕ) (ls : List Bytes) (s : Said) (r : Refusal) : Type 0 where
  before : List Bytes
  line : Bytes
  behind : List Bytes
  split : ls ≡ before ++ line ∷ behind
  not-empty : line ≡ [] → ⊥
  said : Said
  accepted-before : zero_lines e k before s ≡ accepted said
  refuses : Refuses line said
  is : malformed e (k + length before) ≡ r

-- one more line in front that is accepted
stop-later : (e k : ℕ) (l : Bytes) (ls : List Bytes) (s next : Said) (r : Refusal)
    → ((xs : List Bytes) → zero_lines e k (l ∷ xs) s ≡ zero_lines e (suc k) xs next) → Stop e (suc k) ls next r → Stop e k (l ∷ ls) s r
stop-later e k l ls s next r x p =
    let n : k + length (l ∷ p.before) ≡ suc k + length p.before = omega arith in
    record {
      before = l ∷ p.before;
      line = p.line;
      behind = p.behind;
      split = ap (λ (xs : List Bytes). l ∷ xs) p.split;
      not-empty = p.not-empty;
      said = p.said;
      accepted-before = x p.before ∙ p.accepted-before;
      refuses = p.refuses;
      is = ap (malformed e) n ∙ p.is;
    }

zero_lines-stop : (e k : ℕ) (ls : List Bytes) (s : Said) (r : Refusal) → zero_lines e k ls s ≡ refused r → Stop e k ls s r
unfolding zero_lines
zero_lines-stop e k [] s r h = apart (cc)
zero_lines-stop e k ([] ∷ ls) s r h = stop-later e k [] ls s s r (λ xs. refl) (zero_lines-stop e (suc k) ls s r h)
zero_lines-stop e k ((b ∷ bs) ∷ ls) s r h =
    go (action (b ∷ bs)) refl h (λ next. zero_lines-stop e (suc k) ls next r)
  where
    here : Refuses (b ∷ bs) s → malformed e k ≡ r → Stop e k ((b ∷ bs) ∷ ls) s r
    here c q =
        let n : k + length {A = Bytes} [] ≡ k = omega arith in
        record {
          before = [];
          line = b ∷ bs;
          behind = ls;
          split = refl;
          not-empty = λ q. apart (cc);
          said = s;
          accepted-before = refl;
          refuses = c;
          is = ap (malformed e) n ∙ q;
        }

    said-so : (a : Action) → action (b ∷ bs) ≡ Some a → (o : Option Said) → say a s ≡ o
        → (or_refuse (malformed e k) o >>= (λ next. zero_lines e (suc k) ls next)) ≡ refused r
        → ((next : Said) → zero_lines e (suc k) ls next ≡ refused r → Stop e (suc k) ls next r) → Stop e k ((b ∷ bs) ∷ ls) s r
    said-so a q None p h ih = here (by_place a q p) (cc)
    said-so a q (Some next) p h ih = stop-later e k (b ∷ bs) ls s next r (λ xs. rw (q, p)) (ih next h)

    go : (o : Option Action) → action (b ∷ bs) ≡ o
        → (or_refuse (malformed e k) o >>= (λ a. or_refuse (malformed e k) (say a s) >>= (λ next. zero_lines e (suc k) ls next))) ≡ refused r
        → ((next : Said) → zero_lines e (suc k) ls next ≡ refused r → Stop e (suc k) ls next r) → Stop e k ((b ∷ bs) ∷ ls) s r
    go None q h ih = here (by_form q) (cc)
    go (Some a) q h ih = said-so a q (say a s) refl h ih

zero_lines-past : (e k : ℕ) (before rest : List Bytes) (s to : Said) → zero_lines e k before s ≡ accepted to
    → zero_lines e k (before ++ rest) s ≡ zero_lines e (length before + k) rest to
unfolding zero_lines
zero_lines-past e k [] rest s to h =
    let q : s ≡ to = cc in
    let n : k ≡ 0 + k = omega arith in
    subst (λ (x : Said). zero_lines e k rest s ≡ zero_lines e k rest x) q refl ∙ ap (λ (x : ℕ). zero_lines e x rest to) n
zero_lines-past e k ([] ∷ ls) rest s to h =
    let n : length ls + suc k ≡ suc (length ls) + k = omega arith in
    zero_lines-past e (suc k) ls rest s to h ∙ ap (λ (x : ℕ). zero_lines e x rest to) n
zero_lines-past e k ((b ∷ bs) ∷ ls) rest s to h = go (action (b ∷ bs)) h (λ next. zero_lines-past e (suc k) ls rest next to)
  where
    go : (o : Option Action)
        → (or_refuse (malformed e k) o >>= (λ a. or_refuse (malformed e k) (say a s) >>= (λ next. zero_lines e (suc k) ls next))) ≡ accepted to
        → ((next : Said) → zero_lines e (suc k) ls next ≡ accepted to → zero_lines e (suc k) (ls ++ rest) next ≡ zero_lines e (length ls + suc k) rest to)
        → (or_refuse (malformed e k) o >>= (λ a. or_refuse (malformed e k) (say a s) >>= (λ next. zero_lines e (suc k) (ls ++ rest) next)))
        ≡ zero_lines e (suc (length ls) + k) rest to
    go None h ih = apart (cc)
    go (Some a) h ih = said-so (say a s) h
      where
        said-so : (o : Option Said) → (or_refuse (malformed e k) o >>= (λ next. zero_lines e (suc k) ls next)) ≡ accepted to
            → (or_refuse (malformed e k) o >>= (λ next. zero_lines e (suc k) (ls ++ rest) next)) ≡ zero_lines e (suc (length ls) + k) rest to
        said-so None h = apart (cc)
        said-so (Some next) h =
            let n : length ls + suc k ≡ suc (length ls) + k = omega arith in
            ih next h ∙ ap (λ (x : ℕ). zero_lines e x rest to) n

-- ---- version 0

state_of : Said → MetaData → State
state_of s m = record { table = m; in_force = or_unstated s.of_protocol; live = [] }

finish : (e : ℕ) → Said → Answer State
finish e s = or_refuse (malformed e 0) s.of_table >>= (λ m. accepted (state_of s m))

read_zero-is : (f : File) → read_zero f ≡ (zero_lines f.entry 1 (lines f.body) said_nothing >>= finish f.entry)
unfolding read_zero finish state_of
read_zero-is f = refl

pub read_zero-met : (f : File) (r : Refusal) → read_zero f ≡ refused r → MetInZero f r
unfolding finish
read_zero-met f r h = go (bind-refused (zero_lines f.entry 1 (lines f.body) said_nothing) (finish f.entry) (sym (read_zero-is f) ∙ h))
  where
    at-line : Stop f.entry 1 (lines f.body) said_nothing r → MetInZero f r
    at-line p = subst (MetInZero f) (ap (malformed f.entry) n ∙ p.is) (by-cause p.refuses)
      where
        n : suc (length p.before) ≡ 1 + length p.before
        n = omega arith

        here : ZeroLine f
        here =
            record {
              before = p.before;
              line = p.line;
              behind = p.behind;
              split = p.split;
              not-empty = p.not-empty;
              said = p.said;
              accepted-before = p.accepted-before;
            }

        by-cause : Refuses p.line p.said → MetInZero f (malformed f.entry (suc (length p.before)))
        by-cause (by_form e) = malformed-line here e
        by-cause (by_place a e q) = out-of-place here a e q

    at-end : (s : Said) → zero_lines f.entry 1 (lines f.body) said_nothing ≡ accepted s
        → (or_refuse (malformed f.entry 0) s.of_table ≡ refused r) ⊎
        ((m : MetaData) × (or_refuse (malformed f.entry 0) s.of_table ≡ accepted m) × (accepted (state_of s m) ≡ refused r)) → MetInZero f r
    at-end s x (inl y) = let p = or_refuse-refused (malformed f.entry 0) s.of_table y in subst (MetInZero f) p.1 (no-meta_data s x p.0)
    at-end s x (inr (m, y, z)) = apart (cc)

    go : (zero_lines f.entry 1 (lines f.body) said_nothing ≡ refused r)
        ⊎ ((s : Said) × (zero_lines f.entry 1 (lines f.body) said_nothing ≡ accepted s) × (finish f.entry s ≡ refused r)) → MetInZero f r
    go (inl x) = at-line (zero_lines-stop f.entry 1 (lines f.body) said_nothing r x)
    go (inr (s, x, y)) = at-end s x (bind-refused (or_refuse (malformed f.entry 0) s.of_table) (λ m. accepted (state_of s m)) y)

refused-line : (e k : ℕ) (l : Bytes) (ls : List Bytes) (s : Said) → (l ≡ [] → ⊥) → Refuses l s → zero_lines e k (l ∷ ls) s ≡ refused (malformed e k)
unfolding zero_lines
refused-line e k [] ls s n c = absurd (n refl)
refused-line e k (b ∷ bs) ls s n (by_form q) = rw q
refused-line e k (b ∷ bs) ls s n (by_place a q p) = rw (q, p)

pub met-read_zero : (f : File) (r : Refusal) → MetInZero f r → read_zero f ≡ refused r
unfolding finish
met-read_zero f r h = go h
  where
    at-line : (l : ZeroLine f) → Refuses l.line l.said → read_zero f ≡ refused (malformed f.entry (suc (length l.before)))
    at-line l c =
        let n : length l.before + 1 ≡ suc (length l.before) = omega arith in
        let p = zero_lines-past f.entry 1 l.before (l.line ∷ l.behind) said_nothing l.said l.accepted-before in
        let q = refused-line f.entry (length l.before + 1) l.line l.behind l.said l.not-empty c in
        read_zero-is f ∙ rw (l.split, p, q, n)

    go : {x : Refusal} → MetInZero f x → read_zero f ≡ refused x
    go (malformed-line l e) = at-line l (by_form e)
    go (out-of-place l a e q) = at-line l (by_place a e q)
    go (no-meta_data s e q) = read_zero-is f ∙ rw (e, q)

-- ---- the way

pub follow-met : (z : State) (w : Way) (r : Refusal) → follow most_live z w ≡ refused r → MetOn z w r
unfolding follow
follow-met z from_zero r h = apart (cc)
follow-met z (from_checkpoint f) r h = in-checkpoint (read_file-met of_checkpoint f nothing_live r h)
follow-met z (and_then w g) r h = go (bind-refused (follow most_live z w) (λ st. read_file most_live of_version g st) h) (follow-met z w r)
  where
    go : (follow most_live z w ≡ refused r) ⊎ ((st : State) × (follow most_live z w ≡ accepted st) × (read_file most_live of_version g st ≡ refused r))
        → (follow most_live z w ≡ refused r → MetOn z w r) → MetOn z (and_then w g) r
    go (inl x) ih = earlier (ih x)
    go (inr (st, x, y)) ih = in-version st x (read_file-met of_version g st r y)

pub met-follow : (z : State) (w : Way) (r : Refusal) → MetOn z w r → follow most_live z w ≡ refused r
unfolding follow
met-follow z _ r (in-checkpoint {f = f} h) = met-read_file of_checkpoint f nothing_live r h
met-follow z _ r (earlier {w = w} h) = rw (met-follow z w r h)
met-follow z _ r (in-version {g = g} st e h) = rw (e, met-read_file of_version g st r h)

abbrev pub from_zero_on : File → Way → Answer State
from_zero_on zf w = read_zero zf >>= (λ z. follow most_live z w)

pub way-met : (zf : File) (w : Way) (r : Refusal) → from_zero_on zf w ≡ refused r → Met zf w r
way-met zf w r h = go (bind-refused (read_zero zf) (λ z. follow most_live z w) h)
  where
    go : (read_zero zf ≡ refused r) ⊎ ((z : State) × (read_zero zf ≡ accepted z) × (follow most_live z w ≡ refused r)) → Met zf w r
    go (inl x) = in-zero (read_zero-met zf r x)
    go (inr (z, x, y)) = on-way z x (follow-met z w r y)

pub met-way : (zf : File) (w : Way) (r : Refusal) → Met zf w r → from_zero_on zf w ≡ refused r
met-way zf w r (in-zero h) = rw (met-read_zero zf r h)
met-way zf w r (on-way z e h) = rw (e, met-follow z w r h)

-- ---- what is met is refused by 6, 21 or 7

pub data OfALine : Refusal → Type 0 where
  number-6 : (e l : ℕ) → OfALine (malformed e l)
  number-21 : (e l : ℕ) → OfALine (foreign_keys e l)
  number-7 : (e l : ℕ) → OfALine (too_many_live e l)

pub met_in-number : (of : Origin) (f : File) (st : State) (r : Refusal) → MetIn of f st r → OfALine r
met_in-number of f st _ (malformed-line l e) = number-6 _ _
met_in-number of f st _ (foreign l a e u) = number-21 _ _
met_in-number of f st _ (too_many l a e u m) = number-7 _ _
met_in-number of f st _ (no-object e) = number-6 _ _

pub met_on-number : (z : State) (w : Way) (r : Refusal) → MetOn z w r → OfALine r
met_on-number z _ r (in-checkpoint {f = f} h) = met_in-number of_checkpoint f _ r h
met_on-number z _ r (earlier {w = w} h) = met_on-number z w r h
met_on-number z _ r (in-version {g = g} st e h) = met_in-number of_version g st r h

pub met_in_zero-number : (f : File) (r : Refusal) → MetInZero f r → OfALine r
met_in_zero-number f _ (malformed-line l e) = number-6 _ _
met_in_zero-number f _ (out-of-place l a e q) = number-6 _ _
met_in_zero-number f _ (no-meta_data s e q) = number-6 _ _

pub met-number : (zf : File) (w : Way) (r : Refusal) → Met zf w r → OfALine r
met-number zf w r (in-zero h) = met_in_zero-number zf r h
met-number zf w r (on-way z e h) = met_on-number z w r h

-- The example is a log as demand 3 takes it, and answers as its table says, by computation.
use mathlib.Core.Path.{◌≡◌, refl, sym, ◌∙◌, subst}
use mathlib.Core.Bool.{Bool, true, false}
use Rattle.std.specs.Prelude.{Option, None, Some}
use mathlib.Core.List.{List, [], ◌∷◌}
use Prim.Native.Nat.{ℕ, zero, suc, ◌≤◌, ◌<◌}
use native.Mathlib.Omega.{arith}
use borrow.Author.Tests.{ne_eqb}
use Rattle.facts.specs.Lists.{All}
use Rattle.rules.specs.Bundle.{File, bundle}
use Rattle.rules.specs.Names.{Name, version, checkpoint, name_of, version_in, checkpoint_in, is, any_too_large}
use Rattle.rules.specs.History.{State, read_zero}
use Rattle.rules.specs.Starts.{find, Log, log_of, well_formed, from_checkpoint, by_file, history_to}
use Rattle.rules.specs.Reading.{state_by, state_within}
use Rattle.rules.specs.Agreement.{agree}
use Rattle.rules.specs.Same.{IsTrue}
use Rattle.rules.specs.Edges.{Holds}
use Rattle.rules.specs.Refusals.{Refusal, Answer, accepted, refused, foreign_keys, too_many_live, not_kept}
use Rattle.rules.proofs.Opened.{rules}
use Rattle.rules.proofs.Tests.{apart}
use Rattle.rules.proofs.Answers.{refused-number}
use Rattle.rules.proofs.Agreement.{agree-true}
use Rattle.demands.specs.Reaching.{There}
use Rattle.demands.specs.Example as Example
use Rattle.demands.specs.Example.{whole, ExampleIsFull, answers}

pub answers-hold : Holds answers
unfolding rules answers whole Example.zero Example.one Example.checkpoint_at_one Example.untrue_at_one Example.two
answers-hold = (refl, (refl, (refl, (refl, (refl, (refl, (refl, tt)))))))

-- ---- its files

found : Option (List File) → List File
found None = []
found (Some fs) = fs

files : List File
unfolding found
files = found (bundle whole)

bundle-files : bundle whole ≡ Some files
unfolding rules files found whole Example.zero Example.one Example.checkpoint_at_one Example.two
bundle-files = refl

log : Log
log = log_of files

-- ---- what is found, and what it says

names_of : List File → List Name
names_of [] = []
names_of (f ∷ fs) = name_of f.name ∷ names_of fs

find_none : (test : Name → Bool) (fs : List File) → All (λ (n : Name). test n ≡ false) (names_of fs) → find test fs ≡ None
unfolding find names_of All
find_none test [] h = refl
find_none test (f ∷ fs) h = go (test (name_of f.name)) h.0 (find_none test fs h.1)
  where
    go : (b : Bool) → b ≡ false → find test fs ≡ None → ◌≡◌ {A = Option File} (elim b [ true ↦ Some f | false ↦ find test fs ]) None
    go true e h = apart (cc)
    go false e h = h

names : names_of files ≡ version 0 ∷ checkpoint 1 ∷ version 1 ∷ version 2 ∷ []
unfolding rules files found names_of whole Example.zero Example.one Example.checkpoint_at_one Example.two
names = refl

no-version : (w : ℕ) → 2 < w → log.version_file w ≡ None
unfolding log log_of All is version_in
no-version w l =
    find_none (λ (n : Name). is w (version_in n)) files
    (subst (All (λ (n : Name). is w (version_in n) ≡ false)) (sym names)
    (ne_eqb w 0 (λ q. omega arith), (refl, (ne_eqb w 1 (λ q. omega arith), (ne_eqb w 2 (λ q. omega arith), tt)))))

no-checkpoint : (c : ℕ) → (c ≡ 1 → ⊥) → log.checkpoint_file c ≡ None
unfolding log log_of All is checkpoint_in
no-checkpoint c h =
    find_none (λ (n : Name). is c (checkpoint_in n)) files
    (subst (All (λ (n : Name). is c (checkpoint_in n) ≡ false)) (sym names) (refl, (ne_eqb c 1 h, (refl, (refl, tt)))))

-- ---- what an answer or a file that is there says

is_accepted : {A : Type 0} → Answer A → Bool
is_accepted (accepted a) = true
is_accepted (refused r) = false

accepted-by : {A : Type 0} (a : Answer A) → is_accepted a ≡ true → (x : A) × (a ≡ accepted x)
unfolding is_accepted
accepted-by (accepted a) h = (a, refl)
accepted-by (refused r) h = apart (cc)

never-refused : {A : Type 0} (a : Answer A) (r : Refusal) → is_accepted a ≡ true → a ≡ refused r → ⊥
unfolding is_accepted
never-refused (accepted a) r h e = apart (cc)
never-refused (refused s) r h e = apart (cc)

-- a test of the file that is there
passes : (File → Bool) → Option File → Bool
passes test None = false
passes test (Some f) = test f

passes-there : (test : File → Bool) (o : Option File) (f : File) → passes test o ≡ true → o ≡ Some f → test f ≡ true
unfolding passes
passes-there test None f h e = apart (cc)
passes-there test (Some g) f h e = let q : g ≡ f = cc in subst (λ (x : File). test x ≡ true) q h

is-there : (test : File → Bool) (o : Option File) → passes test o ≡ true → There o
unfolding passes
is-there test None h = apart (cc)
is-there test (Some g) h = (g, refl)

readable : File → Bool
readable f = well_formed f.body

zero_readable : File → Bool
zero_readable f = is_accepted (read_zero f)

-- the checkpoint has a state, and so has the history, and the two agree
agreeing : Answer State → Answer State → Bool
agreeing (accepted s) (accepted t) = agree s t
agreeing (accepted s) (refused r) = false
agreeing (refused r) b = false

true_at : ℕ → File → Bool
true_at c f = agreeing (state_by log (Some (from_checkpoint f))) (state_by log (history_to log c))

agreeing-true : (c : ℕ) (f : File) → true_at c f ≡ true → IsTrue log c f
unfolding true_at agreeing
agreeing-true c f h = go (state_by log (Some (from_checkpoint f))) (state_by log (history_to log c)) refl refl h
  where
    go : (a b : Answer State) → state_by log (Some (from_checkpoint f)) ≡ a → state_by log (history_to log c) ≡ b → agreeing a b ≡ true → IsTrue log c f
    go (accepted s) (accepted t) e q h = record { own = s; history = t; own_read = e; history-read = q; same = agree-true s t h }
    go (accepted s) (refused r) e q h = apart (cc)
    go (refused r) b e q h = apart (cc)

-- ---- computed

readable-files : (passes zero_readable (log.version_file 0) ≡ true) × (passes readable (log.version_file 1) ≡ true)
    × (passes readable (log.version_file 2) ≡ true) × (passes (true_at 1) (log.checkpoint_file 1) ≡ true)
unfolding rules log files found whole Example.zero Example.one Example.checkpoint_at_one Example.two passes readable zero_readable is_accepted true_at agreeing
readable-files = (refl, refl, refl, refl)

history-files : (is_accepted (state_by log (history_to log 0)) ≡ true) × (is_accepted (state_by log (history_to log 1)) ≡ true)
    × (is_accepted (state_by log (history_to log 2)) ≡ true)
unfolding rules log files found whole Example.zero Example.one Example.checkpoint_at_one Example.two is_accepted
history-files = (refl, refl, refl)

small-files : any_too_large files ≡ false
unfolding rules files found whole Example.zero Example.one Example.checkpoint_at_one Example.two
small-files = refl

-- above version 2 there is no history
no-history : (v : ℕ) → 2 < v → state_by log (history_to log v) ≡ refused not_kept
unfolding state_within history_to by_file
no-history zero l = absurd (omega arith)
no-history (suc v) l =
    let z = is-there zero_readable (log.version_file 0) readable-files.0 in
    rw (z.1, no-version (suc v) l)

pub example-is-full : ExampleIsFull
unfolding log readable zero_readable
example-is-full = (
  files,
  bundle-files,
  record {
    all = all;
    nothing_above = λ w l. (no-version w l, no-checkpoint w (λ q. omega arith));
    none-too-large = small-files;
    zero-readable = λ f e. accepted-by (read_zero f) (passes-there zero_readable (log.version_file 0) f readable-files.0 e);
    others-readable = others-readable;
    checkpoints-true = checkpoints-true;
    none-foreign = none-foreign;
    never-over = never-over;
  },
)
  where
    all : (w : ℕ) → w ≤ 2 → There (log.version_file w)
    all zero l = is-there zero_readable (log.version_file 0) readable-files.0
    all (suc zero) l = is-there readable (log.version_file 1) readable-files.1
    all (suc (suc zero)) l = is-there readable (log.version_file 2) readable-files.2
    all (suc (suc (suc w))) l = absurd (omega arith)

    others-readable : (w : ℕ) (f : File) → log.version_file (suc w) ≡ Some f → well_formed f.body ≡ true
    others-readable zero f e = passes-there readable (log.version_file 1) f readable-files.1 e
    others-readable (suc zero) f e = passes-there readable (log.version_file 2) f readable-files.2 e
    others-readable (suc (suc w)) f e = let q : log.version_file (suc (suc (suc w))) ≡ None = no-version (suc (suc (suc w))) (omega arith) in apart (cc)

    checkpoints-true : (c : ℕ) (f : File) → log.checkpoint_file c ≡ Some f → IsTrue log c f
    checkpoints-true zero f e = let q : log.checkpoint_file zero ≡ None = no-checkpoint zero (λ q. omega arith) in apart (cc)
    checkpoints-true (suc zero) f e = agreeing-true 1 f (passes-there (true_at 1) (log.checkpoint_file 1) f readable-files.3 e)
    checkpoints-true (suc (suc c)) f e = let q : log.checkpoint_file (suc (suc c)) ≡ None = no-checkpoint (suc (suc c)) (λ q. omega arith) in apart (cc)

    none-foreign : (v e l : ℕ) → v ≤ 2 → state_by log (history_to log v) ≡ refused (foreign_keys e l) → ⊥
    none-foreign zero e l b h = never-refused (state_by log (history_to log 0)) (foreign_keys e l) history-files.0 h
    none-foreign (suc zero) e l b h = never-refused (state_by log (history_to log 1)) (foreign_keys e l) history-files.1 h
    none-foreign (suc (suc zero)) e l b h = never-refused (state_by log (history_to log 2)) (foreign_keys e l) history-files.2 h
    none-foreign (suc (suc (suc v))) e l b h = absurd (omega arith)

    never-over : (v e l : ℕ) → state_by log (history_to log v) ≡ refused (too_many_live e l) → ⊥
    never-over zero e l h = never-refused (state_by log (history_to log 0)) (too_many_live e l) history-files.0 h
    never-over (suc zero) e l h = never-refused (state_by log (history_to log 1)) (too_many_live e l) history-files.1 h
    never-over (suc (suc zero)) e l h = never-refused (state_by log (history_to log 2)) (too_many_live e l) history-files.2 h
    never-over (suc (suc (suc v))) e l h =
        let q : ◌≡◌ {A = ℕ} 5 7 = refused-number (sym (no-history (suc (suc (suc v))) (omega arith)) ∙ h) in
        omega arith

-- What each answer of the crate says, in the rules' terms.
use Rattle.std.specs.Prelude.{◌≡◌, Bool, true, false, List, [], ℕ, ◌+◌, ◌≤◌, ◌<◌, length}
use Rattle.rules.specs.Bundle.{File}
use Rattle.rules.specs.Json.Text.{Text}
use Rattle.rules.specs.Actions.{action}
use Rattle.rules.specs.Live.{put}
use Rattle.rules.specs.Refusals.{Answer, accepted, refused, ◌>>=◌, or_refuse, malformed}
use Rattle.rules.specs.History.{Origin, of_version, of_checkpoint, read_line}
use Rattle.rules.specs.Starts.{nothing_live}
use Rattle.rules.specs.History.{State as RuleState, Said as RuleSaid, say as rule_say}
use Rattle.row_table.specs.Table.{rows, Room, behind}
use Rattle.row_table.specs.declared.Cells.{Cells}
use Rattle.row_live.specs.Live.{places, key, Became}
use Rattle.refusals.specs.Numbered.{numbered}
use Rattle.log_replay.specs.Views.{state_of, said_of, Carries, Stated}
use Rattle.log_replay.specs.declared.State.{State}
use Rattle.std.specs.Prelude.{Option, Some, None, Result, Ok, Err}
use Rattle.row_live.specs.declared.Standing.{Standing}
use Rattle.refusals.specs.declared.Refusal.{Refusal}
use Rattle.log_replay.specs.declared.begin.Said.{Said}

-- t became t', in its first `limit` rows alone
pub record Left (limit : ℕ) (t t' : List ℕ) : Type 0 where
  pub rest : behind limit t' ≡ behind limit t
  pub length : length t' ≡ length t

-- and st is carried now
pub record Carried (src : Text) (limit : ℕ) (t : List ℕ) (st : State) (t' : List ℕ) : Type 0 where
  pub left : Left limit t t'
  pub carries : Carries src limit st t'

-- ---- one line

-- of the row c put into the n rows of t behind `base` others
abbrev pub PutIs : Text → Cells → (base n limit : ℕ) → List ℕ → List ℕ → Option Standing → Type 0
PutIs src c base n limit t t' (Some r) = Became src (put (key src) c (rows n (behind base t))) limit t r t'
PutIs src c base n limit t t' None = (length (put (key src) c (rows n (behind base t))) ≡ limit + 1) × (t' ≡ t)

-- of which files the adds are held to the partition columns
abbrev pub origin : (held : Bool) → Origin
origin true = of_version
origin false = of_checkpoint

-- of line k of entry e, which stands in src at `from`
abbrev pub LineIs : Text → (limit : ℕ) → (held : Bool) → (from : ℕ) → (line : Text) → (e k : ℕ) → State → List ℕ → List ℕ → Result State Refusal → Type 0
LineIs src limit held from line e k st t t' (Ok m) =
    (read_line limit (origin held) e k from line (state_of src st t) ≡ accepted (state_of src m t')) × Carried src limit t m t'
LineIs src limit held from line e k st t t' (Err x) =
    (read_line limit (origin held) e k from line (state_of src st t) ≡ refused (numbered x)) × (t' ≡ t)

-- ---- one file

-- a body, which stands at `from`, as that of entry number e; the rules look at no name and no time
unfoldable pub body_as : (entry from : ℕ) → Text → File
body_as e from body = record { entry = e; name = []; start = from; time = 0; body = body }

-- of a file, or the files of a way, which give o: the state, or the paper's refusal
abbrev pub OutcomeIs : Text → (limit : ℕ) → Answer RuleState → List ℕ → List ℕ → Result State Refusal → Type 0
OutcomeIs src limit o t t' (Ok m) = (o ≡ accepted (state_of src m t')) × Carried src limit t m t'
OutcomeIs src limit o t t' (Err x) = (o ≡ refused (numbered x)) × Left limit t t'

-- ---- version 0

-- behind so many free rows the first is put in
abbrev pub middle : ℕ
middle = 512

-- what version 0 says with the line l more, number k of entry e
unfoldable pub says : (e k : ℕ) → Text → RuleSaid → Answer RuleSaid
says e k l x = do
  a ← or_refuse (malformed e k) (action l)
  or_refuse (malformed e k) (rule_say a x)

abbrev pub SayingIs : Text → Answer RuleSaid → Result Said Refusal → Type 0
SayingIs src o (Ok m) = (o ≡ accepted (said_of src m)) × Stated src m
SayingIs src o (Err x) = o ≡ refused (numbered x)

-- of version 0, which gives o: a state with nothing live, carried by any table with room; or the paper's refusal
abbrev pub ZeroIs : Text → Answer RuleState → Result State Refusal → Type 0
ZeroIs src o (Ok st) =
    ((t : List ℕ) → o ≡ accepted (state_of src st t)) × (st.live ≡ 0)
    × ((limit : ℕ) (t : List ℕ) → length src < places → middle ≤ limit → Room limit t → Carries src limit st t)
ZeroIs src o (Err x) = o ≡ refused (numbered x)

-- what a checkpoint's lines are applied to, in the place of z
abbrev pub Renewed : State → State → Type 0
Renewed z r =
    ((src : Text) (t : List ℕ) → state_of src r t ≡ nothing_live)
    × ((src : Text) (limit : ℕ) (t : List ℕ) → Carries src limit z t → Carries src limit r t)

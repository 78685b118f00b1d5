-- Demand 2 of the cleaner: each refusal is given when its rule says so, and only then; and which files are named.
use Rattle.std.specs.Prelude.{◌≡◌, ◌⊎◌, ◌↔◌, List, [], ◌∷◌, ℕ, ◌-◌, ◌≤◌, ◌<◌}
use Rattle.std.specs.Prelude.{None, Some}
use Rattle.rules.specs.Bytes.{Bytes}
use Rattle.rules.specs.Bundle.{File, bundle}
use Rattle.rules.specs.Names.{version, name_of}
use Rattle.rules.specs.Actions.{Protocol}
use Rattle.rules.specs.Live.{most_live}
use Rattle.rules.specs.History.{State, of_checkpoint, read_zero, read_file}
use Rattle.rules.specs.Starts.{Log, log_of, start_at, Way, other_way_to, nothing_live, follow}
use Rattle.rules.specs.Marker.{marked}
use Rattle.rules.specs.Gate.{known_reader, known_writer, reader_names, writer_names}
use Rattle.rules.specs.Rooms.{rows_room, names_room}
use Rattle.rules.specs.Cleaning.{named, Lent, cleaning}
use Rattle.rules.specs.Same.{SameState}
use Rattle.rules.specs.Refusals.{Refusal, accepted, refused, room_too_short, bundle_malformed, version_too_large, no_version_zero}
use Rattle.rules.specs.Refusals.{malformed, foreign_keys, too_many_live, reader_too_high, unknown_feature, not_writable, checkpoint_disagrees}
use Rattle.demands.specs.Reaching.{Reaches, IsOther}
use Rattle.demands.specs.Met.{Unknown, MetIn, MetInZero, MetOn}
use Rattle.demands.specs.Exactly.{SomeTooLarge, Readable}

-- ---- the paper's words

abbrev pub Enough : Lent → Type 0
Enough lent = (names_room ≤ lent.names) × (rows_room ≤ lent.table₁) × (rows_room ≤ lent.table₂)

-- minWriterVersion above 3, or a writer feature that is unknown
abbrev pub NotWritable : Protocol → Type 0
NotWritable p = (known_writer < p.min_writer_version) ⊎ Unknown writer_names p.writer_features

-- no start other than the checkpoint at c reaches c
abbrev pub NoOther : Log → ℕ → Type 0
NoOther log c = (s : ℕ) → IsOther log c s → Reaches log s c → ⊥

-- no usable marker names nothing; nor does one whose checkpoint no other start reaches
abbrev pub NothingToName : Log → Type 0
NothingToName log = (marked log ≡ None) ⊎ ((c : ℕ) × (marked log ≡ Some c) × NoOther log c)

-- ---- cleaning, as far as it has come

-- the rooms are long enough, the bundle is well formed, no version is too large, version file 0 is there
pub record Begun (lent : Lent) (s : Bytes) : Type 0 where
  pub fs : List File
  pub zero : File
  pub long : Enough lent
  pub bundle-read : bundle s ≡ Some fs
  pub none-large : SomeTooLarge fs → ⊥
  pub zero-there : (log_of fs).version_file 0 ≡ Some zero

-- the marker is usable, its checkpoint is at c, and the highest other start's way leads to c
pub record Comparing (lent : Lent) (s : Bytes) : Type 0 where
  pub begun : Begun lent s
  pub c : ℕ
  pub checkpoint : File
  pub way : Way
  pub marked-there : marked (log_of begun.fs) ≡ Some c
  pub checkpoint-there : start_at (log_of begun.fs) c ≡ Some checkpoint
  pub way-there : other_way_to (log_of begun.fs) c ≡ Some way

-- the first line met that is refused: version 0, then the checkpoint, then the other way is read
pub data MetComparing (zero-file checkpoint : File) (w : Way) : Refusal → Type 0 where
  in-zero : {r : Refusal} → MetInZero zero-file r → MetComparing zero-file checkpoint w r
  in-checkpoint : {r : Refusal} (z : State) → read_zero zero-file ≡ accepted z → MetIn of_checkpoint checkpoint nothing_live r
      → MetComparing zero-file checkpoint w r
  on-way : {r : Refusal} (z mine : State) → read_zero zero-file ≡ accepted z → read_file most_live of_checkpoint checkpoint nothing_live ≡ accepted mine
      → MetOn z w r → MetComparing zero-file checkpoint w r

-- no line met is refused: there are two states, the checkpoint's and the other's
pub record Compared (lent : Lent) (s : Bytes) : Type 0 where
  pub comparing : Comparing lent s
  pub z : State
  pub mine : State
  pub theirs : State
  pub zero-read : read_zero comparing.begun.zero ≡ accepted z
  pub mine-read : read_file most_live of_checkpoint comparing.checkpoint nothing_live ≡ accepted mine
  pub theirs-read : follow most_live z comparing.way ≡ accepted theirs

-- ---- cleaning

pub record CleaningExactly (lent : Lent) (s : Bytes) (now retention : ℕ) : Type 0 where
  pub no-1 : (cleaning lent s now retention ≡ refused room_too_short) ↔ (Enough lent → ⊥)
  pub no-2 : (cleaning lent s now retention ≡ refused bundle_malformed) ↔ (Enough lent × (bundle s ≡ None))
  pub no-3 : (cleaning lent s now retention ≡ refused version_too_large) ↔ (Enough lent × ((fs : List File) × (bundle s ≡ Some fs) × SomeTooLarge fs))
  pub no-4 : (cleaning lent s now retention ≡ refused no_version_zero)
      ↔ (Enough lent × ((fs : List File) × (bundle s ≡ Some fs) × (SomeTooLarge fs → ⊥) × ((log_of fs).version_file 0 ≡ None)))
  pub no-6 : (e l : ℕ) → (cleaning lent s now retention ≡ refused (malformed e l))
      ↔ ((c : Comparing lent s) × MetComparing c.begun.zero c.checkpoint c.way (malformed e l))
  pub no-21 : (e l : ℕ) → (cleaning lent s now retention ≡ refused (foreign_keys e l))
      ↔ ((c : Comparing lent s) × MetComparing c.begun.zero c.checkpoint c.way (foreign_keys e l))
  pub no-7 : (e l : ℕ) → (cleaning lent s now retention ≡ refused (too_many_live e l))
      ↔ ((c : Comparing lent s) × MetComparing c.begun.zero c.checkpoint c.way (too_many_live e l))
  pub no-8 : (cleaning lent s now retention ≡ refused reader_too_high) ↔ ((c : Compared lent s) × (known_reader < c.mine.in_force.min_reader_version))
  pub no_9 : (cleaning lent s now retention ≡ refused unknown_feature)
      ↔ ((c : Compared lent s) × (c.mine.in_force.min_reader_version ≤ known_reader) × Unknown reader_names c.mine.in_force.reader_features)
  pub no-12 : (cleaning lent s now retention ≡ refused not_writable) ↔ ((c : Compared lent s) × Readable c.mine.in_force × NotWritable c.mine.in_force)
  pub no-13 : (cleaning lent s now retention ≡ refused checkpoint_disagrees)
      ↔ ((c : Compared lent s) × Readable c.mine.in_force × (NotWritable c.mine.in_force → ⊥) × (SameState c.mine c.theirs → ⊥))
  -- accepted: nothing to name, or what is named
  pub no-0 : (es : List ℕ) → (cleaning lent s now retention ≡ accepted es)
      ↔ (((b : Begun lent s) × NothingToName (log_of b.fs) × ([] ≡ es))
      ⊎ ((c : Compared lent s) × Readable c.mine.in_force × (NotWritable c.mine.in_force → ⊥) × SameState c.mine c.theirs
      × (named c.comparing.c now retention c.comparing.begun.fs ≡ es)))

abbrev pub CleaningRefusesExactly : Type 0
CleaningRefusesExactly = (lent : Lent) (s : Bytes) (now retention : ℕ) → CleaningExactly lent s now retention

-- ---- named are version files w, 0 < w < c, with now - modified > retention and now >= modified

abbrev pub IsNamed : (c now retention : ℕ) → File → Type 0
IsNamed c now retention f = ((w : ℕ) × (name_of f.name ≡ version w) × (0 < w) × (w < c)) × (f.time ≤ now) × (retention < now - f.time)

-- the entry numbers of those that are so, in the files' order, each once
pub data Names (c now retention : ℕ) : List File → List ℕ → Type 0 where
  no_more : Names c now retention [] []
  names : {f : File} {fs : List File} {es : List ℕ} → IsNamed c now retention f → Names c now retention fs es → Names c now retention (f ∷ fs) (f.entry ∷ es)
  passes : {f : File} {fs : List File} {es : List ℕ} → (IsNamed c now retention f → ⊥) → Names c now retention fs es → Names c now retention (f ∷ fs) es

abbrev pub NamedExactly : Type 0
NamedExactly = (c now retention : ℕ) (fs : List File) → Names c now retention fs (named c now retention fs)

-- Behind the test of the room nothing is refused by number 1: so the room holds what it must, whatever was written before.
use mathlib.Core.Path.{◌≡◌, subst}
use mathlib.Core.Bool.{Bool, true, false}
use Rattle.std.specs.Prelude.{Option, None, Some}
use mathlib.Core.List.{List, [], ◌∷◌, map}
use Prim.Native.Nat.{ℕ, suc, ◌+◌}
use native.Mathlib.Omega.{arith}
use lib.Dec.{leb}
use lib.ListN.{length}
use Rattle.rules.specs.Bytes.{Bytes, all_among}
use Rattle.rules.specs.Bundle.{File}
use Rattle.rules.specs.Lines.{lines, any_object}
use Rattle.rules.specs.Actions.{Action, action}
use Rattle.rules.specs.Live.{most_live}
use Rattle.rules.specs.Gate.{gate, known_reader, reader_names, writable}
use Rattle.rules.specs.Query.{Condition, column_of}
use Rattle.rules.specs.Picking.{picked, in_range_all}
use Rattle.rules.specs.Refusals.{Refusal, Answer, accepted, refused, ◌>>=◌, or_refuse, require}
use Rattle.rules.specs.Refusals.{malformed, foreign_keys, too_many_live, reader_too_high, unknown_feature}
use Rattle.rules.specs.Refusals.{no_such_column, value_out_of_range, no_version_zero, not_kept}
use Rattle.rules.specs.History.{State, Origin, of_version, of_checkpoint, fits, Said, effect, within_limit, act}
use Rattle.rules.specs.History.{read_line, read_lines, read_file, said_nothing, say, zero_lines, or_unstated, read_zero}
use Rattle.rules.specs.Starts.{Log, Way, from_zero, from_checkpoint, and_then, nothing_live, follow}
use Rattle.rules.specs.Reading.{Listing, state_within, state_by, listing}

-- an answer of any kind that is not refusal 1, after which alone the room is untouched
unfoldable pub Later : {A : Type 0} → Answer A → Type 0
Later (accepted a) = Unit {0}
Later (refused r) = r.number ≡ 1 → ⊥

-- ---- answers made of others

later-bind : {A B : Type 0} (a : Answer A) (f : A → Answer B) → Later a → ((x : A) → Later (f x)) → Later (a >>= f)
unfolding Later
later-bind (accepted x) f p q = q x
later-bind (refused r) f p q = p

later-or_refuse : {A : Type 0} (r : Refusal) (o : Option A) → (r.number ≡ 1 → ⊥) → Later (or_refuse r o)
unfolding Later
later-or_refuse r None h = h
later-or_refuse r (Some a) h = tt

later-require : (r : Refusal) (b : Bool) → (r.number ≡ 1 → ⊥) → Later (require r b)
unfolding Later
later-require r true h = tt
later-require r false h = h

later-accepted : {A : Type 0} (a : A) → Later (accepted a)
unfolding Later
later-accepted a = tt

-- ---- lines and files

module _ (limit : ℕ) where
  later-within_limit : (e k : ℕ) (st : State) → Later (within_limit limit e k st)
  unfolding within_limit
  later-within_limit e k st =
      later-bind (require (too_many_live e k) (leb (length st.live) limit)) (λ _. accepted st)
      (later-require (too_many_live e k) (leb (length st.live) limit) (λ n. omega arith))
      (λ _. later-accepted st)

  later-act : (of : Origin) (e k at size : ℕ) (a : Action) (st : State) → Later (act limit of e k at size a st)
  unfolding act
  later-act of e k at size a st =
      later-bind (require (foreign_keys e k) (fits of a st.table)) (λ _. within_limit limit e k (effect at size a st))
      (later-require (foreign_keys e k) (fits of a st.table) (λ n. omega arith))
      (λ _. later-within_limit e k (effect at size a st))

  later-read_line : (of : Origin) (e k at : ℕ) (l : Bytes) (st : State) → Later (read_line limit of e k at l st)
  unfolding read_line
  later-read_line of e k at [] st = later-accepted st
  later-read_line of e k at (b ∷ bs) st =
      later-bind (or_refuse (malformed e k) (action (b ∷ bs))) (λ a. act limit of e k at (length (b ∷ bs)) a st)
      (later-or_refuse (malformed e k) (action (b ∷ bs)) (λ n. omega arith))
      (λ a. later-act of e k at (length (b ∷ bs)) a st)

  later-read_lines : (of : Origin) (e k at : ℕ) (ls : List Bytes) (st : State) → Later (read_lines limit of e k at ls st)
  unfolding read_lines
  later-read_lines of e k at [] st = later-accepted st
  later-read_lines of e k at (l ∷ ls) st =
      later-bind (read_line limit of e k at l st) (λ next. read_lines limit of e (suc k) (at + length l + 1) ls next)
      (later-read_line of e k at l st)
      (λ next. later-read_lines of e (suc k) (at + length l + 1) ls next)

  pub later-read_file : (of : Origin) (f : File) (st : State) → Later (read_file limit of f st)
  unfolding read_file
  later-read_file of f st =
      later-bind (read_lines limit of f.entry 1 f.start (lines f.body) st)
      (λ next. require (malformed f.entry 0) (any_object (lines f.body)) >>= (λ _. accepted next))
      (later-read_lines of f.entry 1 f.start (lines f.body) st)
      (λ next. later-bind (require (malformed f.entry 0) (any_object (lines f.body))) (λ _. accepted next)
      (later-require (malformed f.entry 0) (any_object (lines f.body)) (λ n. omega arith))
      (λ _. later-accepted next))

  pub later-follow : (z : State) (w : Way) → Later (follow limit z w)
  unfolding follow
  later-follow z from_zero = later-accepted z
  later-follow z (from_checkpoint f) = later-read_file of_checkpoint f nothing_live
  later-follow z (and_then w g) =
      later-bind (follow limit z w) (λ st. read_file limit of_version g st) (later-follow z w) (λ st. later-read_file of_version g st)

later-zero_lines : (e k : ℕ) (ls : List Bytes) (s : Said) → Later (zero_lines e k ls s)
unfolding zero_lines
later-zero_lines e k [] s = later-accepted s
later-zero_lines e k ([] ∷ ls) s = later-zero_lines e (suc k) ls s
later-zero_lines e k ((b ∷ bs) ∷ ls) s =
    later-bind (or_refuse (malformed e k) (action (b ∷ bs))) (λ a. or_refuse (malformed e k) (say a s) >>= (λ next. zero_lines e (suc k) ls next))
    (later-or_refuse (malformed e k) (action (b ∷ bs)) (λ n. omega arith))
    (λ a. later-bind (or_refuse (malformed e k) (say a s)) (λ next. zero_lines e (suc k) ls next)
    (later-or_refuse (malformed e k) (say a s) (λ n. omega arith))
    (λ next. later-zero_lines e (suc k) ls next))

pub later-read_zero : (f : File) → Later (read_zero f)
unfolding read_zero
later-read_zero f =
    later-bind (zero_lines f.entry 1 (lines f.body) said_nothing)
    (λ s. or_refuse (malformed f.entry 0) s.of_table >>= (λ m. accepted (record { table = m; in_force = or_unstated s.of_protocol; live = [] })))
    (later-zero_lines f.entry 1 (lines f.body) said_nothing)
    (λ s. later-bind (or_refuse (malformed f.entry 0) s.of_table) (λ m. accepted (record { table = m; in_force = or_unstated s.of_protocol; live = [] }))
    (later-or_refuse (malformed f.entry 0) s.of_table (λ n. omega arith))
    (λ m. later-accepted (record { table = m; in_force = or_unstated s.of_protocol; live = [] })))

-- ---- a version

later-state : (log : Log) (way : Option Way) → Later (state_by log way)
unfolding state_within
later-state log way =
    later-bind (or_refuse no_version_zero (log.version_file 0)) (λ f. or_refuse not_kept way >>= (λ w. read_zero f >>= (λ z. follow most_live z w)))
    (later-or_refuse no_version_zero (log.version_file 0) (λ n. omega arith))
    (λ f. later-bind (or_refuse not_kept way) (λ w. read_zero f >>= (λ z. follow most_live z w))
    (later-or_refuse not_kept way (λ n. omega arith))
    (λ w. later-bind (read_zero f) (λ z. follow most_live z w) (later-read_zero f) (λ z. later-follow most_live z w)))

later-gate : (st : State) → Later (gate st.in_force)
unfolding gate
later-gate st =
    later-bind (require reader_too_high (leb st.in_force.min_reader_version known_reader))
    (λ _. require unknown_feature (all_among reader_names st.in_force.reader_features))
    (later-require reader_too_high (leb st.in_force.min_reader_version known_reader) (λ n. omega arith))
    (λ _. later-require unknown_feature (all_among reader_names st.in_force.reader_features) (λ n. omega arith))

pub later-listing : (cs : List Condition) (v : ℕ) (st : State) → Later (listing cs v st)
unfolding listing
later-listing cs v st =
    let l : Listing = record { version = v; table = st.table; in_force = st.in_force; can_write = writable st.in_force; rows = picked cs st.live } in
    let ranged : Answer Listing = require value_out_of_range (in_range_all cs st.live) >>= (λ _. accepted l) in
    later-bind (gate st.in_force) (λ _. require no_such_column (all_among st.table.partition_columns (map column_of cs)) >>= (λ _. ranged))
    (later-gate st)
    (λ _. later-bind (require no_such_column (all_among st.table.partition_columns (map column_of cs))) (λ _. ranged)
    (later-require no_such_column (all_among st.table.partition_columns (map column_of cs)) (λ n. omega arith))
    (λ _. later-bind (require value_out_of_range (in_range_all cs st.live)) (λ _. accepted l)
    (later-require value_out_of_range (in_range_all cs st.live) (λ n. omega arith))
    (λ _. later-accepted l)))

-- a refusal of the state
pub later-refused : (log : Log) (way : Option Way) {r : Refusal} → state_by log way ≡ refused r → r.number ≡ 1 → ⊥
unfolding Later
later-refused log way e = subst Later e (later-state log way)

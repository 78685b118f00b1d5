-- Demand 1: every step of an entry ends with an answer or with a refusal of its list.
use mathlib.Core.Path.{◌≡◌, refl, subst}
use mathlib.Core.Logic.{◌⊎◌, inl, inr}
use mathlib.Core.Bool.{Bool, true, false, not}
use Rattle.std.specs.Prelude.{Option, None, Some}
use mathlib.Core.List.{List, [], ◌∷◌, map}
use Prim.Native.Nat.{ℕ, suc, ◌+◌}
use lib.Dec.{eqb, leb}
use lib.ListN.{length}
use borrow.Author.Tests.{eqb-true, eq-eqb}
use Rattle.rules.specs.Bytes.{Bytes, all_among}
use Rattle.rules.specs.Bundle.{File, bundle}
use Rattle.rules.specs.Names.{any_too_large}
use Rattle.rules.specs.Lines.{lines, any_object}
use Rattle.rules.specs.Actions.{Protocol, Action, action}
use Rattle.rules.specs.Live.{most_live}
use Rattle.rules.specs.History.{State, Origin, of_version, of_checkpoint, fits, Said, effect, within_limit, act}
use Rattle.rules.specs.History.{read_line, read_lines, read_file, said_nothing, say, zero_lines, or_unstated, read_zero}
use Rattle.rules.specs.Starts.{Log, log_of, start_at, Way, from_zero, from_checkpoint, and_then, way_to, other_way_to, nothing_live, follow}
use Rattle.rules.specs.Marker.{marked}
use Rattle.rules.specs.Gate.{known_reader, reader_names, gate, writable}
use Rattle.rules.specs.Query.{Condition, column_of, query}
use Rattle.rules.specs.Picking.{in_range_all}
use Rattle.rules.specs.Manifests.{manifests, most_manifests}
use Rattle.rules.specs.Rooms.{rows_room, kept_room, counted}
use Rattle.rules.specs.Reading.{version_asked, Listing, told, state_by, listing, listing_at, reading, state_within, listing_within}
use Rattle.rules.specs.Keeping.{keeping}
use Rattle.rules.specs.Agreement.{agree}
use Rattle.rules.specs.Cleaning.{named, compared, cleaned_by, cleaned_at, enough, cleaning}
use Rattle.rules.specs.Refusals.{Refusal, Answer, accepted, refused, ◌>>=◌, or_refuse, require, plain, room_too_short, bundle_malformed, version_too_large}
use Rattle.rules.specs.Refusals.{no_version_zero, not_kept, malformed, foreign_keys, too_many_live}
use Rattle.rules.specs.Refusals.{reader_too_high, unknown_feature, query_malformed, no_such_column}
use Rattle.rules.specs.Refusals.{value_out_of_range}
use Rattle.rules.specs.Refusals.{not_writable, checkpoint_disagrees, state_malformed, too_many_manifests}
use Rattle.rules.proofs.Tests.{apart, true-not-false}
use Rattle.rules.proofs.Answers.{refused-number}
use Rattle.demands.specs.Removed.{In}
use Rattle.demands.specs.Ending.{OneOf, Ends, answered, refused-by, ReadingEnds, KeepingEnds, CleaningEnds}

-- ---- a number that stands in a list

unfoldable pub is_in : ℕ → List ℕ → Bool
is_in n [] = false
is_in n (k ∷ ks) = elim (eqb n k) [ true ↦ true | false ↦ is_in n ks ]

is_in-in : (n : ℕ) (ks : List ℕ) → is_in n ks ≡ true → In n ks
unfolding is_in
is_in-in n [] h = apart (cc)
is_in-in n (k ∷ ks) h = go (eqb n k) refl h (is_in-in n ks)
  where
    go : (b : Bool) → eqb n k ≡ b → elim b [ true ↦ true | false ↦ is_in n ks ] ≡ true → (is_in n ks ≡ true → In n ks) → (n ≡ k) ⊎ In n ks
    go true e h ih = inl (eqb-true n k e)
    go false e h ih = inr (ih h)

in-is_in : (n : ℕ) (ks : List ℕ) → In n ks → is_in n ks ≡ true
unfolding is_in
in-is_in n [] i = absurd i
in-is_in n (k ∷ ks) (inl e) = rw (is_in, eq-eqb n k e)
in-is_in n (k ∷ ks) (inr i) = go (eqb n k) (in-is_in n ks i)
  where
    go : (b : Bool) → is_in n ks ≡ true → elim b [ true ↦ true | false ↦ is_in n ks ] ≡ true
    go true e = refl
    go false e = e

-- a number that is not listed is never given
pub never-refused : {A : Type 0} {ks : List ℕ} {o : Answer A} (r : Refusal) → is_in r.number ks ≡ false → Ends ks o → o ≡ refused r → ⊥
never-refused r h (answered a) e = apart (cc)
never-refused {ks = ks} r h (refused-by s l) e = true-not-false (in-is_in r.number ks (subst (λ (n : ℕ). In n ks) (refused-number e) l.listed)) h

-- ---- steps

module _ (numbers : List ℕ) where
  plain-listed : (k : ℕ) → is_in k numbers ≡ true → OneOf numbers (plain k)
  plain-listed k h = record { listed = is_in-in k numbers h; else-zero = λ _ _ _. (refl, refl) }

  malformed-listed : (e l : ℕ) → is_in 6 numbers ≡ true → OneOf numbers (malformed e l)
  malformed-listed e l h = record { listed = is_in-in 6 numbers h; else-zero = λ f _ _. absurd (f refl) }

  too_many-listed : (e l : ℕ) → is_in 7 numbers ≡ true → OneOf numbers (too_many_live e l)
  too_many-listed e l h = record { listed = is_in-in 7 numbers h; else-zero = λ _ f _. absurd (f refl) }

  foreign-listed : (e l : ℕ) → is_in 21 numbers ≡ true → OneOf numbers (foreign_keys e l)
  foreign-listed e l h = record { listed = is_in-in 21 numbers h; else-zero = λ _ _ f. absurd (f refl) }

  ends-bind : {A B : Type 0} {a : Answer A} (f : A → Answer B) → Ends numbers a → ((x : A) → Ends numbers (f x)) → Ends numbers (a >>= f)
  ends-bind f (answered a) h = h a
  ends-bind f (refused-by r o) h = refused-by r o

  ends-require : (r : Refusal) (b : Bool) → OneOf numbers r → Ends numbers (require r b)
  ends-require r true o = answered tt
  ends-require r false o = refused-by r o

  ends-or_refuse : {A : Type 0} (r : Refusal) (o : Option A) → OneOf numbers r → Ends numbers (or_refuse r o)
  ends-or_refuse r None o = refused-by r o
  ends-or_refuse r (Some a) o = answered a

  -- ---- reading lines, files and ways

  module _ (six : is_in 6 numbers ≡ true) (foreign : is_in 21 numbers ≡ true) (seven : is_in 7 numbers ≡ true) where
    within_limit-ends : (limit e k : ℕ) (st : State) → Ends numbers (within_limit limit e k st)
    unfolding within_limit
    within_limit-ends limit e k st =
        ends-bind (λ _. accepted st) (ends-require (too_many_live e k) (leb (length st.live) limit) (too_many-listed e k seven)) (λ _. answered st)

    act-ends : (limit : ℕ) (of : Origin) (e k at size : ℕ) (a : Action) (st : State) → Ends numbers (act limit of e k at size a st)
    unfolding act
    act-ends limit of e k at size a st =
        ends-bind (λ _. within_limit limit e k (effect at size a st))
        (ends-require (foreign_keys e k) (fits of a st.table) (foreign-listed e k foreign))
        (λ _. within_limit-ends limit e k (effect at size a st))

    read_line-ends : (limit : ℕ) (of : Origin) (e k at : ℕ) (l : Bytes) (st : State) → Ends numbers (read_line limit of e k at l st)
    unfolding read_line
    read_line-ends limit of e k at [] st = answered st
    read_line-ends limit of e k at (b ∷ bs) st =
        ends-bind (λ a. act limit of e k at (length (b ∷ bs)) a st) (ends-or_refuse (malformed e k) (action (b ∷ bs)) (malformed-listed e k six))
        (λ a. act-ends limit of e k at (length (b ∷ bs)) a st)

    read_lines-ends : (limit : ℕ) (of : Origin) (e k at : ℕ) (ls : List Bytes) (st : State) → Ends numbers (read_lines limit of e k at ls st)
    unfolding read_lines
    read_lines-ends limit of e k at [] st = answered st
    read_lines-ends limit of e k at (l ∷ ls) st =
        ends-bind
        (λ next. read_lines limit of e (suc k) (at + length l + 1) ls next)
        (read_line-ends limit of e k at l st)
        (λ next. read_lines-ends limit of e (suc k) (at + length l + 1) ls next)

    read_file-ends : (limit : ℕ) (of : Origin) (f : File) (st : State) → Ends numbers (read_file limit of f st)
    unfolding read_file
    read_file-ends limit of f st =
        ends-bind
        (λ next. require (malformed f.entry 0) (any_object (lines f.body)) >>= (λ _. accepted next))
        (read_lines-ends limit of f.entry 1 f.start (lines f.body) st)
        (λ next. ends-bind (λ _. accepted next) (ends-require (malformed f.entry 0) (any_object (lines f.body)) (malformed-listed f.entry 0 six))
        (λ _. answered next))

    zero_lines-ends : (e k : ℕ) (ls : List Bytes) (s : Said) → Ends numbers (zero_lines e k ls s)
    unfolding zero_lines
    zero_lines-ends e k [] s = answered s
    zero_lines-ends e k ([] ∷ ls) s = zero_lines-ends e (suc k) ls s
    zero_lines-ends e k ((b ∷ bs) ∷ ls) s =
        ends-bind
        (λ a. or_refuse (malformed e k) (say a s) >>= (λ next. zero_lines e (suc k) ls next))
        (ends-or_refuse (malformed e k) (action (b ∷ bs)) (malformed-listed e k six))
        (λ a. ends-bind (λ next. zero_lines e (suc k) ls next) (ends-or_refuse (malformed e k) (say a s) (malformed-listed e k six))
        (λ next. zero_lines-ends e (suc k) ls next))

    read_zero-ends : (f : File) → Ends numbers (read_zero f)
    unfolding read_zero
    read_zero-ends f =
        ends-bind
        (λ s. or_refuse (malformed f.entry 0) s.of_table >>= (λ m. accepted (record { table = m; in_force = or_unstated s.of_protocol; live = [] })))
        (zero_lines-ends f.entry 1 (lines f.body) said_nothing)
        (λ s. ends-bind (λ m. accepted (record { table = m; in_force = or_unstated s.of_protocol; live = [] }))
        (ends-or_refuse (malformed f.entry 0) s.of_table (malformed-listed f.entry 0 six)) (λ m. answered _))

    follow-ends : (limit : ℕ) (z : State) (w : Way) → Ends numbers (follow limit z w)
    unfolding follow
    follow-ends limit z from_zero = answered z
    follow-ends limit z (from_checkpoint f) = read_file-ends limit of_checkpoint f nothing_live
    follow-ends limit z (and_then w g) = ends-bind (λ st. read_file limit of_version g st) (follow-ends limit z w) (λ st. read_file-ends limit of_version g st)

  gate-ends : is_in 8 numbers ≡ true → is_in 9 numbers ≡ true → (p : Protocol) → Ends numbers (gate p)
  unfolding gate
  gate-ends eight nine p =
      ends-bind
      (λ _. require unknown_feature (all_among reader_names p.reader_features))
      (ends-require reader_too_high (leb p.min_reader_version known_reader) (plain-listed 8 eight))
      (λ _. ends-require unknown_feature (all_among reader_names p.reader_features) (plain-listed 9 nine))

-- ---- reading

for_reading : List ℕ
for_reading = 1 ∷ 10 ∷ 2 ∷ 3 ∷ 4 ∷ 5 ∷ 6 ∷ 21 ∷ 7 ∷ 8 ∷ 9 ∷ 11 ∷ 18 ∷ []

listing-ends : (cs : List Condition) (v : ℕ) (st : State) → Ends for_reading (listing cs v st)
unfolding listing is_in for_reading
listing-ends cs v st =
    ends-bind for_reading _ (gate-ends for_reading refl refl st.in_force)
    (λ _. ends-bind for_reading _
    (ends-require for_reading no_such_column (all_among st.table.partition_columns (map column_of cs)) (plain-listed for_reading 11 refl))
    (λ _. ends-bind for_reading _ (ends-require for_reading value_out_of_range (in_range_all cs st.live) (plain-listed for_reading 18 refl)) (λ _. answered _)))

state_by-ends : (log : Log) (way : Option Way) → Ends for_reading (state_by log way)
unfolding state_within is_in for_reading
state_by-ends log way =
    ends-bind for_reading _ (ends-or_refuse for_reading no_version_zero (log.version_file 0) (plain-listed for_reading 4 refl))
    (λ f. ends-bind for_reading _ (ends-or_refuse for_reading not_kept way (plain-listed for_reading 5 refl))
    (λ w. ends-bind for_reading _ (read_zero-ends for_reading refl refl refl f) (λ z. follow-ends for_reading refl refl refl most_live z w)))

pub reading-ends : ReadingEnds
unfolding reading listing_at listing_within is_in for_reading
reading-ends room s q asked =
    ends-bind for_reading _ (ends-require for_reading room_too_short (leb rows_room room) (plain-listed for_reading 1 refl))
    (λ _. ends-bind for_reading _ (ends-or_refuse for_reading query_malformed (query q) (plain-listed for_reading 10 refl))
    (λ cs. ends-bind for_reading _ (ends-or_refuse for_reading bundle_malformed (bundle s) (plain-listed for_reading 2 refl))
    (λ fs. ends-bind for_reading _ (ends-require for_reading version_too_large (not (any_too_large fs)) (plain-listed for_reading 3 refl))
    (λ _. ends-bind for_reading _ (state_by-ends (log_of fs) (way_to (log_of fs) (version_asked asked (log_of fs))))
    (λ st. listing-ends cs (version_asked asked (log_of fs)) st)))))

-- ---- keeping

for_keeping : List ℕ
for_keeping = 1 ∷ 10 ∷ 14 ∷ 15 ∷ []

pub keeping-ends : KeepingEnds
unfolding keeping is_in for_keeping
keeping-ends room state q =
    ends-bind for_keeping _ (ends-require for_keeping room_too_short (leb kept_room room) (plain-listed for_keeping 1 refl))
    (λ _. ends-bind for_keeping _ (ends-or_refuse for_keeping query_malformed (query q) (plain-listed for_keeping 10 refl))
    (λ cs. ends-bind for_keeping _ (ends-or_refuse for_keeping state_malformed (manifests state) (plain-listed for_keeping 14 refl))
    (λ ms. ends-bind for_keeping _ (ends-require for_keeping too_many_manifests (leb (length ms) most_manifests) (plain-listed for_keeping 15 refl))
    (λ _. answered _))))

-- ---- cleaning

for_cleaning : List ℕ
for_cleaning = 1 ∷ 2 ∷ 3 ∷ 4 ∷ 6 ∷ 21 ∷ 7 ∷ 8 ∷ 9 ∷ 12 ∷ 13 ∷ []

compared-ends : (zf f : File) (w : Way) → Ends for_cleaning (compared zf f w)
unfolding compared is_in for_cleaning
compared-ends zf f w =
    ends-bind for_cleaning _ (read_zero-ends for_cleaning refl refl refl zf)
    (λ z. ends-bind for_cleaning _ (read_file-ends for_cleaning refl refl refl most_live of_checkpoint f nothing_live)
    (λ mine. ends-bind for_cleaning _ (follow-ends for_cleaning refl refl refl most_live z w)
    (λ theirs. ends-bind for_cleaning _ (gate-ends for_cleaning refl refl mine.in_force)
    (λ _. ends-bind for_cleaning _ (ends-require for_cleaning not_writable (writable mine.in_force) (plain-listed for_cleaning 12 refl))
    (λ _. ends-require for_cleaning checkpoint_disagrees (agree mine theirs) (plain-listed for_cleaning 13 refl))))))

cleaned_by-ends : (zf : File) (o : Option File) (w : Option Way) (es : List ℕ) → Ends for_cleaning (cleaned_by zf o w es)
unfolding cleaned_by
cleaned_by-ends zf None w es = answered []
cleaned_by-ends zf (Some f) None es = answered []
cleaned_by-ends zf (Some f) (Some w) es = ends-bind for_cleaning _ (compared-ends zf f w) (λ _. answered es)

cleaned_at-ends : (o : Option ℕ) (zf : File) (now retention : ℕ) (fs : List File) → Ends for_cleaning (cleaned_at o zf now retention fs)
unfolding cleaned_at
cleaned_at-ends None zf now retention fs = answered []
cleaned_at-ends (Some c) zf now retention fs = cleaned_by-ends zf (start_at (log_of fs) c) (other_way_to (log_of fs) c) (named c now retention fs)

pub cleaning-ends : CleaningEnds
unfolding cleaning is_in for_cleaning
cleaning-ends lent s now retention =
    ends-bind for_cleaning _ (ends-require for_cleaning room_too_short (enough lent) (plain-listed for_cleaning 1 refl))
    (λ _. ends-bind for_cleaning _ (ends-or_refuse for_cleaning bundle_malformed (bundle s) (plain-listed for_cleaning 2 refl))
    (λ fs. ends-bind for_cleaning _ (ends-require for_cleaning version_too_large (not (any_too_large fs)) (plain-listed for_cleaning 3 refl))
    (λ _. ends-bind for_cleaning _ (ends-or_refuse for_cleaning no_version_zero ((log_of fs).version_file 0) (plain-listed for_cleaning 4 refl))
    (λ zf. cleaned_at-ends (marked (log_of fs)) zf now retention fs))))

-- ---- what is told of them ends as they do

pub ends-told : {numbers : List ℕ} {o : Answer Listing} → Ends numbers o → Ends numbers (told o)
unfolding told
ends-told (answered l) = answered _
ends-told (refused-by r h) = refused-by r h

pub ends-counted : {numbers : List ℕ} {o : Answer (List ℕ)} → Ends numbers o → Ends numbers (counted o)
unfolding counted
ends-counted (answered ns) = answered _
ends-counted (refused-by r h) = refused-by r h

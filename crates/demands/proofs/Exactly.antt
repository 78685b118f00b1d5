-- Demand 2 of reading and keeping: one condition holds for every input, each gives its refusal, and no two are the same refusal.
use mathlib.Core.Path.{◌≡◌, refl, sym, ◌∙◌, ap, subst}
use mathlib.Core.Bool.{Bool, true, false}
use Rattle.std.specs.Prelude.{Option, None, Some}
use mathlib.Core.List.{List}
use Prim.Native.Nat.{ℕ, ◌≤◌, ◌<◌}
use lib.Dec.{leb}
use borrow.Author.Tests.{leb-true, leb-false, le-leb, lt-leb}
use Rattle.rules.specs.Bytes.{Bytes, all_among}
use Rattle.rules.specs.Bundle.{File, bundle}
use Rattle.rules.specs.Names.{any_too_large}
use Rattle.rules.specs.History.{State}
use Rattle.rules.specs.Starts.{Way, way_to}
use Rattle.rules.specs.Gate.{known_reader, reader_names, gate}
use Rattle.rules.specs.Query.{Condition, query}
use Rattle.rules.specs.Picking.{in_range_all}
use Rattle.rules.specs.Rooms.{rows_room}
use Rattle.rules.specs.Reading.{Asked, Listing, listing, listing_at, reading, state_within, listing_within}
use Rattle.rules.specs.Refusals.{Refusal, Answer, accepted, refused, room_too_short, bundle_malformed, version_too_large, no_version_zero}
use Rattle.rules.specs.Refusals.{not_kept, malformed, foreign_keys, too_many_live, reader_too_high, unknown_feature, query_malformed, no_such_column}
use Rattle.rules.specs.Refusals.{value_out_of_range}
use Rattle.rules.proofs.Tests.{true-not-false}
use Rattle.rules.proofs.Readings.{reading-is}
use Rattle.demands.specs.Reaching.{There, NoStart}
use Rattle.demands.specs.Met.{Unknown, Met}
use Rattle.demands.specs.Exactly.{SomeTooLarge, Readable, SomeOutOf, Opened, log_in, version_in}
use Rattle.demands.specs.Exactly.{Reached, Read, columns_asked, answer_of, ReadingRefusesExactly}
use Rattle.demands.proofs.Starts.{no-way-no-start, way-some-start}
use Rattle.demands.proofs.Readable.{state_by-is}
use Rattle.demands.proofs.WayMet.{OfALine, number-6, number-21, number-7, met-number, from_zero_on, way-met, met-way}
use Rattle.demands.proofs.Words.{any_too_large-some, some-any_too_large, none-any_too_large}
use Rattle.demands.proofs.Words.{all_among-unknown, unknown-all_among, known-all_among, all_among-known}
use Rattle.demands.proofs.Words.{in_range_all-words, words-in_range_all, none-in_range_all, in_range_all-none}

-- ---- the conditions of reading, each with its answer

module _ (room : ℕ) (s q : Bytes) (asked : Asked) where
  data Says : Answer Listing → Type 0 where
    short : room < rows_room → Says (refused room_too_short)
    bad-query : rows_room ≤ room → query q ≡ None → Says (refused query_malformed)
    bad-bundle : rows_room ≤ room → There (query q) → bundle s ≡ None → Says (refused bundle_malformed)
    large : rows_room ≤ room → There (query q) → (fs : List File) → bundle s ≡ Some fs → SomeTooLarge fs → Says (refused version_too_large)
    no_zero : (o : Opened room s q) → (log_in asked o).version_file 0 ≡ None → Says (refused no_version_zero)
    not-kept : (o : Opened room s q) → There ((log_in asked o).version_file 0) → NoStart (log_in asked o) (version_in asked o) → Says (refused not_kept)
    six : (e l : ℕ) (r : Reached room s q asked) → Met r.zero r.way (malformed e l) → Says (refused (malformed e l))
    twenty-one : (e l : ℕ) (r : Reached room s q asked) → Met r.zero r.way (foreign_keys e l) → Says (refused (foreign_keys e l))
    seven : (e l : ℕ) (r : Reached room s q asked) → Met r.zero r.way (too_many_live e l) → Says (refused (too_many_live e l))
    high : (r : Read room s q asked) → known_reader < r.state.in_force.min_reader_version → Says (refused reader_too_high)
    unknown : (r : Read room s q asked) → r.state.in_force.min_reader_version ≤ known_reader → Unknown reader_names r.state.in_force.reader_features
        → Says (refused unknown_feature)
    no-column : (r : Read room s q asked) → Readable r.state.in_force → Unknown r.state.table.partition_columns (columns_asked r)
        → Says (refused no_such_column)
    beyond : (r : Read room s q asked) → Readable r.state.in_force → (Unknown r.state.table.partition_columns (columns_asked r) → ⊥)
        → SomeOutOf r.opened.cs r.state.live → Says (refused value_out_of_range)
    answer : (r : Read room s q asked) → Readable r.state.in_force → (Unknown r.state.table.partition_columns (columns_asked r) → ⊥)
        → (SomeOutOf r.opened.cs r.state.live → ⊥) → Says (accepted (answer_of r))

  -- ---- each gives its answer

  opened-is : (o : Opened room s q) → reading room s q asked ≡ listing_at o.cs (log_in asked o) (version_in asked o)
  opened-is o = reading-is room s q asked o.cs o.fs o.long o.query-read o.bundle-read (none-any_too_large o.fs o.none-large)

  reached-is : (r : Reached room s q asked) (x : Refusal) → Met r.zero r.way x → reading room s q asked ≡ refused x
  unfolding listing_at listing_within
  reached-is r x m =
      let o = r.opened in
      opened-is o
      ∙ rw (
        state_by-is (log_in asked o) (way_to (log_in asked o) (version_in asked o)) r.zero r.way r.zero-there r.way-there,
        met-way r.zero r.way x m,
      )

  read_is : (r : Read room s q asked) → reading room s q asked ≡ listing r.opened.cs (version_in asked r.opened) r.state
  unfolding listing_at listing_within
  read_is r = opened-is r.opened ∙ rw r.state-read

  says-reading : (a : Answer Listing) → Says a → reading room s q asked ≡ a
  unfolding reading listing_at listing_within state_within listing gate
  says-reading _ (short l) = rw (lt-leb rows_room room l)
  says-reading _ (bad-query l e) = rw (le-leb rows_room room l, e)
  says-reading _ (bad-bundle l c e) = rw (le-leb rows_room room l, c.1, e)
  says-reading _ (large l c fs e t) = rw (le-leb rows_room room l, c.1, e, some-any_too_large fs t)
  says-reading _ (no_zero o e) = opened-is o ∙ rw e
  says-reading _ (not-kept o z n) = opened-is o ∙ go (way_to (log_in asked o) (version_in asked o)) refl
    where
      go : (w : Option Way) → way_to (log_in asked o) (version_in asked o) ≡ w → listing_at o.cs (log_in asked o) (version_in asked o) ≡ refused not_kept
      go None e = rw (z.1, e)
      go (Some w) e = let p = way-some-start (log_in asked o) (version_in asked o) w z e in absurd (n p.s p.start p.reaches)
  says-reading _ (six e l r m) = reached-is r (malformed e l) m
  says-reading _ (twenty-one e l r m) = reached-is r (foreign_keys e l) m
  says-reading _ (seven e l r m) = reached-is r (too_many_live e l) m
  says-reading _ (high r l) = read_is r ∙ rw (lt-leb r.state.in_force.min_reader_version known_reader l)
  says-reading _ (unknown r l u) =
      read_is r ∙ rw (le-leb r.state.in_force.min_reader_version known_reader l, unknown-all_among reader_names r.state.in_force.reader_features u)
  says-reading _ (no-column r p u) =
      read_is r
      ∙ rw (
        le-leb r.state.in_force.min_reader_version known_reader p.0,
        known-all_among reader_names r.state.in_force.reader_features p.1,
        unknown-all_among r.state.table.partition_columns (columns_asked r) u,
      )
  says-reading _ (beyond r p k o) =
      read_is r
      ∙ rw (
        le-leb r.state.in_force.min_reader_version known_reader p.0,
        known-all_among reader_names r.state.in_force.reader_features p.1,
        known-all_among r.state.table.partition_columns (columns_asked r) k,
        words-in_range_all r.opened.cs r.state.live o,
      )
  says-reading _ (answer r p k n) =
      read_is r
      ∙ rw (
        le-leb r.state.in_force.min_reader_version known_reader p.0,
        known-all_among reader_names r.state.in_force.reader_features p.1,
        known-all_among r.state.table.partition_columns (columns_asked r) k,
        none-in_range_all r.opened.cs r.state.live n,
      )

  -- ---- one holds for every input

  said_read : (r : Read room s q asked) → (a : Answer Listing) × Says a
  said_read r =
      go
      (leb r.state.in_force.min_reader_version known_reader)
      refl
      (all_among reader_names r.state.in_force.reader_features)
      refl
      (all_among r.state.table.partition_columns (columns_asked r))
      refl
      (in_range_all r.opened.cs r.state.live)
      refl
    where
      go : (a : Bool) → leb r.state.in_force.min_reader_version known_reader ≡ a → (b : Bool) → all_among reader_names r.state.in_force.reader_features ≡ b
          → (c : Bool) → all_among r.state.table.partition_columns (columns_asked r) ≡ c
          → (d : Bool) → in_range_all r.opened.cs r.state.live ≡ d → (x : Answer Listing) × Says x
      go false e b f c g d h = (_, high r (leb-false r.state.in_force.min_reader_version known_reader e))
      go true e false f c g d h =
          (_, unknown r (leb-true r.state.in_force.min_reader_version known_reader e) (all_among-unknown reader_names r.state.in_force.reader_features f))
      go true e true f false g d h = (
        _,
        no-column r
            (leb-true r.state.in_force.min_reader_version known_reader e, all_among-known reader_names r.state.in_force.reader_features f)
            (all_among-unknown r.state.table.partition_columns (columns_asked r) g),
      )
      go true e true f true g false h = (
        _,
        beyond r
            (leb-true r.state.in_force.min_reader_version known_reader e, all_among-known reader_names r.state.in_force.reader_features f)
            (all_among-known r.state.table.partition_columns (columns_asked r) g)
            (in_range_all-words r.opened.cs r.state.live h),
      )
      go true e true f true g true h = (
        _,
        answer r
            (leb-true r.state.in_force.min_reader_version known_reader e, all_among-known reader_names r.state.in_force.reader_features f)
            (all_among-known r.state.table.partition_columns (columns_asked r) g)
            (in_range_all-none r.opened.cs r.state.live h),
      )

  said-reached : (r : Reached room s q asked) → (a : Answer Listing) × Says a
  said-reached r = go (from_zero_on r.zero r.way) refl
    where
      met : (x : Refusal) → Met r.zero r.way x → OfALine x → (a : Answer Listing) × Says a
      met _ m (number-6 e l) = (_, six e l r m)
      met _ m (number-21 e l) = (_, twenty-one e l r m)
      met _ m (number-7 e l) = (_, seven e l r m)

      go : (a : Answer State) → from_zero_on r.zero r.way ≡ a → (x : Answer Listing) × Says x
      go (accepted st) e =
          let o = r.opened in
          said_read (record {
            opened = o;
            state = st;
            state-read = state_by-is (log_in asked o) (way_to (log_in asked o) (version_in asked o)) r.zero r.way r.zero-there r.way-there ∙ e;
          })
      go (refused x) e = let m = way-met r.zero r.way x e in met x m (met-number r.zero r.way x m)

  said-opened : (o : Opened room s q) → (a : Answer Listing) × Says a
  said-opened o = go ((log_in asked o).version_file 0) refl (way_to (log_in asked o) (version_in asked o)) refl
    where
      go : (z : Option File) → (log_in asked o).version_file 0 ≡ z → (w : Option Way) → way_to (log_in asked o) (version_in asked o) ≡ w
          → (a : Answer Listing) × Says a
      go None e w f = (_, no_zero o e)
      go (Some zf) e None f = (_, not-kept o (zf, e) (no-way-no-start (log_in asked o) (version_in asked o) f))
      go (Some zf) e (Some w) f = said-reached (record { opened = o; zero = zf; way = w; zero-there = e; way-there = f })

  said : (a : Answer Listing) × Says a
  said = go (leb rows_room room) refl (query q) refl (bundle s) refl
    where
      named : (l : rows_room ≤ room) (cs : List Condition) → query q ≡ Some cs → (fs : List File) → bundle s ≡ Some fs → (b : Bool) → any_too_large fs ≡ b
          → (a : Answer Listing) × Says a
      named l cs eq fs eb true e = (_, large l (cs, eq) fs eb (any_too_large-some fs e))
      named l cs eq fs eb false e =
          said-opened (record { cs = cs; fs = fs; long = l; query-read = eq; bundle-read = eb; none-large = λ t. true-not-false (some-any_too_large fs t) e })

      go : (b : Bool) → leb rows_room room ≡ b → (c : Option (List Condition)) → query q ≡ c → (f : Option (List File)) → bundle s ≡ f
          → (a : Answer Listing) × Says a
      go false e c eq f eb = (_, short (leb-false rows_room room e))
      go true e None eq f eb = (_, bad-query (leb-true rows_room room e) eq)
      go true e (Some cs) eq None eb = (_, bad-bundle (leb-true rows_room room e) (cs, eq) eb)
      go true e (Some cs) eq (Some fs) eb = named (leb-true rows_room room e) cs eq fs eb (any_too_large fs) refl

  reading-says : (a : Answer Listing) → reading room s q asked ≡ a → Says a
  reading-says a e = let p = said in subst Says (sym (says-reading p.0 p.1) ∙ e) p.1

-- ---- reading

pub reading-exactly : ReadingRefusesExactly
reading-exactly room s q asked = record {
  no-1 = ((λ e. f1 (given (refused room_too_short) e)), λ l. says-reading room s q asked _ (short l));
  no-10 = ((λ e. f10 (given (refused query_malformed) e)), λ c. says-reading room s q asked _ (bad-query c.0 c.1));
  no-2 = ((λ e. f2 (given (refused bundle_malformed) e)), λ c. says-reading room s q asked _ (bad-bundle c.0 c.1 c.2));
  no-3 = ((λ e. f3 (given (refused version_too_large) e)), λ c. says-reading room s q asked _ (large c.0 c.1 c.2.0 c.2.1 c.2.2));
  no-4 = ((λ e. f4 (given (refused no_version_zero) e)), λ c. says-reading room s q asked _ (no_zero c.0 c.1));
  no-5 = ((λ e. f5 (given (refused not_kept) e)), λ c. says-reading room s q asked _ (not-kept c.0 c.1 c.2));
  no-6 = λ e l. ((λ h. f6 e l (given (refused (malformed e l)) h)), λ c. says-reading room s q asked _ (six e l c.0 c.1));
  no-21 = λ e l. ((λ h. f21 e l (given (refused (foreign_keys e l)) h)), λ c. says-reading room s q asked _ (twenty-one e l c.0 c.1));
  no-7 = λ e l. ((λ h. f7 e l (given (refused (too_many_live e l)) h)), λ c. says-reading room s q asked _ (seven e l c.0 c.1));
  no-8 = ((λ e. f8 (given (refused reader_too_high) e)), λ c. says-reading room s q asked _ (high c.0 c.1));
  no_9 = ((λ e. f9 (given (refused unknown_feature) e)), λ c. says-reading room s q asked _ (unknown c.0 c.1 c.2));
  no-11 = ((λ e. f11 (given (refused no_such_column) e)), λ c. says-reading room s q asked _ (no-column c.0 c.1 c.2));
  no-18 = ((λ e. f18 (given (refused value_out_of_range) e)), λ c. says-reading room s q asked _ (beyond c.0 c.1 c.2 c.3));
  no-0 = λ l. ((λ h. f0 l (given (accepted l) h)), λ c. says-reading room s q asked _ (answer c.0 c.1 c.2 c.3) ∙ ap accepted c.4);
}
  where
    given : (a : Answer Listing) → reading room s q asked ≡ a → Says room s q asked a
    given a e = reading-says room s q asked a e

    f1 : Says room s q asked (refused room_too_short) → room < rows_room
    f1 (short l) = l

    f10 : Says room s q asked (refused query_malformed) → (rows_room ≤ room) × (query q ≡ None)
    f10 (bad-query l e) = (l, e)

    f2 : Says room s q asked (refused bundle_malformed) → (rows_room ≤ room) × There (query q) × (bundle s ≡ None)
    f2 (bad-bundle l c e) = (l, c, e)

    f3 : Says room s q asked (refused version_too_large) → (rows_room ≤ room) × There (query q) × ((fs : List File) × (bundle s ≡ Some fs) × SomeTooLarge fs)
    f3 (large l c fs e t) = (l, c, (fs, e, t))

    f4 : Says room s q asked (refused no_version_zero) → (o : Opened room s q) × ((log_in asked o).version_file 0 ≡ None)
    f4 (no_zero o e) = (o, e)

    f5 : Says room s q asked (refused not_kept)
        → (o : Opened room s q) × There ((log_in asked o).version_file 0) × NoStart (log_in asked o) (version_in asked o)
    f5 (not-kept o z n) = (o, z, n)

    f6 : (e l : ℕ) → Says room s q asked (refused (malformed e l)) → (r : Reached room s q asked) × Met r.zero r.way (malformed e l)
    f6 e l (six _ _ r m) = (r, m)

    f21 : (e l : ℕ) → Says room s q asked (refused (foreign_keys e l)) → (r : Reached room s q asked) × Met r.zero r.way (foreign_keys e l)
    f21 e l (twenty-one _ _ r m) = (r, m)

    f7 : (e l : ℕ) → Says room s q asked (refused (too_many_live e l)) → (r : Reached room s q asked) × Met r.zero r.way (too_many_live e l)
    f7 e l (seven _ _ r m) = (r, m)

    f8 : Says room s q asked (refused reader_too_high) → (r : Read room s q asked) × (known_reader < r.state.in_force.min_reader_version)
    f8 (high r l) = (r, l)

    f9 : Says room s q asked (refused unknown_feature)
        → (r : Read room s q asked) × (r.state.in_force.min_reader_version ≤ known_reader) × Unknown reader_names r.state.in_force.reader_features
    f9 (unknown r l u) = (r, l, u)

    f11 : Says room s q asked (refused no_such_column)
        → (r : Read room s q asked) × Readable r.state.in_force × Unknown r.state.table.partition_columns (columns_asked r)
    f11 (no-column r p u) = (r, p, u)

    f18 : Says room s q asked (refused value_out_of_range)
        → (r : Read room s q asked) × Readable r.state.in_force × (Unknown r.state.table.partition_columns (columns_asked r) → ⊥)
        × SomeOutOf r.opened.cs r.state.live
    f18 (beyond r p k o) = (r, p, k, o)

    f0 : (l : Listing) → Says room s q asked (accepted l)
        → (r : Read room s q asked) × Readable r.state.in_force × (Unknown r.state.table.partition_columns (columns_asked r) → ⊥)
        × (SomeOutOf r.opened.cs r.state.live → ⊥) × (answer_of r ≡ l)
    f0 l (answer r p k n) = (r, p, k, n, refl)

-- Demand 2 of the cleaner: one condition holds for every input, each gives its refusal, and no two are the same refusal.
use mathlib.Core.Path.{◌≡◌, refl, sym, ◌∙◌, ap, subst}
use mathlib.Core.Logic.{◌⊎◌, inl, inr}
use mathlib.Core.Bool.{Bool, true, false}
use Rattle.std.specs.Prelude.{Option, None, Some}
use mathlib.Core.List.{List, []}
use Prim.Native.Nat.{ℕ, zero, ◌≤◌, ◌<◌}
use lib.Dec.{leb}
use borrow.Author.Tests.{leb-true, leb-false, le-leb, lt-leb}
use Rattle.rules.specs.Bytes.{Bytes, all_among}
use Rattle.rules.specs.Bundle.{File, bundle}
use Rattle.rules.specs.Names.{any_too_large}
use Rattle.rules.specs.Live.{most_live}
use Rattle.rules.specs.History.{State, of_checkpoint, read_zero, read_file}
use Rattle.rules.specs.Starts.{log_of, start_at, Way, other_way_to, nothing_live, follow}
use Rattle.rules.specs.Marker.{marked}
use Rattle.rules.specs.Gate.{known_reader, reader_names, gate, writable}
use Rattle.rules.specs.Agreement.{agree}
use Rattle.rules.specs.Cleaning.{named, compared, cleaned_by, cleaned_at, Lent, enough, cleaning}
use Rattle.rules.specs.Same.{SameState}
use Rattle.rules.specs.Refusals.{Refusal, Answer, accepted, refused, room_too_short, bundle_malformed, version_too_large, no_version_zero}
use Rattle.rules.specs.Refusals.{malformed, foreign_keys, too_many_live, reader_too_high, unknown_feature, not_writable, checkpoint_disagrees}
use Rattle.rules.proofs.Tests.{true-not-false, false_of, true_of}
use Rattle.rules.proofs.Agreement.{agree-true, same-agree}
use Rattle.demands.specs.Reaching.{There}
use Rattle.demands.specs.Met.{Unknown}
use Rattle.demands.specs.Exactly.{SomeTooLarge, Readable}
use Rattle.demands.specs.CleaningExactly.{Enough, NotWritable, NothingToName, Begun, Comparing, MetComparing}
use Rattle.demands.specs.CleaningExactly.{in-zero, in-checkpoint, on-way, Compared, CleaningRefusesExactly}
use Rattle.demands.proofs.Upward.{marked_start}
use Rattle.demands.proofs.FirstMet.{read_file-met, met-read_file}
use Rattle.demands.proofs.WayMet.{read_zero-met, met-read_zero, follow-met, met-follow, OfALine, number-6}
use Rattle.demands.proofs.WayMet.{number-21, number-7, met_in-number, met_in_zero-number, met_on-number}
use Rattle.demands.proofs.Words.{any_too_large-some, some-any_too_large, none-any_too_large}
use Rattle.demands.proofs.Words.{all_among-unknown, unknown-all_among, known-all_among, all_among-known}
use Rattle.demands.proofs.CleaningWords.{enough-true, true-enough, not_writable-false, false-not_writable, no_other, some-other}

-- ---- the first line met

comparing-met : (zf f : File) (w : Way) (r : Refusal) → MetComparing zf f w r → compared zf f w ≡ refused r
unfolding compared
comparing-met zf f w r (in-zero h) = rw (met-read_zero zf r h)
comparing-met zf f w r (in-checkpoint z e h) = rw (e, met-read_file of_checkpoint f nothing_live r h)
comparing-met zf f w r (on-way z mine e q h) = rw (e, q, met-follow z w r h)

comparing-number : (zf f : File) (w : Way) (r : Refusal) → MetComparing zf f w r → OfALine r
comparing-number zf f w r (in-zero h) = met_in_zero-number zf r h
comparing-number zf f w r (in-checkpoint z e h) = met_in-number of_checkpoint f nothing_live r h
comparing-number zf f w r (on-way z mine e q h) = met_on-number z w r h

-- ---- the conditions of cleaning, each with its answer

module _ (lent : Lent) (s : Bytes) (now retention : ℕ) where
  abbrev names_of : Compared lent s → List ℕ
  names_of c = named c.comparing.c now retention c.comparing.begun.fs

  data Says : Answer (List ℕ) → Type 0 where
    short : (Enough lent → ⊥) → Says (refused room_too_short)
    bad-bundle : Enough lent → bundle s ≡ None → Says (refused bundle_malformed)
    large : Enough lent → (fs : List File) → bundle s ≡ Some fs → SomeTooLarge fs → Says (refused version_too_large)
    no_zero : Enough lent → (fs : List File) → bundle s ≡ Some fs → (SomeTooLarge fs → ⊥) → (log_of fs).version_file 0 ≡ None → Says (refused no_version_zero)
    six : (e l : ℕ) (c : Comparing lent s) → MetComparing c.begun.zero c.checkpoint c.way (malformed e l) → Says (refused (malformed e l))
    twenty-one : (e l : ℕ) (c : Comparing lent s) → MetComparing c.begun.zero c.checkpoint c.way (foreign_keys e l)
        → Says (refused (foreign_keys e l))
    seven : (e l : ℕ) (c : Comparing lent s) → MetComparing c.begun.zero c.checkpoint c.way (too_many_live e l) → Says (refused (too_many_live e l))
    high : (c : Compared lent s) → known_reader < c.mine.in_force.min_reader_version → Says (refused reader_too_high)
    unknown : (c : Compared lent s) → c.mine.in_force.min_reader_version ≤ known_reader → Unknown reader_names c.mine.in_force.reader_features
        → Says (refused unknown_feature)
    not-writable : (c : Compared lent s) → Readable c.mine.in_force → NotWritable c.mine.in_force → Says (refused not_writable)
    disagrees : (c : Compared lent s) → Readable c.mine.in_force → (NotWritable c.mine.in_force → ⊥) → (SameState c.mine c.theirs → ⊥)
        → Says (refused checkpoint_disagrees)
    nothing : (b : Begun lent s) → NothingToName (log_of b.fs) → Says (accepted [])
    names : (c : Compared lent s) → Readable c.mine.in_force → (NotWritable c.mine.in_force → ⊥) → SameState c.mine c.theirs
        → Says (accepted (names_of c))

  -- ---- each gives its answer

  begun-is : (b : Begun lent s) → cleaning lent s now retention ≡ cleaned_at (marked (log_of b.fs)) b.zero now retention b.fs
  unfolding cleaning
  begun-is b = rw (enough-true lent b.long, b.bundle-read, none-any_too_large b.fs b.none-large, b.zero-there)

  -- with a checkpoint and another way the answer is the comparison's, or the names
  comparing-refused : (c : Comparing lent s) (r : Refusal) → compared c.begun.zero c.checkpoint c.way ≡ refused r
      → cleaning lent s now retention ≡ refused r
  unfolding cleaned_at cleaned_by
  comparing-refused c r h = begun-is c.begun ∙ rw (c.marked-there, c.checkpoint-there, c.way-there, h)

  comparing-accepted : (c : Comparing lent s) → compared c.begun.zero c.checkpoint c.way ≡ accepted tt
      → cleaning lent s now retention ≡ accepted (named c.c now retention c.begun.fs)
  unfolding cleaned_at cleaned_by
  comparing-accepted c h = begun-is c.begun ∙ rw (c.marked-there, c.checkpoint-there, c.way-there, h)

  says-cleaning : (a : Answer (List ℕ)) → Says a → cleaning lent s now retention ≡ a
  unfolding cleaning cleaned_at cleaned_by compared gate
  says-cleaning _ (short n) = rw (false_of (enough lent) (λ e. n (true-enough lent e)))
  says-cleaning _ (bad-bundle l e) = rw (enough-true lent l, e)
  says-cleaning _ (large l fs e t) = rw (enough-true lent l, e, some-any_too_large fs t)
  says-cleaning _ (no_zero l fs e t z) = rw (enough-true lent l, e, none-any_too_large fs t, z)
  says-cleaning _ (six e l c m) = comparing-refused c (malformed e l) (comparing-met c.begun.zero c.checkpoint c.way (malformed e l) m)
  says-cleaning _ (twenty-one e l c m) = comparing-refused c (foreign_keys e l) (comparing-met c.begun.zero c.checkpoint c.way (foreign_keys e l) m)
  says-cleaning _ (seven e l c m) = comparing-refused c (too_many_live e l) (comparing-met c.begun.zero c.checkpoint c.way (too_many_live e l) m)
  says-cleaning _ (high c l) =
      comparing-refused
      c.comparing
      reader_too_high
      (rw (c.zero-read, c.mine-read, c.theirs-read, lt-leb c.mine.in_force.min_reader_version known_reader l))
  says-cleaning _ (unknown c l u) =
      comparing-refused c.comparing unknown_feature
      (rw (
        c.zero-read,
        c.mine-read,
        c.theirs-read,
        le-leb c.mine.in_force.min_reader_version known_reader l,
        unknown-all_among reader_names c.mine.in_force.reader_features u,
      ))
  says-cleaning _ (not-writable c p n) =
      comparing-refused c.comparing not_writable
      (rw (
        c.zero-read,
        c.mine-read,
        c.theirs-read,
        le-leb c.mine.in_force.min_reader_version known_reader p.0,
        known-all_among reader_names c.mine.in_force.reader_features p.1,
        not_writable-false c.mine.in_force n,
      ))
  says-cleaning _ (disagrees c p w d) =
      comparing-refused c.comparing checkpoint_disagrees
      (rw (
        c.zero-read,
        c.mine-read,
        c.theirs-read,
        le-leb c.mine.in_force.min_reader_version known_reader p.0,
        known-all_among reader_names c.mine.in_force.reader_features p.1,
        true_of (writable c.mine.in_force) (λ e. w (false-not_writable c.mine.in_force e)),
        false_of (agree c.mine c.theirs) (λ e. d (agree-true c.mine c.theirs e)),
      ))
  says-cleaning _ (nothing b (inl e)) = begun-is b ∙ rw e
  says-cleaning _ (nothing b (inr (c, e, n))) =
      begun-is b ∙ ap (λ (o : Option ℕ). cleaned_at o b.zero now retention b.fs) e ∙ go (start_at (log_of b.fs) c) (other_way_to (log_of b.fs) c) refl
    where
      go : (o : Option File) (w : Option Way) → other_way_to (log_of b.fs) c ≡ w → cleaned_by b.zero o w (named c now retention b.fs) ≡ accepted []
      go None w q = refl
      go (Some f) None q = refl
      go (Some f) (Some w) q = absurd (some-other (log_of b.fs) c w (b.zero, b.zero-there) q n)
  says-cleaning _ (names c p w d) =
      comparing-accepted c.comparing
      (rw (
        c.zero-read,
        c.mine-read,
        c.theirs-read,
        le-leb c.mine.in_force.min_reader_version known_reader p.0,
        known-all_among reader_names c.mine.in_force.reader_features p.1,
        true_of (writable c.mine.in_force) (λ e. w (false-not_writable c.mine.in_force e)),
        same-agree d,
      ))

  -- ---- one holds for every input

  said-compared : (c : Compared lent s) → (a : Answer (List ℕ)) × Says a
  said-compared c =
      go
      (leb c.mine.in_force.min_reader_version known_reader)
      refl
      (all_among reader_names c.mine.in_force.reader_features)
      refl
      (writable c.mine.in_force)
      refl
      (agree c.mine c.theirs)
      refl
    where
      go : (a : Bool) → leb c.mine.in_force.min_reader_version known_reader ≡ a → (b : Bool) → all_among reader_names c.mine.in_force.reader_features ≡ b
          → (d : Bool) → writable c.mine.in_force ≡ d → (g : Bool) → agree c.mine c.theirs ≡ g → (x : Answer (List ℕ)) × Says x
      go false e b f d h g k = (_, high c (leb-false c.mine.in_force.min_reader_version known_reader e))
      go true e false f d h g k =
          (_, unknown c (leb-true c.mine.in_force.min_reader_version known_reader e) (all_among-unknown reader_names c.mine.in_force.reader_features f))
      go true e true f false h g k = (
        _,
        not-writable c
            (leb-true c.mine.in_force.min_reader_version known_reader e, all_among-known reader_names c.mine.in_force.reader_features f)
            (false-not_writable c.mine.in_force h),
      )
      go true e true f true h false k = (
        _,
        disagrees c (leb-true c.mine.in_force.min_reader_version known_reader e, all_among-known reader_names c.mine.in_force.reader_features f)
            (λ n. true-not-false h (not_writable-false c.mine.in_force n)) (λ d. true-not-false (same-agree d) k),
      )
      go true e true f true h true k = (
        _,
        names c (leb-true c.mine.in_force.min_reader_version known_reader e, all_among-known reader_names c.mine.in_force.reader_features f)
            (λ n. true-not-false h (not_writable-false c.mine.in_force n)) (agree-true c.mine c.theirs k),
      )

  said-comparing : (c : Comparing lent s) → (a : Answer (List ℕ)) × Says a
  said-comparing c = of_zero (read_zero c.begun.zero) refl
    where
      met : (r : Refusal) → MetComparing c.begun.zero c.checkpoint c.way r → OfALine r → (a : Answer (List ℕ)) × Says a
      met _ m (number-6 e l) = (_, six e l c m)
      met _ m (number-21 e l) = (_, twenty-one e l c m)
      met _ m (number-7 e l) = (_, seven e l c m)

      refuses : (r : Refusal) → MetComparing c.begun.zero c.checkpoint c.way r → (a : Answer (List ℕ)) × Says a
      refuses r m = met r m (comparing-number c.begun.zero c.checkpoint c.way r m)

      of-way : (z mine : State) → read_zero c.begun.zero ≡ accepted z → read_file most_live of_checkpoint c.checkpoint nothing_live ≡ accepted mine
          → (a : Answer State) → follow most_live z c.way ≡ a → (x : Answer (List ℕ)) × Says x
      of-way z mine e q (accepted theirs) h =
          said-compared (record { comparing = c; z = z; mine = mine; theirs = theirs; zero-read = e; mine-read = q; theirs-read = h })
      of-way z mine e q (refused r) h = refuses r (on-way z mine e q (follow-met z c.way r h))

      of-checkpoint : (z : State) → read_zero c.begun.zero ≡ accepted z → (a : Answer State) → read_file most_live of_checkpoint c.checkpoint nothing_live ≡ a
          → (x : Answer (List ℕ)) × Says x
      of-checkpoint z e (accepted mine) q = of-way z mine e q (follow most_live z c.way) refl
      of-checkpoint z e (refused r) q = refuses r (in-checkpoint z e (read_file-met of_checkpoint c.checkpoint nothing_live r q))

      of_zero : (a : Answer State) → read_zero c.begun.zero ≡ a → (x : Answer (List ℕ)) × Says x
      of_zero (accepted z) e = of-checkpoint z e (read_file most_live of_checkpoint c.checkpoint nothing_live) refl
      of_zero (refused r) e = refuses r (in-zero (read_zero-met c.begun.zero r e))

  said-begun : (b : Begun lent s) → (a : Answer (List ℕ)) × Says a
  said-begun b = go (marked (log_of b.fs)) refl
    where
      other : (c : ℕ) → marked (log_of b.fs) ≡ Some c → There (start_at (log_of b.fs) c) → (w : Option Way) → other_way_to (log_of b.fs) c ≡ w
          → (a : Answer (List ℕ)) × Says a
      other c e f None q = (_, nothing b (inr (c, e, no_other (log_of b.fs) c (b.zero, b.zero-there) q)))
      other c e f (Some w) q =
          said-comparing (record { begun = b; c = c; checkpoint = f.0; way = w; marked-there = e; checkpoint-there = f.1; way-there = q })

      go : (o : Option ℕ) → marked (log_of b.fs) ≡ o → (a : Answer (List ℕ)) × Says a
      go None e = (_, nothing b (inl e))
      go (Some c) e = other c e (marked_start (log_of b.fs) c e) (other_way_to (log_of b.fs) c) refl

  said : (a : Answer (List ℕ)) × Says a
  said = go (enough lent) refl (bundle s) refl
    where
      found : Enough lent → (fs : List File) → bundle s ≡ Some fs → (SomeTooLarge fs → ⊥) → (z : Option File) → (log_of fs).version_file 0 ≡ z
          → (a : Answer (List ℕ)) × Says a
      found l fs eb t None e = (_, no_zero l fs eb t e)
      found l fs eb t (Some zf) e = said-begun (record { fs = fs; zero = zf; long = l; bundle-read = eb; none-large = t; zero-there = e })

      opened : Enough lent → (fs : List File) → bundle s ≡ Some fs → (b : Bool) → any_too_large fs ≡ b → (a : Answer (List ℕ)) × Says a
      opened l fs eb true e = (_, large l fs eb (any_too_large-some fs e))
      opened l fs eb false e = found l fs eb (λ t. true-not-false (some-any_too_large fs t) e) ((log_of fs).version_file 0) refl

      go : (b : Bool) → enough lent ≡ b → (f : Option (List File)) → bundle s ≡ f → (a : Answer (List ℕ)) × Says a
      go false e f eb = (_, short (λ l. true-not-false (enough-true lent l) e))
      go true e None eb = (_, bad-bundle (true-enough lent e) eb)
      go true e (Some fs) eb = opened (true-enough lent e) fs eb (any_too_large fs) refl

  cleaning-says : (a : Answer (List ℕ)) → cleaning lent s now retention ≡ a → Says a
  cleaning-says a e = let p = said in subst Says (sym (says-cleaning p.0 p.1) ∙ e) p.1

-- ---- cleaning

pub cleaning-exactly : CleaningRefusesExactly
cleaning-exactly lent s now retention = record {
  no-1 = ((λ e. f1 (given (refused room_too_short) e)), λ n. gives _ (short n));
  no-2 = ((λ e. f2 (given (refused bundle_malformed) e)), λ c. gives _ (bad-bundle c.0 c.1));
  no-3 = ((λ e. f3 (given (refused version_too_large) e)), λ c. gives _ (large c.0 c.1.0 c.1.1 c.1.2));
  no-4 = ((λ e. f4 (given (refused no_version_zero) e)), λ c. gives _ (no_zero c.0 c.1.0 c.1.1 c.1.2 c.1.3));
  no-6 = λ e l. ((λ h. f6 e l (given (refused (malformed e l)) h)), λ c. gives _ (six e l c.0 c.1));
  no-21 = λ e l. ((λ h. f21 e l (given (refused (foreign_keys e l)) h)), λ c. gives _ (twenty-one e l c.0 c.1));
  no-7 = λ e l. ((λ h. f7 e l (given (refused (too_many_live e l)) h)), λ c. gives _ (seven e l c.0 c.1));
  no-8 = ((λ e. f8 (given (refused reader_too_high) e)), λ c. gives _ (high c.0 c.1));
  no_9 = ((λ e. f9 (given (refused unknown_feature) e)), λ c. gives _ (unknown c.0 c.1 c.2));
  no-12 = ((λ e. f12 (given (refused not_writable) e)), λ c. gives _ (not-writable c.0 c.1 c.2));
  no-13 = ((λ e. f13 (given (refused checkpoint_disagrees) e)), λ c. gives _ (disagrees c.0 c.1 c.2 c.3));
  no-0 = λ es. ((λ h. f0 es (given (accepted es) h)), g0 es);
}
  where
    given : (a : Answer (List ℕ)) → cleaning lent s now retention ≡ a → Says lent s now retention a
    given a e = cleaning-says lent s now retention a e

    gives : (a : Answer (List ℕ)) → Says lent s now retention a → cleaning lent s now retention ≡ a
    gives a h = says-cleaning lent s now retention a h

    f1 : Says lent s now retention (refused room_too_short) → Enough lent → ⊥
    f1 (short n) = n

    f2 : Says lent s now retention (refused bundle_malformed) → Enough lent × (bundle s ≡ None)
    f2 (bad-bundle l e) = (l, e)

    f3 : Says lent s now retention (refused version_too_large) → Enough lent × ((fs : List File) × (bundle s ≡ Some fs) × SomeTooLarge fs)
    f3 (large l fs e t) = (l, (fs, e, t))

    f4 : Says lent s now retention (refused no_version_zero)
        → Enough lent × ((fs : List File) × (bundle s ≡ Some fs) × (SomeTooLarge fs → ⊥) × ((log_of fs).version_file 0 ≡ None))
    f4 (no_zero l fs e t z) = (l, (fs, e, t, z))

    f6 : (e l : ℕ) → Says lent s now retention (refused (malformed e l))
        → (c : Comparing lent s) × MetComparing c.begun.zero c.checkpoint c.way (malformed e l)
    f6 e l (six _ _ c m) = (c, m)

    f21 : (e l : ℕ) → Says lent s now retention (refused (foreign_keys e l))
        → (c : Comparing lent s) × MetComparing c.begun.zero c.checkpoint c.way (foreign_keys e l)
    f21 e l (twenty-one _ _ c m) = (c, m)

    f7 : (e l : ℕ) → Says lent s now retention (refused (too_many_live e l))
        → (c : Comparing lent s) × MetComparing c.begun.zero c.checkpoint c.way (too_many_live e l)
    f7 e l (seven _ _ c m) = (c, m)

    f8 : Says lent s now retention (refused reader_too_high) → (c : Compared lent s) × (known_reader < c.mine.in_force.min_reader_version)
    f8 (high c l) = (c, l)

    f9 : Says lent s now retention (refused unknown_feature)
        → (c : Compared lent s) × (c.mine.in_force.min_reader_version ≤ known_reader) × Unknown reader_names c.mine.in_force.reader_features
    f9 (unknown c l u) = (c, l, u)

    f12 : Says lent s now retention (refused not_writable) → (c : Compared lent s) × Readable c.mine.in_force × NotWritable c.mine.in_force
    f12 (not-writable c p n) = (c, p, n)

    f13 : Says lent s now retention (refused checkpoint_disagrees)
        → (c : Compared lent s) × Readable c.mine.in_force × (NotWritable c.mine.in_force → ⊥) × (SameState c.mine c.theirs → ⊥)
    f13 (disagrees c p w d) = (c, p, w, d)

    f0 : (es : List ℕ) → Says lent s now retention (accepted es)
        → ((b : Begun lent s) × NothingToName (log_of b.fs) × ([] ≡ es))
        ⊎ ((c : Compared lent s) × Readable c.mine.in_force × (NotWritable c.mine.in_force → ⊥) × SameState c.mine c.theirs
        × (names_of lent s now retention c ≡ es))
    f0 _ (nothing b n) = inl (b, n, refl)
    f0 _ (names c p w d) = inr (c, p, w, d, refl)

    g0 : (es : List ℕ) → ((b : Begun lent s) × NothingToName (log_of b.fs) × ([] ≡ es))
        ⊎ ((c : Compared lent s) × Readable c.mine.in_force × (NotWritable c.mine.in_force → ⊥) × SameState c.mine c.theirs
        × (names_of lent s now retention c ≡ es))
        → cleaning lent s now retention ≡ accepted es
    g0 es (inl (b, n, e)) = gives _ (nothing b n) ∙ ap accepted e
    g0 es (inr (c, p, w, d, e)) = gives _ (names c p w d) ∙ ap accepted e

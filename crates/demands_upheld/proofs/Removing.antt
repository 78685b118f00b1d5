-- Demand 3, of the entries: readings of a log before and after files are removed.
use mathlib.Core.Path.{◌≡◌, refl, ◌∙◌, ap, subst}
use mathlib.Core.Logic.Iff
use mathlib.Core.Logic.{◌⊎◌, inl, inr, ◌↔◌}
use mathlib.Core.List.{List}
use Prim.Native.Nat.{ℕ, ◌≤◌}
use lib.ListN.{length, take}
use Rattle.rules.specs.Bytes.{Bytes, ascii}
use Rattle.rules.specs.Bundle.{File}
use Rattle.rules.specs.Starts.{Log, log_of}
use Rattle.rules.specs.Rooms.{Room, rows_room, names_room}
use Rattle.rules.specs.Reading.{Asked, the_latest, the_version, Listing, reading, history_listing}
use Rattle.rules.specs.Due.{due_listing, due}
use Rattle.rules.specs.Cleaning.{cleaning, names_after_cleaning}
use Rattle.rules.specs.Same.{SameListing, SameAnswer}
use Rattle.rules.specs.Refusals.{Answer, accepted, refused, ◌>>=◌, not_kept}
use Rattle.rules.proofs.Sameness.{same-listing-sym, same-listing-trans, same-answer-sym, same-answer-trans}
use Rattle.rules.proofs.Readings.{reading-room-same}
use Rattle.demands.specs.FirstSentence as FirstSentence
use Rattle.demands.specs.LastSentence as Ruled
use Rattle.demands.specs.LastSentence.{checkpoint_of}
use Rattle.demands.proofs.FirstSentence.{first-sentence, full-log-is-history}
use Rattle.demands.proofs.LastSentence.{last-sentence, stopped-halfway}
use Rattle.refusals.specs.Numbered.{numbered}
use Rattle.refusals.specs.declared.Refusal.TheVariants.{NotKept}
use Rattle.reading.specs.Answers.{ReadIs}
use Rattle.std.specs.Prelude.{Result, Err}
use Rattle.refusals.specs.declared.Refusal.{Refusal}
use Rattle.cleaning.specs.Answers.{cleaned_is, lent}
use Rattle.demands_upheld.specs.Seen.{SameRead, ReadsSame, DueSame}
use Rattle.demands_upheld.specs.Removing.{KeptOrNot, KeepsAnswers, Run, Runs, not-run, once_more}
use Rattle.demands_upheld.specs.Upheld.{Demand3}
use Rattle.demands_upheld.proofs.Ending.{counted-front}
use Rattle.demands_upheld.proofs.Refusing.{read-refused}
use Rattle.demands_upheld.proofs.Seen.{same_read, same-due}
use Rattle.reading.specs.declared.Listing.{Listing as CodeListing}

-- ---- any files but version 0

-- `full` is what the history answers
kept_or_not : (left : Log) (v : ℕ) (s t q : Bytes) (room after room' after' : Room) (r r' : Result CodeListing Refusal) (full : Answer Listing)
    → SameAnswer SameListing full (reading (length room) s q (the_version v)) → FirstSentence.KeptOrNot left v full (reading (length room') t q (the_version v))
    → ReadIs s q (the_version v) room after r → ReadIs t q (the_version v) room' after' r' → KeptOrNot left v s t after after' r r'
unfolding numbered
kept_or_not left v s t q room after room' after' r r' full whole k c c' =
    record { either = sides k.either; exactly-when = Iff.trans not-kept k.exactly-when }
  where
    not-kept : (r' ≡ Err NotKept) ↔ (reading (length room') t q (the_version v) ≡ refused not_kept)
    not-kept = read-refused t q (the_version v) room' after' r' c' NotKept

    sides : SameAnswer SameListing full (reading (length room') t q (the_version v)) ⊎ (reading (length room') t q (the_version v) ≡ refused not_kept)
        → SameRead s t after after' r r' ⊎ (r' ≡ Err NotKept)
    sides (inr e) = inr (not-kept.1 e)
    sides (inl h) =
        let same = same-answer-trans (λ a b d. same-listing-trans) (same-answer-sym (λ a b. same-listing-sym) whole) h in
        inl (same_read s t room after room' after' q (the_version v) r r' same c c')

-- ---- files the cleaner named

reads_same : (s t q : Bytes) (asked : Asked) → ((room : ℕ) → SameAnswer SameListing (reading room s q asked) (reading room t q asked)) → ReadsSame s t q asked
reads_same s t q asked h room after room' after' r r' long long' c c' =
    let e = reading-room-same (length room) (length room') t q asked long long' in
    same_read s t room after room' after' q asked r r' (subst (SameAnswer SameListing (reading (length room) s q asked)) e (h (length room))) c c'

-- rooms that are long enough are all one here too
due-room-same : (a b : ℕ) (s : Bytes) (asked : Asked) (time : ℕ) → rows_room ≤ a → rows_room ≤ b → due a s asked time ≡ due b s asked time
unfolding due
due-room-same a b s asked time h k =
    ap (λ (o : Answer Listing). o >>= (λ l. accepted (due_listing time l))) (reading-room-same a b s (ascii "[]") asked h k)

dues-same : (s t : Bytes) (time : ℕ) → ((room : ℕ) → SameAnswer SameListing (due room s the_latest time) (due room t the_latest time)) → DueSame s t time
dues-same s t time h room after room' after' r r' long long' c c' =
    let e = due-room-same (length room) (length room') t the_latest time long long' in
    same-due s t room after room' after' time r r' (subst (SameAnswer SameListing (due (length room) s the_latest time)) e (h (length room))) c c'

keeps-read : (c : ℕ) (s t : Bytes) → Ruled.KeepsAnswers c s t → KeepsAnswers c s t
keeps-read c s t k = record {
  by_number = λ q v l. reads_same s t q (the_version v) (λ room. k.by_number room q v l);
  the-latest = λ q. reads_same s t q the_latest (λ room. k.the-latest room q);
  due = λ time. dues-same s t time (λ room. k.due room time);
}

-- a run of the code is one of the rules
run-ruled : {s t : Bytes} {fs gs : List File} → Run s t fs gs → Ruled.Run s t fs gs
unfolding cleaned_is names_after_cleaning
run-ruled {s = s} r =
    let lends = lent r.room r.one r.two in
    let ruled = cleaning lends s r.now r.retention in
    let k = counted-front names_room ruled (accepted r.n) r.cleaned.answer r.room r.names r.cleaned.names r.n refl in
    record {
      lent = lends;
      now = r.now;
      retention = r.retention;
      es = take r.n r.names;
      before = r.before;
      names = k.1 ∙ ap accepted k.2;
      after = r.after;
      removed = r.removed;
    }

runs-ruled : {s t : Bytes} → Runs s t → Ruled.Cleaned s t
runs-ruled not-run = Ruled.not-run
runs-ruled (once_more r more) = Ruled.once_more (run-ruled r) (runs-ruled more)

pub demand-3 : Demand3
demand-3 = record {
  first = λ s t q fs gs cs n v room after room' after' r r' es full et w l eq long long'.
      kept_or_not (log_of gs) v s t q room after room' after' r r' (history_listing cs (log_of fs) v)
      (full-log-is-history s q fs cs n v (length room) es full l eq long) (first-sentence s t q fs gs cs n v (length room') es full et w l eq long');
  last = λ s t fs gs r. keeps-read (checkpoint_of fs) s t (last-sentence s t fs gs (run-ruled r));
  halfway = λ s t fs e r. keeps-read (checkpoint_of fs) s t (stopped-halfway s t fs e (runs-ruled r));
}

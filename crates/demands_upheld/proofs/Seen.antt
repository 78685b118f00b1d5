-- What a caller sees of two readings that the rules answer the same: the same answer, and rows that point at lines of the same facts.
use mathlib.Core.Path.{◌≡◌, refl, sym, ◌∙◌, ap, subst}
use mathlib.Core.List.{List, ◌∷◌, ◌++◌}
use Prim.Native.Nat.{ℕ, zero, suc, ◌*◌, ◌<◌}
use native.Mathlib.Omega.{arith}
use lib.ListN.{length, take, drop, length-append}
use lib.Seq.{take_at, drop_at}
use Rattle.facts.specs.Lists.{All}
use Rattle.rules.specs.Bytes.{Bytes}
use Rattle.rules.specs.Actions.{Skip}
use Rattle.rules.specs.Live.{Row}
use Rattle.rules.specs.Rooms.{Room, filled, leaves, row_width, row_numbers, rows_numbers}
use Rattle.rules.specs.Reading.{Asked, the_latest, told, reading, room_after_reading}
use Rattle.rules.specs.Reading.{Listing as Ruled}
use Rattle.rules.specs.Due.{due}
use Rattle.rules.specs.Same.{SameRows, no_rows, row, SameListing, SameAnswer, both-accepted, both-refused}
use Rattle.rules.specs.Refusals.{Refusal, Answer, accepted, refused}
use Rattle.rules.proofs.Tests.{apart}
use Rattle.rules.proofs.Answers.{refused-number}
use Rattle.rules.proofs.Telling.{told-count, told_same}
use Rattle.demands.specs.Showing.{IsAdd}
use Rattle.demands.specs.Places.{StandsIn}
use Rattle.demands.proofs.Places.{rows-stand-in-the-bundle, due-rows-stand-in-the-bundle}
use Rattle.reading.specs.Answers.{read_is, AnswerIs, ReadIs, DueIs}
use Rattle.std.specs.Prelude.{Result, Ok, Err}
use Rattle.reading.specs.declared.Listing.{Listing}
use Rattle.reading.proofs.Alone.{read_is-alone}
use Rattle.demands_upheld.specs.Seen.{row_in, RowSays, SameRow, SameRead, both-listed, both-refused as refused-both}
use Rattle.refusals.specs.declared.Refusal.{Refusal as CodeRefusal}

-- ---- rows

stands-says : (s : Bytes) (r : Row) → StandsIn s r → RowSays s (row_numbers r) r.facts r.skip
unfolding row_numbers
stands-says s r p =
    let onward : drop r.at s ≡ p.line ++ p.behind = ap (drop r.at) p.parts ∙ drop_at p.before _ r.at p.place in
    let line : take r.size (drop r.at s) ≡ p.line = ap (take r.size) onward ∙ take_at p.line p.behind r.size p.long in
    record {
      at = r.at;
      long = r.size;
      six = refl;
      within = omega (arith, ap length p.parts, length-append p.before (p.line ++ p.behind), length-append p.line p.behind);
      adds = subst (λ (x : Bytes). IsAdd x r.facts) (sym line) p.says;
    }

-- the first row of a room, and those behind it
row_first : (r : Row) (rs : List Row) (rest : Room) → row_in (rows_numbers (r ∷ rs) ++ rest) 0 ≡ row_numbers r
unfolding row_width rows_numbers row_numbers
row_first r rs rest = refl

row-behind : (r : Row) (rs : List Row) (rest : Room) (k : ℕ) → row_in (rows_numbers (r ∷ rs) ++ rest) (suc k) ≡ row_in (rows_numbers rs ++ rest) k
unfolding row_width rows_numbers row_numbers
row-behind r rs rest k =
    let e : suc k * 6 ≡ suc (suc (suc (suc (suc (suc (k * 6)))))) = omega arith in
    ap (λ (n : ℕ). take 6 (drop n (rows_numbers (r ∷ rs) ++ rest))) e

module _ (s t : Bytes) (rest rest' : Room) where
  rows_seen : {rs ss : List Row} → SameRows rs ss → All (StandsIn s) rs → All (StandsIn t) ss → (k : ℕ) → k < length rs
      → SameRow s t (row_in (rows_numbers rs ++ rest) k) (row_in (rows_numbers ss ++ rest') k)
  unfolding All row_numbers
  rows_seen no_rows a b k l = absurd (omega arith)
  rows_seen (row {r = r} {s = u} {rs = rs} {ss = us} f e h) a b zero l =
      rw (row_first r rs rest, row_first u us rest')
      (record {
        f = r.facts;
        g = u.facts;
        skip = r.skip;
        in-s = stands-says s r a.0;
        in-t = subst (RowSays t (row_numbers u) u.facts) (sym e) (stands-says t u b.0);
        facts = f;
        numbers = cc (f.size, f.modification_time, ap (λ (k : Skip). k.count) e, ap (λ (k : Skip). k.retry_after) e);
      })
  rows_seen (row {r = r} {s = u} {rs = rs} {ss = us} f e h) a b (suc k) l =
      rw (row-behind r rs rest k, row-behind u us rest' k) (rows_seen h a.1 b.1 k (omega arith))

-- ---- answers

-- a room that an accepted answer left
room-rows : (l : Ruled) (room after : Room) → after ≡ room_after_reading (accepted l) room → (rest : Room) × (after ≡ rows_numbers l.rows ++ rest)
unfolding room_after_reading leaves filled
room-rows l room after e = (_, e)

module _ (s t : Bytes) (room after room' after' : Room) where
  rooms : {z z' : Room} → z ≡ after → z' ≡ after' → (k : ℕ) → SameRow s t (row_in z k) (row_in z' k) → SameRow s t (row_in after k) (row_in after' k)
  rooms {z' = z'} e f k h = subst (λ (x : Room). SameRow s t (row_in after k) (row_in x k)) f (subst (λ (x : Room). SameRow s t (row_in x k) (row_in z' k)) e h)

  same-listed : (l m : Ruled) → SameListing l m → All (StandsIn s) l.rows → All (StandsIn t) m.rows → (r r' : Result Listing CodeRefusal)
      → AnswerIs (accepted l) room after r → AnswerIs (accepted m) room' after' r' → SameRead s t after after' r r'
  unfolding read_is told
  same-listed l m h a b (Err x) r' c c' = let e = c.answer in apart (cc)
  same-listed l m h a b (Ok x) r' c c' =
      let e : Ok x ≡ r' = read_is-alone (Ok x) r' (c.answer ∙ told_same h ∙ sym c'.answer) in
      let count : length l.rows ≡ x.rows = told-count l _ (sym c.answer) in
      let (rest, f) = room-rows l room after c.holds in
      let (rest', g) = room-rows m room' after' c'.holds in
      subst (SameRead s t after after' (Ok x)) e
      (both-listed x (λ k n. rooms (sym f) (sym g) k (rows_seen s t rest rest' h.rows a b k (omega arith))))

  same-refused : (x y : Refusal) → x.number ≡ y.number → (r r' : Result Listing CodeRefusal) → read_is r ≡ refused x → read_is r' ≡ refused y
      → SameRead s t after after' r r'
  unfolding read_is
  same-refused x y h (Ok l) r' e f = apart (cc)
  same-refused x y h (Err a) (Ok m) e f = apart (cc)
  same-refused x y h (Err a) (Err b) e f = refused-both a b (refused-number e ∙ h ∙ sym (refused-number f))

  same-answered : {o o' : Answer Ruled} → SameAnswer SameListing o o' → ((l : Ruled) → o ≡ accepted l → All (StandsIn s) l.rows)
      → ((l : Ruled) → o' ≡ accepted l → All (StandsIn t) l.rows) → (r r' : Result Listing CodeRefusal)
      → AnswerIs o room after r → AnswerIs o' room' after' r' → SameRead s t after after' r r'
  unfolding told
  same-answered (both-accepted {a = l} {b = m} h) p p' r r' c c' = same-listed l m h (p l refl) (p' m refl) r r' c c'
  same-answered (both-refused {r = x} {s = y} h) p p' r r' c c' = same-refused x y h r r' c.answer c'.answer

  -- what the rules answer the same is read the same
  pub same_read : (q : Bytes) (asked : Asked) (r r' : Result Listing CodeRefusal)
      → SameAnswer SameListing (reading (length room) s q asked) (reading (length room') t q asked)
      → ReadIs s q asked room after r → ReadIs t q asked room' after' r' → SameRead s t after after' r r'
  same_read q asked r r' h c c' =
      same-answered h (rows-stand-in-the-bundle (length room) s q asked) (rows-stand-in-the-bundle (length room') t q asked) r r' c c'

  -- and so of what is due
  pub same-due : (time : ℕ) (r r' : Result Listing CodeRefusal)
      → SameAnswer SameListing (due (length room) s the_latest time) (due (length room') t the_latest time)
      → DueIs s time room after r → DueIs t time room' after' r' → SameRead s t after after' r r'
  same-due time r r' h c c' =
      same-answered h (due-rows-stand-in-the-bundle (length room) s the_latest time) (due-rows-stand-in-the-bundle (length room') t the_latest time) r r' c c'

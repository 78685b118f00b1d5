-- The promise of each entry fixes the answer and the room: what two of them allow is the same.
use mathlib.Core.Path.{◌≡◌, sym, ap, ◌∙◌}
use Rattle.rules.specs.Bytes.{Bytes}
use Rattle.rules.specs.Rooms.{Room}
use Rattle.rules.specs.Reading.{Asked, the_latest, the_version, Told}
use Rattle.rules.proofs.Tests.{apart}
use Rattle.file_names.specs.declared.Millis.{Millis}
use Rattle.file_names.specs.declared.Version.{Version}
use Rattle.refusals.specs.Numbered.{numbered}
use Rattle.refusals.proofs.Alone.{numbered-alone}
use Rattle.reading.specs.Answers.{read_is, ReadIs, DueIs}
use Rattle.reading.specs.declared.Listing.{Listing}
use Rattle.std.specs.Prelude.{Result, Ok, Err}
use Rattle.refusals.specs.declared.Refusal.{Refusal}

-- what is told of a listing is all of it
listing_of : Told → Listing
listing_of s = record { version = record { 0 = s.version }; rows = s.count; reader = s.reader; writer = s.writer; writable = s.can_write }

pub read_is-alone : (r s : Result Listing Refusal) → read_is r ≡ read_is s → r ≡ s
unfolding read_is listing_of
read_is-alone (Ok l) (Ok m) e =
    let same : ◌≡◌ {A = Told} (record { version = l.version.0; count = l.rows; reader = l.reader; writer = l.writer; can_write = l.writable })
    (record { version = m.version.0; count = m.rows; reader = m.reader; writer = m.writer; can_write = m.writable }) = cc in
    ap (λ (x : Told). Ok (listing_of x)) same
read_is-alone (Ok l) (Err y) e = apart (cc)
read_is-alone (Err x) (Ok m) e = apart (cc)
read_is-alone (Err x) (Err y) e =
    let same : numbered x ≡ numbered y = cc in
    ap Err (numbered-alone x y same)

pub read-alone : (src q : Bytes) (asked : Asked) (room after later : Room) (r s : Result Listing Refusal) → ReadIs src q asked room after r
    → ReadIs src q asked room later s
    → (r ≡ s) × (after ≡ later)
read-alone src q asked room after later r s a b = (read_is-alone r s (a.answer ∙ sym b.answer), a.holds ∙ sym b.holds)

pub read-at-alone : (src q : Bytes) (v : Version) (room after later : Room) (r s : Result Listing Refusal) → ReadIs src q (the_version v.0) room after r
    → ReadIs src q (the_version v.0) room later s
    → (r ≡ s) × (after ≡ later)
read-at-alone src q v = read-alone src q (the_version v.0)

pub read-latest-alone : (src q : Bytes) (room after later : Room) (r s : Result Listing Refusal) → ReadIs src q the_latest room after r
    → ReadIs src q the_latest room later s
    → (r ≡ s) × (after ≡ later)
read-latest-alone src q = read-alone src q the_latest

pub read-due-alone : (src : Bytes) (time : Millis) (room after later : Room) (r s : Result Listing Refusal) → DueIs src time.0 room after r
    → DueIs src time.0 room later s
    → (r ≡ s) × (after ≡ later)
read-due-alone src time room after later r s a b = (read_is-alone r s (a.answer ∙ sym b.answer), a.holds ∙ sym b.holds)

-- The program: what it prints for what it reads from standard input.
use Rattle.std.specs.Prelude.{Bool, true, false, List, [], ◌∷◌, ◌++◌, ℕ, leb, length, take, drop}
use Rattle.std.specs.Prelude.{Option, None, Some}
use Rattle.rules.specs.Bytes.{Bytes, ascii}
use Rattle.rules.specs.Numbers.{spell}
use Rattle.rules.specs.Actions.{path_shown}
use Rattle.rules.specs.Live.{Row}
use Rattle.rules.specs.Rooms.{rows_room}
use Rattle.rules.specs.Reading.{the_latest, Listing, reading}
use Rattle.rules.specs.Refusals.{Refusal, Answer, accepted, refused, bundle_malformed}

-- a bundle of at most 65,536 bytes; longer: refusal 2
unfoldable pub most_input : ℕ
most_input = 65_536

-- the latest version under the query []
unfoldable pub listed : Bytes → Answer Listing
listed s = elim (leb (length s) most_input) [ true ↦ reading rows_room s (ascii "[]") the_latest | false ↦ refused bundle_malformed ]

-- ---- what is printed

unfoldable pub yes_no : Bool → Bytes
yes_no true = ascii "yes"
yes_no false = ascii "no"

unfoldable pub or_dash : Option ℕ → Bytes
or_dash None = ascii "-"
or_dash (Some n) = spell n

-- the line that a row points at
unfoldable pub line_of : Bytes → Row → Bytes
line_of s r = take r.size (drop r.at s)

-- version, row count, both protocol numbers and writable
unfoldable pub header : Listing → Bytes
header l =
    ascii "version " ++ (spell l.version
    ++ (ascii " files " ++ (spell (length l.rows)
    ++ (ascii " reader " ++ (spell l.in_force.min_reader_version
    ++ (ascii " writer " ++ (spell l.in_force.min_writer_version
    ++ (ascii " writable " ++ (yes_no l.can_write
    ++ ascii "\n")))))))))

-- raw quoted path, size, modificationTime, numRecords or -
unfoldable pub row_line : Bytes → Row → Bytes
row_line s r =
    ascii "\"" ++ (path_shown (line_of s r)
    ++ (ascii "\" " ++ (spell r.facts.size
    ++ (ascii " " ++ (spell r.facts.modification_time
    ++ (ascii " " ++ (or_dash r.facts.num_records
    ++ ascii "\n")))))))

unfoldable pub row_lines : Bytes → List Row → Bytes
row_lines s [] = []
row_lines s (r ∷ rs) = row_line s r ++ row_lines s rs

unfoldable pub refusal_line : Refusal → Bytes
refusal_line r =
    ascii "refused " ++ (spell r.number
    ++ (ascii " entry " ++ (spell r.entry
    ++ (ascii " line " ++ (spell r.line
    ++ ascii "\n")))))

unfoldable pub printed_by : Bytes → Answer Listing → Bytes
printed_by s (accepted l) = header l ++ row_lines s l.rows
printed_by s (refused r) = refusal_line r

unfoldable pub printed : Bytes → Bytes
printed s = printed_by s (listed s)

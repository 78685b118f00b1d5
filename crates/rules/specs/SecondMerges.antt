-- Examples of files waiting for a second merge, in tables of the same form as P1 to P12: which mergeskip lines are well formed, what they do to
-- the live files, which files are due, and the cleaner.
use Rattle.std.specs.Prelude.{List, [], ◌∷◌, ℕ, zero, suc}
use Prim.Native.String.{String, ◌++◌ as ◌+++◌}
use Rattle.rules.specs.Bytes.{Bytes, ascii}
use Rattle.rules.specs.Reading.{the_latest, the_version}
use Rattle.rules.specs.Samples.{Sample, file, bundle_of}
use Rattle.rules.specs.Edges.{Question, within, mark, read, lent, table, awaits, clean, clean_lent, Says, live, marked, listed, numbers, refusal}
use Rattle.rules.specs.Edges.{add_of, remove_of, v0, v1, v3, table_of, checkpoint_at_two, m2}
use Rattle.rules.specs.Examples.{protocolled, reader, add_in, version_one, cleanable, agreeing}

-- ---- which lines are well formed

-- a mergeskip line with these fields
unfoldable pub skip_with : (fields : String) → String
skip_with fs = "{'mergeskip':{" +++ fs +++ "}}"

-- one of path a
unfoldable pub skip_a : (fields : String) → String
skip_a fs = skip_with ("'path':'a'" +++ fs)

unfoldable pub repeated : ℕ → String
repeated zero = ""
repeated (suc n) = "a" +++ repeated n

-- what is said of a live file a
unfoldable pub of_a : (count time : ℕ) → Says
of_a n t = marked ((ascii "a", (n, t)) ∷ [])

-- an add of a, and a mergeskip line of it with these fields
unfoldable pub said_of_a : (fields : String) → Question
said_of_a fs = mark (add_of "a" ∷ skip_a fs ∷ [])

unfoldable pub skip_counts : List (Question × Says)
skip_counts =
    -- missing is 1; whole numbers from 0 to 2,147,483,647; null is no number, and twice is malformed
    (said_of_a "", of_a 1 0)
    ∷ (said_of_a ",'skipCount':0", of_a 0 0)
    ∷ (said_of_a ",'skipCount':2147483647", of_a 2_147_483_647 0)
    ∷ (said_of_a ",'skipCount':2147483648", refusal 6 0 2)
    ∷ (said_of_a ",'skipCount':-1", refusal 6 0 2)
    ∷ (said_of_a ",'skipCount':1.0", refusal 6 0 2)
    ∷ (said_of_a ",'skipCount':'1'", refusal 6 0 2)
    ∷ (said_of_a ",'skipCount':null", refusal 6 0 2)
    ∷ (said_of_a ",'skipCount':1,'skipCount':1", refusal 6 0 2)
    ∷ []

unfoldable pub retry_times : List (Question × Says)
retry_times =
    -- missing or null is zero; whole numbers up to 2^63 - 1; twice is malformed
    (said_of_a ",'retryAfter':null", of_a 1 0)
    ∷ (said_of_a ",'retryAfter':0", of_a 1 0)
    ∷ (said_of_a ",'skipCount':0,'retryAfter':7", of_a 0 7)
    ∷ (said_of_a ",'retryAfter':9223372036854775807", of_a 1 9_223_372_036_854_775_807)
    ∷ (said_of_a ",'retryAfter':9223372036854775808", refusal 6 0 2)
    ∷ (said_of_a ",'retryAfter':-1", refusal 6 0 2)
    ∷ (said_of_a ",'retryAfter':true", refusal 6 0 2)
    ∷ (said_of_a ",'retryAfter':5,'retryAfter':null", refusal 6 0 2)
    ∷ []

unfoldable pub malformed_skips : List (Question × Says)
malformed_skips =
    -- an object, and in it a path as an add's: there, once, a string of 1 to 512 bytes
    (mark ("{'mergeskip':null}" ∷ []), refusal 6 0 1)
    ∷ (mark ("{'mergeskip':[]}" ∷ []), refusal 6 0 1)
    ∷ (mark ("{'mergeskip':1}" ∷ []), refusal 6 0 1)
    ∷ (mark ("{'mergeskip':{}}" ∷ []), refusal 6 0 1)
    ∷ (mark (skip_with "'skipCount':1" ∷ []), refusal 6 0 1)
    ∷ (mark (skip_with "'path':null" ∷ []), refusal 6 0 1)
    ∷ (mark (skip_with "'path':''" ∷ []), refusal 6 0 1)
    ∷ (mark (skip_with "'path':'a','path':'a'" ∷ []), refusal 6 0 1)
    ∷ (mark (skip_with ("'path':'" +++ repeated 512 +++ "'") ∷ []), marked [])
    ∷ (mark (skip_with ("'path':'" +++ repeated 513 +++ "'") ∷ []), refusal 6 0 1)
    -- other fields are of any value and number
    ∷ (said_of_a ",'reason':1,'reason':2,'size':-1,'partitionValues':{'z':5},'skipcount':9", of_a 1 0)
    -- in version 0 any is malformed; in a checkpoint a malformed one makes it no start
    ∷ (
      read the_latest "[]" (bundle_of (file "00000000000000000000.json" 0 (table_of "" ∷ skip_a "" ∷ []) ∷ [])),
      refusal 6 0 2,
    )
    ∷ (
      read the_latest "[]" (bundle_of (file "00000000000000000000.json" 0 (skip_a ",'skipCount':null" ∷ table_of "" ∷ []) ∷ [])),
      refusal 6 0 1,
    )
    ∷ (
      read (the_version 3) "[]" (bundle_of (v0 ∷ v1 ∷ checkpoint_at_two (table_of "" ∷ add_of "a" ∷ "{'mergeskip':1}" ∷ []) ∷ v3 ∷ [])),
      refusal 5 0 0,
    )
    ∷ []

-- ---- what they do

unfoldable pub effects : List (Question × Says)
effects =
    -- 003's `skip` is of any value, and does nothing
    (mark (add_of "a" ∷ "{'skip':{'path':'a'}}" ∷ "{'skip':null}" ∷ []), of_a 0 0)
    -- a path not live; a later add clears both
    ∷ (mark (skip_a "" ∷ add_of "a" ∷ []), of_a 0 0)
    ∷ (mark (add_of "a" ∷ skip_a ",'retryAfter':5" ∷ add_of "a" ∷ []), of_a 0 0)
    ∷ (mark (add_of "a" ∷ skip_a ",'retryAfter':5" ∷ remove_of "a" ∷ add_of "a" ∷ []), of_a 0 0)
    ∷ (mark (add_of "a" ∷ remove_of "a" ∷ skip_a "" ∷ add_of "a" ∷ []), of_a 0 0)
    -- the last line sets both
    ∷ (mark (add_of "a" ∷ skip_a ",'retryAfter':5" ∷ skip_a ",'skipCount':2" ∷ []), of_a 2 0)
    -- paths are compared as they are decoded; of three files one is marked
    ∷ (
      mark (add_of "a/b" ∷ add_of "a" ∷ add_of "b" ∷ skip_with "'path':'a\\u002fb','skipCount':3,'retryAfter':4" ∷ []),
      marked ((ascii "a", (0, 0)) ∷ (ascii "a/b", (3, 4)) ∷ (ascii "b", (0, 0)) ∷ []),
    )
    -- it makes no file live, so none is one too many
    ∷ (within 1 (add_of "a" ∷ skip_a "" ∷ skip_with "'path':'b'" ∷ []), live (ascii "a" ∷ []))
    ∷ []

-- version 1 adds a, of 1 byte at 1, version 2 skips it until 5
unfoldable pub skipped_later : Bytes
skipped_later = bundle_of (v0 ∷ version_one (add_of "a" ∷ []) ∷ file "00000000000000000002.json" 2 (skip_a ",'retryAfter':5" ∷ []) ∷ [])

unfoldable pub by_version : List (Question × Says)
by_version =
    -- place and length of the add's line, size, modificationTime, skip count, retry time
    (table (the_version 1) skipped_later, numbers (443 ∷ 89 ∷ 1 ∷ 1 ∷ 0 ∷ 0 ∷ []))
    ∷ (table (the_version 2) skipped_later, numbers (443 ∷ 89 ∷ 1 ∷ 1 ∷ 1 ∷ 5 ∷ []))
    -- rooms: one number short, and just long enough
    ∷ (lent 6_143 skipped_later, refusal 1 0 0)
    ∷ (lent 6_144 skipped_later, listed 2 (ascii "a" ∷ []))
    ∷ (clean_lent 6_143 6_144 (bundle_of (v0 ∷ [])), refusal 1 0 0)
    ∷ (clean_lent 6_144 6_143 (bundle_of (v0 ∷ [])), refusal 1 0 0)
    ∷ (clean_lent 6_144 6_144 (bundle_of (v0 ∷ [])), numbers [])
    ∷ []

-- ---- what is due

-- version 1 with an add of a and a line of it with these fields
unfoldable pub waiting : (fields : String) → Bytes
waiting fs = bundle_of (v0 ∷ version_one (add_of "a" ∷ skip_a fs ∷ []) ∷ [])

unfoldable pub the_one : Says
the_one = listed 1 (ascii "a" ∷ [])

unfoldable pub dues : List (Question × Says)
dues =
    (awaits 99 (waiting ",'retryAfter':100"), listed 1 [])
    ∷ (awaits 100 (waiting ",'retryAfter':100"), the_one)
    ∷ (awaits 101 (waiting ",'retryAfter':100"), the_one)
    -- a count of 0, and no line: not due; no retry time: due at once
    ∷ (awaits 100 (waiting ",'skipCount':0,'retryAfter':0"), listed 1 [])
    ∷ (awaits 100 (bundle_of (v0 ∷ v1 ∷ [])), listed 1 [])
    ∷ (awaits 0 (waiting ""), the_one)
    ∷ (awaits 18_446_744_073_709_551_615 (waiting ",'retryAfter':9223372036854775807"), the_one)
    -- in path order, not in the order of the lines
    ∷ (
      awaits 9 (bundle_of (v0 ∷ version_one (add_of "c" ∷ add_of "b" ∷ add_of "a" ∷ skip_with "'path':'c'" ∷ skip_with "'path':'a'" ∷ []) ∷ [])),
      listed 1 (ascii "a" ∷ ascii "c" ∷ []),
    )
    -- the refusals of reading: 2, 4, 6, 21, 8, 9
    ∷ (awaits 0 [], refusal 2 0 0)
    ∷ (awaits 0 (bundle_of []), refusal 4 0 0)
    ∷ (awaits 0 (waiting ",'skipCount':null"), refusal 6 1 2)
    ∷ (awaits 0 (bundle_of (v0 ∷ version_one (add_in "b" "a" ∷ []) ∷ [])), refusal 21 1 1)
    ∷ (awaits 0 (reader "4"), refusal 8 0 0)
    ∷ (awaits 0 (bundle_of (protocolled "'minReaderVersion':3,'minWriterVersion':9,'readerFeatures':['tea']" ∷ [])), refusal 9 0 0)
    -- over a gap, from the checkpoint that the marker names
    ∷ (
      awaits 0 (bundle_of (v0 ∷ v1 ∷ checkpoint_at_two (table_of "" ∷ add_of "a" ∷ skip_a "" ∷ []) ∷ v3 ∷ m2 ∷ [])),
      listed 3 (ascii "a" ∷ []),
    )
    ∷ []

-- ---- the cleaner

-- version 2 skips b once, until 5; the checkpoint at 3 says of b what these lines say
unfoldable pub compared_with : List String → Bytes
compared_with ls =
    bundle_of
    (v0
    ∷ version_one (add_of "b" ∷ [])
    ∷ file "00000000000000000002.json" 99 (skip_with "'path':'b','retryAfter':5" ∷ [])
    ∷ file "00000000000000000003.checkpoint.json" 0 ("{'protocol':{'minReaderVersion':1,'minWriterVersion':2}}" ∷ table_of "" ∷ ls)
    ∷ file "00000000000000000003.json" 0 ("{'txn':3}" ∷ [])
    ∷ file "_last_checkpoint" 0 ("{'version':3}" ∷ [])
    ∷ [])

unfoldable pub cleanings : List (Question × Says)
cleanings =
    -- the same; with the count left out; set twice
    (clean 100 10 (compared_with (add_of "b" ∷ skip_with "'path':'b','skipCount':1,'retryAfter':5" ∷ [])), numbers (1 ∷ []))
    ∷ (clean 100 10 (compared_with (add_of "b" ∷ skip_with "'path':'b','retryAfter':5" ∷ [])), numbers (1 ∷ []))
    ∷ (
      clean 100 10 (compared_with (add_of "b" ∷ skip_with "'path':'b','skipCount':9" ∷ skip_with "'path':'b','retryAfter':5" ∷ [])),
      numbers (1 ∷ []),
    )
    -- no line; another count; no time; before its add
    ∷ (clean 100 10 (compared_with (add_of "b" ∷ [])), refusal 13 0 0)
    ∷ (clean 100 10 (compared_with (add_of "b" ∷ skip_with "'path':'b','skipCount':2,'retryAfter':5" ∷ [])), refusal 13 0 0)
    ∷ (clean 100 10 (compared_with (add_of "b" ∷ skip_with "'path':'b','skipCount':1" ∷ [])), refusal 13 0 0)
    ∷ (clean 100 10 (compared_with (skip_with "'path':'b','retryAfter':5" ∷ add_of "b" ∷ [])), refusal 13 0 0)
    -- a line that sets what is so without it
    ∷ (
      clean 100 10 (cleanable 89 ("{'protocol':{'minReaderVersion':1,'minWriterVersion':2}}" ∷ add_of "b" ∷ skip_with "'path':'b','skipCount':0" ∷ [])),
      numbers (1 ∷ []),
    )
    ∷ []

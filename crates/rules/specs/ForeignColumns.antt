-- Examples of foreign partition columns, in tables of the same form as P1 to P12: which keys fit, which adds are held to which columns, and 21
-- among the other refusals.
use Rattle.std.specs.Prelude.{List, [], ◌∷◌}
use Prim.Native.String.{String, ◌++◌ as ◌+++◌}
use Rattle.rules.specs.Bytes.{Bytes, ascii}
use Rattle.rules.specs.Reading.{the_latest, the_version}
use Rattle.rules.specs.Samples.{file, bundle_of}
use Rattle.rules.specs.Edges.{Question, within, read, clean, Says, listed, numbers, refusal, add_of, table_of, checkpoint_at_two, m2}
use Rattle.rules.specs.Examples.{protocolled, having, add_in, tabled, version_one, with_one, from_two}

-- ---- which keys fit

-- an add with these partition values
unfoldable pub keyed : (values path : String) → String
keyed vs p = "{'add':{'path':'" +++ p +++ "','size':1,'modificationTime':1,'dataChange':true,'partitionValues':{" +++ vs +++ "}}}"

-- an add with these partition values on line 3 of entry 1, of a table with columns n and m
unfoldable pub on_line_three : (values : String) → Bytes
on_line_three vs = bundle_of (tabled "'n','m'" ∷ version_one ("{'txn':1}" ∷ "" ∷ keyed vs "x" ∷ []) ∷ [])

-- the same on line 1 of a table without columns
unfoldable pub without_columns : (values : String) → Bytes
without_columns vs = bundle_of (tabled "" ∷ version_one (keyed vs "x" ∷ []) ∷ [])

unfoldable pub keys : List (Question × Says)
keys =
    -- exactly the columns: in any order, null too, as they are decoded
    (read the_latest "[]" (on_line_three "'n':'1','m':'2'"), listed 1 (ascii "x" ∷ []))
    ∷ (read the_latest "[]" (on_line_three "'m':null,'n':null"), listed 1 (ascii "x" ∷ []))
    ∷ (read the_latest "[]" (on_line_three "'\\u006e':'','m':''"), listed 1 (ascii "x" ∷ []))
    -- none, fewer, more, another
    ∷ (read the_latest "[]" (on_line_three ""), refusal 21 1 3)
    ∷ (read the_latest "[]" (on_line_three "'n':'1'"), refusal 21 1 3)
    ∷ (read the_latest "[]" (on_line_three "'n':'1','m':'2','x':null"), refusal 21 1 3)
    ∷ (read the_latest "[]" (on_line_three "'n':'1','M':'2'"), refusal 21 1 3)
    -- malformed before foreign: a key twice, a value of another kind
    ∷ (read the_latest "[]" (on_line_three "'n':'1','n':'1'"), refusal 6 1 3)
    ∷ (read the_latest "[]" (on_line_three "'n':'1','x':1"), refusal 6 1 3)
    -- a table without columns
    ∷ (read the_latest "[]" (without_columns ""), listed 1 (ascii "x" ∷ []))
    ∷ (read the_latest "[]" (without_columns "'x':'1'"), refusal 21 1 1)
    ∷ []

-- ---- which adds are held to which columns

-- version 1 has a foreign add; a checkpoint at 2, which the marker names, has it too
unfoldable pub strayed : Bytes
strayed =
    bundle_of
    (tabled "'a'"
    ∷ version_one (add_in "b" "x" ∷ [])
    ∷ checkpoint_at_two (table_of "'a'" ∷ add_in "b" "x" ∷ [])
    ∷ file "00000000000000000002.json" 2 ("{'txn':2}" ∷ [])
    ∷ file "00000000000000000003.json" 3 (add_in "a" "y" ∷ [])
    ∷ m2
    ∷ [])

-- column a, a file under it, then the column is called b; a checkpoint behind that, which the marker names, holds the file under a
unfoldable pub renamed_below : Bytes
renamed_below =
    bundle_of
    (tabled "'a'"
    ∷ version_one (add_in "a" "x" ∷ [])
    ∷ checkpoint_at_two (table_of "'b'" ∷ add_in "a" "x" ∷ [])
    ∷ file "00000000000000000002.json" 2 (table_of "'b'" ∷ [])
    ∷ m2
    ∷ [])

unfoldable pub held_to : List (Question × Says)
held_to =
    -- in force at its line: the last metaData above it, in the same file too
    (read the_latest "[]" (with_one (table_of "'b'" ∷ add_in "b" "x" ∷ [])), listed 1 (ascii "x" ∷ []))
    ∷ (read the_latest "[]" (with_one (add_in "b" "x" ∷ table_of "'b'" ∷ [])), refusal 21 1 1)
    ∷ (read the_latest "[]" (with_one (add_in "a" "x" ∷ table_of "'b'" ∷ add_in "a" "y" ∷ [])), refusal 21 1 3)
    ∷ (read the_latest "[]" (with_one (add_in "a" "x" ∷ table_of "'b'" ∷ add_in "b" "y" ∷ [])), listed 1 (ascii "x" ∷ ascii "y" ∷ []))
    -- an add that replaces a file is held to it; a remove and a mergeskip are not
    ∷ (read the_latest "[]" (with_one (add_in "a" "x" ∷ add_in "b" "x" ∷ [])), refusal 21 1 2)
    ∷ (
      read the_latest "[]"
          (with_one ("{'remove':{'path':'x','partitionValues':{'b':'1'}}}" ∷ "{'mergeskip':{'path':'x','partitionValues':{'b':'1'}}}" ∷ [])),
      listed 1 [],
    )
    -- a checkpoint is not held to it; a version file behind it is, to the checkpoint's own columns
    ∷ (
      read (the_version 3) "[]" (from_two (table_of "'a'" ∷ add_in "b" "u" ∷ add_of "v" ∷ []) (add_in "a" "w" ∷ [])),
      listed 3 (ascii "u" ∷ ascii "v" ∷ ascii "w" ∷ []),
    )
    ∷ (read (the_version 3) "[]" (from_two (table_of "'a'" ∷ []) (add_in "x" "w" ∷ [])), refusal 21 2 1)
    -- a foreign add below a checkpoint: met by those who read it, the cleaner among them
    ∷ (read (the_version 0) "[]" strayed, listed 0 [])
    ∷ (read (the_version 1) "[]" strayed, refusal 21 1 1)
    ∷ (read (the_version 2) "[]" strayed, listed 2 (ascii "x" ∷ []))
    ∷ (read the_latest "[]" strayed, listed 3 (ascii "x" ∷ ascii "y" ∷ []))
    ∷ (clean 100 10 strayed, refusal 21 1 1)
    -- a true checkpoint behind a renaming
    ∷ (read the_latest "[]" renamed_below, listed 2 (ascii "x" ∷ []))
    ∷ (clean 100 10 renamed_below, numbers (1 ∷ []))
    ∷ []

-- ---- 21 among the other refusals

unfoldable pub orders : List (Question × Says)
orders =
    -- on one line 6, 21, 7, here with a limit of one file
    (within 1 (add_of "a" ∷ "{'add':{'path':'b','partitionValues':{'b':'1'}}}" ∷ []), refusal 6 0 2)
    ∷ (within 1 (add_of "a" ∷ add_in "b" "b" ∷ []), refusal 21 0 2)
    ∷ (within 1 (add_of "a" ∷ add_of "b" ∷ []), refusal 7 0 2)
    -- of two lines the first
    ∷ (read the_latest "[]" (with_one (add_in "b" "x" ∷ "{'add':1}" ∷ [])), refusal 21 1 1)
    ∷ (read the_latest "[]" (with_one ("{'add':1}" ∷ add_in "b" "x" ∷ [])), refusal 6 1 1)
    ∷ (within 1 (add_in "b" "a" ∷ add_of "b" ∷ add_of "c" ∷ []), refusal 21 0 1)
    ∷ (within 1 (add_of "a" ∷ add_of "b" ∷ add_in "b" "c" ∷ []), refusal 7 0 2)
    -- 5 before it; 8 and 11 after it
    ∷ (
      read (the_version 3) "[]" (bundle_of (tabled "'a'" ∷ version_one (add_in "b" "x" ∷ []) ∷ file "00000000000000000003.json" 3 (add_in "a" "y" ∷ []) ∷ [])),
      refusal 5 0 0,
    )
    ∷ (
      read the_latest (having "z") (bundle_of (protocolled "'minReaderVersion':9,'minWriterVersion':1" ∷ version_one (add_of "x" ∷ []) ∷ [])),
      refusal 21 1 1,
    )
    ∷ []

-- Examples beside P1 to P12, in tables of the same form: the program's listing, places of paths, both sides of edges, the metaData line that
-- came later, the tempting and wrong readings, and a small case for each refusal number.
use Rattle.std.specs.Prelude.{List, [], ◌∷◌, ◌++◌, ℕ, zero, suc, pos}
use Prim.Native.String.{String, ◌++◌ as ◌+++◌}
use Rattle.rules.specs.Bytes.{Bytes, ascii}
use Rattle.rules.specs.Names.{version, other, too_large}
use Rattle.rules.specs.Query.{number}
use Rattle.rules.specs.Reading.{the_latest, the_version}
use Rattle.rules.specs.Samples.{Sample, json, file, bundle_of}
use Rattle.rules.specs.Edges.{Question, name, numeral, apply, read, keep, clean, print, show, Says, named, value, live, listed, numbers, text, place}
use Rattle.rules.specs.Edges.{refusal, add_of, remove_of, v0, beside, v1, v3, table_of, checkpoint_at_two, c2, bare2, m2}

-- ---- the Program section's example, down to the printed text

unfoldable pub sized : (path size time : String) → String
sized p s t = "{'add':{'path':'" +++ p +++ "','size':" +++ s +++ ",'modificationTime':" +++ t +++ ",'dataChange':true,'partitionValues':{}}}"

unfoldable pub school : Bytes
school =
    bundle_of
    (v0
    ∷ file "00000000000000000001.json" 1 (sized "a.split" "100" "5" ∷ [])
    ∷ file "00000000000000000002.json" 2 (sized "b.split" "50" "6" ∷ [])
    ∷ file "00000000000000000003.json" 3 (remove_of "a.split" ∷ sized "b.split" "60" "7" ∷ [])
    ∷ [])

unfoldable pub listings : List (Question × Says)
listings =
    (print school, text (ascii "version 3 files 1 reader 1 writer 2 writable yes\n\"b.split\" 60 7 -\n"))
    ∷ (print (bundle_of []), text (ascii "refused 4 entry 0 line 0\n"))
    ∷ (print (bundle_of (v0 ∷ file "00000000000000000001.json" 1 (add_of "a" ∷ "" ∷ "{'add':{}}" ∷ []) ∷ [])), text (ascii "refused 6 entry 1 line 3\n"))
    ∷ []

-- ---- where the path stands in its line, by start and length

unfoldable pub places : List (Question × Says)
places =
    (show (add_of "a"), place 16 1)
    -- the same bytes stand earlier: in the key; behind white space, in an unknown field
    ∷ (show (add_of "add"), place 16 3)
    ∷ (show " { 'add' : {'copy':'a', 'p\\u0061th' : 'a' ,'size':1,'modificationTime':1,'dataChange':true,'partitionValues':{}}}", place 39 1)
    -- as it is spelled
    ∷ (show (add_of "a\\u002fb"), place 16 8)
    -- no well-formed add: a remove, an add without its size, a line feed
    ∷ (show (remove_of "a"), place 0 0)
    ∷ (show "{'add':{'path':'a','modificationTime':1,'dataChange':true,'partitionValues':{}}}", place 0 0)
    ∷ (show (add_of "a" +++ "\n"), place 0 0)
    ∷ []

-- ---- both sides of edges

-- version 0 with this protocol
unfoldable pub protocolled : String → Sample
protocolled p = file "00000000000000000000.json" 0 (("{'protocol':{" +++ p +++ "}}") ∷ "{'metaData':{'id':'t','partitionColumns':['year','n']}}" ∷ [])

unfoldable pub reader : String → Bytes
reader n = bundle_of (protocolled ("'minReaderVersion':" +++ n +++ ",'minWriterVersion':1") ∷ [])

-- versions 0 to 3, the third a checkpoint too, with version 0's metaData, which the marker names; version file 1 was modified at `time`
unfoldable pub cleanable : (time : ℕ) → (checkpoint : List String) → Bytes
cleanable time checkpoint =
    bundle_of
    (v0
    ∷ file "00000000000000000001.json" time (add_of "a" ∷ [])
    ∷ file "00000000000000000002.json" 99 (add_of "b" ∷ [])
    ∷ file "00000000000000000003.checkpoint.json" 0 (table_of "" ∷ checkpoint)
    ∷ file "00000000000000000003.json" 0 (remove_of "a" ∷ [])
    ∷ file "_last_checkpoint" 0 ("{'version':3}" ∷ [])
    ∷ [])

unfoldable pub agreeing : List String
agreeing = "{'protocol':{'minReaderVersion':1,'minWriterVersion':2}}" ∷ add_of "b" ∷ []

unfoldable pub sides : List (Question × Says)
sides =
    (read the_latest "[]" (reader "3"), listed 0 [])
    ∷ (read the_latest "[]" (reader "4"), refusal 8 0 0)
    -- age 10: equal to retention not named, one more named; nor is what was modified after now
    ∷ (clean 100 10 (cleanable 90 agreeing), numbers [])
    ∷ (clean 100 10 (cleanable 89 agreeing), numbers (1 ∷ []))
    ∷ (clean 100 0 (cleanable 101 agreeing), numbers (2 ∷ []))
    -- the other start: none, so nothing is named; the marker unusable, so nothing is named
    ∷ (clean 100 10 (bundle_of (v0 ∷ v1 ∷ c2 ∷ v3 ∷ m2 ∷ [])), numbers [])
    ∷ (clean 100 10 (bundle_of (v0 ∷ v1 ∷ c2 ∷ v3 ∷ file "_last_checkpoint" 0 ("{'version':2,'parts':null}" ∷ []) ∷ [])), numbers [])
    -- twenty digits, no fewer and no more
    ∷ (name "0000000000000000010.json", named other)
    ∷ (name "000000000000000000010.json", named other)
    ∷ (name "99999999999999999999.checkpoint.json", named too_large)
    ∷ (name "99999999999999999999.jsonl", named other)
    ∷ []

-- ---- the metaData line that came later

-- whether a file has a value in this column that is not before the empty text: any that it has
unfoldable pub having : (column : String) → String
having c = "[{'column':'" +++ c +++ "','as':'text','op':'ge','value':''}]"

unfoldable pub add_in : (column path : String) → String
add_in c p = "{'add':{'path':'" +++ p +++ "','size':1,'modificationTime':1,'dataChange':true,'partitionValues':{'" +++ c +++ "':'1'}}}"

-- version 0 with these columns
unfoldable pub tabled : (columns : String) → Sample
tabled cs = file "00000000000000000000.json" 0 (table_of cs ∷ [])

unfoldable pub version_one : List String → Sample
version_one ls = file "00000000000000000001.json" 1 ls

-- column a, a file under it, then the column is called b
unfoldable pub renamed : Bytes
renamed = bundle_of (tabled "'a'" ∷ version_one (add_in "a" "x" ∷ []) ∷ file "00000000000000000002.json" 2 (table_of "'b'" ∷ []) ∷ [])

-- version 0 and a version file with these lines
unfoldable pub with_one : List String → Bytes
with_one ls = bundle_of (tabled "'a'" ∷ version_one ls ∷ [])

-- version 0, a checkpoint at 2 and a version file 3, each with these lines
unfoldable pub from_two : (at-two at-three : List String) → Bytes
from_two ls ms = bundle_of (tabled "'x'" ∷ checkpoint_at_two ls ∷ file "00000000000000000003.json" 3 ms ∷ [])

-- versions 0 to 2 of columns a and b, with a checkpoint at 2, which the marker names
unfoldable pub cleaned_with : (checkpoint : List String) → Bytes
cleaned_with ls =
    bundle_of
    (tabled "'a','b'"
    ∷ version_one ("{'txn':1}" ∷ [])
    ∷ checkpoint_at_two ls
    ∷ file "00000000000000000002.json" 2 ("{'txn':2}" ∷ [])
    ∷ m2
    ∷ [])

unfoldable pub meta_data_later : List (Question × Says)
meta_data_later =
    (read (the_version 0) (having "a") renamed, listed 0 [])
    ∷ (read (the_version 1) (having "a") renamed, listed 1 (ascii "x" ∷ []))
    ∷ (read (the_version 2) (having "a") renamed, refusal 11 0 0)
    ∷ (read (the_version 0) (having "b") renamed, refusal 11 0 0)
    ∷ (read (the_version 1) (having "b") renamed, refusal 11 0 0)
    ∷ (read the_latest (having "b") renamed, listed 2 [])
    ∷ (read the_latest "[]" renamed, listed 2 (ascii "x" ∷ []))
    -- the last in a file counts
    ∷ (read the_latest (having "b") (with_one (table_of "'b'" ∷ add_in "b" "x" ∷ table_of "'c','b'" ∷ [])), listed 1 (ascii "x" ∷ []))
    ∷ (read the_latest (having "c") (with_one (table_of "'b'" ∷ add_in "b" "x" ∷ table_of "'c','b'" ∷ [])), listed 1 [])
    ∷ (read the_latest (having "a") (with_one (table_of "'b'" ∷ add_in "b" "x" ∷ table_of "'c','b'" ∷ [])), refusal 11 0 0)
    -- a malformed one; version 0 must have its own
    ∷ (read the_latest "[]" (with_one ("" ∷ "{'metaData':{'id':'','partitionColumns':[]}}" ∷ [])), refusal 6 1 2)
    ∷ (read the_latest "[]" (bundle_of (file "00000000000000000000.json" 0 ("{'x':1}" ∷ []) ∷ version_one (table_of "" ∷ []) ∷ [])), refusal 6 0 0)
    -- a checkpoint brings its own, the last of several; a version file behind it may bring another
    ∷ (read (the_version 3) (having "c") (from_two (table_of "'a'" ∷ add_in "c" "y" ∷ table_of "'c','b'" ∷ []) ("{'txn':1}" ∷ [])), listed 3 (ascii "y" ∷ []))
    ∷ (read (the_version 3) (having "a") (from_two (table_of "'a'" ∷ add_in "c" "y" ∷ table_of "'c','b'" ∷ []) ("{'txn':1}" ∷ [])), refusal 11 0 0)
    ∷ (read (the_version 3) (having "x") (from_two (table_of "'a'" ∷ []) ("{'txn':1}" ∷ [])), refusal 11 0 0)
    ∷ (read (the_version 3) (having "a") (from_two (table_of "'b'" ∷ []) (table_of "'a'" ∷ [])), listed 3 [])
    -- one without is no start: nothing reaches 3; also at version 0; the marker that names it is unusable, and 3 is reached from version 0
    ∷ (read (the_version 3) "[]" (from_two (add_of "y" ∷ []) ("{'txn':1}" ∷ [])), refusal 5 0 0)
    ∷ (read the_latest "[]" (bundle_of (file "00000000000000000000.checkpoint.json" 0 (add_of "y" ∷ []) ∷ v0 ∷ [])), listed 0 [])
    ∷ (read the_latest "[]" (bundle_of (file "00000000000000000000.checkpoint.json" 0 (table_of "" ∷ add_of "y" ∷ []) ∷ v0 ∷ [])), listed 0 (ascii "y" ∷ []))
    ∷ (
      read the_latest "[]" (bundle_of (v0 ∷ v1 ∷ bare2 ∷ file "00000000000000000002.json" 2 (add_of "z" ∷ []) ∷ v3 ∷ m2 ∷ [])),
      listed 3 (ascii "a.split" ∷ ascii "b.split" ∷ ascii "z" ∷ []),
    )
    -- the cleaner: id and columns in order; other fields are no facts; without a metaData the marker is unusable, and nothing is named
    ∷ (clean 100 10 (cleaned_with (table_of "'a','b'" ∷ [])), numbers (1 ∷ []))
    ∷ (clean 100 10 (cleaned_with ("{'metaData':{'id':'t','name':'n','partitionColumns':['a','b']}}" ∷ [])), numbers (1 ∷ []))
    ∷ (clean 100 10 (cleaned_with (table_of "'b','a'" ∷ [])), refusal 13 0 0)
    ∷ (clean 100 10 (cleaned_with (table_of "'a'" ∷ [])), refusal 13 0 0)
    ∷ (clean 100 10 (cleaned_with (table_of "'a','b','c'" ∷ [])), refusal 13 0 0)
    ∷ (clean 100 10 (cleaned_with ("{'metaData':{'id':'u','partitionColumns':['a','b']}}" ∷ [])), refusal 13 0 0)
    ∷ (clean 100 10 (cleaned_with ("{'protocol':{'minReaderVersion':9,'minWriterVersion':1}}" ∷ table_of "'a'" ∷ [])), refusal 8 0 0)
    ∷ (clean 100 10 (cleaned_with (add_of "y" ∷ [])), numbers [])
    ∷ []

-- ---- tempting and wrong: a leading zero as octal; raw paths compared with escapes; "10" before "9" under number; a gap jumped over;
-- a bad checkpoint refused when another start reaches v

unfoldable pub pupil : (path n : String) → String
pupil p n = "{'add':{'path':'" +++ p +++ "','size':1,'modificationTime':1,'dataChange':true,'partitionValues':{'year':'2024','n':'" +++ n +++ "'}}}"

unfoldable pub pupils : Bytes
pupils =
    bundle_of
    (protocolled "'minReaderVersion':1,'minWriterVersion':1"
    ∷ file "00000000000000000001.json" 1 (pupil "ten" "10" ∷ pupil "nine" "9" ∷ pupil "none" "x" ∷ [])
    ∷ [])

unfoldable pub tempting : List (Question × Says)
tempting =
    (name "00000000000000000010.json", named (version 10))
    ∷ (numeral "010", value (number (pos 10)))
    ∷ (apply (add_of "a\\u002fb" ∷ remove_of "a\\/b" ∷ []), live [])
    ∷ (read the_latest "[{'column':'n','as':'number','op':'gt','value':'9'}]" pupils, listed 1 (ascii "ten" ∷ []))
    ∷ (read the_latest "[{'column':'n','as':'text','op':'gt','value':'9'}]" pupils, listed 1 (ascii "none" ∷ []))
    ∷ (read the_latest "[]" (bundle_of (v0 ∷ v1 ∷ v3 ∷ [])), listed 1 (ascii "a.split" ∷ []))
    ∷ (
      read (the_version 1) "[]" (bundle_of (v0 ∷ file "00000000000000000001.checkpoint.json" 1 (table_of "" ∷ "{'add':1}" ∷ []) ∷ v1 ∷ [])),
      listed 1 (ascii "a.split" ∷ []),
    )
    ∷ []

-- ---- refusals

unfoldable pub manifest_list : ℕ → Bytes
manifest_list zero = []
manifest_list (suc n) = json ",{'path':'m'}" ++ manifest_list n

-- n numbers, from k on
unfoldable pub count_from : ℕ → ℕ → List ℕ
count_from k zero = []
count_from k (suc n) = k ∷ count_from (suc k) n

-- a state of one manifest more than n
unfoldable pub state_of : ℕ → Bytes
state_of n = json "{'manifests':[{'path':'m','partitionBounds':{'n':{'min':'5','max':'07'}}}" ++ (manifest_list n ++ json "]}")

unfoldable pub refusals : List (Question × Says)
refusals =
    -- 2: a byte behind the last body; a name that is not below the next; five bytes and no entry
    (read the_latest "[]" (bundle_of (v0 ∷ v1 ∷ []) ++ 0 ∷ []), refusal 2 0 0)
    ∷ (read the_latest "[]" (bundle_of (v1 ∷ v0 ∷ [])), refusal 2 0 0)
    ∷ (read the_latest "[]" (bundle_of [] ++ 0 ∷ []), refusal 2 0 0)
    -- 3
    ∷ (read the_latest "[]" (beside "99999999999999999999.checkpoint.json"), refusal 3 0 0)
    -- 4
    ∷ (read the_latest "[]" (bundle_of (v1 ∷ [])), refusal 4 0 0)
    -- 5, also over a broken version 0
    ∷ (read (the_version 9) "[]" (bundle_of (file "00000000000000000000.json" 0 ("{}" ∷ []) ∷ v1 ∷ [])), refusal 5 0 0)
    -- 6: a line; a file with no object (line 0); version 0's metaData missing (line 0), there twice, and an add in it
    ∷ (read the_latest "[]" (bundle_of (v0 ∷ file "00000000000000000001.json" 1 ("" ∷ add_of "" ∷ []) ∷ [])), refusal 6 1 2)
    ∷ (read the_latest "[]" (bundle_of (v0 ∷ file "00000000000000000001.json" 1 ("" ∷ []) ∷ [])), refusal 6 1 0)
    ∷ (read the_latest "[]" (bundle_of (file "00000000000000000000.json" 0 ("{'x':1}" ∷ []) ∷ [])), refusal 6 0 0)
    ∷ (
      read the_latest "[]"
          (bundle_of
          (file "00000000000000000000.json" 0 ("{'metaData':{'id':'t','partitionColumns':[]}}" ∷ "{'metaData':{'id':'t','partitionColumns':[]}}" ∷ []) ∷ [])),
      refusal 6 0 2,
    )
    ∷ (
      read the_latest "[]" (bundle_of (file "00000000000000000000.json" 0 (add_of "a" ∷ "{'metaData':{'id':'t','partitionColumns':[]}}" ∷ []) ∷ [])),
      refusal 6 0 1,
    )
    -- 7 takes 1,025 lines, and stands in crate limits; 8 is among the sides of edges; 9
    ∷ (read the_latest "[]" (bundle_of (protocolled "'minReaderVersion':3,'minWriterVersion':9,'readerFeatures':['footerOffsets','tea']" ∷ [])), refusal 9 0 0)
    -- 10, before 2
    ∷ (read the_latest "[{'column':'n','value':'1','as':'text','op':'eq'}]" [], refusal 10 0 0)
    -- 11, after 8
    ∷ (read the_latest "[{'column':'m','as':'text','op':'eq','value':'1'}]" (reader "3"), refusal 11 0 0)
    ∷ (read the_latest "[{'column':'m','as':'text','op':'eq','value':'1'}]" (reader "4"), refusal 8 0 0)
    -- 12: the checkpoint's own protocol; 13
    ∷ (clean 100 10 (cleanable 0 ("{'protocol':{'minReaderVersion':1,'minWriterVersion':4}}" ∷ add_of "b" ∷ [])), refusal 12 0 0)
    ∷ (clean 100 10 (cleanable 0 ("{'protocol':{'minReaderVersion':1,'minWriterVersion':2}}" ∷ add_of "a" ∷ [])), refusal 13 0 0)
    -- 14; the first of three manifests kept and dropped; 15: 256 manifests accepted, one more refused
    ∷ (keep (json "{'manifests':[{'path':''}]}") (json "[]"), refusal 14 0 0)
    ∷ (keep (state_of 2) (json "[{'column':'n','as':'number','op':'gt','value':'6'}]"), numbers (0 ∷ 1 ∷ 2 ∷ []))
    ∷ (keep (state_of 2) (json "[{'column':'n','as':'number','op':'gt','value':'7'}]"), numbers (1 ∷ 2 ∷ []))
    ∷ (keep (state_of 255) (json "[]"), numbers (count_from 0 256))
    ∷ (keep (state_of 256) (json "[]"), refusal 15 0 0)
    ∷ []

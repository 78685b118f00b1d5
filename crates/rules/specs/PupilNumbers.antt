-- Examples of values out of range, in tables of the same form as P1 to P12: which values are, of which files, under which conditions; 18 among
-- the other refusals; bounds of manifests.
use Rattle.std.specs.Prelude.{List, [], ◌∷◌}
use Prim.Native.String.{String, ◌++◌ as ◌+++◌}
use Rattle.rules.specs.Bytes.{Bytes, ascii}
use Rattle.rules.specs.Reading.{the_latest, the_version}
use Rattle.rules.specs.Samples.{json, file, bundle_of}
use Rattle.rules.specs.Edges.{Question, read, awaits, keep, Says, listed, numbers, refusal, remove_of, table_of, comparing}
use Rattle.rules.specs.Examples.{protocolled, tabled, version_one}
use Rattle.rules.specs.ForeignColumns.{keyed}

-- ---- which values

-- a file x with this value in column n, as it is written in JSON, of a table with columns n and m
unfoldable pub numbered : (value : String) → Bytes
numbered v = bundle_of (tabled "'n','m'" ∷ version_one (keyed ("'n':" +++ v +++ ",'m':'5'") "x" ∷ []) ∷ [])

-- n is at least the least number
unfoldable pub any_number : String
any_number = comparing "-9223372036854775808"

unfoldable pub picks_it : Says
picks_it = listed 1 (ascii "x" ∷ [])

unfoldable pub picks_none : Says
picks_none = listed 1 []

unfoldable pub values : List (Question × Says)
values =
    -- in range, at both ends, and with zeros in front
    (read the_latest any_number (numbered "'9223372036854775807'"), picks_it)
    ∷ (read the_latest any_number (numbered "'-9223372036854775808'"), picks_it)
    ∷ (read the_latest any_number (numbered "'00000000000000000009'"), picks_it)
    -- of the shape, and beyond the ends
    ∷ (read the_latest any_number (numbered "'9223372036854775808'"), refusal 18 0 0)
    ∷ (read the_latest any_number (numbered "'-9223372036854775809'"), refusal 18 0 0)
    ∷ (read the_latest any_number (numbered "'99999999999999999999'"), refusal 18 0 0)
    ∷ (read the_latest any_number (numbered "'-99999999999999999999'"), refusal 18 0 0)
    ∷ (read the_latest any_number (numbered "'09223372036854775808'"), refusal 18 0 0)
    ∷ (read the_latest any_number (numbered "'18446744073709551617'"), refusal 18 0 0)
    -- no numbers: 21 digits, another shape, null
    ∷ (read the_latest any_number (numbered "'100000000000000000000'"), picks_none)
    ∷ (read the_latest any_number (numbered "'009223372036854775808'"), picks_none)
    ∷ (read the_latest any_number (numbered "'+9223372036854775808'"), picks_none)
    ∷ (read the_latest any_number (numbered "'9223372036854775808 '"), picks_none)
    ∷ (read the_latest any_number (numbered "'9223372036854775808.0'"), picks_none)
    ∷ (read the_latest any_number (numbered "'-'"), picks_none)
    ∷ (read the_latest any_number (numbered "''"), picks_none)
    ∷ (read the_latest any_number (numbered "null"), picks_none)
    ∷ []

-- ---- under which conditions

-- two conditions: column n, and column m, which has the value 5
unfoldable pub both : (n m : String) → String
both n m = "[{'column':'n'," +++ n +++ "},{'column':'m'," +++ m +++ "}]"

-- the same, m first
unfoldable pub both_turned : (n m : String) → String
both_turned n m = "[{'column':'m'," +++ m +++ "},{'column':'n'," +++ n +++ "}]"

unfoldable pub too_long : Bytes
too_long = numbered "'9223372036854775808'"

unfoldable pub conditions : List (Question × Says)
conditions =
    -- as text, of another column, and where nothing is asked
    (read the_latest "[{'column':'n','as':'text','op':'ge','value':''}]" too_long, picks_it)
    ∷ (read the_latest "[{'column':'m','as':'number','op':'ge','value':'0'}]" too_long, picks_it)
    ∷ (read the_latest "[]" too_long, picks_it)
    -- another condition fails, before it or behind it
    ∷ (read the_latest (both "'as':'number','op':'eq','value':'1'" "'as':'number','op':'eq','value':'6'") too_long, refusal 18 0 0)
    ∷ (read the_latest (both_turned "'as':'number','op':'eq','value':'1'" "'as':'text','op':'eq','value':'6'") too_long, refusal 18 0 0)
    -- a value of the query: as a number it is malformed, as text it is not
    ∷ (read the_latest (comparing "9223372036854775808") too_long, refusal 10 0 0)
    ∷ (read the_latest "[{'column':'n','as':'text','op':'eq','value':'9223372036854775808'}]" too_long, picks_it)
    -- 11 and 8 before it; nothing is asked of what is due
    ∷ (read the_latest "[{'column':'n','as':'number','op':'ge','value':'0'},{'column':'z','as':'text','op':'ge','value':''}]" too_long, refusal 11 0 0)
    ∷ (
      read the_latest any_number
          (bundle_of
          (protocolled "'minReaderVersion':9,'minWriterVersion':1" ∷ version_one (keyed "'year':'1','n':'9223372036854775808'" "x" ∷ []) ∷ [])),
      refusal 8 0 0,
    )
    ∷ (awaits 0 too_long, picks_none)
    ∷ []

-- ---- of which files

unfoldable pub good : (path : String) → String
good p = keyed "'n':'7'" p

unfoldable pub long : (path : String) → String
long p = keyed "'n':'9223372036854775808'" p

-- column n; version 1 and version 2 with these lines
unfoldable pub in_two : (one two : List String) → Bytes
in_two ls ms = bundle_of (tabled "'n'" ∷ version_one ls ∷ file "00000000000000000002.json" 2 ms ∷ [])

unfoldable pub live_ones : List (Question × Says)
live_ones =
    -- any live file, wherever it stands
    (read (the_version 1) any_number (in_two (good "a" ∷ long "b" ∷ []) []), refusal 18 0 0)
    ∷ (read (the_version 1) any_number (in_two (long "a" ∷ good "b" ∷ []) []), refusal 18 0 0)
    -- not one that is removed, that is replaced, or that comes later
    ∷ (read (the_version 2) any_number (in_two (good "a" ∷ long "b" ∷ []) (remove_of "b" ∷ [])), listed 2 (ascii "a" ∷ []))
    ∷ (read (the_version 2) any_number (in_two (long "a" ∷ []) (good "a" ∷ [])), listed 2 (ascii "a" ∷ []))
    ∷ (read (the_version 1) any_number (in_two (good "a" ∷ []) (long "b" ∷ [])), listed 1 (ascii "a" ∷ []))
    -- a column renamed away is not looked at; renamed back it is
    ∷ (
      read (the_version 2) "[{'column':'m','as':'number','op':'ge','value':'0'}]" (in_two (long "a" ∷ []) (table_of "'m'" ∷ [])),
      listed 2 [],
    )
    ∷ (read (the_version 2) any_number (in_two (long "a" ∷ []) (table_of "'m'" ∷ table_of "'n'" ∷ [])), refusal 18 0 0)
    ∷ []

-- ---- bounds of manifests: one out of range keeps its manifest, by this condition

-- a manifest with these bounds of n and of m
unfoldable pub bounded : (min max others : String) → Bytes
bounded lo hi o = json ("{'manifests':[{'path':'p','partitionBounds':{'n':{'min':'" +++ lo +++ "','max':'" +++ hi +++ "'}" +++ o +++ "}}]}")

unfoldable pub on : (kind op value : String) → Bytes
on a o v = json ("[{'column':'n','as':'" +++ a +++ "','op':'" +++ o +++ "','value':'" +++ v +++ "'}]")

unfoldable pub bounds : List (Question × Says)
bounds =
    (keep (bounded "-9223372036854775809" "5" "") (on "number" "gt" "7"), numbers (0 ∷ []))
    ∷ (keep (bounded "8" "9223372036854775808" "") (on "number" "lt" "7"), numbers (0 ∷ []))
    ∷ (keep (bounded "9223372036854775808" "9223372036854775809" "") (on "number" "eq" "7"), numbers (0 ∷ []))
    -- in range they drop it; as text too; and so does another condition
    ∷ (keep (bounded "8" "9223372036854775807" "") (on "number" "lt" "7"), numbers [])
    ∷ (keep (bounded "9223372036854775808" "9223372036854775809" "") (on "text" "eq" "7"), numbers [])
    ∷ (
      keep (bounded "8" "9223372036854775808" ",'m':{'min':'1','max':'2'}")
          (json (both "'as':'number','op':'lt','value':'7'" "'as':'number','op':'gt','value':'2'")),
      numbers [],
    )
    ∷ []

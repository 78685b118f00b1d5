-- A log as demand 3 takes it, so that the premise is seen to be met: versions 0 to 2, and at 1 a checkpoint that writes the same facts
-- in other words. And what is left of its answers when files go.
use Rattle.std.specs.Prelude.{◌≡◌, List, [], ◌∷◌}
use Rattle.std.specs.Prelude.{Some}
use Rattle.rules.specs.Bytes.{Bytes, ascii}
use Rattle.rules.specs.Bundle.{File, bundle}
use Rattle.rules.specs.Reading.{the_version}
use Rattle.rules.specs.Samples.{Sample, file, bundle_of}
use Rattle.rules.specs.Edges.{Question, read, awaits, Says, listed, refusal}
use Rattle.demands.specs.FullHistory.{FullHistory}

unfoldable pub zero : Sample
zero = file "00000000000000000000.json" 0 ("{'metaData':{'id':'t','partitionColumns':['x','y']}}" ∷ [])

unfoldable pub one : Sample
one =
    file "00000000000000000001.json" 0
    ("{'add':{'path':'a','size':1,'modificationTime':1,'dataChange':true,'partitionValues':{'x':'1','y':null}}}"
    ∷ "{'mergeskip':{'path':'a','retryAfter':5}}"
    ∷ [])

-- an empty line, the metaData behind the add, with a name, an escape in the path, the pairs in another order, numRecords null, the skip count written
unfoldable pub checkpoint_at_one : Sample
checkpoint_at_one =
    file "00000000000000000001.checkpoint.json" 0
    (""
    ∷ "{'add':{'path':'\\u0061','size':1,'dataChange':false,'modificationTime':1,'partitionValues':{'y':null,'x':'1'},'numRecords':null}}"
    ∷ "{'metaData':{'name':'n','partitionColumns':['x','y'],'id':'t'}}"
    ∷ "{'mergeskip':{'retryAfter':5,'skipCount':1,'path':'a'}}"
    ∷ [])

-- well formed, and not true
unfoldable pub untrue_at_one : Sample
untrue_at_one =
    file "00000000000000000001.checkpoint.json" 0
    ("{'metaData':{'id':'t','partitionColumns':['x','y']}}"
    ∷ "{'add':{'path':'c','size':1,'modificationTime':1,'dataChange':true,'partitionValues':{}}}"
    ∷ [])

unfoldable pub two : Sample
two = file "00000000000000000002.json" 0 ("{'add':{'path':'b','size':1,'modificationTime':1,'dataChange':true,'partitionValues':{'y':'2','x':null}}}" ∷ [])

unfoldable pub whole : Bytes
whole = bundle_of (zero ∷ checkpoint_at_one ∷ one ∷ two ∷ [])

abbrev pub ExampleIsFull : Type 0
ExampleIsFull = (fs : List File) × (bundle whole ≡ Some fs) × FullHistory fs 2

-- whole, and what is due of it; without version file 1, whose part the checkpoint takes; without the checkpoint; without both: not kept.
-- A checkpoint that is not true is believed, so that the premise cannot go
unfoldable pub answers : List (Question × Says)
answers =
    (read (the_version 2) "[]" whole, listed 2 (ascii "a" ∷ ascii "b" ∷ []))
    ∷ (awaits 4 whole, listed 2 [])
    ∷ (awaits 5 whole, listed 2 (ascii "a" ∷ []))
    ∷ (read (the_version 2) "[]" (bundle_of (zero ∷ checkpoint_at_one ∷ two ∷ [])), listed 2 (ascii "a" ∷ ascii "b" ∷ []))
    ∷ (read (the_version 2) "[]" (bundle_of (zero ∷ one ∷ two ∷ [])), listed 2 (ascii "a" ∷ ascii "b" ∷ []))
    ∷ (read (the_version 2) "[]" (bundle_of (zero ∷ two ∷ [])), refusal 5 0 0)
    ∷ (read (the_version 2) "[]" (bundle_of (zero ∷ untrue_at_one ∷ one ∷ two ∷ [])), listed 2 (ascii "b" ∷ ascii "c" ∷ []))
    ∷ []

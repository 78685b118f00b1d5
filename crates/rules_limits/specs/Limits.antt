-- The paper's largest limit of lines, in a table of the same form as the rules' edges: 1,024 live accepted, the 1,025th refused; skips among 1,024.
use Rattle.std.specs.Prelude.{List, [], ◌∷◌, ◌++◌, ℕ, zero, suc, ◌+◌, ◌/◌, ◌%◌}
use Rattle.rules.specs.Bytes.{Bytes, ascii}
use Rattle.rules.specs.Reading.{the_latest}
use Rattle.rules.specs.Samples.{json, body_of, bundle_of}
use Rattle.rules.specs.Edges.{Question, read, awaits, Says, listed, refusal, v0}
use Rattle.rules.specs.SecondMerges.{skip_with}

-- four digits
unfoldable pub digits4 : ℕ → Bytes
digits4 n = (0x30 + n / 1000) ∷ (0x30 + n / 100 % 10) ∷ (0x30 + n / 10 % 10) ∷ (0x30 + n % 10) ∷ []

-- n adds, of paths that ascend downwards
unfoldable pub adds : ℕ → Bytes
adds zero = []
adds (suc n) =
    json "{'add':{'path':'" ++ (digits4 n ++ (json "','size':0,'modificationTime':0,'dataChange':true,'partitionValues':{}}}" ++ 0x0A ∷ adds n))

unfoldable pub many_live : ℕ → Bytes
many_live n = bundle_of (v0 ∷ record { name = ascii "00000000000000000001.json"; time = 1; body = adds n } ∷ [])

-- and then a mergeskip of the last in path order, and one of none
unfoldable pub many_skipped : Bytes
many_skipped =
    bundle_of
    (v0
    ∷ record {
      name = ascii "00000000000000000001.json";
      time = 1;
      body = adds 1_024 ++ body_of (skip_with "'path':'1023'" ∷ skip_with "'path':'1024'" ∷ []);
    }
    ∷ [])

-- n paths in their order, from number k on
unfoldable pub paths_from : (k n : ℕ) → List Bytes
paths_from k zero = []
paths_from k (suc n) = digits4 k ∷ paths_from (suc k) n

-- 1,024 live are listed; the 1,025th is refused at its line; a mergeskip makes none live
unfoldable pub limits : List (Question × Says)
limits =
    (read the_latest "[]" (many_live 1_024), listed 1 (paths_from 0 1_024))
    ∷ (read the_latest "[]" (many_live 1_025), refusal 7 1 1_025)
    ∷ (awaits 0 many_skipped, listed 1 (ascii "1023" ∷ []))
    ∷ []

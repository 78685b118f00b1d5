-- Which protocols are readable, and which writable.
use Rattle.std.specs.Prelude.{Bool, ◌&&◌, List, [], ◌∷◌, ℕ, leb}
use Rattle.rules.specs.Bytes.{Bytes, ascii, all_among}
use Rattle.rules.specs.Actions.{Protocol}
use Rattle.rules.specs.Refusals.{Answer, ◌>>=◌, require, reader_too_high, unknown_feature}

-- the highest protocol numbers that are known
unfoldable pub known_reader : ℕ
known_reader = 3

unfoldable pub known_writer : ℕ
known_writer = 3

unfoldable pub reader_names : List Bytes
reader_names = ascii "skippedFiles" ∷ ascii "extendedMetadata" ∷ ascii "footerOffsets" ∷ ascii "schemaDeduplication" ∷ []

-- those four, checkpoint, optimizeWrite
unfoldable pub writer_names : List Bytes
writer_names = ascii "checkpoint" ∷ ascii "optimizeWrite" ∷ reader_names

-- refusals 8 and 9
unfoldable pub gate : Protocol → Answer (Unit {0})
gate p = do
  _ ← require reader_too_high (leb p.min_reader_version known_reader)
  require unknown_feature (all_among reader_names p.reader_features)

unfoldable pub writable : Protocol → Bool
writable p = leb p.min_writer_version known_writer && all_among writer_names p.writer_features

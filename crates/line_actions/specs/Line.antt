-- What a line says, by the action that the code answers, in the rules' terms.
use Rattle.std.specs.Prelude.{◌≡◌, ◌≤◌, length, drop}
use Rattle.std.specs.Prelude.{Option, None, Some}
use Rattle.facts.specs.Parts.{part}
use Rattle.rules.specs.Actions.{Facts, MetaData as RuleMetaData, Protocol as RuleProtocol}
use Rattle.rules.specs.Actions.{Action as RuleAction, add, remove, protocol, meta_data, mergeskip, other}
use Rattle.rules.specs.Actions.{path_written, path_left}
use Rattle.rules.specs.Bytes.{all_among}
use Rattle.rules.specs.Gate.{reader_names, writer_names}
use Rattle.rules.specs.Json.Text.{Text}
use Rattle.json_strings.specs.Decoded.{decoded, WellSpelled}
use Rattle.field_containers.specs.Strung.{Listed}
use Rattle.field_containers.specs.Nested.{UsualIs, Pairing}
use Rattle.field_containers.specs.Featured.{FeaturesAt}
use Rattle.line_actions.specs.declared.line.Added.{Added}
use Rattle.line_actions.specs.declared.line.Stated.{Stated}
use Rattle.line_actions.specs.declared.line.Tabled.{Tabled}
use Rattle.line_actions.specs.declared.line.Skipped.{Skipped}
use Rattle.line_actions.specs.declared.line.Action.{Action}
use Rattle.line_actions.specs.declared.line.Action.TheVariants.{Add, Remove, Protocol, MetaData, Mergeskip, Other}

pub record AddIs (s : Text) (f : Facts) (a : Added) : Type 0 where
  pub spelled : WellSpelled s a.path
  pub path : decoded (drop a.path s) ≡ f.path
  pub written : path_written s ≡ Some (part s a.path a.end)
  pub left : path_left s ≡ Some (drop a.path s)
  pub ordered : a.path ≤ a.end
  pub within : a.end ≤ length s
  pub size : a.size ≡ f.size
  pub time : a.time ≡ f.modification_time
  pub records : a.records ≡ f.num_records
  pub values : Pairing s a.values f.partition_values
  pub usual : UsualIs s a.values a.usual

pub record ProtocolIs (s : Text) (p : RuleProtocol) (r : Stated) : Type 0 where
  pub reader : r.reader ≡ p.min_reader_version
  pub writer : r.writer ≡ p.min_writer_version
  pub reader-known : r.reader_known ≡ all_among reader_names p.reader_features
  pub writer-known : r.writer_known ≡ all_among writer_names p.writer_features
  pub reader-features : FeaturesAt s r.reader_features p.reader_features
  pub writer-features : FeaturesAt s r.writer_features p.writer_features

-- the place of the id, and where the strings of the partition columns begin
pub record TableIs (s : Text) (m : RuleMetaData) (r : Tabled) : Type 0 where
  pub spelled : WellSpelled s r.id
  pub id : decoded (drop r.id s) ≡ m.id
  pub within : r.columns ≤ length s
  pub columns : Listed s r.columns m.partition_columns

-- the place of the path, and the two numbers
pub record SkipIs (o : Option RuleAction) (s : Text) (k : Skipped) : Type 0 where
  pub says : o ≡ Some (mergeskip (decoded (drop k.path s)) (record { count = k.count; retry_after = k.retry }))
  pub spelled : WellSpelled s k.path
  pub within : k.path ≤ length s
  pub left : path_left s ≡ Some (drop k.path s)

abbrev pub ActionIs : Option RuleAction → Text → Option Action → Type 0
ActionIs o s (Some (Add a)) = (f : Facts) × (o ≡ Some (add f)) × AddIs s f a
ActionIs o s (Some (Remove p)) = (o ≡ Some (remove (decoded (drop p s)))) × WellSpelled s p × (p ≤ length s) × (path_left s ≡ Some (drop p s))
ActionIs o s (Some (Protocol r)) = (p : RuleProtocol) × (o ≡ Some (protocol p)) × ProtocolIs s p r
ActionIs o s (Some (MetaData r)) = (m : RuleMetaData) × (o ≡ Some (meta_data m)) × TableIs s m r
ActionIs o s (Some (Mergeskip k)) = SkipIs o s k
ActionIs o s (Some Other) = o ≡ Some other
ActionIs o s None = o ≡ None

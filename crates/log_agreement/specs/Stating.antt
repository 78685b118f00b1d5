-- What the lines of two states state: an add, a protocol, features, the metadata.
use Rattle.std.specs.Prelude.{List, ℕ}
use Rattle.rules.specs.Bytes.{Bytes}
use Rattle.rules.specs.Json.Text.{Text}
use Rattle.rules.specs.Actions.{Facts, Protocol, MetaData}
use Rattle.line_actions.specs.Line.{AddIs, ProtocolIs, TableIs}
use Rattle.field_containers.specs.Featured.{FeaturesAt}
use Rattle.line_actions.specs.declared.line.Added.{Added}
use Rattle.line_actions.specs.declared.line.Stated.{Stated}
use Rattle.line_actions.specs.declared.line.Tabled.{Tabled}

-- s is an add, as a says
pub record Adding (s : Text) (a : Added) : Type 0 where
  pub facts : Facts
  pub says : AddIs s facts a

-- behind the bracket before `at` stand features, or none are stated
pub record Featured (s : Text) (at : ℕ) : Type 0 where
  pub features : List Bytes
  pub listed : FeaturesAt s at features

-- s is a protocol, as r says
pub record Protocolled (s : Text) (r : Stated) : Type 0 where
  pub protocol : Protocol
  pub says : ProtocolIs s protocol r

-- s is a metaData, as r says
pub record Tabling (s : Text) (r : Tabled) : Type 0 where
  pub table : MetaData
  pub says : TableIs s table r

-- A line asked for one action alone, in the rules' terms.
use Rattle.std.specs.Prelude.{◌≡◌}
use Rattle.std.specs.Prelude.{Option, None, Some}
use Rattle.rules.specs.Actions.{Facts, MetaData, Protocol, Action, add, remove, protocol, meta_data, mergeskip, other}
use Rattle.rules.specs.Json.Text.{Text}
use Rattle.line_actions.specs.Line.{AddIs, ProtocolIs, TableIs}
use Rattle.std.specs.Prelude.{Bool, true, false}
use Rattle.line_actions.specs.declared.line.Added.{Added}
use Rattle.line_actions.specs.declared.line.Stated.{Stated}
use Rattle.line_actions.specs.declared.line.Tabled.{Tabled}

-- ---- the add, the protocol, the metaData among all that a line may say

unfoldable pub add_in : Option Action → Option Facts
add_in None = None
add_in (Some (add f)) = Some f
add_in (Some (remove p)) = None
add_in (Some (protocol p)) = None
add_in (Some (meta_data m)) = None
add_in (Some (mergeskip p k)) = None
add_in (Some other) = None

unfoldable pub protocol_in : Option Action → Option Protocol
protocol_in None = None
protocol_in (Some (add f)) = None
protocol_in (Some (remove p)) = None
protocol_in (Some (protocol p)) = Some p
protocol_in (Some (meta_data m)) = None
protocol_in (Some (mergeskip p k)) = None
protocol_in (Some other) = None

unfoldable pub meta_data_in : Option Action → Option MetaData
meta_data_in None = None
meta_data_in (Some (add f)) = None
meta_data_in (Some (remove p)) = None
meta_data_in (Some (protocol p)) = None
meta_data_in (Some (meta_data m)) = Some m
meta_data_in (Some (mergeskip p k)) = None
meta_data_in (Some other) = None

-- ---- what is answered of a line s, which says o

abbrev pub AddOf : Option Action → Text → Option Added → Type 0
AddOf o s (Some a) = (f : Facts) × (o ≡ Some (add f)) × AddIs s f a
AddOf o s None = add_in o ≡ None

abbrev pub ProtocolOf : Option Action → Text → Option Stated → Type 0
ProtocolOf o s (Some r) = (p : Protocol) × (o ≡ Some (protocol p)) × ProtocolIs s p r
ProtocolOf o s None = protocol_in o ≡ None

abbrev pub TableOf : Option Action → Text → Option Tabled → Type 0
TableOf o s (Some r) = (m : MetaData) × (o ≡ Some (meta_data m)) × TableIs s m r
TableOf o s None = meta_data_in o ≡ None

-- whether it says anything, and whether that is the metadata
unfoldable pub spoken_is : Option Action → Option Bool
spoken_is None = None
spoken_is (Some (add f)) = (Some false)
spoken_is (Some (remove p)) = (Some false)
spoken_is (Some (protocol p)) = (Some false)
spoken_is (Some (meta_data m)) = (Some true)
spoken_is (Some (mergeskip p k)) = (Some false)
spoken_is (Some other) = (Some false)

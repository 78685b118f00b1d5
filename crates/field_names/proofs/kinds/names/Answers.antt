-- `names` meets its contract. By the kind that it is; the names are spelled out on both sides.
use Rattle.rules.specs.Bytes.{ascii}
use Rattle.field_names.specs.Kinds.{names_of}
use Rattle.field_names.proofs.kinds.names.Goals as goal

pub returns-in-Line : goal.returns-in-Line
unfolding names_of ascii
returns-in-Line c = rw c.in-Line.is

pub returns-in-Add : goal.returns-in-Add
unfolding names_of ascii
returns-in-Add c = rw c.in-Add.is

pub returns-in-Remove : goal.returns-in-Remove
unfolding names_of ascii
returns-in-Remove c = rw c.in-Remove.is

pub returns-in-Protocol : goal.returns-in-Protocol
unfolding names_of ascii
returns-in-Protocol c = rw c.in-Protocol.is

pub returns-in-MetaData : goal.returns-in-MetaData
unfolding names_of ascii
returns-in-MetaData c = rw c.in-MetaData.is

pub returns-in-Mergeskip : goal.returns-in-Mergeskip
unfolding names_of ascii
returns-in-Mergeskip c = rw c.in-Mergeskip.is

pub returns-in-Marker : goal.returns-in-Marker
unfolding names_of ascii
returns-in-Marker c = rw c.in-Marker.is

pub returns-in-State : goal.returns-in-State
unfolding names_of ascii
returns-in-State c = rw c.in-State.is

pub returns-in-Manifest : goal.returns-in-Manifest
unfolding names_of ascii
returns-in-Manifest c = rw c.in-Manifest.is

pub returns-in-Bounds : goal.returns-in-Bounds
unfolding names_of ascii
returns-in-Bounds c = rw c.in-Bounds.is

pub returns-in-Condition : goal.returns-in-Condition
unfolding names_of ascii
returns-in-Condition c = rw c.in-Condition.is

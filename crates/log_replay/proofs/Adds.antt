-- The line of a row is an add: the facts of the row are those that the add says.
use mathlib.Core.Path.{◌≡◌, ap}
use Rattle.std.specs.Prelude.{Some}
use Prim.Native.Nat.{◌+◌}
use Rattle.facts.specs.Parts.{part}
use Rattle.rules.specs.Json.Text.{Text}
use Rattle.rules.specs.Actions.{Facts, add, action}
use Rattle.row_table.specs.declared.Cells.{Cells}
use Rattle.row_live.specs.Live.{place_of}
use Rattle.log_replay.specs.Views.{facts_in, facts_at}

pub facts_at-add : (src : Text) (c : Cells) {f : Facts} → action (part src (place_of c) (place_of c + c.len)) ≡ Some (add f) → facts_at src c ≡ f
unfolding facts_at facts_in
facts_at-add src c e = ap facts_in e

-- `ended` meets its contract. There is a next byte, or there is none.
use mathlib.Core.Bool.{Bool, true, false, not}
use mathlib.Core.List.{[]}
use mathlib.Core.Path.{◌≡◌, sym}
use Prim.Native.Nat.{ℕ}
use Rattle.std.specs.Prelude.{Option, Some, None, is_some}
use Rattle.rules.specs.Bytes.{same}
use Rattle.rules.specs.Json.Text.{Text}
use Rattle.rules.proofs.Keys.{same_none, same_some}
use Rattle.json_strings.specs.Ahead.{Stepped, ahead}
use Rattle.json_strings.specs.declared.cursors.Cursor.{Cursor}
use Rattle.json_strings.proofs.single.ended.Goals as goal

nothing-next : (s : Text) (c : Cursor) (r : Option (ℕ × Cursor)) (none : Bool) → Stepped s c r → is_some r ≡ not none → none ≡ same (ahead s c) []
nothing-next s c (Some p) false w e = sym (same_some w.more)
nothing-next s c (Some p) true w e = cc
nothing-next s c None false w e = cc
nothing-next s c None true w e = sym (same_none w)

pub returns : goal.returns
returns c = nothing-next c.args.s.now c.args.c c.next.result c.is_none.result c.next.ensures c.is_none.ensures

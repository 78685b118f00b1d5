-- `string_or_null` meets its contract. The first byte tells a string, and the text null.
use mathlib.Core.Path.{◌≡◌}
use mathlib.Core.Bool.{true, false}
use Prim.Native.Nat.{ℕ, ◌+◌, ◌-◌, ◌≤◌}
use mathlib.Core.List.{[]}
use Rattle.std.specs.Prelude.{Option, None, Some}
use Rattle.std.specs.Option.{is_some}
use lib.ListN.{length, take, drop}
use Rattle.rules.specs.Actions.{in_field}
use Rattle.rules.specs.Json.Text.{Text, byte}
use Rattle.rules.specs.Json.Values.{value}
use Rattle.rules.specs.Json.Fields.{string_or_null}
use Rattle.rules.proofs.Tests.{apart}
use Rattle.json_tokens.specs.Answers.{Answer}
use Rattle.field_scalars.specs.Texts.{Told}
use Rattle.field_containers.proofs.Partitions.{told-string, told-null}
use Rattle.field_containers.proofs.nested.string_or_null.Goals as goal

-- by whether a quote was found
module _ (s : Text) (v : ℕ) where
  quoted : (e : ℕ) → v ≤ e → e ≤ length s → value in_field (take (e - v) (drop v s)) ≡ Some [] → (r : Option ℕ) → Answer (byte 0x22 (drop v s)) s (v + 1) r
      → true ≡ is_some r → Told (string_or_null (take (e - v) (drop v s))) true
  quoted e h k w (Some i) q f = told-string in_field s v e h k w i q.0
  quoted e h k w None q f = apart (cc)

  unquoted : (r : Option ℕ) → Answer (byte 0x22 (drop v s)) s (v + 1) r → false ≡ is_some r → byte 0x22 (drop v s) ≡ None
  unquoted (Some i) q f = apart (cc)
  unquoted None q f = q

pub returns-then-is_some : goal.returns-then-is_some
returns-then-is_some c =
    rw c.if-is_some.true
    (quoted c.args.s.now c.args.v c.args.e c.requires.0 c.requires.1 c.requires.2 c.skip_byte.result c.skip_byte.ensures c.if-is_some.ensures)

pub returns-else-is_some : goal.returns-else-is_some
returns-else-is_some c =
    told-null in_field c.args.s.now c.args.v c.args.e c.requires.0 c.requires.1 c.requires.2
    (unquoted c.args.s.now c.args.v c.skip_byte.result c.skip_byte.ensures c.if-is_some.ensures) c.is_null.result c.is_null.ensures

-- The protocols of two lines, part by part; and what a line states that is no protocol.
use mathlib.Core.Path.{◌≡◌, refl, sym, ap, subst, ◌∙◌}
use mathlib.Core.Bool.{Bool, true, false, ◌&&◌}
use Rattle.std.specs.Prelude.{Option, None, Some}
use Rattle.std.specs.Option.{unwrap_or}
use lib.Dec.{eqb}
use Rattle.rules.specs.Bytes.{all_among, same_set}
use Rattle.rules.specs.Json.Text.{Text}
use Rattle.rules.specs.Actions.{Protocol, unstated, protocol, action}
use Rattle.rules.specs.History.{or_unstated}
use Rattle.rules.specs.Agreement.{agree_protocols}
use Rattle.rules.proofs.Tests.{and-fails-left}
use Rattle.line_actions.specs.Line.{ProtocolIs}
use Rattle.line_actions.specs.declared.line.Stated.{Stated}
use Rattle.line_actions.specs.Asked.{protocol_in, ProtocolOf}
use Rattle.log_replay.specs.Views.{line_at, protocol_at}
use Rattle.log_replay.specs.declared.Span.{Span}

-- what is known to hold leaves the question to what follows
pub and-past : {a : Bool} (b : Bool) → a ≡ true → (a && b) ≡ b
and-past b e = rw e

-- two tests, x for a, and y for b where x holds
pub and-then : {x y a b : Bool} → x ≡ a → y ≡ b → x ≡ true → y ≡ (a && b)
and-then {b = b} e f h = f ∙ sym (and-past b (sym e ∙ h))

pub and-else : {x a : Bool} (b : Bool) → x ≡ a → x ≡ false → x ≡ (a && b)
and-else b e h = h ∙ sym (and-fails-left b (sym e ∙ h))

and-grouped : (a b c d : Bool) → (a && (b && (c && d))) ≡ (((a && b) && c) && d)
and-grouped true true true d = refl
and-grouped true true false d = refl
and-grouped true false c d = refl
and-grouped false b c d = refl

-- ---- two protocols

-- in the order of the code
pub protocols-by : (p q : Protocol) → agree_protocols p q
    ≡ (((eqb p.min_reader_version q.min_reader_version && eqb p.min_writer_version q.min_writer_version)
    && same_set p.reader_features q.reader_features) && same_set p.writer_features q.writer_features)
unfolding agree_protocols
protocols-by p q = and-grouped (eqb p.min_reader_version q.min_reader_version) _ _ _

-- ---- a line

-- as the code says that no protocol is stated
abbrev pub none-stated : Stated
none-stated = record { reader = 1; writer = 1; reader_known = true; writer_known = true; reader_features = 0; writer_features = 0 }

unstated-is : (s : Text) → ProtocolIs s unstated none-stated
unfolding unstated all_among
unstated-is s = record { reader = refl; writer = refl; reader-known = refl; writer-known = refl; reader-features = refl; writer-features = refl }

module _ (src : Text) (line : Span) where
  no-protocol : protocol_in (action (line_at src line)) ≡ None
      → ProtocolIs (line_at src line) (or_unstated (protocol_at src line)) none-stated
  unfolding protocol_at or_unstated
  no-protocol e = subst (λ (p : Option Protocol). ProtocolIs (line_at src line) (or_unstated p) none-stated) (sym e) (unstated-is (line_at src line))

  a-protocol : {p : Protocol} {r : Stated} → action (line_at src line) ≡ Some (protocol p) → ProtocolIs (line_at src line) p r
      → ProtocolIs (line_at src line) (or_unstated (protocol_at src line)) r
  unfolding protocol_at protocol_in or_unstated
  a-protocol {p} {r} e w = subst (λ (q : Option Protocol). ProtocolIs (line_at src line) (or_unstated q) r) (sym (ap protocol_in e)) w

  pub stated-or : (r : Option Stated) → ProtocolOf (action (line_at src line)) (line_at src line) r
      → ProtocolIs (line_at src line) (or_unstated (protocol_at src line)) (unwrap_or r none-stated)
  stated-or None e = no-protocol e
  stated-or (Some r) i = a-protocol i.1 i.2

-- The gate by its tests: the number for readers, then the features; and the protocol of a line.
use mathlib.Core.Path.{◌≡◌, refl, sym, ap, ◌∙◌, subst}
use mathlib.Core.Bool.{Bool, true, false, ◌&&◌}
use Rattle.std.specs.Prelude.{Option, None, Some}
use Prim.Native.Nat.{ℕ, ◌≤◌, ◌<◌}
use native.Mathlib.Omega.{arith}
use lib.Dec.{leb}
use borrow.Author.Tests.{le-leb, lt-leb}
use Rattle.rules.specs.Bytes.{all_among}
use Rattle.rules.specs.Json.Text.{Text}
use Rattle.rules.specs.Actions.{Protocol, unstated, Action, protocol, action}
use Rattle.rules.specs.Gate.{known_reader, known_writer, gate as rule_gate, writable}
use Rattle.rules.specs.History.{or_unstated}
use Rattle.refusals.specs.Numbered.{numbered}
use Rattle.line_actions.specs.Line.{ProtocolIs}
use Rattle.line_actions.specs.declared.line.Stated.{Stated}
use Rattle.line_actions.specs.Asked.{protocol_in}
use Rattle.log_replay.specs.Views.{line_at, protocol_at}
use Rattle.log_replay.specs.declared.Span.{Span}
use Rattle.log_gate.specs.Judged.{VerdictIs}
use Rattle.std.specs.Prelude.{Result, Err, Ok}
use Rattle.log_gate.specs.declared.Numbers.{Numbers}
use Rattle.refusals.specs.declared.Refusal.{Refusal}
use Rattle.refusals.specs.declared.Refusal.TheVariants.{ReaderTooHigh, UnknownFeature}

-- ---- the tests of a protocol

module _ (s : Text) (q : Protocol) (p : Stated) (i : ProtocolIs s q p) where
  pub judged-high : 3 < p.reader → VerdictIs q (Err ReaderTooHigh)
  unfolding rule_gate known_reader numbered
  judged-high h =
      let e : leb q.min_reader_version 3 ≡ false = ap (λ (n : ℕ). leb n 3) (sym i.reader) ∙ lt-leb _ _ h in
      (rw (rule_gate, e), λ one. omega (arith, one))

  module _ (h : p.reader ≤ 3) where
    low : leb q.min_reader_version known_reader ≡ true
    unfolding known_reader
    low = ap (λ (n : ℕ). leb n 3) (sym i.reader) ∙ le-leb _ _ h

    pub judged-unknown : p.reader_known ≡ false → VerdictIs q (Err UnknownFeature)
    unfolding rule_gate numbered
    judged-unknown e = (rw (rule_gate, low, sym i.reader-known ∙ e), λ one. omega (arith, one))

    pub judged-passed : p.reader_known ≡ true → (w : Bool) → w ≡ (leb p.writer known_writer && p.writer_known)
        → VerdictIs q (Ok (record { reader = p.reader; writer = p.writer; writable = w }))
    unfolding rule_gate writable
    judged-passed e w f = record {
      accepts = rw (rule_gate, low, sym i.reader-known ∙ e);
      reader = i.reader;
      writer = i.writer;
      writable = f ∙ ap (λ (n : ℕ). leb n known_writer && p.writer_known) i.writer
          ∙ ap (λ (b : Bool). leb q.min_writer_version known_writer && b) i.writer-known;
    }

-- the unstated protocol passes
pub unstated-passed : VerdictIs unstated (Ok (record { reader = 1; writer = 1; writable = true }))
unfolding rule_gate unstated writable known_reader known_writer all_among
unstated-passed = record { accepts = refl; reader = refl; writer = refl; writable = refl }

-- ---- the protocol of a line

module _ (src : Text) (at : Span) where
  pub stated-here : {p : Protocol} → action (line_at src at) ≡ Some (protocol p) → or_unstated (protocol_at src at) ≡ p
  unfolding protocol_at protocol_in or_unstated
  stated-here e = ap (λ (o : Option Action). or_unstated (protocol_in o)) e

  -- a line that states no protocol
  pub judged-none : (r : Result Numbers Refusal) → VerdictIs unstated r → protocol_in (action (line_at src at)) ≡ None
      → VerdictIs (or_unstated (protocol_at src at)) r
  unfolding protocol_at or_unstated
  judged-none r v e = subst (λ (p : Protocol). VerdictIs p r) (sym (ap or_unstated e)) v

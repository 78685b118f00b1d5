-- `same_stated` meets its contract, part by part.
use mathlib.Core.Path.{◌≡◌, refl, sym, ap₂, ◌∙◌}
use mathlib.Core.Bool.{◌&&◌}
use lib.Dec.{eqb}
use borrow.Author.Tests.{eq-eqb, ne_eqb}
use Rattle.rules.specs.Bytes.{same_set}
use Rattle.rules.specs.Actions.{Protocol}
use Rattle.line_actions.specs.Line.{ProtocolIs}
use Rattle.log_agreement.proofs.Stated.{and-then, and-else, protocols-by}
use Rattle.log_agreement.proofs.features.same_stated.Goals as goal
use Rattle.log_agreement.proofs.features.same_stated.Goals.{Joined-numbers, then-x-y, else-x-y, then-numbers, else-numbers}

module _ (c : Joined-numbers) (p q : Protocol) (a : ProtocolIs c.args.s.now p c.args.x) (b : ProtocolIs c.args.t.now q c.args.y) where
  numbers : c.if-x-y.numbers ≡ (eqb p.min_reader_version q.min_reader_version && eqb p.min_writer_version q.min_writer_version)
  numbers =
      elim c.if-x-y.branch [
        | then-x-y w ↦ and-then refl w.numbers-is (eq-eqb _ _ w.if-x-y.true)
        | else-x-y w ↦ w.numbers-is ∙ and-else (eqb c.args.x.writer c.args.y.writer) refl (ne_eqb _ _ w.if-x-y.false)
      ]
      ∙ ap₂ ◌&&◌ (ap₂ eqb a.reader b.reader) (ap₂ eqb a.writer b.writer)

  so_far : c.if-numbers.value
      ≡ ((eqb p.min_reader_version q.min_reader_version && eqb p.min_writer_version q.min_writer_version) && same_set p.reader_features q.reader_features)
  so_far = elim c.if-numbers.branch [
    | then-numbers w ↦
        w.value-is ∙ and-then numbers (w.same_features.ensures p.reader_features q.reader_features a.reader-features b.reader-features) w.if-numbers.true
    | else-numbers w ↦ w.value-is ∙ and-else (same_set p.reader_features q.reader_features) numbers w.if-numbers.false
  ]

pub returns-then-same_features : goal.returns-then-same_features
returns-then-same_features c = λ p q a b.
    and-then (so_far (goal.at.returns-then-same_features c).Joined-numbers p q a b)
    (c.same_features-then-same_features.ensures p.writer_features q.writer_features a.writer-features b.writer-features)
    c.if-same_features.true
    ∙ sym (protocols-by p q)

pub returns-else-same_features : goal.returns-else-same_features
returns-else-same_features c = λ p q a b.
    and-else (same_set p.writer_features q.writer_features) (so_far (goal.at.returns-else-same_features c).Joined-numbers p q a b) c.if-same_features.false
    ∙ sym (protocols-by p q)

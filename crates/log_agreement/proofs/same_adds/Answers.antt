-- `same_adds` meets its contract, fact by fact.
use mathlib.Core.Path.{◌≡◌, refl, sym, ap₂, ◌∙◌}
use mathlib.Core.Bool.{◌&&◌}
use lib.Dec.{eqb}
use borrow.Author.Tests.{eq-eqb, ne_eqb}
use Rattle.rules.specs.Bytes.{same}
use Rattle.rules.specs.Actions.{Facts}
use Rattle.rules.specs.Agreement.{agree_records, agree_pairs}
use Rattle.line_actions.specs.Line.{AddIs}
use Rattle.log_agreement.proofs.Stated.{and-then, and-else}
use Rattle.log_agreement.proofs.Added.{facts-by}
use Rattle.log_agreement.proofs.same_adds.Goals as goal
use Rattle.log_agreement.proofs.same_adds.Goals.{Joined-same_records, then-x-y, else-x-y, then-numbers, else-numbers, then-same_records, else-same_records}

module _ (c : Joined-same_records) (f g : Facts) (a : AddIs c.args.s.now f c.args.x) (b : AddIs c.args.t.now g c.args.y) where
  numbers : c.if-x-y.numbers ≡ (eqb f.size g.size && eqb f.modification_time g.modification_time)
  numbers =
      elim c.if-x-y.branch [
        | then-x-y w ↦ and-then refl w.numbers-is (eq-eqb _ _ w.if-x-y.true)
        | else-x-y w ↦ w.numbers-is ∙ and-else (eqb c.args.x.time c.args.y.time) refl (ne_eqb _ _ w.if-x-y.false)
      ]
      ∙ ap₂ ◌&&◌ (ap₂ eqb a.size b.size) (ap₂ eqb a.time b.time)

  records : c.if-numbers.value ≡ ((eqb f.size g.size && eqb f.modification_time g.modification_time) && agree_records f.num_records g.num_records)
  records = elim c.if-numbers.branch [
    | then-numbers w ↦ w.value-is ∙ and-then numbers (w.same_records.ensures ∙ ap₂ agree_records a.records b.records) w.if-numbers.true
    | else-numbers w ↦ w.value-is ∙ and-else (agree_records f.num_records g.num_records) numbers w.if-numbers.false
  ]

  so_far : c.if-same_records.value
      ≡ (((eqb f.size g.size && eqb f.modification_time g.modification_time) && agree_records f.num_records g.num_records) && same f.path g.path)
  so_far = elim c.if-same_records.branch [
    | then-same_records w ↦ w.value-is ∙ and-then records (w.same_strings.ensures ∙ ap₂ same a.path b.path) w.if-same_records.true
    | else-same_records w ↦ w.value-is ∙ and-else (same f.path g.path) records w.if-same_records.false
  ]

pub returns-then-same_strings : goal.returns-then-same_strings
returns-then-same_strings c = λ f g a b.
    and-then (so_far (goal.at.returns-then-same_strings c).Joined-same_records f g a b)
    (c.same_pairs.ensures f.partition_values g.partition_values a.values b.values)
    c.if-same_strings.true
    ∙ sym (facts-by f g)

pub returns-else-same_strings : goal.returns-else-same_strings
returns-else-same_strings c = λ f g a b.
    and-else (agree_pairs f.partition_values g.partition_values) (so_far (goal.at.returns-else-same_strings c).Joined-same_records f g a b)
    c.if-same_strings.false
    ∙ sym (facts-by f g)

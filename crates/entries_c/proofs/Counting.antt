-- A count or a refusal in numbers, by its two cases.
use mathlib.Core.Path.{◌≡◌, ap, ◌∙◌}
use Prim.Native.Nat.{ℕ}
use Rattle.rules.specs.Refusals as Rules
use Rattle.rules.specs.Refusals.{Answer, accepted, refused}
use Rattle.entries_c.specs.Codes.{refused_by, not_refused, counted_by}
use Rattle.entries_c.specs.declared.codes.Refused.{Refused}
use Rattle.entries_c.specs.declared.codes.Counted.{Counted}

abbrev counting : ℕ → Refused → Counted
counting n f = record { refused = f; count = n }

module _ {a : Answer ℕ} {f : Refused} where
  pub counted-accepted : {n : ℕ} → accepted n ≡ a → f ≡ not_refused → counting n f ≡ counted_by a
  unfolding counted_by
  counted-accepted {n} e g = ap (counting n) g ∙ ap counted_by e

  pub counted-refused : {x : Rules.Refusal} → refused x ≡ a → f ≡ refused_by x → counting 0 f ≡ counted_by a
  unfolding counted_by
  counted-refused e g = ap (counting 0) g ∙ ap counted_by e

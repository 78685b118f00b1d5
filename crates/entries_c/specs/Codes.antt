-- Refusals and counts in numbers.
use Rattle.std.specs.Prelude.{ℕ}
use Rattle.rules.specs.Refusals as Rules
use Rattle.rules.specs.Refusals.{Answer, accepted, refused}
use Rattle.entries_c.specs.declared.codes.Refused.{Refused}
use Rattle.entries_c.specs.declared.codes.Counted.{Counted}

abbrev pub refused_by : Rules.Refusal → Refused
refused_by r = record { number = r.number; entry = r.entry; line = r.line }

-- an answer that is accepted
abbrev pub not_refused : Refused
not_refused = record { number = 0; entry = 0; line = 0 }

unfoldable pub counted_by : Answer ℕ → Counted
counted_by (accepted n) = record { refused = not_refused; count = n }
counted_by (refused r) = record { refused = refused_by r; count = 0 }

-- A verdict of the gate on a protocol: refusal 8 or 9, or the protocol's numbers and whether it is writable.
use Rattle.std.specs.Prelude.{◌≡◌}
use Rattle.rules.specs.Actions.{Protocol}
use Rattle.rules.specs.Gate.{gate as rule_gate, writable}
use Rattle.rules.specs.Refusals.{accepted, refused}
use Rattle.refusals.specs.Numbered.{numbered}
use Rattle.log_gate.specs.declared.Numbers.{Numbers}
use Rattle.std.specs.Prelude.{Result, Err, Ok}
use Rattle.refusals.specs.declared.Refusal.{Refusal}

pub record Passes (p : Protocol) (n : Numbers) : Type 0 where
  pub accepts : rule_gate p ≡ accepted tt
  pub reader : n.reader ≡ p.min_reader_version
  pub writer : n.writer ≡ p.min_writer_version
  pub writable : n.writable ≡ writable p

abbrev pub VerdictIs : Protocol → Result Numbers Refusal → Type 0
VerdictIs p (Err x) = (rule_gate p ≡ refused (numbered x)) × ((numbered x).number ≡ 1 → ⊥)
VerdictIs p (Ok n) = Passes p n

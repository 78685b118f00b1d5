-- `read_name` meets its contract. A quote, and the string behind it.
use mathlib.Core.Path.{ap, subst, ◌∙◌}
use Rattle.std.specs.Prelude.{Option}
use Rattle.rules.specs.Bytes.{◌>>=◌}
use Rattle.rules.specs.Json.Text.{Text}
use Rattle.rules.specs.Json.Strings.{string}
use Rattle.json_strings.specs.Scanned.{Scanned}
use Rattle.field_names.proofs.Quoting.{named-plain, named-escaped}
use Rattle.field_names.proofs.keys.read_name.Goals as goal

pub returns-in_err-i : goal.returns-in_err-i
returns-in_err-i c = rw c.from_residual.ensures (ap (λ (o : Option Text). o >>= string) c.in_err-i.ensures)

pub scan_string-requires : goal.scan_string-requires
scan_string-requires c = let q = c.in_ok-i.ensures in q.2

pub returns-in-Plain : goal.returns-in-Plain
returns-in-Plain c =
    let q = c.in_ok-i.ensures in
    let t = subst (Scanned _ _) c.in-Plain.is c.scan_string.ensures in
    record { quote = q.0; from = q.1; named = named-plain c.args.s.now c.in_ok-i.i c.in-Plain.end t.0 t.1 t.2 }

pub returns-in-Escaped : goal.returns-in-Escaped
returns-in-Escaped c =
    let q = c.in_ok-i.ensures in
    let t = subst (Scanned _ _) c.in-Escaped.is c.scan_string.ensures in
    record { quote = q.0; from = q.1; named = named-escaped c.args.s.now c.in_ok-i.i c.in-Escaped.end t.0 t.1 t.2 t.3 }

pub returns-in-Bad : goal.returns-in-Bad
returns-in-Bad c =
    let q = c.in_ok-i.ensures in
    ap (λ (o : Option Text). o >>= string) q.0 ∙ subst (Scanned c.args.s.now c.in_ok-i.i) c.in-Bad.is c.scan_string.ensures

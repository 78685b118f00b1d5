-- `string_at`: the quote, the string behind it, and that it ends where the value does.
use mathlib.Core.Path.{ap, ◌∙◌}
use Rattle.std.specs.Prelude.{Option}
use Rattle.rules.specs.Bytes.{◌>>=◌}
use Rattle.rules.specs.Json.Text.{Text, behind}
use Rattle.rules.specs.Json.Strings.{string}
use Rattle.field_scalars.proofs.Strings.{string_of-none, string_of-ends, string-read, plain_size}
use Rattle.field_scalars.proofs.Begins.{byte_next}
use native.Mathlib.Omega.{arith}
use Rattle.field_scalars.proofs.string_at.Goals as goal

pub returns-in_err-i : goal.returns-in_err-i
returns-in_err-i c =
    rw c.from_residual.ensures
    (string_of-none c.args.s.now c.args.v c.args.e c.requires.0 (ap (λ (o : Option Text). o >>= string) c.in_err-i.ensures))

pub returns-in-Plain : goal.returns-in-Plain
returns-in-Plain c =
    let q = c.in_ok-i.ensures in
    let f = c.in-Plain.ensures in (
      string-read c.args.s.now c.args.v c.args.e c.requires.0 c.requires.1 c.in_ok-i.i c.in-Plain.end c.if-end-e.true q.1 f.1 q.0 (ap behind f.0),
      plain_size c.args.s.now c.in_ok-i.i c.in-Plain.end f.1 f.2 f.0,
      byte_next c.args.s.now c.args.v c.in_ok-i.i 0x22 (omega (arith, c.requires.0, c.requires.1)) q.2 q.0,
    )

pub returns-in-Escaped : goal.returns-in-Escaped
returns-in-Escaped c =
    let q = c.in_ok-i.ensures in
    let f = c.in-Escaped.ensures in (
      string-read c.args.s.now c.args.v c.args.e c.requires.0 c.requires.1 c.in_ok-i.i c.in-Escaped.end c.if-end-e-2.true q.1 f.1 q.0 f.0,
      c.decoded_size.ensures,
      byte_next c.args.s.now c.args.v c.in_ok-i.i 0x22 (omega (arith, c.requires.0, c.requires.1)) q.2 q.0,
    )

pub returns-in-Plain-2 : goal.returns-in-Plain-2
returns-in-Plain-2 c =
    let q = c.in_ok-i.ensures in
    let f = c.in-Plain.ensures in
    string_of-ends c.args.s.now c.args.v c.args.e c.requires.0 c.requires.1 c.in_ok-i.i c.in-Plain.end f.2 c.if-end-e.false q.0 (ap behind f.0)

pub returns-in-Escaped-2 : goal.returns-in-Escaped-2
returns-in-Escaped-2 c =
    let q = c.in_ok-i.ensures in
    let f = c.in-Escaped.ensures in
    string_of-ends c.args.s.now c.args.v c.args.e c.requires.0 c.requires.1 c.in_ok-i.i c.in-Escaped.end f.2 c.if-end-e-2.false q.0 f.0

pub returns-in-Bad : goal.returns-in-Bad
returns-in-Bad c =
    string_of-none c.args.s.now c.args.v c.args.e c.requires.0
    (ap (λ (o : Option Text). o >>= string) c.in_ok-i.ensures.0 ∙ c.in-Bad.ensures)

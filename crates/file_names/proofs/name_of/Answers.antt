-- Each test is one of the rule's; what lies behind the twentieth byte is the ending.
use native.Mathlib.Omega.{arith}
use mathlib.Core.Path.{◌≡◌, sym, ap, ◌∙◌}
use Prim.Native.Nat.{◌-◌}
use lib.ListN.{length, take, drop}
use Rattle.facts.specs.Parts.{part}
use Rattle.facts.proofs.Parts.{part-behind}
use Rattle.rules.specs.Bytes.{Bytes, ascii}
use Rattle.file_names.specs.declared.Name.TheVariants.{VersionFile, Checkpoint}
use Rattle.file_names.proofs.Endings.{named, name-marker, name-short, name-version, name-checkpoint, name-other}
use Rattle.file_names.proofs.name_of.Goals as goal

-- what lies behind the digits
ending : (n : Bytes) → take (length n - 20) (drop 20 n) ≡ drop 20 n
unfolding part
ending n = part-behind n 20 (length n) (omega arith)

pub returns-then-same_bytes : goal.returns-then-same_bytes
unfolding ascii
returns-then-same_bytes c = name-marker c.args.n.now (sym c.if-same_bytes.ensures)

pub returns-then-n-lt-DIGITS : goal.returns-then-n-lt-DIGITS
unfolding ascii
returns-then-n-lt-DIGITS c = name-short c.args.n.now (sym c.if-same_bytes.ensures) c.if-n-lt-DIGITS.true

pub returns-in-Ok : goal.returns-in-Ok
unfolding ascii
returns-in-Ok c =
    ap (named VersionFile) c.in-Ok.ensures
    ∙ name-version c.args.n.now (sym c.if-same_bytes.ensures) (rw (← ending c.args.n.now) (sym c.if-same_bytes-2.ensures))

pub returns-in-Err : goal.returns-in-Err
unfolding ascii
returns-in-Err c =
    ap (named VersionFile) c.in-Err.ensures
    ∙ name-version c.args.n.now (sym c.if-same_bytes.ensures) (rw (← ending c.args.n.now) (sym c.if-same_bytes-2.ensures))

pub returns-in-Ok-twenty_digits : goal.returns-in-Ok-twenty_digits
unfolding ascii
returns-in-Ok-twenty_digits c =
    ap (named Checkpoint) c.in-Ok-twenty_digits.ensures
    ∙ name-checkpoint c.args.n.now (sym c.if-same_bytes.ensures) (rw (← ending c.args.n.now) (sym c.if-same_bytes-3.ensures))

pub returns-in-Err-twenty_digits : goal.returns-in-Err-twenty_digits
unfolding ascii
returns-in-Err-twenty_digits c =
    ap (named Checkpoint) c.in-Err-twenty_digits.ensures
    ∙ name-checkpoint c.args.n.now (sym c.if-same_bytes.ensures) (rw (← ending c.args.n.now) (sym c.if-same_bytes-3.ensures))

pub returns : goal.returns
unfolding ascii
returns c =
    name-other c.args.n.now (sym c.if-same_bytes.ensures)
    (rw (← ending c.args.n.now) (sym c.if-same_bytes-2.ensures))
    (rw (← ending c.args.n.now) (sym c.if-same_bytes-3.ensures))

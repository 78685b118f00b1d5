-- `next_escaped` meets its contract. An escape's first byte, and the others left.
use Prim.Native.Nat.{◌+◌, ◌≤◌}
use lib.ListN.{length}
use mathlib.Core.Path.{◌≡◌, refl, ◌∙◌}
use native.Mathlib.Omega.{arith}
use Rattle.rules.specs.Json.Strings.{utf8}
use Rattle.json_strings.specs.Ahead.{fresh}
use Rattle.json_strings.proofs.Ahead.{ahead-fresh, flat-at-none, went-escape}
use Rattle.json_strings.proofs.Widths.{size-bounds}
use Rattle.json_strings.proofs.cursors.next_escaped.Goals as goal

pub returns-in_err-code : goal.returns-in_err-code
returns-in_err-code c =
    rw c.from_residual.ensures
    (ahead-fresh c.args.s.now (fresh c.args.at) refl
    ∙ flat-at-none c.args.s.now c.args.at c.requires.0 c.requires.1 c.in_err-code.ensures)

pub utf8_byte-requires : goal.utf8_byte-requires
utf8_byte-requires c =
    let e = c.in_ok-code.ensures in
    let q : c.utf8_size-left.result ≡ length (utf8 c.in_ok-code.code) = c.utf8_size-left.ensures in
    (omega (arith, (size-bounds c.in_ok-code.code).some), omega arith, e.3)

pub overflow_sub-result : goal.overflow_sub-result
overflow_sub-result c = omega (arith, (size-bounds c.in_ok-code.code).some, c.utf8_size-left.ensures)

pub returns : goal.returns
returns c =
    let e = c.in_ok-code.ensures in
    let l : (c.args.at + 1) + 1 ≤ c.in_ok-code.i = e.1 in
    went-escape
    c.args.s.now
    c.args.at
    _ _
    c.utf8_size-left.result
    c.requires.0
    c.requires.1
    e.0
    (omega arith)
    e.2
    e.3
    c.utf8_size-left.ensures
    c.utf8_byte.ensures

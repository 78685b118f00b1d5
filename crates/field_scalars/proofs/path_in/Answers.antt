-- `path_in` meets its contract. One field, whose text begins with a quote; how long it is spelled tells most.
use mathlib.Core.Path.{sym, ap, ◌∙◌, subst}
use Rattle.std.specs.Prelude.{Option}
use Rattle.rules.specs.Bytes.{Bytes}
use Rattle.rules.specs.Json.Fields.{string_of}
use Rattle.field_scalars.specs.Texts.{Read, path_of}
use Rattle.field_scalars.proofs.Single.{proper-single, text-single, text-not-single}
use Rattle.field_scalars.proofs.Paths.{path-long, path-no-string, path-ends, path-next, path-unspelled, path-short, path-measured}
use native.Mathlib.Omega.{arith}
use Rattle.field_scalars.proofs.path_in.Goals as goal

pub returns-then-slot-ne1 : goal.returns-then-slot-ne1
returns-then-slot-ne1 c =
    ap path_of (sym (text-not-single c.args.s.now c.args.slot string_of c.if-slot-ne1.true))

pub skip_byte-requires : goal.skip_byte-requires
skip_byte-requires c =
    let b = proper-single c.args.s.now c.args.slot c.if-slot-ne1.false c.requires in
    omega (arith, b.0, b.1)

pub returns-in_err-q : goal.returns-in_err-q
returns-in_err-q c =
    rw c.from_residual.ensures (path-no-string c.args.s.now c.args.slot c.requires c.if-slot-ne1.false c.in_err-q.ensures)

pub overflow_sub-size : goal.overflow_sub-size
overflow_sub-size c =
    let f = c.in_ok-q.ensures in
    omega (arith, path-ends c.args.s.now c.args.slot c.requires c.if-slot-ne1.false c.in_ok-q.q f.2 f.0)

pub overflow_sub-size-2 : goal.overflow_sub-size-2
overflow_sub-size-2 c =
    let f = c.in_ok-q.ensures in
    omega (arith, path-ends c.args.s.now c.args.slot c.requires c.if-slot-ne1.false c.in_ok-q.q f.2 f.0)

pub returns-then-size-eq0 : goal.returns-then-size-eq0
returns-then-size-eq0 c =
    let f = c.in_ok-q.ensures in
    path-unspelled c.args.s.now c.args.slot c.requires c.if-slot-ne1.false c.in_ok-q.q f.2 f.0 c.if-size-eq0.true

pub returns-then-size-le-LONGEST_PATH : goal.returns-then-size-le-LONGEST_PATH
returns-then-size-le-LONGEST_PATH c =
    let f = c.in_ok-q.ensures in (
      path-short c.args.s.now c.args.slot c.requires c.if-slot-ne1.false c.in_ok-q.q f.2 f.0 (omega arith) c.if-size-le-LONGEST_PATH.true,
      path-next c.args.s.now c.args.slot c.requires c.if-slot-ne1.false c.in_ok-q.q f.2 f.0,
    )

pub string_at-requires : goal.string_at-requires
string_at-requires c =
    let b = proper-single c.args.s.now c.args.slot c.if-slot-ne1.false c.requires in
    (b.0, b.1)

pub returns-in_err-p : goal.returns-in_err-p
returns-in_err-p c =
    let t = text-single c.args.s.now c.args.slot string_of c.if-slot-ne1.false in
    rw c.from_residual-in_err-p.ensures (ap path_of (sym t ∙ c.in_err-p.ensures))

pub returns-then-n-gt-LONGEST_PATH : goal.returns-then-n-gt-LONGEST_PATH
returns-then-n-gt-LONGEST_PATH c =
    let t = text-single c.args.s.now c.args.slot string_of c.if-slot-ne1.false in
    let q = c.in_ok-p.ensures in
    ap path_of (sym t) ∙ path-long q.0 q.1 c.if-n-gt-LONGEST_PATH.true

pub returns : goal.returns
returns c =
    let t = text-single c.args.s.now c.args.slot string_of c.if-slot-ne1.false in
    let f = c.in_ok-q.ensures in
    let q = c.in_ok-p.ensures in (
      path-measured c.args.s.now c.args.slot c.requires c.if-slot-ne1.false c.in_ok-q.q f.2 f.0 (omega arith) c.in_ok-p.p _
          (subst (λ (w : Option Bytes). Read w c.args.s.now c.in_ok-p.p) t q.0) q.1 c.if-n-gt-LONGEST_PATH.false,
      q.2,
    )

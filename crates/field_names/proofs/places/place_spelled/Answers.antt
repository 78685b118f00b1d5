-- `place_spelled` meets its contract. The bytes gathered and those to come are the string's.
use mathlib.Core.Path.{refl, sym, ap, ◌∙◌}
use native.Mathlib.Omega.{arith}
use lib.ListN.{length, length-set}
use lib.Seq.{length-take-le}
use Rattle.rules.specs.Bytes.{Bytes}
use Rattle.json_strings.specs.Ahead.{fresh}
use Rattle.json_strings.proofs.Ahead.{ahead-fresh, sound-fresh}
use Rattle.json_strings.proofs.Gathered.{gathered-more, gathered-all, gathered-long}
use Rattle.json_strings.proofs.Raw.{well-flat, well-within}
use Rattle.field_names.specs.Kinds.{names_of, seek}
use Rattle.field_names.proofs.Seeking.{seek-absent}
use Rattle.field_names.proofs.Naming.{name-short}
use Rattle.field_names.proofs.places.place_spelled.Goals as goal

pub loop-n-init : goal.loop-n-init
loop-n-init c = (
  sound-fresh c.args.s.now c.args.at (omega (arith, well-within c.requires)),
  refl,
  sym (well-flat c.requires) ∙ sym (ahead-fresh c.args.s.now (fresh c.args.at) refl),
)

pub next-requires : goal.next-requires
next-requires c = c.loop-n.invariant.0

pub slice_bounds-name-end : goal.slice_bounds-name-end
slice_bounds-name-end c = omega arith

pub slice_bounds-place_of-end : goal.slice_bounds-place_of-end
slice_bounds-place_of-end c =
    sym (length-take-le c.loop-n.n c.loop-n.name (omega arith))

pub returns-in_default : goal.returns-in_default
returns-in_default c =
    c.place_of.ensures
    ∙ ap (λ (x : Bytes). seek x (names_of c.args.kind))
    (sym (gathered-all c.loop-n.name _ _ c.loop-n.n c.loop-n.invariant.2 c.in_default.ensures))

pub loop-n-preserved : goal.loop-n-preserved
loop-n-preserved c =
    let w = c.in-Some.ensures in
    (w.sound, simp length-set c.loop-n.invariant.1, gathered-more c.loop-n.name _ _ _ c.loop-n.n _ (omega arith) c.loop-n.invariant.2 w.more)

pub returns : goal.returns
returns c =
    c.names_in.ensures
    ∙ sym
    (seek-absent _ (names_of c.args.kind) (λ k h e. omega (
      arith,
      name-short c.args.kind k h,
      ap length e,
      gathered-long c.loop-n.name _ _ c.loop-n.n (omega arith) c.loop-n.invariant.2,
    )))

-- `string_in`: a field that stands once has the string of its text.
use Rattle.std.specs.Prelude.{Option}
use mathlib.Core.Path.{sym, subst}
use Rattle.rules.specs.Bytes.{Bytes}
use Rattle.rules.specs.Json.Fields.{string_of}
use Rattle.field_scalars.specs.Texts.{StringIs}
use Rattle.field_scalars.proofs.Single.{inside-single, text-single, text-not-single}
use Rattle.field_scalars.proofs.string_in.Goals as goal

pub returns-then-slot-ne1 : goal.returns-then-slot-ne1
returns-then-slot-ne1 c = sym (text-not-single c.args.s.now c.args.slot string_of c.if-slot-ne1.true)

pub string_at-requires : goal.string_at-requires
string_at-requires c =
    inside-single c.args.s.now c.args.slot c.if-slot-ne1.false c.requires

pub returns : goal.returns
returns c =
    subst (λ (o : Option Bytes). StringIs o c.args.s.now c.args.slot.start c.string_at.result)
    (text-single c.args.s.now c.args.slot string_of c.if-slot-ne1.false) c.string_at.ensures

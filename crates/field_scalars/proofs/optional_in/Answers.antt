-- `optional_in` meets its contract. By how often the field was seen, and by the text of its value.
use mathlib.Core.Path.{refl, sym, ◌∙◌}
use Rattle.field_scalars.proofs.Single.{inside-single}
use Rattle.field_scalars.proofs.Optionals.{slot-null, slot-there}
use Rattle.field_scalars.proofs.optional_in.Goals as goal

pub returns-in-1 : goal.returns-in-1
returns-in-1 c = slot-null c.args.s.now c.args.slot c.in-1.is (sym c.is_null.ensures ∙ c.if-is_null.true)

pub returns-in-1-2 : goal.returns-in-1-2
returns-in-1-2 c =
    let b = inside-single c.args.s.now c.args.slot c.in-1.is c.requires in
    record {
      says = slot-there c.args.s.now c.args.slot c.in-1.is (sym c.is_null.ensures ∙ c.if-is_null.false);
      once = c.in-1.is;
      begins = refl;
      ends = refl;
      ordered = b.0;
      within = b.1;
    }

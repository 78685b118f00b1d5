-- `format_fits`: by whether the format is there, and by the string that it is.
use mathlib.Core.Path.{sym, ap, ◌∙◌}
use Rattle.rules.specs.Bytes.{ascii}
use Rattle.rules.specs.Json.Fields.{string_of}
use Rattle.rules.specs.Marker.{is_json}
use Rattle.field_scalars.proofs.Optionals.{there-missing, there-none, there-some}
use Rattle.log_starts.specs.Marks.{fits}
use Rattle.log_starts.proofs.format_fits.Goals as goal

pub returns-in-Some-None : goal.returns-in-Some-None
unfolding is_json
returns-in-Some-None c = sym (ap fits (there-missing string_of (rw c.in-Some-None.field-0-is at c.in-Some-None.ensures)))

pub returns-in-Some : goal.returns-in-Some
unfolding is_json ascii
returns-in-Some c =
    let o = rw c.in-Some-Some.field-0-is at c.in-Some-Some.ensures in
    c.string_is.ensures ∙ sym (ap fits (there-some string_of o.says c.in-Some.ensures.0.says))

pub returns-in-None-string_at : goal.returns-in-None-string_at
returns-in-None-string_at c =
    let o = rw c.in-Some-Some.field-0-is at c.in-Some-Some.ensures in
    sym (ap fits (there-none string_of o.says c.in-None-string_at.ensures))

-- The adds of two lines, fact by fact.
use mathlib.Core.Path.{◌≡◌, refl, sym, subst}
use mathlib.Core.Bool.{Bool, true, false, ◌&&◌}
use Rattle.std.specs.Prelude.{Option, None, Some}
use Rattle.std.specs.Option.{option_eq}
use Prim.Native.Nat.{ℕ, ◌+◌}
use lib.Dec.{eqb}
use Rattle.facts.specs.Parts.{part}
use Rattle.rules.specs.Bytes.{same}
use Rattle.rules.specs.Json.Text.{Text}
use Rattle.rules.specs.Actions.{Facts, add, action}
use Rattle.rules.specs.Agreement.{agree_pairs, agree_records, agree_facts}
use Rattle.line_actions.specs.Line.{AddIs}
use Rattle.line_actions.specs.declared.line.Added.{Added}
use Rattle.row_table.specs.declared.Cells.{Cells}
use Rattle.row_live.specs.Live.{place_of}
use Rattle.log_replay.specs.Views.{facts_at}
use Rattle.log_replay.proofs.Adds.{facts_at-add}

-- the code's equality of two numbers that may be missing
pub records-by : (m n : Option ℕ) → option_eq eqb m n ≡ agree_records m n
unfolding agree_records
records-by None None = refl
records-by None (Some n) = refl
records-by (Some m) None = refl
records-by (Some m) (Some n) = refl

and-turned : (p s t r v : Bool) → (p && (s && (t && (r && v)))) ≡ ((((s && t) && r) && p) && v)
and-turned true true true true v = refl
and-turned true true true false v = refl
and-turned true true false r v = refl
and-turned true false t r v = refl
and-turned false true true true v = refl
and-turned false true true false v = refl
and-turned false true false r v = refl
and-turned false false t r v = refl

-- in the order of the code
pub facts-by : (f g : Facts) → agree_facts f g
    ≡ ((((eqb f.size g.size && eqb f.modification_time g.modification_time) && agree_records f.num_records g.num_records) && same f.path g.path)
    && agree_pairs f.partition_values g.partition_values)
unfolding agree_facts
facts-by f g = and-turned (same f.path g.path) (eqb f.size g.size) _ _ _

-- the line of a row
pub an-add : (src : Text) (c : Cells) {f : Facts} {r : Added} → action (part src (place_of c) (place_of c + c.len)) ≡ Some (add f)
    → AddIs (part src (place_of c) (place_of c + c.len)) f r → AddIs (part src (place_of c) (place_of c + c.len)) (facts_at src c) r
an-add src c {f} {r} e w = subst (λ (g : Facts). AddIs (part src (place_of c) (place_of c + c.len)) g r) (sym (facts_at-add src c e)) w

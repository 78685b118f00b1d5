-- What is shown of a line in numbers.
use mathlib.Core.Path.{◌≡◌, refl, sym, ap, ◌∙◌}
use Prim.Native.Nat.{ℕ, ◌-◌}
use Rattle.rules.specs.Json.Text.{Text}
use Rattle.rules.specs.Actions.{Records, records, missing, no_add, path_place, records_shown}
use Rattle.shown.specs.Shown.{shown_is}
use Rattle.std.specs.Prelude.{Option, Some, None}
use Rattle.shown.proofs.Lines.{Standing}
use Rattle.entries_c.specs.Shows.{place_by, records_by}
use Rattle.entries_c.specs.declared.shows.Place.{Place}
use Rattle.entries_c.specs.declared.shows.RecordsShown.{RecordsShown}

-- a path by its start and its length
pub standing-place : {s : Text} {from to : ℕ} → Standing s from to → ◌≡◌ {A = Place} (record { start = from; length = to - from }) (place_by (path_place s))
unfolding place_by
standing-place {s} {from} {to} w =
    ap (λ (n : ℕ). record { start = n; length = to - from }) w.start
    ∙ ap (λ (n : ℕ). record { start = (path_place s).0; length = n }) w.size

-- records as the code answers them
abbrev pub records_from : Option (Option ℕ) → RecordsShown
records_from None = record { stated = 0; number = 0 }
records_from (Some None) = record { stated = 1; number = 0 }
records_from (Some (Some n)) = record { stated = 2; number = n }

pub records-by : (s : Text) {r x : Option (Option ℕ)} → r ≡ shown_is (records_shown s) → r ≡ x → records_from x ≡ records_by (records_shown s)
unfolding shown_is records_by
records-by s e f = ap records_from (sym f ∙ e) ∙ each (records_shown s)
  where
    each : (x : Records) → records_from (shown_is x) ≡ records_by x
    each (records n) = refl
    each missing = refl
    each no_add = refl

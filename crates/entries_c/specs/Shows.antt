-- What C gets of one line.
use Rattle.std.specs.Prelude.{ℕ}
use Rattle.rules.specs.Actions.{Records, records, missing, no_add}
use Rattle.entries_c.specs.declared.shows.Place.{Place}
use Rattle.entries_c.specs.declared.shows.RecordsShown.{RecordsShown}

unfoldable pub place_by : ℕ × ℕ → Place
place_by p = record { start = p.0; length = p.1 }

unfoldable pub records_by : Records → RecordsShown
records_by no_add = record { stated = 0; number = 0 }
records_by missing = record { stated = 1; number = 0 }
records_by (records n) = record { stated = 2; number = n }

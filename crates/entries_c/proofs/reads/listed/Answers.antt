-- `listed` meets its contract.
use Rattle.entries_c.proofs.Listing.{listed-files, listed-refused}
use Rattle.entries_c.proofs.reads.listed.Goals as goal

pub returns-in-Ok : goal.returns-in-Ok
returns-in-Ok c = listed-files _ _ _ c.in-Ok.is c.accepted.ensures

pub returns-in-Err : goal.returns-in-Err
returns-in-Err c = listed-refused _ _ _ c.in-Err.is c.refused_as.ensures

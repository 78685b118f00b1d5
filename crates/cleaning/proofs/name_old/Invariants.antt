-- `name_old` meets its contract: what is named of the files that are passed stands in front of the room.
use Rattle.cleaning.proofs.Going.{Going}
use Rattle.cleaning.proofs.name_old.Given as goal

abbrev pub invariant-loop-k : goal.invariant-loop-k
invariant-loop-k l = Going l.c.0 l.today.0 l.retention.0 l.src l.initial.names l.names l.k l.n

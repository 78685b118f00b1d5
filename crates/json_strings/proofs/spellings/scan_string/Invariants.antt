-- `scan_string` meets its contract. As far as it went the string is spelled as it stands.
use Prim.Native.Nat.{◌-◌}
use lib.ListN.{length}
use Rattle.json_strings.proofs.Scanning.{Scanning}
use Rattle.json_strings.proofs.spellings.scan_string.Given as goal

abbrev pub invariant-loop-i : goal.invariant-loop-i
invariant-loop-i l = Scanning l.s l.at l.i

abbrev pub decreases-loop-i : goal.decreases-loop-i
decreases-loop-i l = length l.s - l.i

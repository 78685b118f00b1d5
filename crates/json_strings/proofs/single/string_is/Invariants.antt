-- `string_is` meets its contract. As far as it went the string and the key are the same bytes.
use Prim.Native.Nat.{◌+◌, ◌≤◌}
use lib.ListN.{length, drop}
use mathlib.Core.Path.{◌≡◌}
use Rattle.rules.specs.Bytes.{same}
use Rattle.json_strings.specs.Decoded.{decoded}
use Rattle.json_strings.specs.Flat.{flat}
use Rattle.json_strings.proofs.single.string_is.Given as goal

abbrev pub invariant-loop-k : goal.invariant-loop-k
invariant-loop-k l = (l.at + l.k ≤ length l.s) × (same (flat (drop (l.at + l.k) l.s)) (drop l.k l.key) ≡ same (decoded (drop l.at l.s)) l.key)

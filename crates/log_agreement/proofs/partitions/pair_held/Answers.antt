-- `pair_held` meets its contract: the member of the other line that has the column's name, if there is one, and its value.
use mathlib.Core.Path.{sym}
use lib.ListN.{drop}
use Rattle.json_strings.specs.Decoded.{decoded}
use Rattle.field_containers.proofs.Pairs.{standing}
use Rattle.log_agreement.proofs.Values.{missing-differs, found-agrees}
use Rattle.log_agreement.proofs.partitions.pair_held.Goals as goal

pub find_name-requires : goal.find_name-requires
find_name-requires c = (c.requires.3.pairing.within, standing c.requires.3.pairing, c.requires.0)

pub same_values-requires : goal.same_values-requires
same_values-requires c =
    let f = c.in-Some.ensures (standing c.requires.3.pairing) in
    (c.requires.1, c.requires.2, f.1, f.2)

pub returns-in-Some : goal.returns-in-Some
returns-in-Some c =
    λ x qs f w.
    found-agrees (decoded (drop c.args.begin c.args.s.now)) x w.ms w.each _ (c.in-Some.ensures (standing w)).0 (λ y g. c.same_values.ensures x y f g)

pub returns-in-None : goal.returns-in-None
returns-in-None c = λ x qs f w. sym (missing-differs (decoded (drop c.args.begin c.args.s.now)) x w.ms w.each (c.in-None.ensures (standing w)))

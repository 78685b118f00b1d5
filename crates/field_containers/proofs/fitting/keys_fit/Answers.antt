-- `keys_fit` meets its contract. Where names and columns are the same one after the other, they are the same set; else one way, and then the other.
use mathlib.Core.Path.{sym, ap, ◌∙◌}
use mathlib.Core.Bool.{Bool, ◌&&◌}
use Rattle.rules.specs.Bytes.{all_among, same_set, firsts}
use Rattle.field_containers.proofs.Pairs.{standing, pairing-object, sets_same}
use Rattle.field_containers.proofs.fitting.keys_fit.Goals as goal

pub spelled_alike-requires : goal.spelled_alike-requires
spelled_alike-requires c =
    (c.requires.0.pairing.within, c.requires.1)

pub returns-then-spelled_alike : goal.returns-then-spelled_alike
returns-then-spelled_alike c =
    λ ps cs w l. c.if-spelled_alike.true ∙ sym (sets_same (c.spelled_alike.ensures c.if-spelled_alike.true (firsts ps) cs (pairing-object w) l))

pub names_among-requires : goal.names_among-requires
names_among-requires c =
    (c.requires.0.pairing.within, c.requires.1, c.requires.2)

pub columns_among-requires : goal.columns_among-requires
columns_among-requires c =
    (c.requires.1, c.requires.0.pairing.within, standing c.requires.0.pairing)

pub returns-then-names_among : goal.returns-then-names_among
unfolding same_set
returns-then-names_among c = λ ps cs w l. c.columns_among.ensures (firsts ps) cs (pairing-object w) l
    ∙ sym (ap (λ (b : Bool). b && all_among (firsts ps) cs)
    (sym (c.names_among.ensures (firsts ps) cs (pairing-object w) l) ∙ c.if-names_among.true))

pub returns-else-names_among : goal.returns-else-names_among
unfolding same_set
returns-else-names_among c = λ ps cs w l. c.if-names_among.false ∙ sym (ap (λ (b : Bool). b && all_among (firsts ps) cs)
    (sym (c.names_among.ensures (firsts ps) cs (pairing-object w) l) ∙ c.if-names_among.false))

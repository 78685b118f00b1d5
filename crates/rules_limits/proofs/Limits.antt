-- The limits hold of the rules, by computation: each row by itself, since one declaration may not take the steps of two.
use mathlib.Core.Path.{◌≡◌, refl}
use mathlib.Core.List.{[], ◌∷◌}
use Rattle.rules.specs.Bytes.{ascii}
use Rattle.rules.specs.Reading.{the_latest}
use Rattle.rules.specs.Edges.{Holds, read, awaits, listed, refusal, rule}
use Rattle.rules.proofs.Opened.{rules}
use Rattle.rules_limits.specs.Limits.{limits, many_live, many_skipped, paths_from, adds, digits4}

all-accepted : rule (read the_latest "[]" (many_live 1_024)) ≡ listed 1 (paths_from 0 1_024)
unfolding rules many_live paths_from adds digits4
all-accepted = refl

the-1025th-refused : rule (read the_latest "[]" (many_live 1_025)) ≡ refusal 7 1 1_025
unfolding rules many_live adds digits4
the-1025th-refused = refl

one-skipped : rule (awaits 0 many_skipped) ≡ listed 1 (ascii "1023" ∷ [])
unfolding rules many_skipped adds digits4
one-skipped = refl

pub limits-hold : Holds limits
unfolding limits
limits-hold = (all-accepted, (the-1025th-refused, (one-skipped, tt)))

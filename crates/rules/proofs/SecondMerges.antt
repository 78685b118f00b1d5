-- The examples of files waiting for a second merge hold of the rules, by computation.
use mathlib.Core.Path.{refl}
use Rattle.rules.specs.Edges.{Holds}
use Rattle.rules.specs.SecondMerges.{skip_counts, retry_times, malformed_skips, effects, by_version, dues, cleanings}
use Rattle.rules.proofs.Opened.{rules}

pub skip_counts-hold : Holds skip_counts
unfolding rules
skip_counts-hold = (refl, (refl, (refl, (refl, (refl, (refl, (refl, (refl, (refl, tt)))))))))

pub retry_times-hold : Holds retry_times
unfolding rules
retry_times-hold = (refl, (refl, (refl, (refl, (refl, (refl, (refl, (refl, tt))))))))

pub malformed_skips-hold : Holds malformed_skips
unfolding rules
malformed_skips-hold = (refl, (refl, (refl, (refl, (refl, (refl, (refl, (refl, (refl, (refl, (refl, (refl, (refl, (refl, tt))))))))))))))

pub effects-hold : Holds effects
unfolding rules
effects-hold = (refl, (refl, (refl, (refl, (refl, (refl, (refl, (refl, tt))))))))

pub by_version-hold : Holds by_version
unfolding rules
by_version-hold = (refl, (refl, (refl, (refl, (refl, (refl, (refl, tt)))))))

pub dues-hold : Holds dues
unfolding rules
dues-hold = (refl, (refl, (refl, (refl, (refl, (refl, (refl, (refl, (refl, (refl, (refl, (refl, (refl, (refl, (refl, tt)))))))))))))))

pub cleanings-hold : Holds cleanings
unfolding rules
cleanings-hold = (refl, (refl, (refl, (refl, (refl, (refl, (refl, (refl, tt))))))))

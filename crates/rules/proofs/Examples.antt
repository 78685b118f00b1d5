-- The examples beside P1 to P12 hold of the rules, by computation.
use mathlib.Core.Path.{refl}
use Rattle.rules.specs.Edges.{Holds}
use Rattle.rules.specs.Examples.{listings, places, sides, meta_data_later, tempting, refusals}
use Rattle.rules.proofs.Opened.{rules}

pub listings-hold : Holds listings
unfolding rules
listings-hold = (refl, (refl, (refl, tt)))

pub places-hold : Holds places
unfolding rules
places-hold = (refl, (refl, (refl, (refl, (refl, (refl, (refl, tt)))))))

pub sides-hold : Holds sides
unfolding rules
sides-hold = (refl, (refl, (refl, (refl, (refl, (refl, (refl, (refl, (refl, (refl, (refl, tt)))))))))))

pub meta_data_later-hold : Holds meta_data_later
unfolding rules
meta_data_later-hold = (
  refl,
  (
    refl,
    (
      refl,
      (
        refl,
        (
          refl,
          (
            refl,
            (
              refl,
              (
                refl,
                (
                  refl,
                  (
                    refl,
                    (
                      refl,
                      (
                        refl,
                        (
                          refl,
                          (
                            refl,
                            (
                              refl,
                              (
                                refl,
                                (
                                  refl,
                                  (
                                    refl,
                                    (
                                      refl,
                                      (
                                        refl,
                                        (refl, (refl, (refl, (refl, (refl, (refl, (refl, (refl, tt)))))))),
                                      ),
                                    ),
                                  ),
                                ),
                              ),
                            ),
                          ),
                        ),
                      ),
                    ),
                  ),
                ),
              ),
            ),
          ),
        ),
      ),
    ),
  ),
)

pub tempting-hold : Holds tempting
unfolding rules
tempting-hold = (refl, (refl, (refl, (refl, (refl, (refl, (refl, tt)))))))

pub refusals-hold : Holds refusals
unfolding rules
refusals-hold = (
  refl,
  (
    refl,
    (
      refl,
      (
        refl,
        (refl, (refl, (refl, (refl, (refl, (refl, (refl, (refl, (refl, (refl, (refl, (refl, (refl, (refl, (refl, (refl, (refl, (refl, tt)))))))))))))))))),
      ),
    ),
  ),
)

-- Partition values of which no two are of one column: what the rules ask of two lists of them is asked pair by pair, one way
-- and then the other.
use mathlib.Core.Path.{◌≡◌, refl, sym, ap, ap₂, ◌∙◌}
use mathlib.Core.Bool.{Bool, true, false, ◌&&◌}
use Rattle.std.specs.Prelude.{Option, Some}
use mathlib.Core.List.{[], ◌∷◌}
use Prim.Native.Nat.{ℕ}
use Rattle.facts.specs.Lists.{All}
use Rattle.rules.specs.Bytes.{Bytes, same, holds, distinct, firsts}
use Rattle.rules.specs.Json.Text.{Text}
use Rattle.rules.specs.Actions.{Pairs}
use Rattle.rules.specs.Picking.{value_at}
use Rattle.rules.specs.Agreement.{agree_found, agree_on, agree_pairs}
use Rattle.rules.proofs.Tests.{by, true-not-false, tests-equal}
use Rattle.rules.proofs.Order.{same_true, same_false}
use Rattle.rules.proofs.Holding.{holds-head, holds-past, distinct_head, distinct_tail}
use Rattle.rules.proofs.Agreement.{agree_found-true, agree_found-refl, value_at-here, value_at-past}
use Rattle.rules.proofs.Pairs.{firsts-pairs}
use Rattle.field_containers.specs.Nested.{Pairing}
use Rattle.log_agreement.specs.OneWay.{held_in}

-- ---- the value of a column within its own pairs

-- each of `these` has its value in ps
abbrev Own : (these ps : Pairs) → Type 0
Own these ps = All (λ (c : Bytes × Option Bytes). value_at c.0 ps ≡ Some c.1) these

own-past : (p : Bytes × Option Bytes) (ps these : Pairs) → holds p.0 (firsts these) ≡ false → Own these ps → Own these (p ∷ ps)
unfolding All firsts
own-past p ps [] h o = tt
own-past p ps (c ∷ these) h o = by (same p.0 c.0)
    (λ e. absurd (true-not-false (holds-head p.0 c.0 (firsts these) (same_true p.0 c.0 e)) h))
    (λ e. (
      value_at-past c.0 p ps (λ q. same_false p.0 c.0 e (sym q)) ∙ o.0,
      own-past p ps these (sym (holds-past p.0 c.0 (firsts these) (same_false p.0 c.0 e)) ∙ h) o.1,
    ))

own : (ps : Pairs) → distinct (firsts ps) ≡ true → Own ps ps
unfolding All firsts
own [] d = tt
own (p ∷ ps) d = (value_at-here p.0 p ps refl, own-past p ps ps (distinct_head p.0 (firsts ps) d) (own ps (distinct_tail p.0 (firsts ps) d)))

-- ---- one way and the other

agree_found-sym : (x y : Option (Option Bytes)) → agree_found x y ≡ agree_found y x
agree_found-sym x y = tests-equal (agree_found x y) (agree_found y x) (turned x y) (turned y x)
  where
    turned : (x y : Option (Option Bytes)) → agree_found x y ≡ true → agree_found y x ≡ true
    turned x y e = let q : x ≡ y = agree_found-true x y e in rw q (agree_found-refl y)

-- go on where the test passes
only_if : Bool → Bool → Bool
only_if b r = elim b [ true ↦ r | false ↦ false ]

module _ (ps qs : Pairs) where
  on-first : (these : Pairs) → Own these ps → agree_on these ps qs ≡ held_in these qs
  unfolding agree_on held_in All only_if
  on-first [] o = refl
  on-first (c ∷ these) o = ap₂ only_if (ap (λ (x : Option (Option Bytes)). agree_found x (value_at c.0 qs)) o.0) (on-first these o.1)

  on-second : (these : Pairs) → Own these qs → agree_on these ps qs ≡ held_in these ps
  unfolding agree_on held_in All only_if
  on-second [] o = refl
  on-second (c ∷ these) o = ap₂ only_if
      (agree_found-sym (value_at c.0 ps) (value_at c.0 qs) ∙ ap (λ (x : Option (Option Bytes)). agree_found x (value_at c.0 ps)) o.0)
      (on-second these o.1)

pub pairing-agrees : {s t : Text} {at from : ℕ} {ps qs : Pairs} → Pairing s at ps → Pairing t from qs → agree_pairs ps qs ≡ (held_in ps qs && held_in qs ps)
unfolding agree_pairs
pairing-agrees {ps = ps} {qs = qs} v w =
    ap₂ ◌&&◌
    (on-first ps qs ps (own ps (ap distinct (firsts-pairs v.ms v.each) ∙ v.distinct)))
    (on-second ps qs qs (own qs (ap distinct (firsts-pairs w.ms w.each) ∙ w.distinct)))

-- The way to a version is there exactly where a start reaches it, and begins at the highest; the latest version stops at a gap.
use mathlib.Core.Path.{◌≡◌, refl, subst}
use mathlib.Core.Logic.{◌⊎◌, inl, inr}
use mathlib.Core.Bool.{Bool, true, false}
use Rattle.std.specs.Prelude.{Option, None, Some}
use mathlib.Core.List.{List, [], ◌∷◌}
use Prim.Native.Nat.{ℕ, zero, suc, ◌+◌, ◌≤◌, ◌<◌}
use native.Mathlib.Omega.{arith}
use native.Mathlib.Decide.{dec_le}
use Rattle.rules.specs.Numbers.{most}
use Rattle.rules.specs.Bundle.{File}
use Rattle.rules.specs.Names.{Name, name_of, version_in, is}
use Rattle.rules.specs.Starts.{Log, find, log_of, start_at, Way, from_zero, from_checkpoint, and_then, onward_by, by_file, by_start, way_to}
use Rattle.rules.specs.Marker.{marked, climb_by, climb, or_zero, latest}
use Rattle.rules.proofs.Tests.{apart}
use Rattle.rules.proofs.SoleNames.{is-version, version-small}
use Rattle.demands.specs.Reaching.{There, IsStart, Reaches, SomeStart, NoStart, From, at-checkpoint, at_zero}
use Rattle.demands.specs.Reaching.{and-then, Highest, ReadFromTheHighest, StopsAtAGap, LatestStopsAtAGap}

-- ---- by the steps of the way

onward_by-none : (g : File) (o : Option Way) → onward_by g o ≡ None → o ≡ None
unfolding onward_by
onward_by-none g None e = refl
onward_by-none g (Some w) e = apart (cc)

onward_by-some : (g : File) (o : Option Way) (w : Way) → onward_by g o ≡ Some w → (u : Way) × (o ≡ Some u) × (and_then u g ≡ w)
unfolding onward_by
onward_by-some g None w e = apart (cc)
onward_by-some g (Some u) w e = (u, refl, cc)

pub by_file-none : (o : Option File) (k : Unit {0} → Option Way) → by_file o k ≡ None → (o ≡ None) ⊎ (k tt ≡ None)
unfolding by_file
by_file-none None k e = inl refl
by_file-none (Some g) k e = inr (onward_by-none g (k tt) e)

pub by_file-some : (o : Option File) (k : Unit {0} → Option Way) (w : Way) → by_file o k ≡ Some w
    → (g : File) × (o ≡ Some g) × ((u : Way) × (k tt ≡ Some u) × (and_then u g ≡ w))
unfolding by_file
by_file-some None k w e = apart (cc)
by_file-some (Some g) k w e = (g, refl, onward_by-some g (k tt) w e)

by_start-none : (o : Option File) (k : Unit {0} → Option Way) → by_start o k ≡ None → (o ≡ None) × (k tt ≡ None)
unfolding by_start
by_start-none None k e = (refl, e)
by_start-none (Some f) k e = apart (cc)

by_start-some : (o : Option File) (k : Unit {0} → Option Way) (w : Way) → by_start o k ≡ Some w
    → ((f : File) × (o ≡ Some f) × (from_checkpoint f ≡ w)) ⊎ ((o ≡ None) × (k tt ≡ Some w))
unfolding by_start
by_start-some None k w e = inr (refl, e)
by_start-some (Some f) k w e = inl (f, refl, cc)

-- ---- no way, no start

pub not_there : {A : Type 0} {o : Option A} → o ≡ None → There o → ⊥
not_there e (x, h) = apart (cc)

-- a start at suc v is a checkpoint
start-above : (log : Log) (v s : ℕ) → s ≡ suc v → IsStart log s → There (start_at log (suc v))
start-above log v s q (inl (z, t)) = absurd (omega arith)
start-above log v s q (inr t) = subst (λ (x : ℕ). There (start_at log x)) q t

pub no-way-no-start : (log : Log) (v : ℕ) → way_to log v ≡ None → NoStart log v
unfolding way_to
no-way-no-start log zero e s st r =
    let p = by_start-none (start_at log zero) (λ _. Some from_zero) e in
    let q : Some from_zero ≡ None = p.1 in
    apart (cc)
no-way-no-start log (suc v) e s st r =
    let p = by_start-none (start_at log (suc v)) (λ _. by_file (log.version_file (suc v)) (λ _. way_to log v)) e in
    go p.0 (by_file-none (log.version_file (suc v)) (λ _. way_to log v) p.1) (no-way-no-start log v) (dec_le s v)
  where
    gap : (log.version_file (suc v) ≡ None) ⊎ (way_to log v ≡ None) → (way_to log v ≡ None → NoStart log v) → s ≤ v → ⊥
    gap (inl e) ih l = not_there e (r.between (suc v) (omega arith) (omega arith))
    gap (inr e) ih l = ih e s st (record { below = l; between = λ w a b. r.between w a (omega arith) })

    go : start_at log (suc v) ≡ None → (log.version_file (suc v) ≡ None) ⊎ (way_to log v ≡ None) → (way_to log v ≡ None → NoStart log v) → Dec (s ≤ v) → ⊥
    go e p ih (yes l) = gap p ih l
    go e p ih (no n) = not_there e (start-above log v s (omega (arith, r.below)) st)

-- ---- the way begins at the highest start

way-highest : (log : Log) (v : ℕ) (w : Way) → way_to log v ≡ Some w → Highest log v w
unfolding way_to
way-highest log zero w e = go (by_start-some (start_at log zero) (λ _. Some from_zero) w e)
  where
    go : ((f : File) × (start_at log zero ≡ Some f) × (from_checkpoint f ≡ w)) ⊎ ((start_at log zero ≡ None) × (Some from_zero ≡ Some w)) → Highest log zero w
    go (inl (f, e, q)) = subst (Highest log zero) q (record { s = zero; begins = at-checkpoint e; highest = λ t i r. r.below })
    go (inr (e, q)) = subst (Highest log zero) (cc) (record { s = zero; begins = at_zero e; highest = λ t i r. r.below })
way-highest log (suc v) w e = go (by_start-some (start_at log (suc v)) (λ _. by_file (log.version_file (suc v)) (λ _. way_to log v)) w e) (way-highest log v)
  where
    below-it : (u : Way) (p : Highest log v u) (t : ℕ) → start_at log (suc v) ≡ None → IsStart log t → Reaches log t (suc v) → Dec (t ≤ v) → t ≤ p.s
    below-it u p t e i r (yes l) = p.highest t i (record { below = l; between = λ x a b. r.between x a (omega arith) })
    below-it u p t e i r (no n) = absurd (not_there e (start-above log v t (omega (arith, r.below)) i))

    go : ((f : File) × (start_at log (suc v) ≡ Some f) × (from_checkpoint f ≡ w))
        ⊎
        ((start_at log (suc v) ≡ None) × (by_file (log.version_file (suc v)) (λ _. way_to log v) ≡ Some w))
        → ((u : Way) → way_to log v ≡ Some u → Highest log v u) → Highest log (suc v) w
    go (inl (f, e, q)) ih = subst (Highest log (suc v)) q (record { s = suc v; begins = at-checkpoint e; highest = λ t i r. r.below })
    go (inr (e, q)) ih =
        let b = by_file-some (log.version_file (suc v)) (λ _. way_to log v) w q in
        let u = b.2.0 in
        let p = ih u b.2.1 in
        subst (Highest log (suc v)) b.2.2 (record { s = p.s; begins = and-then p.begins b.1; highest = λ t i r. below-it u p t e i r (dec_le t v) })

-- ---- a way, some start

pub reaches-next : (log : Log) (s v : ℕ) → Reaches log s v → There (log.version_file (suc v)) → Reaches log s (suc v)
reaches-next log s v r t = record { below = omega (arith, r.below); between = λ x a b. go x a b (dec_le x v) }
  where
    go : (x : ℕ) → s < x → x ≤ suc v → Dec (x ≤ v) → There (log.version_file x)
    go x a b (yes l) = r.between x a l
    go x a b (no n) = let q : suc v ≡ x = omega arith in subst (λ (y : ℕ). There (log.version_file y)) q t

from-reaches : (log : Log) (s v : ℕ) (w : Way) → From log s v w → Reaches log s v
from-reaches log s v w (at-checkpoint e) = record { below = omega arith; between = λ x a b. absurd (omega arith) }
from-reaches log s v w (at_zero e) = record { below = omega arith; between = λ x a b. absurd (omega arith) }
from-reaches log s _ _ (and-then {v = v} {w = w} {g = g} h e) = reaches-next log s v (from-reaches log s v w h) (g, e)

from_start : (log : Log) (s v : ℕ) (w : Way) → There (log.version_file 0) → From log s v w → IsStart log s
from_start log s v w z (at-checkpoint {f = f} e) = inr (f, e)
from_start log s v w z (at_zero e) = inl (refl, z)
from_start log s _ _ z (and-then {v = v} {w = w} h e) = from_start log s v w z h

pub way-some-start : (log : Log) (v : ℕ) (w : Way) → There (log.version_file 0) → way_to log v ≡ Some w → SomeStart log v
way-some-start log v w z e =
    let p = way-highest log v w e in
    record { s = p.s; start = from_start log p.s v w z p.begins; reaches = from-reaches log p.s v w p.begins }

-- the highest start gives the way
highest-way : (log : Log) (s v : ℕ) (w : Way) → From log s v w → ((t : ℕ) → IsStart log t → Reaches log t v → t ≤ s) → way_to log v ≡ Some w
unfolding way_to by_start by_file onward_by
highest-way log s zero _ (at-checkpoint e) h = rw e
highest-way log s (suc v) _ (at-checkpoint e) h = rw e
highest-way log s _ _ (at_zero e) h = rw e
highest-way log s _ _ (and-then {v = v} {w = w} {g = g} f e) h =
    let r = from-reaches log s v w f in
    rw (no_start (start_at log (suc v)) refl r.below, e, highest-way log s v w f (λ t i q. h t i (reaches-next log t v q (g, e))))
  where
    no_start : (o : Option File) → start_at log (suc v) ≡ o → s ≤ v → o ≡ None
    no_start None q l = refl
    no_start (Some c) q l =
        let m : suc v ≤ s = h (suc v) (inr (c, q)) (record { below = omega arith; between = λ x a b. absurd (omega arith) }) in
        absurd (omega arith)

pub read-from-the-highest : ReadFromTheHighest
read-from-the-highest log v w = (way-highest log v w, (λ p. highest-way log p.s v w p.begins p.highest))

-- ---- the latest version

record Climbed (bound : ℕ) (log : Log) (s r : ℕ) : Type 0 where
  above : s ≤ r
  no_gap : (w : ℕ) → s < w → w ≤ r → There (log.version_file w)
  stops : (log.version_file (suc r) ≡ None) ⊎ (r ≡ s + bound)

climb-climbs : (n : ℕ) (log : Log) (s : ℕ) → Climbed n log s (climb n log s)
unfolding climb climb_by
climb-climbs zero log s = record { above = omega arith; no_gap = λ w a b. absurd (omega arith); stops = inr (omega arith) }
climb-climbs (suc n) log s = go (log.version_file (suc s)) refl (climb n log (suc s)) (climb-climbs n log (suc s))
  where
    go : (o : Option File) → log.version_file (suc s) ≡ o → (r : ℕ) → Climbed n log (suc s) r → Climbed (suc n) log s (climb_by o s (λ _. r))
    go None e r p = record { above = omega arith; no_gap = λ w a b. absurd (omega arith); stops = inl e }
    go (Some f) e r p = record { above = omega (arith, p.above); no_gap = λ w a b. next w b (dec_le w (suc s)) a; stops = last p.stops }
      where
        next : (w : ℕ) → w ≤ r → Dec (w ≤ suc s) → s < w → There (log.version_file w)
        next w b (yes l) a = let q : suc s ≡ w = omega arith in subst (λ (x : ℕ). There (log.version_file x)) q (f, e)
        next w b (no m) a = p.no_gap w (omega arith) b

        last : (log.version_file (suc r) ≡ None) ⊎ (r ≡ suc s + n) → (log.version_file (suc r) ≡ None) ⊎ (r ≡ s + suc n)
        last (inl e) = inl e
        last (inr e) = inr (omega arith)

pub latest-above : (log : Log) → or_zero (marked log) ≤ latest log
unfolding latest
latest-above log = (climb-climbs most log (or_zero (marked log))).above

-- what is found passes the test
find-passes : (test : Name → Bool) (fs : List File) (f : File) → find test fs ≡ Some f → test (name_of f.name) ≡ true
unfolding find
find-passes test [] f e = apart (cc)
find-passes test (g ∷ fs) f e = go (test (name_of g.name)) refl e (find-passes test fs f)
  where
    go : (b : Bool) → test (name_of g.name) ≡ b → ◌≡◌ {A = Option File} (elim b [ true ↦ Some g | false ↦ find test fs ]) (Some f)
        → (find test fs ≡ Some f → test (name_of f.name) ≡ true) → test (name_of f.name) ≡ true
    go true q e ih = let p : g ≡ f = cc in subst (λ (x : File). test (name_of x.name) ≡ true) p q
    go false q e ih = ih e

-- no version is above 2^63 - 1
none-above-most : (fs : List File) (w : ℕ) → most < w → (log_of fs).version_file w ≡ None
unfolding log_of
none-above-most fs w l = go (find (λ n. is w (version_in n)) fs) refl
  where
    go : (o : Option File) → find (λ n. is w (version_in n)) fs ≡ o → o ≡ None
    go None e = refl
    go (Some f) e =
        let m : w ≤ most = version-small f.name w (is-version w (name_of f.name) (find-passes (λ n. is w (version_in n)) fs f e)) in
        absurd (omega arith)

-- where the bound is met, the next version is too large to be there
pub latest-stops : LatestStopsAtAGap
unfolding latest
latest-stops fs = go (climb most (log_of fs) (or_zero (marked (log_of fs)))) (climb-climbs most (log_of fs) (or_zero (marked (log_of fs))))
  where
    go : (r : ℕ) → Climbed most (log_of fs) (or_zero (marked (log_of fs))) r → StopsAtAGap (log_of fs) (or_zero (marked (log_of fs))) r
    go r p = record { reached = record { below = p.above; between = p.no_gap }; highest = λ v q. highest v q (dec_le v r); gap = gap p.stops }
      where
        gap : ((log_of fs).version_file (suc r) ≡ None) ⊎ (r ≡ or_zero (marked (log_of fs)) + most) → (log_of fs).version_file (suc r) ≡ None
        gap (inl e) = e
        gap (inr e) = none-above-most fs (suc r) (omega arith)

        highest : (v : ℕ) → Reaches (log_of fs) (or_zero (marked (log_of fs))) v → Dec (v ≤ r) → v ≤ r
        highest v q (yes l) = l
        highest v q (no n) = absurd (not_there (gap p.stops) (q.between (suc r) (omega (arith, p.above)) (omega arith)))

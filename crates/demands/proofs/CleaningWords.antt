-- The paper's words and the cleaner's tests: rooms long enough, not writable, another start, and what is named.
use mathlib.Core.Path.{◌≡◌, refl, subst}
use mathlib.Core.Logic.{◌⊎◌, inl, inr}
use mathlib.Core.Bool.{Bool, true, false, ◌&&◌}
use Rattle.std.specs.Prelude.{None, Some}
use mathlib.Core.List.{[], ◌∷◌}
use Prim.Native.Nat.{ℕ, zero, suc, ◌-◌, ◌≤◌}
use native.Mathlib.Omega.{arith}
use native.Mathlib.Decide.{dec_le}
use lib.Dec.{leb, ltb}
use borrow.Author.Tests.{leb-true, leb-false, le-leb, lt-leb, ltb-true, lt-ltb}
use Rattle.rules.specs.Bytes.{all_among, keep_if}
use Rattle.rules.specs.Bundle.{File}
use Rattle.rules.specs.Names.{name_of, version_in}
use Rattle.rules.specs.Actions.{Protocol}
use Rattle.rules.specs.Starts.{Log, Way, and_then, onward_by, by_file, way_to, other_way_to}
use Rattle.rules.specs.Gate.{known_writer, writer_names, writable}
use Rattle.rules.specs.Rooms.{rows_room, names_room}
use Rattle.rules.specs.Cleaning.{is_between, is_old, may_go, named, Lent, enough}
use Rattle.rules.proofs.Tests.{apart, and_left, and_right, and_both, and-fails-left, and-fails-right, true-not-false}
use Rattle.demands.specs.Reaching.{There, IsStart, Reaches, From, at-checkpoint, at_zero, and-then, Highest, IsOther}
use Rattle.demands.specs.Reaching.{FromOther, other-checkpoint, version-zero, and-after, HighestOther, OtherFromTheHighest}
use Rattle.demands.specs.CleaningExactly.{Enough, NotWritable, NoOther, IsNamed, Names, no_more, names, passes, NamedExactly}
use Rattle.demands.proofs.Starts.{by_file-none, by_file-some, no-way-no-start, way-some-start, reaches-next, read-from-the-highest, not_there}
use Rattle.demands.proofs.Words.{all_among-unknown, unknown-all_among}
use Rattle.demands.proofs.LastSentence.{is_between-version}

-- ---- the paper's words and the rules' tests

pub enough-true : (lent : Lent) → Enough lent → enough lent ≡ true
unfolding enough
enough-true lent (a, b, c) = and_both (le-leb names_room lent.names a) (and_both (le-leb rows_room lent.table₁ b) (le-leb rows_room lent.table₂ c))

pub true-enough : (lent : Lent) → enough lent ≡ true → Enough lent
unfolding enough
true-enough lent e =
    let a : Bool = leb names_room lent.names in
    let b : Bool = leb rows_room lent.table₁ in
    let c : Bool = leb rows_room lent.table₂ in
    let f : (b && c) ≡ true = and_right a (b && c) e in (
      leb-true names_room lent.names (and_left a (b && c) e),
      leb-true rows_room lent.table₁ (and_left b c f),
      leb-true rows_room lent.table₂ (and_right b c f),
    )

pub not_writable-false : (p : Protocol) → NotWritable p → writable p ≡ false
unfolding writable
not_writable-false p (inl l) = and-fails-left (all_among writer_names p.writer_features) (lt-leb p.min_writer_version known_writer l)
not_writable-false p (inr u) = and-fails-right (leb p.min_writer_version known_writer) (unknown-all_among writer_names p.writer_features u)

pub false-not_writable : (p : Protocol) → writable p ≡ false → NotWritable p
unfolding writable
false-not_writable p h = go (leb p.min_writer_version known_writer) refl h
  where
    go : (b : Bool) → leb p.min_writer_version known_writer ≡ b → (b && all_among writer_names p.writer_features) ≡ false → NotWritable p
    go false e h = inl (leb-false p.min_writer_version known_writer e)
    go true e h = inr (all_among-unknown writer_names p.writer_features h)

-- ---- another start

-- below suc c, a start is another one than the checkpoint there, and the other way round
start-other : (log : Log) (c t : ℕ) → t ≤ c → IsStart log t → IsOther log (suc c) t
start-other log c t l (inl h) = inl h
start-other log c t l (inr h) = inr (h, λ q. omega arith)

other-start : (log : Log) (c t : ℕ) → IsOther log c t → IsStart log t
other-start log c t (inl h) = inl h
other-start log c t (inr h) = inr h.0

-- and none of them is at suc c
other-below : (log : Log) (c t : ℕ) → IsOther log (suc c) t → t ≤ suc c → t ≤ c
other-below log c t (inl h) l = let z : t ≡ 0 = h.0 in omega arith
other-below log c t (inr h) l = go (dec_le t c)
  where
    go : Dec (t ≤ c) → t ≤ c
    go (yes b) = b
    go (no n) = absurd (h.1 (omega arith))

pub no_other : (log : Log) (c : ℕ) → There (log.version_file 0) → other_way_to log c ≡ None → NoOther log c
unfolding other_way_to
no_other log zero z e s i r = apart (cc)
no_other log (suc c) z e s i r = let l = other-below log c s i r.below in go (by_file-none (log.version_file (suc c)) (λ _. way_to log c) e) l
  where
    go : (log.version_file (suc c) ≡ None) ⊎ (way_to log c ≡ None) → s ≤ c → ⊥
    go (inl e) l = not_there e (r.between (suc c) (omega arith) (omega arith))
    go (inr e) l = no-way-no-start log c e s (other-start log (suc c) s i) (record { below = l; between = λ w a b. r.between w a (omega arith) })

pub some-other : (log : Log) (c : ℕ) (w : Way) → There (log.version_file 0) → other_way_to log c ≡ Some w → NoOther log c → ⊥
unfolding other_way_to
some-other log zero w z e n = n zero (inl (refl, z)) (record { below = omega arith; between = λ x a b. absurd (omega arith) })
some-other log (suc c) w z e n = let b = by_file-some (log.version_file (suc c)) (λ _. way_to log c) w e in go b.0 b.1 b.2.0 b.2.1
  where
    go : (g : File) → log.version_file (suc c) ≡ Some g → (u : Way) → way_to log c ≡ Some u → ⊥
    go g eg u eu =
        let p = way-some-start log c u z eu in
        n p.s (start-other log c p.s p.reaches.below p.start) (reaches-next log p.s c p.reaches (g, eg))

-- ---- the other way begins at the highest other start

from-other : (log : Log) (c s v : ℕ) (w : Way) → v ≤ c → From log s v w → FromOther log (suc c) s v w
from-other log c s _ _ l (at-checkpoint e) = other-checkpoint e (λ q. omega arith)
from-other log c s _ _ l (at_zero e) = version-zero (inl e)
from-other log c s _ _ l (and-then {v = v} {w = w} h e) = and-after (from-other log c s v w (omega arith) h) e

other_from : (log : Log) (c s v : ℕ) (w : Way) → FromOther log (suc c) s v w → From log s v w
other_from log c s _ _ (other-checkpoint e n) = at-checkpoint e
other_from log c s _ _ (version-zero (inl e)) = at_zero e
other_from log c s _ _ (version-zero (inr q)) = absurd (omega arith)
other_from log c s _ _ (and-after {v = v} {w = w} h e) = and-then (other_from log c s v w h) e

other-highest : (log : Log) (c : ℕ) (w : Way) → other_way_to log c ≡ Some w → HighestOther log c w
unfolding other_way_to
other-highest log zero w e = subst (HighestOther log zero) (cc) (record { s = zero; begins = version-zero (inr refl); highest = λ t i r. r.below })
other-highest log (suc c) w e =
    let b = by_file-some (log.version_file (suc c)) (λ _. way_to log c) w e in
    let u = b.2.0 in
    let p : Highest log c u = (read-from-the-highest log c u).0 b.2.1 in
    subst (HighestOther log (suc c)) b.2.2
    (record {
      s = p.s;
      begins = and-after (from-other log c p.s c u (omega arith) p.begins) b.1;
      highest = λ t i r. below-it u p t i r (other-below log c t i r.below);
    })
  where
    below-it : (u : Way) (p : Highest log c u) (t : ℕ) → IsOther log (suc c) t → Reaches log t (suc c) → t ≤ c → t ≤ p.s
    below-it u p t i r l = p.highest t (other-start log (suc c) t i) (record { below = l; between = λ x a b. r.between x a (omega arith) })

highest-other : (log : Log) (s c v : ℕ) (w : Way) → v ≡ c → FromOther log c s v w → ((t : ℕ) → IsOther log c t → Reaches log t c → t ≤ s)
    → other_way_to log c ≡ Some w
unfolding other_way_to by_file onward_by
highest-other log s c _ _ q (other-checkpoint e n) h = absurd (n q)
highest-other log s zero _ _ q (version-zero e) h = refl
highest-other log s (suc c) _ _ q (version-zero e) h = absurd (omega arith)
highest-other log s zero _ _ q (and-after f e) h = absurd (omega arith)
highest-other log s (suc c) _ _ q (and-after {v = v} {w = w} {g = g} f e) h = go v (omega arith) f e
  where
    go : (v : ℕ) → v ≡ c → FromOther log (suc c) s v w → log.version_file (suc v) ≡ Some g
        → by_file (log.version_file (suc c)) (λ _. way_to log c) ≡ Some (and_then w g)
    go v q f e =
        let there : log.version_file (suc c) ≡ Some g = subst (λ (x : ℕ). log.version_file (suc x) ≡ Some g) q e in
        let from : From log s c w = subst (λ (x : ℕ). From log s x w) q (other_from log c s v w f) in
        let way : way_to log c ≡ Some w =
        (read-from-the-highest log c
        w).1
        (record { s = s; begins = from; highest = λ t i r. h t (start-other log c t r.below i) (reaches-next log t c r (g, there)) }) in
        rw (there, way)

pub other-from-the-highest : OtherFromTheHighest
other-from-the-highest log c w = (other-highest log c w, λ p. highest-other log p.s c c w refl p.begins p.highest)

-- ---- what is named

may_go-named : (c now retention : ℕ) (f : File) → may_go c now retention f ≡ true → IsNamed c now retention f
unfolding may_go is_old
may_go-named c now retention f e =
    let a : Bool = is_between c (version_in (name_of f.name)) in
    let b : Bool = leb f.time now in
    let d : Bool = ltb retention (now - f.time) in
    let old : (b && d) ≡ true = and_right a (b && d) e in (
      is_between-version c (name_of f.name) (and_left a (b && d) e),
      leb-true f.time now (and_left b d old),
      ltb-true retention (now - f.time) (and_right b d old),
    )

named-may_go : (c now retention : ℕ) (f : File) → IsNamed c now retention f → may_go c now retention f ≡ true
unfolding may_go is_old is_between version_in
named-may_go c now retention f ((w, n, a, b), old, more) =
    let between : is_between c (version_in (name_of f.name)) ≡ true = rw n (and_both (lt-ltb 0 w a) (lt-ltb w c b)) in
    and_both between (and_both (le-leb f.time now old) (lt-ltb retention (now - f.time) more))

pub named-exactly : NamedExactly
unfolding named keep_if
named-exactly c now retention [] = no_more
named-exactly c now retention (f ∷ fs) = go (may_go c now retention f) refl (named-exactly c now retention fs)
  where
    go : (b : Bool) → may_go c now retention f ≡ b → Names c now retention fs (named c now retention fs)
        → Names c now retention (f ∷ fs) (keep_if b f.entry (named c now retention fs))
    go true e ih = names (may_go-named c now retention f e) ih
    go false e ih = passes (λ h. true-not-false (named-may_go c now retention f h) e) ih

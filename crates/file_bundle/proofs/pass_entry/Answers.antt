-- Each test is one of the rule's for the first entry that is left; where all pass, the rest decides.
use native.Mathlib.Omega.{arith}
use mathlib.Core.Path.{◌≡◌, refl, sym, ap, ◌∙◌}
use mathlib.Core.Bool.{Bool}
use Prim.Native.Nat.{ℕ, ◌+◌, ◌*◌, ◌-◌}
use lib.ListN.{take, drop}
use Rattle.rules.specs.Bundle.{Entry, entry_of, name_in, field}
use Rattle.rules.specs.Numbers.{little}
use Rattle.file_bundle.specs.Files.{left_fits}
use Rattle.rules.specs.Bytes.{Bytes, is_some}
use Rattle.file_bundle.proofs.Entries.{entry-padded, entry-start, entry-size}
use Rattle.file_bundle.proofs.Passing.{left_fits-name, left_fits-order, left_fits-start, left_fits-size, left_fits-more}
use Rattle.file_bundle.proofs.pass_entry.Goals as goal

-- entry k of the bundle s, which is passed
abbrev this : (s : Bytes) (k : ℕ) → Entry
this s k = entry_of (drop (4 + 112 * k) s)

-- what was read of it
named : (s : Bytes) (k : ℕ) {r : Bool} → r ≡ is_some (name_in (take (4 + 112 * k + 96 - (4 + 112 * k)) (drop (4 + 112 * k) s)))
    → r ≡ is_some (name_in (this s k).padded)
named s k {r} h =
    let e = 4 + 112 * k in
    rw (← entry-padded e s (e + 96) refl) h

started : (s : Bytes) (k : ℕ) {r : ℕ} → r ≡ little (field (4 + 112 * k + 96) 4 s) → (this s k).start ≡ r
started s k h = entry-start (4 + 112 * k) s ∙ sym h

sized : (s : Bytes) (k : ℕ) {r : ℕ} → r ≡ little (field (4 + 112 * k + 96 + 4) 4 s) → (this s k).size ≡ r
sized s k h =
    let e = 4 + 112 * k in
    entry-size e s (e + 96 + 4) (omega arith) ∙ sym h

pub returns-then-not-name_fits : goal.returns-then-not-name_fits
returns-then-not-name_fits c =
    left_fits-name
    c.args.s.now
    c.args.n
    c.args.k
    c.args.at
    c.requires.0
    (sym (named c.args.s.now c.args.k c.name_fits.ensures) ∙ c.if-not-name_fits.true)

pub returns-then-not-ascends : goal.returns-then-not-ascends
returns-then-not-ascends c =
    left_fits-order
    c.args.s.now
    c.args.n
    c.args.k
    c.args.at
    c.requires.0
    (sym c.ascends.ensures ∙ c.if-not-ascends.true)

pub returns-then-u32_at-at : goal.returns-then-u32_at-at
returns-then-u32_at-at c =
    left_fits-start c.args.s.now c.args.n c.args.k c.args.at c.requires.0
    (λ q. omega (arith, q, started c.args.s.now c.args.k c.u32_at.ensures.0, c.if-u32_at-at.true))

pub returns-then-s-at : goal.returns-then-s-at
returns-then-s-at c =
    left_fits-size c.args.s.now c.args.n c.args.k c.args.at c.requires.0
    (omega (arith, sized c.args.s.now c.args.k c.u32_at-size.ensures.0, c.if-s-at.true))

pub returns : goal.returns
returns c =
    let z = sized c.args.s.now c.args.k c.u32_at-size.ensures.0 in
    let more =
    left_fits-more c.args.s.now c.args.n c.args.k c.args.at c.requires.0
    (sym (named c.args.s.now c.args.k c.name_fits.ensures) ∙ c.if-not-name_fits.false)
    (sym c.ascends.ensures ∙ c.if-not-ascends.false)
    (omega (arith, started c.args.s.now c.args.k c.u32_at.ensures.0, c.if-u32_at-at.false))
    (omega (arith, z, c.if-s-at.false)) in
    (omega (arith, c.requires.2, c.if-s-at.false), more ∙ ap (λ (x : ℕ). left_fits c.args.s.now c.args.n (c.args.k + 1) (c.args.at + x)) z)

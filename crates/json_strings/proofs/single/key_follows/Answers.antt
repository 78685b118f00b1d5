-- `key_follows` meets its contract. What is to come is to the rest of the key as the string is to the key.
use lib.ListN.{length, take, drop, length-drop}
use lib.Seq.{take_all}
use mathlib.Core.Path.{◌≡◌, refl, sym, ap, ◌∙◌}
use native.Mathlib.Omega.{arith}
use Prim.Native.Nat.{ℕ, ◌-◌}
use Rattle.rules.specs.Bytes.{Bytes, same}
use Rattle.json_strings.specs.Ahead.{fresh}
use Rattle.json_strings.specs.Flat.{flat}
use Rattle.json_strings.proofs.Ahead.{ahead-fresh, sound-fresh}
use Rattle.rules.proofs.Keys.{same-past, same_ends, same_next, same_differs}
use Rattle.json_strings.proofs.single.key_follows.Goals as goal

rest : (key : Bytes) (k : ℕ) → take (length key - k) (drop k key) ≡ drop k key
rest key k = take_all (length key - k) (drop k key) (simp length-drop (omega arith))

pub loop-x-init : goal.loop-x-init
loop-x-init c = (
  sound-fresh c.args.s.now c.args.at c.requires.0,
  ap (λ (x : Bytes). same x (take (length c.args.key.now - c.args.k) (drop c.args.k c.args.key.now))) (ahead-fresh c.args.s.now (fresh c.args.at) refl)
      ∙ ap (same (flat (drop c.args.at c.args.s.now))) (rest c.args.key.now c.args.k),
)

pub next-requires : goal.next-requires
next-requires c = c.loop-x.invariant.0

pub returns-in_default : goal.returns-in_default
returns-in_default c = sym (same_ends _ _ c.loop-x.x-index c.loop-x-test.true c.in_default.ensures) ∙ c.loop-x.invariant.1

pub returns-then-b-x : goal.returns-then-b-x
returns-then-b-x c =
    sym (same_differs _ _ c.loop-x.x-index c.loop-x-test.true c.in-Some.ensures.more c.if-b-x.true) ∙ c.loop-x.invariant.1

pub loop-x-preserved : goal.loop-x-preserved
loop-x-preserved c =
    let w = c.in-Some.ensures in
    (w.sound, sym (same_next _ _ c.loop-x.x-index c.loop-x-test.true w.more c.if-b-x.false) ∙ c.loop-x.invariant.1)

pub ended-requires : goal.ended-requires
ended-requires c = c.loop-x.invariant.0

pub returns : goal.returns
returns c = c.ended.ensures ∙ sym (same-past _ _ c.loop-x.x-index c.loop-x-test.false) ∙ c.loop-x.invariant.1

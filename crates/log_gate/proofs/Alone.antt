-- A protocol has one verdict.
use mathlib.Core.Path.{◌≡◌, sym, ap, ◌∙◌}
use mathlib.Core.Bool.{Bool}
use Prim.Native.Nat.{ℕ}
use Rattle.rules.specs.Actions.{Protocol}
use Rattle.rules.specs.Refusals.{Answer, accepted, refused}
use Rattle.rules.proofs.Tests.{apart}
use Rattle.refusals.specs.Numbered.{numbered}
use Rattle.refusals.proofs.Alone.{numbered-alone}
use Rattle.log_gate.specs.Judged.{Passes, VerdictIs}
use Rattle.log_gate.specs.declared.Numbers.{Numbers}
use Rattle.std.specs.Prelude.{Result, Err, Ok}
use Rattle.refusals.specs.declared.Refusal.{Refusal}

-- an answer is not both
both : {P : Type 0} (a : Answer (Unit {0})) (x : Refusal) → a ≡ refused (numbered x) → a ≡ accepted tt → P
both a x e f = let q : refused (numbered x) ≡ accepted tt = sym e ∙ f in apart (cc)

module _ (p : Protocol) where
  numbers-alone : (n m : Numbers) → Passes p n → Passes p m → n ≡ m
  numbers-alone n m f g =
      ap (λ (k : ℕ). record { reader = k; writer = n.writer; writable = n.writable }) (f.reader ∙ sym g.reader)
      ∙ ap (λ (k : ℕ). record { reader = m.reader; writer = k; writable = n.writable }) (f.writer ∙ sym g.writer)
      ∙ ap (λ (b : Bool). record { reader = m.reader; writer = m.writer; writable = b }) (f.writable ∙ sym g.writable)

  pub verdict-alone : (v w : Result Numbers Refusal) → VerdictIs p v → VerdictIs p w → v ≡ w
  verdict-alone (Err x) (Err y) f g =
      let e : refused (numbered x) ≡ refused (numbered y) = sym f.0 ∙ g.0 in
      let same : numbered x ≡ numbered y = cc in
      ap Err (numbered-alone x y same)
  verdict-alone (Err x) (Ok m) f g = both _ x f.0 g.accepts
  verdict-alone (Ok n) (Err y) f g = both _ y g.0 f.accepts
  verdict-alone (Ok n) (Ok m) f g = ap Ok (numbers-alone n m f g)

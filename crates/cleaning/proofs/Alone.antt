-- The promise of the cleaner fixes the answer and the rooms.
use mathlib.Core.Path.{◌≡◌, sym, ap, ◌∙◌}
use Prim.Native.Nat.{ℕ}
use Rattle.rules.specs.Bytes.{Bytes}
use Rattle.rules.specs.Rooms.{Room}
use Rattle.rules.proofs.Tests.{apart}
use Rattle.refusals.specs.Numbered.{numbered}
use Rattle.refusals.proofs.Alone.{numbered-alone}
use Rattle.cleaning.specs.Answers.{cleaned_is, CleanIs}
use Rattle.std.specs.Prelude.{Result, Ok, Err}
use Rattle.refusals.specs.declared.Refusal.{Refusal}

cleaned_is-alone : (r s : Result ℕ Refusal) → cleaned_is r ≡ cleaned_is s → r ≡ s
unfolding cleaned_is
cleaned_is-alone (Ok n) (Ok m) e = cc
cleaned_is-alone (Ok n) (Err y) e = apart (cc)
cleaned_is-alone (Err x) (Ok m) e = apart (cc)
cleaned_is-alone (Err x) (Err y) e =
    let same : numbered x ≡ numbered y = cc in
    ap Err (numbered-alone x y same)

pub clean-alone : (src : Bytes) (today retention : ℕ) (room room' room'' one one' one'' two two' two'' : Room) (r s : Result ℕ Refusal)
    → CleanIs src today retention room room' one one' two two' r → CleanIs src today retention room room'' one one'' two two'' s
    → (r ≡ s) × (room' ≡ room'') × (one' ≡ one'') × (two' ≡ two'')
clean-alone src today retention room room' room'' one one' one'' two two' two'' r s a b = (
  cleaned_is-alone r s (a.answer ∙ sym b.answer),
  a.names ∙ sym b.names,
  a.first ∙ sym b.first,
  a.second ∙ sym b.second,
)

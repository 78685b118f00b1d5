-- The promise of `keep` fixes the answer and the room.
use mathlib.Core.Path.{◌≡◌, sym, ap, ◌∙◌}
use Rattle.rules.specs.Bytes.{Bytes}
use Rattle.rules.specs.Rooms.{Room}
use Rattle.rules.proofs.Tests.{apart}
use Rattle.refusals.specs.Numbered.{numbered}
use Rattle.refusals.proofs.Alone.{numbered-alone}
use Rattle.manifests.specs.Rooms.{kept_is, KeepIs}
use Rattle.std.specs.Prelude.{ℕ, Result, Ok, Err}
use Rattle.refusals.specs.declared.Refusal.{Refusal}

kept_is-alone : (r s : Result ℕ Refusal) → kept_is r ≡ kept_is s → r ≡ s
unfolding kept_is
kept_is-alone (Ok n) (Ok m) e = cc
kept_is-alone (Ok n) (Err y) e = apart (cc)
kept_is-alone (Err x) (Ok m) e = apart (cc)
kept_is-alone (Err x) (Err y) e =
    let same : numbered x ≡ numbered y = cc in
    ap Err (numbered-alone x y same)

pub keep-alone : (state q : Bytes) (room after later : Room) (r s : Result ℕ Refusal)
    → KeepIs state q room after r → KeepIs state q room later s → (r ≡ s) × (after ≡ later)
keep-alone state q room after later r s a b = (kept_is-alone r s (a.answer ∙ sym b.answer), a.holds ∙ sym b.holds)

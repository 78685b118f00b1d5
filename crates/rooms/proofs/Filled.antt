-- Zeros that std's `fill` writes over a part of a list are zeros from place to place.
use mathlib.Core.Path.{◌≡◌, ap}
use mathlib.Core.List.{List, ◌++◌}
use Prim.Native.Nat.{ℕ, ◌-◌, ◌≤◌}
use native.Mathlib.Omega.{arith}
use lib.ListN.{length, take, drop, replicate, length-replicate, length-take, length-drop}
use Rattle.std.proofs.lemmas.List.{drop-drop}
use borrow.Rule.Slice.PartMut.{put_mid}
use Rattle.facts.specs.Moves.{zeroed, put_at}

pub filled : (a b : ℕ) (t u : List ℕ) → a ≤ b → b ≤ length t → u ≡ replicate (length (take (b - a) (drop a t))) 0 → put_mid a (b - a) t u ≡ zeroed a b t
unfolding zeroed put_at
filled a b t u h k e =
    let n : length (take (b - a) (drop a t)) ≡ b - a = simp (length-take, length-drop) (omega arith) in
    let m : length (replicate {A = ℕ} (b - a) 0) ≡ b - a = length-replicate (b - a) 0 in
    rw (e, n, m) (ap (λ (r : List ℕ). take a t ++ (replicate (b - a) 0 ++ r)) (drop-drop (b - a) a t))

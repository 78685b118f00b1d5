-- An escape has one answer: the rules fix the number and what is left, and that the position.
use mathlib.Core.Path.{◌≡◌, refl, sym, ap, ◌∙◌}
use Rattle.std.specs.Prelude.{Option}
use Prim.Native.Nat.{ℕ}
use Rattle.rules.specs.Json.Text.{Text}
use Rattle.rules.proofs.Json.Suffix.{value_same, left-same, answered-none}
use Rattle.json_tokens.proofs.Alone.{left_alone}
use Rattle.json_characters.specs.Codes.{Taken}
use Rattle.std.specs.Prelude.{Some, None}

pub taken-alone : (o : Option (ℕ × Text)) (s : Text) (lo hi : ℕ) (r q : Option (ℕ × ℕ)) → Taken o s lo hi r → Taken o s lo hi q → r ≡ q
taken-alone o s lo hi (Some (c, i)) (Some (d, j)) h k =
    let both = sym h.0 ∙ k.0 in
    ap (λ (n : ℕ). (Some (n, i))) (value_same both) ∙ ap (λ (m : ℕ). Some (d, m)) (left_alone s i j h.2 k.2 (left-same both))
taken-alone o s lo hi (Some (c, i)) None h k = answered-none h.0 k
taken-alone o s lo hi None (Some (d, j)) h k = answered-none k.0 h
taken-alone o s lo hi None None h k = refl

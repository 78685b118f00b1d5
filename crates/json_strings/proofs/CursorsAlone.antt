-- A step of a cursor has one answer: the bytes to come fix the byte, and the cursor fixes the next one.
use mathlib.Core.Path.{◌≡◌, refl, sym, ap, ◌∙◌}
use mathlib.Core.List.{◌∷◌}
use Prim.Native.Nat.{ℕ}
use Rattle.rules.specs.Json.Text.{Text}
use Rattle.rules.proofs.Tests.{apart}
use Rattle.json_strings.specs.Ahead.{Stepped}
use Rattle.json_strings.specs.declared.cursors.Cursor.{Cursor}
use Rattle.std.specs.Prelude.{Option, Some, None}

pub stepped-alone : (s : Text) (c : Cursor) (r q : Option (ℕ × Cursor)) → Stepped s c r → Stepped s c q → r ≡ q
stepped-alone s c (Some (a, d)) (Some (b, e)) h k =
    let bytes : a ∷ _ ≡ b ∷ _ = sym h.more ∙ k.more in
    let first : a ≡ b = cc bytes in
    ap (λ (x : ℕ). (Some (x, d))) first ∙ ap (λ (d : Cursor). Some (b, d)) (h.place ∙ sym k.place)
stepped-alone s c (Some (a, d)) None h k = let e = sym h.more ∙ k in apart (cc)
stepped-alone s c None (Some (b, e)) h k = let e = sym k.more ∙ h in apart (cc)
stepped-alone s c None None h k = refl

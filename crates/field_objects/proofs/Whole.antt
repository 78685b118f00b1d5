-- A text that is one object: what stands before its brace and behind it is white space.
use mathlib.Core.Path.{◌≡◌, ap, ◌∙◌}
use Rattle.std.specs.Prelude.{Option, None, Some}
use Prim.Native.Nat.{ℕ, ◌≤◌, ◌<◌}
use lib.ListN.{length, drop, drop_of_length-le}
use Rattle.facts.proofs.Lists.{drop_here}
use Rattle.rules.specs.Json.Text.{Text, ws, byte}
use Rattle.rules.specs.Json.Values.{contents, value, alone, object_of}
use Rattle.rules.proofs.Json.Steps.{alone-end, alone-more, object_of-contents, object_of-none}
use Rattle.json_tokens.specs.Answers.{Skips}

-- ---- behind what was read up to `end`

module _ {A : Type 0} {o : Option (A × Text)} {x : A} (t : Text) (end r : ℕ) (e : o ≡ Some (x, drop end t)) (w : Skips (ws (drop end t)) t end r) where
  pub alone-whole : length t ≤ r → alone o ≡ Some x
  alone-whole l = alone-end e (w.left ∙ drop_of_length-le t l)

  pub alone-trailing : r < length t → alone o ≡ None
  alone-trailing l = alone-more e (w.left ∙ drop_here t r 0 l)

-- ---- before the brace: white space up to i

module _ (d : ℕ) (t : Text) (i : ℕ) (w : Skips (ws t) t 0 i) where
  pub object-unopened : byte 0x7B (drop i t) ≡ None → object_of d t ≡ None
  object-unopened e = object_of-none d t (ap (byte 0x7B) w.left ∙ e)

  pub object-opened : {u : Text} → byte 0x7B (drop i t) ≡ Some u → object_of d t ≡ alone (contents (value d) u)
  object-opened e = object_of-contents d t (ap (byte 0x7B) w.left ∙ e)

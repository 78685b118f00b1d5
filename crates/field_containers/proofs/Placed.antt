-- The text of a value from v to e, by its first byte: an object or an array stands there, read in its place, or none does.
use mathlib.Core.Path.{◌≡◌, refl, sym, ap, ◌∙◌}
use Rattle.std.specs.Prelude.{None, Some}
use mathlib.Core.List.{List, []}
use Prim.Native.Nat.{ℕ, suc, ◌-◌, ◌≤◌}
use native.Mathlib.Omega.{arith}
use lib.ListN.{length, take, drop}
use lib.Seq.{take_all}
use Rattle.rules.specs.Json.Text.{Text, spelled, byte}
use Rattle.rules.specs.Json.Values.{Member, contents, elements, value, object_of, array_of}
use Rattle.rules.proofs.Json.TextReads.{spelled-some}
use Rattle.rules.proofs.Json.Steps.{value-object, value-array}
use Rattle.rules.proofs.Json.InPlace.{object_of-other, array_of-other}
use Rattle.rules.proofs.Json.Places.{object_of-place, array_of-place}
use Rattle.field_scalars.proofs.Begins.{byte_next, value-further, begins-here, inside-here, begins-other}
use Rattle.rules.proofs.Json.Extended.{contents-extends, elements-extends}

-- the text of a value, spelled alone
pub value-spelled : (d : ℕ) (x : Text) → value d x ≡ Some [] → spelled (value d) x ≡ Some (x, [])
value-spelled d x w = spelled-some (value d) x w ∙ ap (λ (y : Text). Some (y, [])) (take_all (length x - 0) x (omega arith))

module _ (d : ℕ) (s : Text) (v e : ℕ) (h : v ≤ e) (k : e ≤ length s) (w : value d (take (e - v) (drop v s)) ≡ Some []) where
  pub object-none : (c : ℕ) → byte 0x7B (drop v s) ≡ None → object_of c (take (e - v) (drop v s)) ≡ None
  object-none c n =
      let (b, y, f, g) = begins-other d s v e h k w 0x7B n in
      object_of-other c d b y (take (e - v) (drop v s)) [] f (sym (ap (spelled (value d)) g) ∙ value-spelled d (take (e - v) (drop v s)) w)

  pub array-none : (c : ℕ) → byte 0x5B (drop v s) ≡ None → array_of c (take (e - v) (drop v s)) ≡ None
  array-none c n =
      let (b, y, f, g) = begins-other d s v e h k w 0x5B n in
      array_of-other c d b y (take (e - v) (drop v s)) [] f (sym (ap (spelled (value d)) g) ∙ value-spelled d (take (e - v) (drop v s)) w)

module _ (d : ℕ) (s : Text) (v e : ℕ) (h : v ≤ e) (k : e ≤ length s) (w : value (suc d) (take (e - v) (drop v s)) ≡ Some []) (i : ℕ) (l : i ≤ length s) where
  pub object-here : byte 0x7B (drop v s) ≡ Some (drop i s)
      → (ms : List Member) × (contents (value d) (drop i s) ≡ Some (ms, drop e s)) × (object_of d (take (e - v) (drop v s)) ≡ Some ms)
  object-here b =
      let (ms, f) = inside-here (suc d) s v e h k w 0x7B (contents (value d)) (λ t. value-object (suc d) d t refl) (contents-extends d) i l b in
      let q = begins-here (suc d) s v e h k w 0x7B (contents (value d)) (λ t. value-object (suc d) d t refl) (contents-extends d) i l b in (
        ms,
        ap (λ (j : ℕ). contents (value d) (drop j s)) (byte_next s v i 0x7B (omega arith) l b) ∙ f,
        object_of-place s v e (value-further (suc d) s v e h k w) k d ms q f,
      )

  pub array-here : byte 0x5B (drop v s) ≡ Some (drop i s)
      → (vs : List Text) × (elements (value d) (drop i s) ≡ Some (vs, drop e s)) × (array_of d (take (e - v) (drop v s)) ≡ Some vs)
  array-here b =
      let (vs, f) = inside-here (suc d) s v e h k w 0x5B (elements (value d)) (λ t. value-array (suc d) d t refl) (elements-extends d) i l b in
      let q = begins-here (suc d) s v e h k w 0x5B (elements (value d)) (λ t. value-array (suc d) d t refl) (elements-extends d) i l b in (
        vs,
        ap (λ (j : ℕ). elements (value d) (drop j s)) (byte_next s v i 0x5B (omega arith) l b) ∙ f,
        array_of-place s v e (value-further (suc d) s v e h k w) k d vs q f,
      )

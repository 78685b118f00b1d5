-- The items of a container that a loop has passed, joined to those that are left: what a turn of the loop makes of them.
use mathlib.Core.Path.{◌≡◌, refl, sym, ap, ◌∙◌}
use Rattle.std.specs.Prelude.{Option, None, Some}
use mathlib.Core.List.{List, [], ◌∷◌, ◌++◌, append_assoc}
use Prim.Native.Nat.{ℕ}
use Rattle.rules.specs.Json.Text.{Text, Taker}
use Rattle.rules.specs.Json.Values.{closed, onward, neither, opening, closing, and_then, list}
use Rattle.rules.proofs.Json.Suffix.{EachTakes}
use Rattle.rules.proofs.Json.Steps.{rest, list-onward, rest-none, rest-closed, rest-neither, rest-onward}

module _ {A : Type 0} where
  -- those gone by, in front of those that are left
  abbrev pub joined : (gone : List A) → Option (List A × Text) → Option (List A × Text)
  joined gone None = None
  joined gone (Some p) = Some (gone ++ p.0, p.1)

  pub joined-nil : (o : Option (List A × Text)) → joined [] o ≡ o
  joined-nil None = refl
  joined-nil (Some p) = refl

  pub joined-and_then : (gone : List A) (x : A) (o : Option (List A × Text)) → joined gone (and_then x o) ≡ joined (gone ++ (x ∷ [])) o
  unfolding and_then
  joined-and_then gone x None = refl
  joined-and_then gone x (Some p) = ap (λ (l : List A). Some (l, p.1)) (sym (append_assoc gone (x ∷ []) p.0))

module _ {A : Type 0} (item : Taker A) (close : ℕ) where
  pub joined-start : (t : Text) {u : Text} → opening close t ≡ onward u → joined [] (rest item close u) ≡ list item close t
  joined-start t {u} e = joined-nil (rest item close u) ∙ sym (list-onward item close t e)

  module _ (gone : List A) (t : Text) where
    pub joined-none : item t ≡ None → joined gone (rest item close t) ≡ None
    joined-none e = ap (joined gone) (rest-none item close t e)

    module _ {x : A} {r : Text} (e : item t ≡ Some (x, r)) where
      pub joined-onward : EachTakes 1 item → {u : Text} → closing close r ≡ onward u
          → joined (gone ++ (x ∷ [])) (rest item close u) ≡ joined gone (rest item close t)
      joined-onward each {u} f = sym (ap (joined gone) (rest-onward item close t e each f) ∙ joined-and_then gone x (rest item close u))

      pub joined-closed : {u : Text} → closing close r ≡ closed u → joined gone (rest item close t) ≡ Some (gone ++ (x ∷ []), u)
      joined-closed f = ap (joined gone) (rest-closed item close t e f)

      pub joined-neither : closing close r ≡ neither → joined gone (rest item close t) ≡ None
      joined-neither f = ap (joined gone) (rest-neither item close t e f)

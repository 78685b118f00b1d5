-- A field by how often it was seen: once, and where it stands; or not once.
use mathlib.Core.Path.{◌≡◌, refl, sym, ap, subst}
use Rattle.std.specs.Prelude.{Option, None, Some}
use mathlib.Core.List.{List, []}
use Prim.Native.Nat.{ℕ, zero, suc, ◌-◌, ◌≤◌}
use lib.ListN.{length, take, drop}
use Rattle.rules.specs.Actions.{in_action}
use Rattle.rules.specs.Bytes.{◌>>=◌}
use Rattle.rules.specs.Json.Text.{Text}
use Rattle.rules.specs.Json.Values.{value}
use Rattle.field_objects.specs.Slots.{text_in, Times}
use Rattle.field_scalars.specs.Inside.{InsideBy, Inside, ProperBy, Proper}
use Rattle.field_scalars.specs.Optionals.{There}
use Rattle.field_objects.specs.declared.notes.Slot.{Slot}

-- what a slot says of the values of its field, and where they stand
pub times-inside : (s : Text) (seen v e : ℕ) (vs : List Text) → Times s seen v e vs → InsideBy s seen v e
times-inside s zero v e vs t = tt
times-inside s (suc zero) v e vs t = (t.1, t.2)
times-inside s (suc (suc n)) v e vs t = tt

module _ (s : Text) (x : Slot) where
  pub inside-single : x.seen ≡ 1 → Inside s x → (x.start ≤ x.end) × (x.end ≤ length s)
  inside-single p i = subst (λ (n : ℕ). InsideBy s n x.start x.end) p i

  pub proper-single : x.seen ≡ 1 → Proper s x
      → (x.start ≤ x.end) × (x.end ≤ length s) × (value in_action (take (x.end - x.start) (drop x.start s)) ≡ Some [])
  proper-single p i = subst (λ (n : ℕ). ProperBy s n x.start x.end) p i

  pub proper-inside : Proper s x → Inside s x
  proper-inside p = go x.seen p
    where
      go : (n : ℕ) → ProperBy s n x.start x.end → InsideBy s n x.start x.end
      go zero q = tt
      go (suc zero) q = (q.0, q.1)
      go (suc (suc n)) q = tt

  -- the same of a value that `optional_in` finds
  pub proper-there : {o : Option (Option Text)} {v e : ℕ} → Proper s x → There o s x v e
      → (v ≤ e) × (e ≤ length s) × (value in_action (take (e - v) (drop v s)) ≡ Some [])
  proper-there {o} {v} {e} p t =
      let q = proper-single t.once p in
      let ends : value in_action (take (x.end - v) (drop v s)) ≡ Some [] =
      subst (λ (i : ℕ). value in_action (take (x.end - i) (drop i s)) ≡ Some []) (sym t.begins) q.2 in
      (t.ordered, t.within, subst (λ (i : ℕ). value in_action (take (i - v) (drop v s)) ≡ Some []) (sym t.ends) ends)

  pub text-single : {A : Type 0} (of : Text → Option A) → x.seen ≡ 1
      → of (take (x.end - x.start) (drop x.start s)) ≡ (text_in s x.seen x.start x.end >>= of)
  text-single of p = sym (ap (λ (n : ℕ). text_in s n x.start x.end >>= of) p)

  pub text-not-single : {A : Type 0} (of : Text → Option A) → (x.seen ≡ 1 → ⊥) → None ≡ (text_in s x.seen x.start x.end >>= of)
  text-not-single of f = go x.seen f
    where
      go : (n : ℕ) → (n ≡ 1 → ⊥) → None ≡ (text_in s n x.start x.end >>= of)
      go zero f = refl
      go (suc zero) f = absurd (f refl)
      go (suc (suc n)) f = refl

-- The slots of an action's fields: each stands within the line, and those of the names that its kind has say all.
use mathlib.Core.Path.{◌≡◌, ap, ◌∙◌, subst}
use Rattle.std.specs.Prelude.{Some}
use mathlib.Core.List.{List, [], ◌∷◌}
use Prim.Native.Nat.{ℕ, zero, suc, ◌+◌, ◌<◌}
use native.Mathlib.Omega.{arith}
use lib.ListN.{length, drop, get_or}
use Rattle.rules.specs.Bytes.{Bytes}
use Rattle.rules.specs.Json.Text.{Text}
use Rattle.rules.specs.Json.Fields.{under, sole}
use Rattle.field_names.specs.Kinds.{names_of}
use Rattle.field_objects.specs.Slots.{missing, Holds}
use Rattle.field_objects.specs.declared.notes.Slot.{Slot}
use Rattle.field_scalars.specs.Inside.{Inside, Proper}
use Rattle.field_scalars.proofs.Stated.{each-inside}
use Rattle.field_containers.proofs.Valued.{each-proper}
use Rattle.line_actions.specs.Begun.{kind_at, Lined}

-- the slot of name j
module _ (s : Text) (k : ℕ) {slots : List Slot} (l : Lined s k slots) (j : ℕ) (h : j < length (names_of (kind_at k))) where
  pub lined-inside : Inside s (get_or slots j missing)
  lined-inside = each-inside s (names_of (kind_at k)) l.ms slots j h l.each

  pub lined-proper : Proper s (get_or slots j missing)
  lined-proper = each-proper s (names_of (kind_at k)) l.ms slots j h l.each l.valued

-- n slots, from the one at place j on
abbrev pub slots_from : (j n : ℕ) → List Slot → List Slot
slots_from j zero slots = []
slots_from j (suc n) slots = get_or slots j missing ∷ slots_from (j + 1) n slots

slots_from-at : (j n : ℕ) (slots : List Slot) (i : ℕ) → i < n → get_or slots (j + i) missing ≡ get_or (slots_from j n slots) i missing
slots_from-at j zero slots i h = absurd (omega arith)
slots_from-at j (suc n) slots zero h = ap (λ (m : ℕ). get_or slots m missing) (omega arith)
slots_from-at j (suc n) slots (suc i) h = ap (λ (m : ℕ). get_or slots m missing) (omega arith) ∙ slots_from-at (j + 1) n slots i (omega arith)

-- the slots that the kind of the key of place n has names for are enough
pub lined-slots : (s : Text) (slots : List Slot) {k n : ℕ} → k ≡ n → Lined s k slots → Lined s n (slots_from 0 (length (names_of (kind_at n))) slots)
lined-slots s slots {k} {n} e l = subst (λ (n : ℕ). Lined s n (slots_from 0 (length (names_of (kind_at n))) slots)) e (record {
  name = l.name;
  text = l.text;
  ms = l.ms;
  key = l.key;
  line = l.line;
  object = l.object;
  valued = l.valued;
  each = λ i h. subst (λ (x : Slot). Holds s x (under (get_or names i []) l.ms)) (here i h) (l.each i h);
  left = l.left;
  lefts = l.lefts;
  line-left = l.line-left;
  object-left = l.object-left;
  starts = λ i h. subst (λ (x : Slot). x.seen ≡ 1 → sole (under (get_or names i []) l.lefts) ≡ Some (drop x.start s)) (here i h) (l.starts i h);
})
  where
    names : List Bytes
    names = names_of (kind_at k)

    here : (i : ℕ) → i < length names → get_or slots i missing ≡ get_or (slots_from 0 (length names) slots) i missing
    here i h = ap (λ (m : ℕ). get_or slots m missing) (omega arith) ∙ slots_from-at 0 (length names) slots i h

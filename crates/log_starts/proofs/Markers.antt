-- The marker by the slots of its fields.
use mathlib.Core.Path.{◌≡◌, refl, sym, ◌∙◌}
use mathlib.Core.Bool.{Bool, true, false}
use Rattle.std.specs.Prelude.{Option, None, Some}
use mathlib.Core.List.{List}
use Prim.Native.Nat.{ℕ}
use native.Mathlib.Omega.{arith}
use lib.Dec.{eqb}
use lib.ListN.{get_or}
use borrow.Author.Tests.{eq-eqb, ne_eqb}
use Rattle.rules.specs.Bytes.{Bytes, ◌>>=◌, guard}
use Rattle.rules.specs.Json.Text.{Text}
use Rattle.rules.specs.Json.Values.{Member, object_of}
use Rattle.rules.specs.Json.Fields.{optional, absent, if_there, string_of, whole_at}
use Rattle.rules.specs.Actions.{in_line}
use Rattle.rules.specs.Marker.{is_json, marker_version}
use Rattle.field_names.specs.Kinds.{names_of}
use Rattle.field_objects.specs.Slots.{missing, Each}
use Rattle.field_names.specs.declared.kinds.Kind.TheVariants.{Marker}
use Rattle.field_objects.specs.declared.notes.Slot.{Slot}
use Rattle.field_objects.proofs.Slots.{slot-optional, slot-absent}
use Rattle.field_scalars.specs.Inside.{whole_in}
use Rattle.field_scalars.proofs.Stated.{field-whole}
use Rattle.log_starts.specs.Marks.{format_in, fits}

-- ---- the rule, by what it asks of each field

abbrev chosen : Option ℕ → (none-else : Bool) → Option (Option Bytes) → Option ℕ
chosen o p q = do
  n ← o
  _ ← guard p
  f ← q
  _ ← guard (is_json f)
  Some n

bind_assoc : {A B C : Type 0} (o : Option A) (f : A → Option B) (g : B → Option C) → (o >>= λ a. f a >>= g) ≡ (o >>= f >>= g)
bind_assoc None f g = refl
bind_assoc (Some a) f g = refl

marker-asks : (s : Text) (ms : List Member) → object_of in_line s ≡ Some ms
    → marker_version s ≡ chosen (whole_at "version" ms) (absent "parts" ms) (optional "format" ms >>= if_there string_of)
unfolding marker_version
marker-asks s ms e = rw (marker_version, e) (go (whole_at "version" ms) (absent "parts" ms))
  where
    go : (o : Option ℕ) (p : Bool)
        → (o >>= λ n. guard p >>= λ _. optional "format" ms >>= λ v. if_there string_of v >>= λ f. guard (is_json f) >>= λ _. Some n)
        ≡ chosen o p (optional "format" ms >>= if_there string_of)
    go None p = refl
    go (Some n) true = bind_assoc (optional "format" ms) (if_there string_of) (λ f. guard (is_json f) >>= λ _. Some n)
    go (Some n) false = refl

chosen-parts : (o : Option ℕ) (q : Option (Option Bytes)) → chosen o false q ≡ None
chosen-parts None q = refl
chosen-parts (Some n) q = refl

chosen-format : (o : Option ℕ) (q : Option (Option Bytes)) (b : Bool) → fits q ≡ b → chosen o true q ≡ (guard b >>= λ _. o)
chosen-format None q true e = refl
chosen-format None q false e = refl
chosen-format (Some n) None b e = rw (← e)
chosen-format (Some n) (Some f) b e = rw e

-- ---- by its slots

pub marker-none : (s : Text) → object_of in_line s ≡ None → marker_version s ≡ None
unfolding marker_version
marker-none s e = rw (marker_version, e)

module _ (s : Text) (ms : List Member) (e : object_of in_line s ≡ Some ms) (slots : List Slot) (each : Each s (names_of Marker) ms slots) where
  marker-slots : marker_version s ≡ chosen (whole_in s (get_or slots 0 missing)) (eqb (get_or slots 1 missing).seen 0) (format_in s (get_or slots 2 missing))
  unfolding names_of
  marker-slots =
      let x = get_or slots 0 missing in
      let y = get_or slots 1 missing in
      let z = get_or slots 2 missing in
      marker-asks s ms e
      ∙ rw (
        field-whole s x "version" ms (each 0 (omega arith)),
        slot-absent s "parts" ms y.seen y.start y.end (each 1 (omega arith)),
        slot-optional s "format" ms z.seen z.start z.end (each 2 (omega arith)),
      )

  pub marker-parts : ((get_or slots 1 missing).seen ≡ 0 → ⊥) → marker_version s ≡ None
  marker-parts n =
      marker-slots ∙ rw (ne_eqb (get_or slots 1 missing).seen 0 n) (chosen-parts (whole_in s (get_or slots 0 missing)) (format_in s (get_or slots 2 missing)))

  pub marker-format : (get_or slots 1 missing).seen ≡ 0 → {b : Bool} → b ≡ fits (format_in s (get_or slots 2 missing))
      → marker_version s ≡ (guard b >>= λ _. whole_in s (get_or slots 0 missing))
  marker-format z {b} f =
      marker-slots
      ∙ rw (eq-eqb (get_or slots 1 missing).seen 0 z) (chosen-format (whole_in s (get_or slots 0 missing)) (format_in s (get_or slots 2 missing)) b (sym f))

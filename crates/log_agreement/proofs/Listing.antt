-- Features by where they are listed: none where none are stated; and where no more follows, none, or the last.
use mathlib.Core.Path.{◌≡◌, refl}
use mathlib.Core.List.{List, [], ◌∷◌}
use Prim.Native.Nat.{ℕ, zero, suc, ◌+◌, ◌≤◌}
use native.Mathlib.Omega.{arith}
use lib.ListN.{length, drop}
use Rattle.rules.specs.Bytes.{Bytes}
use Rattle.rules.specs.Json.Text.{Text}
use Rattle.rules.specs.Json.Values.{opening, closing}
use Rattle.json_values.specs.Follows.{Follows}
use Rattle.json_values.specs.declared.Tail.{Tail}
use Rattle.json_values.specs.declared.Tail.TheVariants.{Closed, More, Neither}
use Rattle.field_names.specs.Spelled.{name_in, Quoted}
use Rattle.field_names.specs.declared.keys.Spell.{Spell}
use Rattle.field_containers.specs.Strung.{Listed, Onward}
use Rattle.field_containers.specs.Featured.{FeaturesAt}
use Rattle.field_containers.proofs.Walking.{listed-neither, listed-closed, onward-neither, onward-closed}

module _ (s : Text) {xs : List Bytes} where
  pub features-none : (at : ℕ) → at ≡ 0 → FeaturesAt s at xs → xs ≡ []
  features-none zero e f = f
  features-none (suc n) e f = absurd (omega arith)

  pub features-listed : (at : ℕ) → (at ≡ 0 → ⊥) → FeaturesAt s at xs → (at ≤ length s) × Listed s at xs
  features-listed zero h f = absurd (h refl)
  features-listed (suc n) h f = f

-- no element follows the opening bracket
pub listed-empty : (s : Text) (at : ℕ) (ss : List Bytes) → Listed s at ss → (t : Tail) → Follows (opening 0x5D (drop at s)) s at t
    → ((k : ℕ) → t ≡ More k → ⊥) → ss ≡ []
listed-empty s at ss l Neither f n = listed-neither s at ss l f
listed-empty s at ss l (Closed k) f n = listed-closed s at ss l f
listed-empty s at ss l (More k) f n = absurd (n k refl)

-- none follows the string n
pub onward-last : (s : Text) (i : ℕ) (ss : List Bytes) → Onward s i ss → (n : Spell) → Quoted s i n
    → (t : Tail) → Follows (closing 0x5D (drop n.end s)) s (n.end + 1) t → ((k : ℕ) → t ≡ More k → ⊥) → ss ≡ name_in s n ∷ []
onward-last s i ss o n q Neither f m = onward-neither s i ss o n q f
onward-last s i ss o n q (Closed k) f m = onward-closed s i ss o n q f
onward-last s i ss o n q (More k) f m = absurd (m k refl)

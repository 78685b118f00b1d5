-- What stands behind an opening byte or an item is one thing, at one position.
use mathlib.Core.Path.{◌≡◌, refl, sym, ap, ◌∙◌}
use Prim.Native.Nat.{ℕ}
use Rattle.rules.specs.Json.Text.{Text}
use Rattle.rules.specs.Json.Values.{Behind}
use Rattle.rules.proofs.Tests.{apart}
use Rattle.json_tokens.proofs.Alone.{left_alone}
use Rattle.json_values.specs.Follows.{Follows}
use Rattle.json_values.specs.declared.Tail.{Tail}
use Rattle.json_values.specs.declared.Tail.TheVariants.{Closed, More, Neither}

pub follows-alone : (o : Behind) (s : Text) (lo : ℕ) (r q : Tail) → Follows o s lo r → Follows o s lo q → r ≡ q
follows-alone o s lo (Closed i) (Closed j) h k = let both = sym h.0 ∙ k.0 in ap Closed (left_alone s i j h.2 k.2 (cc both))
follows-alone o s lo (Closed i) (More j) h k = let both = sym h.0 ∙ k.0 in apart (cc)
follows-alone o s lo (Closed i) Neither h k = let both = sym h.0 ∙ k in apart (cc)
follows-alone o s lo (More i) (Closed j) h k = let both = sym h.0 ∙ k.0 in apart (cc)
follows-alone o s lo (More i) (More j) h k = let both = sym h.0 ∙ k.0 in ap More (left_alone s i j h.2 k.2 (cc both))
follows-alone o s lo (More i) Neither h k = let both = sym h.0 ∙ k in apart (cc)
follows-alone o s lo Neither (Closed j) h k = let both = sym h ∙ k.0 in apart (cc)
follows-alone o s lo Neither (More j) h k = let both = sym h ∙ k.0 in apart (cc)
follows-alone o s lo Neither Neither h k = refl

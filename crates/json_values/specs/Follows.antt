-- What stands behind the opening byte of a container or behind an item, by a position of the text in place of the text that is left.
use Rattle.std.specs.Prelude.{◌≡◌, ℕ, ◌≤◌, length, drop}
use Rattle.rules.specs.Json.Text.{Text}
use Rattle.rules.specs.Json.Values.{Behind, closed, onward, neither}
use Rattle.json_values.specs.declared.Tail.{Tail}
use Rattle.json_values.specs.declared.Tail.TheVariants.{Closed, More, Neither}

-- o is what the rules say of a text within s; what is left begins no earlier than lo
abbrev pub Follows : Behind → (s : Text) → (lo : ℕ) → Tail → Type 0
Follows o s lo (Closed i) = (o ≡ closed (drop i s)) × (lo ≤ i) × (i ≤ length s)
Follows o s lo (More i) = (o ≡ onward (drop i s)) × (lo ≤ i) × (i ≤ length s)
Follows o s lo Neither = o ≡ neither

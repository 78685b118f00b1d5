-- An object met again, member by member, by the names.
use mathlib.Core.Path.{◌≡◌, refl, sym, ap, ◌∙◌}
use Rattle.std.specs.Prelude.{None, Some}
use mathlib.Core.List.{List, [], ◌∷◌}
use Prim.Native.Nat.{ℕ, ◌+◌}
use lib.ListN.{drop}
use Rattle.rules.specs.Bytes.{Bytes, firsts}
use Rattle.rules.specs.Json.Text.{Text}
use Rattle.rules.specs.Json.Values.{Member, opening, closing, list, member, contents, value}
use Rattle.rules.proofs.Json.Suffix.{value_same, answered-none}
use Rattle.rules.proofs.Json.ValueReads.{value-reads, member-reads}
use Rattle.rules.proofs.Json.Steps.{contents-list, list-closed, list-onward, list-neither, rest, rest-none, rest-closed, rest-neither, rest-onward}
use Rattle.json_values.specs.Follows.{Follows}
use Rattle.json_values.specs.declared.Tail.TheVariants.{Closed, More, Neither}
use Rattle.field_names.specs.Spelled.{name_in}
use Rattle.field_objects.specs.Standing.{Stands}
use Rattle.field_objects.specs.Namings.{Object, IsObject, Members}
use Rattle.field_names.specs.declared.keys.Spell.{Spell}
use Rattle.field_objects.proofs.Passing.{and_then-some, items-first}

-- ---- behind the opening brace

-- an object that was read
pub contents-object : (d : ℕ) (s : Text) (at : ℕ) {ms : List Member} {left : Text} → contents (value d) (drop at s) ≡ Some (ms, left) → IsObject d s at
contents-object d s at {ms} {left} e = record { names = firsts ms; object = record { ms = ms; left = left; all = e; each = refl } }

module _ (d : ℕ) (s : Text) (at : ℕ) (names : List Bytes) (w : Object d s at names) where
  object-list : list (member (value d)) 0x7D (drop at s) ≡ Some (w.ms, w.left)
  object-list = sym (contents-list (value d) (drop at s)) ∙ w.all

  pub object-neither : {P : Type 0} → Follows (opening 0x7D (drop at s)) s at Neither → P
  object-neither f = answered-none object-list (list-neither (member (value d)) 0x7D (drop at s) f)

  pub object-closed : {k : ℕ} → Follows (opening 0x7D (drop at s)) s at (Closed k) → names ≡ []
  unfolding firsts
  object-closed f = sym w.each ∙ ap firsts (value_same (sym object-list ∙ list-closed (member (value d)) 0x7D (drop at s) f.0))

  pub object-more : (i : ℕ) → Follows (opening 0x7D (drop at s)) s at (More i) → Members d s i names
  object-more i f = record {
    ms = w.ms;
    left = w.left;
    all = sym (list-onward (member (value d)) 0x7D (drop at s) f.0) ∙ object-list;
    each = w.each;
  }

-- ---- from a member on

module _ (d : ℕ) (s : Text) (i : ℕ) (names : List Bytes) (w : Members d s i names) where
  pub members-none : {P : Type 0} → member (value d) (drop i s) ≡ None → P
  members-none e = answered-none w.all (rest-none (member (value d)) 0x7D (drop i s) e)

  module _ (n : Spell) (v e : ℕ) (m : Stands (member (value d) (drop i s)) s i n v e) where
    pub members-neither : {P : Type 0} → Follows (closing 0x7D (drop e s)) s (e + 1) Neither → P
    members-neither f = answered-none w.all (rest-neither (member (value d)) 0x7D (drop i s) m.read f)

    pub members-closed : {k : ℕ} → Follows (closing 0x7D (drop e s)) s (e + 1) (Closed k) → names ≡ name_in s n ∷ []
    unfolding firsts
    members-closed f = sym w.each ∙ ap firsts (value_same (sym w.all ∙ rest-closed (member (value d)) 0x7D (drop i s) m.read f.0))

    pub members-first : (more : List Bytes) × (names ≡ name_in s n ∷ more)
    unfolding firsts
    members-first =
        let (ms, h) = items-first (member (value d)) 0x7D (drop i s) m.read w.all in
        (firsts ms, sym w.each ∙ ap firsts h)

    pub members-more : (k : ℕ) → Follows (closing 0x7D (drop e s)) s (e + 1) (More k) → (more : List Bytes) × (names ≡ name_in s n ∷ more) × Members d s k more
    unfolding firsts
    members-more k f =
        let (ms, h, g) = and_then-some _ (rest (member (value d)) 0x7D (drop k s))
        (sym (rest-onward (member (value d)) 0x7D (drop i s) m.read (member-reads (value-reads d)) f.0) ∙ w.all) in
        (firsts ms, sym w.each ∙ ap firsts h, record { ms = ms; left = w.left; all = g; each = refl })

-- The search for a name, member by member: what it has passed does not have the name, and what is left is asked.
use mathlib.Core.Path.{◌≡◌, refl, sym, ap, ◌∙◌}
use mathlib.Core.Bool.{true, false}
use Rattle.std.specs.Prelude.{None, Some}
use mathlib.Core.List.{List, [], ◌∷◌}
use Prim.Native.Nat.{ℕ, ◌+◌}
use lib.ListN.{drop}
use Rattle.rules.specs.Bytes.{Bytes, same}
use Rattle.rules.specs.Json.Text.{Text}
use Rattle.rules.specs.Json.Values.{Member, opening, closing, list, member, value}
use Rattle.rules.proofs.Json.Suffix.{value_same, answered-none}
use Rattle.rules.proofs.Json.ValueReads.{value-reads, member-reads}
use Rattle.rules.proofs.Json.Steps.{contents-list, list-closed, list-onward, list-neither, rest, rest-none, rest-closed, rest-neither, rest-onward}
use Rattle.json_values.specs.Follows.{Follows}
use Rattle.json_values.specs.declared.Tail.TheVariants.{Closed, More, Neither}
use Rattle.field_names.specs.Spelled.{name_in}
use Rattle.field_objects.specs.Standing.{Stands}
use Rattle.field_names.specs.declared.keys.Spell.{Spell}
use Rattle.field_objects.proofs.Passing.{and_then-some, items-first}
use Rattle.field_objects.specs.Lookup.{Standing, Onward, lookup, FoundIs}

-- ---- the rule

lookup-here : (name : Bytes) (m : Member) (ms : List Member) → same name m.0 ≡ true → lookup name (m ∷ ms) ≡ Some m.1
unfolding lookup
lookup-here name m ms e = rw (lookup, e)

lookup-past : (name : Bytes) (m : Member) (ms : List Member) → same name m.0 ≡ false → lookup name (m ∷ ms) ≡ lookup name ms
unfolding lookup
lookup-past name m ms e = rw (lookup, e)

lookup-none : (name : Bytes) → lookup name [] ≡ None
unfolding lookup
lookup-none name = refl

-- ---- behind the opening brace

module _ (d : ℕ) (s : Text) (at : ℕ) (name : Bytes) (w : Standing d s at) where
  pub standing-list : list (member (value d)) 0x7D (drop at s) ≡ Some (w.ms, w.left)
  standing-list = sym (contents-list (value d) (drop at s)) ∙ w.all

  pub standing-neither : {P : Type 0} → Follows (opening 0x7D (drop at s)) s at Neither → P
  standing-neither f = answered-none standing-list (list-neither (member (value d)) 0x7D (drop at s) f)

  pub standing-closed : {k : ℕ} → Follows (opening 0x7D (drop at s)) s at (Closed k) → lookup name w.ms ≡ None
  standing-closed f = ap (lookup name) (value_same (sym standing-list ∙ list-closed (member (value d)) 0x7D (drop at s) f.0)) ∙ lookup-none name

  abbrev pub standing-more : (i : ℕ) → Follows (opening 0x7D (drop at s)) s at (More i) → Onward d s i
  standing-more i f = record { ms = w.ms; left = w.left; all = sym (list-onward (member (value d)) 0x7D (drop at s) f.0) ∙ standing-list }

-- ---- from a member on: the value asked for is among those from i on

-- what is asked of the members from `at` on is asked of those from i on
abbrev pub Going : (d : ℕ) (s : Text) (at : ℕ) (name : Bytes) (i : ℕ) → Type 0
Going d s at name i = (w : Onward d s at) → (o : Onward d s i) × (lookup name w.ms ≡ lookup name o.ms)

module _ (d : ℕ) (s : Text) (at : ℕ) (name : Bytes) (i : ℕ) (g : Going d s at name i) where
  pub going-none : {P : Type 0} → member (value d) (drop i s) ≡ None → Onward d s at → P
  going-none e w = let (o, q) = g w in answered-none o.all (rest-none (member (value d)) 0x7D (drop i s) e)

  module _ (n : Spell) (v e : ℕ) (m : Stands (member (value d) (drop i s)) s i n v e) where
    pub going-here : same name (name_in s n) ≡ true → (w : Onward d s at) → FoundIs (lookup name w.ms) s (Some (v, e))
    going-here h w =
        let (o, q) = g w in
        let (ns, f) = items-first (member (value d)) 0x7D (drop i s) m.read o.all in
        (q ∙ ap (lookup name) f ∙ lookup-here name _ ns h, m.ordered, m.within)

    pub going-neither : {P : Type 0} → Follows (closing 0x7D (drop e s)) s (e + 1) Neither → Onward d s at → P
    going-neither f w = let (o, q) = g w in answered-none o.all (rest-neither (member (value d)) 0x7D (drop i s) m.read f)

    module _ (h : same name (name_in s n) ≡ false) where
      pub going-closed : {k : ℕ} → Follows (closing 0x7D (drop e s)) s (e + 1) (Closed k) → (w : Onward d s at) → lookup name w.ms ≡ None
      going-closed f w =
          let (o, q) = g w in
          q ∙ ap (lookup name) (value_same (sym o.all ∙ rest-closed (member (value d)) 0x7D (drop i s) m.read f.0)) ∙ lookup-past name _ [] h
          ∙ lookup-none name

      pub going_more : (k : ℕ) → Follows (closing 0x7D (drop e s)) s (e + 1) (More k) → Going d s at name k
      going_more k f w =
          let (o, q) = g w in
          let (ns, a, b) = and_then-some _ (rest (member (value d)) 0x7D (drop k s))
          (sym (rest-onward (member (value d)) 0x7D (drop i s) m.read (member-reads (value-reads d)) f.0) ∙ o.all) in
          (record { ms = ns; left = o.left; all = b }, q ∙ ap (lookup name) a ∙ lookup-past name _ ns h)

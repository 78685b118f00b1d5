-- An array of strings met again: what is asked of all its strings is what is asked of those that are left.
use mathlib.Core.Path.{◌≡◌, refl, sym, ap, ◌∙◌}
use Rattle.std.specs.Prelude.{None, Some}
use mathlib.Core.List.{List, [], ◌∷◌}
use Prim.Native.Nat.{ℕ, ◌+◌}
use lib.ListN.{drop}
use Rattle.rules.specs.Bytes.{Bytes, ◌>>=◌}
use Rattle.rules.specs.Json.Text.{Text, spelled, byte}
use Rattle.rules.specs.Json.Strings.{string}
use Rattle.rules.specs.Json.Values.{opening, closing, list, elements, value}
use Rattle.rules.specs.Json.Fields.{strings}
use Rattle.rules.proofs.Json.Suffix.{some_same, value_same, answered-none}
use Rattle.rules.proofs.Json.TextReads.{spelled-reads}
use Rattle.rules.proofs.Json.ValueReads.{value-reads}
use Rattle.rules.proofs.Json.Steps.{elements-list, list-closed, list-onward, list-neither, rest, rest-closed, rest-neither, rest-onward}
use Rattle.rules.proofs.Json.Joined.{joined-nil}
use Rattle.json_values.specs.Follows.{Follows}
use Rattle.json_values.specs.declared.Tail.TheVariants.{Closed, More, Neither}
use Rattle.field_names.specs.Spelled.{name_in, Quoted}
use Rattle.field_objects.proofs.Passing.{and_then-some, items-first}
use Rattle.field_containers.specs.Strung.{Strung, Listed, IsList, Onward}
use Rattle.field_names.specs.declared.keys.Spell.{Spell}
use Rattle.field_containers.proofs.Elements.{read-strings, element-string, element-bytes, no-strings, strings-first}

strings-nil : {ss : List Bytes} (vs : List Text) → vs ≡ [] → strings vs ≡ Some ss → ss ≡ []
unfolding strings
strings-nil vs e f = some_same (sym f ∙ ap strings e)

-- ---- behind the opening bracket

-- an array of strings that was counted
pub strung-list : (d : ℕ) (s : Text) (at : ℕ) {n end : ℕ} → Strung (elements (value d) (drop at s)) s at n end → IsList s at
strung-list d s at {end = end} f = record { ss = f.ss; listed = record { depth = d; vs = f.vs; left = drop end s; all = f.all; each = f.each } }

module _ (s : Text) (at : ℕ) (ss : List Bytes) (l : Listed s at ss) where
  listed-list : list (spelled (value l.depth)) 0x5D (drop at s) ≡ Some (l.vs, l.left)
  listed-list = sym (elements-list (value l.depth) (drop at s)) ∙ l.all

  pub listed-neither : {P : Type 0} → Follows (opening 0x5D (drop at s)) s at Neither → P
  listed-neither f = answered-none listed-list (list-neither (spelled (value l.depth)) 0x5D (drop at s) f)

  pub listed-closed : {k : ℕ} → Follows (opening 0x5D (drop at s)) s at (Closed k) → ss ≡ []
  listed-closed f = strings-nil l.vs (value_same (sym listed-list ∙ list-closed (spelled (value l.depth)) 0x5D (drop at s) f.0)) l.each

  pub listed_more : (i : ℕ) → Follows (opening 0x5D (drop at s)) s at (More i) → Onward s i ss
  listed_more i f = record {
    depth = l.depth;
    vs = l.vs;
    left = l.left;
    all = sym (list-onward (spelled (value l.depth)) 0x5D (drop at s) f.0) ∙ listed-list;
    each = l.each;
  }

-- ---- from an element on

module _ (s : Text) (i : ℕ) (ss : List Bytes) (o : Onward s i ss) where
  pub onward-none : {P : Type 0} → (byte 0x22 (drop i s) >>= string) ≡ None → P
  onward-none e =
      answered-none
      (ap read-strings (joined-nil (rest (spelled (value o.depth)) 0x5D (drop i s)) ∙ o.all) ∙ o.each)
      (no-strings o.depth [] (drop i s) e)

  module _ (n : Spell) (q : Quoted s i n) where
    pub onward-neither : {P : Type 0} → Follows (closing 0x5D (drop n.end s)) s (n.end + 1) Neither → P
    onward-neither f = answered-none o.all (rest-neither (spelled (value o.depth)) 0x5D (drop i s) (element-string o.depth s i n q) f)

    pub onward-closed : {k : ℕ} → Follows (closing 0x5D (drop n.end s)) s (n.end + 1) (Closed k) → ss ≡ name_in s n ∷ []
    onward-closed f =
        let whole = value_same (sym o.all ∙ rest-closed (spelled (value o.depth)) 0x5D (drop i s) (element-string o.depth s i n q) f.0) in
        let (more, e, g) = strings-first _ [] (sym (ap strings whole) ∙ o.each) (element-bytes o.depth s i n q) in
        e ∙ ap (λ (l : List Bytes). name_in s n ∷ l) (strings-nil [] refl g)

    pub onward-more : (k : ℕ) → Follows (closing 0x5D (drop n.end s)) s (n.end + 1) (More k)
        → (more : List Bytes) × (ss ≡ name_in s n ∷ more) × Onward s k more
    onward-more k f =
        let (ws, e, g) = and_then-some _ (rest (spelled (value o.depth)) 0x5D (drop k s))
        (sym (rest-onward (spelled (value o.depth)) 0x5D (drop i s) (element-string o.depth s i n q) (spelled-reads (value-reads o.depth)) f.0)
        ∙ o.all) in
        let (more, h, j) = strings-first _ ws (sym (ap strings e) ∙ o.each) (element-bytes o.depth s i n q) in
        (more, h, record { depth = o.depth; vs = ws; left = o.left; all = g; each = j })

    pub onward-first : (more : List Bytes) × (ss ≡ name_in s n ∷ more)
    onward-first =
        let (ws, e) = items-first (spelled (value o.depth)) 0x5D (drop i s) (element-string o.depth s i n q) o.all in
        let (more, h, j) = strings-first _ ws (sym (ap strings e) ∙ o.each) (element-bytes o.depth s i n q) in
        (more, h)

-- The partition values from a member on: the last, or one and more; and the loop over them, which keeps that what is asked of all
-- is asked of those that are left.
use mathlib.Core.Path.{◌≡◌, refl, sym, ap, ◌∙◌}
use mathlib.Core.Bool.{Bool, true, false}
use Rattle.std.specs.Prelude.{Option, None, Some}
use mathlib.Core.List.{List, [], ◌∷◌}
use Prim.Native.Nat.{ℕ, ◌+◌, ◌-◌}
use lib.ListN.{take, drop}
use Rattle.rules.specs.Bytes.{Bytes}
use Rattle.rules.specs.Json.Text.{Text}
use Rattle.rules.specs.Json.Values.{Member, opening, closing, list, member, value}
use Rattle.rules.specs.Json.Fields.{string_or_null}
use Rattle.rules.specs.Actions.{Pairs, pairs}
use Rattle.rules.specs.Picking.{value_at}
use Rattle.rules.specs.Agreement.{agree_found}
use Rattle.rules.proofs.Json.Suffix.{some_same, value_same, answered-none}
use Rattle.rules.proofs.Json.ValueReads.{value-reads, member-reads}
use Rattle.rules.proofs.Json.Steps.{contents-list, list-closed, list-onward, list-neither, rest, rest-none, rest-closed, rest-neither, rest-onward}
use Rattle.json_values.specs.Follows.{Follows}
use Rattle.json_values.specs.declared.Tail.{Tail}
use Rattle.json_values.specs.declared.Tail.TheVariants.{Closed, More, Neither}
use Rattle.field_names.specs.Spelled.{name_in}
use Rattle.field_objects.specs.Standing.{Stands}
use Rattle.field_names.specs.declared.keys.Spell.{Spell}
use Rattle.field_objects.proofs.Passing.{and_then-some, items-first}
use Rattle.field_containers.specs.Nested.{Pairing}
use Rattle.field_containers.proofs.Pairs.{read-object}
use Rattle.log_agreement.specs.OneWay.{held_in, Onward}
use Rattle.rules.proofs.Pairs.{pairs-cons}

-- ---- the rule

module _ (c : Bytes × Option Bytes) (these qs : Pairs) where
  held_in-here : agree_found (Some c.1) (value_at c.0 qs) ≡ true → held_in (c ∷ these) qs ≡ held_in these qs
  unfolding held_in
  held_in-here e = rw (held_in, e)

  held_in-fails : agree_found (Some c.1) (value_at c.0 qs) ≡ false → held_in (c ∷ these) qs ≡ false
  unfolding held_in
  held_in-fails e = rw (held_in, e)

pub held_in-nil : (qs : Pairs) → held_in [] qs ≡ true
unfolding held_in
held_in-nil qs = refl

pairs-nil : (ms : List Member) {ps : Pairs} → ms ≡ [] → pairs ms ≡ Some ps → ps ≡ []
unfolding pairs
pairs-nil ms e f = some_same (sym f ∙ ap pairs e)

-- ---- behind the opening brace

module _ (s : Text) (at : ℕ) (ps : Pairs) (w : Pairing s at ps) where
  pairing-list : list (member (value 29)) 0x7D (drop at s) ≡ Some (w.ms, w.left)
  pairing-list = sym (contents-list (value 29) (drop at s)) ∙ read-object w

  pairing-neither : {P : Type 0} → Follows (opening 0x7D (drop at s)) s at Neither → P
  pairing-neither f = answered-none pairing-list (list-neither (member (value 29)) 0x7D (drop at s) f)

  pairing-closed : {k : ℕ} → Follows (opening 0x7D (drop at s)) s at (Closed k) → (qs : Pairs) → true ≡ held_in ps qs
  pairing-closed f qs =
      sym (ap (λ (l : Pairs). held_in l qs)
      (pairs-nil w.ms (value_same (sym pairing-list ∙ list-closed (member (value 29)) 0x7D (drop at s) f.0)) w.each) ∙ held_in-nil qs)

  pub pairing-empty : (t : Tail) → Follows (opening 0x7D (drop at s)) s at t → ((k : ℕ) → t ≡ More k → ⊥) → (qs : Pairs) → true ≡ held_in ps qs
  pairing-empty Neither f n qs = pairing-neither f
  pairing-empty (Closed k) f n qs = pairing-closed f qs
  pairing-empty (More k) f n qs = absurd (n k refl)

  pub pairing-more : (i : ℕ) → Follows (opening 0x7D (drop at s)) s at (More i) → Onward s i ps
  pairing-more i f = record { ms = w.ms; left = w.left; all = sym (list-onward (member (value 29)) 0x7D (drop at s) f.0) ∙ pairing-list; each = w.each }

-- ---- from a member on

module _ (s : Text) (i : ℕ) (ps : Pairs) (o : Onward s i ps) where
  onward-none : {P : Type 0} → member (value 29) (drop i s) ≡ None → P
  onward-none e = answered-none o.all (rest-none (member (value 29)) 0x7D (drop i s) e)

  module _ (n : Spell) (v e : ℕ) (m : Stands (member (value 29) (drop i s)) s i n v e) where
    onward-neither : {P : Type 0} → Follows (closing 0x7D (drop e s)) s (e + 1) Neither → P
    onward-neither f = answered-none o.all (rest-neither (member (value 29)) 0x7D (drop i s) m.read f)

    onward-first : (x : Option Bytes) × (more : Pairs) × (string_or_null (take (e - v) (drop v s)) ≡ Some x) × (ps ≡ (name_in s n, x) ∷ more)
    onward-first =
        let (ns, f) = items-first (member (value 29)) 0x7D (drop i s) m.read o.all in
        let (x, more, g, h, k) = pairs-cons _ ns (sym (ap pairs f) ∙ o.each) in
        (x, more, g, k)

    onward-closed : {k : ℕ} → Follows (closing 0x7D (drop e s)) s (e + 1) (Closed k)
        → (x : Option Bytes) × (string_or_null (take (e - v) (drop v s)) ≡ Some x) × (ps ≡ (name_in s n, x) ∷ [])
    onward-closed f =
        let whole = value_same (sym o.all ∙ rest-closed (member (value 29)) 0x7D (drop i s) m.read f.0) in
        let (x, more, g, h, k) = pairs-cons _ [] (sym (ap pairs whole) ∙ o.each) in
        (x, g, k ∙ ap (λ (l : Pairs). (name_in s n, x) ∷ l) (pairs-nil [] refl h))

    onward-more : (k : ℕ) → Follows (closing 0x7D (drop e s)) s (e + 1) (More k)
        → (x : Option Bytes) × (more : Pairs) × (string_or_null (take (e - v) (drop v s)) ≡ Some x) × (ps ≡ (name_in s n, x) ∷ more) × Onward s k more
    onward-more k f =
        let (ns, a, b) = and_then-some _ (rest (member (value 29)) 0x7D (drop k s))
        (sym (rest-onward (member (value 29)) 0x7D (drop i s) m.read (member-reads (value-reads 29)) f.0) ∙ o.all) in
        let (x, more, g, h, j) = pairs-cons _ ns (sym (ap pairs a) ∙ o.each) in
        (x, more, g, j, record { ms = ns; left = o.left; all = b; each = h })

-- ---- the loop

-- whether those from `at` on are held is whether those from i on are
abbrev pub Going : (s : Text) (at : ℕ) (t : Text) (from i : ℕ) → Type 0
Going s at t from i = (ps qs : Pairs) → Onward s at ps → Pairing t from qs → (left : Pairs) × (held_in ps qs ≡ held_in left qs) × Onward s i left

module _ (s : Text) (at : ℕ) (t : Text) (from i : ℕ) (g : Going s at t from i) where
  pub going-none : {P : Type 0} → member (value 29) (drop i s) ≡ None → (ps qs : Pairs) → Onward s at ps → Pairing t from qs → P
  going-none e ps qs o w = let (left, q, p) = g ps qs o w in onward-none s i left p e

  module _ (n : Spell) (v e : ℕ) (m : Stands (member (value 29) (drop i s)) s i n v e) where
    going-neither : {P : Type 0} → Follows (closing 0x7D (drop e s)) s (e + 1) Neither → (ps qs : Pairs) → Onward s at ps → Pairing t from qs → P
    going-neither f ps qs o w = let (left, q, p) = g ps qs o w in onward-neither s i left p n v e m f

    -- r says whether the pair at i is held
    module _
        {r : Bool}
        (h : (x : Option Bytes) (qs : Pairs) → string_or_null (take (e - v) (drop v s)) ≡ Some x → Pairing t from qs
        → r ≡ agree_found (Some x) (value_at (name_in s n) qs))
      where
        pub going-fails : r ≡ false → (ps qs : Pairs) → Onward s at ps → Pairing t from qs → false ≡ held_in ps qs
        going-fails b ps qs o w =
            let (left, q, p) = g ps qs o w in
            let (x, more, a, k) = onward-first s i left p n v e m in
            sym (q ∙ ap (λ (l : Pairs). held_in l qs) k ∙ held_in-fails (name_in s n, x) more qs (sym (h x qs a w) ∙ b))

        module _ (b : r ≡ true) where
          going-closed : {k : ℕ} → Follows (closing 0x7D (drop e s)) s (e + 1) (Closed k) → (ps qs : Pairs) → Onward s at ps → Pairing t from qs
              → true ≡ held_in ps qs
          going-closed f ps qs o w =
              let (left, q, p) = g ps qs o w in
              let (x, a, k) = onward-closed s i left p n v e m f in
              sym (q ∙ ap (λ (l : Pairs). held_in l qs) k ∙ held_in-here (name_in s n, x) [] qs (sym (h x qs a w) ∙ b) ∙ held_in-nil qs)

          pub going-last : (l : Tail) → Follows (closing 0x7D (drop e s)) s (e + 1) l → ((k : ℕ) → l ≡ More k → ⊥)
              → (ps qs : Pairs) → Onward s at ps → Pairing t from qs → true ≡ held_in ps qs
          going-last Neither f n = λ ps qs o w. going-neither f ps qs o w
          going-last (Closed k) f n = going-closed f
          going-last (More k) f n = absurd (n k refl)

          pub going_more : (k : ℕ) → Follows (closing 0x7D (drop e s)) s (e + 1) (More k) → Going s at t from k
          going_more k f ps qs o w =
              let (left, q, p) = g ps qs o w in
              let (x, more, a, j, l) = onward-more s i left p n v e m k f in
              (more, q ∙ ap (λ (z : Pairs). held_in z qs) j ∙ held_in-here (name_in s n, x) more qs (sym (h x qs a w) ∙ b), l)

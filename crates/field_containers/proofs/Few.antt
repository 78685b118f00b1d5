-- Partition values told by their first two members: what stands from one of them on, and what so few of them are.
use mathlib.Core.Path.{◌≡◌, refl, sym, ap, subst, ◌∙◌}
use mathlib.Core.Bool.{Bool, true, false}
use Rattle.std.specs.Prelude.{Option, None, Some}
use mathlib.Core.List.{List, [], ◌∷◌}
use Prim.Native.Nat.{ℕ, ◌+◌, ◌-◌, ◌≤◌, ◌<◌}
use native.Mathlib.Omega.{arith}
use lib.ListN.{take, drop}
use Rattle.rules.specs.Actions.{in_field, pairs}
use Rattle.rules.specs.Bytes.{Bytes, ◌>>=◌, guard, same, holds, distinct, firsts}
use Rattle.rules.specs.Json.Text.{Text}
use Rattle.rules.specs.Json.Values.{Member, opening, closing, member, value}
use Rattle.rules.specs.Json.Fields.{string_or_null}
use Rattle.rules.proofs.Holding.{distinct_cons, distinct-held}
use Rattle.rules.proofs.Json.Suffix.{value_same, answered-none}
use Rattle.rules.proofs.Json.Steps.{list-closed, list-onward, list-neither, rest, rest-none, rest-closed, rest-neither, rest-onward}
use Rattle.rules.proofs.Json.ValueReads.{value-reads, member-reads}
use Rattle.json_values.specs.Follows.{Follows}
use Rattle.json_values.specs.declared.Tail.TheVariants.{Closed, More, Neither}
use Rattle.field_names.specs.Spelled.{name_in, Quoted}
use Rattle.field_names.specs.declared.keys.Spell.{Spell}
use Rattle.field_objects.specs.Standing.{Stands}
use Rattle.field_objects.proofs.Passing.{and_then-some, items-first}
use Rattle.field_scalars.specs.Texts.{Told}
use Rattle.field_containers.specs.Nested.{Opened, Opens, UsualIs, Second, values_from}
use Rattle.field_containers.proofs.Partitions.{opened-list, guarded, pairs-none}

-- ---- what is told of their names

-- nothing
pub usual-none : (s : Text) (at : ℕ) → UsualIs s at (record { end = 0; second = 0; close = 0 })
usual-none s at = record { one = λ h _. absurd (omega (arith, h)); two = λ h _. absurd (omega (arith, h)) }

-- the first name, where it is told to end
pub told-opens : {o : Option (Member × Text)} {s : Text} {at i v e end : ℕ} {n : Spell} → Stands o s i n v e → (0 < end → (i ≡ at) × (n.end ≡ end))
    → Opens s at n end
told-opens {s = s} {n = n} m f h =
    (subst (λ (k : ℕ). Quoted s k n) (f h).0 (record { quote = m.quote; from = m.first; named = m.named }), (f h).1)

-- ---- so few members

values-none : Told (values_from []) true
unfolding distinct firsts pairs
values-none = ([], refl)

values_one : (a : Bytes) (t : Text) {x : Option Bytes} → string_or_null t ≡ Some x → Told (values_from ((a, t) ∷ [])) true
unfolding distinct holds firsts pairs
values_one a t {x} e = ((a, x) ∷ [], rw e)

-- the first is none
values-refused : (m : Member) (ms : List Member) → string_or_null m.1 ≡ None → values_from (m ∷ ms) ≡ None
values-refused m ms e = guarded (distinct (firsts (m ∷ ms))) (pairs (m ∷ ms)) (pairs-none [] m ms e)

values-two : (a : Bytes) (t : Text) (b : Bytes) (u : Text) {x y : Option Bytes} → string_or_null t ≡ Some x → string_or_null u ≡ Some y → same a b ≡ false
    → Told (values_from ((a, t) ∷ (b, u) ∷ [])) true
unfolding distinct holds firsts pairs
values-two a t b u {x} {y} e f n =
    ((a, x) ∷ (b, y) ∷ [], ap (λ (d : Bool). guard d >>= (λ _. pairs ((a, t) ∷ (b, u) ∷ []))) (distinct_cons a (b ∷ []) (rw (n, holds))) ∙ rw (e, f))

-- the second is none
values-refused-second : (m n : Member) (ms : List Member) → string_or_null n.1 ≡ None → values_from (m ∷ n ∷ ms) ≡ None
values-refused-second m n ms e = guarded (distinct (firsts (m ∷ n ∷ ms))) (pairs (m ∷ n ∷ ms)) (pairs-none (m ∷ []) n ms e)

-- or has the name of the first
values_same : (m n : Member) (ms : List Member) → same m.0 n.0 ≡ true → values_from (m ∷ n ∷ ms) ≡ None
unfolding holds firsts
values_same m n ms e = ap (λ (d : Bool). guard d >>= (λ _. pairs (m ∷ n ∷ ms))) (distinct-held m.0 (n.0 ∷ firsts ms) (rw (e, holds)))

-- ---- the members from i on

module _ (s : Text) (i : ℕ) {ms : List Member} {left : Text} (all : rest (member (value in_field)) 0x7D (drop i s) ≡ Some (ms, left)) where
  left-none : {P : Type 0} → member (value in_field) (drop i s) ≡ None → P
  left-none e = answered-none all (rest-none (member (value in_field)) 0x7D (drop i s) e)

  module _ (n : Spell) (v e : ℕ) (m : Stands (member (value in_field) (drop i s)) s i n v e) where
    abbrev pair : Member
    pair = (name_in s n, take (e - v) (drop v s))

    left-first : (ns : List Member) × (ms ≡ pair ∷ ns)
    left-first = items-first (member (value in_field)) 0x7D (drop i s) m.read all

    left-neither : {P : Type 0} → Follows (closing 0x7D (drop e s)) s (e + 1) Neither → P
    left-neither f = answered-none all (rest-neither (member (value in_field)) 0x7D (drop i s) m.read f)

    left-closed : {k : ℕ} → Follows (closing 0x7D (drop e s)) s (e + 1) (Closed k) → ms ≡ pair ∷ []
    left-closed f = value_same (sym all ∙ rest-closed (member (value in_field)) 0x7D (drop i s) m.read f.0)

    left-more : {k : ℕ} → Follows (closing 0x7D (drop e s)) s (e + 1) (More k)
        → (ns : List Member) × (ms ≡ pair ∷ ns) × (rest (member (value in_field)) 0x7D (drop k s) ≡ Some (ns, left))
    left-more {k} f = and_then-some pair (rest (member (value in_field)) 0x7D (drop k s))
        (sym (rest-onward (member (value in_field)) 0x7D (drop i s) m.read (member-reads (value-reads in_field)) f.0) ∙ all)

-- ---- the first member

module _ (s : Text) (at : ℕ) (w : Opened s at) where
  pub few-neither : {P : Type 0} → Follows (opening 0x7D (drop at s)) s at Neither → P
  few-neither f = answered-none (opened-list s at w) (list-neither (member (value in_field)) 0x7D (drop at s) f)

  pub few-none : {k : ℕ} → Follows (opening 0x7D (drop at s)) s at (Closed k) → Told (values_from w.ms) true
  few-none f = rw (value_same (sym (opened-list s at w) ∙ list-closed (member (value in_field)) 0x7D (drop at s) f.0)) values-none

  module _ (i : ℕ) (o : Follows (opening 0x7D (drop at s)) s at (More i)) where
    all_left : rest (member (value in_field)) 0x7D (drop i s) ≡ Some (w.ms, w.left)
    all_left = sym (list-onward (member (value in_field)) 0x7D (drop at s) o.0) ∙ opened-list s at w

    pub first-none : {P : Type 0} → member (value in_field) (drop i s) ≡ None → P
    first-none = left-none s i all_left

    module _ (n : Spell) (v e : ℕ) (m : Stands (member (value in_field) (drop i s)) s i n v e) where
      pub first-refused : string_or_null (take (e - v) (drop v s)) ≡ None → values_from w.ms ≡ None
      first-refused f =
          let (ns, p) = left-first s i all_left n v e m in
          ap values_from p ∙ values-refused (name_in s n, take (e - v) (drop v s)) ns f

      pub first-neither : {P : Type 0} → Follows (closing 0x7D (drop e s)) s (e + 1) Neither → P
      first-neither = left-neither s i all_left n v e m

      module _ (y : Told (string_or_null (take (e - v) (drop v s))) true) where
        pub first-closed : {k : ℕ} → Follows (closing 0x7D (drop e s)) s (e + 1) (Closed k) → Told (values_from w.ms) true
        first-closed f =
            let t = values_one (name_in s n) (take (e - v) (drop v s)) y.1 in
            (t.0, ap values_from (left-closed s i all_left n v e m f) ∙ t.1)

        -- it is told, where it is told to end
        pub first-usual : {k end : ℕ} → Opens s at n end → Follows (closing 0x7D (drop e s)) s (e + 1) (Closed k)
            → UsualIs s at (record { end = end; second = 0; close = 0 })
        unfolding firsts
        first-usual {end = end} o f = record {
          one = λ h _. record {
            n = n;
            quoted = (o h).0;
            ends = (o h).1;
            object = record { ms = w.ms; left = w.left; all = w.all; each = ap firsts (left-closed s i all_left n v e m f) };
          };
          two = λ _ h. absurd (omega (arith, h));
        }

        pub first_more : {k : ℕ} → Follows (closing 0x7D (drop e s)) s (e + 1) (More k) → Second s at n k
        first_more {k} f =
            let (ns, p, q) = left-more s i all_left n v e m f in
            record {
              named = m.named;
              first = take (e - v) (drop v s);
              says = y.0;
              read = y.1;
              ms = ns;
              left = w.left;
              from = let low : e + 1 ≤ k = f.1 in omega arith;
              within = f.2;
              all = w.all ∙ ap (λ (l : List Member). Some (l, w.left)) p;
              more = q;
            }

-- ---- the second

module _ (s : Text) (at : ℕ) (n : Spell) (i : ℕ) (g : Second s at n i) (w : Opened s at) where
  both : w.ms ≡ (name_in s n, g.first) ∷ g.ms
  both = value_same (sym w.all ∙ g.all)

  pub second_none : {P : Type 0} → member (value in_field) (drop i s) ≡ None → P
  second_none = left-none s i g.more

  module _ (k : Spell) (v e : ℕ) (m : Stands (member (value in_field) (drop i s)) s i k v e) where
    begins : (ns : List Member) × (w.ms ≡ (name_in s n, g.first) ∷ (name_in s k, take (e - v) (drop v s)) ∷ ns)
    begins =
        let (ns, p) = left-first s i g.more k v e m in
        (ns, both ∙ ap (λ (l : List Member). (name_in s n, g.first) ∷ l) p)

    pub second-refused : string_or_null (take (e - v) (drop v s)) ≡ None → values_from w.ms ≡ None
    second-refused f =
        let (ns, p) = begins in
        ap values_from p ∙ values-refused-second (name_in s n, g.first) (name_in s k, take (e - v) (drop v s)) ns f

    pub second-same : same (name_in s n) (name_in s k) ≡ true → values_from w.ms ≡ None
    second-same f =
        let (ns, p) = begins in
        ap values_from p ∙ values_same (name_in s n, g.first) (name_in s k, take (e - v) (drop v s)) ns f

    pub second-neither : {P : Type 0} → Follows (closing 0x7D (drop e s)) s (e + 1) Neither → P
    second-neither = left-neither s i g.more k v e m

    pub second-closed : Told (string_or_null (take (e - v) (drop v s))) true → same (name_in s n) (name_in s k) ≡ false → {j : ℕ}
        → Follows (closing 0x7D (drop e s)) s (e + 1) (Closed j) → Told (values_from w.ms) true
    second-closed y d f =
        let t = values-two (name_in s n) g.first (name_in s k) (take (e - v) (drop v s)) g.read y.1 d in
        (t.0, ap values_from (both ∙ ap (λ (l : List Member). (name_in s n, g.first) ∷ l) (left-closed s i g.more k v e m f)) ∙ t.1)

    -- both are told
    pub second-usual : {end j : ℕ} → Opens s at n end → Follows (closing 0x7D (drop e s)) s (e + 1) (Closed j)
        → UsualIs s at (record { end = end; second = i; close = k.end })
    unfolding firsts
    second-usual {end} o f = record {
      one = λ _ z. absurd (omega (arith, g.from, z));
      two = λ h _. record {
        n = n;
        m = k;
        quoted = (o h).0;
        ends = (o h).1;
        quoted-too = record { quote = m.quote; from = m.first; named = m.named };
        closes = refl;
        object = record {
          ms = w.ms;
          left = w.left;
          all = w.all;
          each = ap firsts (both ∙ ap (λ (l : List Member). (name_in s n, g.first) ∷ l) (left-closed s i g.more k v e m f));
        };
      };
    }

-- ---- however many

pub many-told : (ms : List Member) (r : Bool) → Told (pairs ms) true → r ≡ distinct (firsts ms) → Told (values_from ms) r
many-told ms true t e = (t.0, ap (λ (d : Bool). guard d >>= (λ _. pairs ms)) (sym e) ∙ t.1)
many-told ms false t e = ap (λ (d : Bool). guard d >>= (λ _. pairs ms)) (sym e)

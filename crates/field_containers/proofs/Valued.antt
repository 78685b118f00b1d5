-- The texts of the members of an object that was read are values, and so are those in the slots of a scan.
use mathlib.Core.Path.{◌≡◌, refl, sym, ◌∙◌, subst}
use mathlib.Core.Bool.{Bool, true, false}
use Rattle.std.specs.Prelude.{Some}
use mathlib.Core.List.{List, [], ◌∷◌}
use Prim.Native.Nat.{ℕ, zero, suc, ◌<◌}
use lib.ListN.{length, get_or}
use Rattle.rules.specs.Actions.{in_action}
use Rattle.rules.specs.Bytes.{Bytes, same}
use Rattle.rules.specs.Json.Text.{Text, byte, spelled}
use Rattle.rules.specs.Json.Strings.{string}
use Rattle.rules.specs.Json.Values.{Member, Behind, closed, onward, neither, opening, closing}
use Rattle.rules.specs.Json.Values.{after_item, items, items_behind, list, colon, member, contents, value}
use Rattle.rules.specs.Json.Fields.{under}
use Rattle.rules.proofs.Tests.{apart}
use Rattle.rules.proofs.Json.Suffix.{bound, value_same}
use Rattle.rules.proofs.Json.Local.{value-alone}
use Rattle.rules.proofs.Json.Steps.{contents-list}
use Rattle.rules.proofs.Json.Fields.{under-hit, under-miss}
use Rattle.field_objects.specs.Slots.{missing, Times, Each}
use Rattle.field_objects.specs.declared.notes.Slot.{Slot}
use Rattle.field_objects.proofs.Passing.{and_then-some}
use Rattle.field_scalars.specs.Inside.{ProperBy, Proper}
use Rattle.field_containers.specs.Valued.{Valued}

pub member-valued : (d : ℕ) (t : Text) (m : Member) (r : Text) → member (value d) t ≡ Some (m, r) → value d m.1 ≡ Some []
unfolding member
member-valued d t m r e =
    bound (byte 0x22 t) _ e (λ n f g.
    bound (string n) _ g (λ p h k.
    bound (colon p.1) _ k (λ v i j.
    bound (spelled (value d) v) _ j (λ q l a.
    subst (λ (y : Member). value d y.1 ≡ Some []) (value_same a) (value-alone d q.0 v q.1 l)))))

items-valued : (d n : ℕ) (t : Text) (ms : List Member) (r : Text) → items (member (value d)) 0x7D n t ≡ Some (ms, r) → Valued d ms
unfolding items after_item
items-valued d zero t ms r e = apart (cc)
items-valued d (suc n) t ms r e = bound (member (value d) t) _ e (λ p f g. go (λ u ys. items-valued d n u ys r) p f (closing 0x7D p.1) g)
  where
    go : ((u : Text) (ys : List Member) → items (member (value d)) 0x7D n u ≡ Some (ys, r) → Valued d ys)
        → (p : Member × Text) → member (value d) t ≡ Some p → (c : Behind) → after_item p.0 c (λ u. items (member (value d)) 0x7D n u) ≡ Some (ms, r)
        → Valued d ms
    go ih p f (closed u) g = subst (Valued d) (value_same g) (member-valued d t p.0 p.1 f, tt)
    go ih p f (onward u) g =
        let (ys, h, k) = and_then-some p.0 (items (member (value d)) 0x7D n u) g in
        subst (Valued d) (sym h) (member-valued d t p.0 p.1 f, ih u ys k)
    go ih p f neither g = apart (cc)

pub contents-valued : (d : ℕ) (t : Text) (ms : List Member) (r : Text) → contents (value d) t ≡ Some (ms, r) → Valued d ms
unfolding list items_behind
contents-valued d t ms r e = go (opening 0x7D t) (sym (contents-list (value d) t) ∙ e)
  where
    go : (c : Behind) → items_behind (member (value d)) 0x7D c ≡ Some (ms, r) → Valued d ms
    go (closed u) g = subst (Valued d) (value_same g) tt
    go (onward u) g = items-valued d (suc (length u)) u ms r g
    go neither g = apart (cc)

-- ---- by name

abbrev Values : (d : ℕ) → List Text → Type 0
Values d [] = Unit {0}
Values d (v ∷ vs) = (value d v ≡ Some []) × Values d vs

under-values : (d : ℕ) (name : Bytes) (ms : List Member) → Valued d ms → Values d (under name ms)
unfolding under
under-values d name [] w = tt
under-values d name (m ∷ ms) w = go (under-values d name ms w.1) (same m.0 name) refl
  where
    go : Values d (under name ms) → (test : Bool) → same m.0 name ≡ test → Values d (under name (m ∷ ms))
    go ih true e = subst (Values d) (sym (under-hit name m ms e)) (w.0, ih)
    go ih false e = subst (Values d) (sym (under-miss name m ms e)) ih

-- ---- by slot

times-proper : (s : Text) (seen v e : ℕ) (vs : List Text) → Times s seen v e vs → Values in_action vs → ProperBy s seen v e
times-proper s zero v e vs t w = tt
times-proper s (suc zero) v e vs t w = let p = subst (Values in_action) t.0 w in (t.1, t.2, p.0)
times-proper s (suc (suc n)) v e vs t w = tt

-- the slot of name k
pub each-proper : (s : Text) (names : List Bytes) (ms : List Member) (slots : List Slot) (k : ℕ) → k < length names → Each s names ms slots
    → Valued in_action ms → Proper s (get_or slots k missing)
each-proper s names ms slots k b each w =
    let x = get_or slots k missing in
    times-proper s x.seen x.start x.end (under (get_or names k []) ms) (each k b) (under-values in_action (get_or names k []) ms w)

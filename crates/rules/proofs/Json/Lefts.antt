-- The members of an object by their places: as many as there are members, with the same names, and each value's text is read there.
use mathlib.Core.Path.{◌≡◌, refl, ap, ◌∙◌, subst}
use Rattle.std.specs.Prelude.{Option, None, Some}
use mathlib.Core.List.{List, [], ◌∷◌}
use Prim.Native.Nat.{ℕ, zero, suc}
use lib.ListN.{length}
use Rattle.rules.specs.Json.Text.{Text, Reader, spelled, byte}
use Rattle.rules.specs.Json.Strings.{string}
use Rattle.rules.specs.Json.Values.{Behind, closed, onward, neither, opening, closing, and_then, after_item, items, items_behind, list}
use Rattle.rules.specs.Json.Values.{Member, colon, member, member_left}
use Rattle.rules.proofs.Tests.{apart}
use Rattle.rules.proofs.Json.Suffix.{value_same, left-same, bound}
use Rattle.rules.proofs.Json.TextReads.{spelled-left}

-- ---- one member

-- t begins with the member m, whose value is read from v on, and r is left behind it
pub record Begins (read : Reader) (t : Text) (m : Member) (v r : Text) : Type 0 where
  pub inner : Text
  pub after : Text
  pub quote : byte 0x22 t ≡ Some inner
  pub name : string inner ≡ Some (m.0, after)
  pub parted : colon after ≡ Some v
  pub text : spelled read v ≡ Some (m.1, r)

pub member-begins : (read : Reader) (t : Text) (m : Member) (r : Text) → member read t ≡ Some (m, r) → (v : Text) × Begins read t m v r
unfolding member
member-begins read t m r e =
    bound (byte 0x22 t) _ e (λ n f g.
    bound (string n) _ g (λ p h k.
    bound (colon p.1) _ k (λ v i j.
    bound (spelled read v) _ j (λ q l o.
    let same-member : (p.0, q.0) ≡ m = value_same o in (
      v,
      record {
        inner = n;
        after = p.1;
        quote = f;
        name = h ∙ ap (λ (x : Member). Some (x.0, p.1)) same-member;
        parted = i;
        text = l ∙ ap (λ (x : Member). Some (x.1, q.1)) same-member ∙ ap (λ (u : Text). Some (m.1, u)) (left-same o);
      },
    )))))

pub begins-left : (read : Reader) (t : Text) (m : Member) (v r : Text) → Begins read t m v r → member_left read t ≡ Some ((m.0, v), r)
unfolding member_left
begins-left read t m v r b = rw (member_left, b.quote, b.name, b.parted, spelled-left read v b.text)

-- ---- all of them, with what is said of the members of a text and their places

module _ (read : Reader) (Said : Text → List Member → List Member → Type 0)
    (last : (t : Text) (m : Member) (v r : Text) → Begins read t m v r → Said t (m ∷ []) ((m.0, v) ∷ []))
    (next : (t : Text) (m : Member) (v r u : Text) (ms fs : List Member) → Begins read t m v r → closing 0x7D r ≡ onward u → Said u ms fs
    → Said t (m ∷ ms) ((m.0, v) ∷ fs)) where
  pub items_left : (n : ℕ) (t : Text) (ms : List Member) (r : Text) → items (member read) 0x7D n t ≡ Some (ms, r)
      → (fs : List Member) × (items (member_left read) 0x7D n t ≡ Some (fs, r)) × Said t ms fs
  unfolding items after_item and_then
  items_left zero t ms r e = apart (cc)
  items_left (suc n) t ms r e = bound (member read t) _ e (λ p f g.
      let (v, b) = member-begins read t p.0 p.1 f in
      go (items_left n) p.0 v p.1 b (closing 0x7D p.1) refl g)
    where
      Found : List Member → Type 0
      Found xs = (fs : List Member) × (items (member_left read) 0x7D (suc n) t ≡ Some (fs, r)) × Said t xs fs

      go : ((u : Text) (xs : List Member) (s : Text) → items (member read) 0x7D n u ≡ Some (xs, s)
          → (fs : List Member) × (items (member_left read) 0x7D n u ≡ Some (fs, s)) × Said u xs fs)
          → (m : Member) (v q : Text) → Begins read t m v q → (c : Behind) → closing 0x7D q ≡ c
          → after_item m c (λ u. items (member read) 0x7D n u) ≡ Some (ms, r) → Found ms
      go ih m v q b (closed u) h g = subst Found (value_same g) (
        (m.0, v) ∷ [],
        rw (items, begins-left read t m v q b, h) (ap (λ (x : Text). Some ((m.0, v) ∷ [], x)) (left-same g)),
        last t m v q b,
      )
      go ih m v q b (onward u) h g = one (items (member read) 0x7D n u) refl g
        where
          one : (o : Option (List Member × Text)) → items (member read) 0x7D n u ≡ o → and_then m o ≡ Some (ms, r) → Found ms
          one None i k = apart (cc)
          one (Some p) i k =
              let (fs, f, s) = ih u p.0 p.1 i in
              subst Found (value_same k) (
                (m.0, v) ∷ fs,
                rw (items, begins-left read t m v q b, h, f) (ap (λ (x : Text). Some ((m.0, v) ∷ fs, x)) (left-same k)),
                next t m v q u p.0 fs b h s,
              )
      go ih m v q b neither h g = apart (cc)

  pub list_left : (t : Text) (ms : List Member) (r : Text) (Whole : List Member → List Member → Type 0)
      → ((u : Text) → opening 0x7D t ≡ closed u → Whole [] []) → ((u : Text) (xs fs : List Member) → opening 0x7D t ≡ onward u → Said u xs fs → Whole xs fs)
      → list (member read) 0x7D t ≡ Some (ms, r) → (fs : List Member) × (list (member_left read) 0x7D t ≡ Some (fs, r)) × Whole ms fs
  unfolding list items_behind
  list_left t ms r Whole nothing all e = go (opening 0x7D t) refl e
    where
      go : (c : Behind) → opening 0x7D t ≡ c → items_behind (member read) 0x7D c ≡ Some (ms, r)
          → (fs : List Member) × (items_behind (member_left read) 0x7D c ≡ Some (fs, r)) × Whole ms fs
      go (closed u) h g = ([], ap (λ (x : Text). Some ([], x)) (left-same g), subst (λ (xs : List Member). Whole xs []) (value_same g) (nothing u h))
      go (onward u) h g =
          let (fs, f, s) = items_left (suc (length u)) u ms r g in
          (fs, f, all u ms fs h s)
      go neither h g = apart (cc)

-- What a reader leaves, without what it read: a recogniser is the shadow of the taker, step by step.
use mathlib.Core.Path.{◌≡◌, refl, ap, ◌∙◌}
use Rattle.std.specs.Prelude.{Option, None, Some}
use mathlib.Core.List.{List}
use Prim.Native.Nat.{ℕ, ◌-◌}
use lib.ListN.{length, take}
use Rattle.rules.specs.Bytes.{Bytes, ◌>>=◌}
use Rattle.rules.specs.Json.Text.{Text, Reader, Taker, behind, spelled, byte}
use Rattle.rules.specs.Json.Strings.{string}
use Rattle.rules.specs.Json.Values.{Behind, closed, onward, neither, opening, closing, and_then, list, Member, colon, member}
use Rattle.rules.proofs.Tests.{apart}
use Rattle.rules.proofs.Json.Suffix.{EachTakes, some_same}
use Rattle.rules.proofs.Json.Steps.{rest, list-closed, list-onward, list-neither, rest-none, rest-closed, rest-neither, rest-onward}

-- what is left behind an item
abbrev pub ahead : Behind → (others : Reader) → Option Text
ahead (closed u) others = Some u
ahead (onward u) others = others u
ahead neither others = None

-- ---- a shadow, and what casts it

module _ {A : Type 0} where
  pub behind-some : (o : Option (A × Text)) {r : Text} → behind o ≡ Some r → (x : A) × (o ≡ Some (x, r))
  behind-some None e = apart (cc)
  behind-some (Some p) e = (p.0, ap (λ (u : Text). Some (p.0, u)) (some_same e))

  pub behind-none : (o : Option (A × Text)) → behind o ≡ None → o ≡ None
  behind-none None e = refl
  behind-none (Some p) e = apart (cc)

  -- something else made of what was read
  pub behind-made : {B : Type 0} (f : A → B) (o : Option (A × Text)) → behind (o >>= (λ p. Some (f p.0, p.1))) ≡ behind o
  behind-made f None = refl
  behind-made f (Some p) = refl

  pub behind-and_then : (x : A) (o : Option (List A × Text)) → behind (and_then x o) ≡ behind o
  unfolding and_then
  behind-and_then x None = refl
  behind-and_then x (Some p) = refl

pub behind-spelled : (read : Reader) (t : Text) → behind (spelled read t) ≡ read t
unfolding spelled
behind-spelled read t = go (read t)
  where
    go : (o : Option Text) → behind (o >>= (λ r. Some (take (length t - length r) t, r))) ≡ o
    go None = refl
    go (Some r) = refl

-- ---- strings

-- ---- containers, with no bound

module _ {A : Type 0} (item : Taker A) (close : ℕ) (t : Text) where
  pub behind-list-closed : {u : Text} → opening close t ≡ closed u → behind (list item close t) ≡ Some u
  behind-list-closed e = ap behind (list-closed item close t e)

  pub behind-list-onward : {u : Text} → opening close t ≡ onward u → behind (list item close t) ≡ behind (rest item close u)
  behind-list-onward e = ap behind (list-onward item close t e)

  pub behind-list-neither : opening close t ≡ neither → behind (list item close t) ≡ None
  behind-list-neither e = ap behind (list-neither item close t e)

  pub behind-rest-none : behind (item t) ≡ None → behind (rest item close t) ≡ None
  behind-rest-none e = ap behind (rest-none item close t (behind-none (item t) e))

  module _ {r : Text} (e : behind (item t) ≡ Some r) where
    pub behind-rest-closed : {u : Text} → closing close r ≡ closed u → behind (rest item close t) ≡ Some u
    behind-rest-closed f = ap behind (rest-closed item close t (behind-some (item t) e).1 f)

    pub behind-rest-neither : closing close r ≡ neither → behind (rest item close t) ≡ None
    behind-rest-neither f = ap behind (rest-neither item close t (behind-some (item t) e).1 f)

    pub behind-rest-onward : EachTakes 1 item → {u : Text} → closing close r ≡ onward u → behind (rest item close t) ≡ behind (rest item close u)
    behind-rest-onward each {u} f =
        let (x, g) = behind-some (item t) e in
        ap behind (rest-onward item close t g each f) ∙ behind-and_then x (rest item close u)

-- ---- members

pub behind-member : (value : Reader) (t : Text) → behind (member value t) ≡ (byte 0x22 t >>= (λ n. behind (string n) >>= (λ r. colon r >>= value)))
unfolding member
behind-member value t = one (byte 0x22 t)
  where
    four : (name : Bytes) (v : Text) → behind {A = Member} (spelled value v >>= (λ p. Some ((name, p.0), p.1))) ≡ value v
    four name v = behind-made (λ (x : Text). (name, x)) (spelled value v) ∙ behind-spelled value v

    three : (name : Bytes) (o : Option Text) → behind {A = Member} (o >>= (λ v. spelled value v >>= (λ p. Some ((name, p.0), p.1)))) ≡ (o >>= value)
    three name None = refl
    three name (Some v) = four name v

    two : (o : Option (Bytes × Text))
        → behind {A = Member} (o >>= (λ s. colon s.1 >>= (λ v. spelled value v >>= (λ p. Some ((s.0, p.0), p.1)))))
        ≡ (behind o >>= (λ r. colon r >>= value))
    two None = refl
    two (Some s) = three s.0 (colon s.1)

    one : (o : Option Text)
        → behind {A = Member} (o >>= (λ n. string n >>= (λ s. colon s.1 >>= (λ v. spelled value v >>= (λ p. Some ((s.0, p.0), p.1))))))
        ≡ (o >>= (λ n. behind (string n) >>= (λ r. colon r >>= value)))
    one None = refl
    one (Some n) = two (string n)

-- Answers that may be missing, in a row: what comes out tells what went in.
use mathlib.Core.Path.{◌≡◌, refl}
use mathlib.Core.Bool.{Bool, true, false, ◌&&◌}
use Rattle.std.specs.Prelude.{Option, None, Some}
use Rattle.rules.specs.Bytes.{◌>>=◌, guard, is_some}
use Rattle.rules.proofs.Tests.{apart}

-- what is there came of something
pub bind-some : {A B : Type 0} (o : Option A) (f : A → Option B) {b : B} → (o >>= f) ≡ Some b → (a : A) × (o ≡ Some a) × (f a ≡ Some b)
bind-some None f e = apart (cc)
bind-some (Some a) f e = (a, refl, e)

pub guard-some : (t : Bool) {u : Unit {0}} → guard t ≡ Some u → t ≡ true
guard-some true e = refl
guard-some false e = apart (cc)

module _ {A B : Type 0} (o : Option A) (f : A → Option B) where
  -- where what follows is there or not whatever it is handed
  pub is_some-bind : (c : Bool) → ((a : A) → is_some (f a) ≡ c) → is_some (o >>= f) ≡ (is_some o && c)
  unfolding is_some
  is_some-bind = go o
    where
      go : (x : Option A) → (c : Bool) → ((a : A) → is_some (f a) ≡ c) → is_some (x >>= f) ≡ (is_some x && c)
      go None c h = refl
      go (Some a) c h = h a

module _ {B : Type 0} (t : Bool) (f : Unit {0} → Option B) where
  pub guard-bind : {b : B} → (guard t >>= f) ≡ Some b → (t ≡ true) × (f tt ≡ Some b)
  guard-bind h = let r = bind-some (guard t) f h in (guard-some t r.1, r.2)

  pub is_some-guard : is_some (guard t >>= f) ≡ (t && is_some (f tt))
  unfolding is_some
  is_some-guard = go t
    where
      go : (x : Bool) → is_some (guard x >>= f) ≡ (x && is_some (f tt))
      go true = refl
      go false = refl

pub is_some-true : {A : Type 0} (o : Option A) → is_some o ≡ true → (a : A) × (o ≡ Some a)
unfolding is_some
is_some-true None e = apart (cc)
is_some-true (Some a) e = (a, refl)

pub is_some-false : {A : Type 0} (o : Option A) → is_some o ≡ false → o ≡ None
unfolding is_some
is_some-false None e = refl
is_some-false (Some a) e = apart (cc)

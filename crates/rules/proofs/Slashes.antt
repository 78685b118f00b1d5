-- The slashes of a path: what is before the last one, and that a path which stands as it is holds one.
use mathlib.Core.Path.{◌≡◌, refl, sym, ap, ◌∙◌}
use mathlib.Core.Bool.{Bool, true, false, ◌&&◌}
use mathlib.Core.List.{[], ◌∷◌, ◌++◌}
use Prim.Native.Nat.{ℕ}
use borrow.Author.Tests.{eqb-true}
use lib.Dec.{eqb}
use Rattle.rules.specs.Bytes.{Bytes, ascii, begins}
use Rattle.rules.specs.Manifests.{slash, has_slash, before_last_slash, stands_as_is, directory}
use Rattle.rules.proofs.Tests.{apart, by, false_of, true-not-false, or_left, or_right, or-fails, and_both, and-fails-left, and-fails-right}

-- ---- a byte in front

has_slash-here : (b : ℕ) (bs : Bytes) → eqb b slash ≡ true → has_slash (b ∷ bs) ≡ true
unfolding has_slash
has_slash-here b bs e = rw (has_slash, e)

pub has_slash-miss : (b : ℕ) (bs : Bytes) → eqb b slash ≡ false → has_slash (b ∷ bs) ≡ has_slash bs
unfolding has_slash
has_slash-miss b bs e = rw (has_slash, e)

has_slash-behind : (b : ℕ) (bs : Bytes) → has_slash bs ≡ true → has_slash (b ∷ bs) ≡ true
has_slash-behind b bs h = by (eqb b slash) (λ e. has_slash-here b bs e) (λ e. has_slash-miss b bs e ∙ h)

-- a beginning that holds one
pub has_slash-begins : (xs ys : Bytes) → begins xs ys ≡ true → has_slash xs ≡ true → has_slash ys ≡ true
unfolding begins has_slash
has_slash-begins [] ys b h = apart (cc)
has_slash-begins (x ∷ xs) [] b h = apart (cc)
has_slash-begins (x ∷ xs) (y ∷ ys) b h = go (has_slash-begins xs ys) (eqb x y) refl (eqb x slash) refl
  where
    go : (begins xs ys ≡ true → has_slash xs ≡ true → has_slash ys ≡ true) → (same : Bool) → eqb x y ≡ same → (here : Bool) → eqb x slash ≡ here
        → has_slash (y ∷ ys) ≡ true
    go ih false e here f =
        let z : begins (x ∷ xs) (y ∷ ys) ≡ false = rw (begins, e) in
        apart (cc (b, z))
    go ih true e true f = has_slash-here y ys (sym (ap (λ (n : ℕ). eqb n slash) (eqb-true x y e)) ∙ f)
    go ih true e false f =
        let z : begins (x ∷ xs) (y ∷ ys) ≡ begins xs ys = rw (begins, e) in
        has_slash-behind y ys (ih (sym z ∙ b) (sym (has_slash-miss x xs f) ∙ h))

-- ---- what is before the last one

pub has_slash-at : (xs ys : Bytes) → has_slash (xs ++ (slash ∷ ys)) ≡ true
unfolding slash
has_slash-at [] ys = has_slash-here 0x2F ys refl
has_slash-at (x ∷ xs) ys = has_slash-behind x (xs ++ (slash ∷ ys)) (has_slash-at xs ys)

pub before_last_slash-at : (xs ys : Bytes) → has_slash ys ≡ false → before_last_slash (xs ++ (slash ∷ ys)) ≡ xs
unfolding before_last_slash
before_last_slash-at [] ys h = rw (before_last_slash, h)
before_last_slash-at (x ∷ xs) ys h = rw (before_last_slash, has_slash-at xs ys) (ap (λ (l : Bytes). x ∷ l) (before_last_slash-at xs ys h))

-- ---- the directory

module _ (p d : Bytes) where
  directory-own : stands_as_is p ≡ true → directory p d ≡ before_last_slash p
  unfolding directory
  directory-own e = rw (directory, e)

  directory-lent : stands_as_is p ≡ false → directory p d ≡ d
  unfolding directory
  directory-lent e = rw (directory, e)

  pub directory-slashless : has_slash p ≡ false → directory p d ≡ d
  unfolding stands_as_is ascii has_slash slash
  directory-slashless h = directory-lent (or-fails (false_of (begins (ascii "manifests/") p) not-manifests) (and-fails-right (begins (ascii "state-v") p) h))
    where
      not-manifests : begins (ascii "manifests/") p ≡ true → ⊥
      not-manifests b = true-not-false (has_slash-begins (ascii "manifests/") p b refl) h

  pub directory-manifests : begins (ascii "manifests/") p ≡ true → directory p d ≡ before_last_slash p
  unfolding stands_as_is
  directory-manifests b = directory-own (or_left (begins (ascii "state-v") p && has_slash p) b)

  pub directory-state : begins (ascii "state-v") p ≡ true → has_slash p ≡ true → directory p d ≡ before_last_slash p
  unfolding stands_as_is
  directory-state b h = directory-own (or_right (begins (ascii "manifests/") p) (and_both b h))

  pub directory-other : begins (ascii "manifests/") p ≡ false → begins (ascii "state-v") p ≡ false → directory p d ≡ d
  unfolding stands_as_is
  directory-other b e = directory-lent (or-fails b (and-fails-left (has_slash p) e))

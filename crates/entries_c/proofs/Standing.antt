-- The directory of a path over an empty state directory is what the path shows of itself; it is never empty, since the path begins with a letter.
use mathlib.Core.Path.{◌≡◌, refl, sym, ap, subst, ◌∙◌}
use mathlib.Core.Bool.{Bool, true, false, ◌&&◌}
use mathlib.Core.List.{[], ◌∷◌}
use Prim.Native.Nat.{ℕ, ◌<◌, ◌≤◌}
use native.Mathlib.Omega.{arith}
use borrow.Author.Tests.{eqb-true}
use lib.Dec.{eqb}
use lib.Seq.{take-length}
use lib.ListN.{length, take}
use Rattle.rules.specs.Bytes.{Bytes, ascii, begins}
use Rattle.rules.specs.Manifests.{slash, has_slash, before_last_slash, stands_as_is, directory}
use Rattle.rules.proofs.Tests.{apart, by, and_left, and_right}
use Rattle.rules.proofs.Slashes.{directory-slashless, directory-manifests}
use Rattle.entries_c.specs.States.{part_by, DirectoryIs}

-- ---- what stands before the last slash

before-is-front : (p : Bytes) → take (length (before_last_slash p)) p ≡ before_last_slash p
unfolding before_last_slash
before-is-front [] = refl
before-is-front (b ∷ bs) = go (before-is-front bs) (has_slash bs) refl
  where
    go : take (length (before_last_slash bs)) bs ≡ before_last_slash bs → (held : Bool) → has_slash bs ≡ held
        → take (length (before_last_slash (b ∷ bs))) (b ∷ bs) ≡ before_last_slash (b ∷ bs)
    go ih true h = rw (before_last_slash, h) (ap (λ (l : Bytes). b ∷ l) ih)
    go ih false h = rw (before_last_slash, h)

-- a path that begins with another byte than a slash, and holds one
before-some : (x : ℕ) (xs p : Bytes) → eqb x slash ≡ false → begins (x ∷ xs) p ≡ true → has_slash p ≡ true → 0 < length (before_last_slash p)
unfolding begins has_slash before_last_slash
before-some x xs [] n b h = apart (cc)
before-some x xs (y ∷ ys) n b h = go (eqb x y) refl
  where
    behind : eqb y slash ≡ false → 0 < length (before_last_slash (y ∷ ys))
    behind m =
        let held : has_slash ys ≡ true = sym (rw (has_slash, m)) ∙ h in
        rw (before_last_slash, held) (omega arith)

    go : (same : Bool) → eqb x y ≡ same → 0 < length (before_last_slash (y ∷ ys))
    go true e = behind (sym (ap (λ (z : ℕ). eqb z slash) (eqb-true x y e)) ∙ n)
    go false e =
        let z : begins (x ∷ xs) (y ∷ ys) ≡ false = rw (begins, e) in
        apart (cc (b, z))

manifests-slash : (p : Bytes) → begins (ascii "manifests/") p ≡ true → has_slash p ≡ true
manifests-slash p b = by (has_slash p) (λ h. h) none-held
  where
    -- it would be any state directory
    none-held : has_slash p ≡ false → has_slash p ≡ true
    none-held h =
        let one = sym (directory-slashless p (1 ∷ []) h) ∙ directory-manifests p (1 ∷ []) b in
        let two = sym (directory-slashless p [] h) ∙ directory-manifests p [] b in
        apart (cc (one, two))

stands-some : (p : Bytes) → stands_as_is p ≡ true → 0 < length (before_last_slash p)
unfolding stands_as_is ascii slash
stands-some p e = go (begins (ascii "manifests/") p) refl
  where
    go : (manifests : Bool) → begins (ascii "manifests/") p ≡ manifests → 0 < length (before_last_slash p)
    go true b = before-some _ _ p refl b (manifests-slash p b)
    go false b =
        let s : (begins (ascii "state-v") p && has_slash p) ≡ true = sym (rw (b)) ∙ e in
        before-some _ _ p refl (and_left (begins (ascii "state-v") p) (has_slash p) s) (and_right (begins (ascii "state-v") p) (has_slash p) s)

-- ---- the directory in numbers

module _ (p d : Bytes) where
  part-is : (stands : Bool) → stands_as_is p ≡ stands → DirectoryIs p d (part_by stands p d)
  unfolding directory
  part-is true e = record { answer = rw e; shows = rw (directory, e) (before-is-front p) }
  part-is false e = record { answer = rw e; shows = rw (directory, e) (take-length d) }

  module _ {own : Bytes} (shown : own ≡ directory p []) where
    pub shown-own : 0 < length own → DirectoryIs p d (record { of_path = true; length = length own })
    unfolding directory
    shown-own h = go (stands_as_is p) refl
      where
        go : (stands : Bool) → stands_as_is p ≡ stands → DirectoryIs p d (record { of_path = true; length = length own })
        go true e =
            let z : own ≡ before_last_slash p = shown ∙ rw (directory, e) in
            subst (λ (x : Bytes). DirectoryIs p d (record { of_path = true; length = length x })) (sym z) (part-is true e)
        go false e =
            let z : own ≡ [] = shown ∙ rw (directory, e) in
            absurd (omega (arith, h, ap length z))

    pub shown-lent : length own ≤ 0 → DirectoryIs p d (record { of_path = false; length = length d })
    unfolding directory
    shown-lent h = go (stands_as_is p) refl
      where
        go : (stands : Bool) → stands_as_is p ≡ stands → DirectoryIs p d (record { of_path = false; length = length d })
        go false e = part-is false e
        go true e =
            let z : own ≡ before_last_slash p = shown ∙ rw (directory, e) in
            absurd (omega (arith, h, ap length z, stands-some p e))

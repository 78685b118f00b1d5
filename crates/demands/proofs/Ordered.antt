-- What is left of a bundle's files, in any order thought of, stands in the bundle's order: the names ascend in both.
use mathlib.Core.Path.{◌≡◌, sym, subst}
use mathlib.Core.Logic.{◌⊎◌, inl, inr}
use mathlib.Core.List.{List, [], ◌∷◌}
use Rattle.facts.specs.Lists.{All}
use Rattle.facts.proofs.Lists.{All-weaken}
use Rattle.rules.specs.Bytes.{Bytes, less, order}
use Rattle.rules.specs.Bundle.{File}
use Rattle.rules.proofs.Order.{order_trans, order-less-ne}
use Rattle.rules.specs.Keyed.{Ascends}
use Rattle.rules.proofs.Bundles.{padded_name, padded_name-same, bundle-sound}
use Rattle.demands.specs.Removed.{SameFile, Without, end, keep, remove, Among, LeftOf, RemovalKeepsOrder}

-- ---- lists

pub all_both : {A : Type 0} (P Q : A → Type 0) (xs : List A) → All P xs → All Q xs → All (λ (x : A). P x × Q x) xs
unfolding All
all_both P Q [] p q = tt
all_both P Q (x ∷ xs) p q = ((p.0, q.0), all_both P Q xs p.1 q.1)

-- one that is so, where all are so as well
among-all : (P Q : File → Type 0) (xs : List File) → Among P xs → All Q xs → (x : File) × P x × Q x
unfolding All
among-all P Q [] a q = absurd a
among-all P Q (x ∷ xs) (inl p) q = (x, p, q.0)
among-all P Q (x ∷ xs) (inr a) q = among-all P Q xs a q.1

-- ---- names

-- the name of the one stands before that of the other
abbrev Below : File → File → Type 0
Below f g = order (padded_name f) (padded_name g) ≡ less

below-not-same : (f g : File) → Below f g → SameFile f g → ⊥
below-not-same f g l p = order-less-ne (padded_name f) (padded_name g) l (padded_name-same f g p.name)

below-same : (f g h : File) → Below f g → SameFile g h → Below f h
below-same f g h l p = subst (λ (x : Bytes). order (padded_name f) x ≡ less) (padded_name-same g h p.name) l

same-below : (f g h : File) → SameFile f g → Below f h → Below g h
same-below f g h p l = subst (λ (x : Bytes). order x (padded_name h) ≡ less) (padded_name-same f g p.name) l

flip-same : (f g : File) → SameFile f g → SameFile g f
flip-same f g p = record { name = sym p.name; time = sym p.time; body = sym p.body }

-- ---- what is left

module _ (MayGo : File → Type 0) where
  -- those left all stand behind f, so f is not among them, and they are files of the rest
  passed : (f : File) (fs gs : List File) → All (Below f) gs → All (λ (g : File). Among (λ (x : File). SameFile x g) (f ∷ fs)) gs
      → All (λ (g : File). Among (λ (x : File). SameFile x g) fs) gs
  passed f fs gs l h =
      All-weaken
      (λ (g : File). Below f g × Among (λ (x : File). SameFile x g) (f ∷ fs))
      (λ (g : File). Among (λ (x : File). SameFile x g) fs)
      gs
      (λ g p. go g p.0 p.1)
      (all_both (Below f) (λ (g : File). Among (λ (x : File). SameFile x g) (f ∷ fs)) gs l h)
    where
      go : (g : File) → Below f g → Among (λ (x : File). SameFile x g) (f ∷ fs) → Among (λ (x : File). SameFile x g) fs
      go g l (inl p) = absurd (below-not-same f g l p)
      go g l (inr a) = a

  -- f is not left, so it may go
  must-go : (f : File) (gs : List File) → All (Below f) gs → Among (λ (g : File). SameFile f g) gs ⊎ MayGo f → MayGo f
  must-go f gs l (inl a) = let r = among-all (λ (g : File). SameFile f g) (Below f) gs a l in absurd (below-not-same f r.0 r.2 r.1)
  must-go f gs l (inr m) = m

  left-without : (fs gs : List File) → Ascends padded_name fs → Ascends padded_name gs → LeftOf MayGo fs gs → Without MayGo fs gs
  unfolding All
  left-without [] [] a b h = end
  left-without [] (g ∷ gs) a b h = absurd h.from.0
  left-without (f ∷ fs) [] a b h = remove (must-go f [] tt h.left.0) (left-without fs [] a.1 tt (record { from = tt; left = h.left.1 }))
  left-without (f ∷ fs) (g ∷ gs) a b h = go h.from.0 (left-without fs gs a.1 b.1) (left-without fs (g ∷ gs) a.1 b)
    where
      -- g is f: behind it, both go on
      kept : SameFile f g → LeftOf MayGo fs gs
      kept p = record {
        from = passed f fs gs (All-weaken (Below g) (Below f) gs (λ x l. same-below g f x (flip-same f g p) l) b.0) h.from.1;
        left =
            All-weaken
            (λ (x : File). Below f x × (Among (λ (y : File). SameFile x y) (g ∷ gs) ⊎ MayGo x))
            (λ (x : File). Among (λ (y : File). SameFile x y) gs ⊎ MayGo x)
            fs
            (λ x q. still x q.0 q.1)
            (all_both (Below f) (λ (x : File). Among (λ (y : File). SameFile x y) (g ∷ gs) ⊎ MayGo x) fs a.0 h.left.1);
      }
        where
          still : (x : File) → Below f x → Among (λ (y : File). SameFile x y) (g ∷ gs) ⊎ MayGo x → Among (λ (y : File). SameFile x y) gs ⊎ MayGo x
          still x l (inl (inl q)) = absurd (below-not-same g x (same-below f g x p l) (flip-same x g q))
          still x l (inl (inr c)) = inl c
          still x l (inr m) = inr m

      -- g is a file behind f: so are all that are left
      behind : Among (λ (x : File). SameFile x g) fs → All (Below f) (g ∷ gs)
      behind c =
          let r = among-all (λ (x : File). SameFile x g) (Below f) fs c a.0 in
          let l : Below f g = below-same f r.0 g r.2 r.1 in
          (l, All-weaken (Below g) (Below f) gs (λ x m. order_trans (padded_name f) (padded_name g) (padded_name x) l m) b.0)

      go : SameFile f g ⊎ Among (λ (x : File). SameFile x g) fs → (LeftOf MayGo fs gs → Without MayGo fs gs)
          → (LeftOf MayGo fs (g ∷ gs) → Without MayGo fs (g ∷ gs)) → Without MayGo (f ∷ fs) (g ∷ gs)
      go (inl p) on past = keep p (on (kept p))
      go (inr c) on past =
          remove (must-go f (g ∷ gs) (behind c) h.left.0) (past (record { from = passed f fs (g ∷ gs) (behind c) h.from; left = h.left.1 }))

pub removal-keeps-order : RemovalKeepsOrder
removal-keeps-order MayGo s t fs gs es et h = left-without MayGo fs gs (bundle-sound s fs es).ascends (bundle-sound t gs et).ascends h

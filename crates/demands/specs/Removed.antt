-- Files removed from a log: those left have the same name, time and body. Their entry numbers and places are free.
use Rattle.std.specs.Prelude.{◌≡◌, ◌⊎◌, false, List, [], ◌∷◌, ℕ, ◌<◌}
use Rattle.std.specs.Prelude.{Some}
use Rattle.facts.specs.Lists.{All}
use Rattle.rules.specs.Bytes.{Bytes}
use Rattle.rules.specs.Bundle.{File, bundle}
use Rattle.rules.specs.Names.{name_of, version_in, is}

pub record SameFile (f g : File) : Type 0 where
  pub name : f.name ≡ g.name
  pub time : f.time ≡ g.time
  pub body : f.body ≡ g.body

-- `gs` are the files of `fs` without some of those that may go; a bundle's files are in the order of their names, so those left are too
pub data Without (MayGo : File → Type 0) : (fs gs : List File) → Type 0 where
  end : Without MayGo [] []
  keep : {f g : File} {fs gs : List File} → SameFile f g → Without MayGo fs gs → Without MayGo (f ∷ fs) (g ∷ gs)
  remove : {f : File} {fs gs : List File} → MayGo f → Without MayGo fs gs → Without MayGo (f ∷ fs) gs

-- ---- the same without a word of order

abbrev pub Among : (File → Type 0) → List File → Type 0
Among P [] = ⊥
Among P (f ∷ fs) = P f ⊎ Among P fs

-- each file left is a file of the log, and each file of the log is left or may go
pub record LeftOf (MayGo : File → Type 0) (fs gs : List File) : Type 0 where
  pub from : All (λ (g : File). Among (λ (f : File). SameFile f g) fs) gs
  pub left : All (λ (f : File). Among (λ (g : File). SameFile f g) gs ⊎ MayGo f) fs

-- names ascend in both bundles, so that it is the same
abbrev pub RemovalKeepsOrder : Type 1
RemovalKeepsOrder =
    (MayGo : File → Type 0) (s t : Bytes) (fs gs : List File) → bundle s ≡ Some fs → bundle t ≡ Some gs → LeftOf MayGo fs gs → Without MayGo fs gs

-- ---- any choice of files that is left has a bundle

abbrev pub AreBytes : Bytes → Type 0
AreBytes s = All (λ (b : ℕ). b < 256) s

-- its files are those that are left, but for their entry numbers and places: none of them may go
abbrev pub RemovalKeepsABundle : Type 1
RemovalKeepsABundle = (MayGo : File → Type 0) (s : Bytes) (fs gs : List File) → AreBytes s → bundle s ≡ Some fs → Without MayGo fs gs
    → (t : Bytes) × (hs : List File) × AreBytes t × (bundle t ≡ Some hs) × Without (λ f. ⊥) gs hs

-- ---- which may go

-- any file except version 0
abbrev pub NotVersionZero : File → Type 0
NotVersionZero f = is 0 (version_in (name_of f.name)) ≡ false

-- a file whose entry number stands in a list
abbrev pub In : ℕ → List ℕ → Type 0
In n [] = ⊥
In n (e ∷ es) = (n ≡ e) ⊎ In n es

abbrev pub Named : List ℕ → File → Type 0
Named es f = In f.entry es

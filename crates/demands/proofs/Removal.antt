-- What is found in a log after files were removed: the same file, or nothing.
use mathlib.Core.Path.{◌≡◌, refl, sym, ◌∙◌, ap, subst}
use mathlib.Core.Bool.{Bool, true, false}
use Rattle.std.specs.Prelude.{Option, None, Some}
use mathlib.Core.List.{List, ◌∷◌}
use Prim.Native.Nat.{ℕ}
use Rattle.rules.specs.Bundle.{File}
use Rattle.rules.specs.Names.{Name, name_of, is_too_large, any_too_large}
use Rattle.rules.specs.Starts.{find, is_start, if_start, Log, start_at}
use Rattle.rules.proofs.Tests.{apart}
use Rattle.rules.proofs.Bundles.{Lone}
use Rattle.demands.specs.Removed.{SameFile, Without, end, keep, remove}

-- both missing, or both there and the same
pub data SameFound : Option File → Option File → Type 0 where
  neither : SameFound None None
  both : {f g : File} → SameFile f g → SameFound (Some f) (Some g)

-- gone, or there and the same
pub data Left : Option File → Option File → Type 0 where
  gone : {o : Option File} → Left o None
  kept : {f g : File} → SameFile f g → Left (Some f) (Some g)

pub found-there : {o o' : Option File} (f : File) → SameFound o o' → o ≡ Some f → (g : File) × (o' ≡ Some g) × SameFile f g
found-there f neither e = apart (cc)
found-there f (both {f = a} {g = b} p) e = let q : a ≡ f = cc in (b, refl, subst (λ (z : File). SameFile z b) q p)

pub left_there : {o o' : Option File} (g : File) → Left o o' → o' ≡ Some g → (f : File) × (o ≡ Some f) × SameFile f g
left_there g gone e = apart (cc)
left_there g (kept {f = a} {g = b} p) e = let q : b ≡ g = cc in (a, refl, subst (λ (z : File). SameFile a z) q p)

left-none : {o o' : Option File} → Left o o' → o ≡ None → o' ≡ None
left-none gone e = refl
left-none (kept p) e = apart (cc)

-- ---- found by name

unfoldable found_if : Bool → File → Option File → Option File
found_if true f o = Some f
found_if false f o = o

find-is : (test : Name → Bool) (f : File) (fs : List File) → find test (f ∷ fs) ≡ found_if (test (name_of f.name)) f (find test fs)
unfolding find found_if
find-is test f fs = go (test (name_of f.name))
  where
    go : (b : Bool) → ◌≡◌ {A = Option File} (elim b [ true ↦ Some f | false ↦ find test fs ]) (found_if b f (find test fs))
    go true = refl
    go false = refl

found_if-same : (b : Bool) (f g : File) {o o' : Option File} → SameFile f g → SameFound o o' → SameFound (found_if b f o) (found_if b g o')
unfolding found_if
found_if-same true f g p h = both p
found_if-same false f g p h = h

found_if-left : (b : Bool) (f g : File) {o o' : Option File} → SameFile f g → Left o o' → Left (found_if b f o) (found_if b g o')
unfolding found_if
found_if-left true f g p h = kept p
found_if-left false f g p h = h

module _ (MayGo : File → Type 0) (test : Name → Bool) where
  -- a test that none of those that may go passes finds the same
  pub find-same : ((f : File) → MayGo f → test (name_of f.name) ≡ false) → {fs gs : List File} → Without MayGo fs gs → SameFound (find test fs) (find test gs)
  unfolding find found_if
  find-same h end = neither
  find-same h (keep {f = f} {g = g} {fs = fs} {gs = gs} p w) =
      rw (find-is test f fs, find-is test g gs)
      (subst (λ (b : Bool). SameFound (found_if (test (name_of f.name)) f (find test fs)) (found_if b g (find test gs))) (ap (λ n. test (name_of n)) p.name)
      (found_if-same (test (name_of f.name)) f g p (find-same h w)))
  find-same h (remove {f = f} {fs = fs} m w) = rw (find-is test f fs, h f m) (find-same h w)

  -- a test that at most one passes finds the same, or nothing
  pub find-left : {fs gs : List File} → Lone test fs → Without MayGo fs gs → Left (find test fs) (find test gs)
  unfolding find found_if
  find-left l end = gone
  find-left l (keep {f = f} {g = g} {fs = fs} {gs = gs} p w) =
      rw (find-is test f fs, find-is test g gs)
      (subst (λ (b : Bool). Left (found_if (test (name_of f.name)) f (find test fs)) (found_if b g (find test gs))) (ap (λ n. test (name_of n)) p.name)
      (found_if-left (test (name_of f.name)) f g p (find-left l.1 w)))
  find-left l (remove {f = f} {fs = fs} {gs = gs} m w) = rw (find-is test f fs) (go (test (name_of f.name)) l.0 (find-left l.1 w))
    where
      go : (b : Bool) → (b ≡ true → find test fs ≡ None) → Left (find test fs) (find test gs) → Left (found_if b f (find test fs)) (find test gs)
      go true h r = subst (λ (o : Option File). Left (Some f) o) (sym (left-none r (h refl))) gone
      go false h r = r

-- ---- names too large

large_if : Bool → Bool → Bool
large_if true b = true
large_if false b = b

any_too_large-is : (f : File) (fs : List File) → any_too_large (f ∷ fs) ≡ large_if (is_too_large (name_of f.name)) (any_too_large fs)
unfolding any_too_large large_if
any_too_large-is f fs = go (is_too_large (name_of f.name))
  where
    go : (b : Bool) → elim b [ true ↦ true | false ↦ any_too_large fs ] ≡ large_if b (any_too_large fs)
    go true = refl
    go false = refl

module _ (MayGo : File → Type 0) where
  pub large-same : ((f : File) → MayGo f → is_too_large (name_of f.name) ≡ false) → {fs gs : List File} → Without MayGo fs gs
      → any_too_large fs ≡ any_too_large gs
  unfolding large_if
  large-same h end = refl
  large-same h (keep {f = f} {g = g} {fs = fs} {gs = gs} p w) =
      any_too_large-is f fs ∙ ap (λ n. large_if (is_too_large (name_of n)) (any_too_large fs)) p.name
      ∙ ap (large_if (is_too_large (name_of g.name))) (large-same h w) ∙ sym (any_too_large-is g gs)
  large-same h (remove {f = f} {fs = fs} m w) = any_too_large-is f fs ∙ ap (λ b. large_if b (any_too_large fs)) (h f m) ∙ large-same h w

  pub large-none : {fs gs : List File} → Without MayGo fs gs → any_too_large fs ≡ false → any_too_large gs ≡ false
  unfolding large_if
  large-none end e = e
  large-none (keep {f = f} {g = g} {fs = fs} {gs = gs} p w) e =
      any_too_large-is g gs ∙ ap (λ n. large_if (is_too_large (name_of n)) (any_too_large gs)) (sym p.name)
      ∙ go (is_too_large (name_of f.name)) (any_too_large fs) (any_too_large gs) (sym (any_too_large-is f fs) ∙ e) (large-none w)
    where
      go : (a b c : Bool) → large_if a b ≡ false → (b ≡ false → c ≡ false) → large_if a c ≡ false
      go true b c e h = e
      go false b c e h = h e
  large-none (remove {f = f} {fs = fs} m w) e = large-none w (go (is_too_large (name_of f.name)) (any_too_large fs) (sym (any_too_large-is f fs) ∙ e))
    where
      go : (a b : Bool) → large_if a b ≡ false → b ≡ false
      go true b e = apart (cc)
      go false b e = e

-- ---- starts

if_start-by : (b : Bool) → File → Option File
if_start-by true f = Some f
if_start-by false f = None

if_start-is : (f : File) → if_start (Some f) ≡ if_start-by (is_start f.body) f
unfolding if_start if_start-by
if_start-is f = go (is_start f.body)
  where
    go : (b : Bool) → ◌≡◌ {A = Option File} (elim b [ true ↦ Some f | false ↦ None ]) (if_start-by b f)
    go true = refl
    go false = refl

if_start-by-same : (b : Bool) (f g : File) → SameFile f g → SameFound (if_start-by b f) (if_start-by b g)
unfolding if_start-by
if_start-by-same true f g p = both p
if_start-by-same false f g p = neither

if_start-same : {o o' : Option File} → SameFound o o' → SameFound (if_start o) (if_start o')
unfolding if_start
if_start-same neither = neither
if_start-same (both {f = f} {g = g} p) =
    rw (if_start-is f, if_start-is g)
    (subst (λ (b : Bool). SameFound (if_start-by (is_start f.body) f) (if_start-by b g)) (ap is_start p.body) (if_start-by-same (is_start f.body) f g p))

pub start-same : (log log' : Log) (s : ℕ) → SameFound (log.checkpoint_file s) (log'.checkpoint_file s) → SameFound (start_at log s) (start_at log' s)
unfolding start_at
start-same log log' s h = if_start-same h

found_left : {o o' : Option File} → SameFound o o' → Left o o'
found_left neither = gone
found_left (both p) = kept p

if_start-left : {o o' : Option File} → Left o o' → Left (if_start o) (if_start o')
unfolding if_start
if_start-left gone = gone
if_start-left (kept p) = found_left (if_start-same (both p))

pub start_left : (log log' : Log) (s : ℕ) → Left (log.checkpoint_file s) (log'.checkpoint_file s) → Left (start_at log s) (start_at log' s)
unfolding start_at
start_left log log' s h = if_start-left h

if_start-found : (o : Option File) (f : File) → if_start o ≡ Some f → o ≡ Some f
unfolding if_start if_start-by
if_start-found None f e = e
if_start-found (Some g) f e = go (is_start g.body) (sym (if_start-is g) ∙ e)
  where
    go : (b : Bool) → if_start-by b g ≡ Some f → Some g ≡ Some f
    go true e = e
    go false e = apart (cc)

-- what is a start is there
pub start-found : (log : Log) (s : ℕ) (f : File) → start_at log s ≡ Some f → log.checkpoint_file s ≡ Some f
unfolding start_at
start-found log s f e = if_start-found (log.checkpoint_file s) f e

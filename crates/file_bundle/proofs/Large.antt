-- Versions that are too large, file by file.
use mathlib.Core.Path.{◌≡◌, refl}
use mathlib.Core.List.{List}
use Rattle.std.specs.List.{list_any, range_with_len}
use Prim.Native.Nat.{ℕ, zero, suc, ◌+◌, ◌≤◌, ◌<◌}
use native.Mathlib.Omega.{arith}
use lib.ListN.{length, drop, get_or, drop_of_length-le}
use mathlib.Core.Bool.{Bool, true, false, ◌||◌}
use Rattle.facts.proofs.Lists.{drop_here}
use Rattle.rules.specs.Names.{Name as RuleName, version, checkpoint, marker, other, too_large, name_of, is_too_large, any_too_large}
use Rattle.file_names.specs.Names.{name_is}
use Rattle.file_names.specs.declared.Name.TheVariants.{TooLarge}
use Rattle.rules.specs.Bundle.{File}
use Rattle.file_bundle.specs.Files.{no_file}

pub large-told : (x : RuleName) → name_is x ≡ TooLarge → true ≡ is_too_large x
unfolding name_is is_too_large
large-told (version n) e = cc
large-told (checkpoint n) e = cc
large-told marker e = cc
large-told other e = cc
large-told too_large e = refl

pub large-untold : (x : RuleName) → (name_is x ≡ TooLarge → ⊥) → false ≡ is_too_large x
unfolding name_is is_too_large
large-untold (version n) h = refl
large-untold (checkpoint n) h = refl
large-untold marker h = refl
large-untold other h = refl
large-untold too_large h = absurd (h refl)

module _ (fs : List File) where
  -- whether the version in the name of file k is too large
  abbrev pub large_at : ℕ → Bool
  large_at k = is_too_large (name_of (get_or fs k no_file).name)

  -- of the n from number k on, as of all that are left
  pub large-within : (n k : ℕ) → k + n ≡ length fs → list_any large_at (range_with_len k n) ≡ any_too_large (drop k fs)
  unfolding any_too_large
  large-within zero k h = let l : length fs ≤ k = omega arith in rw (drop_of_length-le fs l)
  large-within (suc n) k h =
      let l : k < length fs = omega arith in
      rw (drop_here fs k no_file l, any_too_large) (go (large_at k) (large-within n (k + 1) (omega arith)))
    where
      go : (b : Bool) → list_any large_at (range_with_len (k + 1) n) ≡ any_too_large (drop (k + 1) fs)
          → b || list_any large_at (range_with_len (k + 1) n) ≡ elim b [ true ↦ true | false ↦ any_too_large (drop (k + 1) fs) ]
      go true e = refl
      go false e = e

-- A name by its ending: what is read of the digits, told by the ending behind them.
use mathlib.Core.Path.{◌≡◌, refl, ◌∙◌}
use mathlib.Core.Bool.{Bool, true, false}
use Rattle.std.specs.Prelude.{Option, None, Some, Result, Ok, Err}
use mathlib.Core.List.{[]}
use Prim.Native.Nat.{ℕ, ◌≤◌, ◌<◌}
use native.Mathlib.Omega.{arith}
use lib.Dec.{leb}
use lib.ListN.{length, take, drop, drop_of_length-le}
use Rattle.rules.specs.Bytes.{Bytes, ascii, same}
use Rattle.rules.specs.Numbers.{decimal, most}
use Rattle.rules.specs.Names.{name_of, with_ending, numbered}
use Rattle.rules.proofs.Order.{same_true}
use Rattle.file_names.specs.Names.{name_is, digits_is, number_is}
use Rattle.file_names.specs.declared.Version.{Version}
use Rattle.file_names.specs.declared.Name.{Name}
use Rattle.file_names.specs.declared.Name.TheVariants.{VersionFile, Checkpoint, Marker, Other}

-- the name of a version, where `make` makes it of one
abbrev pub named : (Version → Name) → Result Version Name → Name
named make (Ok v) = make v
named make (Err name) = name

version-ending : (o : Option ℕ) → named VersionFile (digits_is o) ≡ name_is (with_ending o (ascii ".json"))
unfolding name_is digits_is number_is with_ending numbered same ascii
version-ending None = refl
version-ending (Some n) = go (leb n most)
  where
    go : (small : Bool) → named VersionFile (number_is small n) ≡ name_is (numbered true false small n)
    go true = refl
    go false = refl

checkpoint-ending : (o : Option ℕ) → named Checkpoint (digits_is o) ≡ name_is (with_ending o (ascii ".checkpoint.json"))
unfolding name_is digits_is number_is with_ending numbered same ascii
checkpoint-ending None = refl
checkpoint-ending (Some n) = go (leb n most)
  where
    go : (small : Bool) → named Checkpoint (number_is small n) ≡ name_is (numbered false true small n)
    go true = refl
    go false = refl

other-ending : (o : Option ℕ) (e : Bytes) → same e (ascii ".json") ≡ false → same e (ascii ".checkpoint.json") ≡ false
    → Other ≡ name_is (with_ending o e)
unfolding name_is with_ending numbered
other-ending None e p q = refl
other-ending (Some n) e p q = rw (p, q)

-- ---- the whole name

module _ (s : Bytes) where
  pub name-marker : same s (ascii "_last_checkpoint") ≡ true → Marker ≡ name_is (name_of s)
  unfolding name_is name_of
  name-marker e = rw (name_of, e)

  name-digits : same s (ascii "_last_checkpoint") ≡ false → name_of s ≡ with_ending (decimal (take 20 s)) (drop 20 s)
  unfolding name_of
  name-digits e = rw (name_of, e)

  -- what is shorter than the digits has no ending
  pub name-short : same s (ascii "_last_checkpoint") ≡ false → length s < 20 → Other ≡ name_is (name_of s)
  unfolding same ascii
  name-short e h =
      let l : length s ≤ 20 = omega arith in
      rw (name-digits e, drop_of_length-le s l) (other-ending (decimal (take 20 s)) [] refl refl)

  name-ended : (e : Bytes) → same s (ascii "_last_checkpoint") ≡ false → same (drop 20 s) e ≡ true
      → name_is (with_ending (decimal (take 20 s)) e) ≡ name_is (name_of s)
  name-ended e p q = rw (name-digits p, same_true (drop 20 s) e q)

  pub name-version : same s (ascii "_last_checkpoint") ≡ false → same (drop 20 s) (ascii ".json") ≡ true
      → named VersionFile (digits_is (decimal (take 20 s))) ≡ name_is (name_of s)
  name-version p q = version-ending (decimal (take 20 s)) ∙ name-ended (ascii ".json") p q

  pub name-checkpoint : same s (ascii "_last_checkpoint") ≡ false → same (drop 20 s) (ascii ".checkpoint.json") ≡ true
      → named Checkpoint (digits_is (decimal (take 20 s))) ≡ name_is (name_of s)
  name-checkpoint p q = checkpoint-ending (decimal (take 20 s)) ∙ name-ended (ascii ".checkpoint.json") p q

  pub name-other : same s (ascii "_last_checkpoint") ≡ false → same (drop 20 s) (ascii ".json") ≡ false → same (drop 20 s) (ascii ".checkpoint.json") ≡ false
      → Other ≡ name_is (name_of s)
  name-other e p q = rw (name-digits e) (other-ending (decimal (take 20 s)) (drop 20 s) p q)

-- The files one after another: what is named of all stands in front of the room, but for what is named of those that are left.
use mathlib.Core.Path.{◌≡◌, refl, sym, ap, ◌∙◌}
use mathlib.Core.Bool.{true, false}
use Rattle.std.specs.Prelude.{Option, None, Some}
use mathlib.Core.List.{List, [], ◌∷◌, ◌++◌, append-nil, append_assoc}
use Prim.Native.Nat.{ℕ, ◌+◌, ◌≤◌, ◌<◌}
use native.Mathlib.Omega.{arith}
use lib.ListN.{length, take, drop, get_or, set, length-set, drop_of_length-le}
use lib.Seq.{length-take-le, drop-set-lt}
use Rattle.facts.proofs.Lists.{drop_here, take-set-here}
use Rattle.rules.specs.Bytes.{Bytes, keep_if, is_some}
use Rattle.rules.specs.Bundle.{File, most_entries, bundle, IsBundle}
use Rattle.rules.specs.Rooms.{Room}
use Rattle.rules.specs.Cleaning.{may_go, named}
use Rattle.rules.proofs.Tests.{true-not-false}
use Rattle.rules.proofs.Bundles.{bundle-sound}
use Rattle.file_bundle.specs.Files.{files_or, files_in, file_in, no_file}
use Rattle.file_bundle.proofs.Reading.{found}
use Rattle.cleaning.specs.Naming.{Naming}

-- ---- the files

pub files-few : (src : Bytes) → IsBundle src → length (files_in src) ≤ 1024
unfolding files_in is_some files_or most_entries
files-few src g = go (bundle src) refl g
  where
    go : (o : Option (List File)) → bundle src ≡ o → is_some o ≡ true → length (files_or o) ≤ 1024
    go None e h = absurd (true-not-false h refl)
    go (Some fs) e h = (bundle-sound src fs e).few

-- ---- the rule

module _ (c today retention : ℕ) (f : File) (fs : List File) where
  named_here : may_go c today retention f ≡ true → named c today retention (f ∷ fs) ≡ f.entry ∷ named c today retention fs
  unfolding named keep_if
  named_here e = rw (named, e)

  named_past : may_go c today retention f ≡ false → named c today retention (f ∷ fs) ≡ named c today retention fs
  unfolding named keep_if
  named_past e = rw (named, e)

-- ---- the loop: of k files that are passed, n are named

pub record Going (c today retention : ℕ) (src : Bytes) (room names : Room) (k n : ℕ) : Type 0 where
  pub upto : k ≤ length (files_in src)
  pub few : n ≤ k
  pub same : length names ≡ length room
  pub beyond : drop 1024 names ≡ drop 1024 room
  pub rest : take n names ++ named c today retention (drop k (files_in src)) ≡ named c today retention (files_in src)

module _ (c today retention : ℕ) (src : Bytes) (room : Room) where
  pub going_start : Going c today retention src room room 0 0
  going_start = record { upto = omega arith; few = omega arith; same = refl; beyond = refl; rest = refl }

  module _ (w : IsBundle src) (long : 1024 ≤ length room) (names : Room) (k n : ℕ) (g : Going c today retention src room names k n) where
    going-room : n ≤ length names
    going-room = omega (arith, g.upto, g.few, g.same, files-few src w)

    pub going_end : length (files_in src) ≤ k → Naming (named c today retention (files_in src)) room names n
    unfolding named
    going_end h =
        let front : take n names ≡ named c today retention (files_in src) =
        sym (append-nil (take n names))
        ∙ ap (λ (fs : List File). take n names ++ named c today retention fs) (sym (drop_of_length-le (files_in src) {i = k} h)) ∙ g.rest in
        record {
          count = sym (ap length front) ∙ length-take-le n names going-room;
          few = omega (arith, g.upto, g.few, files-few src w);
          front = front;
          beyond = g.beyond;
          same = g.same;
        }

    module _ (h : k < length (files_in src)) where
      pub going-place : n < length names
      going-place = omega (arith, g.few, g.same, files-few src w)

      pub going-named : may_go c today retention (file_in src k) ≡ true → Going c today retention src room (set names n k) (k + 1) (n + 1)
      unfolding file_in
      going-named e = record {
        upto = omega arith;
        few = omega (arith, g.few);
        same = length-set names n k ∙ g.same;
        beyond = drop-set-lt 1024 names n k (omega (arith, g.few, files-few src w)) ∙ g.beyond;
        rest =
            ap (λ (xs : List ℕ). xs ++ named c today retention (drop (k + 1) (files_in src))) (take-set-here names n k going-place)
            ∙ append_assoc (take n names) (k ∷ []) (named c today retention (drop (k + 1) (files_in src)))
            ∙ ap (λ (e : ℕ). take n names ++ (e ∷ named c today retention (drop (k + 1) (files_in src)))) (sym (found src k h).file.number)
            ∙ ap (λ (xs : List ℕ). take n names ++ xs)
            (sym (ap (named c today retention) (drop_here (files_in src) k no_file h)
            ∙ named_here c today retention (get_or (files_in src) k no_file) (drop (k + 1) (files_in src)) e))
            ∙ g.rest;
      }

      pub going-past : may_go c today retention (file_in src k) ≡ false → Going c today retention src room names (k + 1) n
      unfolding file_in
      going-past e = record {
        upto = omega arith;
        few = omega (arith, g.few);
        same = g.same;
        beyond = g.beyond;
        rest =
            ap
            (λ (xs : List ℕ). take n names ++ xs)
            (sym (ap (named c today retention) (drop_here (files_in src) k no_file h)
            ∙ named_past c today retention (get_or (files_in src) k no_file) (drop (k + 1) (files_in src)) e))
            ∙ g.rest;
      }

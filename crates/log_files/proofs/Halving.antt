-- A search of the files by halves: what the comparison with the name in the middle tells.
use mathlib.Core.Path.{◌≡◌, sym, ap, ◌∙◌}
use Prim.Native.Nat.{ℕ, ◌+◌, ◌≤◌, ◌<◌}
use Rattle.rules.specs.Bytes.{Bytes, Order, less, equal, more, order}
use Rattle.rules.specs.Keyed.{lookup, Bracket}
use Rattle.rules.proofs.Searching.{bracket-up, bracket-down, bracket-hit, lookup-found}
use Rattle.bytes_values.specs.Answers.{order_is, order_of}
use Rattle.std.specs.Prelude.{Some}
use Rattle.bytes_values.proofs.Back.{order-back}
use Rattle.file_bundle.specs.Files.{files_in, file_in, no_file}
use Rattle.file_bundle.proofs.Titles.{files-ascend}
use Rattle.log_files.specs.Logs.{title, PlaceIs}
use Rattle.std.specs.declared.cmp.Ordering.TheVariants.{Less, Equal, Greater}

-- what is left to look at: from file lo up to file hi
abbrev pub Halving : (s name : Bytes) (lo hi : ℕ) → Type 0
Halving s name lo hi = Bracket title name (files_in s) no_file lo hi

-- n is the name in the middle, m
module _ (s : Bytes) {name : Bytes} {lo hi : ℕ} (g : Halving s name lo hi) (m : ℕ) (lm : lo ≤ m) (mh : m < hi) {n : Bytes} (e : n ≡ (file_in s m).name) where
  told : (o : Order) → order_is o ≡ order_is (order n name) → order (file_in s m).name name ≡ o
  told o a = ap (λ (x : Bytes). order x name) (sym e) ∙ sym (order-back (order n name)) ∙ ap order_of (sym a) ∙ order-back o

  pub halving-up : Less ≡ order_is (order n name) → Halving s name (m + 1) hi
  unfolding order_is file_in
  halving-up a = bracket-up title name (files_in s) no_file (files-ascend s) lo hi g m lm mh (told less a)

  pub halving-down : Greater ≡ order_is (order n name) → Halving s name lo m
  unfolding order_is file_in
  halving-down a = bracket-down title name (files_in s) no_file (files-ascend s) lo hi g m lm mh (told more a)

  pub halving-hit : Equal ≡ order_is (order n name) → PlaceIs s (lookup title name (files_in s)) (Some m)
  unfolding order_is file_in
  halving-hit a =
      let h = bracket-hit title name (files_in s) no_file (files-ascend s) lo hi g m lm mh (told equal a) in
      (h.0, lookup-found title name (files_in s) m no_file (files-ascend s) h.0 h.1)

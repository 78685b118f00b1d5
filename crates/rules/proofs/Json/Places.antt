-- The laws of readers at a position of a text s: what is left is s from a later position on, and what is spelled stands between the two.
use mathlib.Core.Path.{◌≡◌, sym, ap, ◌∙◌}
use Rattle.std.specs.Prelude.{Some}
use mathlib.Core.List.{List, ◌∷◌}
use Prim.Native.Nat.{ℕ, suc, ◌+◌, ◌-◌, ◌≤◌}
use native.Mathlib.Omega.{arith}
use lib.ListN.{length, take, drop, length-drop}
use lib.Seq.{drop-drop, take-take, length-take-le}
use Rattle.rules.specs.Bytes.{Bytes}
use Rattle.rules.specs.Json.Text.{Text, Reader, spelled, byte}
use Rattle.rules.specs.Json.Strings.{string}
use Rattle.rules.specs.Json.Values.{Member, colon, member, contents, elements, value, object_of, array_of}
use Rattle.rules.specs.Json.Fields.{string_of, unquoted}
use Rattle.rules.proofs.Json.Suffix.{Reads, reads-left, reads-within}
use Rattle.rules.proofs.Json.TextReads.{before, spelled-some}
use Rattle.rules.proofs.Json.Steps.{member-some}
use Rattle.rules.proofs.Json.InPlace.{object_of-alone, array_of-alone, string_of-alone}

-- r is s from `at` on, `least` bytes or more behind i
pub record Place (least : ℕ) (s : Text) (i : ℕ) (r : Text) : Type 0 where
  pub at : ℕ
  pub left : r ≡ drop at s
  pub from : i + least ≤ at
  pub within : at ≤ length s

pub reads-place : {O : Type 0} {least : ℕ} {read answer : Text → O} (s : Text) (i : ℕ) {r : Text} → i ≤ length s → Reads least read answer (drop i s) r
    → Place least s i r
reads-place s i h k =
    let n : length k.passed ≤ length (drop i s) = reads-within k in
    record {
      at = i + length k.passed;
      left = reads-left k ∙ drop-drop (length k.passed) i s;
      from = omega (arith, k.enough);
      within = omega (arith, n, length-drop i s);
    }

-- ---- between two positions

module _ (s : Text) (i j : ℕ) (h : i ≤ j) (k : j ≤ length s) where
  pub between : before (drop i s) (drop j s) ≡ take (j - i) (drop i s)
  between = ap (λ (n : ℕ). take n (drop i s)) n
    where
      n : length (drop i s) - length (drop j s) ≡ j - i
      n = simp length-drop (omega arith)

  pub spelled-place : (read : Reader) → read (drop i s) ≡ Some (drop j s) → spelled read (drop i s) ≡ Some (take (j - i) (drop i s), drop j s)
  spelled-place read e = spelled-some read (drop i s) e ∙ ap (λ (x : Text). Some (x, drop j s)) between

-- a member whose name is behind the quote at i, and whose value stands from v to e
pub member-place : (read : Reader) (s : Text) (i v e : ℕ) {n r : Text} {name : Bytes} → v ≤ e → e ≤ length s
    → byte 0x22 (drop i s) ≡ Some n → string n ≡ Some (name, r) → colon r ≡ Some (drop v s) → read (drop v s) ≡ Some (drop e s)
    → member read (drop i s) ≡ Some ((name, take (e - v) (drop v s)), drop e s)
member-place read s i v e {name = name} h k a b c d = member-some read (drop i s) a b c d ∙ ap (λ (x : Text). Some ((name, x), drop e s)) (between s v e h k)

-- ---- the text of an object, an array or a string, from its first byte at i to j

module _ (s : Text) (i j b : ℕ) (e : drop i s ≡ b ∷ drop (i + 1) s) (h : i + 1 ≤ j) (k : j ≤ length s) where
  pub text-cons : take (j - i) (drop i s) ≡ b ∷ take (j - (i + 1)) (drop (i + 1) s)
  text-cons = ap (take (j - i)) e ∙ ap (λ (n : ℕ). take n (b ∷ drop (i + 1) s)) n
    where
      n : j - i ≡ suc (j - (i + 1))
      n = omega arith

  text-before : take (j - i) (drop i s) ≡ b ∷ before (drop (i + 1) s) (drop j s)
  text-before = text-cons ∙ ap (λ (x : Text). b ∷ x) (sym (between s (i + 1) j h k))

module _ (s : Text) (i j : ℕ) (h : i + 1 ≤ j) (k : j ≤ length s) where
  pub object_of-place : (d : ℕ) (ms : List Member) → drop i s ≡ 0x7B ∷ drop (i + 1) s → contents (value d) (drop (i + 1) s) ≡ Some (ms, drop j s)
      → object_of d (take (j - i) (drop i s)) ≡ Some ms
  object_of-place d ms e f = ap (object_of d) (text-before s i j 0x7B e h k) ∙ object_of-alone d ms (drop (i + 1) s) (drop j s) f

  pub array_of-place : (d : ℕ) (vs : List Text) → drop i s ≡ 0x5B ∷ drop (i + 1) s → elements (value d) (drop (i + 1) s) ≡ Some (vs, drop j s)
      → array_of d (take (j - i) (drop i s)) ≡ Some vs
  array_of-place d vs e f = ap (array_of d) (text-before s i j 0x5B e h k) ∙ array_of-alone d vs (drop (i + 1) s) (drop j s) f

  pub string_of-place : (x : Bytes) → drop i s ≡ 0x22 ∷ drop (i + 1) s → string (drop (i + 1) s) ≡ Some (x, drop j s)
      → string_of (take (j - i) (drop i s)) ≡ Some x
  string_of-place x e f = ap string_of (text-before s i j 0x22 e h k) ∙ string_of-alone x (drop (i + 1) s) (drop j s) f

  -- without the first byte and the last
  pub unquoted-place : (b : ℕ) → drop i s ≡ b ∷ drop (i + 1) s → unquoted (take (j - i) (drop i s)) ≡ take (j - i - 2) (drop (i + 1) s)
  unfolding unquoted
  unquoted-place b e =
      ap unquoted (text-cons s i j b e h k) ∙ ap (λ (n : ℕ). take n inner) n ∙ take-take (j - i - 2) (j - (i + 1)) (drop (i + 1) s) (omega arith)
    where
      inner : Text
      inner = take (j - (i + 1)) (drop (i + 1) s)

      fits : j - (i + 1) ≤ length (drop (i + 1) s)
      fits = simp length-drop (omega arith)

      n : suc (length inner) - 2 ≡ j - i - 2
      n = omega (arith, length-take-le (j - (i + 1)) (drop (i + 1) s) fits)

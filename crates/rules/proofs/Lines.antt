-- The lines of a text, one by one: up to the first 0x0A, or the end, and then the lines of the rest.
use mathlib.Core.Path.{◌≡◌, refl, sym, ap, ◌∙◌}
use mathlib.Core.Logic.{◌⊎◌, inl, inr}
use mathlib.Core.Bool.{true}
use mathlib.Core.List.{List, [], ◌∷◌, ◌++◌}
use Prim.Native.Nat.{ℕ, ◌+◌, ◌-◌, ◌≤◌, ◌<◌}
use native.Mathlib.Nat.{not-suc-le-zero, eq-or-lt_of_le}
use native.Mathlib.Omega.{arith}
use lib.Dec.{eqb}
use lib.ListN.{length, get_or}
use borrow.Author.Tests.{eqb-true, eqb-false, eq-eqb, ne_eqb}
use Rattle.facts.specs.Lists.{All}
use Rattle.facts.specs.Parts.{part}
use Rattle.facts.proofs.Lists.{All-of}
use Rattle.facts.proofs.Parts.{length_part, part_none, get_d_part, part-cons, part-split}
use Rattle.rules.specs.Bytes.{Bytes}
use Rattle.rules.specs.Lines.{onto, lines, any_object}
use Rattle.rules.proofs.Tests.{by}

abbrev pub NoFeed : Bytes → Type 0
NoFeed = All (λ (b : ℕ). b ≡ 0x0A → ⊥)

-- ---- byte by byte

pub lines_none : lines [] ≡ []
unfolding lines
lines_none = refl

pub lines-feed : (b : ℕ) (bs : Bytes) → b ≡ 0x0A → lines (b ∷ bs) ≡ [] ∷ lines bs
unfolding lines
lines-feed b bs e = rw (eq-eqb b 0x0A e, lines)

pub lines-onto : (b : ℕ) (bs : Bytes) → (b ≡ 0x0A → ⊥) → lines (b ∷ bs) ≡ onto b (lines bs)
unfolding lines
lines-onto b bs h = rw (ne_eqb b 0x0A h, lines)

-- ---- line by line

pub lines-line : (l rest : Bytes) → NoFeed l → lines (l ++ 0x0A ∷ rest) ≡ l ∷ lines rest
unfolding onto All
lines-line [] rest h = lines-feed 0x0A rest refl
lines-line (b ∷ l) rest h = lines-onto b (l ++ 0x0A ∷ rest) h.0 ∙ ap (onto b) (lines-line l rest h.1)

-- the last may lack its 0x0A
pub lines-last : (l : Bytes) → 0 < length l → NoFeed l → lines l ≡ l ∷ []
unfolding onto All
lines-last [] m h = absurd (not-suc-le-zero m)
lines-last (b ∷ []) m h = lines-onto b [] h.0 ∙ ap (onto b) lines_none
lines-last (b ∷ c ∷ l) m h = lines-onto b (c ∷ l) h.0 ∙ ap (onto b) (lines-last (c ∷ l) (omega arith) h.1)

onto-no-feed : (b : ℕ) (ls : List Bytes) → (b ≡ 0x0A → ⊥) → All NoFeed ls → All NoFeed (onto b ls)
unfolding onto All
onto-no-feed b [] n h = ((n, tt), tt)
onto-no-feed b (l ∷ ls) n h = ((n, h.0), h.1)

pub lines-no-feed : (s : Bytes) → All NoFeed (lines s)
unfolding lines All
lines-no-feed [] = tt
lines-no-feed (b ∷ bs) =
    by (eqb b 0x0A) (λ e. rw (lines-feed b bs (eqb-true b 0x0A e)) (tt, lines-no-feed bs)) (λ e.
    let n : b ≡ 0x0A → ⊥ = eqb-false b 0x0A e in
    rw (lines-onto b bs n) (onto-no-feed b (lines bs) n (lines-no-feed bs)))

-- ---- the first line from a on: e is the first place of 0x0A, or the end

part-no-feed : (s : Bytes) (a e : ℕ) → e ≤ length s → ((j : ℕ) → a ≤ j → j < e → get_or s j 0 ≡ 0x0A → ⊥) → NoFeed (part s a e)
part-no-feed s a e l h = All-of (λ (b : ℕ). b ≡ 0x0A → ⊥) (part s a e) 0 (λ j m. at j (rw (length_part s a e l) at m))
  where
    at : (j : ℕ) → j < e - a → get_or (part s a e) j 0 ≡ 0x0A → ⊥
    at j m q = h (a + j) (omega arith) (omega arith) (sym (get_d_part s a e j 0 (omega arith)) ∙ q)

pub lines-part : (s : Bytes) (a e b : ℕ) → a < b → b ≤ length s → a ≤ e → e ≤ b
    → ((j : ℕ) → a ≤ j → j < e → get_or s j 0 ≡ 0x0A → ⊥) → (e < b → get_or s e 0 ≡ 0x0A)
    → lines (part s a b) ≡ part s a e ∷ lines (part s (e + 1) b)
lines-part s a e b ab bs ae eb none feed = go (eq-or-lt_of_le eb)
  where
    line : NoFeed (part s a e)
    line = part-no-feed s a e (omega arith) none

    go : (e ≡ b) ⊎ (e < b) → lines (part s a b) ≡ part s a e ∷ lines (part s (e + 1) b)
    go (inl q) =
        let n : length (part s a e) ≡ e - a = length_part s a e (omega arith) in
        let p : part s a b ≡ part s a e = rw q in
        let r : part s (e + 1) b ≡ [] = part_none s (e + 1) b (omega arith) in
        rw (p, r, lines_none) (lines-last (part s a e) (omega arith) line)
    go (inr l) = rw (part-split s a e b ae eb, part-cons s e b 0 l bs, feed l) (lines-line (part s a e) (part s (e + 1) b) line)

pub lines-part-none : (s : Bytes) (a b : ℕ) → b ≤ a → lines (part s a b) ≡ []
lines-part-none s a b h = rw (part_none s a b h) lines_none

-- ---- objects

pub any_object-empty : (l : Bytes) (ls : List Bytes) → length l ≡ 0 → any_object (l ∷ ls) ≡ any_object ls
unfolding any_object
any_object-empty [] ls h = refl
any_object-empty (b ∷ l) ls h = absurd (omega arith)

pub any_object-line : (l : Bytes) (ls : List Bytes) → 0 < length l → any_object (l ∷ ls) ≡ true
unfolding any_object
any_object-line [] ls h = absurd (not-suc-le-zero h)
any_object-line (b ∷ l) ls h = refl

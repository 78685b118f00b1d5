-- What the end of a line says of the lines of a text, and of bytes lent as one.
use mathlib.Core.Path.{◌≡◌, refl, sym, ◌∙◌, subst}
use mathlib.Core.Logic.{◌⊎◌, inl, inr}
use mathlib.Core.Bool.{Bool, true, false, ◌||◌, true≢false}
use mathlib.Core.List.{[], ◌∷◌}
use Prim.Native.Nat.{ℕ, zero, suc, ◌+◌, ◌≤◌, ◌<◌}
use native.Mathlib.Omega.{arith}
use native.Mathlib.Nat.{not-suc-le-zero, eq-or-lt_of_le}
use lib.Dec.{eqb, leb}
use lib.ListN.{length, get_or}
use borrow.Author.Tests.{eq-eqb, ne_eqb, eqb-true, eqb-false, leb-true, leb-false}
use Rattle.facts.specs.Parts.{part}
use Rattle.rules.specs.Bytes.{Bytes}
use Rattle.rules.specs.Lines.{lines}
use Rattle.rules.specs.Actions.{is_line}
use Rattle.rules.proofs.Tests.{by}
use Rattle.rules.proofs.Lines.{lines-part}
use Rattle.file_lines.specs.Ends.{EndsLine, Free}

-- the first line, and then the lines of the rest
pub ends-lines : (s : Bytes) (a e b : ℕ) → a < b → b ≤ length s → EndsLine s a b e → lines (part s a b) ≡ part s a e ∷ lines (part s (e + 1) b)
ends-lines s a e b h l x = lines-part s a e b h l x.behind x.within x.before x.feed

-- ---- bytes lent as one line

pub is_line-free : (l : Bytes) → ((j : ℕ) → j < length l → get_or l j 0 ≡ 0x0A → ⊥) → is_line l ≡ true
unfolding is_line
is_line-free [] h = refl
is_line-free (b ∷ l) h = rw (ne_eqb b 0x0A (h 0 (omega arith)), is_line) (is_line-free l (λ j m. h (suc j) (omega arith)))

pub is_line-feed : (l : Bytes) (j : ℕ) → j < length l → get_or l j 0 ≡ 0x0A → is_line l ≡ false
unfolding is_line
is_line-feed [] j h e = absurd (not-suc-le-zero h)
is_line-feed (b ∷ l) zero h e = rw (eq-eqb b 0x0A e, is_line)
is_line-feed (b ∷ l) (suc j) h e =
    by (eqb b 0x0A) (λ t. rw (t, is_line)) (λ f. rw (f, is_line) (is_line-feed l j (omega arith) e))

-- they are one where its end is theirs
pub ends-is_line : (l : Bytes) (e : ℕ) → EndsLine l 0 (length l) e → eqb e (length l) ≡ is_line l
ends-is_line l e x = by (eqb e (length l)) whole cut
  where
    whole : eqb e (length l) ≡ true → eqb e (length l) ≡ is_line l
    whole t =
        let q : e ≡ length l = eqb-true e (length l) t in
        t ∙ sym (is_line-free l (λ j m. x.before j (omega arith) (omega arith)))

    cut : eqb e (length l) ≡ false → eqb e (length l) ≡ is_line l
    cut f =
        let n : e ≡ length l → ⊥ = eqb-false e (length l) f in
        let h : e < length l = omega (arith, x.within) in
        f ∙ sym (is_line-feed l e h (x.feed h))

-- ---- the search

pub free-none : (s : Bytes) (a : ℕ) → Free s a a
free-none s a j h m e = absurd (omega arith)

free_more : (s : Bytes) (a i : ℕ) → Free s a i → (get_or s i 0 ≡ 0x0A → ⊥) → Free s a (i + 1)
free_more s a i f n j h m e = go (eq-or-lt_of_le {n = j} {m = i} (omega arith))
  where
    go : (j ≡ i) ⊎ (j < i) → ⊥
    go (inl q) = n (rw q at e)
    go (inr l) = f j h l e

pub free-joined : (s : Bytes) (a b c : ℕ) → Free s a b → Free s b c → Free s a c
free-joined s a b c f g j h m e =
    by (leb b j) (λ t. g j (leb-true b j t) m e) (λ u. f j h (leb-false b j u) e)

pub free_one : (s : Bytes) (i : ℕ) → eqb (get_or s i 0) 0x0A ≡ false → Free s i (i + 1)
free_one s i e = free_more s i i (free-none s i) (eqb-false (get_or s i 0) 0x0A e)

-- two tests side by side, of what lies before b and of what lies behind it
pub free-both : (s : Bytes) (a b c : ℕ) {d : ℕ} (x y : Bool) → d ≡ c → (x ≡ false → Free s a b) → (y ≡ false → Free s b d) → x || y ≡ false → Free s a c
free-both s a b c true y q f g e = absurd (true≢false e)
free-both s a b c false y q f g e = subst (Free s a) q (free-joined s a b _ (f refl) (g e))

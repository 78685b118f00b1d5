-- A cursor's steps: within a code point, over a byte that stands for itself, into an escape; and where it ends.
use mathlib.Core.Path.{◌≡◌, refl, sym, ap, ◌∙◌}
use Rattle.std.specs.Prelude.{None, Some}
use mathlib.Core.List.{[], ◌∷◌, ◌++◌}
use Prim.Native.Nat.{ℕ, zero, suc, ◌+◌, ◌-◌, ◌≤◌, ◌<◌}
use native.Mathlib.Omega.{arith}
use borrow.Author.Tests.{ne_eqb}
use lib.ListN.{length, drop, get_or, drop_of_length-le}
use Rattle.facts.proofs.Lists.{drop_here, drop-is, drop-place}
use Rattle.rules.specs.Bytes.{Bytes}
use Rattle.rules.specs.Json.Text.{Text}
use Rattle.rules.specs.Json.Strings.{utf8, escaped}
use Rattle.json_strings.specs.Flat.{flat, last_of}
use Rattle.json_strings.specs.Ahead.{fresh, ahead, Sound, into_escape, next_at, next_by, Went, Stepped}
use Rattle.json_strings.specs.declared.cursors.Cursor.{Cursor}
use Rattle.std.specs.Prelude.{Option}
use Rattle.json_strings.proofs.Flat.{flat-end, flat-quote, flat-itself, flat-none, flat-escape}
use Rattle.json_strings.proofs.Widths.{Last, size-bounds, last_of-all, last_of_none}

-- ---- the byte-wise view at a position

module _ (s : Text) (i : ℕ) where
  pub flat-ended : length s ≤ i → flat (drop i s) ≡ []
  flat-ended h = ap flat (drop_of_length-le s h) ∙ flat-end

  module _ (h : i < length s) where
    pub flat-at-quote : get_or s i 0 ≡ 0x22 → flat (drop i s) ≡ []
    flat-at-quote e = ap flat (drop-is s i 0 0x22 h e) ∙ flat-quote (drop (i + 1) s)

    pub flat-at-itself : (get_or s i 0 ≡ 0x22 → ⊥) → (get_or s i 0 ≡ 0x5C → ⊥) → flat (drop i s) ≡ get_or s i 0 ∷ flat (drop (i + 1) s)
    flat-at-itself q e = ap flat (drop_here s i 0 h) ∙ flat-itself (get_or s i 0) (drop (i + 1) s) q e

    pub flat-at-none : get_or s i 0 ≡ 0x5C → escaped (drop (i + 1) s) ≡ None → flat (drop i s) ≡ []
    flat-at-none e n = ap flat (drop-is s i 0 0x5C h e) ∙ flat-none (drop (i + 1) s) n

    pub flat-at-escape : (x j : ℕ) → get_or s i 0 ≡ 0x5C → escaped (drop (i + 1) s) ≡ Some (x, drop j s) → flat (drop i s) ≡ utf8 x ++ flat (drop j s)
    flat-at-escape x j e n = ap flat (drop-is s i 0 0x5C h e) ∙ flat-escape (drop (i + 1) s) n

-- ---- cursors

pub ahead-fresh : (s : Text) (c : Cursor) → c.left ≡ 0 → ahead s c ≡ flat (drop c.at s)
unfolding ahead
ahead-fresh s c e =
    ap (λ (n : ℕ). last_of n (utf8 c.code) ++ flat (drop c.at s)) e ∙ ap (λ (x : Bytes). x ++ flat (drop c.at s)) (last_of_none (utf8 c.code))

-- a step from a byte of the text is a step from every cursor that stands there, in no code point
pub went-fresh : (s : Text) (c : Cursor) {d : Cursor} {b : ℕ} → c.left ≡ 0 → Went s (fresh c.at) d b → Went s c d b
unfolding next_by
went-fresh s c e h = record {
  place = h.place ∙ sym (ap (next_by s c) e);
  more = ahead-fresh s c e ∙ sym (ahead-fresh s (fresh c.at) refl) ∙ h.more;
  sound = h.sound;
  nearer = omega (arith, h.nearer);
}

pub stepped_fresh : (s : Text) (c : Cursor) (r : Option (ℕ × Cursor)) → c.left ≡ 0 → Stepped s (fresh c.at) r → Stepped s c r
stepped_fresh s c (Some (b, d)) e h = went-fresh s c e h
stepped_fresh s c None e h = ahead-fresh s c e ∙ sym (ahead-fresh s (fresh c.at) refl) ∙ h

pub went-part : (s : Text) (c : Cursor) {b : ℕ} → Sound s c → 0 < c.left → Last c.code c.left b
    → Went s c (record { at = c.at; code = c.code; left = c.left - 1 }) b
unfolding ahead next_by
went-part s c h l e = record {
  place = go c.left l;
  more = ap (λ (x : Bytes). x ++ flat (drop c.at s)) e;
  sound = record { within = h.within; point = h.point; part = omega (arith, h.part) };
  nearer = omega arith;
}
  where
    go : (n : ℕ) → 0 < n → ◌≡◌ {A = Cursor} (record { at = c.at; code = c.code; left = n - 1 }) (next_by s c n)
    go zero k = absurd (omega arith)
    go (suc n) k = ap (λ (m : ℕ). record { at = c.at; code = c.code; left = m }) (omega arith)

pub went-itself : (s : Text) (i : ℕ) → i < length s → (get_or s i 0 ≡ 0x22 → ⊥) → (get_or s i 0 ≡ 0x5C → ⊥) → Went s (fresh i) (fresh (i + 1)) (get_or s i 0)
unfolding next_by next_at
went-itself s i h q e = record {
  place = sym (ap (next_at s i) (drop_here s i 0 h) ∙ rw (next_at, ne_eqb (get_or s i 0) 0x5C e));
  more = ahead-fresh s (fresh i) refl ∙ flat-at-itself s i h q e ∙ ap (λ (x : Bytes). get_or s i 0 ∷ x) (sym (ahead-fresh s (fresh (i + 1)) refl));
  sound = record { within = omega arith; point = omega arith; part = omega arith };
  nearer = omega arith;
}

pub went-escape : (s : Text) (i x j n : ℕ) {b : ℕ} → i < length s → get_or s i 0 ≡ 0x5C → escaped (drop (i + 1) s) ≡ Some (x, drop j s)
    → i + 2 ≤ j → j ≤ length s → x ≤ 0x10FFFF → n ≡ length (utf8 x) → Last x n b
    → Went s (fresh i) (record { at = j; code = x; left = n - 1 }) b
unfolding ahead next_by next_at into_escape
went-escape s i x j n {b} h e f l w p q k = record {
  place = sym (ap (next_at s i) (drop-is s i 0 0x5C h e) ∙ ap (into_escape s) f
      ∙ ap (λ (a : ℕ). record { at = a; code = x; left = length (utf8 x) - 1 }) (drop-place s j w)
      ∙ ap (λ (m : ℕ). record { at = j; code = x; left = m - 1 }) (sym q));
  more = ahead-fresh s (fresh i) refl ∙ flat-at-escape s i h x j e f
      ∙ ap (λ (y : Bytes). y ++ flat (drop j s)) (sym (last_of-all (utf8 x)) ∙ ap (λ (m : ℕ). last_of m (utf8 x)) (sym q) ∙ k);
  sound = record { within = w; point = p; part = omega arith };
  nearer = omega (arith, (size-bounds x).most);
}

pub sound-fresh : (s : Text) (i : ℕ) → i ≤ length s → Sound s (fresh i)
sound-fresh s i h = record { within = h; point = omega arith; part = omega arith }

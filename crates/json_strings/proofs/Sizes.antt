-- How many bytes a string stands for: never more than it is spelled with, so that counting them does not overflow.
use mathlib.Core.Path.{◌≡◌, sym, ap, ◌∙◌}
use Rattle.std.specs.Prelude.{None, Some}
use mathlib.Core.List.{[], ◌∷◌}
use Prim.Native.Nat.{ℕ, ◌+◌, ◌≤◌, ◌<◌}
use native.Mathlib.Omega.{arith}
use lib.Dec.{eqb}
use lib.ListN.{length, drop, get_or, length-append, length-drop}
use Rattle.facts.specs.Lists.{All}
use Rattle.rules.specs.Json.Text.{Text}
use Rattle.rules.specs.Json.Strings.{utf8, short_escape, escaped}
use Rattle.rules.proofs.Tests.{by, apart}
use Rattle.rules.proofs.Json.Suffix.{reads-fewer, some_same, value_same, left-same, bound}
use Rattle.rules.proofs.Json.StringReads.{code_point-reads}
use Rattle.json_strings.specs.Flat.{flat}
use Rattle.json_strings.proofs.Ahead.{flat-ended, flat-at-quote, flat-at-itself, flat-at-none, flat-at-escape}
use Rattle.rules.proofs.Firsts.{first-answers}
use Rattle.json_strings.proofs.Widths.{size-one, size-bounds}

Small : ℕ → Type 0
Small x = x < 0x80

short_escape-small : (b : ℕ) {x : ℕ} → short_escape b ≡ Some x → Small x
unfolding short_escape All Small
short_escape-small b e =
    first-answers Small _ (
      at 0x22 (omega arith),
      (
        at 0x5C (omega arith),
        (
          at 0x2F (omega arith),
          (at 0x08 (omega arith), (at 0x0C (omega arith), (at 0x0A (omega arith), (at 0x0D (omega arith), (at 0x09 (omega arith), tt))))),
        ),
      ),
    )
    e
  where
    at : {T : Type 0} (n : ℕ) → n < 0x80 → T → (x : ℕ) → Some n ≡ Some x → x < 0x80
    at n l t x f = omega (arith, some_same f)

-- behind a backslash: even without it, an escape is no shorter than what it stands for
pub escaped-size : (t : Text) {x : ℕ} {r : Text} → escaped t ≡ Some (x, r) → length (utf8 x) + length r ≤ length t
unfolding escaped Small
escaped-size [] e = apart (cc)
escaped-size (b ∷ t) {x} {r} e = by (eqb b 0x75)
    (λ p. omega (arith, reads-fewer (code_point-reads x t r (sym (rw (escaped, p)) ∙ e)), (size-bounds x).most))
    (λ p. bound (short_escape b) (λ c. Some (c, t)) (sym (rw (escaped, p)) ∙ e) (λ c h k.
    let small : c < 0x80 = short_escape-small b h in
    let l : c ≡ x = value_same k in
    let m : t ≡ r = left-same k in
    omega (arith, size-one x (omega arith), ap length m)))

-- ---- counting

-- n bytes are counted before i
pub record Counted (s : Text) (at i n : ℕ) : Type 0 where
  pub within : i ≤ length s
  pub few : n ≤ i
  pub sum : n + length (flat (drop i s)) ≡ length (flat (drop at s))

pub counted_start : {s : Text} {at : ℕ} → at ≤ length s → Counted s at at 0
counted_start h = record { within = h; few = omega arith; sum = omega arith }

module _ {s : Text} {at i n : ℕ} (c : Counted s at i n) where
  pub counted-end : flat (drop i s) ≡ [] → n ≡ length (flat (drop at s))
  counted-end e = omega (arith, c.sum, ap length e)

  pub counted-ended : length s ≤ i → n ≡ length (flat (drop at s))
  counted-ended h = counted-end (flat-ended s i h)

  module _ (h : i < length s) where
    pub counted-quote : get_or s i 0 ≡ 0x22 → n ≡ length (flat (drop at s))
    counted-quote e = counted-end (flat-at-quote s i h e)

    pub counted_none : get_or s i 0 ≡ 0x5C → escaped (drop (i + 1) s) ≡ None → n ≡ length (flat (drop at s))
    counted_none e f = counted-end (flat-at-none s i h e f)

    pub counted-itself : (get_or s i 0 ≡ 0x22 → ⊥) → (get_or s i 0 ≡ 0x5C → ⊥) → Counted s at (i + 1) (n + 1)
    counted-itself q e = record {
      within = omega arith;
      few = omega (arith, c.few);
      sum = omega (arith, c.sum, ap length (flat-at-itself s i h q e));
    }

    module _ (x j m : ℕ) (f : escaped (drop (i + 1) s) ≡ Some (x, drop j s)) (l : i + 2 ≤ j) (w : j ≤ length s) (q : m ≡ length (utf8 x)) where
      -- the sum stays within the text
      pub counted-room : n + m ≤ j
      counted-room = omega (arith, escaped-size (drop (i + 1) s) f, length-drop (i + 1) s, length-drop j s, c.few)

      pub counted-escape : get_or s i 0 ≡ 0x5C → Counted s at j (n + m)
      counted-escape e = record {
        within = w;
        few = counted-room;
        sum = omega (arith, c.sum, ap length (flat-at-escape s i h x j e f), length-append (utf8 x) (flat (drop j s)));
      }

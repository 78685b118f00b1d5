-- The loop over the items of a container, at positions of a text: what its turns keep, and what each way out of it answers.
use mathlib.Core.Path.{◌≡◌, sym, ◌∙◌}
use Rattle.std.specs.Prelude.{None, Some}
use Prim.Native.Nat.{ℕ, ◌+◌, ◌-◌, ◌≤◌, ◌<◌}
use native.Mathlib.Omega.{arith}
use lib.ListN.{length, drop, length-drop}
use Rattle.rules.specs.Json.Text.{Text, Reader, Taker, behind}
use Rattle.rules.specs.Json.Values.{opening, closing, list}
use Rattle.rules.proofs.Json.Suffix.{EachReads, EachTakes, reads-fewer}
use Rattle.rules.proofs.Json.ValueReads.{behind-reads, list-reads}
use Rattle.rules.proofs.Json.Steps.{rest}
use Rattle.rules.proofs.Json.Shadows.{behind-list-closed, behind-list-onward, behind-list-neither, behind-rest-none}
use Rattle.rules.proofs.Json.Shadows.{behind-rest-closed, behind-rest-neither, behind-rest-onward}
use Rattle.json_values.specs.Follows.{Follows}
use Rattle.json_values.specs.Numbered.{Numbered}
use Rattle.json_values.specs.declared.Tail.TheVariants.{Closed, More, Neither}
use Rattle.json_values.proofs.Numbers.{numbered-none, numbered-at}

-- a reader that passes `least` bytes or more ends that many further on
pub read-further : {least : ℕ} {read : Reader} → EachReads least read → (s : Text) (at i : ℕ) → at ≤ length s → i ≤ length s
    → read (drop at s) ≡ Some (drop i s) → at + least ≤ i
read-further {least} each s at i h k e =
    let n : length (drop i s) + least ≤ length (drop at s) = reads-fewer (each (drop at s) (drop i s) e) in
    omega (arith, n, length-drop i s, length-drop at s)

-- the items from i on are what is left of those behind the opening byte, which are read from `at` on
pub record Going {A : Type 0} (item : Taker A) (close : ℕ) (s : Text) (at i : ℕ) : Type 0 where
  pub within : i ≤ length s
  pub left : behind (rest item close (drop i s)) ≡ behind (list item close (drop at s))

-- a list, where it is read up to i
list-ends : {A : Type 0} {item : Taker A} → EachTakes 1 item → (close : ℕ) (s : Text) (at : ℕ) {i : ℕ} → at ≤ length s → i ≤ length s
    → behind (list item close (drop at s)) ≡ Some (drop i s)
    → Numbered (behind (list item close (drop at s))) s (at + 1) i
list-ends {item = item} each close s at {i} h k e = numbered-at (omega arith) (e, read-further (behind-reads (list-reads item close each)) s at i h k e, k)

-- ---- behind the opening byte

module _ {A : Type 0} (item : Taker A) (close : ℕ) (s : Text) (at : ℕ) where
  pub opened-none : Follows (opening close (drop at s)) s at Neither → Numbered (behind (list item close (drop at s))) s (at + 1) 0
  opened-none f = numbered-none (behind-list-neither item close (drop at s) f)

  pub opened-closed : EachTakes 1 item → at ≤ length s → {i : ℕ} → Follows (opening close (drop at s)) s at (Closed i)
      → Numbered (behind (list item close (drop at s))) s (at + 1) i
  opened-closed each h f = list-ends each close s at h f.2 (behind-list-closed item close (drop at s) f.0)

  pub going_start : {i : ℕ} → Follows (opening close (drop at s)) s at (More i) → Going item close s at i
  going_start f = record { within = f.2; left = sym (behind-list-onward item close (drop at s) f.0) }

-- ---- a turn, whose item stands from i to j

module _ {A : Type 0} {item : Taker A} {close : ℕ} {s : Text} {at i : ℕ} (g : Going item close s at i) where
  pub going-none : behind (item (drop i s)) ≡ None → Numbered (behind (list item close (drop at s))) s (at + 1) 0
  going-none e = numbered-none (sym g.left ∙ behind-rest-none item close (drop i s) e)

  module _ (j : ℕ) (e : behind (item (drop i s)) ≡ Some (drop j s)) where
    pub going-neither : Follows (closing close (drop j s)) s (j + 1) Neither → Numbered (behind (list item close (drop at s))) s (at + 1) 0
    going-neither f = numbered-none (sym g.left ∙ behind-rest-neither item close (drop i s) e f)

    pub going-closed : EachTakes 1 item → at ≤ length s → {k : ℕ} → Follows (closing close (drop j s)) s (j + 1) (Closed k)
        → Numbered (behind (list item close (drop at s))) s (at + 1) k
    going-closed each h f = list-ends each close s at h f.2 (sym g.left ∙ behind-rest-closed item close (drop i s) e f.0)

    pub going_more : EachTakes 1 item → {k : ℕ} → Follows (closing close (drop j s)) s (j + 1) (More k) → Going item close s at k
    going_more each f = record { within = f.2; left = sym (behind-rest-onward item close (drop i s) e each f.0) ∙ g.left }

-- what is left falls with each turn
pub turn-less : (s : Text) (i : ℕ) {j k : ℕ} → i + 1 ≤ j → j + 1 ≤ k → k ≤ length s → length s - k < length s - i
turn-less s i h l m = omega arith

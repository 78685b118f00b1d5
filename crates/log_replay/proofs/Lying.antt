-- Bodies and lines as parts of the bundle: a part of what lies in it lies in it too, and its lines end where the bundle's do.
use mathlib.Core.Path.{◌≡◌, sym, ap, ◌∙◌}
use Prim.Native.Nat.{ℕ, ◌+◌, ◌-◌, ◌≤◌, ◌<◌}
use native.Mathlib.Omega.{arith}
use lib.ListN.{length, get_or}
use Rattle.facts.specs.Parts.{part}
use Rattle.facts.proofs.Parts.{length_part, get_d_part, part-part}
use Rattle.rules.specs.Json.Text.{Text}
use Rattle.file_lines.specs.Ends.{EndsLine}
use Rattle.log_replay.specs.Views.{Lies}

pub part_lies : (src : Text) (from to : ℕ) → from ≤ to → to ≤ length src → Lies src from (part src from to)
part_lies src from to h l =
    let e : from + length (part src from to) ≡ to = omega (arith, length_part src from to l) in
    record { within = omega (arith, e); same = ap (part src from) e }

module _ {src body : Text} {from : ℕ} (z : Lies src from body) where
  pub part-here : (i j : ℕ) → j ≤ length body → part body i j ≡ part src (from + i) (from + j)
  part-here i j h =
      ap (λ (b : Text). part b i j) (sym z.same) ∙ part-part src from (from + length body) i j (omega arith)

  pub lies-part : (i j : ℕ) → i ≤ j → j ≤ length body → Lies src (from + i) (part body i j)
  lies-part i j h l =
      let e : from + i + length (part body i j) ≡ from + j = omega (arith, length_part body i j l) in
      record { within = omega (arith, z.within, e); same = ap (part src (from + i)) e ∙ sym (part-here i j l) }

  byte-here : (i : ℕ) → i < length body → get_or body i 0 ≡ get_or src (from + i) 0
  byte-here i h = ap (λ (b : Text). get_or b i 0) (sym z.same) ∙ get_d_part src from (from + length body) i 0 (omega arith)

  pub ends-here : (at end : ℕ) → EndsLine body at (length body) end → EndsLine src (from + at) (from + length body) (from + end)
  ends-here at end x = record {
    behind = omega (arith, x.behind);
    within = omega (arith, x.within);
    before = λ j h k q.
        let e : from + (j - from) ≡ j = omega arith in
        x.before (j - from) (omega arith) (omega arith) (byte-here (j - from) (omega (arith, x.within)) ∙ ap (λ (n : ℕ). get_or src n 0) e ∙ q);
    feed = λ h. sym (byte-here end (omega arith)) ∙ x.feed (omega arith);
  }

-- What a text ends with, and where that begins.
use mathlib.Core.Path.{◌≡◌, sym, ◌∙◌, ap}
use mathlib.Core.List.{◌++◌, append_assoc}
use Prim.Native.Nat.{ℕ, ◌+◌, ◌-◌}
use native.Mathlib.Omega.{arith}
use lib.ListN.{length, drop, length-append}
use lib.Seq.{drop-append_seam}
use Rattle.rules.specs.Json.Text.{Text}

abbrev pub Suffix : (r t : Text) → Type 0
Suffix r t = (p : Text) × (t ≡ p ++ r)

pub suffix_trans : (r u t : Text) → Suffix r u → Suffix u t → Suffix r t
suffix_trans r u t (p, e) (q, f) = (q ++ p, f ∙ ap (λ (x : Text). q ++ x) e ∙ sym (append_assoc q p r))

-- by its place
pub suffix-drop : (r t : Text) → Suffix r t → drop (length t - length r) t ≡ r
suffix-drop r t (p, e) =
    let n : length t ≡ length p + length r = ap length e ∙ length-append p r in
    let m : length t - length r ≡ length p = omega arith in
    ap (λ (k : ℕ). drop k t) m ∙ ap (drop (length p)) e ∙ drop-append_seam p r

-- A whole text is JSON or not, by its value and what stands behind that.
use mathlib.Core.Path.{◌≡◌}
use mathlib.Core.Bool.{false}
use Rattle.std.specs.Prelude.{None, Some}
use Prim.Native.Nat.{ℕ, ◌≤◌}
use native.Mathlib.Omega.{arith}
use lib.Dec.{eqb}
use lib.ListN.{length, drop}
use borrow.Author.Tests.{eqb-true, eqb-false}
use Rattle.rules.specs.Bytes.{is_empty}
use Rattle.rules.specs.Json.Text.{Text, ws}
use Rattle.rules.specs.Json.Values.{value}
use Rattle.rules.proofs.Tests.{by}
use Rattle.json_tokens.proofs.Places.{here, ended}
use Rattle.json_values.specs.Whole.{is_json}

module _ (d : ℕ) (t : Text) where
  pub json-none : value d (ws t) ≡ None → is_json d t ≡ false
  unfolding is_json
  json-none e = rw (is_json, e)

  pub json-some : {u : Text} → value d (ws t) ≡ Some u → is_json d t ≡ is_empty (ws u)
  unfolding is_json
  json-some e = rw (is_json, e)

-- nothing is left of a text at its end alone
pub nothing-left : (s : Text) (i : ℕ) → i ≤ length s → eqb i (length s) ≡ is_empty (drop i s)
unfolding is_empty
nothing-left s i h =
    by (eqb i (length s))
    (λ t. rw (t, ended s i (omega (arith, eqb-true i (length s) t))))
    (λ u. let n = eqb-false i (length s) u in rw (u, here s i (omega (arith, n))))

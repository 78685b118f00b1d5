-- `from_checkpoint`: the climb from n ends at the latest version, and the way there goes on from n, as `Beginning` says.
use mathlib.Core.Path.{◌≡◌, sym, ◌∙◌, subst}
use mathlib.Core.Bool.{true}
use Prim.Native.Nat.{ℕ, ◌≤◌, ◌-◌}
use Rattle.rules.specs.Bytes.{Bytes}
use Rattle.rules.specs.Numbers.{most}
use Rattle.rules.specs.Live.{most_live}
use Rattle.rules.specs.Starts.{log_of}
use Rattle.rules.specs.Marker.{climb}
use Rattle.log_starts.specs.Ways.{passing}
use Rattle.file_bundle.specs.Files.{files_in}
use Rattle.rules.proofs.Climbing.{climb-above}
use Rattle.log_starts.proofs.Passing.{Through, passing-through}
use Rattle.log_history.proofs.Beginning.{begun-latest, begun-goes-on, begun-onward, latest-is}
use Rattle.log_history.proofs.latest.from_checkpoint.Goals as goal

pub passes-requires : goal.passes-requires
passes-requires c =
    (c.requires.0, subst (λ (v : ℕ). c.args.n.0 ≤ v) (sym c.climb-version.ensures) (climb-above most (log_of (files_in c.args.src.now)) c.args.n.0))

-- the way to the version that the climb ends at goes through n
module _ (src : Bytes) (n v : ℕ) where
  through : v ≡ climb most (log_of (files_in src)) n → passing (log_of (files_in src)) n (v - n) ≡ true → Through (log_of (files_in src)) n v
  through e p =
      passing-through (log_of (files_in src)) n v (subst (λ (w : ℕ). n ≤ w) (sym e) (climb-above most (log_of (files_in src)) n)) p

pub onward-reached-requires : goal.onward-reached-requires
unfolding most_live
onward-reached-requires c =
    let goes = through _ _ _ c.climb-version.ensures (sym c.passes.ensures ∙ c.if-passes.true) in
    (c.requires.0, c.requires.1.carries, begun-goes-on c.requires.1 c.climb-version.result.0 goes)

pub returns-then-passes : goal.returns-then-passes
unfolding most_live
returns-then-passes c =
    let goes = through _ _ _ c.climb-version.ensures (sym c.passes.ensures ∙ c.if-passes.true) in
    latest-is _ _ _ _ (c.climb-version.ensures ∙ begun-latest c.requires.1)
    (begun-onward c.requires.1 c.climb-version.result.0 _ c.onward-reached.result goes c.onward-reached.ensures)

pub returns : goal.returns
returns c =
    latest-is _ _ _ _ (c.climb-version.ensures ∙ begun-latest c.requires.1) c.state_at-reached.ensures

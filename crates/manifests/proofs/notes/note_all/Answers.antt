-- `note_all` meets its contract. The loop keeps the manifests that went by, the numbers of those kept, and what is left; what is left gets shorter.
use mathlib.Core.Path.{refl, sym, ap, ◌∙◌, subst}
use mathlib.Core.List.{[], ◌∷◌}
use Prim.Native.Nat.{ℕ, ◌+◌, ◌-◌, ◌≤◌}
use native.Mathlib.Omega.{arith}
use lib.ListN.{length, take, drop, length-append}
use Rattle.rules.specs.Manifests.{manifest_of}
use Rattle.rules.specs.Rooms.{Room}
use Rattle.rules.specs.Json.Text.{spelled}
use Rattle.rules.specs.Json.Values.{value as rule_value}
use Rattle.rules.proofs.Json.TextReads.{spelled_none, spelled-reads}
use Rattle.rules.proofs.Json.ValueReads.{value-reads}
use Rattle.rules.proofs.Json.Places.{spelled-place}
use Rattle.query_conditions.specs.Reading.{conditions_of}
use Rattle.manifests.specs.Walks.{Beyond}
use Rattle.manifest_state.proofs.Gathering.{gathered-neither, gathered-empty, gathered-start, gathered_none}
use Rattle.manifest_state.proofs.Gathering.{gathered-refused, gathered-cut, gathered-closed, gathered-more}
use Rattle.manifests.proofs.Noting.{noted-start, noted_step}
use Rattle.manifests.proofs.Listing.{walked_none, walked-listed}
use Rattle.manifests.proofs.notes.note_all.Goals as goal

pub loop-e-init : goal.loop-e-init
loop-e-init c = (
  [],
  gathered-start
      (spelled (rule_value 30))
      0x5D manifest_of
      c.args.u.now
      c.args.at
      c.in-More.first
      c.in-More.ensures,
  refl,
  noted-start (conditions_of c.args.q.now c.args.asked.count c.args.asked.conditions) c.args.kept.now,
  omega arith,
)

pub returns-in_err-e-in-More : goal.returns-in_err-e-in-More
returns-in_err-e-in-More c =
    rw c.from_residual.ensures (
      walked_none c.args.u.now c.args.at
          (gathered_none (spelled (rule_value 30)) 0x5D manifest_of c.args.u.now c.args.at c.loop-e.i c.loop-e.invariant.0 c.loop-e.invariant.1
          (spelled_none (rule_value 30) (drop c.loop-e.i c.args.u.now) c.in_err-e-in-More.ensures)),
      c.loop-e.invariant.3.outer,
    )

pub returns-in_err-m-in-More : goal.returns-in_err-m-in-More
returns-in_err-m-in-More c =
    let v = c.in_ok-e-in-More.ensures in
    let low : c.loop-e.i + 1 ≤ c.in_ok-e-in-More.e = v.1 in
    let high : c.in_ok-e-in-More.e ≤ length c.args.u.now = v.2 in
    let t = c.in_err-m-in-More.ensures in
    rw c.from_residual-in_err-m-in-More.ensures (
      walked_none c.args.u.now
          c.args.at
          (gathered-refused (spelled (rule_value 30)) 0x5D manifest_of c.args.u.now c.args.at c.loop-e.i c.loop-e.invariant.0 c.loop-e.invariant.1
          c.in_ok-e-in-More.e
          (take (c.in_ok-e-in-More.e - c.loop-e.i) (drop c.loop-e.i c.args.u.now))
          (spelled-place c.args.u.now c.loop-e.i c.in_ok-e-in-More.e (omega arith) high (rule_value 30) v.0)
          (spelled-reads (value-reads 30)) t.0),
      subst (λ (r : Room). Beyond c.args.kept.now r) (sym t.1) c.loop-e.invariant.3.outer,
    )

pub returns-in-Neither-closing : goal.returns-in-Neither-closing
returns-in-Neither-closing c =
    let v = c.in_ok-e-in-More.ensures in
    let low : c.loop-e.i + 1 ≤ c.in_ok-e-in-More.e = v.1 in
    let high : c.in_ok-e-in-More.e ≤ length c.args.u.now = v.2 in
    let t = c.in_ok-m-in-More.ensures in (
      walked_none c.args.u.now
          c.args.at
          (gathered-cut (spelled (rule_value 30)) 0x5D manifest_of c.args.u.now c.args.at c.loop-e.i c.loop-e.invariant.0 c.loop-e.invariant.1
          c.in_ok-e-in-More.e
          (take (c.in_ok-e-in-More.e - c.loop-e.i) (drop c.loop-e.i c.args.u.now))
          (spelled-place c.args.u.now c.loop-e.i c.in_ok-e-in-More.e (omega arith) high (rule_value 30) v.0)
          c.in-Neither-closing.ensures),
      (noted_step (conditions_of c.args.q.now c.args.asked.count c.args.asked.conditions) c.loop-e.invariant.0 t.0 c.loop-e.n c.loop-e.k c.in_ok-m-in-More.m
          c.args.kept.now
          c.loop-e.kept _ c.loop-e.invariant.3 c.loop-e.invariant.2 c.requires.2 t.2).outer,
    )

pub returns-in-Closed-closing : goal.returns-in-Closed-closing
returns-in-Closed-closing c =
    let v = c.in_ok-e-in-More.ensures in
    let low : c.loop-e.i + 1 ≤ c.in_ok-e-in-More.e = v.1 in
    let high : c.in_ok-e-in-More.e ≤ length c.args.u.now = v.2 in
    let t = c.in_ok-m-in-More.ensures in
    let f = c.in-Closed-closing.ensures in
    walked-listed c.args.u.now
    c.args.at
    c.in-Closed-closing.end
    (c.loop-e.k + 1)
    c.in_ok-m-in-More.m
    _
    (conditions_of c.args.q.now c.args.asked.count c.args.asked.conditions)
    c.args.kept.now
    _
    (gathered-closed (spelled (rule_value 30)) 0x5D manifest_of c.args.u.now c.args.at c.loop-e.i c.loop-e.invariant.0 c.loop-e.invariant.1 c.in_ok-e-in-More.e
    (take (c.in_ok-e-in-More.e - c.loop-e.i) (drop c.loop-e.i c.args.u.now))
    (spelled-place c.args.u.now c.loop-e.i c.in_ok-e-in-More.e (omega arith) high (rule_value 30) v.0)
    t.0 t.1 c.in-Closed-closing.end
    f)
    (length-append c.loop-e.invariant.0 (t.0 ∷ []) ∙ ap (λ (j : ℕ). j + 1) c.loop-e.invariant.2)
    (noted_step (conditions_of c.args.q.now c.args.asked.count c.args.asked.conditions) c.loop-e.invariant.0 t.0 c.loop-e.n c.loop-e.k c.in_ok-m-in-More.m
    c.args.kept.now
    c.loop-e.kept _ c.loop-e.invariant.3 c.loop-e.invariant.2 c.requires.2 t.2)
    f.2

pub loop-e-preserved : goal.loop-e-preserved
loop-e-preserved c =
    let v = c.in_ok-e-in-More.ensures in
    let low : c.loop-e.i + 1 ≤ c.in_ok-e-in-More.e = v.1 in
    let high : c.in_ok-e-in-More.e ≤ length c.args.u.now = v.2 in
    let t = c.in_ok-m-in-More.ensures in
    let f = c.in-More-closing.ensures in
    let later : c.in_ok-e-in-More.e + 1 ≤ c.in-More-closing.j = f.1 in
    let early : c.loop-e.k ≤ c.loop-e.i = c.loop-e.invariant.4 in (
      _,
      gathered-more
          (spelled (rule_value 30))
          0x5D manifest_of c.args.u.now
          c.args.at
          c.loop-e.i
          c.loop-e.invariant.0
          c.loop-e.invariant.1
          c.in_ok-e-in-More.e
          (take (c.in_ok-e-in-More.e - c.loop-e.i) (drop c.loop-e.i c.args.u.now))
          (spelled-place c.args.u.now c.loop-e.i c.in_ok-e-in-More.e (omega arith) high (rule_value 30) v.0)
          t.0
          t.1
          (spelled-reads (value-reads 30))
          c.in-More-closing.j
          f,
      (length-append c.loop-e.invariant.0 (t.0 ∷ []) ∙ ap (λ (j : ℕ). j + 1) c.loop-e.invariant.2),
      (noted_step (conditions_of c.args.q.now c.args.asked.count c.args.asked.conditions) c.loop-e.invariant.0 t.0 c.loop-e.n c.loop-e.k c.in_ok-m-in-More.m
          c.args.kept.now
          c.loop-e.kept _ c.loop-e.invariant.3 c.loop-e.invariant.2 c.requires.2 t.2),
      omega arith,
    )

pub returns-in-Neither : goal.returns-in-Neither
returns-in-Neither c = (
  walked_none
      c.args.u.now
      c.args.at
      (gathered-neither (spelled (rule_value 30)) 0x5D manifest_of c.args.u.now c.args.at
      c.in-Neither.ensures),
  record { same = refl; beyond = refl },
)

pub returns-in-Closed : goal.returns-in-Closed
returns-in-Closed c =
    let f = c.in-Closed.ensures in
    walked-listed
    c.args.u.now
    c.args.at
    c.in-Closed.end
    0 0 []
    (conditions_of c.args.q.now c.args.asked.count c.args.asked.conditions)
    c.args.kept.now c.args.kept.now
    (gathered-empty (spelled (rule_value 30)) 0x5D manifest_of c.args.u.now c.args.at c.in-Closed.end f)
    refl
    (noted-start (conditions_of c.args.q.now c.args.asked.count c.args.asked.conditions) c.args.kept.now)
    f.2

-- `drops` meets its contract. By the member that has the column's name, and by the bounds that it states.
use Prim.Native.Nat.{◌-◌, ◌≤◌}
use borrow.Author.Rules.{rules}
use lib.ListN.{length, take, drop}
use Rattle.query_conditions.specs.Conditions.{condition_of}
use Rattle.manifests.proofs.Excluding.{drops-missing, range-both, drops-by, drops-open}
use Rattle.manifests.proofs.judging.drops.Goals as goal
use Rattle.manifests.proofs.judging.drops.Goals.{In-Some}

-- where the value of the column's member stands
inside : (c : In-Some) → (c.in-Some.v ≤ c.in-Some.e) × (c.in-Some.e ≤ length c.args.t.now)
inside c =
    let w = c.requires.1.1 in
    let f = c.in-Some.ensures (record { ms = w.ms; left = w.left; all = w.all }) in
    (f.1, f.2)

pub returns-in_default : goal.returns-in_default
returns-in_default c =
    λ columns w. drops-missing (condition_of c.args.q.now c.args.c) w.ms columns w.each
    (c.in_default.ensures (record { ms = w.ms; left = w.left; all = w.all }))

pub slice_bounds-bounds-count : goal.slice_bounds-bounds-count
slice_bounds-bounds-count c = (inside (goal.at.slice_bounds-bounds-count c).In-Some).0

pub slice_bounds-bounds-start : goal.slice_bounds-bounds-start
slice_bounds-bounds-start c = let within = inside (goal.at.slice_bounds-bounds-start c).In-Some in search rules

pub slice_bounds-bounds-end : goal.slice_bounds-bounds-end
slice_bounds-bounds-end c = let within = inside (goal.at.slice_bounds-bounds-end c).In-Some in search rules

pub returns-in-Some-flatten : goal.returns-in-Some-flatten
returns-in-Some-flatten c =
    λ columns w. let f = c.in-Some.ensures (record { ms = w.ms; left = w.left; all = w.all }) in
    drops-by
    (condition_of c.args.q.now c.args.c)
    w.ms
    columns
    w.each
    (take (c.in-Some.e - c.in-Some.v) (drop c.in-Some.v c.args.t.now))
    f.0
    c.in-Some-flatten.lo
    c.in-Some-flatten.hi
    (range-both _ _ c.range_of.result c.range_of.ensures c.in-Some-flatten.lo c.in-Some-flatten.hi c.in-Some-flatten.ensures)
    c.outside_at.ensures

pub returns-in-None : goal.returns-in-None
returns-in-None c =
    λ columns w. let f = c.in-Some.ensures (record { ms = w.ms; left = w.left; all = w.all }) in
    drops-open
    (condition_of c.args.q.now c.args.c)
    w.ms
    columns
    w.each
    (take (c.in-Some.e - c.in-Some.v) (drop c.in-Some.v c.args.t.now))
    f.0
    c.range_of.result
    c.range_of.ensures
    c.in-None.ensures

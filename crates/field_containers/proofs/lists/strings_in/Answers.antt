-- `strings_in` meets its contract. The loop keeps the strings that went by and what is left; what is left gets shorter.
use Prim.Native.Nat.{◌+◌, ◌≤◌}
use native.Mathlib.Omega.{arith}
use borrow.Author.Rules.{rules}
use lib.ListN.{length}
use Rattle.field_containers.proofs.Collecting.{opened-neither, opened-closed, collected-start}
use Rattle.field_containers.proofs.Collecting.{collected-none, collected-neither, collected-closed, collected-more}
use Rattle.field_containers.proofs.lists.strings_in.Goals as goal

pub loop-x-init : goal.loop-x-init
loop-x-init c =
    let f = c.in-More.ensures in
    (f.2, omega arith, λ d. collected-start d c.args.s.now c.args.at c.in-More.first f)

pub read_name-requires : goal.read_name-requires
read_name-requires c = c.loop-x.invariant.0

pub returns-in_err-x-in-More : goal.returns-in_err-x-in-More
returns-in_err-x-in-More c =
    rw c.from_residual.ensures (λ d. collected-none d c.args.s.now c.args.at c.loop-x.n c.loop-x.i (c.loop-x.invariant.2 d) c.in_err-x-in-More.ensures)

pub overflow_add-n : goal.overflow_add-n
overflow_add-n c =
    let q = c.in_ok-x-in-More.ensures in
    let few : c.loop-x.n ≤ c.loop-x.i = c.loop-x.invariant.1 in
    let low : c.loop-x.i + 1 ≤ c.in_ok-x-in-More.x.at = q.from in
    let mid : c.in_ok-x-in-More.x.at + 1 ≤ c.in_ok-x-in-More.x.end = q.named.from in
    let high : c.in_ok-x-in-More.x.end ≤ length c.args.s.now = q.named.within in
    search rules

pub closing-requires : goal.closing-requires
closing-requires c = c.in_ok-x-in-More.ensures.named.within

pub returns-in-Neither-closing : goal.returns-in-Neither-closing
returns-in-Neither-closing c =
    λ d. collected-neither d
    c.args.s.now
    c.args.at
    c.loop-x.n
    c.loop-x.i
    (c.loop-x.invariant.2 d)
    c.in_ok-x-in-More.x
    c.in_ok-x-in-More.ensures
    c.in-Neither-closing.ensures

pub returns-in-Closed-closing : goal.returns-in-Closed-closing
returns-in-Closed-closing c =
    λ d. collected-closed d
    c.args.s.now
    c.args.at
    c.loop-x.n
    c.loop-x.i
    (c.loop-x.invariant.2 d)
    c.in_ok-x-in-More.x
    c.in_ok-x-in-More.ensures
    c.requires
    c.in-Closed-closing.e
    c.in-Closed-closing.ensures

pub loop-x-smaller : goal.loop-x-smaller
loop-x-smaller c =
    let q = c.in_ok-x-in-More.ensures in
    let few : c.loop-x.n ≤ c.loop-x.i = c.loop-x.invariant.1 in
    let low : c.loop-x.i + 1 ≤ c.in_ok-x-in-More.x.at = q.from in
    let mid : c.in_ok-x-in-More.x.at + 1 ≤ c.in_ok-x-in-More.x.end = q.named.from in
    let high : c.in_ok-x-in-More.x.end ≤ length c.args.s.now = q.named.within in
    let f = c.in-More-closing.ensures in
    let after : c.in_ok-x-in-More.x.end + 1 ≤ c.in-More-closing.j = f.1 in
    let within : c.in-More-closing.j ≤ length c.args.s.now = f.2 in
    omega arith

pub loop-x-preserved : goal.loop-x-preserved
loop-x-preserved c =
    let q = c.in_ok-x-in-More.ensures in
    let few : c.loop-x.n ≤ c.loop-x.i = c.loop-x.invariant.1 in
    let low : c.loop-x.i + 1 ≤ c.in_ok-x-in-More.x.at = q.from in
    let mid : c.in_ok-x-in-More.x.at + 1 ≤ c.in_ok-x-in-More.x.end = q.named.from in
    let high : c.in_ok-x-in-More.x.end ≤ length c.args.s.now = q.named.within in
    let f = c.in-More-closing.ensures in
    let after : c.in_ok-x-in-More.x.end + 1 ≤ c.in-More-closing.j = f.1 in
    let within : c.in-More-closing.j ≤ length c.args.s.now = f.2 in (
      within,
      omega arith,
      λ d. collected-more d c.args.s.now c.args.at c.loop-x.n c.loop-x.i (c.loop-x.invariant.2 d) c.in_ok-x-in-More.x q c.in-More-closing.j f,
    )

pub returns-in-Neither : goal.returns-in-Neither
returns-in-Neither c =
    λ d. opened-neither d c.args.s.now c.args.at c.in-Neither.ensures

pub returns-in-Closed : goal.returns-in-Closed
returns-in-Closed c =
    λ d. opened-closed d
    c.args.s.now
    c.args.at
    c.requires
    c.in-Closed.end
    c.in-Closed.ensures

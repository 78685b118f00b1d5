-- `all_held` meets its contract: what is asked of all columns is asked of those from k on.
use mathlib.Core.Path.{◌≡◌, refl, sym, ◌∙◌}
use Prim.Native.Nat.{◌≤◌}
use native.Mathlib.Omega.{arith}
use borrow.Author.Rules.{rules}
use lib.ListN.{length}
use Rattle.query_picking.proofs.Among.{among-end, among-held, among-not}
use Rattle.query_picking.proofs.columns.all_held.Goals as goal

pub loop-k-init : goal.loop-k-init
loop-k-init c = (omega arith, λ l names w. refl)

pub offset_bounds-conditions-k : goal.offset_bounds-conditions-k
offset_bounds-conditions-k c =
    let few : c.args.n ≤ 8 = c.requires.2.few in search rules

pub bounds-conditions-k : goal.bounds-conditions-k
bounds-conditions-k c =
    let few : c.args.n ≤ 8 = c.requires.2.few in search rules

pub holds_string-requires : goal.holds_string-requires
holds_string-requires c =
    (c.requires.0, (c.requires.2.each c.loop-k.k c.loop-k-test.true).column, c.requires.1)

pub loop-k-preserved : goal.loop-k-preserved
loop-k-preserved c = (
  omega arith,
  λ l names w.
      among-held
      c.args.q.now
      c.args.n
      c.args.conditions
      l names
      c.loop-k.k
      (c.loop-k.invariant.1 l names w)
      c.loop-k-test.true
      (sym (c.holds_string.ensures names w) ∙ c.if-not-holds_string.false),
)

pub returns-then-not-holds_string : goal.returns-then-not-holds_string
returns-then-not-holds_string c = λ names w.
    let l : c.args.n ≤ length c.args.conditions = let size : length c.args.conditions ≡ 8 = search rules in omega (arith, c.requires.2.few) in
    sym (among-not c.args.q.now c.args.n c.args.conditions l names c.loop-k.k (c.loop-k.invariant.1 l names w) c.loop-k-test.true
    (sym (c.holds_string.ensures names w) ∙ c.if-not-holds_string.true))

pub returns : goal.returns
returns c = λ names w.
    let l : c.args.n ≤ length c.args.conditions = let size : length c.args.conditions ≡ 8 = search rules in omega (arith, c.requires.2.few) in
    sym (among-end c.args.q.now c.args.n c.args.conditions l names c.loop-k.k (c.loop-k.invariant.1 l names w) c.loop-k-test.false)

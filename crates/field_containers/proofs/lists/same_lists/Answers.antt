-- `same_lists` meets its contract. An empty array is like an empty one alone.
use Rattle.field_containers.proofs.Walking.{listed-neither, listed_more}
use Rattle.field_containers.proofs.Matching.{lists-empty, lists-short, lists-long}
use Rattle.field_containers.proofs.lists.same_lists.Goals as goal

pub same_from-requires : goal.same_from-requires
same_from-requires c =
    let f = c.in-More.ensures in
    let g = c.in-More-opening-2.ensures in
    (f.2, g.2)

pub returns-in-Neither : goal.returns-in-Neither
returns-in-Neither c =
    λ xs ys a b. listed-neither c.args.s.now c.args.at xs a c.in-Neither.ensures

pub returns-in-Neither-opening : goal.returns-in-Neither-opening
returns-in-Neither-opening c =
    λ xs ys a b. listed-neither c.args.t.now c.args.from ys b c.in-Neither-opening.ensures

pub returns-in-Closed-opening : goal.returns-in-Closed-opening
returns-in-Closed-opening c =
    λ xs ys a b. lists-empty c.args.s.now c.args.at xs a c.args.t.now c.args.from ys b
    c.in-Closed.ensures
    c.in-Closed-opening.ensures

pub returns-in-More-opening : goal.returns-in-More-opening
returns-in-More-opening c =
    λ xs ys a b. lists-short c.args.s.now c.args.at xs a c.args.t.now c.args.from ys b _
    c.in-Closed.ensures
    c.in-More-opening.ensures

pub returns-in-Neither-opening-2 : goal.returns-in-Neither-opening-2
returns-in-Neither-opening-2 c =
    λ xs ys a b. listed-neither c.args.t.now c.args.from ys b c.in-Neither-opening-2.ensures

pub returns-in-Closed-opening-2 : goal.returns-in-Closed-opening-2
returns-in-Closed-opening-2 c =
    λ xs ys a b. lists-long c.args.s.now c.args.at xs a c.args.t.now c.args.from ys b _
    c.in-More.ensures
    c.in-Closed-opening-2.ensures

pub returns-in-More-opening-2 : goal.returns-in-More-opening-2
returns-in-More-opening-2 c =
    λ xs ys a b. c.same_from.ensures xs ys
    (listed_more c.args.s.now c.args.at xs a c.in-More.first c.in-More.ensures)
    (listed_more c.args.t.now c.args.from ys b c.in-More-opening-2.other c.in-More-opening-2.ensures)

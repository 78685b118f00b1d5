-- Line by line, what is live at a path and what protocol is in force go as the lines say.
use mathlib.Core.Path.{◌≡◌, refl, sym, ◌∙◌, ap, subst}
use mathlib.Core.Bool.{Bool, true, false}
use Rattle.std.specs.Prelude.{Option, None, Some}
use mathlib.Core.List.{List, [], ◌∷◌, ◌++◌, append-nil}
use Prim.Native.Nat.{ℕ, suc, ◌+◌}
use native.Mathlib.Omega.{arith}
use lib.ListN.{length}
use Rattle.rules.specs.Bytes.{Bytes, same}
use Rattle.rules.specs.Bundle.{File}
use Rattle.rules.specs.Lines.{lines, any_object}
use Rattle.rules.specs.Actions.{Facts, MetaData, Protocol, Skip, Action, add, remove, protocol, meta_data, mergeskip, other, action}
use Rattle.rules.specs.Live.{most_live, Row, path_of, skipped, put, take_out, change}
use Rattle.rules.specs.History.{State, Origin, of_version, of_checkpoint, Said, added, effect, act, read_line, read_lines, read_file}
use Rattle.rules.specs.History.{said_nothing, say_table, say_protocol, say, zero_lines, or_unstated, read_zero}
use Rattle.rules.specs.Starts.{Way, from_zero, from_checkpoint, and_then, nothing_live, follow}
use Rattle.rules.specs.Reading.{state_within}
use Rattle.rules.specs.Refusals.{accepted, ◌>>=◌, or_refuse, require, malformed, no_version_zero, not_kept}
use Rattle.rules.proofs.Tests.{apart, by}
use Rattle.rules.proofs.Order.{same_true, same_false}
use Rattle.rules.specs.Keyed.{Ascends, lookup}
use Rattle.rules.proofs.Live.{lookup-put, lookup-put-other, lookup-take_out, lookup-take_out-other, none-lookup}
use Rattle.rules.proofs.Changing.{change-none, lookup-change, lookup-change-other}
use Rattle.rules.proofs.Replaying.{bind-accepted, within_limit-accepted, act-accepted, effect-ascends, Ordered, state_by-live}
use Rattle.rules.proofs.Answers.{or_refuse-accepted}
use Rattle.rules.proofs.Json.Suffix.{some_same}
use Rattle.demands.specs.Replayed.{Line, lines_from, lines_in, lines_on, actions, with_skip, after, after_all, live_at, last_protocol}
use Rattle.demands.specs.Replayed.{protocol_before, last_table, table_before, tables_in, ZeroSays, ReplaysExactly}

-- ---- the live file at a path

live_at-lookup : (p : Bytes) (rs : List Row) → live_at p rs ≡ lookup path_of p rs
unfolding live_at lookup
live_at-lookup p [] = refl
live_at-lookup p (r ∷ rs) = go (same p (path_of r)) (live_at-lookup p rs)
  where
    go : (b : Bool) → live_at p rs ≡ lookup path_of p rs
        → ◌≡◌ {A = Option Row} (elim b [ true ↦ Some r | false ↦ live_at p rs ]) (elim b [ true ↦ Some r | false ↦ lookup path_of p rs ])
    go true ih = refl
    go false ih = ih

live_at-put : (p : Bytes) (at size : ℕ) (f : Facts) (rs : List Row)
    → live_at p (put path_of (added at size f) rs) ≡ after at size p (add f) (live_at p rs)
unfolding after path_of added
live_at-put p at size f rs = by (same p f.path) here there
  where
    r : Row
    r = added at size f

    here : same p f.path ≡ true → live_at p (put path_of r rs) ≡ after at size p (add f) (live_at p rs)
    here e =
        let q : p ≡ f.path = same_true p f.path e in
        let found : lookup path_of p (put path_of r rs) ≡ Some r =
        subst (λ (x : Bytes). lookup path_of x (put path_of r rs) ≡ Some r) (sym q) (lookup-put path_of r rs) in
        rw (after, e) (live_at-lookup p (put path_of r rs) ∙ found)

    there : same p f.path ≡ false → live_at p (put path_of r rs) ≡ after at size p (add f) (live_at p rs)
    there e = rw (after, e) (live_at-lookup p (put path_of r rs) ∙ lookup-put-other path_of p r rs (same_false p f.path e) ∙ sym (live_at-lookup p rs))

live_at-take_out : (p : Bytes) (at size : ℕ) (q : Bytes) (rs : List Row) → Ascends path_of rs
    → live_at p (take_out path_of q rs) ≡ after at size p (remove q) (live_at p rs)
unfolding after
live_at-take_out p at size q rs s = by (same p q) here there
  where
    here : same p q ≡ true → live_at p (take_out path_of q rs) ≡ after at size p (remove q) (live_at p rs)
    here e =
        let f : p ≡ q = same_true p q e in
        let gone : lookup path_of p (take_out path_of q rs) ≡ None =
        subst (λ (x : Bytes). lookup path_of x (take_out path_of q rs) ≡ None) (sym f) (lookup-take_out path_of q rs s) in
        rw (after, e) (live_at-lookup p (take_out path_of q rs) ∙ gone)

    there : same p q ≡ false → live_at p (take_out path_of q rs) ≡ after at size p (remove q) (live_at p rs)
    there e = rw (after, e) (live_at-lookup p (take_out path_of q rs) ∙ lookup-take_out-other path_of p q rs (same_false p q e) ∙ sym (live_at-lookup p rs))

live_at-change : (p : Bytes) (at size : ℕ) (q : Bytes) (k : Skip) (rs : List Row)
    → live_at p (change path_of q (skipped k) rs) ≡ after at size p (mergeskip q k) (live_at p rs)
unfolding after with_skip path_of skipped
live_at-change p at size q k rs = by (same p q) here there
  where
    found : (o : Option Row) → lookup path_of q rs ≡ o → lookup path_of q (change path_of q (skipped k) rs) ≡ with_skip k o
    found None e = ap (lookup path_of q) (change-none path_of q (skipped k) rs (none-lookup path_of q rs e)) ∙ e
    found (Some r) e = lookup-change path_of q (skipped k) (λ x. refl) rs r e

    here : same p q ≡ true → live_at p (change path_of q (skipped k) rs) ≡ after at size p (mergeskip q k) (live_at p rs)
    here e =
        let f : p ≡ q = same_true p q e in
        let there : lookup path_of p (change path_of q (skipped k) rs) ≡ with_skip k (lookup path_of p rs) =
        subst
        (λ (x : Bytes). lookup path_of x (change path_of q (skipped k) rs) ≡ with_skip k (lookup path_of x rs))
        (sym f)
        (found (lookup path_of q rs) refl) in
        rw (after, e) (live_at-lookup p (change path_of q (skipped k) rs) ∙ there ∙ ap (with_skip k) (sym (live_at-lookup p rs)))

    there : same p q ≡ false → live_at p (change path_of q (skipped k) rs) ≡ after at size p (mergeskip q k) (live_at p rs)
    there e =
        rw (after, e)
        (live_at-lookup p (change path_of q (skipped k) rs)
        ∙ lookup-change-other path_of q (skipped k) (λ x. refl) p rs (same_false p q e)
        ∙ sym (live_at-lookup p rs))

effect-live : (p : Bytes) (at size : ℕ) (a : Action) (st : State) → Ordered st → live_at p (effect at size a st).live ≡ after at size p a (live_at p st.live)
unfolding effect after
effect-live p at size (add f) st s = live_at-put p at size f st.live
effect-live p at size (remove q) st s = live_at-take_out p at size q st.live s
effect-live p at size (protocol x) st s = refl
effect-live p at size (meta_data m) st s = refl
effect-live p at size (mergeskip q k) st s = live_at-change p at size q k st.live
effect-live p at size other st s = refl

effect-protocol : (at size : ℕ) (a : Action) (acts : List Action) (st : State)
    → last_protocol acts (effect at size a st).in_force ≡ last_protocol (a ∷ acts) st.in_force
unfolding effect last_protocol
effect-protocol at size (add f) acts st = refl
effect-protocol at size (remove q) acts st = refl
effect-protocol at size (protocol x) acts st = refl
effect-protocol at size (meta_data m) acts st = refl
effect-protocol at size (mergeskip q k) acts st = refl
effect-protocol at size other acts st = refl

effect-table : (at size : ℕ) (a : Action) (acts : List Action) (st : State) → last_table acts (effect at size a st).table ≡ last_table (a ∷ acts) st.table
unfolding effect last_table
effect-table at size (add f) acts st = refl
effect-table at size (remove q) acts st = refl
effect-table at size (protocol x) acts st = refl
effect-table at size (meta_data m) acts st = refl
effect-table at size (mergeskip q k) acts st = refl
effect-table at size other acts st = refl

-- ---- lines, files and ways

-- from one state to another, as the lines say
record Goes (ls : List Line) (st to : State) : Type 0 where
  live : (p : Bytes) → live_at p to.live ≡ after_all p ls (live_at p st.live)
  table : to.table ≡ last_table (actions ls) st.table
  in_force : to.in_force ≡ last_protocol (actions ls) st.in_force
  ordered : Ordered to

goes-more : (at size : ℕ) (a : Action) (ls : List Line) (st to : State) → Ordered st → Goes ls (effect at size a st) to
    → Goes (record { at = at; size = size; does = a } ∷ ls) st to
unfolding after_all actions
goes-more at size a ls st to s g = record {
  live = λ p. g.live p ∙ ap (after_all p ls) (effect-live p at size a st s);
  table = g.table ∙ effect-table at size a (actions ls) st;
  in_force = g.in_force ∙ effect-protocol at size a (actions ls) st;
  ordered = g.ordered;
}

read_lines-goes : (of : Origin) (e k at : ℕ) (ls : List Bytes) (st to : State) → Ordered st → read_lines most_live of e k at ls st ≡ accepted to
    → Goes (lines_from at ls) st to
unfolding read_lines read_line lines_from after_all actions last_protocol last_table
read_lines-goes of e k at [] st to s h =
    let q : st ≡ to = cc in
    subst (λ (x : State). Goes [] st x) q (record { live = λ p. refl; table = refl; in_force = refl; ordered = s })
read_lines-goes of e k at ([] ∷ ls) st to s h =
    let q : at + 0 + 1 ≡ at + 1 = omega arith in
    read_lines-goes of e (suc k) (at + 1) ls st to s (subst (λ (x : ℕ). read_lines most_live of e (suc k) x ls st ≡ accepted to) q h)
read_lines-goes of e k at ((b ∷ bs) ∷ ls) st to s h = go (action (b ∷ bs)) h (λ next. read_lines-goes of e (suc k) (at + size + 1) ls next to)
  where
    size : ℕ
    size = length (b ∷ bs)

    go : (o : Option Action)
        → ((or_refuse (malformed e k) o >>= (λ a. act most_live of e k at size a st))
        >>= (λ next. read_lines most_live of e (suc k) (at + size + 1) ls next)) ≡ accepted to
        → ((next : State) → Ordered next → read_lines most_live of e (suc k) (at + size + 1) ls next ≡ accepted to
        → Goes (lines_from (at + size + 1) ls) next to)
        → Goes (elim o [ None ↦ lines_from (at + size + 1) ls | Some a ↦ record { at = at; size = size; does = a } ∷ lines_from (at + size + 1) ls ]) st to
    go None h ih = apart (cc)
    go (Some a) h ih =
        let r = bind-accepted (act most_live of e k at size a st) (λ next. read_lines most_live of e (suc k) (at + size + 1) ls next) h in
        let w = within_limit-accepted most_live e k (effect at size a st) (act-accepted most_live of e k at size a st r.1).1 in
        let t : read_lines most_live of e (suc k) (at + size + 1) ls (effect at size a st) ≡ accepted to =
        subst (λ (x : State). read_lines most_live of e (suc k) (at + size + 1) ls x ≡ accepted to) (sym w.0) r.2 in
        goes-more at size a (lines_from (at + size + 1) ls) st to s (ih (effect at size a st) (effect-ascends at size a st s) t)

read_file-goes : (of : Origin) (f : File) (st to : State) → Ordered st → read_file most_live of f st ≡ accepted to → Goes (lines_in f) st to
unfolding read_file
read_file-goes of f st to s h =
    let r = bind-accepted (read_lines most_live of f.entry 1 f.start (lines f.body) st)
    (λ next. require (malformed f.entry 0) (any_object (lines f.body)) >>= (λ _. accepted next)) h in
    let t = bind-accepted (require (malformed f.entry 0) (any_object (lines f.body))) (λ _. accepted r.0) r.2 in
    let p : accepted r.0 ≡ accepted to = t.2 in
    let q : r.0 ≡ to = cc in
    subst (Goes (lines_in f) st) q (read_lines-goes of f.entry 1 f.start (lines f.body) st r.0 s r.1)

after_all-append : (p : Bytes) (ls ms : List Line) (was : Option Row) → after_all p (ls ++ ms) was ≡ after_all p ms (after_all p ls was)
unfolding after_all
after_all-append p [] ms was = refl
after_all-append p (l ∷ ls) ms was = after_all-append p ls ms (after l.at l.size p l.does was)

actions-append : (ls ms : List Line) → actions (ls ++ ms) ≡ actions ls ++ actions ms
unfolding actions
actions-append [] ms = refl
actions-append (l ∷ ls) ms = ap (λ (x : List Action). l.does ∷ x) (actions-append ls ms)

last_protocol-append : (acts bs : List Action) (was : Protocol) → last_protocol (acts ++ bs) was ≡ last_protocol bs (last_protocol acts was)
unfolding last_protocol
last_protocol-append [] bs was = refl
last_protocol-append (add f ∷ acts) bs was = last_protocol-append acts bs was
last_protocol-append (remove q ∷ acts) bs was = last_protocol-append acts bs was
last_protocol-append (protocol p ∷ acts) bs was = last_protocol-append acts bs p
last_protocol-append (meta_data m ∷ acts) bs was = last_protocol-append acts bs was
last_protocol-append (mergeskip q k ∷ acts) bs was = last_protocol-append acts bs was
last_protocol-append (other ∷ acts) bs was = last_protocol-append acts bs was

last_table-append : (acts bs : List Action) (was : MetaData) → last_table (acts ++ bs) was ≡ last_table bs (last_table acts was)
unfolding last_table
last_table-append [] bs was = refl
last_table-append (add f ∷ acts) bs was = last_table-append acts bs was
last_table-append (remove q ∷ acts) bs was = last_table-append acts bs was
last_table-append (protocol p ∷ acts) bs was = last_table-append acts bs was
last_table-append (meta_data m ∷ acts) bs was = last_table-append acts bs m
last_table-append (mergeskip q k ∷ acts) bs was = last_table-append acts bs was
last_table-append (other ∷ acts) bs was = last_table-append acts bs was

-- along a way, from where nothing is live
record Comes (w : Way) (z to : State) : Type 0 where
  live : (path : Bytes) → live_at path to.live ≡ after_all path (lines_on w) None
  table : to.table ≡ last_table (actions (lines_on w)) (table_before w z.table)
  in_force : to.in_force ≡ last_protocol (actions (lines_on w)) (protocol_before w z.in_force)
  ordered : Ordered to

follow-comes : (z : State) (w : Way) (st : State) → z.live ≡ [] → follow most_live z w ≡ accepted st → Comes w z st
unfolding follow lines_on protocol_before table_before after_all actions last_protocol last_table nothing_live live_at
follow-comes z from_zero st e h =
    let q : z ≡ st = cc in
    subst (Comes from_zero z) q (record { live = λ p. ap (live_at p) e; table = refl; in_force = refl; ordered = subst (Ascends path_of) (sym e) tt })
follow-comes z (from_checkpoint f) st e h =
    let g = read_file-goes of_checkpoint f nothing_live st tt h in
    record { live = g.live; table = g.table; in_force = g.in_force; ordered = g.ordered }
follow-comes z (and_then w g) st e h = go (bind-accepted (follow most_live z w) (λ x. read_file most_live of_version g x) h) (λ x. follow-comes z w x e)
  where
    go : (x : State) × (follow most_live z w ≡ accepted x) × (read_file most_live of_version g x ≡ accepted st)
        → ((x : State) → follow most_live z w ≡ accepted x → Comes w z x) → Comes (and_then w g) z st
    go (x, a, b) ih =
        let c = ih x a in
        let d = read_file-goes of_version g x st c.ordered b in
        record {
          live = λ p. d.live p ∙ ap (after_all p (lines_in g)) (c.live p) ∙ sym (after_all-append p (lines_on w) (lines_in g) None);
          table =
              d.table ∙ ap (last_table (actions (lines_in g))) c.table
              ∙ sym
              (ap (λ (x : List Action). last_table x (table_before w z.table)) (actions-append (lines_on w) (lines_in g))
              ∙ last_table-append (actions (lines_on w)) (actions (lines_in g)) (table_before w z.table));
          in_force =
              d.in_force ∙ ap (last_protocol (actions (lines_in g))) c.in_force
              ∙ sym (ap (λ (x : List Action). last_protocol x (protocol_before w z.in_force)) (actions-append (lines_on w) (lines_in g))
              ∙ last_protocol-append (actions (lines_on w)) (actions (lines_in g)) (protocol_before w z.in_force));
          ordered = d.ordered;
        }

-- ---- version 0

list_of : Option MetaData → List MetaData
list_of None = []
list_of (Some m) = m ∷ []

-- one action, in front of those that are left
say-goes : (a : Action) (left : List Action) (s next : Said) → say a s ≡ Some next
    → (list_of next.of_table ++ tables_in left ≡ list_of s.of_table ++ tables_in (a ∷ left))
    × (last_protocol left (or_unstated next.of_protocol) ≡ last_protocol (a ∷ left) (or_unstated s.of_protocol))
unfolding say say_table say_protocol tables_in last_protocol list_of or_unstated
say-goes (add f) left s next e = apart (cc)
say-goes (remove q) left s next e = apart (cc)
say-goes (protocol p) left s next e = go s.of_protocol e
  where
    go : (o : Option Protocol) → say_protocol o p s ≡ Some next
        → (list_of next.of_table ++ tables_in left ≡ list_of s.of_table ++ tables_in left)
        × (last_protocol left (or_unstated next.of_protocol) ≡ last_protocol left p)
    go None e =
        subst
        (λ (n : Said). (list_of n.of_table ++ tables_in left ≡ list_of s.of_table ++ tables_in left)
        × (last_protocol left (or_unstated n.of_protocol) ≡ last_protocol left p))
        (some_same e)
        (refl, refl)
    go (Some q) e = apart (cc)
say-goes (meta_data m) left s next e = go s.of_table e
  where
    go : (o : Option MetaData) → say_table o m s ≡ Some next
        → (list_of next.of_table ++ tables_in left ≡ list_of o ++ (m ∷ tables_in left))
        × (last_protocol left (or_unstated next.of_protocol) ≡ last_protocol left (or_unstated s.of_protocol))
    go None e =
        subst
        (λ (n : Said). (list_of n.of_table ++ tables_in left ≡ m ∷ tables_in left)
        × (last_protocol left (or_unstated n.of_protocol) ≡ last_protocol left (or_unstated s.of_protocol)))
        (some_same e)
        (refl, refl)
    go (Some n) e = apart (cc)
say-goes (mergeskip q k) left s next e = apart (cc)
say-goes other left s next e =
    subst
    (λ (n : Said). (list_of n.of_table ++ tables_in left ≡ list_of s.of_table ++ tables_in left)
    × (last_protocol left (or_unstated n.of_protocol) ≡ last_protocol left (or_unstated s.of_protocol)))
    (some_same e)
    (refl, refl)

record Said-so (ls : List Line) (s to : Said) : Type 0 where
  table : list_of to.of_table ≡ list_of s.of_table ++ tables_in (actions ls)
  in_force : or_unstated to.of_protocol ≡ last_protocol (actions ls) (or_unstated s.of_protocol)

zero_lines-goes : (e k at : ℕ) (ls : List Bytes) (s to : Said) → zero_lines e k ls s ≡ accepted to → Said-so (lines_from at ls) s to
unfolding zero_lines lines_from actions tables_in last_protocol
zero_lines-goes e k at [] s to h =
    let q : s ≡ to = cc in
    subst (Said-so [] s) q (record { table = sym (append-nil (list_of s.of_table)); in_force = refl })
zero_lines-goes e k at ([] ∷ ls) s to h = let r = zero_lines-goes e (suc k) (at + 1) ls s to h in record { table = r.table; in_force = r.in_force }
zero_lines-goes e k at ((b ∷ bs) ∷ ls) s to h = go (action (b ∷ bs)) refl h (λ next. zero_lines-goes e (suc k) (at + length (b ∷ bs) + 1) ls next to)
  where
    rest : List Line
    rest = lines_from (at + length (b ∷ bs) + 1) ls

    said-so : (a : Action) (o : Option Said) → say a s ≡ o → (or_refuse (malformed e k) o >>= (λ next. zero_lines e (suc k) ls next)) ≡ accepted to
        → ((next : Said) → zero_lines e (suc k) ls next ≡ accepted to → Said-so rest next to)
        → (list_of to.of_table ≡ list_of s.of_table ++ tables_in (a ∷ actions rest))
        × (or_unstated to.of_protocol ≡ last_protocol (a ∷ actions rest) (or_unstated s.of_protocol))
    said-so a None q h ih = apart (cc)
    said-so a (Some next) q h ih = let r = ih next h in let t = say-goes a (actions rest) s next q in (r.table ∙ t.0, r.in_force ∙ t.1)

    go : (o : Option Action) → action (b ∷ bs) ≡ o
        → (or_refuse (malformed e k) o >>= (λ a. or_refuse (malformed e k) (say a s) >>= (λ next. zero_lines e (suc k) ls next))) ≡ accepted to
        → ((next : Said) → zero_lines e (suc k) ls next ≡ accepted to → Said-so rest next to) → Said-so (lines_from at ((b ∷ bs) ∷ ls)) s to
    go None q h ih = apart (cc)
    go (Some a) q h ih = let r = said-so a (say a s) refl h ih in record { table = rw (lines_from, q) r.0; in_force = rw (lines_from, q) r.1 }

read_zero-says : (f : File) (z : State) → read_zero f ≡ accepted z → ZeroSays f z
unfolding read_zero list_of said_nothing or_unstated
read_zero-says f z h =
    let a = bind-accepted (zero_lines f.entry 1 (lines f.body) said_nothing)
    (λ s. or_refuse (malformed f.entry 0) s.of_table >>= (λ m. accepted (state_of s m))) h in
    let b = bind-accepted (or_refuse (malformed f.entry 0) a.0.of_table) (λ m. accepted (state_of a.0 m)) a.2 in
    go
    a.0
    b.0
    (zero_lines-goes f.entry 1 f.start (lines f.body) said_nothing a.0 a.1)
    (or_refuse-accepted (malformed f.entry 0) a.0.of_table b.1)
    b.2
  where
    state_of : Said → MetaData → State
    state_of s m = record { table = m; in_force = or_unstated s.of_protocol; live = [] }

    go : (s : Said) (m : MetaData) → Said-so (lines_in f) said_nothing s → s.of_table ≡ Some m → accepted (state_of s m) ≡ accepted z → ZeroSays f z
    go s m r t e =
        let q : state_of s m ≡ z = cc in
        subst (ZeroSays f) q (record { table = sym r.table ∙ ap list_of t; in_force = r.in_force; live = refl })

-- ---- the state

pub replays-exactly : ReplaysExactly
unfolding state_within
replays-exactly log way st h =
    let a =
    bind-accepted (or_refuse no_version_zero (log.version_file 0)) (λ zf. or_refuse not_kept way >>= (λ w. read_zero zf >>= (λ z. follow most_live z w))) h in
    let b = bind-accepted (or_refuse not_kept way) (λ w. read_zero a.0 >>= (λ z. follow most_live z w)) a.2 in
    let c = bind-accepted (read_zero a.0) (λ z. follow most_live z b.0) b.2 in
    let z = read_zero-says a.0 c.0 c.1 in
    let w = follow-comes c.0 b.0 st z.live c.2 in
    record {
      zero = a.0;
      z = c.0;
      w = b.0;
      zero-there = or_refuse-accepted no_version_zero (log.version_file 0) a.1;
      way-there = or_refuse-accepted not_kept way b.1;
      zero-says = z;
      table = w.table;
      in_force = w.in_force;
      live = w.live;
      in_order = w.ordered;
      few = (state_by-live log way st h).1;
    }

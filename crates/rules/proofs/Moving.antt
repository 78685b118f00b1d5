-- Where a file lies, and which number its entry has, does not matter: the same bodies read on the same facts give the same facts.
use mathlib.Core.Path.{◌≡◌, refl, ap, ap₂, subst}
use mathlib.Core.Bool.{Bool, true, false, ◌&&◌}
use Rattle.std.specs.Prelude.{Option}
use mathlib.Core.List.{List, [], ◌∷◌, map}
use Prim.Native.Nat.{ℕ, suc, ◌+◌}
use lib.Dec.{leb}
use lib.ListN.{length}
use Rattle.rules.specs.Bytes.{Bytes, Order, less, equal, more, order, same, holds, all_among, keep_if}
use Rattle.rules.specs.Bundle.{File}
use Rattle.rules.specs.Lines.{lines, any_object}
use Rattle.rules.specs.Actions.{Facts, Skip, Protocol, MetaData, Action, add, remove, protocol, meta_data, mergeskip, other, action}
use Rattle.rules.specs.Live.{Row, path_of, skipped, put_beside, take_if, change_if, put, take_out, change}
use Rattle.rules.specs.Refusals.{◌>>=◌, Answer, accepted, or_refuse, require, malformed, foreign_keys}
use Rattle.rules.specs.Refusals.{too_many_live, no_such_column, value_out_of_range, reader_too_high, unknown_feature}
use Rattle.rules.specs.History.{State, Origin, of_checkpoint, fits, Said, added, effect, within_limit, act, read_line, read_lines, read_file}
use Rattle.rules.specs.History.{say, said_nothing, zero_lines, or_unstated, read_zero}
use Rattle.rules.specs.Starts.{nothing_live}
use Rattle.rules.specs.Gate.{known_reader, known_writer, reader_names, writer_names, gate, writable}
use Rattle.rules.specs.Query.{Condition, column_of}
use Rattle.rules.specs.Picking.{meets_value, meets_all, picked, out_of, any_out_of, in_range_all}
use Rattle.rules.specs.Reading.{Listing, listing}
use Rattle.rules.specs.Same.{SameFacts, SameRows, no_rows, row, SameProtocol, SameState, SameListing, SameAnswer, both-accepted}
use Rattle.rules.proofs.Tests.{tests-equal}
use Rattle.rules.proofs.Holding.{all_among-holds, holds-all_among}
use Rattle.rules.proofs.Sameness.{length-same-rows, same-facts-refl, same-protocol-refl, same-state-refl, same-answer-refl}
use Rattle.rules.proofs.Answers.{same-bind, same-or_refuse, same-require}

-- ---- rows

-- the same file: its facts, and what was said of it since
SameRow : Row → Row → Type 0
SameRow r s = SameFacts r.facts s.facts × (r.skip ≡ s.skip)

put_beside-same : (o : Order) (r s x y : Row) {xs ys : List Row} (k l : Unit {0} → List Row) → SameRow r s → SameRow x y
    → SameRows xs ys → SameRows (k tt) (l tt) → SameRows (put_beside o r x xs k) (put_beside o s y ys l)
unfolding put_beside SameRow
put_beside-same less r s x y k l a b c d = row a.0 a.1 (row b.0 b.1 c)
put_beside-same equal r s x y k l a b c d = row a.0 a.1 c
put_beside-same more r s x y k l a b c d = row b.0 b.1 d

pub put_same : (r s : Row) {xs ys : List Row} → SameFacts r.facts s.facts → r.skip ≡ s.skip → SameRows xs ys
    → SameRows (put path_of r xs) (put path_of s ys)
unfolding put path_of SameRow
put_same r s a t no_rows = row a t no_rows
put_same r s a t (row {r = x} {s = y} {rs = xs} {ss = ys} b u c) =
    subst (λ (o : Order). SameRows (put path_of r (x ∷ xs)) (put_beside o s y ys (λ _. put path_of s ys))) (ap₂ order a.path b.path)
    (put_beside-same (order r.facts.path x.facts.path) r s x y (λ _. put path_of r xs) (λ _. put path_of s ys) (a, t) (b, u) c (put_same r s a t c))

take_if-same : (o : Bool) (x y : Row) {xs ys : List Row} (k l : Unit {0} → List Row) → SameRow x y
    → SameRows xs ys → SameRows (k tt) (l tt) → SameRows (take_if o x xs k) (take_if o y ys l)
unfolding take_if SameRow
take_if-same true x y k l b c d = c
take_if-same false x y k l b c d = row b.0 b.1 d

pub take_out-same : (p : Bytes) {xs ys : List Row} → SameRows xs ys → SameRows (take_out path_of p xs) (take_out path_of p ys)
unfolding take_out path_of SameRow
take_out-same p no_rows = no_rows
take_out-same p (row {r = x} {s = y} {rs = xs} {ss = ys} b u c) =
    subst (λ (o : Bool). SameRows (take_out path_of p (x ∷ xs)) (take_if o y ys (λ _. take_out path_of p ys))) (ap (same p) b.path)
    (take_if-same (same p x.facts.path) x y (λ _. take_out path_of p xs) (λ _. take_out path_of p ys) (b, u) c (take_out-same p c))

change_if-same : (o : Bool) (t : Skip) (x y : Row) {xs ys : List Row} (k l : Unit {0} → List Row) → SameRow x y
    → SameRows xs ys → SameRows (k tt) (l tt) → SameRows (change_if o (skipped t) x xs k) (change_if o (skipped t) y ys l)
unfolding change_if skipped SameRow
change_if-same true t x y k l b c d = row b.0 refl c
change_if-same false t x y k l b c d = row b.0 b.1 d

pub change-same : (p : Bytes) (t : Skip) {xs ys : List Row} → SameRows xs ys → SameRows (change path_of p (skipped t) xs) (change path_of p (skipped t) ys)
unfolding change path_of SameRow
change-same p t no_rows = no_rows
change-same p t (row {r = x} {s = y} {rs = xs} {ss = ys} b u c) =
    subst (λ (o : Bool). SameRows (change path_of p (skipped t) (x ∷ xs)) (change_if o (skipped t) y ys (λ _. change path_of p (skipped t) ys)))
    (ap (same p) b.path)
    (change_if-same (same p x.facts.path) t x y (λ _. change path_of p (skipped t) xs) (λ _. change path_of p (skipped t) ys) (b, u) c (change-same p t c))

-- ---- states

pub effect-same : (at at' n n' : ℕ) (a : Action) (s t : State) → SameState s t → SameState (effect at n a s) (effect at' n' a t)
unfolding effect added
effect-same at at' n n' (add f) s t h = record {
  table = h.table;
  in_force = h.in_force;
  live = put_same (added at n f) (added at' n' f) (same-facts-refl f) refl h.live;
}
effect-same at at' n n' (remove p) s t h = record { table = h.table; in_force = h.in_force; live = take_out-same p h.live }
effect-same at at' n n' (protocol p) s t h = record { table = h.table; in_force = same-protocol-refl p; live = h.live }
effect-same at at' n n' (meta_data m) s t h = record { table = refl; in_force = h.in_force; live = h.live }
effect-same at at' n n' (mergeskip p k) s t h = record { table = h.table; in_force = h.in_force; live = change-same p k h.live }
effect-same at at' n n' other s t h = h

module _ (limit : ℕ) (of : Origin) where
  within_limit-same : (e e' k : ℕ) (s t : State) → SameState s t → SameAnswer SameState (within_limit limit e k s) (within_limit limit e' k t)
  unfolding within_limit
  within_limit-same e e' k s t h =
      subst
      (λ (n : ℕ). SameAnswer SameState (within_limit limit e k s) (require (too_many_live e' k) (leb n limit) >>= (λ _. accepted t)))
      (length-same-rows h.live)
      (same-require (too_many_live e k) (too_many_live e' k) refl (leb (length s.live) limit) (accepted s) (accepted t) (both-accepted h))

  act-same : (e e' k at at' n : ℕ) (a : Action) (s t : State) → SameState s t
      → SameAnswer SameState (act limit of e k at n a s) (act limit of e' k at' n a t)
  unfolding act
  act-same e e' k at at' n a s t h =
      subst
      (λ (m : MetaData). SameAnswer SameState (act limit of e k at n a s)
      (require (foreign_keys e' k) (fits of a m) >>= (λ _. within_limit limit e' k (effect at' n a t))))
      h.table
      (same-require (foreign_keys e k) (foreign_keys e' k) refl (fits of a s.table) (within_limit limit e k (effect at n a s))
      (within_limit limit e' k (effect at' n a t))
      (within_limit-same e e' k (effect at n a s) (effect at' n a t) (effect-same at at' n n a s t h)))

  read_line-same : (e e' k at at' : ℕ) (l : Bytes) (s t : State) → SameState s t
      → SameAnswer SameState (read_line limit of e k at l s) (read_line limit of e' k at' l t)
  unfolding read_line
  read_line-same e e' k at at' [] s t h = both-accepted h
  read_line-same e e' k at at' (b ∷ bs) s t h =
      same-or_refuse
      (malformed e k)
      (malformed e' k)
      refl
      (action (b ∷ bs))
      (λ a. act limit of e k at (length (b ∷ bs)) a s)
      (λ a. act limit of e' k at' (length (b ∷ bs)) a t)
      (λ a. act-same e e' k at at' (length (b ∷ bs)) a s t h)

  read_lines-same : (e e' k at at' : ℕ) (ls : List Bytes) (s t : State) → SameState s t
      → SameAnswer SameState (read_lines limit of e k at ls s) (read_lines limit of e' k at' ls t)
  unfolding read_lines
  read_lines-same e e' k at at' [] s t h = both-accepted h
  read_lines-same e e' k at at' (l ∷ ls) s t h =
      same-bind (λ next. read_lines limit of e (suc k) (at + length l + 1) ls next) (λ next. read_lines limit of e' (suc k) (at' + length l + 1) ls next)
      (read_line-same e e' k at at' l s t h) (λ a b r. read_lines-same e e' (suc k) (at + length l + 1) (at' + length l + 1) ls a b r)

  -- reading a body, wherever it lies
  read_body : (entry start : ℕ) → Bytes → State → Answer State
  read_body e at body st = read_lines limit of e 1 at (lines body) st >>= (λ next. require (malformed e 0) (any_object (lines body)) >>= (λ _. accepted next))

  read_body-same : (e e' at at' : ℕ) (body : Bytes) (s t : State) → SameState s t → SameAnswer SameState (read_body e at body s) (read_body e' at' body t)
  unfolding read_body
  read_body-same e e' at at' body s t h =
      same-bind
      (λ next. require (malformed e 0) (any_object (lines body)) >>= (λ _. accepted next))
      (λ next. require (malformed e' 0) (any_object (lines body)) >>= (λ _. accepted next))
      (read_lines-same e e' 1 at at' (lines body) s t h)
      (λ a b r. same-require (malformed e 0) (malformed e' 0) refl (any_object (lines body)) (accepted a) (accepted b) (both-accepted r))

  pub read_file-same : (f g : File) (s t : State) → f.body ≡ g.body → SameState s t → SameAnswer SameState (read_file limit of f s) (read_file limit of g t)
  unfolding read_body read_file
  read_file-same f g s t e h =
      subst (λ (body : Bytes). SameAnswer SameState (read_file limit of f s) (read_body g.entry g.start body t)) e
      (read_body-same f.entry g.entry f.start g.start f.body s t h)

-- ---- starts: the same body, wherever it lies

pub begun-same : (limit : ℕ) (f g : File) → f.body ≡ g.body
    → SameAnswer SameState (read_file limit of_checkpoint f nothing_live) (read_file limit of_checkpoint g nothing_live)
begun-same limit f g e = read_file-same limit of_checkpoint f g nothing_live nothing_live e (same-state-refl nothing_live)

-- ---- version 0

zero_lines-same : (e e' k : ℕ) (ls : List Bytes) (s : Said) → SameAnswer (◌≡◌ {A = Said}) (zero_lines e k ls s) (zero_lines e' k ls s)
unfolding zero_lines
zero_lines-same e e' k [] s = both-accepted refl
zero_lines-same e e' k ([] ∷ ls) s = zero_lines-same e e' (suc k) ls s
zero_lines-same e e' k ((b ∷ bs) ∷ ls) s =
    same-or_refuse
    (malformed e k)
    (malformed e' k)
    refl
    (action (b ∷ bs))
    (λ a. or_refuse (malformed e k) (say a s) >>= (λ next. zero_lines e (suc k) ls next))
    (λ a. or_refuse (malformed e' k) (say a s) >>= (λ next. zero_lines e' (suc k) ls next))
    (λ a. same-or_refuse (malformed e k) (malformed e' k) refl (say a s) (λ next. zero_lines e (suc k) ls next) (λ next. zero_lines e' (suc k) ls next)
    (λ next. zero_lines-same e e' (suc k) ls next))

state_of : Said → MetaData → State
state_of s m = record { table = m; in_force = or_unstated s.of_protocol; live = [] }

zero_body : (entry : ℕ) → Bytes → Answer State
unfolding state_of
zero_body e body = zero_lines e 1 (lines body) said_nothing >>= (λ s. or_refuse (malformed e 0) s.of_table >>= (λ m. accepted (state_of s m)))

zero_body-same : (e e' : ℕ) (body : Bytes) → SameAnswer SameState (zero_body e body) (zero_body e' body)
unfolding zero_body
zero_body-same e e' body =
    same-bind
    (λ s. or_refuse (malformed e 0) s.of_table >>= (λ m. accepted (state_of s m)))
    (λ s. or_refuse (malformed e' 0) s.of_table >>= (λ m. accepted (state_of s m)))
    (zero_lines-same e e' 1 (lines body) said_nothing)
    (λ s t q. subst (λ (x : Said). SameAnswer SameState (or_refuse (malformed e 0) s.of_table >>= (λ m. accepted (state_of s m)))
    (or_refuse (malformed e' 0) x.of_table >>= (λ m. accepted (state_of x m)))) q
    (same-or_refuse (malformed e 0) (malformed e' 0) refl s.of_table (λ m. accepted (state_of s m)) (λ m. accepted (state_of s m))
    (λ m. both-accepted (same-state-refl (state_of s m)))))

pub read_zero-same : (f g : File) → f.body ≡ g.body → SameAnswer SameState (read_zero f) (read_zero g)
unfolding zero_body state_of read_zero
read_zero-same f g e = subst (λ (body : Bytes). SameAnswer SameState (read_zero f) (zero_body g.entry body)) e (zero_body-same f.entry g.entry f.body)

-- ---- what a state answers

all_among-same : (names xs ys : List Bytes) → ((x : Bytes) → holds x xs ≡ holds x ys) → all_among names xs ≡ all_among names ys
all_among-same names xs ys h =
    tests-equal (all_among names xs) (all_among names ys)
    (λ e. holds-all_among names ys (λ x q. all_among-holds names xs e x (rw (h x) q)))
    (λ e. holds-all_among names xs (λ x q. all_among-holds names ys e x (rw (← h x) q)))

pub gate_same : {p q : Protocol} → SameProtocol p q → gate p ≡ gate q
unfolding gate
gate_same {p} {q} h =
    ap₂ (λ (r : ℕ) (b : Bool). require reader_too_high (leb r known_reader) >>= (λ _. require unknown_feature b)) h.min_reader_version
    (all_among-same reader_names p.reader_features q.reader_features h.reader_features)

pub writable-same : {p q : Protocol} → SameProtocol p q → writable p ≡ writable q
unfolding writable
writable-same {p} {q} h =
    ap₂
    (λ (r : ℕ) (b : Bool). leb r known_writer && b)
    h.min_writer_version
    (all_among-same writer_names p.writer_features q.writer_features h.writer_features)

meets_all-same : (cs : List Condition) (f g : Facts) → SameFacts f g → meets_all cs f ≡ meets_all cs g
unfolding meets_all
meets_all-same [] f g h = refl
meets_all-same (c ∷ cs) f g h =
    ap₂ (λ (v : Option (Option Bytes)) (b : Bool). elim (meets_value c v) [ true ↦ b | false ↦ false ]) (h.partition_values c.column) (meets_all-same cs f g h)

any_out_of-same : (cs : List Condition) (f g : Facts) → SameFacts f g → any_out_of cs f ≡ any_out_of cs g
unfolding any_out_of
any_out_of-same [] f g h = refl
any_out_of-same (c ∷ cs) f g h =
    ap₂ (λ (v : Option (Option Bytes)) (b : Bool). elim (out_of c v) [ true ↦ true | false ↦ b ]) (h.partition_values c.column) (any_out_of-same cs f g h)

-- the same rows have the same values out of range
pub in_range_all-same : (cs : List Condition) {rs ss : List Row} → SameRows rs ss → in_range_all cs rs ≡ in_range_all cs ss
unfolding in_range_all
in_range_all-same cs no_rows = refl
in_range_all-same cs (row {r} {s} a k h) =
    ap₂ (λ (b c : Bool). elim b [ true ↦ false | false ↦ c ]) (any_out_of-same cs r.facts s.facts a) (in_range_all-same cs h)

pub keep_if-same : (b : Bool) (r s : Row) {rs ss : List Row} → SameFacts r.facts s.facts → r.skip ≡ s.skip → SameRows rs ss
    → SameRows (keep_if b r rs) (keep_if b s ss)
unfolding keep_if
keep_if-same true r s a k h = row a k h
keep_if-same false r s a k h = h

pub picked_same : (cs : List Condition) {rs ss : List Row} → SameRows rs ss → SameRows (picked cs rs) (picked cs ss)
unfolding picked
picked_same cs no_rows = no_rows
picked_same cs (row {r} {s} {rs} {ss} a k h) =
    subst (λ (b : Bool). SameRows (picked cs (r ∷ rs)) (keep_if b s (picked cs ss))) (meets_all-same cs r.facts s.facts a)
    (keep_if-same (meets_all cs r.facts) r s a k (picked_same cs h))

pub listing-same : (cs : List Condition) (v : ℕ) (s t : State) → SameState s t → SameAnswer SameListing (listing cs v s) (listing cs v t)
unfolding listing
listing-same cs v s t h =
    same-bind (λ _. require no_such_column (known s) >>= (λ _. ranged s)) (λ _. require no_such_column (known t) >>= (λ _. ranged t))
    (subst (λ (a : Answer (Unit {0})). SameAnswer (◌≡◌ {A = Unit {0}}) (gate s.in_force) a) (gate_same h.in_force)
    (same-answer-refl (λ a. refl) (gate s.in_force)))
    (λ _ _ _.
    subst
    (λ (b : Bool). SameAnswer SameListing (require no_such_column (known s) >>= (λ _. ranged s)) (require no_such_column b >>= (λ _. ranged t)))
    (ap (λ (m : MetaData). all_among m.partition_columns (map column_of cs)) h.table)
    (same-require no_such_column no_such_column refl (known s) (ranged s) (ranged t) same-ranged))
  where
    known : State → Bool
    known st = all_among st.table.partition_columns (map column_of cs)

    listed : State → Listing
    listed st = record { version = v; table = st.table; in_force = st.in_force; can_write = writable st.in_force; rows = picked cs st.live }

    ranged : State → Answer Listing
    ranged st = require value_out_of_range (in_range_all cs st.live) >>= (λ _. accepted (listed st))

    same-listed : SameListing (listed s) (listed t)
    same-listed = record {
      version = refl;
      table = h.table;
      in_force = h.in_force;
      can_write = writable-same h.in_force;
      rows = picked_same cs h.live;
    }

    same-ranged : SameAnswer SameListing (ranged s) (ranged t)
    same-ranged =
        subst
        (λ (b : Bool). SameAnswer SameListing (ranged s) (require value_out_of_range b >>= (λ _. accepted (listed t))))
        (in_range_all-same cs h.live)
        (same-require value_out_of_range value_out_of_range refl (in_range_all cs s.live) (accepted (listed s)) (accepted (listed t))
        (both-accepted same-listed))

-- The cleaner's test is the relation: two states agree exactly where they are the same in the sense of demand 3.
use mathlib.Core.Path.{◌≡◌, refl, sym, ap, ap₂, ◌∙◌, subst}
use mathlib.Core.Logic.{◌⊎◌, inl, inr}
use mathlib.Core.Bool.{Bool, true, false, ◌&&◌}
use Rattle.std.specs.Prelude.{Option, None, Some}
use mathlib.Core.List.{List, [], ◌∷◌}
use Prim.Native.Nat.{ℕ}
use lib.Dec.{eqb}
use borrow.Author.Tests.{eqb-true, eq-eqb}
use Rattle.rules.specs.Bytes.{Bytes, same, same_set, same_each}
use Rattle.rules.specs.Actions.{Facts, Pairs, Skip, Protocol, MetaData}
use Rattle.rules.specs.Live.{Row}
use Rattle.rules.specs.History.{State}
use Rattle.rules.specs.Picking.{value_at}
use Rattle.rules.specs.Agreement.{agree_value, agree_found, agree_on, agree_pairs, agree_records}
use Rattle.rules.specs.Agreement.{agree_facts, agree_skip, agree_row, agree_rows, agree_protocols, agree_tables, agree}
use Rattle.rules.specs.Same.{SameFacts, SameRows, no_rows, row, SameProtocol, SameState}
use Rattle.rules.proofs.Tests.{apart, and_left, and_right, and_both}
use Rattle.rules.proofs.Order.{same_true, eq-same, ne_same, same_or_not}
use Rattle.rules.proofs.Holding.{same_set-holds, holds-same_set}

-- ---- values that may be missing

-- a test of two such values, by the test of what is there: it passes on equal ones alone
module _ {A : Type 0} (agrees : Option A → Option A → Bool) where
  agreed-true : ((y : A) → agrees None (Some y) ≡ false) → ((x : A) → agrees (Some x) None ≡ false) → ((x y : A) → agrees (Some x) (Some y) ≡ true → x ≡ y)
      → (x y : Option A) → agrees x y ≡ true → x ≡ y
  agreed-true f g both None None e = refl
  agreed-true f g both None (Some y) e = apart (cc (f y))
  agreed-true f g both (Some x) None e = apart (cc (g x))
  agreed-true f g both (Some x) (Some y) e = ap Some (both x y e)

  agreed-refl : agrees None None ≡ true → ((x : A) → agrees (Some x) (Some x) ≡ true) → (x : Option A) → agrees x x ≡ true
  agreed-refl n both None = n
  agreed-refl n both (Some x) = both x

pub agree_value-true : (x y : Option Bytes) → agree_value x y ≡ true → x ≡ y
unfolding agree_value
agree_value-true = agreed-true agree_value (λ y. refl) (λ x. refl) same_true

pub agree_value-refl : (x : Option Bytes) → agree_value x x ≡ true
unfolding agree_value
agree_value-refl = agreed-refl agree_value refl (λ x. eq-same refl)

pub agree_found-true : (x y : Option (Option Bytes)) → agree_found x y ≡ true → x ≡ y
unfolding agree_found
agree_found-true = agreed-true agree_found (λ y. refl) (λ x. refl) agree_value-true

pub agree_found-refl : (x : Option (Option Bytes)) → agree_found x x ≡ true
unfolding agree_found
agree_found-refl = agreed-refl agree_found refl agree_value-refl

pub agree_records-true : (x y : Option ℕ) → agree_records x y ≡ true → x ≡ y
unfolding agree_records
agree_records-true = agreed-true agree_records (λ y. refl) (λ x. refl) eqb-true

pub agree_records-refl : (x : Option ℕ) → agree_records x x ≡ true
unfolding agree_records
agree_records-refl = agreed-refl agree_records refl (λ x. eq-eqb x x refl)

-- ---- partition pairs

module _ (column : Bytes) (p : Bytes × Option Bytes) (ps : Pairs) where
  pub value_at-here : column ≡ p.0 → value_at column (p ∷ ps) ≡ Some p.1
  unfolding value_at
  value_at-here e = rw (eq-same e, value_at)

  pub value_at-past : (column ≡ p.0 → ⊥) → value_at column (p ∷ ps) ≡ value_at column ps
  unfolding value_at
  value_at-past h = rw (ne_same column p.0 h, value_at)

module _ (ps qs : Pairs) where
  -- a column of `these` has the same value in both
  agree_on-at : (these : Pairs) → agree_on these ps qs ≡ true → (column : Bytes) → (value_at column these ≡ None) ⊎ (value_at column ps ≡ value_at column qs)
  unfolding agree_on value_at
  agree_on-at [] h column = inl refl
  agree_on-at (c ∷ these) h column = go (agree_found (value_at c.0 ps) (value_at c.0 qs)) refl h (λ e. agree_on-at these e column) (same_or_not column c.0)
    where
      go : (b : Bool) → agree_found (value_at c.0 ps) (value_at c.0 qs) ≡ b → elim b [ true ↦ agree_on these ps qs | false ↦ false ] ≡ true
          → (agree_on these ps qs ≡ true → (value_at column these ≡ None) ⊎ (value_at column ps ≡ value_at column qs)) → (column ≡ c.0) ⊎ (column ≡ c.0 → ⊥)
          → (value_at column (c ∷ these) ≡ None) ⊎ (value_at column ps ≡ value_at column qs)
      go true e h ih (inl q) = inr (rw q (agree_found-true (value_at c.0 ps) (value_at c.0 qs) e))
      go true e h ih (inr n) = rw (value_at-past column c these n) (ih h)
      go false e h ih q = apart (cc)

  agree_on-all : (these : Pairs) → ((column : Bytes) → value_at column ps ≡ value_at column qs) → agree_on these ps qs ≡ true
  unfolding agree_on
  agree_on-all [] h = refl
  agree_on-all (c ∷ these) h =
      let e : agree_found (value_at c.0 ps) (value_at c.0 qs) ≡ true = rw (h c.0) (agree_found-refl (value_at c.0 qs)) in
      rw (e, agree_on) (agree_on-all these h)

  pub agree_pairs-true : agree_pairs ps qs ≡ true → (column : Bytes) → value_at column ps ≡ value_at column qs
  unfolding agree_pairs
  agree_pairs-true h column =
      go
      (agree_on-at ps (and_left (agree_on ps ps qs) (agree_on qs ps qs) h) column)
      (agree_on-at qs (and_right (agree_on ps ps qs) (agree_on qs ps qs) h) column)
    where
      go : (value_at column ps ≡ None) ⊎ (value_at column ps ≡ value_at column qs) → (value_at column qs ≡ None) ⊎ (value_at column ps ≡ value_at column qs)
          → value_at column ps ≡ value_at column qs
      go (inr e) d = e
      go (inl n) (inr e) = e
      go (inl n) (inl m) = n ∙ sym m

  pub all-agree_pairs : ((column : Bytes) → value_at column ps ≡ value_at column qs) → agree_pairs ps qs ≡ true
  unfolding agree_pairs
  all-agree_pairs h = and_both (agree_on-all ps h) (agree_on-all qs h)

-- ---- facts and rows

four : (a b c d : Bool) → (a && (b && (c && d))) ≡ true → (a ≡ true) × (b ≡ true) × (c ≡ true) × (d ≡ true)
four a b c d h =
    let t : (b && (c && d)) ≡ true = and_right a (b && (c && d)) h in
    let u : (c && d) ≡ true = and_right b (c && d) t in
    (and_left a (b && (c && d)) h, and_left b (c && d) t, and_left c d u, and_right c d u)

pub agree_facts-true : (f g : Facts) → agree_facts f g ≡ true → SameFacts f g
unfolding agree_facts
agree_facts-true f g h =
    let a : Bool = same f.path g.path in
    let b : Bool = eqb f.size g.size in
    let c : Bool = eqb f.modification_time g.modification_time in
    let d : Bool = agree_records f.num_records g.num_records in
    let e : Bool = agree_pairs f.partition_values g.partition_values in
    let u = four b c d e (and_right a (b && (c && (d && e))) h) in
    record {
      path = same_true f.path g.path (and_left a (b && (c && (d && e))) h);
      size = eqb-true f.size g.size u.0;
      modification_time = eqb-true f.modification_time g.modification_time u.1;
      num_records = agree_records-true f.num_records g.num_records u.2;
      partition_values = agree_pairs-true f.partition_values g.partition_values u.3;
    }

pub same-agree_facts : {f g : Facts} → SameFacts f g → agree_facts f g ≡ true
unfolding agree_facts
same-agree_facts {f} {g} s =
    let e : agree_records f.num_records g.num_records ≡ true =
    subst (λ (n : Option ℕ). agree_records f.num_records n ≡ true) s.num_records (agree_records-refl f.num_records) in
    and_both (eq-same s.path)
    (and_both (eq-eqb f.size g.size s.size)
    (and_both (eq-eqb f.modification_time g.modification_time s.modification_time)
    (and_both e
    (all-agree_pairs f.partition_values g.partition_values s.partition_values))))

pub agree_skip-true : (a b : Skip) → agree_skip a b ≡ true → a ≡ b
unfolding agree_skip
agree_skip-true a b h =
    let c : Bool = eqb a.count b.count in
    let t : Bool = eqb a.retry_after b.retry_after in
    ap₂
    (λ (m n : ℕ). record { count = m; retry_after = n })
    (eqb-true a.count b.count (and_left c t h))
    (eqb-true a.retry_after b.retry_after (and_right c t h))

pub same-agree_skip : {a b : Skip} → a ≡ b → agree_skip a b ≡ true
unfolding agree_skip
same-agree_skip {a} {b} e =
    and_both (eq-eqb a.count b.count (ap (λ (s : Skip). s.count) e)) (eq-eqb a.retry_after b.retry_after (ap (λ (s : Skip). s.retry_after) e))

pub agree_row-true : (r s : Row) → agree_row r s ≡ true → SameFacts r.facts s.facts × (r.skip ≡ s.skip)
unfolding agree_row
agree_row-true r s h =
    let a : Bool = agree_facts r.facts s.facts in
    let b : Bool = agree_skip r.skip s.skip in
    (agree_facts-true r.facts s.facts (and_left a b h), agree_skip-true r.skip s.skip (and_right a b h))

pub same-agree_row : (r s : Row) → SameFacts r.facts s.facts → r.skip ≡ s.skip → agree_row r s ≡ true
unfolding agree_row
same-agree_row r s f k = and_both (same-agree_facts f) (same-agree_skip k)

pub agree_rows-true : (rs ss : List Row) → agree_rows rs ss ≡ true → SameRows rs ss
unfolding agree_rows
agree_rows-true [] [] h = no_rows
agree_rows-true [] (s ∷ ss) h = apart (cc)
agree_rows-true (r ∷ rs) [] h = apart (cc)
agree_rows-true (r ∷ rs) (s ∷ ss) h = go (agree_row r s) refl h (agree_rows-true rs ss)
  where
    go : (b : Bool) → agree_row r s ≡ b → elim b [ true ↦ agree_rows rs ss | false ↦ false ] ≡ true
        → (agree_rows rs ss ≡ true → SameRows rs ss) → SameRows (r ∷ rs) (s ∷ ss)
    go true e h ih = let p = agree_row-true r s e in row p.0 p.1 (ih h)
    go false e h ih = apart (cc)

pub same-agree_rows : {rs ss : List Row} → SameRows rs ss → agree_rows rs ss ≡ true
unfolding agree_rows
same-agree_rows no_rows = refl
same-agree_rows (row {r} {s} f k t) = rw (same-agree_row r s f k, agree_rows) (same-agree_rows t)

-- ---- protocols

pub agree_protocols-true : (p q : Protocol) → agree_protocols p q ≡ true → SameProtocol p q
unfolding agree_protocols
agree_protocols-true p q h =
    let u = four (eqb p.min_reader_version q.min_reader_version) (eqb p.min_writer_version q.min_writer_version)
    (same_set p.reader_features q.reader_features) (same_set p.writer_features q.writer_features) h in
    record {
      min_reader_version = eqb-true p.min_reader_version q.min_reader_version u.0;
      min_writer_version = eqb-true p.min_writer_version q.min_writer_version u.1;
      reader_features = same_set-holds p.reader_features q.reader_features u.2;
      writer_features = same_set-holds p.writer_features q.writer_features u.3;
    }

pub same-agree_protocols : {p q : Protocol} → SameProtocol p q → agree_protocols p q ≡ true
unfolding agree_protocols
same-agree_protocols {p} {q} s =
    and_both (eq-eqb p.min_reader_version q.min_reader_version s.min_reader_version)
    (and_both (eq-eqb p.min_writer_version q.min_writer_version s.min_writer_version)
    (and_both (holds-same_set p.reader_features q.reader_features s.reader_features)
    (holds-same_set p.writer_features q.writer_features s.writer_features)))

-- ---- tables

pub same_each-true : (xs ys : List Bytes) → same_each xs ys ≡ true → xs ≡ ys
unfolding same_each
same_each-true [] [] e = refl
same_each-true [] (y ∷ ys) e = apart (cc)
same_each-true (x ∷ xs) [] e = apart (cc)
same_each-true (x ∷ xs) (y ∷ ys) e = go (same x y) refl e (λ h. same_each-true xs ys h)
  where
    go : (b : Bool) → same x y ≡ b → elim b [ true ↦ same_each xs ys | false ↦ false ] ≡ true → (same_each xs ys ≡ true → xs ≡ ys) → x ∷ xs ≡ y ∷ ys
    go true q h ih = ap₂ ◌∷◌ (same_true x y q) (ih h)
    go false q h ih = apart (cc)

pub same_each-refl : (xs : List Bytes) → same_each xs xs ≡ true
unfolding same_each
same_each-refl [] = refl
same_each-refl (x ∷ xs) = rw (eq-same {x = x} refl, same_each) (same_each-refl xs)

pub agree_tables-true : (m n : MetaData) → agree_tables m n ≡ true → m ≡ n
unfolding agree_tables
agree_tables-true m n h =
    let i = same_true m.id n.id (and_left (same m.id n.id) (same_each m.partition_columns n.partition_columns) h) in
    let c = same_each-true m.partition_columns n.partition_columns
    (and_right (same m.id n.id) (same_each m.partition_columns n.partition_columns) h) in
    ap₂ (λ (x : Bytes) (cs : List Bytes). record { id = x; partition_columns = cs }) i c

pub same-agree_tables : {m n : MetaData} → m ≡ n → agree_tables m n ≡ true
unfolding agree_tables
same-agree_tables {m} {n} e =
    subst (λ (x : MetaData). agree_tables m x ≡ true) e (and_both (eq-same refl) (same_each-refl m.partition_columns))

-- ---- states

pub agree-true : (s t : State) → agree s t ≡ true → SameState s t
unfolding agree
agree-true s t h =
    let tables = agree_tables s.table t.table in
    let protocols = agree_protocols s.in_force t.in_force in
    let rows = agree_rows s.live t.live in
    let behind = and_right tables (protocols && rows) h in
    record {
      table = agree_tables-true s.table t.table (and_left tables (protocols && rows) h);
      in_force = agree_protocols-true s.in_force t.in_force (and_left protocols rows behind);
      live = agree_rows-true s.live t.live (and_right protocols rows behind);
    }

pub same-agree : {s t : State} → SameState s t → agree s t ≡ true
unfolding agree
same-agree {s} {t} h = and_both (same-agree_tables h.table) (and_both (same-agree_protocols h.in_force) (same-agree_rows h.live))

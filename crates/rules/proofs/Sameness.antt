-- Sameness of facts, rows, protocols, states, listings and answers is reflexive, symmetric and transitive.
use mathlib.Core.Path.{◌≡◌, refl, sym, ◌∙◌, ap}
use mathlib.Core.List.{List, [], ◌∷◌}
use Prim.Native.Nat.{suc}
use lib.ListN.{length}
use Rattle.rules.specs.Actions.{Facts, Protocol}
use Rattle.rules.specs.Live.{Row}
use Rattle.rules.specs.History.{State}
use Rattle.rules.specs.Reading.{Listing}
use Rattle.rules.specs.Refusals.{Answer, accepted, refused}
use Rattle.rules.specs.Same.{SameFacts, SameRows, no_rows, row, SameProtocol, SameState, SameListing, SameAnswer, both-accepted, both-refused}

-- ---- facts

pub same-facts-refl : (f : Facts) → SameFacts f f
same-facts-refl f = record { path = refl; size = refl; modification_time = refl; num_records = refl; partition_values = λ column. refl }

pub same-facts-sym : {f g : Facts} → SameFacts f g → SameFacts g f
same-facts-sym s = record {
  path = sym s.path;
  size = sym s.size;
  modification_time = sym s.modification_time;
  num_records = sym s.num_records;
  partition_values = λ column. sym (s.partition_values column);
}

pub same-facts-trans : {f g h : Facts} → SameFacts f g → SameFacts g h → SameFacts f h
same-facts-trans s t = record {
  path = s.path ∙ t.path;
  size = s.size ∙ t.size;
  modification_time = s.modification_time ∙ t.modification_time;
  num_records = s.num_records ∙ t.num_records;
  partition_values = λ column. s.partition_values column ∙ t.partition_values column;
}

-- ---- rows

pub same-rows-refl : (rs : List Row) → SameRows rs rs
same-rows-refl [] = no_rows
same-rows-refl (r ∷ rs) = row (same-facts-refl r.facts) refl (same-rows-refl rs)

pub same-rows-sym : {rs ss : List Row} → SameRows rs ss → SameRows ss rs
same-rows-sym no_rows = no_rows
same-rows-sym (row f k s) = row (same-facts-sym f) (sym k) (same-rows-sym s)

pub same-rows-trans : {rs ss ts : List Row} → SameRows rs ss → SameRows ss ts → SameRows rs ts
same-rows-trans no_rows no_rows = no_rows
same-rows-trans (row f k s) (row g l t) = row (same-facts-trans f g) (k ∙ l) (same-rows-trans s t)

pub length-same-rows : {rs ss : List Row} → SameRows rs ss → length rs ≡ length ss
length-same-rows no_rows = refl
length-same-rows (row f k s) = ap suc (length-same-rows s)

-- ---- protocols

pub same-protocol-refl : (p : Protocol) → SameProtocol p p
same-protocol-refl p = record { min_reader_version = refl; min_writer_version = refl; reader_features = λ name. refl; writer_features = λ name. refl }

pub same-protocol-sym : {p q : Protocol} → SameProtocol p q → SameProtocol q p
same-protocol-sym s = record {
  min_reader_version = sym s.min_reader_version;
  min_writer_version = sym s.min_writer_version;
  reader_features = λ name. sym (s.reader_features name);
  writer_features = λ name. sym (s.writer_features name);
}

pub same-protocol-trans : {p q r : Protocol} → SameProtocol p q → SameProtocol q r → SameProtocol p r
same-protocol-trans s t = record {
  min_reader_version = s.min_reader_version ∙ t.min_reader_version;
  min_writer_version = s.min_writer_version ∙ t.min_writer_version;
  reader_features = λ name. s.reader_features name ∙ t.reader_features name;
  writer_features = λ name. s.writer_features name ∙ t.writer_features name;
}

-- ---- states

pub same-state-refl : (s : State) → SameState s s
same-state-refl s = record { table = refl; in_force = same-protocol-refl s.in_force; live = same-rows-refl s.live }

pub same-state-sym : {s t : State} → SameState s t → SameState t s
same-state-sym h = record { table = sym h.table; in_force = same-protocol-sym h.in_force; live = same-rows-sym h.live }

pub same-state-trans : {s t u : State} → SameState s t → SameState t u → SameState s u
same-state-trans h k = record {
  table = h.table ∙ k.table;
  in_force = same-protocol-trans h.in_force k.in_force;
  live = same-rows-trans h.live k.live;
}

-- ---- listings

pub same-listing-refl : (l : Listing) → SameListing l l
same-listing-refl l = record { version = refl; table = refl; in_force = same-protocol-refl l.in_force; can_write = refl; rows = same-rows-refl l.rows }

pub same-listing-sym : {l m : Listing} → SameListing l m → SameListing m l
same-listing-sym s = record {
  version = sym s.version;
  table = sym s.table;
  in_force = same-protocol-sym s.in_force;
  can_write = sym s.can_write;
  rows = same-rows-sym s.rows;
}

pub same-listing-trans : {l m n : Listing} → SameListing l m → SameListing m n → SameListing l n
same-listing-trans s t = record {
  version = s.version ∙ t.version;
  table = s.table ∙ t.table;
  in_force = same-protocol-trans s.in_force t.in_force;
  can_write = s.can_write ∙ t.can_write;
  rows = same-rows-trans s.rows t.rows;
}

-- ---- answers

module _ {A : Type 0} {Same : A → A → Type 0} where
  pub same-answer-refl : ((a : A) → Same a a) → (x : Answer A) → SameAnswer Same x x
  same-answer-refl r (accepted a) = both-accepted (r a)
  same-answer-refl r (refused n) = both-refused refl

  pub same-answer-sym : ((a b : A) → Same a b → Same b a) → {x y : Answer A} → SameAnswer Same x y → SameAnswer Same y x
  same-answer-sym s (both-accepted {a} {b} h) = both-accepted (s a b h)
  same-answer-sym s (both-refused h) = both-refused (sym h)

  pub same-answer-trans : ((a b c : A) → Same a b → Same b c → Same a c) → {x y z : Answer A} → SameAnswer Same x y → SameAnswer Same y z → SameAnswer Same x z
  same-answer-trans t (both-accepted {a} {b} h) (both-accepted {b = c} k) = both-accepted (t a b c h k)
  same-answer-trans t (both-refused h) (both-refused k) = both-refused (h ∙ k)

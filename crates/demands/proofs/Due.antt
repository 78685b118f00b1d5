-- The due listing: which files are due, how it is refused, and that 5, 10, 11 and 18 cannot come up.
use mathlib.Core.Path.{◌≡◌, refl, sym, ap, ap₂, ◌∙◌, subst}
use mathlib.Core.Logic.{◌⊎◌, inl, inr}
use mathlib.Core.Bool.{Bool, true, false}
use Rattle.std.specs.Prelude.{Option, None, Some}
use mathlib.Core.List.{List, [], ◌∷◌, map}
use Prim.Native.Nat.{ℕ}
use native.Mathlib.Omega.{arith}
use lib.Dec.{leb, ltb}
use borrow.Author.Tests.{leb-true, le-leb, ltb-true, lt-ltb}
use Rattle.rules.specs.Bytes.{Bytes, ascii, keep_if, holds}
use Rattle.rules.specs.Bundle.{File}
use Rattle.rules.specs.Actions.{Protocol, MetaData}
use Rattle.rules.specs.Live.{Row}
use Rattle.rules.specs.Starts.{log_of}
use Rattle.rules.specs.Marker.{marked, or_zero, latest}
use Rattle.rules.specs.Query.{Condition, column_of}
use Rattle.rules.specs.Picking.{meets_all, picked}
use Rattle.rules.specs.Reading.{Asked, the_latest, version_asked, Listing, reading}
use Rattle.rules.specs.Due.{is_due, due_rows, due_listing, due}
use Rattle.rules.specs.Refusals.{Refusal, Answer, accepted, refused, ◌>>=◌, plain, not_kept, query_malformed, no_such_column, value_out_of_range}
use Rattle.rules.proofs.Tests.{apart, true-not-false, and_left, and_right, and_both}
use Rattle.rules.proofs.Answers.{accepted-same}
use Rattle.rules.proofs.Replaying.{bind-accepted}
use Rattle.rules.proofs.Due.{query-none, due-accepted, due-refused}
use Rattle.demands.specs.Removed.{In}
use Rattle.demands.specs.Reaching.{There, IsStart, NoStart}
use Rattle.demands.specs.Met.{Unknown}
use Rattle.demands.specs.Ending.{OneOf, Ends, answered, refused-by, DueEnds}
use Rattle.demands.specs.Exactly.{Readable, SomeOutOf, Read, columns_asked, answer_of}
use Rattle.demands.specs.Due.{IsDue, DueOf, no_more, waits, passes, DueSays, DueExactly, DueRefusesExactly}
use Rattle.demands.proofs.Starts.{latest-stops}
use Rattle.demands.proofs.Upward.{marked_start}
use Rattle.demands.proofs.Ending.{reading-ends}
use Rattle.demands.proofs.Exactly.{reading-exactly}

-- ---- which files are due

is_due-true : (time : ℕ) (r : Row) → is_due time r.skip ≡ true → IsDue time r
unfolding is_due
is_due-true time r e =
    let a : Bool = ltb 0 r.skip.count in
    let b : Bool = leb r.skip.retry_after time in
    (ltb-true 0 r.skip.count (and_left a b e), leb-true r.skip.retry_after time (and_right a b e))

true-is_due : (time : ℕ) (r : Row) → IsDue time r → is_due time r.skip ≡ true
unfolding is_due
true-is_due time r (c, t) = and_both (lt-ltb 0 r.skip.count c) (le-leb r.skip.retry_after time t)

due_rows-of : (time : ℕ) (rs : List Row) → DueOf time rs (due_rows time rs)
unfolding due_rows keep_if
due_rows-of time [] = no_more
due_rows-of time (r ∷ rs) = go (is_due time r.skip) refl (due_rows-of time rs)
  where
    go : (b : Bool) → is_due time r.skip ≡ b → DueOf time rs (due_rows time rs) → DueOf time (r ∷ rs) (keep_if b r (due_rows time rs))
    go true e ih = waits (is_due-true time r e) ih
    go false e ih = passes (λ d. true-not-false (true-is_due time r d) e) ih

-- there is one such list
due_of-rows : (time : ℕ) (rs ds : List Row) → DueOf time rs ds → ds ≡ due_rows time rs
unfolding due_rows keep_if
due_of-rows time _ _ no_more = refl
due_of-rows time _ _ (waits {r} {rs} {ds} d h) =
    ap (λ (xs : List Row). r ∷ xs) (due_of-rows time rs ds h) ∙ sym (ap (λ (b : Bool). keep_if b r (due_rows time rs)) (true-is_due time r d))
due_of-rows time _ _ (passes {r} {rs} {ds} n h) = due_of-rows time rs ds h ∙ go (is_due time r.skip) refl
  where
    go : (b : Bool) → is_due time r.skip ≡ b → due_rows time rs ≡ keep_if b r (due_rows time rs)
    go true e = absurd (n (is_due-true time r e))
    go false e = refl

-- ---- what is accepted

-- the query [] picks every file
picked_none : (cs : List Condition) (rs : List Row) → cs ≡ [] → picked cs rs ≡ rs
unfolding picked meets_all keep_if
picked_none cs [] e = refl
picked_none cs (r ∷ rs) e =
    ap (λ (xs : List Condition). keep_if (meets_all xs r.facts) r (picked cs rs)) e ∙ ap (λ (xs : List Row). r ∷ xs) (picked_none cs rs e)

listing-same : (l m : Listing) → l.version ≡ m.version → l.table ≡ m.table → l.in_force ≡ m.in_force → l.can_write ≡ m.can_write → l.rows ≡ m.rows
    → l ≡ m
listing-same l m a b c d e =
    ap₂ (λ (v : ℕ) (t : MetaData). record { version = v; table = t; in_force = l.in_force; can_write = l.can_write; rows = l.rows }) a b
    ∙ ap₂ (λ (p : Protocol) (w : Bool). record { version = m.version; table = m.table; in_force = p; can_write = w; rows = l.rows }) c d
    ∙ ap (λ (rs : List Row). record { version = m.version; table = m.table; in_force = m.in_force; can_write = m.can_write; rows = rs }) e

module _ {room : ℕ} {s : Bytes} {asked : Asked} where
  asks_nothing : (r : Read room s (ascii "[]") asked) → r.opened.cs ≡ []
  asks_nothing r = let e : Some r.opened.cs ≡ Some [] = sym r.opened.query-read ∙ query-none in cc

  all-picked : (r : Read room s (ascii "[]") asked) → picked r.opened.cs r.state.live ≡ r.state.live
  all-picked r = picked_none r.opened.cs r.state.live (asks_nothing r)

  -- nothing asked is unknown, or out of range
  none-unknown : (r : Read room s (ascii "[]") asked) → Unknown r.state.table.partition_columns (columns_asked r) → ⊥
  unfolding holds
  none-unknown r (x, h, n) =
      let e : holds x [] ≡ true = subst (λ (cs : List Condition). holds x (map column_of cs) ≡ true) (asks_nothing r) h in
      apart (cc)

  none_out : (r : Read room s (ascii "[]") asked) → SomeOutOf r.opened.cs r.state.live → ⊥
  none_out r h = go r.state.live (subst (λ (cs : List Condition). SomeOutOf cs r.state.live) (asks_nothing r) h)
    where
      go : (rs : List Row) → SomeOutOf [] rs → ⊥
      go [] h = h
      go (r ∷ rs) (inl h) = h
      go (r ∷ rs) (inr h) = go rs h

  -- the listing that a reading comes to
  of-read : (time : ℕ) (r : Read room s (ascii "[]") asked) → Readable r.state.in_force → DueSays room s asked time (due_listing time (answer_of r))
  unfolding due_listing
  of-read time r p = record {
    read = r;
    readable = p;
    version = refl;
    table = refl;
    in_force = refl;
    can_write = refl;
    rows = subst (λ (rs : List Row). DueOf time r.state.live (due_rows time rs)) (sym (all-picked r)) (due_rows-of time r.state.live);
  }

  -- and no other is said
  is_read : (time : ℕ) (l : Listing) (d : DueSays room s asked time l) → due_listing time (answer_of d.read) ≡ l
  unfolding due_listing
  is_read time l d =
      let r = d.read in
      let e : due_rows time (picked r.opened.cs r.state.live) ≡ l.rows =
      ap (due_rows time) (all-picked r) ∙ sym (due_of-rows time r.state.live l.rows d.rows) in
      listing-same (due_listing time (answer_of r)) l (sym d.version) (sym d.table) (sym d.in_force) (sym d.can_write) e

pub due-exactly : DueExactly
unfolding due
due-exactly room s asked time l = (forth, back)
  where
    forth : due room s asked time ≡ accepted l → DueSays room s asked time l
    forth h =
        let a = bind-accepted (reading room s (ascii "[]") asked) (λ m. accepted (due_listing time m)) h in
        let b = ((reading-exactly room s (ascii "[]") asked).no-0 a.0).0 a.1 in
        subst (DueSays room s asked time) (ap (due_listing time) b.4 ∙ accepted-same a.2) (of-read time b.0 b.1)

    back : DueSays room s asked time l → due room s asked time ≡ accepted l
    back d =
        let r = d.read in
        let e = ((reading-exactly room s (ascii "[]") asked).no-0 (answer_of r)).1 (r, d.readable, none-unknown r, none_out r, refl) in
        due-accepted room s asked time e ∙ ap accepted (is_read time l d)

-- ---- what is refused

pub due-refuses-exactly : DueRefusesExactly
unfolding due
due-refuses-exactly room s asked time r = (go (reading room s (ascii "[]") asked) refl, λ e. due-refused room s asked time e)
  where
    go : (o : Answer Listing) → reading room s (ascii "[]") asked ≡ o → (o >>= (λ m. accepted (due_listing time m))) ≡ refused r
        → reading room s (ascii "[]") asked ≡ refused r
    go (accepted m) e h = apart (cc)
    go (refused x) e h = e ∙ h

-- the marker's checkpoint, or version 0, reaches the latest version
latest-kept : (fs : List File) → There ((log_of fs).version_file 0) → NoStart (log_of fs) (latest (log_of fs)) → ⊥
unfolding or_zero
latest-kept fs z n = n (or_zero (marked (log_of fs))) (start (marked (log_of fs)) refl) (latest-stops fs).reached
  where
    start : (o : Option ℕ) → marked (log_of fs) ≡ o → IsStart (log_of fs) (or_zero o)
    start None e = inl (refl, z)
    start (Some c) e = inr (marked_start (log_of fs) c e)

-- the numbers that name entry and line
abbrev OfALine : ℕ → Type 0
OfALine k = (k ≡ 6) ⊎ ((k ≡ 7) ⊎ (k ≡ 21))

-- a refusal of any other number has no entry and no line
plain-is : (r : Refusal) (k : ℕ) → r.number ≡ k → (r.entry ≡ 0) × (r.line ≡ 0) → r ≡ plain k
plain-is r k e (f, g) =
    ap₂ (λ (n x : ℕ). record { number = n; entry = x; line = r.line }) e f ∙ ap (λ (l : ℕ). record { number = k; entry = 0; line = l }) g

module _ (room : ℕ) (s : Bytes) where
  asked-so : Answer Listing
  asked-so = reading room s (ascii "[]") the_latest

  never-5 : asked-so ≡ refused not_kept → ⊥
  unfolding asked-so version_asked
  never-5 e =
      let a = (reading-exactly room s (ascii "[]") the_latest).no-5.0 e in
      latest-kept a.0.fs a.1 a.2

  never-10 : asked-so ≡ refused query_malformed → ⊥
  unfolding asked-so
  never-10 e =
      let a = (reading-exactly room s (ascii "[]") the_latest).no-10.0 e in
      let q : Some [] ≡ None = sym query-none ∙ a.1 in
      apart (cc)

  never-11 : asked-so ≡ refused no_such_column → ⊥
  unfolding asked-so
  never-11 e = let a = (reading-exactly room s (ascii "[]") the_latest).no-11.0 e in none-unknown a.0 a.2

  never-18 : asked-so ≡ refused value_out_of_range → ⊥
  unfolding asked-so
  never-18 e = let a = (reading-exactly room s (ascii "[]") the_latest).no-18.0 e in none_out a.0 a.3

  -- what is left of reading's list
  left : (n : ℕ) → (n ≡ 5 → ⊥) → (n ≡ 10 → ⊥) → (n ≡ 11 → ⊥) → (n ≡ 18 → ⊥)
      → In n (1 ∷ 10 ∷ 2 ∷ 3 ∷ 4 ∷ 5 ∷ 6 ∷ 21 ∷ 7 ∷ 8 ∷ 9 ∷ 11 ∷ 18 ∷ []) → In n (1 ∷ 2 ∷ 3 ∷ 4 ∷ 6 ∷ 21 ∷ 7 ∷ 8 ∷ 9 ∷ [])
  left n not-5 not-10 not-11 not-18 (inl e) = inl e
  left n not-5 not-10 not-11 not-18 (inr (inl e)) = absurd (not-10 e)
  left n not-5 not-10 not-11 not-18 (inr (inr (inl e))) = inr (inl e)
  left n not-5 not-10 not-11 not-18 (inr (inr (inr (inl e)))) = inr (inr (inl e))
  left n not-5 not-10 not-11 not-18 (inr (inr (inr (inr (inl e))))) = inr (inr (inr (inl e)))
  left n not-5 not-10 not-11 not-18 (inr (inr (inr (inr (inr (inl e)))))) = absurd (not-5 e)
  left n not-5 not-10 not-11 not-18 (inr (inr (inr (inr (inr (inr (inl e))))))) = inr (inr (inr (inr (inl e))))
  left n not-5 not-10 not-11 not-18 (inr (inr (inr (inr (inr (inr (inr i))))))) = inr (inr (inr (inr (inr (last i)))))
    where
      last : In n (21 ∷ 7 ∷ 8 ∷ 9 ∷ 11 ∷ 18 ∷ []) → In n (21 ∷ 7 ∷ 8 ∷ 9 ∷ [])
      last (inl e) = inl e
      last (inr (inl e)) = inr (inl e)
      last (inr (inr (inl e))) = inr (inr (inl e))
      last (inr (inr (inr (inl e)))) = inr (inr (inr (inl e)))
      last (inr (inr (inr (inr (inl e))))) = absurd (not-11 e)
      last (inr (inr (inr (inr (inr (inl e)))))) = absurd (not-18 e)
      last (inr (inr (inr (inr (inr (inr e)))))) = absurd e

  none-else : (r : Refusal) → asked-so ≡ refused r → OneOf (1 ∷ 10 ∷ 2 ∷ 3 ∷ 4 ∷ 5 ∷ 6 ∷ 21 ∷ 7 ∷ 8 ∷ 9 ∷ 11 ∷ 18 ∷ []) r
      → OneOf (1 ∷ 2 ∷ 3 ∷ 4 ∷ 6 ∷ 21 ∷ 7 ∷ 8 ∷ 9 ∷ []) r
  none-else r e o = record {
    listed = left r.number (not 5 (λ n. other-5 n) never-5) (not 10 (λ n. other-10 n) never-10) (not 11 (λ n. other-11 n) never-11)
        (not 18 (λ n. other-18 n) never-18) o.listed;
    else-zero = o.else-zero;
  }
    where
      other-5 : OfALine 5 → ⊥
      other-5 (inl e) = omega arith
      other-5 (inr (inl e)) = omega arith
      other-5 (inr (inr e)) = omega arith

      other-10 : OfALine 10 → ⊥
      other-10 (inl e) = omega arith
      other-10 (inr (inl e)) = omega arith
      other-10 (inr (inr e)) = omega arith

      other-11 : OfALine 11 → ⊥
      other-11 (inl e) = omega arith
      other-11 (inr (inl e)) = omega arith
      other-11 (inr (inr e)) = omega arith

      other-18 : OfALine 18 → ⊥
      other-18 (inl e) = omega arith
      other-18 (inr (inl e)) = omega arith
      other-18 (inr (inr e)) = omega arith

      not : (k : ℕ) → (OfALine k → ⊥) → (asked-so ≡ refused (plain k) → ⊥) → r.number ≡ k → ⊥
      not k other never q =
          never
          (e
          ∙ ap refused
          (plain-is r k q (o.else-zero (λ h. other (inl (sym q ∙ h))) (λ h. other (inr (inl (sym q ∙ h)))) (λ h. other (inr (inr (sym q ∙ h)))))))

pub due-ends : DueEnds
unfolding due asked-so
due-ends room s time = go (reading room s (ascii "[]") the_latest) refl (reading-ends room s (ascii "[]") the_latest)
  where
    go : (o : Answer Listing) → reading room s (ascii "[]") the_latest ≡ o → Ends (1 ∷ 10 ∷ 2 ∷ 3 ∷ 4 ∷ 5 ∷ 6 ∷ 21 ∷ 7 ∷ 8 ∷ 9 ∷ 11 ∷ 18 ∷ []) o
        → Ends (1 ∷ 2 ∷ 3 ∷ 4 ∷ 6 ∷ 21 ∷ 7 ∷ 8 ∷ 9 ∷ []) (o >>= (λ m. accepted (due_listing time m)))
    go _ e (answered m) = answered (due_listing time m)
    go _ e (refused-by r one) = refused-by r (none-else room s r e one)

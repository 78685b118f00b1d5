-- A query read in place: each condition where its object stands, in one pass over the array, is what the rules read in two,
-- the texts of the array's values and then what each text is.
use mathlib.Core.Path.{◌≡◌, refl, sym, ap, ◌∙◌, subst}
use mathlib.Core.Bool.{Bool, true, false}
use Rattle.std.specs.Prelude.{Option, None, Some}
use mathlib.Core.List.{List, [], ◌∷◌, ◌++◌, map}
use Prim.Native.Nat.{ℕ, zero, suc}
use borrow.Author.Tests.{eqb-true, eqb-false}
use lib.Dec.{eqb, leb}
use lib.ListN.{length}
use Rattle.rules.specs.Bytes.{◌>>=◌, guard, is_empty, distinct}
use Rattle.rules.specs.Actions.{in_line, in_action}
use Rattle.rules.specs.Json.Text.{Text, behind, spelled, ws, byte}
use Rattle.rules.specs.Json.Values.{Member, Behind, closed, onward, neither, opening, closing, and_then, after_item}
use Rattle.rules.specs.Json.Values.{items, items_behind, list, contents, elements, value, alone, object_of, array_of}
use Rattle.rules.specs.Query.{Condition, condition_in, conditions_in, column_of, most_query, most_conditions, query}
use Rattle.rules.proofs.Tests.{apart, by}
use Rattle.rules.proofs.Json.Suffix.{Reads, EachTakes, some_same, value_same, bound}
use Rattle.rules.proofs.Json.TextReads.{spelled-some, spelled_none, spelled-reads}
use Rattle.rules.proofs.Json.ValueReads.{value-reads}
use Rattle.rules.proofs.Json.Steps.{value-end, value-object, alone-end, alone-more}
use Rattle.rules.proofs.Json.InPlace.{object-text, object_of-other}
use Rattle.query_conditions.specs.Conditions.{condition_read}
use Rattle.query_conditions.specs.Reading.{few_of}

-- ---- a condition

abbrev condition_is : Text → Option Condition
condition_is v = object_of in_action v >>= condition_in

abbrev with : Text → Option Condition → Option (Condition × Text)
with u o = o >>= (λ c. Some (c, u))

-- the text of a value, and the condition that the text is
abbrev in_two : Option (Text × Text) → Option (Condition × Text)
in_two o = o >>= (λ p. with p.1 (condition_is p.0))

read-object : (t : Text) → condition_read (0x7B ∷ t) ≡ (contents (value in_action) t >>= (λ p. with p.1 (condition_in p.0)))
unfolding condition_read byte
read-object t = refl

object-in-two : (t : Text) (o : Option (List Member × Text)) → contents (value in_action) t ≡ o
    → (o >>= (λ p. with p.1 (condition_in p.0))) ≡ in_two (spelled (value in_line) (0x7B ∷ t))
unfolding in_line in_action
object-in-two t None e = sym (ap in_two (spelled_none (value 31) (0x7B ∷ t) (value-object 31 30 t refl ∙ ap behind e)))
object-in-two t (Some p) e =
    let whole = spelled-some (value 31) (0x7B ∷ t) (value-object 31 30 t refl ∙ ap behind e) in
    let (ms, f, g) = object-text 30 t _ _ whole in
    sym (ap in_two whole ∙ ap (λ (o : Option (List Member)). with p.1 (o >>= condition_in)) (g ∙ ap Some (value_same (sym f ∙ e))))

other-in-two : (b : ℕ) (t : Text) (o : Option (Text × Text)) → (b ≡ 0x7B → ⊥) → spelled (value in_line) (b ∷ t) ≡ o → None ≡ in_two o
other-in-two b t None n e = refl
other-in-two b t (Some p) n e = sym (ap (λ (o : Option (List Member)). with p.1 (o >>= condition_in)) (object_of-other in_action in_line b t p.0 p.1 n e))

read-in-two : (t : Text) → condition_read t ≡ in_two (spelled (value in_line) t)
unfolding condition_read byte
read-in-two [] = sym (ap in_two (spelled_none (value in_line) [] (value-end in_line)))
read-in-two (b ∷ t) = by (eqb b 0x7B)
    (λ p. subst (λ (c : ℕ). condition_read (c ∷ t) ≡ in_two (spelled (value in_line) (c ∷ t))) (sym (eqb-true b 0x7B p))
    (read-object t ∙ object-in-two t (contents (value in_action) t) refl))
    (λ p. rw (condition_read, byte, p) (other-in-two b t (spelled (value in_line) (b ∷ t)) (eqb-false b 0x7B p) refl))

pub condition_read-reads : EachTakes 1 condition_read
condition_read-reads c t r e = bound (spelled (value in_line) t) _ (sym (read-in-two t) ∙ e) (λ p f g.
    bound (condition_is p.0) _ g (λ d h k.
    let same : p.1 ≡ r = ap (λ (y : Condition × Text). y.1) (some_same k) in
    let here : Reads 1 (spelled (value in_line)) (λ v. Some (p.0, v)) t p.1 = spelled-reads (value-reads in_line) p.0 t p.1 f in
    subst (Reads 1 condition_read (λ v. Some (c, v)) t) same (record {
      passed = here.passed;
      split = here.split;
      enough = here.enough;
      again = λ v b. read-in-two (here.passed ++ v) ∙ ap in_two (here.again v b) ∙ ap (with v) (h ∙ ap Some (value_same k));
    })))

-- ---- the array

abbrev each_in : Option (List Text × Text) → Option (List Condition × Text)
each_in o = o >>= (λ p. conditions_in p.0 >>= (λ cs. Some (cs, p.1)))

conditions-none : (v : Text) (vs : List Text) → condition_is v ≡ None → conditions_in (v ∷ vs) ≡ None
unfolding conditions_in
conditions-none v vs e = go (object_of in_action v) e
  where
    go : (o : Option (List Member)) → (o >>= condition_in) ≡ None → (o >>= (λ ms. condition_in ms >>= (λ c. conditions_in vs >>= (λ cs. Some (c ∷ cs))))) ≡ None
    go None f = refl
    go (Some ms) f = rw f

conditions-more : (v : Text) (vs : List Text) {c : Condition} → condition_is v ≡ Some c → conditions_in (v ∷ vs) ≡ (conditions_in vs >>= (λ cs. Some (c ∷ cs)))
unfolding conditions_in
conditions-more v vs {c} e = go (object_of in_action v) e
  where
    go : (o : Option (List Member)) → (o >>= condition_in) ≡ Some c
        → (o >>= (λ ms. condition_in ms >>= (λ c. conditions_in vs >>= (λ cs. Some (c ∷ cs))))) ≡ (conditions_in vs >>= (λ cs. Some (c ∷ cs)))
    go None f = apart (cc)
    go (Some ms) f = rw f

module _ (x : Text) where
  each_none : condition_is x ≡ None → (o : Option (List Text × Text)) → None ≡ each_in (and_then x o)
  unfolding and_then
  each_none q None = refl
  each_none q (Some p) = sym (ap (λ (l : Option (List Condition)). l >>= (λ cs. Some (cs, p.1))) (conditions-none x p.0 q))

  each_more : {c : Condition} → condition_is x ≡ Some c → (o : Option (List Text × Text)) → and_then c (each_in o) ≡ each_in (and_then x o)
  unfolding and_then
  each_more q None = refl
  each_more {c} q (Some p) = go (conditions_in p.0) ∙ sym (ap (λ (l : Option (List Condition)). l >>= (λ cs. Some (cs, p.1))) (conditions-more x p.0 q))
    where
      go : (l : Option (List Condition)) → and_then c (l >>= (λ cs. Some (cs, p.1))) ≡ ((l >>= (λ cs. Some (c ∷ cs))) >>= (λ cs. Some (cs, p.1)))
      go None = refl
      go (Some cs) = refl

items-each : (close n : ℕ) (t : Text) → items condition_read close n t ≡ each_in (items (spelled (value in_line)) close n t)
unfolding items after_item conditions_in
items-each close zero t = refl
items-each close (suc n) t = go (λ u. items-each close n u) (spelled (value in_line) t) refl
  where
    within : Text → Option (List Text × Text)
    within u = items (spelled (value in_line)) close n u

    bad : (x : Text) → condition_is x ≡ None → (b : Behind) → None ≡ each_in (after_item x b within)
    bad x q (closed u) = sym (ap (λ (l : Option (List Condition)). l >>= (λ cs. Some (cs, u))) (conditions-none x [] q))
    bad x q (onward u) = each_none x q (within u)
    bad x q neither = refl

    good : ((u : Text) → items condition_read close n u ≡ each_in (within u)) → (x : Text) {c : Condition} → condition_is x ≡ Some c → (b : Behind)
        → after_item c b (λ u. items condition_read close n u) ≡ each_in (after_item x b within)
    good ih x q (closed u) = sym (ap (λ (l : Option (List Condition)). l >>= (λ cs. Some (cs, u))) (conditions-more x [] q))
    good ih x {c} q (onward u) = ap (and_then c) (ih u) ∙ each_more x q (within u)
    good ih x q neither = refl

    one : ((u : Text) → items condition_read close n u ≡ each_in (within u)) → (p : Text × Text) → spelled (value in_line) t ≡ Some p → (d : Option Condition)
        → condition_is p.0 ≡ d → items condition_read close (suc n) t ≡ each_in (items (spelled (value in_line)) close (suc n) t)
    one ih p e None q = rw (items, read-in-two t ∙ ap in_two e ∙ ap (with p.1) q, e) (bad p.0 q (closing close p.1))
    one ih p e (Some c) q = rw (items, read-in-two t ∙ ap in_two e ∙ ap (with p.1) q, e) (good ih p.0 q (closing close p.1))

    go : ((u : Text) → items condition_read close n u ≡ each_in (within u)) → (o : Option (Text × Text)) → spelled (value in_line) t ≡ o
        → items condition_read close (suc n) t ≡ each_in (items (spelled (value in_line)) close (suc n) t)
    go ih None e = rw (items, read-in-two t ∙ ap in_two e, e)
    go ih (Some p) e = one ih p e (condition_is p.0) refl

list-each : (close : ℕ) (t : Text) → list condition_read close t ≡ each_in (list (spelled (value in_line)) close t)
unfolding list items_behind conditions_in
list-each close t = go (opening close t)
  where
    go : (b : Behind) → items_behind condition_read close b ≡ each_in (items_behind (spelled (value in_line)) close b)
    go (closed u) = refl
    go (onward u) = items-each close (suc (length u)) u
    go neither = refl

-- ---- the query

conditions-length : (vs : List Text) {cs : List Condition} → conditions_in vs ≡ Some cs → length cs ≡ length vs
unfolding conditions_in
conditions-length [] e = ap length (sym (some_same e))
conditions-length (v ∷ vs) e =
    bound (object_of in_action v) _ e (λ ms _ f.
    bound (condition_in ms) _ f (λ c _ g.
    bound (conditions_in vs) _ g (λ ds h k.
    ap length (sym (some_same k)) ∙ ap suc (conditions-length vs h))))

abbrev apart_in : List Condition → Option (List Condition)
apart_in cs = guard (distinct (map column_of cs)) >>= (λ _. Some cs)

-- of the bytes behind its bracket
abbrev pub query_behind : Option (List Condition × Text) → Option (List Condition)
query_behind o = alone (few_of o) >>= apart_in

behind-each : (o : Option (List Text × Text))
    → (alone o >>= (λ vs. guard (leb (length vs) most_conditions) >>= (λ _. conditions_in vs >>= apart_in))) ≡ query_behind (each_in o)
unfolding alone
behind-each None = refl
behind-each (Some p) = by (is_empty (ws p.1))
    (λ a. rw (alone, a) (full (conditions_in p.0) refl a))
    (λ a. rw (alone, a) (empty (conditions_in p.0) a))
  where
    few : (cs : List Condition) → is_empty (ws p.1) ≡ true → (b : Bool)
        → ((guard b >>= (λ _. apart_in cs)) ≡ (alone (guard b >>= (λ _. Some (cs, p.1))) >>= apart_in))
    few cs a true = rw (alone, a)
    few cs a false = refl

    full : (o : Option (List Condition)) → conditions_in p.0 ≡ o → is_empty (ws p.1) ≡ true
        → (guard (leb (length p.0) most_conditions) >>= (λ _. o >>= apart_in)) ≡ query_behind (o >>= (λ cs. Some (cs, p.1)))
    full None e a = by (leb (length p.0) most_conditions) (λ b. rw b) (λ b. rw b)
    full (Some cs) e a = rw (sym (conditions-length p.0 e)) (few cs a (leb (length cs) most_conditions))

    empty : (o : Option (List Condition)) → is_empty (ws p.1) ≡ false → None ≡ query_behind (o >>= (λ cs. Some (cs, p.1)))
    empty None a = refl
    empty (Some cs) a = by (leb (length cs) most_conditions) (λ b. rw (b, alone, a)) (λ b. rw b)

module _ (o : Option (List Condition × Text)) where
  pub behind-none : few_of o ≡ None → query_behind o ≡ None
  unfolding alone
  behind-none e = ap (λ (p : Option (List Condition × Text)). alone p >>= apart_in) e

  module _ {cs : List Condition} {u : Text} (all : few_of o ≡ Some (cs, u)) where
    pub behind_more : {b : ℕ} {w : Text} → ws u ≡ b ∷ w → query_behind o ≡ None
    behind_more e = ap (λ (p : Option (List Condition)). p >>= apart_in) (alone-more all e)

    module _ (end : ws u ≡ []) where
      behind-end : query_behind o ≡ apart_in cs
      behind-end = ap (λ (p : Option (List Condition)). p >>= apart_in) (alone-end all end)

      pub behind-apart : distinct (map column_of cs) ≡ true → query_behind o ≡ Some cs
      behind-apart e = behind-end ∙ ap (λ (b : Bool). guard b >>= (λ _. Some cs)) e

      pub behind-twice : distinct (map column_of cs) ≡ false → query_behind o ≡ None
      behind-twice e = behind-end ∙ ap (λ (b : Bool). guard b >>= (λ _. Some cs)) e

module _ (s : Text) where
  pub query-long : leb (length s) most_query ≡ false → query s ≡ None
  unfolding query
  query-long e = rw (query, e)

  module _ (few : leb (length s) most_query ≡ true) where
    pub query-no-array : byte 0x5B (ws s) ≡ None → query s ≡ None
    unfolding query array_of
    query-no-array e = rw (query, few, array_of, e)

    pub query-array : {r : Text} → byte 0x5B (ws s) ≡ Some r → query s ≡ query_behind (list condition_read 0x5D r)
    unfolding query array_of elements
    query-array {r} e = rw (query, few, array_of, e) (behind-each (list (spelled (value in_line)) 0x5D r) ∙ sym (ap query_behind (list-each 0x5D r)))

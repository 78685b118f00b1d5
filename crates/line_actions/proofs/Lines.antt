-- A line and its one member: read up to the value, the value in its place, and behind it.
use mathlib.Core.Path.{◌≡◌, refl, sym, ap, ◌∙◌}
use mathlib.Core.Bool.{Bool, true, false}
use Rattle.std.specs.Prelude.{Option, None, Some}
use mathlib.Core.List.{List, [], ◌∷◌}
use Prim.Native.Nat.{ℕ, zero, suc, ◌+◌, ◌-◌, ◌≤◌, ◌<◌}
use native.Mathlib.Omega.{arith}
use borrow.Author.Tests.{eq-eqb, le-leb, lt-leb}
use lib.Dec.{leb}
use lib.ListN.{length, take, drop, length-drop}
use Rattle.rules.specs.Actions.{in_line, in_action, Key, key_of, add, remove, protocol, meta_data, mergeskip, other}
use Rattle.rules.specs.Actions.{add_of, path_at, protocol_of, meta_data_of, skip_of, action_by, only_one, line_member, action}
use Rattle.rules.specs.Bytes.{Bytes, ascii, ◌>>=◌, guard, first, same, is_empty}
use Rattle.rules.specs.Json.Text.{Text, Taker, behind as left, spelled, ws, byte}
use Rattle.rules.specs.Json.Strings.{string}
use Rattle.rules.specs.Json.Values.{Member, Behind, closed, onward, neither, opening, closing, and_then, after_item, items, list, colon}
use Rattle.rules.specs.Json.Values.{member, member_left, contents, value, alone, object_of, members_left}
use Rattle.rules.proofs.Tests.{apart, by}
use Rattle.rules.proofs.Json.Suffix.{answered-none}
use Rattle.rules.proofs.Json.TextReads.{spelled_none, spelled-left, byte-same}
use Rattle.rules.proofs.Json.ValueReads.{value-reads, member-reads}
use Rattle.rules.proofs.Json.Steps.{value-object, value-end, object_of-contents, object_of-none, contents-list, list-closed}
use Rattle.rules.proofs.Json.Steps.{list-onward, list-neither, rest, rest-none, rest-closed, rest-neither, rest-onward}
use Rattle.rules.proofs.Json.InPlace.{object_of-other}
use Rattle.rules.proofs.Json.Places.{spelled-place, object_of-place}
use Rattle.rules.proofs.MemberPlaces.{members_left-list}
use Rattle.rules.proofs.PathPlaces.{brace-here}
use Rattle.field_names.specs.Kinds.{names_of, seek}
use Rattle.json_tokens.specs.Answers.{Skips}
use Rattle.json_values.specs.Follows.{Follows}
use Rattle.json_values.specs.declared.Tail.{Tail}
use Rattle.json_values.specs.declared.Tail.TheVariants.{Closed, More, Neither}
use Rattle.field_names.specs.Spelled.{name_in, Quoted}
use Rattle.field_names.specs.declared.kinds.Kind.TheVariants.{Line}
use Rattle.field_names.specs.declared.keys.Spell.{Spell}
use Rattle.field_objects.specs.Slots.{Filled}
use Rattle.field_objects.specs.declared.notes.Slot.{Slot}
use Rattle.field_objects.specs.declared.notes.Fields.{Fields}
use Rattle.field_objects.proofs.Members.{member-nameless, member-no-colon}
use Rattle.field_objects.proofs.Lefts.{filled-left}
use Rattle.field_names.proofs.Quoting.{named-string}
use Rattle.line_actions.specs.Begun.{ends_by, ends, line_value, keyed, key_at, kind_at, Braced, Begun, Lined}
use Rattle.field_scalars.proofs.Strings.{byte-text}
use Rattle.field_containers.proofs.Valued.{contents-valued}
use Rattle.field_scalars.proofs.Begins.{byte_next}

-- ---- up to the first member

module _ (s : Text) where
  pub line-no-brace : byte 0x7B (ws s) ≡ None → line_member s ≡ None
  unfolding line_member
  line-no-brace e = ap (λ o. o >>= only_one) (object_of-none in_line s e)

  module _ (i : ℕ) (e : byte 0x7B (ws s) ≡ Some (drop i s)) where
    inside : line_member s ≡ (alone (contents (value in_line) (drop i s)) >>= only_one)
    unfolding line_member
    inside = ap (λ o. o >>= only_one) (object_of-contents in_line s e)

    places : members_left in_line s ≡ (list (member_left (value in_line)) 0x7D (drop i s) >>= (λ p. Some p.0))
    unfolding members_left
    places = rw (members_left, e)

    line-neither : opening 0x7D (drop i s) ≡ neither → line_member s ≡ None
    unfolding alone
    line-neither f =
        inside ∙ ap (λ o. alone o >>= only_one) (contents-list (value in_line) (drop i s) ∙ list-neither (member (value in_line)) 0x7D (drop i s) f)

    line-empty : {u : Text} → opening 0x7D (drop i s) ≡ closed u → line_member s ≡ None
    unfolding alone only_one
    line-empty {u} f =
        inside ∙ ap (λ o. alone o >>= only_one) (contents-list (value in_line) (drop i s) ∙ list-closed (member (value in_line)) 0x7D (drop i s) f)
        ∙ go (is_empty (ws u))
      where
        go : (test : Bool) → ((elim test [ true ↦ Some [] | false ↦ None ]) >>= only_one) ≡ None
        go true = refl
        go false = refl

    pub line-memberless : (t : Tail) → Follows (opening 0x7D (drop i s)) s i t → ((j : ℕ) → t ≡ More j → ⊥) → line_member s ≡ None
    line-memberless Neither f n = line-neither f
    line-memberless (Closed k) f n = line-empty f.0
    line-memberless (More j) f n = absurd (n j refl)

    pub line-braced : (j : ℕ) → j ≤ length s → opening 0x7D (drop i s) ≡ onward (drop j s) → Braced s j
    line-braced j l f = record {
      within = l;
      line = inside ∙ ap (λ o. alone o >>= only_one) (contents-list (value in_line) (drop i s) ∙ list-onward (member (value in_line)) 0x7D (drop i s) f);
      lefts = places ∙ ap (λ o. o >>= (λ p. Some p.0)) (list-onward (member_left (value in_line)) 0x7D (drop i s) f);
    }

-- ---- its key

key-seek : (name : Bytes) → key_of name ≡ key_at (seek name (names_of Line))
unfolding key_of first names_of seek
key-seek name =
    by (same name (ascii "add")) (λ a. rw (key_of, first, seek, a)) (λ a.
    by (same name (ascii "remove")) (λ b. rw (key_of, first, seek, a, b)) (λ b.
    by (same name (ascii "protocol")) (λ c. rw (key_of, first, seek, a, b, c)) (λ c.
    by (same name (ascii "metaData")) (λ d. rw (key_of, first, seek, a, b, c, d)) (λ d.
    by (same name (ascii "mergeskip")) (λ e. rw (key_of, first, seek, a, b, c, d, e)) (λ e.
    rw (key_of, first, seek, a, b, c, d, e))))))

-- what the line's object is by its first member
alone-closed : (m : Member) (u : Text) → (alone (Some (m ∷ [], u)) >>= only_one) ≡ (guard (is_empty (ws u)) >>= (λ _. Some m))
unfolding alone only_one
alone-closed m u = go (is_empty (ws u))
  where
    go : (test : Bool) → ((elim test [ true ↦ Some (m ∷ []) | false ↦ None ]) >>= only_one) ≡ (guard test >>= (λ _. Some m))
    go true = refl
    go false = refl

alone-more : (m n : Member) (ms : List Member) (u : Text) → (alone (Some (m ∷ n ∷ ms, u)) >>= only_one) ≡ None
unfolding alone only_one
alone-more m n ms u = go (is_empty (ws u))
  where
    go : (test : Bool) → ((elim test [ true ↦ Some (m ∷ n ∷ ms) | false ↦ None ]) >>= only_one) ≡ None
    go true = refl
    go false = refl

and_then-alone : (m : Member) (n : ℕ) (u : Text) → (alone (and_then m (items (member (value in_line)) 0x7D (suc n) u)) >>= only_one) ≡ None
unfolding items after_item and_then alone
and_then-alone m n u = go (member (value in_line) u)
  where
    more : (x : Member) (o : Option (List Member × Text)) → (alone (and_then m (and_then x o)) >>= only_one) ≡ None
    more x None = refl
    more x (Some p) = alone-more m x p.0 p.1

    then : (x : Member) (c : Behind) → (alone (and_then m (after_item x c (λ v. items (member (value in_line)) 0x7D n v))) >>= only_one) ≡ None
    then x (closed v) = alone-more m x [] v
    then x (onward v) = more x (items (member (value in_line)) 0x7D n v)
    then x neither = refl

    go : (o : Option (Member × Text))
        → (alone (and_then m (o >>= (λ p. after_item p.0 (closing 0x7D p.1) (λ v. items (member (value in_line)) 0x7D n v)))) >>= only_one) ≡ None
    go None = refl
    go (Some p) = then p.0 (closing 0x7D p.1)

module _ (s : Text) (j : ℕ) (g : Braced s j) where
  line-no-member : member (value in_line) (drop j s) ≡ None → line_member s ≡ None
  unfolding alone
  line-no-member e = g.line ∙ ap (λ o. alone o >>= only_one) (rest-none (member (value in_line)) 0x7D (drop j s) e)

  pub line-nameless : (byte 0x22 (drop j s) >>= string) ≡ None → line_member s ≡ None
  line-nameless e = line-no-member (member-nameless (value in_line) (drop j s) e)

  module _ (n : Spell) (q : Quoted s j n) where
    pub line-no-colon : colon (drop n.end s) ≡ None → line_member s ≡ None
    line-no-colon e = line-no-member (member-no-colon (value in_line) (drop j s) q.quote (named-string s n q.named) e)

    module _ (v : ℕ) (e : colon (drop n.end s) ≡ Some (drop v s)) where
      member_is : member (value in_line) (drop j s) ≡ (spelled (value in_line) (drop v s) >>= (λ p. Some ((name_in s n, p.0), p.1)))
      unfolding member
      member_is = rw (member, q.quote, named-string s n q.named, e)

      valued : line_member s ≡ keyed (name_in s n) (line_value (drop v s))
      unfolding alone
      valued = g.line ∙ go (spelled (value in_line) (drop v s)) member_is
        where
          item : Taker Member
          item = member (value in_line)

          go : (o : Option (Text × Text)) → item (drop j s) ≡ (o >>= (λ p. Some ((name_in s n, p.0), p.1)))
              → (alone (rest item 0x7D (drop j s)) >>= only_one) ≡ keyed (name_in s n) (o >>= (λ p. guard (ends p.1) >>= (λ _. Some p.0)))
          go None f = ap (λ o. alone o >>= only_one) (rest-none item 0x7D (drop j s) f)
          go (Some p) f = behind (closing 0x7D p.1) refl
            where
              same-guard : (test : Bool) → (guard test >>= (λ _. keyed (name_in s n) (Some p.0))) ≡ keyed (name_in s n) (guard test >>= (λ _. Some p.0))
              same-guard true = refl
              same-guard false = refl

              behind : (c : Behind) → closing 0x7D p.1 ≡ c
                  → (alone (rest item 0x7D (drop j s)) >>= only_one) ≡ keyed (name_in s n) (guard (ends p.1) >>= (λ _. Some p.0))
              behind (closed u) h = ap (λ o. alone o >>= only_one) (rest-closed item 0x7D (drop j s) f h) ∙ alone-closed (name_in s n, p.0) u
                  ∙ same-guard (is_empty (ws u)) ∙ sym (ap (λ (c : Behind). keyed (name_in s n) (guard (ends_by c) >>= (λ _. Some p.0))) h)
              behind (onward u) h =
                  ap (λ o. alone o >>= only_one) (rest-onward item 0x7D (drop j s) f (member-reads (value-reads in_line)) h)
                  ∙ and_then-alone (name_in s n, p.0) (length u) u
                  ∙ sym (ap (λ (c : Behind). keyed (name_in s n) (guard (ends_by c) >>= (λ _. Some p.0))) h)
              behind neither h = ap (λ o. alone o >>= only_one) (rest-neither item 0x7D (drop j s) f h)
                  ∙ sym (ap (λ (c : Behind). keyed (name_in s n) (guard (ends_by c) >>= (λ _. Some p.0))) h)

      ended-left : (r : Text) → value in_line (drop v s) ≡ Some r → ends r ≡ true → members_left in_line s ≡ Some ((name_in s n, drop v s) ∷ [])
      unfolding member_left
      ended-left r f t = go (closing 0x7D r) refl t
        where
          item : member_left (value in_line) (drop j s) ≡ Some ((name_in s n, drop v s), r)
          item = rw (member_left, q.quote, named-string s n q.named, e, f)

          go : (c : Behind) → closing 0x7D r ≡ c → ends_by c ≡ true → members_left in_line s ≡ Some ((name_in s n, drop v s) ∷ [])
          go (closed u) h i = g.lefts ∙ ap (λ o. o >>= (λ p. Some p.0)) (rest-closed (member_left (value in_line)) 0x7D (drop j s) item h)
          go (onward u) h i = apart (cc)
          go neither h i = apart (cc)

      pub line-begun : (k : ℕ) → v ≤ length s → k ≡ seek (name_in s n) (names_of Line) → Begun s k v
      line-begun k l p = record { name = name_in s n; key = key-seek (name_in s n) ∙ ap key_at (sym p); within = l; line = valued; left = ended-left }

-- ---- behind the value

module _ (s : Text) (at i r : ℕ) (e : closing 0x7D (drop at s) ≡ closed (drop i s)) (w : Skips (ws (drop i s)) s i r) where
  pub ends-closed : leb (length s) r ≡ ends (drop at s)
  unfolding is_empty
  ends-closed = go (drop r s) refl ∙ sym (ap ends_by e ∙ ap is_empty w.left)
    where
      go : (t : Text) → drop r s ≡ t → leb (length s) r ≡ is_empty t
      go [] p = let n : length s - r ≡ 0 = sym (length-drop r s) ∙ ap length p in le-leb (length s) r (omega arith)
      go (b ∷ t) p = let n : length s - r ≡ suc (length t) = sym (length-drop r s) ∙ ap length p in lt-leb (length s) r (omega arith)

-- ---- the value

pub line-malformed : (s : Text) → line_member s ≡ None → action s ≡ None
unfolding action
line-malformed s e = ap (λ o. o >>= (λ m. action_by (key_of m.0) m.1)) e

pub lined-action : (s : Text) (k : ℕ) {slots : List Slot} (l : Lined s k slots) → action s ≡ action_by (key_at k) l.text
unfolding action
lined-action s k l = ap (λ o. o >>= (λ m. action_by (key_of m.0) m.1)) l.line ∙ ap (λ (key : Key). action_by key l.text) l.key

few-names : (k : ℕ) → length (names_of (kind_at k)) ≤ 8
unfolding names_of
few-names zero = omega arith
few-names (suc zero) = omega arith
few-names (suc (suc zero)) = omega arith
few-names (suc (suc (suc zero))) = omega arith
few-names (suc (suc (suc (suc n)))) = omega arith

module _ (s : Text) (k v : ℕ) (g : Begun s k v) where
  begun-action : action s ≡ (line_value (drop v s) >>= action_by (key_at k))
  unfolding action
  begun-action = ap (λ o. o >>= (λ m. action_by (key_of m.0) m.1)) g.line ∙ go (line_value (drop v s))
    where
      go : (o : Option Text) → (keyed g.name o >>= (λ m. action_by (key_of m.0) m.1)) ≡ (o >>= action_by (key_at k))
      go None = refl
      go (Some x) = ap (λ (key : Key). action_by key x) g.key

  pub begun-no-value : value in_line (drop v s) ≡ None → action s ≡ None
  begun-no-value e =
      begun-action ∙ ap (λ o. (o >>= (λ p. guard (ends p.1) >>= (λ _. Some p.0))) >>= action_by (key_at k)) (spelled_none (value in_line) (drop v s) e)

  module _ (e : ℕ) (h : v ≤ e) (l : e ≤ length s) (w : value in_line (drop v s) ≡ Some (drop e s)) where
    begun-value : line_value (drop v s) ≡ (guard (ends (drop e s)) >>= (λ _. Some (take (e - v) (drop v s))))
    begun-value = ap (λ o. o >>= (λ p. guard (ends p.1) >>= (λ _. Some p.0))) (spelled-place s v e h l (value in_line) w)

    pub begun-unended : ends (drop e s) ≡ false → action s ≡ None
    begun-unended f =
        begun-action ∙ ap (λ o. o >>= action_by (key_at k)) (begun-value ∙ ap (λ (test : Bool). guard test >>= (λ _. Some (take (e - v) (drop v s)))) f)

    module _ (f : ends (drop e s) ≡ true) where
      ended-value : line_value (drop v s) ≡ Some (take (e - v) (drop v s))
      ended-value = begun-value ∙ ap (λ (test : Bool). guard test >>= (λ _. Some (take (e - v) (drop v s)))) f

      pub begun-other : 4 < k → action s ≡ Some other
      unfolding action_by
      begun-other p = begun-action ∙ ap (λ o. o >>= action_by (key_at k)) ended-value ∙ ap (λ (n : ℕ). action_by (key_at n) (take (e - v) (drop v s))) more
        where
          more : k ≡ suc (suc (suc (suc (suc (k - 5)))))
          more = omega arith

  -- ---- an object

  no-object : (x : Text) → k ≤ 4 → object_of in_action x ≡ None → action_by (key_at k) x ≡ None
  unfolding action_by
  no-object x h e = go k h
    where
      go : (k : ℕ) → k ≤ 4 → action_by (key_at k) x ≡ None
      go zero l = ap (λ o. o >>= (λ ms. add_of ms >>= (λ f. Some (add f)))) e
      go (suc zero) l = ap (λ o. o >>= (λ ms. path_at ms >>= (λ p. Some (remove p)))) e
      go (suc (suc zero)) l = ap (λ o. o >>= (λ ms. protocol_of ms >>= (λ p. Some (protocol p)))) e
      go (suc (suc (suc zero))) l = ap (λ o. o >>= (λ ms. meta_data_of ms >>= (λ m. Some (meta_data m)))) e
      go (suc (suc (suc (suc zero)))) l = ap (λ o. o >>= (λ ms. path_at ms >>= (λ p. skip_of ms >>= (λ k. Some (mergeskip p k))))) e
      go (suc (suc (suc (suc (suc n))))) l = absurd (omega arith)

  pub begun-no-object : k ≤ 4 → byte 0x7B (drop v s) ≡ None → action s ≡ None
  unfolding byte
  begun-no-object h n = begun-action ∙ go (spelled (value in_line) (drop v s)) refl
    where
      first_byte : (x r t : Text) → drop v s ≡ t → spelled (value in_line) t ≡ Some (x, r) → object_of in_action x ≡ None
      first_byte x r [] p f = answered-none (spelled-left (value in_line) [] f) (value-end in_line)
      first_byte x r (b ∷ t) p f =
          object_of-other in_action in_line b t x r (λ q. answered-none (byte-same 0x7B b t (eq-eqb b 0x7B q)) (sym (ap (byte 0x7B) p) ∙ n)) f

      go : (o : Option (Text × Text)) → spelled (value in_line) (drop v s) ≡ o
          → ((o >>= (λ p. guard (ends p.1) >>= (λ _. Some p.0))) >>= action_by (key_at k)) ≡ None
      go None f = refl
      go (Some p) f = ended (ends p.1)
        where
          ended : (test : Bool) → ((guard test >>= (λ _. Some p.0)) >>= action_by (key_at k)) ≡ None
          ended true = no-object p.0 h (first_byte p.0 p.1 (drop v s) refl f)
          ended false = refl

  module _ (i : ℕ) (l : i ≤ length s) (b : byte 0x7B (drop v s) ≡ Some (drop i s)) where
    pub begun-contents : {o : Option (List Member × Text)} → contents (value in_action) (drop i s) ≡ o → value in_line (drop v s) ≡ left o
    unfolding in_line in_action
    begun-contents f = ap (value in_line) (byte-text 0x7B (drop v s) b) ∙ value-object in_line in_action (drop i s) refl ∙ ap left f

    pub begun-lined : (f : Fields) (r : Filled (contents (value in_action) (drop i s)) s i (names_of (kind_at k)) f.end f.slots)
        → ends (drop f.end s) ≡ true → Lined s k f.slots
    begun-lined f r t =
        let next : i ≡ v + 1 = byte_next s v i 0x7B g.within l b in
        let low : i + 1 ≤ f.end = r.from in
        let all : contents (value in_action) (drop (v + 1) s) ≡ Some (r.ms, drop f.end s) =
        sym (ap (λ (j : ℕ). contents (value in_action) (drop j s)) next) ∙ r.all in
        let (fs, places, starts) = filled-left in_action s i (names_of (kind_at k)) f.end f.slots r (few-names k) in
        record {
          name = g.name;
          text = take (f.end - v) (drop v s);
          ms = r.ms;
          key = g.key;
          line = g.line ∙ ap (keyed g.name) (ended-value f.end (omega arith) r.within (begun-contents r.all) t);
          object =
              object_of-place s v f.end (omega arith) r.within in_action r.ms (byte-text 0x7B (drop v s) b ∙ ap (λ (j : ℕ). 0x7B ∷ drop j s) next) all;
          valued = contents-valued in_action (drop i s) r.ms (drop f.end s) r.all;
          each = r.each;
          left = drop v s;
          lefts = fs;
          line-left = g.left (drop f.end s) (begun-contents r.all) t;
          object-left = members_left-list in_action (drop v s) (brace-here (drop v s) (drop i s) (byte-text 0x7B (drop v s) b)) places;
          starts = starts;
        }

pub place-four : (k : ℕ) → k ≤ 4 → (k ≡ 0 → ⊥) → (k ≡ 1 → ⊥) → (k ≡ 2 → ⊥) → (k ≡ 3 → ⊥) → k ≡ 4
place-four zero h a b c d = absurd (a refl)
place-four (suc zero) h a b c d = absurd (b refl)
place-four (suc (suc zero)) h a b c d = absurd (c refl)
place-four (suc (suc (suc zero))) h a b c d = absurd (d refl)
place-four (suc (suc (suc (suc zero)))) h a b c d = refl
place-four (suc (suc (suc (suc (suc n))))) h a b c d = absurd (omega (arith, h))

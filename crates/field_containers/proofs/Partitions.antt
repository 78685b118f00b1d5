-- Partition values: each value a string or null, told by its first byte; then the loop over them, and the field as a whole.
use mathlib.Core.Path.{◌≡◌, refl, sym, ap, ◌∙◌}
use mathlib.Core.Bool.{Bool, true, false}
use Rattle.std.specs.Prelude.{Option, None, Some}
use mathlib.Core.List.{List, [], ◌∷◌, ◌++◌}
use Prim.Native.Nat.{ℕ, suc, ◌+◌, ◌-◌, ◌≤◌}
use native.Mathlib.Omega.{arith}
use lib.ListN.{length, take, drop}
use Rattle.rules.specs.Actions.{in_action, in_field, Pairs, pairs}
use Rattle.rules.specs.Bytes.{Bytes, ◌>>=◌, guard, distinct, firsts}
use Rattle.rules.specs.Json.Text.{Text, byte, spelled}
use Rattle.rules.specs.Json.Values.{Member, opening, closing, list, member, contents, value, object_of}
use Rattle.rules.specs.Json.Fields.{is_null, string_of, string_or_null}
use Rattle.rules.proofs.Tests.{apart}
use Rattle.rules.proofs.Choices.{guard-some}
use Rattle.rules.proofs.Json.Suffix.{bound, some_same, value_same, left-same, answered-none}
use Rattle.rules.proofs.Json.Fields.{string_or_null-null, string_or_null-there, string_or_null-none}
use Rattle.rules.proofs.Json.InPlace.{string-text, string_of-other, is_null-other}
use Rattle.rules.proofs.Json.Joined.{joined}
use Rattle.rules.proofs.Json.Steps.{contents-list, list-closed, list-neither, rest}
use Rattle.rules.proofs.Json.ValueReads.{value-reads, member-reads}
use Rattle.json_values.specs.Follows.{Follows}
use Rattle.json_values.specs.declared.Tail.TheVariants.{Closed, More, Neither}
use Rattle.field_names.specs.Spelled.{name_in}
use Rattle.field_objects.specs.Standing.{Stands}
use Rattle.field_names.specs.declared.keys.Spell.{Spell}
use Rattle.field_objects.specs.declared.notes.Slot.{Slot}
use Rattle.field_objects.proofs.Passing.{Passed, passed_start, passed_none, passed-neither, passed-closed, passed-more, items-first}
use Rattle.field_containers.specs.Nested.{Opened, UsualIs, values_from, values_of, values_in, ValuesIs}
use Rattle.field_scalars.specs.Inside.{Proper}
use Rattle.field_scalars.specs.Texts.{Told}
use Rattle.field_containers.specs.declared.nested.Usual.{Usual}
use Rattle.field_scalars.proofs.Single.{proper-single, text-single}
use Rattle.field_scalars.proofs.Strings.{byte-text}
use Rattle.field_scalars.proofs.Begins.{value-further, begins-other}
use Rattle.field_containers.proofs.Placed.{value-spelled, object-none, object-here}

-- ---- a string or null

module _ (d : ℕ) (s : Text) (v e : ℕ) (h : v ≤ e) (k : e ≤ length s) (w : value d (take (e - v) (drop v s)) ≡ Some []) where
  abbrev text : Text
  text = take (e - v) (drop v s)

  pub told-string : (i : ℕ) → byte 0x22 (drop v s) ≡ Some (drop i s) → Told (string_or_null text) true
  told-string i b =
      let more : v + 1 ≤ e = value-further d s v e h k w in
      let n : e - v ≡ suc (e - (v + 1)) = omega arith in
      let f : text ≡ 0x22 ∷ take (e - (v + 1)) (drop i s) = ap (take (e - v)) (byte-text 0x22 (drop v s) b) ∙ ap (λ (j : ℕ). take j (0x22 ∷ drop i s)) n in
      let (x, g, there) = string-text d (take (e - (v + 1)) (drop i s)) text [] (sym (ap (spelled (value d)) f) ∙ value-spelled d text w) in
      (Some x, string_or_null-there text {s = x} (ap is_null f ∙ is_null-other 0x22 (take (e - (v + 1)) (drop i s)) (λ z. omega arith)) there)

  pub told-null : byte 0x22 (drop v s) ≡ None → (r : Bool) → r ≡ is_null text → Told (string_or_null text) r
  told-null b true e = (None, string_or_null-null text (sym e))
  told-null b false p =
      let (c, y, f, g) = begins-other d s v e h k w 0x22 b in
      string_or_null-none text (sym p) (ap string_of g ∙ string_of-other c y f)

-- ---- one pair more at the end, and one that is none

pairs-last : (ms : List Member) (m : Member) {xs : Pairs} {x : Option Bytes} → pairs ms ≡ Some xs → string_or_null m.1 ≡ Some x
    → pairs (ms ++ (m ∷ [])) ≡ Some (xs ++ ((m.0, x) ∷ []))
unfolding pairs
pairs-last [] m {xs} {x} e f = rw (f, ← some_same e)
pairs-last (n ∷ ms) m {xs} {x} e f =
    bound (string_or_null n.1) _ e (λ y g h.
    bound (pairs ms) _ h (λ ys i j.
    rw (g, pairs-last ms m i f) (ap (λ (l : Pairs). Some (l ++ ((m.0, x) ∷ []))) (some_same j))))

pub pairs-none : (ms : List Member) (m : Member) (ns : List Member) → string_or_null m.1 ≡ None → pairs (ms ++ (m ∷ ns)) ≡ None
unfolding pairs
pairs-none [] m ns f = rw f
pairs-none (n ∷ ms) m ns f = go (pairs-none ms m ns f) (string_or_null n.1)
  where
    go : pairs (ms ++ (m ∷ ns)) ≡ None → (o : Option (Option Bytes)) → (o >>= (λ x. pairs (ms ++ (m ∷ ns)) >>= (λ xs. Some ((n.0, x) ∷ xs)))) ≡ None
    go ih None = refl
    go ih (Some x) = rw ih

joined-some : (gone : List Member) (o : Option (List Member × Text)) {ms : List Member} {u : Text} → joined gone o ≡ Some (ms, u)
    → (ns : List Member) × (o ≡ Some (ns, u)) × (ms ≡ gone ++ ns)
joined-some gone None e = apart (cc)
joined-some gone (Some p) e = (p.0, ap (λ (u : Text). Some (p.0, u)) (left-same e), sym (value_same e))

-- ---- the loop

pub record Paired (s : Text) (at i : ℕ) : Type 0 where
  pub gone : List Member
  pub found : Pairs
  pub passed : Passed (member (value in_field)) 0x7D s at i gone
  pub read : pairs gone ≡ Some found

module _ (s : Text) (at : ℕ) where
  pub opened-list : (w : Opened s at) → list (member (value in_field)) 0x7D (drop at s) ≡ Some (w.ms, w.left)
  opened-list w = sym (contents-list (value in_field) (drop at s)) ∙ w.all

  pub paired-neither : {P : Type 0} → Opened s at → Follows (opening 0x7D (drop at s)) s at Neither → P
  paired-neither w f = answered-none (opened-list w) (list-neither (member (value in_field)) 0x7D (drop at s) f)

  pub paired-empty : (w : Opened s at) {k : ℕ} → Follows (opening 0x7D (drop at s)) s at (Closed k) → Told (pairs w.ms) true
  unfolding pairs
  paired-empty w f = ([], ap pairs (value_same (sym (opened-list w) ∙ list-closed (member (value in_field)) 0x7D (drop at s) f.0)))

  pub paired-start : (i : ℕ) → Follows (opening 0x7D (drop at s)) s at (More i) → Paired s at i
  unfolding pairs
  paired-start i f = record { gone = []; found = []; passed = passed_start (member (value in_field)) 0x7D s at f; read = refl }

  module _ (i : ℕ) (g : Paired s at i) where
    pub paired_none : {P : Type 0} → Opened s at → member (value in_field) (drop i s) ≡ None → P
    paired_none w e = answered-none (opened-list w) (passed_none g.passed e)

    module _ (n : Spell) (v e : ℕ) (m : Stands (member (value in_field) (drop i s)) s i n v e) where
      abbrev pair : Member
      pair = (name_in s n, take (e - v) (drop v s))

      pub paired-refused : string_or_null (take (e - v) (drop v s)) ≡ None → (w : Opened s at) → pairs w.ms ≡ None
      paired-refused f w =
          let (ns, p, q) = joined-some g.gone (rest (member (value in_field)) 0x7D (drop i s)) (g.passed.left ∙ opened-list w) in
          let (ys, r) = items-first (member (value in_field)) 0x7D (drop i s) m.read p in
          ap pairs (q ∙ ap (λ (l : List Member). g.gone ++ l) r) ∙ pairs-none g.gone pair ys f

      pub paired-broken : {P : Type 0} → Opened s at → Follows (closing 0x7D (drop e s)) s (e + 1) Neither → P
      paired-broken w f = answered-none (opened-list w) (passed-neither g.passed e m.read f)

      module _ (y : Told (string_or_null (take (e - v) (drop v s))) true) where
        pub paired-closed : {k : ℕ} → Follows (closing 0x7D (drop e s)) s (e + 1) (Closed k) → (w : Opened s at) → Told (pairs w.ms) true
        paired-closed f w = (
          g.found ++ ((name_in s n, y.0) ∷ []),
          ap pairs (value_same (sym (opened-list w) ∙ passed-closed g.passed e m.read f)) ∙ pairs-last g.gone pair g.read y.1,
        )

        pub paired-more : (k : ℕ) → Follows (closing 0x7D (drop e s)) s (e + 1) (More k) → Paired s at k
        paired-more k f = record {
          gone = g.gone ++ (pair ∷ []);
          found = g.found ++ ((name_in s n, y.0) ∷ []);
          passed = passed-more g.passed e m.read (member-reads (value-reads in_field)) f;
          read = pairs-last g.gone pair g.read y.1;
        }

-- ---- the field

pub guarded : (test : Bool) (o : Option Pairs) → o ≡ None → (guard test >>= (λ _. o)) ≡ None
guarded true o e = e
guarded false o e = refl

module _ (s : Text) (x : Slot) (p : Proper s x) (sole : x.seen ≡ 1) where
  abbrev field : Text
  field = take (x.end - x.start) (drop x.start s)

  pub values-no-object : byte 0x7B (drop x.start s) ≡ None → values_in s x ≡ None
  values-no-object b =
      let q = proper-single s x sole p in
      sym (text-single s x values_of sole) ∙ ap (λ o. o >>= values_from) (object-none in_action s x.start x.end q.0 q.1 q.2 in_field b)

  module _ (i : ℕ) (l : i ≤ length s) (b : byte 0x7B (drop x.start s) ≡ Some (drop i s)) where
    values-object : (ms : List Member) × (contents (value in_field) (drop i s) ≡ Some (ms, drop x.end s)) × (object_of in_field field ≡ Some ms)
    unfolding in_action in_field
    values-object = let q = proper-single s x sole p in object-here in_field s x.start x.end q.0 q.1 q.2 i l b

    pub values-opened : Opened s i
    values-opened = record { ms = values-object.0; left = drop x.end s; all = values-object.1 }

    values-are : values_in s x ≡ values_from values-opened.ms
    unfolding values-opened values-object
    values-are = sym (text-single s x values_of sole) ∙ ap (λ o. o >>= values_from) values-object.2

    pub values-refused : values_from values-opened.ms ≡ None → values_in s x ≡ None
    values-refused n = values-are ∙ n

    pub values-there : Told (values_from values-opened.ms) true → {u : Usual} → UsualIs s i u → ValuesIs (values_in s x) s (Some (i, u))
    values-there t {u} told = bound (guard (distinct (firsts values-opened.ms))) (λ _. pairs values-opened.ms) t.1 (λ _ d e. (
      t.0,
      values-are ∙ t.1,
      record {
        ms = values-opened.ms;
        left = values-opened.left;
        within = l;
        all = values-opened.all;
        each = e;
        distinct = guard-some (distinct (firsts values-opened.ms)) d;
      },
      told,
    ))

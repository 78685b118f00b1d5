-- The loop over the names of a condition's members: what was met of those that went by, and what each way out of the loop answers.
use mathlib.Core.Path.{◌≡◌, refl, sym, ap, ◌∙◌}
use mathlib.Core.Bool.{Bool, true, false, ◌&&◌}
use Rattle.std.specs.Prelude.{None, Some}
use mathlib.Core.List.{List, [], ◌∷◌, ◌++◌}
use Prim.Native.Nat.{ℕ, ◌+◌, ◌<◌}
use native.Mathlib.Omega.{arith}
use borrow.Author.Tests.{ltb-true, ltb-false}
use lib.Dec.{eqb, ltb}
use lib.ListN.{length, drop, get_or, length-append}
use Rattle.rules.specs.Bytes.{Bytes, ascii, same, firsts}
use Rattle.rules.specs.Query.{stands}
use Rattle.rules.specs.Json.Text.{Text, Reader, behind, spelled, byte}
use Rattle.rules.specs.Json.Strings.{string}
use Rattle.rules.specs.Json.Values.{Member, opening, closing, colon, member, contents, value}
use Rattle.rules.proofs.Tests.{apart, by}
use Rattle.rules.proofs.Json.Suffix.{some_same, value_same, bound, answered-none}
use Rattle.rules.proofs.Json.TextReads.{byte-same, byte-other}
use Rattle.rules.proofs.Json.StringReads.{string-reads}
use Rattle.rules.proofs.Json.Shadows.{behind-some}
use Rattle.rules.proofs.Json.Places.{reads-place}
use Rattle.rules.proofs.Json.ValueReads.{value-reads, member-reads}
use Rattle.rules.proofs.Json.Steps.{contents-list, list-neither, list-closed}
use Rattle.json_tokens.proofs.Places.{here, ended}
use Rattle.json_values.specs.Whole.{name}
use Rattle.json_values.proofs.Names.{member-named}
use Rattle.json_values.specs.Follows.{Follows}
use Rattle.json_values.specs.declared.Tail.{Tail}
use Rattle.json_values.specs.declared.Tail.TheVariants.{Closed, More, Neither}
use Rattle.json_strings.specs.Decoded.{bytes_of, decoded, WellSpelled}
use Rattle.field_objects.proofs.Passing.{Passed, passed_start, passed_none, passed-neither, passed-closed, passed-more}
use Rattle.query_conditions.specs.Members.{met_in, or_else, is_as, ordered, in_order}
use Rattle.std.specs.Prelude.{Option}
use Rattle.std.specs.Option.{is_some}
use Rattle.query_conditions.specs.declared.members.First.{First}
use Rattle.query_conditions.specs.declared.members.First.TheVariants.{As}
use Rattle.query_conditions.specs.declared.members.First.TheVariants.{Value}

-- ---- what was met first, and one name more

pub met-stays : (o later : Option First) → true ≡ is_some o → o ≡ or_else o later
unfolding or_else
met-stays None later e = apart (cc)
met-stays (Some As) later e = refl
met-stays (Some Value) later e = refl

pub met-later : (o later : Option First) → false ≡ is_some o → or_else o later ≡ later
unfolding or_else
met-later None later e = refl
met-later (Some f) later e = apart (cc)

-- ---- what is met of a list of names

pub met-as : (n : Bytes) → same n (ascii "as") ≡ true → met_in (n ∷ []) ≡ (Some As)
unfolding met_in
met-as n e = rw (met_in, e)

module _ (n : Bytes) (a : same n (ascii "as") ≡ false) where
  pub met-value : same n (ascii "value") ≡ true → met_in (n ∷ []) ≡ (Some Value)
  unfolding met_in
  met-value e = rw (met_in, a, e)

  pub met-neither : same n (ascii "value") ≡ false → met_in (n ∷ []) ≡ None
  unfolding met_in
  met-neither e = rw (met_in, a, e)

met-last : (ns : List Bytes) (n : Bytes) → met_in (ns ++ (n ∷ [])) ≡ or_else (met_in ns) (met_in (n ∷ []))
unfolding met_in or_else
met-last [] n = refl
met-last (m ∷ ns) n = by (same m (ascii "as"))
    (λ e. rw (met_in, e))
    (λ e. by (same m (ascii "value"))
    (λ f. rw (met_in, e, f))
    (λ f. rw (met_in, e, f) (met-last ns n)))

stands-met : (ns : List Bytes) → is_as (met_in ns) ≡ stands (ascii "as") (ascii "value") ns
unfolding met_in is_as stands
stands-met [] = refl
stands-met (m ∷ ns) = by (same m (ascii "as"))
    (λ e. rw (met_in, stands, e))
    (λ e. by (same m (ascii "value"))
    (λ f. rw (met_in, stands, e, f))
    (λ f. rw (met_in, stands, e, f) (stands-met ns)))

firsts-last : (ms : List Member) (m : Member) → firsts (ms ++ (m ∷ [])) ≡ firsts ms ++ (m.0 ∷ [])
unfolding firsts
firsts-last [] m = refl
firsts-last (x ∷ ms) m = ap (λ (l : List Bytes). x.0 ∷ l) (firsts-last ms m)

-- ---- a member that was passed over

-- behind the quote of its name, which stands at i, a string is spelled
pub record Past (read : Reader) (s : Text) (i e : ℕ) : Type 0 where
  pub named : WellSpelled s (i + 1)
  pub text : Text
  pub taken : member read (drop i s) ≡ Some ((decoded (drop (i + 1) s), text), drop e s)

byte_next : (c : ℕ) (s : Text) (i : ℕ) {r : Text} → byte c (drop i s) ≡ Some r → (i < length s) × (r ≡ drop (i + 1) s)
unfolding byte
byte_next c s i {r} e = by (ltb i (length s))
    (λ p.
    let h = ltb-true i (length s) p in
    by (eqb (get_or s i 0) c)
    (λ q. (h, some_same (sym e ∙ ap (byte c) (here s i h) ∙ byte-same c (get_or s i 0) (drop (i + 1) s) q)))
    (λ q. answered-none e (ap (byte c) (here s i h) ∙ byte-other c (get_or s i 0) (drop (i + 1) s) q)))
    (λ p. answered-none e (ap (byte c) (ended s i (ltb-false i (length s) p))))

module _ (read : Reader) (s : Text) (i v e : ℕ) (a : name (drop i s) ≡ Some (drop v s)) (b : read (drop v s) ≡ Some (drop e s)) where
  pub past : Past read s i e
  unfolding member decoded bytes_of
  past =
      let (m, g) = behind-some (member read (drop i s)) (member-named read (drop i s) a b) in
      bound (byte 0x22 (drop i s)) _ g (λ n p k.
      let (h, q) = byte_next 0x22 s i p in
      bound (string n) _ k (λ y f l.
      let spelt : string (drop (i + 1) s) ≡ Some y = sym (ap string q) ∙ f in
      let place = reads-place s (i + 1) (omega arith) (string-reads y.0 (drop (i + 1) s) y.1 spelt) in
      bound (colon y.1) _ l (λ u _ w.
      bound (spelled read u) _ w (λ x _ z.
      record {
        named = record { end = place.at; closed = ap behind spelt ∙ ap Some place.left };
        text = x.0;
        taken = g ∙ ap (λ (o : Member). Some (o, drop e s)) (sym (value_same z) ∙ ap (λ (o : Bytes). (o, x.0)) (sym (ap bytes_of spelt)));
      }))))

-- ---- the loop

pub record Went (d : ℕ) (s : Text) (at i n : ℕ) (first : Option First) : Type 0 where
  pub gone : List Member
  pub passed : Passed (member (value d)) 0x7D s at i gone
  pub count : length gone ≡ n
  pub met : met_in (firsts gone) ≡ first

module _ (d : ℕ) (s : Text) (at : ℕ) where
  pub went-unopened : (r : Tail) → Follows (opening 0x7D (drop at s)) s at r → ((k : ℕ) → r ≡ More k → ⊥) → false ≡ in_order (contents (value d) (drop at s))
  unfolding in_order ordered
  went-unopened Neither f other = sym (ap in_order (contents-list (value d) (drop at s) ∙ list-neither (member (value d)) 0x7D (drop at s) f))
  went-unopened (Closed k) f other = sym (ap in_order (contents-list (value d) (drop at s) ∙ list-closed (member (value d)) 0x7D (drop at s) f.0))
  went-unopened (More k) f other = absurd (other k refl)

  pub went-start : (i : ℕ) → Follows (opening 0x7D (drop at s)) s at (More i) → Went d s at i 0 None
  unfolding met_in firsts
  went-start i f = record { gone = []; passed = passed_start (member (value d)) 0x7D s at f; count = refl; met = refl }

  module _ (i n : ℕ) (first : Option First) (w : Went d s at i n first) where
    pub went-none : member (value d) (drop i s) ≡ None → false ≡ in_order (contents (value d) (drop at s))
    unfolding in_order
    went-none e = sym (ap in_order (contents-list (value d) (drop at s) ∙ passed_none w.passed e))

    module _ (e : ℕ) (p : Past (value d) s i e) where
      pub went-neither : Follows (closing 0x7D (drop e s)) s (e + 1) Neither → false ≡ in_order (contents (value d) (drop at s))
      unfolding in_order
      went-neither f = sym (ap in_order (contents-list (value d) (drop at s) ∙ passed-neither w.passed e p.taken f))

      module _ (next : Option First) (then : next ≡ or_else first (met_in (decoded (drop (i + 1) s) ∷ []))) where
        more : List Member
        more = w.gone ++ ((decoded (drop (i + 1) s), p.text) ∷ [])

        more-count : length more ≡ n + 1
        unfolding more
        more-count = omega (arith, length-append w.gone ((decoded (drop (i + 1) s), p.text) ∷ []), w.count)

        more-met : met_in (firsts more) ≡ next
        unfolding more
        more-met = ap met_in (firsts-last w.gone (decoded (drop (i + 1) s), p.text)) ∙ met-last (firsts w.gone) (decoded (drop (i + 1) s))
            ∙ ap (λ (m : Option First). or_else m (met_in (decoded (drop (i + 1) s) ∷ []))) w.met ∙ sym then

        pub went-closed : {k : ℕ} → Follows (closing 0x7D (drop e s)) s (e + 1) (Closed k)
            → (r : Bool) → r ≡ (eqb (n + 1) 4 && is_as next) → r ≡ in_order (contents (value d) (drop at s))
        unfolding in_order ordered more
        went-closed f r g = g ∙ sym (ap in_order (contents-list (value d) (drop at s) ∙ passed-closed w.passed e p.taken f)
            ∙ ap (λ (b : Bool). eqb (length more) 4 && b) (sym (stands-met (firsts more)) ∙ ap is_as more-met)
            ∙ ap (λ (m : ℕ). eqb m 4 && is_as next) more-count)

        pub went-more : (k : ℕ) → Follows (closing 0x7D (drop e s)) s (e + 1) (More k) → Went d s at k (n + 1) next
        unfolding more
        went-more k f = record {
          gone = more;
          passed = passed-more w.passed e p.taken (member-reads (value-reads d)) f;
          count = more-count;
          met = more-met;
        }

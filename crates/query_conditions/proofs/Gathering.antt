-- The loop over the array of a query: the conditions that went by are held, and each way out of the loop answers for the whole array.
use mathlib.Core.Path.{◌≡◌, refl, sym, ap, ◌∙◌, subst}
use Rattle.std.specs.Prelude.{Option, None, Some}
use mathlib.Core.List.{List, [], ◌∷◌, ◌++◌, map, map-append}
use Prim.Native.Nat.{ℕ, ◌+◌, ◌≤◌, ◌<◌}
use native.Mathlib.Omega.{arith}
use borrow.Author.Tests.{le-leb, lt-leb, eqb-true, eqb-false}
use lib.Dec.{eqb}
use lib.ListN.{length, take, drop, get_or, set, replicate, length-append, length-set, length-replicate, length-map}
use lib.Seq.{get_or-set_same, get_or-set_other, drop-set-lt, drop-drop, length-take-le}
use Rattle.facts.proofs.Lists.{take-set-here}
use Rattle.rules.specs.Json.Text.{Text}
use Rattle.rules.specs.Json.Values.{opening, closing, list}
use Rattle.rules.specs.Query.{Condition as RuleCondition, most_conditions}
use Rattle.rules.proofs.Tests.{by}
use Rattle.rules.proofs.Json.Steps.{list-neither, list-closed, rest}
use Rattle.rules.proofs.Json.Joined.{joined}
use Rattle.json_values.specs.Follows.{Follows}
use Rattle.json_values.specs.declared.Tail.TheVariants.{Closed, More, Neither}
use Rattle.field_objects.proofs.Passing.{Passed, passed_start, passed_none, passed-neither, passed-closed, passed-more, items-first}
use Rattle.query_conditions.specs.Conditions.{condition_of, Sound, condition_read, Stands}
use Rattle.query_conditions.specs.Reading.{no_condition, conditions_of, Held, few_of, Array}
use Rattle.query_conditions.specs.declared.conditions.Condition.{Condition}
use Rattle.query_conditions.proofs.Fusing.{condition_read-reads}

few-all : (cs : List RuleCondition) (u : Text) → length cs ≤ 8 → few_of (Some (cs, u)) ≡ Some (cs, u)
unfolding most_conditions
few-all cs u h = rw (le-leb (length cs) 8 h)

few-many : (cs : List RuleCondition) (u : Text) → 8 < length cs → few_of (Some (cs, u)) ≡ None
unfolding most_conditions
few-many cs u h = rw (lt-leb (length cs) 8 h)

-- ---- one more is held

below : (k n : ℕ) → k < n + 1 → (k ≡ n → ⊥) → k < n
below k n b f = omega arith

module _ (q : Text) (n : ℕ) (cs : List Condition) (c : Condition) (size : length cs ≡ 8) (room : n < 8) where
  conditions-more : conditions_of q (n + 1) (set cs n c) ≡ conditions_of q n cs ++ (condition_of q c ∷ [])
  unfolding conditions_of
  conditions-more = ap (map (condition_of q)) (take-set-here cs n c (omega arith)) ∙ map-append (condition_of q) (take n cs) (c ∷ [])

  held_more : Held q n cs → Sound q c → Held q (n + 1) (set cs n c)
  held_more h s = record {
    sounds = record { few = omega arith; each = each };
    rest = drop-set-lt (n + 1) cs n c (omega arith) ∙ sym (drop-drop 1 n cs) ∙ ap (drop 1) h.rest ∙ drop-drop 1 n (replicate 8 no_condition);
  }
    where
      each : (k : ℕ) → k < n + 1 → Sound q (get_or (set cs n c) k no_condition)
      each k b = by (eqb k n)
          (λ e. subst (λ (i : ℕ). Sound q (get_or (set cs n c) i no_condition)) (sym (eqb-true k n e))
          (subst (Sound q) (sym (get_or-set_same cs n c no_condition (omega arith))) s))
          (λ e.
          let other = eqb-false k n e in
          let less : k < n = below k n b other in
          subst (Sound q) (sym (get_or-set_other cs n k c no_condition other)) (h.sounds.each k less))

-- ---- the loop

pub record Going (q : Text) (at i n : ℕ) (cs : List Condition) : Type 0 where
  pub size : length cs ≡ 8
  pub held : Held q n cs
  pub passed : Passed condition_read 0x5D q at i (conditions_of q n cs)

held_none : (q : Text) → Held q 0 (replicate 8 no_condition)
held_none q = record { sounds = record { few = omega arith; each = λ k h. absurd (omega arith) }; rest = refl }

module _ (q : Text) (at : ℕ) where
  pub opened-neither : Follows (opening 0x5D (drop at q)) q at Neither → few_of (list condition_read 0x5D (drop at q)) ≡ None
  opened-neither f = ap few_of (list-neither condition_read 0x5D (drop at q) f)

  pub opened-closed : (end : ℕ) → Follows (opening 0x5D (drop at q)) q at (Closed end)
      → Array (few_of (list condition_read 0x5D (drop at q))) q end 0 (replicate 8 no_condition)
  unfolding conditions_of
  opened-closed end f = record {
    size = length-replicate 8 no_condition;
    held = held_none q;
    all = ap few_of (list-closed condition_read 0x5D (drop at q) f.0) ∙ few-all [] (drop end q) (omega arith);
    within = f.2;
  }

  pub going_start : (i : ℕ) → Follows (opening 0x5D (drop at q)) q at (More i) → Going q at i 0 (replicate 8 no_condition)
  unfolding conditions_of
  going_start i f = record { size = length-replicate 8 no_condition; held = held_none q; passed = passed_start condition_read 0x5D q at f }

  module _ (i n : ℕ) (cs : List Condition) (g : Going q at i n cs) where
    abbrev gone : List RuleCondition
    gone = conditions_of q n cs

    gone-size : length gone ≡ n
    unfolding conditions_of
    gone-size = length-map (take n cs) (condition_of q) ∙ length-take-le n cs (omega (arith, g.size, g.held.sounds.few))

    pub going-none : condition_read (drop i q) ≡ None → few_of (list condition_read 0x5D (drop at q)) ≡ None
    going-none e = ap few_of (passed_none g.passed e)

    -- one more would be the ninth
    pub going-full : n ≡ 8 → few_of (list condition_read 0x5D (drop at q)) ≡ None
    going-full full = go (condition_read (drop i q)) refl
      where
        joins : {x : RuleCondition} {r : Text} → condition_read (drop i q) ≡ Some (x, r) → (o : Option (List RuleCondition × Text))
            → rest condition_read 0x5D (drop i q) ≡ o → few_of (joined gone o) ≡ None
        joins e None f = refl
        joins e (Some p) f =
            let (ys, first) = items-first condition_read 0x5D (drop i q) e f in
            few-many (gone ++ p.0) p.1 (omega (arith, length-append gone p.0, gone-size, ap length first))

        go : (o : Option (RuleCondition × Text)) → condition_read (drop i q) ≡ o → few_of (list condition_read 0x5D (drop at q)) ≡ None
        go None e = going-none e
        go (Some p) e = ap few_of (sym g.passed.left) ∙ joins e (rest condition_read 0x5D (drop i q)) refl

    module _ (c : Condition) (e : ℕ) (st : Stands (condition_read (drop i q)) q i c e) where
      pub going-neither : Follows (closing 0x5D (drop e q)) q (e + 1) Neither → few_of (list condition_read 0x5D (drop at q)) ≡ None
      going-neither f = ap few_of (passed-neither g.passed e st.read f)

      module _ (room : n < 8) where
        more : gone ++ (condition_of q c ∷ []) ≡ conditions_of q (n + 1) (set cs n c)
        more = sym (conditions-more q n cs c g.size room)

        pub going-closed : (k : ℕ) → Follows (closing 0x5D (drop e q)) q (e + 1) (Closed k)
            → Array (few_of (list condition_read 0x5D (drop at q))) q k (n + 1) (set cs n c)
        going-closed k f = record {
          size = length-set cs n c ∙ g.size;
          held = held_more q n cs c g.size room g.held st.sound;
          all =
              ap few_of (passed-closed g.passed e st.read f)
              ∙ few-all (gone ++ (condition_of q c ∷ [])) (drop k q) (omega (arith, length-append gone (condition_of q c ∷ []), gone-size))
              ∙ ap (λ (l : List RuleCondition). Some (l, drop k q)) more;
          within = f.2;
        }

        pub going_more : (k : ℕ) → Follows (closing 0x5D (drop e q)) q (e + 1) (More k) → Going q at k (n + 1) (set cs n c)
        going_more k f = record {
          size = length-set cs n c ∙ g.size;
          held = held_more q n cs c g.size room g.held st.sound;
          passed = subst (Passed condition_read 0x5D q at k) more (passed-more g.passed e st.read condition_read-reads f);
        }

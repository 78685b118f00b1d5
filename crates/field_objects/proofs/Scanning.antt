-- The scan of an object: the members that went by are in the slots, and each way out of the loop answers for the whole object.
use mathlib.Core.Path.{◌≡◌, sym, ap, ◌∙◌, subst}
use Rattle.std.specs.Prelude.{None}
use mathlib.Core.List.{List, [], ◌∷◌, ◌++◌}
use Prim.Native.Nat.{ℕ, ◌+◌, ◌-◌, ◌≤◌}
use native.Mathlib.Omega.{arith}
use lib.Dec.{ltb}
use lib.ListN.{length, take, drop, get_or, set, replicate}
use Rattle.rules.specs.Json.Text.{Text, Reader}
use Rattle.rules.specs.Json.Values.{Member, opening, closing, member, contents}
use Rattle.rules.proofs.Json.Suffix.{EachReads}
use Rattle.rules.proofs.Json.ValueReads.{member-reads}
use Rattle.rules.proofs.Json.Steps.{contents-list, list-closed, list-neither}
use Rattle.json_values.specs.Follows.{Follows}
use Rattle.json_values.specs.declared.Tail.TheVariants.{Closed, More, Neither}
use Rattle.field_names.specs.Kinds.{names_of, seek}
use Rattle.field_objects.specs.Places.{next_in, places_from, places_in}
use Rattle.field_objects.specs.Slots.{missing, one_more, slot_by, Noted, Each, slots_of, Filled}
use Rattle.field_names.specs.Spelled.{name_in}
use Rattle.field_objects.specs.Standing.{Stands}
use Rattle.field_names.specs.declared.kinds.Kind.{Kind}
use Rattle.field_objects.specs.declared.notes.Slot.{Slot}
use Rattle.field_names.specs.declared.keys.Spell.{Spell}
use Rattle.field_names.proofs.Naming.{names-few, names-distinct, place-few}
use Rattle.field_objects.proofs.Slots.{noted-at, each_start, each_more}
use Rattle.field_objects.proofs.Places.{followed, followed-more, places-more, length-slots, slots-start, slots-more}
use Rattle.field_objects.proofs.Passing.{Passed, passed_start, passed_none, passed-neither, passed-closed, passed-more, list-further}

pub record Going (read : Reader) (s : Text) (at : ℕ) (kind : Kind) (slots : List Slot) (i : ℕ) : Type 0 where
  pub gone : List Member
  pub passed : Passed (member read) 0x7D s at i gone
  pub each : Each s (names_of kind) gone slots
  pub here : followed (next_in (opening 0x7D (drop at s))) gone ≡ drop i s
  pub exact : slots ≡ slots_of 8 (names_of kind) (places_in s at gone)

module _ (read : Reader) (s : Text) (at : ℕ) (kind : Kind) where
  -- ---- behind the opening brace

  pub opened-neither : Follows (opening 0x7D (drop at s)) s at Neither → contents read (drop at s) ≡ None
  opened-neither f = contents-list read (drop at s) ∙ list-neither (member read) 0x7D (drop at s) f

  pub opened-closed : EachReads 1 read → at ≤ length s → (end : ℕ) → Follows (opening 0x7D (drop at s)) s at (Closed end)
      → Filled (contents read (drop at s)) s at (names_of kind) end (replicate 8 missing)
  unfolding places_in places_from
  opened-closed each h end f = record {
    ms = [];
    all = contents-list read (drop at s) ∙ list-closed (member read) 0x7D (drop at s) f.0;
    from = list-further (member-reads each) 0x7D s at end h f.2 (list-closed (member read) 0x7D (drop at s) f.0);
    within = f.2;
    each = each_start s (names_of kind) (omega (arith, names-few kind));
    exact = slots-start 8 (names_of kind);
  }

  pub going_start : (i : ℕ) → Follows (opening 0x7D (drop at s)) s at (More i) → Going read s at kind (replicate 8 missing) i
  unfolding places_in places_from followed next_in
  going_start i f = record {
    gone = [];
    passed = passed_start (member read) 0x7D s at f;
    each = each_start s (names_of kind) (omega (arith, names-few kind));
    here = ap next_in f.0;
    exact = slots-start 8 (names_of kind);
  }

  -- ---- a turn

  module _ (slots : List Slot) (i : ℕ) (g : Going read s at kind slots i) where
    pub going-none : member read (drop i s) ≡ None → contents read (drop at s) ≡ None
    going-none e = contents-list read (drop at s) ∙ passed_none g.passed e

    module _ (n : Spell) (v e : ℕ) (m : Stands (member read (drop i s)) s i n v e) where
      pub going-neither : Follows (closing 0x7D (drop e s)) s (e + 1) Neither → contents read (drop at s) ≡ None
      going-neither f = contents-list read (drop at s) ∙ passed-neither g.passed e m.read f

      module _ (x : Slot) (r names : ℕ) (place : r ≡ seek (name_in s n) (names_of kind)) (many : names ≡ length (names_of kind))
          (note : x ≡ slot_by (ltb r names) (one_more (get_or slots r missing).seen v e) (get_or slots r missing)) (reads : EachReads 1 read) where
        abbrev next : List Slot
        next = set slots r x

        noted : Noted slots (length (names_of kind)) r v e next
        noted = subst (λ (m : ℕ). Noted slots m r v e next) many
            (noted-at slots names r v e x (ap length g.exact ∙ length-slots 8 (names_of kind) (places_in s at g.gone))
            (omega (arith, place, place-few kind (name_in s n))) note)

        more : Each s (names_of kind) (g.gone ++ ((name_in s n, take (e - v) (drop v s)) ∷ [])) next
        more = each_more s (names_of kind) g.gone slots next (name_in s n) r v e (names-distinct kind) m.ordered m.within place noted g.each

        exactly : next ≡ slots_of 8 (names_of kind) (places_in s at (g.gone ++ ((name_in s n, take (e - v) (drop v s)) ∷ [])))
        unfolding places_in
        exactly =
            slots-more
            (names_of kind)
            (places_in s at g.gone)
            slots next
            (name_in s n)
            r v e
            (omega (arith, names-few kind))
            (names-distinct kind)
            place noted
            g.exact
            ∙ sym (ap (slots_of 8 (names_of kind))
            (places-more s (next_in (opening 0x7D (drop at s))) g.gone (name_in s n) i v e m.ordered m.within g.here m.value))

        pub going-closed : at ≤ length s → (k : ℕ) → Follows (closing 0x7D (drop e s)) s (e + 1) (Closed k)
            → Filled (contents read (drop at s)) s at (names_of kind) k next
        going-closed h k f = record {
          ms = g.gone ++ ((name_in s n, take (e - v) (drop v s)) ∷ []);
          all = contents-list read (drop at s) ∙ passed-closed g.passed e m.read f;
          from = list-further (member-reads reads) 0x7D s at k h f.2 (passed-closed g.passed e m.read f);
          within = f.2;
          each = more;
          exact = exactly;
        }

        pub going_more : (k : ℕ) → Follows (closing 0x7D (drop e s)) s (e + 1) (More k) → Going read s at kind next k
        going_more k f = record {
          gone = g.gone ++ ((name_in s n, take (e - v) (drop v s)) ∷ []);
          passed = passed-more g.passed e m.read (member-reads reads) f;
          each = more;
          here = followed-more s (next_in (opening 0x7D (drop at s))) g.gone (name_in s n) i v e m.ordered m.within g.here m.value k f.0;
          exact = exactly;
        }

-- The slots of a scan: one value more, and what a slot says of a field by the rules.
use mathlib.Core.Path.{◌≡◌, refl, sym, ap, ◌∙◌, subst}
use mathlib.Core.Bool.{Bool, true, false}
use mathlib.Core.List.{List, [], ◌∷◌, ◌++◌}
use Prim.Native.Nat.{ℕ, zero, suc, ◌-◌, ◌≤◌, ◌<◌}
use Prim.Native.String.{String}
use native.Mathlib.Omega.{arith}
use borrow.Author.Tests.{ne_eqb, eqb-true, eqb-false, lt-ltb, le-ltb}
use lib.Dec.{eqb, ltb}
use lib.ListN.{length, take, drop, get_or, set, replicate, get_or-replicate, length-set, length-append}
use lib.Seq.{get_or-set_same, get_or-set_other}
use Rattle.rules.specs.Bytes.{Bytes, ascii, same, distinct}
use Rattle.rules.specs.Json.Text.{Text}
use Rattle.rules.specs.Json.Values.{Member}
use Rattle.rules.specs.Json.Fields.{under, once, sole_or_none, optional, absent}
use Rattle.rules.proofs.Tests.{by}
use Rattle.rules.proofs.Json.Fields.{under-last-hit, under-last-miss, once-missing, once-there, once-twice}
use Rattle.rules.proofs.Json.Fields.{optional-missing, optional-twice, absent-missing, absent-there}
use Rattle.field_names.specs.Kinds.{seek}
use Rattle.field_objects.specs.Slots.{missing, Times, Holds, one_more, slot_by, Noted, Each, text_in, optional_in}
use Rattle.field_objects.specs.declared.notes.Slot.{Slot}
use Rattle.field_names.proofs.Seeking.{seek_is}

-- ---- one value more

pub one-more-other : (seen v e : ℕ) → (seen ≡ 0 → ⊥) → ◌≡◌ {A = Slot} (record { seen = 2; start = 0; end = 0 }) (one_more seen v e)
one-more-other zero v e f = absurd (f refl)
one-more-other (suc n) v e f = refl

-- slot k, written again with or without a value more
pub noted-at : (slots : List Slot) (names k v e : ℕ) (x : Slot) → length slots ≡ 8 → k < 8
    → x ≡ slot_by (ltb k names) (one_more (get_or slots k missing).seen v e) (get_or slots k missing) → Noted slots names k v e (set slots k x)
noted-at slots names k v e x l h p = record {
  size = length-set slots k x ∙ l;
  each = λ j b. by (eqb k j) (λ q. rw q (here j q (lt-ltb k names (omega (arith, eqb-true k j q))))) (λ q. rw q (other j q));
  past = λ j b. by (eqb k j) (λ q. here j q (le-ltb k names (omega (arith, eqb-true k j q)))) (other j);
}
  where
    here : (j : ℕ) → eqb k j ≡ true → {b : Bool} → ltb k names ≡ b
        → get_or (set slots k x) j missing ≡ slot_by b (one_more (get_or slots j missing).seen v e) (get_or slots j missing)
    here j q {b} t =
        subst (λ (i : ℕ). get_or (set slots k x) i missing ≡ slot_by b (one_more (get_or slots i missing).seen v e) (get_or slots i missing)) (eqb-true k j q)
        (get_or-set_same slots k x missing (omega (arith, l, h)) ∙ p
        ∙ ap (λ (b : Bool). slot_by b (one_more (get_or slots k missing).seen v e) (get_or slots k missing)) t)

    other : (j : ℕ) → eqb k j ≡ false → get_or (set slots k x) j missing ≡ get_or slots j missing
    other j q = get_or-set_other slots k j x missing (λ same. eqb-false k j q (sym same))

one-more-holds : (s : Text) (n v₀ e₀ v e : ℕ) (vs : List Text) → v ≤ e → e ≤ length s → Times s n v₀ e₀ vs
    → Holds s (one_more n v e) (vs ++ (take (e - v) (drop v s) ∷ []))
one-more-holds s zero v₀ e₀ v e vs h l t = (rw t, h, l)
one-more-holds s (suc zero) v₀ e₀ v e vs h l t = rw t.0 (omega arith)
one-more-holds s (suc (suc n)) v₀ e₀ v e vs h l t =
    let b : 2 ≤ length vs = t in
    simp length-append (omega arith)

-- ---- one member more, whose value stands from v to e and whose name is found at r

pub each_start : (s : Text) (names : List Bytes) → length names ≤ 8 → Each s names [] (replicate 8 missing)
unfolding under
each_start s names l k b = subst (λ (x : Slot). Holds s x (under (get_or names k []) [])) (sym (get_or-replicate 8 k missing missing (omega (arith, l, b))))
    refl

pub each_more : (s : Text) (names : List Bytes) (gone : List Member) (slots next : List Slot) (name : Bytes) (r v e : ℕ)
    → distinct names ≡ true → v ≤ e → e ≤ length s → r ≡ seek name names → Noted slots (length names) r v e next → Each s names gone slots
    → Each s names (gone ++ ((name, take (e - v) (drop v s)) ∷ [])) next
each_more s names gone slots next name r v e d h w p noted old k b = by (same name key)
    (λ t. subst (λ (x : Slot). Holds s x (under key (gone ++ (m ∷ [])))) (sym (now-slot ∙ ap picked (found ∙ t)))
    (rw (under-last-hit key gone m t)
    (one-more-holds s (get_or slots k missing).seen (get_or slots k missing).start (get_or slots k missing).end v e (under key gone) h w (old k b))))
    (λ t. subst (λ (x : Slot). Holds s x (under key (gone ++ (m ∷ [])))) (sym (now-slot ∙ ap picked (found ∙ t)))
    (rw (under-last-miss key gone m t) (old k b)))
  where
    key : Bytes
    key = get_or names k []

    m : Member
    m = (name, take (e - v) (drop v s))

    picked : Bool → Slot
    picked x = slot_by x (one_more (get_or slots k missing).seen v e) (get_or slots k missing)

    now-slot : get_or next k missing ≡ picked (eqb r k)
    now-slot = noted.each k b

    found : eqb r k ≡ same name key
    found = ap (λ (i : ℕ). eqb i k) p ∙ seek_is name names k d b

-- ---- a field by its slot

module _ (s : Text) (name : String) (ms : List Member) where
  pub slot-once : (seen v e : ℕ) → Times s seen v e (under (ascii name) ms) → once name ms ≡ text_in s seen v e
  slot-once zero v e t = once-missing name ms t
  slot-once (suc zero) v e t = once-there name ms t.0
  slot-once (suc (suc n)) v e t = once-twice name ms t

  pub slot-optional : (seen v e : ℕ) → Times s seen v e (under (ascii name) ms) → optional name ms ≡ optional_in s seen v e
  unfolding optional
  slot-optional zero v e t = optional-missing name ms t
  slot-optional (suc zero) v e t = ap sole_or_none t.0
  slot-optional (suc (suc n)) v e t = optional-twice name ms t

  pub slot-absent : (seen v e : ℕ) → Times s seen v e (under (ascii name) ms) → absent name ms ≡ eqb seen 0
  slot-absent zero v e t = absent-missing name ms t
  slot-absent (suc zero) v e t = absent-there name ms t.0
  slot-absent (suc (suc n)) v e t = go (under (ascii name) ms) refl t
    where
      go : (vs : List Text) → under (ascii name) ms ≡ vs → 2 ≤ length vs → absent name ms ≡ eqb (suc (suc n)) 0
      go [] p l = absurd (omega arith)
      go (w ∷ vs) p l = absent-there name ms p ∙ sym (ne_eqb (suc (suc n)) 0 (λ z. omega arith))

-- The places of an object's members as a loop meets them, and the slots that hold them.
use mathlib.Core.Path.{◌≡◌, refl, sym, ap, ◌∙◌}
use mathlib.Core.Bool.{Bool, true}
use Rattle.std.specs.Prelude.{Some}
use mathlib.Core.List.{List, [], ◌∷◌, ◌++◌}
use Prim.Native.Nat.{ℕ, zero, suc, ◌+◌, ◌-◌, ◌≤◌, ◌<◌}
use native.Mathlib.Omega.{arith}
use borrow.Author.Tests.{ltb-true, ltb-false}
use lib.Dec.{eqb, ltb}
use lib.ListN.{length, take, drop, get_or, replicate, length-drop}
use lib.Seq.{drop-drop, length-take-le, ext_get_or}
use Rattle.facts.proofs.Lists.{drop-place}
use Rattle.rules.specs.Bytes.{Bytes, same, distinct}
use Rattle.rules.specs.Json.Text.{Text}
use Rattle.rules.specs.Json.Values.{Member, onward, closing}
use Rattle.rules.proofs.Tests.{by}
use Rattle.field_names.specs.Kinds.{seek}
use Rattle.field_objects.specs.Places.{Placed, next_in, value_in, placed, following, places_from}
use Rattle.field_objects.specs.Slots.{missing, one_more, slot_by, Noted, slot_of, slots_of}
use Rattle.field_objects.specs.declared.notes.Slot.{Slot}
use Rattle.field_names.proofs.Seeking.{seek_is}

-- ---- one member more

-- where the member behind those gone by begins
unfoldable pub followed : Text → List Member → Text
followed t [] = t
followed t (m ∷ ms) = followed (following m (value_in t)) ms

pub followed-last : (t : Text) (gone : List Member) (m : Member) → followed t (gone ++ (m ∷ [])) ≡ following m (value_in (followed t gone))
unfolding followed
followed-last t [] m = refl
followed-last t (g ∷ gone) m = followed-last (following g (value_in t)) gone m

places-last : (s t : Text) (gone : List Member) (m : Member)
    → places_from s t (gone ++ (m ∷ [])) ≡ places_from s t gone ++ (placed s m (value_in (followed t gone)) ∷ [])
unfolding places_from followed
places-last s t [] m = refl
places-last s t (g ∷ gone) m = ap (λ (ps : List Placed). placed s g (value_in t) ∷ ps) (places-last s (following g (value_in t)) gone m)

-- whose value stands from v to e
module _
    (s t : Text)
    (gone : List Member)
    (name : Bytes)
    (i v e : ℕ)
    (h : v ≤ e)
    (w : e ≤ length s)
    (here : followed t gone ≡ drop i s)
    (c : value_in (drop i s) ≡ Some (drop v s))
  where
    m : Member
    m = (name, take (e - v) (drop v s))

    size : length m.1 ≡ e - v
    unfolding m
    size = let fits : e - v ≤ length (drop v s) = omega (arith, length-drop v s) in length-take-le (e - v) (drop v s) fits

    pub places-more : places_from s t (gone ++ ((name, take (e - v) (drop v s)) ∷ [])) ≡ places_from s t gone ++ ((name, v, e) ∷ [])
    unfolding placed m
    places-more =
        let start : length s - length (drop v s) ≡ v = drop-place s v (omega arith) in
        let end : v + (e - v) ≡ e = omega arith in
        places-last s t gone m
        ∙ ap (λ o. places_from s t gone ++ (placed s m o ∷ [])) (ap value_in here ∙ c)
        ∙ ap (λ (a : ℕ). places_from s t gone ++ ((name, a, a + length m.1) ∷ [])) start
        ∙ ap (λ (a : ℕ). places_from s t gone ++ ((name, v, v + a) ∷ [])) size
        ∙ ap (λ (a : ℕ). places_from s t gone ++ ((name, v, a) ∷ [])) end

    pub followed-more : (k : ℕ) → closing 0x7D (drop e s) ≡ onward (drop k s) → followed t (gone ++ ((name, take (e - v) (drop v s)) ∷ [])) ≡ drop k s
    unfolding following next_in m
    followed-more k f =
        let end : v + (e - v) ≡ e = omega arith in
        followed-last t gone m
        ∙ ap (following m) (ap value_in here ∙ c)
        ∙ ap (λ (n : ℕ). next_in (closing 0x7D (drop n (drop v s)))) size
        ∙ ap (λ (u : Text). next_in (closing 0x7D u)) (drop-drop (e - v) v s ∙ ap (λ (n : ℕ). drop n s) end)
        ∙ ap next_in f

-- ---- the slots

slot-last : (name : Bytes) (ps : List Placed) (p : Placed) (x : Slot)
    → slot_of name (ps ++ (p ∷ [])) x ≡ slot_by (same p.0 name) (one_more (slot_of name ps x).seen p.1 p.2) (slot_of name ps x)
unfolding slot_of
slot-last name [] p x = refl
slot-last name (q ∷ ps) p x = slot-last name ps p (slot_by (same q.0 name) (one_more x.seen q.1 q.2) x)

pub length-slots : (n : ℕ) (names : List Bytes) (ps : List Placed) → length (slots_of n names ps) ≡ n
unfolding slots_of
length-slots zero names ps = refl
length-slots (suc n) [] ps = ap suc (length-slots n [] ps)
length-slots (suc n) (k ∷ ks) ps = ap suc (length-slots n ks ps)

pub slots-named : (n : ℕ) (names : List Bytes) (ps : List Placed) (k : ℕ) → k < length names → k < n
    → get_or (slots_of n names ps) k missing ≡ slot_of (get_or names k []) ps missing
unfolding slots_of
slots-named zero names ps k h l = absurd (omega arith)
slots-named (suc n) [] ps k h l = absurd (omega arith)
slots-named (suc n) (w ∷ ks) ps zero h l = refl
slots-named (suc n) (w ∷ ks) ps (suc j) h l = slots-named n ks ps j (omega arith) (omega arith)

slots-past : (n : ℕ) (names : List Bytes) (ps : List Placed) (k : ℕ) → length names ≤ k → get_or (slots_of n names ps) k missing ≡ missing
unfolding slots_of
slots-past zero names ps k h = refl
slots-past (suc n) [] ps zero h = refl
slots-past (suc n) [] ps (suc j) h = slots-past n [] ps j (omega arith)
slots-past (suc n) (w ∷ ks) ps zero h = absurd (omega arith)
slots-past (suc n) (w ∷ ks) ps (suc j) h = slots-past n ks ps j (omega arith)

pub slots-start : (n : ℕ) (names : List Bytes) → replicate n missing ≡ slots_of n names []
unfolding slots_of slot_of
slots-start zero names = refl
slots-start (suc n) [] = ap (λ (xs : List Slot). missing ∷ xs) (slots-start n [])
slots-start (suc n) (k ∷ ks) = ap (λ (xs : List Slot). missing ∷ xs) (slots-start n ks)

-- one value more, of the name that is found at r
pub slots-more : (names : List Bytes) (ps : List Placed) (slots next : List Slot) (name : Bytes) (r v e : ℕ) → length names ≤ 8 → distinct names ≡ true
    → r ≡ seek name names → Noted slots (length names) r v e next → slots ≡ slots_of 8 names ps → next ≡ slots_of 8 names (ps ++ ((name, v, e) ∷ []))
slots-more names ps slots next name r v e l d p noted old =
    ext_get_or missing next (slots_of 8 names (ps ++ (q ∷ []))) (noted.size ∙ sym (length-slots 8 names (ps ++ (q ∷ [])))) (λ k h. by (ltb k (length names))
    (λ t. named k (ltb-true k (length names) t))
    (λ t. past k (ltb-false k (length names) t)))
  where
    q : Placed
    q = (name, v, e)

    named : (k : ℕ) → k < length names → get_or next k missing ≡ get_or (slots_of 8 names (ps ++ (q ∷ []))) k missing
    named k h =
        let here : get_or slots k missing ≡ slot_of (get_or names k []) ps missing =
        ap (λ (xs : List Slot). get_or xs k missing) old ∙ slots-named 8 names ps k h (omega arith) in
        let found : eqb r k ≡ same name (get_or names k []) = ap (λ (i : ℕ). eqb i k) p ∙ seek_is name names k d h in
        noted.each k h
        ∙ ap (λ (x : Slot). slot_by (eqb r k) (one_more x.seen v e) x) here
        ∙ ap (λ (b : Bool). slot_by b (one_more (slot_of (get_or names k []) ps missing).seen v e) (slot_of (get_or names k []) ps missing)) found
        ∙ sym (slots-named 8 names (ps ++ (q ∷ [])) k h (omega arith) ∙ slot-last (get_or names k []) ps q missing)

    past : (k : ℕ) → length names ≤ k → get_or next k missing ≡ get_or (slots_of 8 names (ps ++ (q ∷ []))) k missing
    past k h = noted.past k h ∙ ap (λ (xs : List Slot). get_or xs k missing) old ∙ slots-past 8 names ps k h ∙ sym (slots-past 8 names (ps ++ (q ∷ [])) k h)

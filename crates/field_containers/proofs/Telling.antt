-- Names by where they are told to stand, beside an array of strings: where the bytes of each are those of a string, they are the same.
use mathlib.Core.Path.{◌≡◌, refl, sym, ap, ap₂, subst, ◌∙◌}
use mathlib.Core.Bool.{true}
use mathlib.Core.List.{List, [], ◌∷◌}
use Prim.Native.Nat.{ℕ, zero, suc, ◌+◌, ◌-◌, ◌≤◌, ◌<◌}
use native.Mathlib.Omega.{arith}
use lib.ListN.{length, take, drop, get_or, length-drop}
use lib.Seq.{take_all, length-take-le}
use Rattle.facts.proofs.Lists.{drop_here}
use Rattle.rules.specs.Bytes.{Bytes, begins, same_set, first, firsts}
use Rattle.rules.specs.Json.Text.{Text, is_ws, ws}
use Rattle.rules.specs.Json.Values.{onward, opened_by, opening, closing}
use Rattle.rules.specs.Actions.{in_field, Pairs}
use Rattle.rules.proofs.Order.{take_begins}
use Rattle.rules.proofs.Json.Suffix.{value_same}
use Rattle.bytes_eights.specs.Alike.{Alike}
use Rattle.json_values.specs.Follows.{Follows}
use Rattle.json_values.specs.declared.Tail.TheVariants.{More}
use Rattle.field_names.specs.Spelled.{name_in, Quoted}
use Rattle.field_names.specs.declared.keys.Spell.{Spell}
use Rattle.field_objects.specs.Namings.{Object}
use Rattle.field_scalars.proofs.Strings.{byte-text}
use Rattle.field_containers.specs.Nested.{Sole, Couple, UsualIs, Again, Ended, Pairing}
use Rattle.field_containers.specs.Strung.{Listed, Onward}
use Rattle.field_containers.specs.declared.nested.Usual.{Usual}
use Rattle.field_containers.proofs.InStep.{again, again-name, again-quoted}
use Rattle.field_containers.proofs.Pairs.{pairing-object, sets_same}
use Rattle.field_containers.proofs.Walking.{listed_more, onward-closed, onward-more}

-- ---- bytes that are alike

-- the same bytes in two texts
alike-take : (s t : Text) (n i j : ℕ) → i + n ≤ length s → j + n ≤ length t → Alike s i t j n → take n (drop i s) ≡ take n (drop j t)
alike-take s t zero i j h k a = refl
alike-take s t (suc n) i j h k a =
    let here : get_or s i 0 ≡ get_or t j 0 = subst (λ (x : ℕ). get_or s x 0 ≡ get_or t j 0) (omega arith)
    (subst (λ (y : ℕ). get_or s (i + 0) 0 ≡ get_or t y 0) (omega arith) (a 0 (omega arith))) in
    let more = alike-take s t n (i + 1) (j + 1) (omega arith) (omega arith) (λ x l. rest x l) in
    ap (take (suc n)) (drop_here s i 0 (omega arith)) ∙ ap₂ (λ (b : ℕ) (l : Text). b ∷ l) here more ∙ sym (ap (take (suc n)) (drop_here t j 0 (omega arith)))
  where
    rest : (x : ℕ) → x < n → get_or s (i + 1 + x) 0 ≡ get_or t (j + 1 + x) 0
    rest x l =
        let p : i + suc x ≡ i + 1 + x = omega arith in
        let q : j + suc x ≡ j + 1 + x = omega arith in
        subst (λ (y : ℕ). get_or s (i + 1 + x) 0 ≡ get_or t y 0) q (subst (λ (y : ℕ). get_or s y 0 ≡ get_or t (j + suc x) 0) p (a (suc x) (omega arith)))

pub alike-again : (s t : Text) (i end j n : ℕ) → i ≤ end → end ≤ length s → end - i ≤ n → j + n ≤ length t → Alike s i t j n → Again s i end t j
alike-again s t i end j n h k l w a =
    let e : length (take (end - i) (drop i s)) ≡ end - i = length-take-le (end - i) (drop i s) (omega (arith, length-drop i s)) in
    let g : take (length t - j) (drop j t) ≡ drop j t = take_all (length t - j) (drop j t) (omega (arith, length-drop j t)) in
    let f = alike-take s t (end - i) i j (omega arith) (omega arith) (λ x p. a x (omega arith)) in
    ap (begins (take (end - i) (drop i s))) g
    ∙ take_begins (take (end - i) (drop i s)) (drop j t) (ap (λ (x : ℕ). take x (drop j t)) e ∙ sym f)

-- ---- an object has one list of names, and an array that begins with a string has it at once

names-alone : {s : Text} {at : ℕ} {xs ys : List Bytes} → Object in_field s at xs → Object in_field s at ys → xs ≡ ys
names-alone v w = sym v.each ∙ ap firsts (value_same (sym v.all ∙ w.all)) ∙ w.each

pairing-names : {s : Text} {at : ℕ} {ps : Pairs} {xs : List Bytes} → Pairing s at ps → Object in_field s at xs → firsts ps ≡ xs
unfolding in_field
pairing-names w o = names-alone (pairing-object w) o

quote-opens : (t : Text) (j : ℕ) {r : Text} → drop j t ≡ 0x22 ∷ r → opening 0x5D (drop j t) ≡ onward (drop j t)
unfolding opening opened_by ws is_ws first
quote-opens t j {r} e = ap (opening 0x5D) e ∙ sym (ap onward e)

listed-quoted : (t : Text) (j : ℕ) (n : Spell) (cs : List Bytes) → Quoted t j n → Listed t j cs → Onward t j cs
listed-quoted t j n cs q l =
    let low : j + 1 ≤ n.at = q.from in
    let mid : n.at + 1 ≤ n.end = q.named.from in
    let high : n.end ≤ length t = q.named.within in
    listed_more t j cs l j (quote-opens t j (byte-text 0x22 (drop j t) q.quote), omega arith, omega arith)

-- ---- they are the strings

module _ (s : Text) (at : ℕ) (t : Text) (j : ℕ) where
  -- where a name ends in t
  pub again-ends : {end : ℕ} → (n : Spell) → Quoted s at n → n.end ≡ end → Again s at end t j → j + (end - at) ≤ length t
  again-ends n q e b =
      subst (λ (x : ℕ). j + (x - at) ≤ length t) e (again-quoted s at n q t j (subst (λ (x : ℕ). Again s at x t j) (sym e) b)).named.within

  pub first_ends : {u : Usual} → UsualIs s at u → 0 < u.end → Again s at u.end t j → j + (u.end - at) ≤ length t
  first_ends {u} w h b = go u.second refl
    where
      go : (k : ℕ) → u.second ≡ k → j + (u.end - at) ≤ length t
      go zero e = let x = w.one h e in again-ends x.n x.quoted x.ends b
      go (suc k) e = let x = w.two h (omega (arith, e)) in again-ends x.n x.quoted x.ends b

  pub sole-fits : {end : ℕ} → Sole s at end → Again s at end t j → Ended t (j + (end - at))
      → (ps : Pairs) (cs : List Bytes) → Pairing s at ps → Listed t j cs → same_set (firsts ps) cs ≡ true
  sole-fits w b f ps cs p l =
      let n = w.n in
      let q = w.quoted in
      let c = subst (λ (x : ℕ). Again s at x t j) (sym w.ends) b in
      let g = subst (λ (x : ℕ). Ended t (j + (x - at))) (sym w.ends) f in
      let a = again s at n q t j c in
      let aq = again-quoted s at n q t j c in
      sets_same (pairing-names p w.object ∙ ap (λ (z : Bytes). z ∷ []) (sym (again-name s at n q t j c))
      ∙ sym (onward-closed t j cs (listed-quoted t j a cs aq l) a aq g.1))

  pub couple-fits : {end second close : ℕ} → Couple s at end second close → Again s at end t j → (k : ℕ)
      → Follows (closing 0x5D (drop (j + (end - at)) t)) t (j + (end - at) + 1) (More k) → Again s second close t k → Ended t (k + (close - second))
      → (ps : Pairs) (cs : List Bytes) → Pairing s at ps → Listed t j cs → same_set (firsts ps) cs ≡ true
  couple-fits {second = second} w b k f d h ps cs p l =
      let n = w.n in
      let q = w.quoted in
      let c = subst (λ (x : ℕ). Again s at x t j) (sym w.ends) b in
      let g = subst (λ (x : ℕ). Follows (closing 0x5D (drop (j + (x - at)) t)) t (j + (x - at) + 1) (More k)) (sym w.ends) f in
      let a = again s at n q t j c in
      let aq = again-quoted s at n q t j c in
      let (ds, e, o) = onward-more t j cs (listed-quoted t j a cs aq l) a aq k g in
      let m = w.m in
      let r = w.quoted-too in
      let c2 = subst (λ (x : ℕ). Again s second x t k) (sym w.closes) d in
      let g2 = subst (λ (x : ℕ). Ended t (k + (x - second))) (sym w.closes) h in
      let z = onward-closed t k ds o (again s second m r t k c2) (again-quoted s second m r t k c2) g2.1 in
      let names : cs ≡ name_in s n ∷ name_in s m ∷ [] = e ∙ ap₂ (λ (x : Bytes) (y : List Bytes). x ∷ y) (again-name s at n q t j c)
      (z ∙ ap (λ (x : Bytes). x ∷ []) (again-name s second m r t k c2)) in
      sets_same (pairing-names p w.object ∙ sym names)

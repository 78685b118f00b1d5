-- The names of a bundle's files strictly ascend, as their padded names do.
use mathlib.Core.Path.{◌≡◌, refl, sym, ap, ◌∙◌}
use mathlib.Core.Logic.{◌⊎◌, inl, inr}
use mathlib.Core.Bool.{Bool, true, false}
use Rattle.std.specs.Prelude.{Option, None, Some}
use mathlib.Core.List.{List, [], ◌∷◌}
use Prim.Native.Nat.{ℕ, zero, suc, ◌+◌, ◌*◌, ◌≤◌, ◌<◌}
use native.Mathlib.Nat.{not-suc-le-zero, le_of_suc-le-suc}
use native.Mathlib.Omega.{arith}
use lib.Dec.{leb}
use lib.ListN.{length, take, drop, get_or, length-drop}
use lib.Seq.{drop-drop, length-take-le}
use Rattle.rules.specs.Bytes.{Bytes, Order, less, equal, more, order, is_less, among, ◌>>=◌, guard}
use Rattle.rules.specs.Numbers.{little}
use Rattle.rules.specs.Bundle.{Entry, File, most_bytes, most_entries, entry_bytes, field, entry_of}
use Rattle.rules.specs.Bundle.{entries, zeros, unpadded, name_in, ascending, files_from, files_of, bundle}
use Rattle.rules.proofs.Tests.{apart}
use Rattle.rules.proofs.Order.{trichotomy, order-cons-less, order-cons-more, order-cons-equal}
use Rattle.rules.proofs.Ranges.{among-true}
use Rattle.rules.specs.Keyed.{Ascends}
use Rattle.rules.proofs.Ascending.{ascends-of}
use Rattle.file_bundle.specs.Files.{files_or, files_in, file_in, no_file}
use Rattle.rules.proofs.SoleNames.{zeros-cons}
use Rattle.rules.proofs.Choices.{bind-some, guard-bind}
use Rattle.rules.proofs.Json.Suffix.{some_same}
use Rattle.file_bundle.proofs.Entries.{entries_at}
use Rattle.rules.proofs.Bundles.{length-entries}
use Rattle.file_bundle.proofs.Opening.{bundle-some}
use Rattle.file_bundle.proofs.Reading.{found}

-- ---- a name and its padding, against another of the same size

order-zeros : (p q : Bytes) → length p ≡ length q → zeros p ≡ true → zeros q ≡ true → order p q ≡ equal
unfolding order
order-zeros [] [] l y z = refl
order-zeros [] (c ∷ cs) l y z = absurd (omega arith)
order-zeros (b ∷ bs) [] l y z = absurd (omega arith)
order-zeros (b ∷ bs) (c ∷ cs) l y z =
    let u = zeros-cons b bs y in
    let w = zeros-cons c cs z in
    order-cons-equal b c bs cs (u.0 ∙ sym w.0) ∙ order-zeros bs cs (omega arith) u.1 w.1

-- the first byte is of the name, or only zeros are left
unpadded-cons : (b : ℕ) (bs name : Bytes) → unpadded (b ∷ bs) ≡ Some name
    → ((0 < b) × (rest : Bytes) × (unpadded bs ≡ Some rest) × (b ∷ rest ≡ name)) ⊎ ((zeros (b ∷ bs) ≡ true) × ([] ≡ name))
unfolding unpadded
unpadded-cons b bs name h = go (among 0x21 0x7E b) refl (zeros (b ∷ bs)) refl h
  where
    go : (v : Bool) → among 0x21 0x7E b ≡ v → (z : Bool) → zeros (b ∷ bs) ≡ z
        → elim v [ true ↦ (unpadded bs >>= λ rest. Some (b ∷ rest)) | false ↦ elim z [ true ↦ Some [] | false ↦ None ] ] ≡ Some name
        → ((0 < b) × (rest : Bytes) × (unpadded bs ≡ Some rest) × (b ∷ rest ≡ name)) ⊎ ((zeros (b ∷ bs) ≡ true) × ([] ≡ name))
    go true e z f t =
        let r = among-true 0x21 0x7E b e in
        let c = bind-some (unpadded bs) (λ rest. Some (b ∷ rest)) t in
        inl (omega (arith, r.0), c.0, c.1, some_same c.2)
    go false e true f t = inr (f, some_same t)
    go false e false f t = apart (cc)

order-unpadded : (p q a b : Bytes) → length p ≡ length q → unpadded p ≡ Some a → unpadded q ≡ Some b → order p q ≡ less → order a b ≡ less
unfolding order
order-unpadded [] [] a b l y z h = apart (cc)
order-unpadded [] (d ∷ ds) a b l y z h = absurd (omega arith)
order-unpadded (c ∷ cs) [] a b l y z h = absurd (omega arith)
order-unpadded (c ∷ cs) (d ∷ ds) a b l y z h = go (λ x w. order-unpadded cs ds x w (omega arith)) (unpadded-cons c cs a y) (unpadded-cons d ds b z)
  where
    both : (x w : Bytes) → (order cs ds ≡ less → order x w ≡ less) → (c < d) ⊎ ((d < c) ⊎ (c ≡ d)) → order (c ∷ x) (d ∷ w) ≡ less
    both x w ih (inl m) = order-cons-less c d x w m
    both x w ih (inr (inl m)) = apart (cc (order-cons-more c d cs ds m))
    both x w ih (inr (inr e)) = order-cons-equal c d x w e ∙ ih (sym (order-cons-equal c d cs ds e) ∙ h)

    go : ((x w : Bytes) → unpadded cs ≡ Some x → unpadded ds ≡ Some w → order cs ds ≡ less → order x w ≡ less)
        → ((0 < c) × (rest : Bytes) × (unpadded cs ≡ Some rest) × (c ∷ rest ≡ a)) ⊎ ((zeros (c ∷ cs) ≡ true) × ([] ≡ a))
        → ((0 < d) × (rest : Bytes) × (unpadded ds ≡ Some rest) × (d ∷ rest ≡ b)) ⊎ ((zeros (d ∷ ds) ≡ true) × ([] ≡ b)) → order a b ≡ less
    go ih (inl u) (inl w) = rw (← u.3, ← w.3) (both u.1 w.1 (ih u.1 w.1 u.2 w.2) (trichotomy c d))
    go ih (inl u) (inr w) = let e = (zeros-cons d ds w.0).0 in apart (cc (order-cons-more c d cs ds (omega (arith, e, u.0))))
    go ih (inr u) (inl w) = rw (← u.1, ← w.3)
    go ih (inr u) (inr w) = apart (cc (order-zeros (c ∷ cs) (d ∷ ds) l u.0 w.0))

name_in-unpadded : (p name : Bytes) → name_in p ≡ Some name → unpadded p ≡ Some name
unfolding name_in
name_in-unpadded p name h =
    let a = bind-some (unpadded p) (λ n. guard (leb 1 (length n)) >>= λ _. Some n) h in
    let b = guard-bind (leb 1 (length a.0)) (λ _. Some a.0) a.2 in
    a.1 ∙ b.1

-- ---- the contents, by neighbours

ascending-at : (es : List Entry) (j : ℕ) (d : Entry) → ascending es ≡ true → suc j < length es
    → order (get_or es j d).padded (get_or es (suc j) d).padded ≡ less
unfolding ascending is_less
ascending-at [] j d h l = absurd (not-suc-le-zero l)
ascending-at (a ∷ []) j d h l = absurd (not-suc-le-zero (le_of_suc-le-suc l))
ascending-at (a ∷ b ∷ es) j d h l = go (λ i. ascending-at (b ∷ es) i d) j (order a.padded b.padded) refl h l
  where
    go : ((i : ℕ) → ascending (b ∷ es) ≡ true → suc i < length (b ∷ es) → order (get_or (b ∷ es) i d).padded (get_or (b ∷ es) (suc i) d).padded ≡ less)
        → (j : ℕ) → (o : Order) → order a.padded b.padded ≡ o → elim (is_less o) [ true ↦ ascending (b ∷ es) | false ↦ false ] ≡ true
        → suc j < suc (suc (length es)) → order (get_or (a ∷ b ∷ es) j d).padded (get_or (b ∷ es) j d).padded ≡ less
    go ih zero less e t m = e
    go ih (suc i) less e t m = ih i t (le_of_suc-le-suc m)
    go ih i equal e t m = apart (cc)
    go ih i more e t m = apart (cc)

bundle-ascending : (s : Bytes) (fs : List File) → bundle s ≡ Some fs → ascending (entries (little (take 4 s)) (drop 4 s)) ≡ true
unfolding bundle files_of entry_bytes
bundle-ascending s fs h =
    let n = little (take 4 s) in
    let es = entries n (drop 4 s) in
    let bodies : Unit {0} → Option (List File) = λ _. files_from 0 (4 + 112 * n) es (drop (4 + 112 * n) s) in
    let ordered : Unit {0} → Option (List File) = λ _. guard (ascending es) >>= bodies in
    let a = guard-bind (among 4 most_bytes (length s)) (λ _. files_of n s) h in
    let b = guard-bind (leb n most_entries) (λ _. guard (leb (4 + 112 * n) (length s)) >>= ordered) a.1 in
    let c = guard-bind (leb (4 + 112 * n) (length s)) ordered b.1 in
    (guard-bind (ascending es) bodies c.1).0

-- ---- the files

-- the padded name of file k has 96 bytes, and is that file's name
padded-at : (s : Bytes) (k : ℕ) → k < length (files_in s)
    → (length (entry_of (drop (4 + 112 * k) s)).padded ≡ 96) × (unpadded (entry_of (drop (4 + 112 * k) s)).padded ≡ Some (file_in s k).name)
unfolding entry_of field
padded-at s k h =
    let f = found s k h in
    let long : 4 + 112 * k + 112 ≤ length s = f.contents in
    let room : 96 ≤ length (drop (4 + 112 * k) s) = rw length-drop (omega arith) in
    (length-take-le 96 (drop (4 + 112 * k) s) room, name_in-unpadded _ _ f.file.named)

pub files-ascend : (s : Bytes) → Ascends (λ (f : File). f.name) (files_in s)
unfolding files_in files_or file_in
files-ascend s = go (bundle s) refl
  where
    below : (fs : List File) → bundle s ≡ Some fs → (j : ℕ) → suc j < length (files_in s) → order (file_in s j).name (file_in s (suc j)).name ≡ less
    below fs e j l =
        let w = bundle-some s fs e in
        let n = little (take 4 s) in
        let es = entries n (drop 4 s) in
        let d = entry_of [] in
        let f : length (files_in s) ≡ n = ap (λ (o : Option (List File)). length (files_or o)) e ∙ w.count in
        let m : suc j < n = omega arith in
        let at : (i : ℕ) → i < n → get_or es i d ≡ entry_of (drop (4 + 112 * i) s) =
        λ i t. entries_at n i (drop 4 s) d t ∙ ap entry_of (drop-drop (112 * i) 4 s) in
        let p = padded-at s j (omega arith) in
        let q = padded-at s (suc j) l in
        let o : order (entry_of (drop (4 + 112 * j) s)).padded (entry_of (drop (4 + 112 * suc j) s)).padded ≡ less =
        rw (at j (omega arith), at (suc j) m) at (ascending-at es j d (bundle-ascending s fs e) (rw (length-entries n (drop 4 s)) m)) in
        order-unpadded _ _ _ _ (p.0 ∙ sym q.0) p.1 q.1 o

    go : (o : Option (List File)) → bundle s ≡ o → Ascends (λ (f : File). f.name) (files_in s)
    go None e = rw e tt
    go (Some fs) e = ascends-of (λ (f : File). f.name) (files_in s) no_file (below fs e)

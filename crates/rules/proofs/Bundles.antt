-- What every well-formed bundle is: its files are numbered from 0, at most 1,024, their padded names ascend, and of each version file and
-- checkpoint there is one.
use mathlib.Core.Path.{◌≡◌, refl, sym, ◌∙◌, ap, subst}
use mathlib.Core.Bool.{Bool, true, false}
use Rattle.std.specs.Prelude.{Option, None, Some}
use mathlib.Core.List.{List, [], ◌∷◌}
use Prim.Native.Nat.{ℕ, zero, suc, ◌+◌, ◌*◌, ◌≤◌}
use native.Mathlib.Omega.{arith}
use native.Mathlib.Nat.{suc-mul}
use lib.Dec.{leb, eqb}
use lib.ListN.{length, take, drop, length-take, length-drop}
use borrow.Author.Tests.{leb-true}
use Rattle.facts.specs.Lists.{All}
use Rattle.facts.proofs.Lists.{All-weaken}
use Rattle.rules.specs.Bytes.{◌>>=◌, Bytes, guard, among, is_empty, Order, less, equal, more, order, is_less}
use Rattle.rules.specs.Numbers.{little}
use Rattle.rules.specs.Bundle.{Entry, File, most_bytes, most_entries, entry_bytes, field, entry_of}
use Rattle.rules.specs.Bundle.{entries, unpadded, name_in, ascending, files_from, files_of, bundle}
use Rattle.rules.specs.Names.{Name, name_of, version_in, checkpoint_in, is}
use Rattle.rules.specs.Starts.{find}
use Rattle.rules.specs.Keyed.{Ascends}
use Rattle.rules.proofs.Tests.{apart}
use Rattle.rules.proofs.Order.{order_trans, order-less-ne}
use Rattle.rules.proofs.SoleNames.{OneName, one-version, one-checkpoint, unpadded-once, with_zeros, unpadded-zeros}
use Rattle.rules.proofs.Choices.{bind-some, guard-some}

-- ---- files beside their entries

entries-wide : (n : ℕ) (s : Bytes) → n * 112 ≤ length s → All (λ (e : Entry). length e.padded ≡ 96) (entries n s)
unfolding entries entry_of field entry_bytes All
entries-wide zero s l = tt
entries-wide (suc n) s l =
    let a : n * 112 + 112 ≤ length s = omega (arith, suc-mul n 112) in
    (omega (arith, length-take 96 s), entries-wide n (drop 112 s) (omega (arith, length-drop 112 s)))

pub length-entries : (n : ℕ) (s : Bytes) → length (entries n s) ≡ n
unfolding entries
length-entries zero s = refl
length-entries (suc n) s = ap suc (length-entries n (drop entry_bytes s))

-- the name and the number of each file are its entry's
data Told : ℕ → List Entry → List File → Type 0 where
  told-end : {k : ℕ} → Told k [] []
  told : {k : ℕ} {e : Entry} {f : File} {es : List Entry} {fs : List File} → unpadded e.padded ≡ Some f.name → f.entry ≡ k → Told (suc k) es fs
      → Told k (e ∷ es) (f ∷ fs)

files_from-told : (k at : ℕ) (es : List Entry) (rest : Bytes) (fs : List File) → files_from k at es rest ≡ Some fs → Told k es fs
unfolding files_from name_in
files_from-told k at [] rest fs e =
    let r = bind-some (guard (is_empty rest)) (λ _. Some []) e in
    let q : Some [] ≡ Some fs = r.2 in
    subst (Told k []) (cc) told-end
files_from-told k at (e ∷ es) rest fs h =
    let a = bind-some (name_in e.padded)
    (λ name. guard (eqb e.start at) >>= (λ _. guard (leb e.size (length rest)) >>= (λ _. further >>= (λ gs. Some (this name ∷ gs))))) h in
    let u = bind-some (unpadded e.padded) (λ name. guard (leb 1 (length name)) >>= (λ _. Some name)) a.1 in
    let b = bind-some (guard (leb 1 (length u.0))) (λ _. Some u.0) u.2 in
    let c = bind-some (guard (eqb e.start at)) (λ _. guard (leb e.size (length rest)) >>= (λ _. further >>= (λ gs. Some (this a.0 ∷ gs)))) a.2 in
    let d = bind-some (guard (leb e.size (length rest))) (λ _. further >>= (λ gs. Some (this a.0 ∷ gs))) c.2 in
    let g = bind-some further (λ gs. Some (this a.0 ∷ gs)) d.2 in
    let p : Some u.0 ≡ Some a.0 = b.2 in
    let q : Some (this a.0 ∷ g.0) ≡ Some fs = g.2 in
    subst (Told k (e ∷ es)) (cc) (told {f = this a.0} (u.1 ∙ p) refl (files_from-told (suc k) (at + e.size) es (drop e.size rest) g.0 g.1))
  where
    this : Bytes → File
    this name = record { entry = k; name = name; start = at; time = e.time; body = take e.size rest }

    further : Option (List File)
    further = files_from (suc k) (at + e.size) es (drop e.size rest)

-- the files are numbered on from k
abbrev pub Numbered : ℕ → List File → Type 0
Numbered k [] = Unit {0}
Numbered k (f ∷ fs) = (f.entry ≡ k) × Numbered (suc k) fs

told-numbered : {k : ℕ} {es : List Entry} {fs : List File} → Told k es fs → Numbered k fs
told-numbered told-end = tt
told-numbered (told u e t) = (e, told-numbered t)

told-length : {k : ℕ} {es : List Entry} {fs : List File} → Told k es fs → length es ≡ length fs
told-length told-end = refl
told-length (told u e t) = ap suc (told-length t)

-- ---- each name once

abbrev After : Entry → Entry → Type 0
After e x = order e.padded x.padded ≡ less

is_less-less : (p q : Bytes) → is_less (order p q) ≡ true → order p q ≡ less
unfolding is_less
is_less-less p q = go (order p q)
  where
    go : (o : Order) → is_less o ≡ true → o ≡ less
    go less e = refl
    go equal e = apart (cc)
    go more e = apart (cc)

ascending-cons : (a b : Entry) (es : List Entry) → ascending (a ∷ b ∷ es) ≡ true → After a b × (ascending (b ∷ es) ≡ true)
unfolding ascending
ascending-cons a b es h = go (is_less (order a.padded b.padded)) refl h
  where
    go : (t : Bool) → is_less (order a.padded b.padded) ≡ t → elim t [ true ↦ ascending (b ∷ es) | false ↦ false ] ≡ true
        → After a b × (ascending (b ∷ es) ≡ true)
    go true e h = (is_less-less a.padded b.padded e, h)
    go false e h = apart (cc)

ascending-after : (e : Entry) (es : List Entry) → ascending (e ∷ es) ≡ true → All (After e) es
unfolding All
ascending-after e [] h = tt
ascending-after e (f ∷ es) h =
    let r = ascending-cons e f es h in
    (r.0, All-weaken (After f) (After e) es (λ x l. order_trans e.padded f.padded x.padded r.0 l) (ascending-after f es r.1))

ascending-tail : (e : Entry) (es : List Entry) → ascending (e ∷ es) ≡ true → ascending es ≡ true
unfolding ascending
ascending-tail e [] h = refl
ascending-tail e (f ∷ es) h = (ascending-cons e f es h).1

-- at most one file passes the test
abbrev pub Lone : (Name → Bool) → List File → Type 0
Lone test [] = Unit {0}
Lone test (f ∷ fs) = (test (name_of f.name) ≡ true → find test fs ≡ None) × Lone test fs

module _ (test : Name → Bool) (one : OneName test) where
  none-later : (p name : Bytes) → unpadded p ≡ Some name → length p ≡ 96 → test (name_of name) ≡ true → {k : ℕ} {es : List Entry} {fs : List File}
      → All (λ (e : Entry). order p e.padded ≡ less) es → All (λ (e : Entry). length e.padded ≡ 96) es → Told k es fs → find test fs ≡ None
  unfolding find All
  none-later p name u l t a w told-end = refl
  none-later p name u l t a w (told {e = e} {f = f} {es = es} {fs = fs} u' n r) = go (test (name_of f.name)) refl (none-later p name u l t a.1 w.1 r)
    where
      go : (b : Bool) → test (name_of f.name) ≡ b → find test fs ≡ None → ◌≡◌ {A = Option File} (elim b [ true ↦ Some f | false ↦ find test fs ]) None
      go true h ih =
          let s : f.name ≡ name = one f.name name h t in
          let d : p ≡ e.padded = unpadded-once p e.padded name (l ∙ sym w.0) u (u' ∙ ap Some s) in
          absurd (order-less-ne p e.padded a.0 d)
      go false h ih = ih

  told_lone : {k : ℕ} {es : List Entry} {fs : List File} → ascending es ≡ true → All (λ (e : Entry). length e.padded ≡ 96) es → Told k es fs → Lone test fs
  unfolding All
  told_lone a w told-end = tt
  told_lone a w (told {e = e} {f = f} {es = es} {fs = fs} u n r) =
      ((λ h. none-later e.padded f.name u w.0 h (ascending-after e es a) w.1 r), told_lone (ascending-tail e es a) w.1 r)

-- ---- the padded names ascend

pub padded_name : File → Bytes
padded_name f = with_zeros 96 f.name

pub padded_name-same : (f g : File) → f.name ≡ g.name → padded_name f ≡ padded_name g
unfolding padded_name
padded_name-same f g e = ap (with_zeros 96) e

padded-is : (e : Entry) (f : File) → unpadded e.padded ≡ Some f.name → length e.padded ≡ 96 → e.padded ≡ padded_name f
unfolding padded_name
padded-is e f u w = unpadded-zeros e.padded f.name u ∙ ap (λ (n : ℕ). with_zeros n f.name) w

told-after : (p : Bytes) {k : ℕ} {es : List Entry} {fs : List File} → All (λ (e : Entry). order p e.padded ≡ less) es
    → All (λ (e : Entry). length e.padded ≡ 96) es → Told k es fs
    → All (λ (f : File). order p (padded_name f) ≡ less) fs
unfolding All
told-after p a w told-end = tt
told-after p a w (told {e = e} {f = f} u n r) = (subst (λ (x : Bytes). order p x ≡ less) (padded-is e f u w.0) a.0, told-after p a.1 w.1 r)

told-ascends : {k : ℕ} {es : List Entry} {fs : List File} → ascending es ≡ true → All (λ (e : Entry). length e.padded ≡ 96) es → Told k es fs
    → Ascends padded_name fs
unfolding All
told-ascends a w told-end = tt
told-ascends a w (told {e = e} {f = f} {es = es} {fs = fs} u n r) = (
  subst
      (λ (x : Bytes). All (λ (g : File). order x (padded_name g) ≡ less) fs)
      (padded-is e f u w.0)
      (told-after e.padded (ascending-after e es a) w.1 r),
  told-ascends (ascending-tail e es a) w.1 r,
)

-- ---- the bundle

pub record Sound (fs : List File) : Type 0 where
  pub numbered : Numbered 0 fs
  pub few : length fs ≤ most_entries
  pub one_version : (w : ℕ) → Lone (λ n. is w (version_in n)) fs
  pub one_checkpoint : (c : ℕ) → Lone (λ n. is c (checkpoint_in n)) fs
  pub ascends : Ascends padded_name fs

pub bundle-sound : (s : Bytes) (fs : List File) → bundle s ≡ Some fs → Sound fs
unfolding bundle files_of entry_bytes
bundle-sound s fs h =
    let a = bind-some (guard (among 4 most_bytes (length s))) (λ _. files_of (little (take 4 s)) s) h in
    go (little (take 4 s)) a.2
  where
    go : (n : ℕ) → files_of n s ≡ Some fs → Sound fs
    go n h =
        let b = bind-some (guard (leb n most_entries))
        (λ _. guard (leb (4 + 112 * n) (length s))
        >>= (λ _. guard (ascending (entries n (drop 4 s))) >>= (λ _. files_from 0 (4 + 112 * n) (entries n (drop 4 s)) (drop (4 + 112 * n) s)))) h in
        let c = bind-some (guard (leb (4 + 112 * n) (length s)))
        (λ _. guard (ascending (entries n (drop 4 s))) >>= (λ _. files_from 0 (4 + 112 * n) (entries n (drop 4 s)) (drop (4 + 112 * n) s))) b.2 in
        let d = bind-some (guard (ascending (entries n (drop 4 s)))) (λ _. files_from 0 (4 + 112 * n) (entries n (drop 4 s)) (drop (4 + 112 * n) s)) c.2 in
        let m : 4 + 112 * n ≤ length s = leb-true (4 + 112 * n) (length s) (guard-some (leb (4 + 112 * n) (length s)) c.1) in
        let k : n ≤ most_entries = leb-true n most_entries (guard-some (leb n most_entries) b.1) in
        let up : ascending (entries n (drop 4 s)) ≡ true = guard-some (ascending (entries n (drop 4 s))) d.1 in
        let w = entries-wide n (drop 4 s) (omega (arith, length-drop 4 s)) in
        let t = files_from-told 0 (4 + 112 * n) (entries n (drop 4 s)) (drop (4 + 112 * n) s) fs d.2 in
        let len : length fs ≡ n = sym (told-length t) ∙ length-entries n (drop 4 s) in
        record {
          numbered = told-numbered t;
          few = omega (arith, len);
          one_version = λ v. told_lone (λ x. is v (version_in x)) (one-version v) up w t;
          one_checkpoint = λ c. told_lone (λ x. is c (checkpoint_in x)) (one-checkpoint c) up w t;
          ascends = told-ascends up w t;
        }

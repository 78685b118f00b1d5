-- Each version and each checkpoint has one name, and a name is padded in one way.
use mathlib.Core.Path.{◌≡◌, refl, sym, ◌∙◌, ap, ap₂, subst}
use mathlib.Core.Logic.{◌⊎◌, inl, inr}
use mathlib.Core.Bool.{Bool, true, false}
use Rattle.std.specs.Prelude.{Option, None, Some}
use mathlib.Core.List.{◌++◌, [], ◌∷◌}
use Prim.Native.Nat.{ℕ, suc, ◌+◌, ◌*◌, ◌-◌, ◌≤◌}
use native.Mathlib.Omega.{arith}
use lib.Dec.{leb, eqb}
use lib.ListN.{length, take, drop, replicate, length-take, length-drop, take-append-drop}
use borrow.Author.Tests.{eqb-true, leb-true}
use Rattle.rules.specs.Bytes.{◌>>=◌, Bytes, ascii, same, among}
use Rattle.rules.specs.Numbers.{most, is_digit, decimal_from, decimal}
use Rattle.rules.specs.Bundle.{zeros, unpadded}
use Rattle.rules.specs.Names.{Name, version, checkpoint, marker, other, too_large, numbered, with_ending, name_of, version_in, checkpoint_in, is}
use Rattle.rules.proofs.Tests.{apart}
use Rattle.rules.proofs.Order.{same_true}
use Rattle.rules.proofs.Ranges.{among-true}
use Rattle.rules.proofs.Choices.{bind-some}

-- ---- twenty digits and an ending say one number, in one way

digit-first : (sofar b : ℕ) (bs : Bytes) (n : ℕ) → decimal_from sofar (b ∷ bs) ≡ Some n
    → (0x30 ≤ b) × (b ≤ 0x39) × (decimal_from (sofar * 10 + (b - 0x30)) bs ≡ Some n)
unfolding decimal_from is_digit
digit-first sofar b bs n e = go (is_digit b) refl e
  where
    go : (t : Bool) → is_digit b ≡ t → elim t [ true ↦ decimal_from (sofar * 10 + (b - 0x30)) bs | false ↦ None ] ≡ Some n
        → (0x30 ≤ b) × (b ≤ 0x39) × (decimal_from (sofar * 10 + (b - 0x30)) bs ≡ Some n)
    go true h e = let r = among-true 0x30 0x39 b h in (r.0, r.1, e)
    go false h e = apart (cc)

digits-once : (a b : ℕ) (xs ys : Bytes) (n : ℕ) → length xs ≡ length ys → decimal_from a xs ≡ Some n → decimal_from b ys ≡ Some n → (a ≡ b) × (xs ≡ ys)
unfolding decimal_from
digits-once a b [] [] n l e f = (cc, refl)
digits-once a b [] (y ∷ ys) n l e f = absurd (omega arith)
digits-once a b (x ∷ xs) [] n l e f = absurd (omega arith)
digits-once a b (x ∷ xs) (y ∷ ys) n l e f =
    let p = digit-first a x xs n e in
    let q = digit-first b y ys n f in
    let r = digits-once (a * 10 + (x - 0x30)) (b * 10 + (y - 0x30)) xs ys n (omega arith) p.2 q.2 in
    go p.0 p.1 q.0 q.1 r.0 r.1
  where
    go : 0x30 ≤ x → x ≤ 0x39 → 0x30 ≤ y → y ≤ 0x39 → a * 10 + (x - 0x30) ≡ b * 10 + (y - 0x30) → xs ≡ ys → (a ≡ b) × (◌≡◌ {A = Bytes} (x ∷ xs) (y ∷ ys))
    go h₁ h₂ h₃ h₄ e t = (omega arith, ap₂ ◌∷◌ (omega arith) t)

decimal-from : (xs : Bytes) (n : ℕ) → decimal xs ≡ Some n → decimal_from 0 xs ≡ Some n
unfolding decimal
decimal-from [] n e = apart (cc)
decimal-from (x ∷ xs) n e = e

-- the digits of w, and then the ending
abbrev Says : (ending : Bytes) → ℕ → Bytes → Type 0
Says ending w s = (decimal (take 20 s) ≡ Some w) × (drop 20 s ≡ ending)

says-once : (ending : Bytes) (w : ℕ) (s t : Bytes) → 1 ≤ length ending → Says ending w s → Says ending w t → s ≡ t
says-once ending w s t l (e, f) (g, h) =
    let a : 1 ≤ length (drop 20 s) = subst (λ (x : Bytes). 1 ≤ length x) (sym f) l in
    let b : 1 ≤ length (drop 20 t) = subst (λ (x : Bytes). 1 ≤ length x) (sym h) l in
    let c : length (take 20 s) ≡ length (take 20 t) = omega (arith, length-take 20 s, length-take 20 t, length-drop 20 s, length-drop 20 t) in
    let d = digits-once 0 0 (take 20 s) (take 20 t) w c (decimal-from (take 20 s) w e) (decimal-from (take 20 t) w g) in
    sym (take-append-drop 20 s) ∙ ap₂ ◌++◌ d.1 (f ∙ sym h) ∙ take-append-drop 20 t

numbered-version : (a b c : Bool) (n w : ℕ) → numbered a b c n ≡ version w → (a ≡ true) × (n ≡ w)
unfolding numbered
numbered-version true b true n w e = (refl, cc)
numbered-version true b false n w e = apart (cc)
numbered-version false true true n w e = apart (cc)
numbered-version false true false n w e = apart (cc)
numbered-version false false c n w e = apart (cc)

numbered-checkpoint : (a b c : Bool) (n w : ℕ) → numbered a b c n ≡ checkpoint w → (b ≡ true) × (n ≡ w)
unfolding numbered
numbered-checkpoint true b true n w e = apart (cc)
numbered-checkpoint true b false n w e = apart (cc)
numbered-checkpoint false true true n w e = (refl, cc)
numbered-checkpoint false true false n w e = apart (cc)
numbered-checkpoint false false c n w e = apart (cc)

-- a name that is no marker's, and says something, is digits and an ending
module _ (s : Bytes) (n : Name) (n≢marker : n ≡ marker → ⊥) (n≢other : n ≡ other → ⊥) where
  name_of-digits : name_of s ≡ n → (w : ℕ) × (decimal (take 20 s) ≡ Some w)
      × (numbered (same (drop 20 s) (ascii ".json")) (same (drop 20 s) (ascii ".checkpoint.json")) (leb w most) w ≡ n)
  unfolding name_of with_ending
  name_of-digits e = go (same s (ascii "_last_checkpoint")) (decimal (take 20 s)) refl e
    where
      go : (m : Bool) (o : Option ℕ) → decimal (take 20 s) ≡ o → elim m [ true ↦ marker | false ↦ with_ending o (drop 20 s) ] ≡ n
          → (w : ℕ) × (decimal (take 20 s) ≡ Some w)
          × (numbered (same (drop 20 s) (ascii ".json")) (same (drop 20 s) (ascii ".checkpoint.json")) (leb w most) w ≡ n)
      go true o h e = absurd (n≢marker (sym e))
      go false None h e = absurd (n≢other (sym e))
      go false (Some w) h e = (w, h, e)

version-says : (s : Bytes) (w : ℕ) → name_of s ≡ version w → Says (ascii ".json") w s
version-says s w e =
    let d = name_of-digits s (version w) (λ q. apart (cc)) (λ q. apart (cc)) e in
    let k = numbered-version (same (drop 20 s) (ascii ".json")) (same (drop 20 s) (ascii ".checkpoint.json")) (leb d.0 most) d.0 w d.2 in
    (d.1 ∙ ap Some k.1, same_true (drop 20 s) (ascii ".json") k.0)

numbered-small : (a b c : Bool) (n w : ℕ) → numbered a b c n ≡ version w → c ≡ true
unfolding numbered
numbered-small true b true n w e = refl
numbered-small true b false n w e = apart (cc)
numbered-small false true true n w e = refl
numbered-small false true false n w e = apart (cc)
numbered-small false false c n w e = apart (cc)

-- no version is above 2^63 - 1
pub version-small : (s : Bytes) (w : ℕ) → name_of s ≡ version w → w ≤ most
version-small s w e =
    let d = name_of-digits s (version w) (λ q. apart (cc)) (λ q. apart (cc)) e in
    let json : Bool = same (drop 20 s) (ascii ".json") in
    let checkpointed : Bool = same (drop 20 s) (ascii ".checkpoint.json") in
    let n : d.0 ≡ w = (numbered-version json checkpointed (leb d.0 most) d.0 w d.2).1 in
    subst (λ (x : ℕ). x ≤ most) n (leb-true d.0 most (numbered-small json checkpointed (leb d.0 most) d.0 w d.2))

checkpoint-says : (s : Bytes) (w : ℕ) → name_of s ≡ checkpoint w → Says (ascii ".checkpoint.json") w s
checkpoint-says s w e =
    let d = name_of-digits s (checkpoint w) (λ q. apart (cc)) (λ q. apart (cc)) e in
    let k = numbered-checkpoint (same (drop 20 s) (ascii ".json")) (same (drop 20 s) (ascii ".checkpoint.json")) (leb d.0 most) d.0 w d.2 in
    (d.1 ∙ ap Some k.1, same_true (drop 20 s) (ascii ".checkpoint.json") k.0)

pub is-version : (w : ℕ) (n : Name) → is w (version_in n) ≡ true → n ≡ version w
unfolding version_in is
is-version w (version n) e = ap version (sym (eqb-true w n e))
is-version w (checkpoint n) e = apart (cc)
is-version w marker e = apart (cc)
is-version w other e = apart (cc)
is-version w too_large e = apart (cc)

pub is-checkpoint : (w : ℕ) (n : Name) → is w (checkpoint_in n) ≡ true → n ≡ checkpoint w
unfolding checkpoint_in is
is-checkpoint w (version n) e = apart (cc)
is-checkpoint w (checkpoint n) e = ap checkpoint (sym (eqb-true w n e))
is-checkpoint w marker e = apart (cc)
is-checkpoint w other e = apart (cc)
is-checkpoint w too_large e = apart (cc)

-- one name only passes the test
abbrev pub OneName : (Name → Bool) → Type 0
OneName test = (n m : Bytes) → test (name_of n) ≡ true → test (name_of m) ≡ true → n ≡ m

pub one-version : (w : ℕ) → OneName (λ n. is w (version_in n))
unfolding ascii
one-version w n m e f =
    says-once (ascii ".json") w n m (omega arith) (version-says n w (is-version w (name_of n) e)) (version-says m w (is-version w (name_of m) f))

pub one-checkpoint : (w : ℕ) → OneName (λ n. is w (checkpoint_in n))
unfolding ascii
one-checkpoint w n m e f =
    says-once
    (ascii ".checkpoint.json")
    w n m
    (omega arith)
    (checkpoint-says n w (is-checkpoint w (name_of n) e))
    (checkpoint-says m w (is-checkpoint w (name_of m) f))

-- ---- a name is padded in one way

pub zeros-cons : (x : ℕ) (xs : Bytes) → zeros (x ∷ xs) ≡ true → (x ≡ 0) × (zeros xs ≡ true)
unfolding zeros
zeros-cons x xs h = go (eqb x 0) refl h
  where
    go : (b : Bool) → eqb x 0 ≡ b → elim b [ true ↦ zeros xs | false ↦ false ] ≡ true → (x ≡ 0) × (zeros xs ≡ true)
    go true e h = (eqb-true x 0 e, h)
    go false e h = apart (cc)

zeros-once : (p q : Bytes) → length p ≡ length q → zeros p ≡ true → zeros q ≡ true → p ≡ q
zeros-once [] [] l e f = refl
zeros-once [] (y ∷ ys) l e f = absurd (omega arith)
zeros-once (x ∷ xs) [] l e f = absurd (omega arith)
zeros-once (x ∷ xs) (y ∷ ys) l e f =
    let a = zeros-cons x xs e in
    let b = zeros-cons y ys f in
    ap₂ ◌∷◌ (a.0 ∙ sym b.0) (zeros-once xs ys (omega arith) a.1 b.1)

-- a padded name by its first byte: it stands before the rest of the name, or all are zeros
unpadded-cases : (x : ℕ) (xs name : Bytes) → unpadded (x ∷ xs) ≡ Some name
    → ((m : Bytes) × (unpadded xs ≡ Some m) × (x ∷ m ≡ name)) ⊎ ((zeros (x ∷ xs) ≡ true) × ([] ≡ name))
unfolding unpadded
unpadded-cases x xs name e = go (among 0x21 0x7E x) (zeros (x ∷ xs)) refl e
  where
    go : (b z : Bool) → zeros (x ∷ xs) ≡ z
        → elim b [ true ↦ (unpadded xs >>= (λ m. Some (x ∷ m))) | false ↦ elim z [ true ↦ Some [] | false ↦ None ] ] ≡ Some name
        → ((m : Bytes) × (unpadded xs ≡ Some m) × (x ∷ m ≡ name)) ⊎ ((zeros (x ∷ xs) ≡ true) × ([] ≡ name))
    go true z h e =
        let r = bind-some (unpadded xs) (λ m. Some (x ∷ m)) e in
        let q : Some (x ∷ r.0) ≡ Some name = r.2 in
        inl (r.0, r.1, cc)
    go false true h e = inr (h, cc)
    go false false h e = apart (cc)

pub unpadded-once : (p q name : Bytes) → length p ≡ length q → unpadded p ≡ Some name → unpadded q ≡ Some name → p ≡ q
unpadded-once [] [] name l e f = refl
unpadded-once [] (y ∷ ys) name l e f = absurd (omega arith)
unpadded-once (x ∷ xs) [] name l e f = absurd (omega arith)
unpadded-once (x ∷ xs) (y ∷ ys) name l e f = go (unpadded-cases x xs name e) (unpadded-cases y ys name f) (λ m. unpadded-once xs ys m (omega arith))
  where
    go : ((m : Bytes) × (unpadded xs ≡ Some m) × (x ∷ m ≡ name)) ⊎ ((zeros (x ∷ xs) ≡ true) × ([] ≡ name))
        → ((m : Bytes) × (unpadded ys ≡ Some m) × (y ∷ m ≡ name)) ⊎ ((zeros (y ∷ ys) ≡ true) × ([] ≡ name))
        → ((m : Bytes) → unpadded xs ≡ Some m → unpadded ys ≡ Some m → xs ≡ ys) → ◌≡◌ {A = Bytes} (x ∷ xs) (y ∷ ys)
    go (inl (m, a, b)) (inl (k, c, d)) ih =
        let u : x ∷ m ≡ y ∷ k = b ∙ sym d in
        let v : x ≡ y = cc in
        let w : k ≡ m = cc in
        ap₂ ◌∷◌ v (ih m a (c ∙ ap Some w))
    go (inl (m, a, b)) (inr (z, d)) ih = apart (cc)
    go (inr (z, d)) (inl (m, a, b)) ih = apart (cc)
    go (inr (z, d)) (inr (z', d')) ih = zeros-once (x ∷ xs) (y ∷ ys) l z z'

zeros-replicate : (p : Bytes) → zeros p ≡ true → p ≡ replicate (length p) 0
zeros-replicate [] h = refl
zeros-replicate (x ∷ xs) h = let z = zeros-cons x xs h in ap₂ ◌∷◌ z.0 (zeros-replicate xs z.1)

-- a name with zeros behind it, as many as make n bytes
pub with_zeros : ℕ → Bytes → Bytes
with_zeros n name = name ++ replicate (n - length name) 0

pub unpadded-zeros : (p name : Bytes) → unpadded p ≡ Some name → p ≡ with_zeros (length p) name
unfolding unpadded with_zeros
unpadded-zeros [] name h = let e : [] ≡ name = cc in subst (λ (n : Bytes). [] ≡ n ++ replicate (0 - length n) 0) e refl
unpadded-zeros (x ∷ xs) name h = go (unpadded-cases x xs name h) (λ m. unpadded-zeros xs m)
  where
    go : ((m : Bytes) × (unpadded xs ≡ Some m) × (x ∷ m ≡ name)) ⊎ ((zeros (x ∷ xs) ≡ true) × ([] ≡ name))
        → ((m : Bytes) → unpadded xs ≡ Some m → xs ≡ m ++ replicate (length xs - length m) 0) → x ∷ xs ≡ name ++ replicate (suc (length xs) - length name) 0
    go (inl (m, a, b)) ih =
        let n : length xs - length m ≡ suc (length xs) - length (x ∷ m) = omega arith in
        subst (λ (y : Bytes). x ∷ xs ≡ y ++ replicate (suc (length xs) - length y) 0) b
        (ap (λ (y : Bytes). x ∷ y) (ih m a) ∙ ap (λ (k : ℕ). x ∷ (m ++ replicate k 0)) n)
    go (inr (z, d)) ih =
        let n : suc (length xs) ≡ suc (length xs) - 0 = omega arith in
        subst (λ (y : Bytes). x ∷ xs ≡ y ++ replicate (suc (length xs) - length y) 0) d
        (zeros-replicate (x ∷ xs) z ∙ ap (λ (k : ℕ). replicate {A = ℕ} k 0) n)

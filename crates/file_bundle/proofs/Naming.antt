-- A name that stands before its zeros: it is the bytes before the first zero.
use mathlib.Core.Path.{◌≡◌, refl, sym, ap, ◌∙◌}
use mathlib.Core.Bool.{Bool, true, false}
use Rattle.std.specs.Prelude.{None, Some}
use mathlib.Core.List.{[], ◌∷◌}
use Prim.Native.Nat.{ℕ}
use native.Mathlib.Omega.{arith}
use lib.Dec.{eqb, leb}
use lib.ListN.{length, take}
use borrow.Author.Tests.{ne_eqb}
use Rattle.rules.specs.Bytes.{Bytes, among, ◌>>=◌, guard}
use Rattle.rules.specs.Bundle.{zeros, unpadded, name_in}
use Rattle.rules.proofs.Ranges.{among-true}
use Rattle.rules.proofs.Tests.{apart}
use Rattle.file_bundle.specs.Files.{name_size}
use Rattle.rules.proofs.Choices.{bind-some, guard-bind}
use Rattle.rules.proofs.Json.Suffix.{some_same}

-- zeros begin with a zero
zeros-head : (b : ℕ) (bs : Bytes) → zeros (b ∷ bs) ≡ true → eqb b 0 ≡ true
unfolding zeros
zeros-head b bs h = go (eqb b 0) h
  where
    go : (x : Bool) → elim x [ true ↦ zeros bs | false ↦ false ] ≡ true → x ≡ true
    go true e = refl
    go false e = apart (cc)

unpadded-size : (p name : Bytes) → unpadded p ≡ Some name → take (name_size p) p ≡ name
unfolding unpadded name_size
unpadded-size [] name h = some_same h
unpadded-size (b ∷ bs) name h = go (λ rest e. unpadded-size bs rest e) (among 0x21 0x7E b) refl (zeros (b ∷ bs)) refl
  where
    go : ((rest : Bytes) → unpadded bs ≡ Some rest → take (name_size bs) bs ≡ rest)
        → (v : Bool) → among 0x21 0x7E b ≡ v → (z : Bool) → zeros (b ∷ bs) ≡ z → take (name_size (b ∷ bs)) (b ∷ bs) ≡ name
    go ih true e z f =
        let r = among-true 0x21 0x7E b e in
        let here : unpadded (b ∷ bs) ≡ (unpadded bs >>= λ rest. Some (b ∷ rest)) = rw (unpadded, e) in
        let c = bind-some (unpadded bs) (λ rest. Some (b ∷ rest)) (sym here ∙ h) in
        rw (name_size, ne_eqb b 0 (λ q. omega (arith, r.0, q)))
        (ap (λ (l : Bytes). b ∷ l) (ih c.0 c.1) ∙ some_same c.2)
    go ih false e true f =
        let here : unpadded (b ∷ bs) ≡ Some [] = rw (unpadded, e, f) in
        rw (name_size, zeros-head b bs f) (some_same (sym here ∙ h))
    go ih false e false f =
        let here : unpadded (b ∷ bs) ≡ None = rw (unpadded, e, f) in
        apart (cc)

pub name_in-size : (p name : Bytes) → name_in p ≡ Some name → take (name_size p) p ≡ name
unfolding name_in
name_in-size p name h =
    let a = bind-some (unpadded p) (λ n. guard (leb 1 (length n)) >>= λ _. Some n) h in
    let b = guard-bind (leb 1 (length a.0)) (λ _. Some a.0) a.2 in
    unpadded-size p a.0 a.1 ∙ some_same b.1

-- A string looks at nothing behind its closing quote: where more text follows, the same is read, and more is left.
use mathlib.Core.Path.{◌≡◌, refl, sym, ap, ◌∙◌, subst}
use Rattle.std.specs.Prelude.{Option, None, Some}
use mathlib.Core.List.{[], ◌∷◌, ◌++◌, append_assoc}
use Prim.Native.Nat.{ℕ, zero, suc, ◌+◌, ◌≤◌}
use native.Mathlib.Omega.{arith}
use borrow.Author.Tests.{eqb-true, eqb-false}
use lib.Dec.{eqb}
use lib.ListN.{length}
use Rattle.rules.specs.Bytes.{Bytes, ◌>>=◌}
use Rattle.rules.specs.Json.Text.{Text}
use Rattle.rules.specs.Json.Strings.{char, string}
use Rattle.rules.proofs.Tests.{by}
use Rattle.rules.proofs.Json.Suffix.{Beside, alike, some_same, bound, answered-none, reads-fewer}
use Rattle.rules.proofs.Json.StringReads.{char-reads}
use Rattle.rules.proofs.Json.Steps.{string-end, string-quote, string-none, string-char}

string-beside : (w u : Text) {q : Bytes × Text} → string w ≡ Some q → Beside w (w ++ u)
string-beside [] u e = answered-none e string-end
string-beside (b ∷ w) u e = alike

pub string-extends : (n : ℕ) (t u : Text) {x : Bytes} {r : Text} → length t ≤ n → string t ≡ Some (x, r) → string (t ++ u) ≡ Some (x, r ++ u)
string-extends zero [] u l e = answered-none e string-end
string-extends zero (b ∷ t) u l e = absurd (omega arith)
string-extends (suc n) [] u l e = answered-none e string-end
string-extends (suc n) (b ∷ t) u {x} {r} l e = by (eqb b 0x22)
    (λ p. let q : b ≡ 0x22 = eqb-true b 0x22 p in
    subst (λ (c : ℕ). string (c ∷ t) ≡ Some (x, r) → string (c ∷ (t ++ u)) ≡ Some (x, r ++ u)) (sym q)
    (λ f. string-quote (t ++ u) ∙ ap (λ (p : Bytes × Text). Some (p.0, p.1 ++ u)) (some_same (sym (string-quote t) ∙ f))) e)
    (λ p. go (λ w v y k. string-extends n w v {x = y} {r = k}) (eqb-false b 0x22 p) (char (b ∷ t)) refl)
  where
    go : ((w v : Text) (y : Bytes) (k : Text) → length w ≤ n → string w ≡ Some (y, k) → string (w ++ v) ≡ Some (y, k ++ v))
        → (b ≡ 0x22 → ⊥) → (o : Option (Bytes × Text)) → char (b ∷ t) ≡ o → string (b ∷ (t ++ u)) ≡ Some (x, r ++ u)
    go ih no-quote None f = answered-none e (string-none b t no-quote f)
    go ih no-quote (Some c) f =
        let reads = char-reads c.0 (b ∷ t) c.1 f in
        let fewer : length c.1 + 1 ≤ length (b ∷ t) = reads-fewer reads in
        bound (string c.1) _ (sym (string-char b t no-quote f) ∙ e) (λ q h k.
        string-char b (t ++ u) no-quote
        (ap (λ (w : Text). char (w ++ u)) reads.split ∙ ap char (append_assoc reads.passed c.1 u)
        ∙ reads.again (c.1 ++ u) (string-beside c.1 u h))
        ∙ ap (λ o. o >>= (λ p. Some (c.0 ++ p.0, p.1))) (ih c.1 u q.0 q.1 (omega arith) h)
        ∙ ap (λ (p : Bytes × Text). Some (p.0, p.1 ++ u)) (some_same k))

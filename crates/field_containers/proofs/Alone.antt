-- A count of strings has one answer: the rules fix the strings and what is left, and that the place. So has what is asked of the strings.
use mathlib.Core.Path.{◌≡◌, refl, sym, ap, ◌∙◌}
use mathlib.Core.Bool.{Bool}
use Rattle.std.specs.Prelude.{Option, Some}
use mathlib.Core.List.{List}
use Prim.Native.Nat.{ℕ}
use lib.ListN.{length}
use Rattle.rules.specs.Actions.{Pairs}
use Rattle.rules.specs.Bytes.{Bytes, ◌>>=◌, same_each, same_set, firsts}
use Rattle.rules.specs.Json.Text.{Text}
use Rattle.rules.specs.Json.Fields.{strings}
use Rattle.rules.proofs.Json.Suffix.{some_same, left-same, answered-none}
use Rattle.json_tokens.proofs.Alone.{left_alone}
use Rattle.field_objects.proofs.Alone.{asked-alone}
use Rattle.field_containers.specs.Nested.{Pairing, Paired}
use Rattle.field_containers.specs.Strung.{Strung, StringsIs, Listed, IsList}
use Rattle.std.specs.Prelude.{None}

module _ (o : Option (List Text × Text)) (s : Text) (at : ℕ) where
  strung-some : {n e : ℕ} (f : Strung o s at n e) → (o >>= (λ p. strings p.0)) ≡ Some f.ss
  strung-some f = ap (λ (p : Option (List Text × Text)). p >>= (λ q. strings q.0)) f.all ∙ f.each

  pub strings-alone : (r q : Option (ℕ × ℕ)) → StringsIs o s at r → StringsIs o s at q → r ≡ q
  strings-alone (Some (n, a)) (Some (m, b)) f k =
      let ends : a ≡ b = left_alone s a b f.within k.within (left-same (sym f.all ∙ k.all)) in
      let counts : n ≡ m = sym f.count ∙ ap length (some_same (sym (strung-some f) ∙ strung-some k)) ∙ k.count in
      ap (λ (e : ℕ). (Some (n, e))) ends ∙ ap (λ (c : ℕ). (Some (c, b))) counts
  strings-alone (Some (n, a)) None f k = answered-none (strung-some f) k
  strings-alone None (Some (m, b)) f k = answered-none (strung-some k) f
  strings-alone None None f k = refl

pub listed-alone : (f : List Bytes → Bool) (s : Text) (at : ℕ) → IsList s at → (r q : Bool)
    → ((ss : List Bytes) → Listed s at ss → r ≡ f ss) → ((ss : List Bytes) → Listed s at ss → q ≡ f ss) → r ≡ q
listed-alone f s at o = asked-alone (Listed s at) f o.ss o.listed

-- and what is asked of two arrays
pub lists-alone : (s : Text) (at : ℕ) (t : Text) (from : ℕ) → IsList s at → IsList t from → (r q : Bool)
    → ((xs ys : List Bytes) → Listed s at xs → Listed t from ys → r ≡ same_each xs ys)
    → ((xs ys : List Bytes) → Listed s at xs → Listed t from ys → q ≡ same_each xs ys) → r ≡ q
lists-alone s at t from o p r q f g =
    f o.ss p.ss o.listed p.listed ∙ sym (g o.ss p.ss o.listed p.listed)

-- and what is asked of partition values and an array
pub keys-alone : (s : Text) (values : ℕ) (t : Text) (columns : ℕ) → Paired s values → IsList t columns → (r q : Bool)
    → ((ps : Pairs) (cs : List Bytes) → Pairing s values ps → Listed t columns cs → r ≡ same_set (firsts ps) cs)
    → ((ps : Pairs) (cs : List Bytes) → Pairing s values ps → Listed t columns cs → q ≡ same_set (firsts ps) cs) → r ≡ q
keys-alone s values t columns o p r q f g =
    f o.ps p.ss o.pairing p.listed ∙ sym (g o.ps p.ss o.pairing p.listed)

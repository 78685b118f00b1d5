-- The loop over the items of a container, each of which is made into something or refused: what its turns keep, and what each way out answers.
use mathlib.Core.Path.{◌≡◌, refl, sym, ap, ◌∙◌}
use Rattle.std.specs.Prelude.{Option, None, Some}
use mathlib.Core.List.{List, [], ◌∷◌, ◌++◌}
use Prim.Native.Nat.{ℕ, ◌+◌}
use lib.ListN.{drop}
use Rattle.rules.specs.Bytes.{◌>>=◌}
use Rattle.rules.specs.Json.Text.{Text, Taker}
use Rattle.rules.specs.Json.Values.{Behind, closed, onward, neither, opening, closing, and_then, list}
use Rattle.rules.proofs.Json.Suffix.{EachTakes, some_same, bound}
use Rattle.rules.proofs.Json.Steps.{rest, list-closed, list-neither, rest-closed, rest-neither, rest-onward}
use Rattle.rules.proofs.Json.Joined.{joined}
use Rattle.json_values.specs.Follows.{Follows}
use Rattle.json_values.specs.declared.Tail.TheVariants.{Closed, More, Neither}
use Rattle.field_objects.proofs.Passing.{Passed, passed_start, passed_none, passed-neither, passed-closed, passed-more}

-- ---- all of a list

module _ {A B : Type 0} (of : A → Option B) where
  abbrev pub each : List A → Option (List B)
  each [] = Some []
  each (x ∷ xs) = of x >>= (λ y. each xs >>= (λ ys. Some (y ∷ ys)))

  -- one more at the end
  each_last : (xs : List A) (x : A) {ys : List B} {y : B} → each xs ≡ Some ys → of x ≡ Some y → each (xs ++ (x ∷ [])) ≡ Some (ys ++ (y ∷ []))
  each_last [] x {ys} {y} e f = rw (f, ← some_same e)
  each_last (w ∷ xs) x {ys} {y} e f =
      bound (of w) _ e (λ v g h.
      bound (each xs) _ h (λ vs i j.
      rw (g, each_last xs x i f) (ap (λ (l : List B). Some (l ++ (y ∷ []))) (some_same j))))

  -- one that is refused
  each_none : (xs : List A) (x : A) (zs : List A) → of x ≡ None → each (xs ++ (x ∷ zs)) ≡ None
  each_none [] x zs f = rw f
  each_none (w ∷ xs) x zs f = go (each_none xs x zs f) (of w)
    where
      go : each (xs ++ (x ∷ zs)) ≡ None → (o : Option B) → (o >>= (λ y. each (xs ++ (x ∷ zs)) >>= (λ ys. Some (y ∷ ys)))) ≡ None
      go ih None = refl
      go ih (Some y) = rw ih

  abbrev pub made : Option (List A × Text) → Option (List B)
  made o = o >>= (λ p. each p.0)

-- ---- the loop

-- the items before i are made into ys
pub record Gathered {A B : Type 0} (item : Taker A) (close : ℕ) (of : A → Option B) (s : Text) (at i : ℕ) (ys : List B) : Type 0 where
  pub gone : List A
  pub passed : Passed item close s at i gone
  pub all : each of gone ≡ Some ys

-- the whole list, which ends before `end`
pub record Listed {A B : Type 0} (item : Taker A) (close : ℕ) (of : A → Option B) (s : Text) (at end : ℕ) (ys : List B) : Type 0 where
  pub xs : List A
  pub read : list item close (drop at s) ≡ Some (xs, drop end s)
  pub all : each of xs ≡ Some ys

module _ {A B : Type 0} (item : Taker A) (close : ℕ) (of : A → Option B) (s : Text) (at : ℕ) where
  pub gathered-neither : Follows (opening close (drop at s)) s at Neither → made of (list item close (drop at s)) ≡ None
  gathered-neither f = ap (made of) (list-neither item close (drop at s) f)

  pub gathered-empty : (end : ℕ) → Follows (opening close (drop at s)) s at (Closed end) → Listed item close of s at end []
  gathered-empty end f = record { xs = []; read = list-closed item close (drop at s) f.0; all = refl }

  pub gathered-start : (i : ℕ) → Follows (opening close (drop at s)) s at (More i) → Gathered item close of s at i []
  gathered-start i f = record { gone = []; passed = passed_start item close s at f; all = refl }

  -- ---- a turn

  module _ (i : ℕ) (ys : List B) (g : Gathered item close of s at i ys) where
    pub gathered_none : item (drop i s) ≡ None → made of (list item close (drop at s)) ≡ None
    gathered_none e = ap (made of) (passed_none g.passed e)

    module _ (j : ℕ) (x : A) (e : item (drop i s) ≡ Some (x, drop j s)) where
      -- the item is refused, whatever stands behind it
      pub gathered-refused : EachTakes 1 item → of x ≡ None → made of (list item close (drop at s)) ≡ None
      unfolding and_then
      gathered-refused takes f = ap (made of) (sym g.passed.left) ∙ go (closing close (drop j s)) refl
        where
          more : (o : Option (List A × Text)) → made of (joined g.gone (and_then x o)) ≡ None
          more None = refl
          more (Some p) = each_none of g.gone x p.0 f

          go : (c : Behind) → closing close (drop j s) ≡ c → made of (joined g.gone (rest item close (drop i s))) ≡ None
          go (closed u) c = ap (λ o. made of (joined g.gone o)) (rest-closed item close (drop i s) e c) ∙ each_none of g.gone x [] f
          go (onward u) c = ap (λ o. made of (joined g.gone o)) (rest-onward item close (drop i s) e takes c) ∙ more (rest item close u)
          go neither c = ap (λ o. made of (joined g.gone o)) (rest-neither item close (drop i s) e c)

      pub gathered-cut : Follows (closing close (drop j s)) s (j + 1) Neither → made of (list item close (drop at s)) ≡ None
      gathered-cut f = ap (made of) (passed-neither g.passed j e f)

      module _ (y : B) (m : of x ≡ Some y) where
        pub gathered-closed : (k : ℕ) → Follows (closing close (drop j s)) s (j + 1) (Closed k) → Listed item close of s at k (ys ++ (y ∷ []))
        gathered-closed k f = record { xs = g.gone ++ (x ∷ []); read = passed-closed g.passed j e f; all = each_last of g.gone x g.all m }

        pub gathered-more : EachTakes 1 item → (k : ℕ) → Follows (closing close (drop j s)) s (j + 1) (More k) → Gathered item close of s at k (ys ++ (y ∷ []))
        gathered-more takes k f = record { gone = g.gone ++ (x ∷ []); passed = passed-more g.passed j e takes f; all = each_last of g.gone x g.all m }

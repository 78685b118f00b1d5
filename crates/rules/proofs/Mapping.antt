-- Putting in and taking out through a map that keeps the keys of the things at hand.
use mathlib.Core.Path.{◌≡◌, refl, sym, ap, ◌∙◌}
use mathlib.Core.Logic.{◌⊎◌, inl, inr}
use mathlib.Core.List.{List, [], ◌∷◌, map}
use Rattle.facts.specs.Lists.{All}
use Rattle.rules.specs.Bytes.{Bytes, Order, less, equal, more, order}
use Rattle.rules.specs.Live.{put, take_out}
use Rattle.rules.proofs.Order.{order-equal, same_or_not}
use Rattle.rules.proofs.Live.{put-below, put-over, put-past, take_out-here, take_out-past}

module _ {A B : Type 0} (key : A → Bytes) (key' : B → Bytes) (f : A → B) where
  abbrev pub Keeps : A → Type 0
  Keeps x = key x ≡ key' (f x)

  pub put_map : (r : A) (xs : List A) → Keeps r → All Keeps xs → map f (put key r xs) ≡ put key' (f r) (map f xs)
  unfolding put All
  put_map r [] k h = refl
  put_map r (x ∷ xs) k h = go (put_map r xs k h.1) h.0 (order (key r) (key x)) refl
    where
      go : map f (put key r xs) ≡ put key' (f r) (map f xs) → key x ≡ key' (f x) → (o : Order) → order (key r) (key x) ≡ o
          → map f (put key r (x ∷ xs)) ≡ put key' (f r) (f x ∷ map f xs)
      go ih kx less e = rw (put-below key r x xs e) (sym (put-below key' (f r) (f x) (map f xs) (rw (k, kx) at e)))
      go ih kx equal e =
          let q : key r ≡ key x = order-equal (key r) (key x) e in
          rw (put-over key r x xs q) (sym (put-over key' (f r) (f x) (map f xs) (sym k ∙ q ∙ kx)))
      go ih kx more e =
          rw (put-past key r x xs e)
          (ap (λ (l : List B). f x ∷ l) ih ∙ sym (put-past key' (f r) (f x) (map f xs) (rw (k, kx) at e)))

  pub take_out-map : (k : Bytes) (xs : List A) → All Keeps xs → map f (take_out key k xs) ≡ take_out key' k (map f xs)
  unfolding take_out All
  take_out-map k [] h = refl
  take_out-map k (x ∷ xs) h = go (take_out-map k xs h.1) h.0 (same_or_not k (key x))
    where
      go : map f (take_out key k xs) ≡ take_out key' k (map f xs) → key x ≡ key' (f x) → (k ≡ key x) ⊎ (k ≡ key x → ⊥)
          → map f (take_out key k (x ∷ xs)) ≡ take_out key' k (f x ∷ map f xs)
      go ih kx (inl e) = rw (take_out-here key k x xs e) (sym (take_out-here key' k (f x) (map f xs) (e ∙ kx)))
      go ih kx (inr n) =
          rw (take_out-past key k x xs n)
          (ap (λ (l : List B). f x ∷ l) ih ∙ sym (take_out-past key' k (f x) (map f xs) (λ p. n (p ∙ sym kx))))

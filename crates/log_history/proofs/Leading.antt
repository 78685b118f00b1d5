-- Ways by version files: cut in two, their last file, and that what is refused on the way is refused at its end.
use mathlib.Core.Path.{◌≡◌, refl, sym, ap, ◌∙◌, subst}
use mathlib.Core.Logic.{◌⊎◌, inl, inr}
use Rattle.std.specs.Prelude.{Option, None, Some}
use Prim.Native.Nat.{ℕ, suc, ◌≤◌, ◌<◌}
use native.Mathlib.Nat.{eq-or-lt_of_le}
use native.Mathlib.Omega.{arith}
use Rattle.rules.specs.Bundle.{File}
use Rattle.rules.specs.Refusals.{Refusal, Answer, refused, ◌>>=◌}
use Rattle.rules.specs.History.{of_version, State, read_file}
use Rattle.rules.specs.Starts.{Log, Way, and_then, follow}
use Rattle.rules.proofs.Tests.{apart}
use Rattle.log_starts.specs.Ways.{Leads, here, next}

module _ {log : Log} {w₀ : Way} {s : ℕ} where
  pub leads-up : {v : ℕ} {w : Way} → Leads log w₀ s v w → s ≤ v
  leads-up here = omega arith
  leads-up (next l e) = omega (arith, leads-up l)

  -- a way that passes k, cut there
  pub leads-cut : {v : ℕ} {w : Way} (k : ℕ) → s ≤ k → k ≤ v → Leads log w₀ s v w → (x : Way) × Leads log w₀ s k x × Leads log x k v w
  leads-cut k a b here =
      let e : s ≡ k = omega arith in
      subst (λ (n : ℕ). (x : Way) × Leads log w₀ s n x × Leads log x n s w₀) e (w₀, here, here)
  leads-cut k a b (next {v} {w} {g} l e) = go (λ h. leads-cut k a h l) (eq-or-lt_of_le b)
    where
      go : (k ≤ v → (x : Way) × Leads log w₀ s k x × Leads log x k v w) → (k ≡ suc v) ⊎ (k < suc v)
          → (x : Way) × Leads log w₀ s k x × Leads log x k (suc v) (and_then w g)
      go below (inl q) = subst (λ (n : ℕ). (x : Way) × Leads log w₀ s n x × Leads log x n (suc v) (and_then w g)) (sym q) (and_then w g, next l e, here)
      go below (inr q) = let r = below (omega arith) in (r.0, r.1, next r.2 e)

  -- the last file of a way is the version file there
  pub leads-last : {u : ℕ} {x : Way} → s ≤ u → Leads log w₀ s (suc u) x
      → (y : Way) × (g : File) × (x ≡ and_then y g) × (log.version_file (suc u) ≡ Some g) × Leads log w₀ s u y
  leads-last {u} h l = go l refl
    where
      go : {n : ℕ} {x : Way} → Leads log w₀ s n x → n ≡ suc u
          → (y : Way) × (g : File) × (x ≡ and_then y g) × (log.version_file (suc u) ≡ Some g) × Leads log w₀ s u y
      go here q = absurd (omega arith)
      go (next {v} {w} {g} m e) q =
          let k : v ≡ u = omega arith in
          (w, g, refl, ap log.version_file (sym q) ∙ e, subst (λ (i : ℕ). Leads log w₀ s i w) k m)

  pub leads-refused : {v : ℕ} {w : Way} (limit : ℕ) (z : State) {r : Refusal} → Leads log w₀ s v w → follow limit z w₀ ≡ refused r
      → follow limit z w ≡ refused r
  unfolding follow
  leads-refused limit z here e = e
  leads-refused limit z (next {v} {w} {g} l f) e = ap (λ (a : Answer State). a >>= (λ st. read_file limit of_version g st)) (leads-refused limit z l e)

  -- one version file more: where it is g, it is read after what came before it
  pub leads-file : {u : ℕ} {x : Way} {g : File} → s ≤ u → log.version_file (suc u) ≡ Some g → Leads log w₀ s (suc u) x
      → (y : Way) × (x ≡ and_then y g) × Leads log w₀ s u y
  leads-file h f l =
      let r = leads-last h l in
      let same : Some r.1 ≡ Some _ = sym r.3 ∙ f in
      let e = some_same same in
      (r.0, r.2 ∙ ap (and_then r.0) e, r.4)
    where
      some_same : {a b : File} → ◌≡◌ {A = Option File} (Some a) (Some b) → a ≡ b
      some_same p = cc

  pub leads-gap : {u v : ℕ} {w : Way} {B : Type 0} → s ≤ u → u < v → log.version_file (suc u) ≡ None → Leads log w₀ s v w → B
  leads-gap {u} h k f l =
      let r = leads-cut (suc u) (omega arith) (omega arith) l in
      let p = leads-last h r.1 in
      let q : Some p.1 ≡ None = sym p.3 ∙ f in
      apart (cc)

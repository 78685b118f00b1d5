-- The loop over the version files behind a start: what holds before each, and what each way out of a turn gives.
use mathlib.Core.Path.{◌≡◌, refl, sym, ap, ◌∙◌, subst}
use Rattle.std.specs.Prelude.{None, Some}
use mathlib.Core.List.{List}
use Prim.Native.Nat.{ℕ, suc, ◌+◌, ◌≤◌, ◌<◌}
use native.Mathlib.Numerals.{add-one}
use native.Mathlib.Omega.{arith}
use Rattle.rules.specs.Bytes.{Bytes}
use Rattle.rules.specs.Bundle.{File}
use Rattle.rules.specs.Refusals.{Refusal, Answer, accepted, refused, ◌>>=◌}
use Rattle.rules.specs.History.{of_version, read_file}
use Rattle.rules.specs.History.{State as RuleState}
use Rattle.rules.specs.Starts.{Log, log_of, Way, follow}
use Rattle.file_bundle.specs.Files.{files_in}
use Rattle.log_starts.specs.Ways.{Leads, here, next}
use Rattle.refusals.specs.declared.Refusal.{Refusal as LineRefusal}
use Rattle.log_replay.specs.Views.{state_of, Carries}
use Rattle.log_replay.specs.Answers.{Left, Carried, OutcomeIs}
use Rattle.log_replay.specs.declared.State.{State}
use Rattle.std.specs.Prelude.{Ok, Err}
use Rattle.log_history.specs.Ends.{OnwardIs}
use Rattle.log_history.proofs.Leading.{leads-up, leads-cut, leads-refused, leads-file, leads-gap}

-- ---- a table that was changed twice

pub left-same : {limit : ℕ} {t : List ℕ} → Left limit t t
left-same = record { rest = refl; length = refl }

pub left_join : {limit : ℕ} {t t₁ t₂ : List ℕ} → Left limit t t₁ → Left limit t₁ t₂ → Left limit t t₂
left_join a b = record { rest = b.rest ∙ a.rest; length = b.length ∙ a.length }

pub carried-join : {src : Bytes} {limit : ℕ} {t t₁ t₂ : List ℕ} {st : State} → Left limit t t₁ → Carried src limit t₁ st t₂ → Carried src limit t st t₂
carried-join a b = record { left = left_join a b.left; carries = b.carries }

-- ---- the loop

-- behind version s, where st₀ was carried with t₀, the version files up to `at` made of them st and t
pub record Onward (src : Bytes) (limit s v : ℕ) (t₀ : List ℕ) (st₀ : State) (t : List ℕ) (at : ℕ) (st : State) : Type 0 where
  pub behind : s ≤ at
  pub upto : at ≤ v
  pub carried : Carried src limit t₀ st t
  pub follows : (z : RuleState) (w₀ x : Way) → Leads (log_of (files_in src)) w₀ s at x → follow limit z w₀ ≡ accepted (state_of src st₀ t₀)
      → follow limit z x ≡ accepted (state_of src st t)

module _ (src : Bytes) (limit s v : ℕ) (t₀ : List ℕ) (st₀ : State) where
  log : Log
  log = log_of (files_in src)

  pub onward-start : s ≤ v → Carries src limit st₀ t₀ → Onward src limit s v t₀ st₀ t₀ s st₀
  onward-start h w = record {
    behind = omega arith;
    upto = h;
    carried = record { left = left-same; carries = w };
    follows = λ z w₀ x l e. stays z l refl e;
  }
    where
      stays : (z : RuleState) {w₀ x : Way} {n : ℕ} → Leads (log_of (files_in src)) w₀ s n x → n ≡ s → follow limit z w₀ ≡ accepted (state_of src st₀ t₀)
          → follow limit z x ≡ accepted (state_of src st₀ t₀)
      stays z here q e = e
      stays z (next l f) q e = absurd (omega (arith, leads-up l))

  module _ (t : List ℕ) (at : ℕ) (st : State) (g : Onward src limit s v t₀ st₀ t at st) where
    pub onward-done : v ≤ at → OnwardIs src limit s v st₀ t₀ t (Ok st)
    onward-done h z w₀ w l e =
        let q : v ≡ at = omega (arith, g.upto) in
        (g.follows z w₀ w (subst (λ (n : ℕ). Leads (log_of (files_in src)) w₀ s n w) q l) e, g.carried)

    module _ (h : at < v) where
      pub onward-gap : (log_of (files_in src)).version_file (at + 1) ≡ None → OnwardIs src limit s v st₀ t₀ t (Ok st)
      onward-gap f z w₀ w l e = leads-gap g.behind h (ap (log_of (files_in src)).version_file (sym (add-one at)) ∙ f) l

      module _ {f : File} (e : (log_of (files_in src)).version_file (at + 1) ≡ Some f) (t' : List ℕ) where
        step : (z : RuleState) (w₀ x : Way) → Leads (log_of (files_in src)) w₀ s (at + 1) x → follow limit z w₀ ≡ accepted (state_of src st₀ t₀)
            → follow limit z x ≡ read_file limit of_version f (state_of src st t)
        unfolding follow
        step z w₀ x l b =
            let m : Leads (log_of (files_in src)) w₀ s (suc at) x = subst (λ (n : ℕ). Leads (log_of (files_in src)) w₀ s n x) (add-one at) l in
            let r = leads-file g.behind (ap (log_of (files_in src)).version_file (sym (add-one at)) ∙ e) m in
            ap (follow limit z) r.1 ∙ ap (λ (a : Answer RuleState). a >>= (λ y. read_file limit of_version f y)) (g.follows z w₀ r.0 r.2 b)

        faulty : {r : Refusal} → read_file limit of_version f (state_of src st t) ≡ refused r
            → (z : RuleState) (w₀ w : Way) → Leads (log_of (files_in src)) w₀ s v w
            → follow limit z w₀ ≡ accepted (state_of src st₀ t₀) → follow limit z w ≡ refused r
        faulty q z w₀ w l b =
            let c = leads-cut (at + 1) (omega (arith, g.behind)) (omega arith) l in
            leads-refused limit z c.2 (step z w₀ c.0 c.1 b ∙ q)

        pub onward-next : (m : State) → OutcomeIs src limit (read_file limit of_version f (state_of src st t)) t t' (Ok m)
            → Onward src limit s v t₀ st₀ t' (at + 1) m
        onward-next m d = record {
          behind = omega (arith, g.behind);
          upto = omega arith;
          carried = carried-join g.carried.left d.1;
          follows = λ z w₀ x l b. step z w₀ x l b ∙ d.0;
        }

        pub onward-refused : (y : LineRefusal) → OutcomeIs src limit (read_file limit of_version f (state_of src st t)) t t' (Err y)
            → OnwardIs src limit s v st₀ t₀ t' (Err y)
        onward-refused y d z w₀ w l b = (faulty d.0 z w₀ w l b, left_join g.carried.left d.1)

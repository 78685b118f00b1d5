-- The two loops over lines, by places in the body: what holds there is what holds at the same bytes of the bundle.
use mathlib.Core.Path.{◌≡◌, subst}
use mathlib.Core.Bool.{Bool, true, false}
use mathlib.Core.List.{List}
use Prim.Native.Nat.{ℕ, ◌+◌, ◌≤◌, ◌<◌}
use native.Mathlib.Omega.{arith}
use lib.ListN.{length}
use Rattle.facts.specs.Parts.{part}
use Rattle.rules.specs.Json.Text.{Text}
use Rattle.rules.specs.History.{read_file, read_zero}
use Rattle.file_lines.specs.Ends.{EndsLine}
use Rattle.refusals.specs.declared.Refusal.{Refusal}
use Rattle.refusals.specs.declared.Refusal.TheVariants.{Malformed}
use Rattle.log_replay.specs.declared.State.{State}
use Rattle.std.specs.Prelude.{Result, Ok, Err}
use Rattle.log_replay.specs.declared.begin.Said.{Said}
use Rattle.log_replay.specs.Views.{Lies, state_of, said_of, Carries}
use Rattle.log_replay.specs.Answers.{origin, LineIs, body_as, OutcomeIs, says, SayingIs, ZeroIs, middle}
use Rattle.log_replay.proofs.Lying.{part-here, ends-here}
use Rattle.log_replay.proofs.Going.{Going, going_start, going_next, going-refused, going-empty, going-met, going-none}
use Rattle.log_replay.proofs.Nothing.{nowhere}
use Rattle.log_replay.proofs.Zeroing.{Telling, telling-start, telling-next, telling-refused, telling-empty, telling-none, telling-says}

-- ---- the lines of a file

abbrev pub Within : (src body : Text) (entry from limit : ℕ) (held : Bool) (t₀ : List ℕ) (st₀ : State) (t : List ℕ) (at : ℕ) (st : State) (met : Bool)
    (line : ℕ) → Type 0
Within src body entry from limit held t₀ st₀ t at st met line = Going src entry from (from + length body) limit held t₀ st₀ t (from + at) st met line

module _ {src body : Text} (entry from limit : ℕ) (held : Bool) (z : Lies src from body) (t₀ : List ℕ) (st₀ : State) where
  abbrev OfBody : List ℕ → Result State Refusal → Type 0
  OfBody t r = OutcomeIs src limit (read_file limit (origin held) (body_as entry from body) (state_of src st₀ t₀)) t₀ t r

  of-body : (t : List ℕ) (r : Result State Refusal)
      → OutcomeIs src limit (read_file limit (origin held) (body_as entry from (part src from (from + length body))) (state_of src st₀ t₀)) t₀ t r → OfBody t r
  of-body t r o = subst (λ (b : Text). OutcomeIs src limit (read_file limit (origin held) (body_as entry from b) (state_of src st₀ t₀)) t₀ t r) z.same o

  pub within-start : Carries src limit st₀ t₀ → Within src body entry from limit held t₀ st₀ t₀ 0 st₀ false 1
  within-start w =
      let e : from ≡ from + 0 = omega arith in
      subst (λ (n : ℕ). Going src entry from (from + length body) limit held t₀ st₀ t₀ n st₀ false 1) e
      (going_start src entry from (from + length body) limit held t₀ st₀ (omega arith) w)

  module _ (t : List ℕ) (at : ℕ) (st : State) (met : Bool) (line : ℕ) (g : Within src body entry from limit held t₀ st₀ t at st met line) where
    pub within-met : length body ≤ at → met ≡ true → OfBody t (Ok st)
    within-met h e = of-body t (Ok st) (going-met src entry from (from + length body) limit held t₀ st₀ t (from + at) st met line g (omega arith) e)

    pub within_none : length body ≤ at → met ≡ false → OfBody t (Err (Malformed entry 0))
    within_none h e =
        of-body t (Err (Malformed entry 0)) (going-none src entry from (from + length body) limit held t₀ st₀ t (from + at) st met line g (omega arith) e)

    module _ (end : ℕ) (h : at < length body) (x : EndsLine body at (length body) end) where
      behind : from + end + 1 ≡ from + (end + 1)
      behind = omega arith

      pub within-empty : end ≤ at → Within src body entry from limit held t₀ st₀ t (end + 1) st met (line + 1)
      within-empty n =
          subst (λ (k : ℕ). Going src entry from (from + length body) limit held t₀ st₀ t k st met (line + 1)) behind
          (going-empty src entry from (from + length body) limit held t₀ st₀ t (from + at) st met line g
          (from + end) (omega arith) z.within (ends-here z at end x) (omega arith))

      module _ (n : at < end) (t' : List ℕ) where
        pub within-next : (m : State) → LineIs src limit held (from + at) (part body at end) entry line st t t' (Ok m)
            → Within src body entry from limit held t₀ st₀ t' (end + 1) m true (line + 1)
        within-next m d =
            subst (λ (k : ℕ). Going src entry from (from + length body) limit held t₀ st₀ t' k m true (line + 1)) behind
            (going_next src entry from (from + length body) limit held t₀ st₀ t (from + at) st met line g
            (from + end) (omega arith) z.within (ends-here z at end x) (omega arith) t' m
            (subst (λ (l : Text). LineIs src limit held (from + at) l entry line st t t' (Ok m)) (part-here z at end x.within) d))

        pub within-refused : (y : Refusal) → LineIs src limit held (from + at) (part body at end) entry line st t t' (Err y) → OfBody t' (Err y)
        within-refused y d =
            of-body t' (Err y)
            (going-refused src entry from (from + length body) limit held t₀ st₀ t (from + at) st met line g
            (from + end) (omega arith) z.within (ends-here z at end x) (omega arith) t' y
            (subst (λ (l : Text). LineIs src limit held (from + at) l entry line st t t' (Err y)) (part-here z at end x.within) d))

-- ---- the lines of version 0

abbrev pub Tells : (src body : Text) (entry from at : ℕ) (x : Said) (line : ℕ) → Type 0
Tells src body entry from at x line = Telling src entry from (from + length body) (from + at) x line

module _ {src body : Text} (entry from : ℕ) (z : Lies src from body) where
  zero-of-body : (r : Result State Refusal) → ZeroIs src (read_zero (body_as entry from (part src from (from + length body)))) r
      → ZeroIs src (read_zero (body_as entry from body)) r
  zero-of-body r o = subst (λ (b : Text). ZeroIs src (read_zero (body_as entry from b)) r) z.same o

  pub tells-start : Tells src body entry from 0 (record { table = nowhere; columns = 0; protocol = nowhere }) 1
  tells-start =
      let e : from ≡ from + 0 = omega arith in
      subst (λ (n : ℕ). Telling src entry from (from + length body) n (record { table = nowhere; columns = 0; protocol = nowhere }) 1) e
      (telling-start src entry from (from + length body) (omega arith))

  module _ (at : ℕ) (x : Said) (line : ℕ) (g : Tells src body entry from at x line) where
    pub tells_none : length body ≤ at → x.table.size ≡ 0 → ZeroIs src (read_zero (body_as entry from body)) (Err (Malformed entry 0))
    tells_none h e =
        zero-of-body (Err (Malformed entry 0)) (telling-none src entry from (from + length body) (from + at) x line g (omega arith) e)

    pub tells_all : length body ≤ at → (x.table.size ≡ 0 → ⊥)
        → ZeroIs src (read_zero (body_as entry from body))
        (Ok (record { table = x.table; columns = x.columns; protocol = x.protocol; base = middle; live = 0 }))
    tells_all h n =
        zero-of-body (Ok (record { table = x.table; columns = x.columns; protocol = x.protocol; base = middle; live = 0 }))
        (telling-says src entry from (from + length body) (from + at) x line g (omega arith) n)

    module _ (end : ℕ) (h : at < length body) (y : EndsLine body at (length body) end) where
      onward : from + end + 1 ≡ from + (end + 1)
      onward = omega arith

      pub tells-empty : end ≤ at → Tells src body entry from (end + 1) x (line + 1)
      tells-empty n =
          subst (λ (k : ℕ). Telling src entry from (from + length body) k x (line + 1)) onward
          (telling-empty src entry from (from + length body) (from + at) x line g (from + end) (omega arith) z.within (ends-here z at end y) (omega arith))

      module _ (n : at < end) where
        pub tells-next : (w : Said) → SayingIs src (says entry line (part body at end) (said_of src x)) (Ok w)
            → Tells src body entry from (end + 1) w (line + 1)
        tells-next w d =
            subst (λ (k : ℕ). Telling src entry from (from + length body) k w (line + 1)) onward
            (telling-next src entry from (from + length body) (from + at) x line g (from + end) (omega arith) z.within (ends-here z at end y) (omega arith) w
            (subst (λ (l : Text). SayingIs src (says entry line l (said_of src x)) (Ok w)) (part-here z at end y.within) d))

        pub tells-refused : (w : Refusal) → SayingIs src (says entry line (part body at end) (said_of src x)) (Err w)
            → ZeroIs src (read_zero (body_as entry from body)) (Err w)
        tells-refused w d =
            zero-of-body (Err w)
            (telling-refused src entry from (from + length body) (from + at) x line g (from + end) (omega arith) z.within (ends-here z at end y)
            (omega arith) w
            (subst (λ (l : Text). SayingIs src (says entry line l (said_of src x)) (Err w)) (part-here z at end y.within) d))

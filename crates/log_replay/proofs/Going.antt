-- The loop over the lines of a body: what holds before each line, and what each way out of a turn gives.
use mathlib.Core.Path.{◌≡◌, refl, sym, ap, ◌∙◌, subst}
use mathlib.Core.Bool.{Bool, true, false, ◌||◌}
use mathlib.Core.List.{List}
use Prim.Native.Nat.{ℕ, suc, ◌+◌, ◌-◌, ◌≤◌, ◌<◌}
use native.Mathlib.Numerals.{add-one}
use native.Mathlib.Omega.{arith}
use lib.ListN.{length}
use Rattle.facts.specs.Parts.{part}
use Rattle.facts.proofs.Parts.{length_part}
use Rattle.rules.specs.Json.Text.{Text}
use Rattle.rules.specs.Lines.{lines, any_object}
use Rattle.rules.specs.Refusals.{Refusal, Answer, accepted, refused, ◌>>=◌, require, malformed}
use Rattle.refusals.specs.Numbered.{numbered}
use Rattle.refusals.specs.declared.Refusal.{Refusal as LineRefusal}
use Rattle.refusals.specs.declared.Refusal.TheVariants.{Malformed}
use Rattle.rules.specs.History.{read_line, read_lines, read_file}
use Rattle.rules.specs.History.{State as RuleState}
use Rattle.rules.proofs.Lines.{lines-part-none, any_object-empty, any_object-line}
use Rattle.rules.proofs.Replaying.{read_lines-part, read_lines-none}
use Rattle.file_lines.specs.Ends.{EndsLine}
use Rattle.file_lines.proofs.Laws.{ends-lines}
use Rattle.log_replay.specs.declared.State.{State}
use Rattle.std.specs.Prelude.{Ok, Err}
use Rattle.log_replay.specs.Views.{state_of, Carries}
use Rattle.log_replay.specs.Answers.{Left, Carried, origin, LineIs, body_as, OutcomeIs}
use Rattle.rules.proofs.Applying.{read_line-empty, read_file-refused, read_file-ends}

-- the lines before `at`, the next of which has number k, made st₀ and t₀ into st and t; met: one of them was not empty
pub record Going (s : Text) (e from to limit : ℕ) (h : Bool) (t₀ : List ℕ) (st₀ : State) (t : List ℕ) (at : ℕ) (st : State) (met : Bool) (k : ℕ) : Type 0 where
  pub upto : at ≤ to + 1
  pub number : k ≤ at + 1
  pub carried : Carried s limit t₀ st t
  pub reads : read_lines limit (origin h) e k at (lines (part s at to)) (state_of s st t)
      ≡ read_lines limit (origin h) e 1 from (lines (part s from to)) (state_of s st₀ t₀)
  pub objects : (met || any_object (lines (part s at to))) ≡ any_object (lines (part s from to))

module _ (src : Text) (entry from to limit : ℕ) (held : Bool) (t₀ : List ℕ) (st₀ : State) where
  pub going_start : from ≤ to → Carries src limit st₀ t₀ → Going src entry from to limit held t₀ st₀ t₀ from st₀ false 1
  going_start h w = record {
    upto = omega arith;
    number = omega arith;
    carried = record { left = record { rest = refl; length = refl }; carries = w };
    reads = refl;
    objects = refl;
  }

  module _ (t : List ℕ) (at : ℕ) (st : State) (met : Bool) (line : ℕ) (g : Going src entry from to limit held t₀ st₀ t at st met line) where
    -- ---- behind the last line

    reads_all : to ≤ at → read_lines limit (origin held) entry 1 from (lines (part src from to)) (state_of src st₀ t₀) ≡ accepted (state_of src st t)
    reads_all h = sym g.reads ∙ read_lines-none limit (origin held) entry line src at to (state_of src st t) h

    ends : to ≤ at → (b : Bool) → met ≡ b
        → read_file limit (origin held) (body_as entry from (part src from to)) (state_of src st₀ t₀)
        ≡ (require (malformed entry 0) b >>= (λ _. accepted (state_of src st t)))
    unfolding body_as any_object
    ends h b e =
        let none_left : (met || any_object (lines (part src at to))) ≡ b = ap (λ ls. met || any_object ls) (lines-part-none src at to h) ∙ or-none met ∙ e in
        read_file-ends limit (origin held) (body_as entry from (part src from to)) (state_of src st₀ t₀) (reads_all h)
        ∙ ap (λ (b : Bool). require (malformed entry 0) b >>= (λ _. accepted (state_of src st t))) (sym g.objects ∙ none_left)
      where
        or-none : (b : Bool) → (b || false) ≡ b
        or-none true = refl
        or-none false = refl

    pub going-met : to ≤ at → met ≡ true
        → OutcomeIs src limit (read_file limit (origin held) (body_as entry from (part src from to)) (state_of src st₀ t₀)) t₀ t (Ok st)
    going-met h e = (ends h true e, g.carried)

    pub going-none : to ≤ at → met ≡ false
        → OutcomeIs src limit (read_file limit (origin held) (body_as entry from (part src from to)) (state_of src st₀ t₀)) t₀ t (Err (Malformed entry 0))
    unfolding numbered
    going-none h e = (ends h false e, g.carried.left)

    -- ---- one line more, which ends at `end`

    module _ (end : ℕ) (h : at < to) (l : to ≤ length src) (x : EndsLine src at to end) where
      step : read_lines limit (origin held) entry 1 from (lines (part src from to)) (state_of src st₀ t₀)
          ≡ (read_line limit (origin held) entry line at (part src at end) (state_of src st t)
          >>= (λ next. read_lines limit (origin held) entry (suc line) (end + 1) (lines (part src (end + 1) to)) next))
      step = sym g.reads ∙ read_lines-part limit (origin held) entry line src at end to (state_of src st t) h l x.behind x.within x.before x.feed

      onward : (next : RuleState) → read_line limit (origin held) entry line at (part src at end) (state_of src st t) ≡ accepted next
          → read_lines limit (origin held) entry (line + 1) (end + 1) (lines (part src (end + 1) to)) next
          ≡ read_lines limit (origin held) entry 1 from (lines (part src from to)) (state_of src st₀ t₀)
      onward next e =
          ap (λ (n : ℕ). read_lines limit (origin held) entry n (end + 1) (lines (part src (end + 1) to)) next) (add-one line)
          ∙ sym (step
          ∙ ap (λ (a : Answer RuleState). a >>= (λ next. read_lines limit (origin held) entry (suc line) (end + 1) (lines (part src (end + 1) to)) next)) e)

      faulty : {r : Refusal} → read_line limit (origin held) entry line at (part src at end) (state_of src st t) ≡ refused r
          → read_file limit (origin held) (body_as entry from (part src from to)) (state_of src st₀ t₀) ≡ refused r
      unfolding body_as
      faulty e =
          read_file-refused limit (origin held) (body_as entry from (part src from to)) (state_of src st₀ t₀)
          (step
          ∙ ap (λ (a : Answer RuleState). a >>= (λ next. read_lines limit (origin held) entry (suc line) (end + 1) (lines (part src (end + 1) to)) next)) e)

      size : length (part src at end) ≡ end - at
      size = length_part src at end (omega (arith, x.within))

      pub going-empty : end ≤ at → Going src entry from to limit held t₀ st₀ t (end + 1) st met (line + 1)
      going-empty n =
          let e : length (part src at end) ≡ 0 = omega (arith, size) in
          record {
            upto = omega (arith, x.within);
            number = omega (arith, x.behind, g.number);
            carried = g.carried;
            reads = onward (state_of src st t) (read_line-empty limit (origin held) entry line at (part src at end) (state_of src st t) e);
            objects = sym (ap (λ (b : Bool). met || b)
                (ap any_object (ends-lines src at end to h l x) ∙ any_object-empty (part src at end) (lines (part src (end + 1) to)) e)) ∙ g.objects;
          }

      module _ (n : at < end) (t' : List ℕ) where
        pub going_next : (m : State) → LineIs src limit held at (part src at end) entry line st t t' (Ok m)
            → Going src entry from to limit held t₀ st₀ t' (end + 1) m true (line + 1)
        going_next m d =
            let e : 0 < length (part src at end) = omega (arith, size) in
            record {
              upto = omega (arith, x.within);
              number = omega (arith, x.behind, g.number);
              carried = record {
                left = record { rest = d.1.left.rest ∙ g.carried.left.rest; length = d.1.left.length ∙ g.carried.left.length };
                carries = d.1.carries;
              };
              reads = onward (state_of src m t') d.0;
              objects = sym (or-true met)
                  ∙ sym (ap (λ (b : Bool). met || b)
                  (ap any_object (ends-lines src at end to h l x) ∙ any_object-line (part src at end) (lines (part src (end + 1) to)) e)) ∙ g.objects;
            }
          where
            or-true : (b : Bool) → (b || true) ≡ true
            or-true true = refl
            or-true false = refl

        pub going-refused : (y : LineRefusal) → LineIs src limit held at (part src at end) entry line st t t' (Err y)
            → OutcomeIs src limit (read_file limit (origin held) (body_as entry from (part src from to)) (state_of src st₀ t₀)) t₀ t' (Err y)
        going-refused y d = (faulty d.0, subst (Left limit t₀) (sym d.1) g.carried.left)

-- What is shown of a line, by whether it is one and by its action; and what an answer says of its path and its records.
use mathlib.Core.Path.{◌≡◌, refl, sym, ap, ◌∙◌}
use mathlib.Core.Bool.{true, false}
use Rattle.std.specs.Prelude.{Option, None, Some}
use Rattle.std.specs.Option.{MatchOption, IsSomeAnd, option_map}
use Rattle.std.proofs.lemmas.Option.{same_Some}
use mathlib.Core.List.{[]}
use Prim.Native.Nat.{ℕ, ◌+◌, ◌-◌, ◌≤◌}
use native.Mathlib.Omega.{arith}
use lib.ListN.{length, take, drop}
use Rattle.facts.specs.Parts.{part}
use Rattle.facts.proofs.Lists.{drop-place}
use Rattle.facts.proofs.Parts.{length_part}
use Rattle.rules.specs.Json.Text.{Text}
use Rattle.rules.specs.Actions.{Facts, Action, add, remove, protocol, meta_data, mergeskip, other, action, is_line, or_nothing, path_in, path_shown}
use Rattle.rules.specs.Actions.{start_of, start_in, path_start, path_place, Records, records, missing, no_add, records_of, records_in, records_shown}
use Rattle.rules.proofs.Tests.{apart}
use Rattle.rules.proofs.PathPlaces.{place-shown, place-within, place-nothing}
use Rattle.line_actions.specs.Line.{AddIs}
use Rattle.line_actions.specs.Asked.{add_in, AddOf}
use Rattle.line_actions.specs.declared.line.Added.{Added}
use Rattle.shown.specs.Shown.{shown_is, adding_is}

-- ---- no line, or no add

-- what is shown of s
abbrev Told : Text → Option (ℕ × ℕ × Option ℕ) → Type 0
Told s r = r ≡ adding_is (records_shown s) (path_place s)

nothing-told : (s : Text) → records_shown s ≡ no_add → Told s None
unfolding adding_is
nothing-told s e = sym (ap (λ (r : Records). adding_is r (path_place s)) e)

pub no_line : (s : Text) → is_line s ≡ false → Told s None
unfolding records_shown
no_line s e = nothing-told s (rw (records_shown, e))

-- where a line says no add, it has no records
records-none : (o : Option Action) → add_in o ≡ None → records_in o ≡ no_add
unfolding add_in records_in
records-none None e = refl
records-none (Some (add f)) e = apart (cc)
records-none (Some (remove p)) e = refl
records-none (Some (protocol p)) e = refl
records-none (Some (meta_data m)) e = refl
records-none (Some (mergeskip p k)) e = refl
records-none (Some other) e = refl

module _ (s : Text) (line : is_line s ≡ true) where
  records-line : records_shown s ≡ records_in (action s)
  unfolding records_shown
  records-line = rw (records_shown, line)

  added_none : add_in (action s) ≡ None → Told s None
  added_none e = nothing-told s (records-line ∙ records-none (action s) e)

  -- ---- an add

  module _ (f : Facts) (a : Added) (e : action s ≡ Some (add f)) (i : AddIs s f a) where
    start_is : path_start s ≡ a.path
    unfolding path_start start_in start_of
    start_is =
        let h : a.path ≤ length s = omega (arith, i.ordered, i.within) in
        rw (path_start, line, e, i.left) (drop-place s a.path h)

    path-is : path_shown s ≡ part s a.path a.end
    unfolding path_shown path_in or_nothing
    path-is = rw (path_shown, line, e, i.written)

    place_is : path_place s ≡ (a.path, a.end - a.path)
    unfolding path_place
    place_is =
        ap (λ (n : ℕ). (n, length (path_shown s))) start_is
        ∙ ap (λ (n : ℕ). (a.path, n)) (ap length path-is ∙ length_part s a.path a.end i.within)

    writes : Told s (Some (a.path, a.end, a.records))
    unfolding records_in records_of adding_is
    writes =
        let low : a.path ≤ a.end = i.ordered in
        let end : a.path + (a.end - a.path) ≡ a.end = omega arith in
        ap (λ (r : Option ℕ). Some (a.path, a.end, r)) i.records
        ∙ ap (λ (n : ℕ). Some (a.path, n, f.num_records)) (sym end)
        ∙ each f.num_records
        ∙ sym (ap (λ (r : Records). adding_is r (a.path, a.end - a.path)) (records-line ∙ ap records_in e))
        ∙ sym (ap (adding_is (records_shown s)) place_is)
      where
        each : (n : Option ℕ) → Some (a.path, a.path + (a.end - a.path), n) ≡ adding_is (records_of n) (a.path, a.end - a.path)
        each None = refl
        each (Some n) = refl

  -- the answer of a line
  pub line-told : (o : Option Added) → AddOf (action s) s o → Told s (option_map (λ a. (a.path, a.end, a.records)) o)
  line-told None e = added_none e
  line-told (Some a) (f, e, i) = writes f a e i

-- ---- its path

pub record Standing (s : Text) (from to : ℕ) : Type 0 where
  pub start : from ≡ (path_place s).0
  pub size : to - from ≡ (path_place s).1
  pub ordered : from ≤ to
  pub within : to ≤ length s
  pub path : part s from to ≡ path_shown s

pub writes-standing : (s : Text) {from to : ℕ} {r : Option ℕ} → Told s (Some (from, to, r)) → Standing s from to
unfolding adding_is part
writes-standing s {from} {to} {r} e = go (records_shown s) (path_place s) e (place-within s) (place-shown s) refl
  where
    standing : (p : ℕ × ℕ) (n : Option ℕ) → ◌≡◌ {A = Option (ℕ × ℕ × Option ℕ)} (Some (from, to, r)) (Some (p.0, p.0 + p.1, n))
        → p.0 + p.1 ≤ length s → take p.1 (drop p.0 s) ≡ path_shown s → p ≡ path_place s → Standing s from to
    standing p n e w h q =
        let same = same_Some _ _ e in
        let f : from ≡ p.0 = ap (λ (x : ℕ × ℕ × Option ℕ). x.0) same in
        let t : to ≡ p.0 + p.1 = ap (λ (x : ℕ × ℕ × Option ℕ). x.1) same in
        let size : to - from ≡ p.1 = omega arith in
        record {
          start = f ∙ ap (λ (x : ℕ × ℕ). x.0) q;
          size = size ∙ ap (λ (x : ℕ × ℕ). x.1) q;
          ordered = omega arith;
          within = omega arith;
          path = ap (λ (n : ℕ). take n (drop from s)) size ∙ ap (λ (n : ℕ). take p.1 (drop n s)) f ∙ h;
        }

    go : (o : Records) (p : ℕ × ℕ) → Some (from, to, r) ≡ adding_is o p → p.0 + p.1 ≤ length s → take p.1 (drop p.0 s) ≡ path_shown s
        → p ≡ path_place s → Standing s from to
    go (records n) p q w h k = standing p (Some n) q w h k
    go missing p q w h k = standing p None q w h k
    go no_add p q w h k = apart (cc)

nothing-records : (o : Records) (p : ℕ × ℕ) → None ≡ adding_is o p → o ≡ no_add
unfolding adding_is
nothing-records (records n) p e = apart (cc)
nothing-records missing p e = apart (cc)
nothing-records no_add p e = refl

module _ (s : Text) (e : Told s None) where
  pub nothing-place : path_place s ≡ (0, 0)
  nothing-place = place-nothing s (nothing-records (records_shown s) (path_place s) e)

  pub nothing-path : [] ≡ path_shown s
  nothing-path = sym (ap (λ (p : ℕ × ℕ). take p.1 (drop p.0 s)) nothing-place) ∙ place-shown s

  pub nothing-shown : None ≡ shown_is (records_shown s)
  unfolding shown_is
  nothing-shown = sym (ap shown_is (nothing-records (records_shown s) (path_place s) e))

-- ---- its records

writes-shown : {from to : ℕ} (r : Option ℕ) (o : Records) (p : ℕ × ℕ) → Some (from, to, r) ≡ adding_is o p → Some r ≡ shown_is o
unfolding adding_is shown_is
writes-shown r (records n) p q = ap (option_map (λ (a : ℕ × ℕ × Option ℕ). a.2)) q
writes-shown r missing p q = ap (option_map (λ (a : ℕ × ℕ × Option ℕ). a.2)) q
writes-shown r no_add p q = apart (cc)

pub records-told : (s : Text) (o : Option (ℕ × ℕ × Option ℕ)) → Told s o → option_map (λ a. a.2) o ≡ shown_is (records_shown s)
records-told s None e = nothing-shown s e
records-told s (Some a) e = writes-shown a.2 (records_shown s) (path_place s) e

-- what a call of `map` answers, where f is what its closure answers
pub mapped : {A B : Type 0} (o : Option A) (r : Option B) (f : A → B) {P : A → B → Type 0}
    → MatchOption o (r ≡ None) (λ x. IsSomeAnd r (P x)) → ((x : A) (y : B) → P x y → y ≡ f x) → r ≡ option_map f o
mapped None r f m h = m
mapped (Some x) None f m h = absurd m
mapped (Some x) (Some y) f m h = ap Some (h x y m)

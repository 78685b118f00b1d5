-- A body judged line by line: with or without the metadata said by the lines that went by.
use mathlib.Core.Path.{◌≡◌, refl, sym, ap, ap₂, ◌∙◌}
use mathlib.Core.Bool.{Bool, true, false, ◌&&◌, ◌||◌}
use Rattle.std.specs.Prelude.{Option, None, Some}
use mathlib.Core.List.{List, [], ◌∷◌}
use Prim.Native.Nat.{ℕ, ◌+◌, ◌-◌, ◌≤◌, ◌<◌}
use native.Mathlib.Nat.{not-suc-le-zero}
use native.Mathlib.Omega.{arith}
use lib.ListN.{length}
use Rattle.facts.specs.Parts.{part}
use Rattle.facts.proofs.Parts.{part-whole, length_part}
use Rattle.rules.specs.Bytes.{Bytes}
use Rattle.rules.specs.Lines.{lines, any_object}
use Rattle.rules.specs.Actions.{Action, add, remove, protocol, meta_data, mergeskip, other, action}
use Rattle.rules.specs.Starts.{every_line, is_table, says_table, well_formed, is_start}
use Rattle.rules.proofs.Tests.{apart}
use Rattle.rules.proofs.Applying.{action-empty}
use Rattle.rules.proofs.Lines.{lines-part-none}
use Rattle.line_actions.specs.Asked.{spoken_is}
use Rattle.file_lines.specs.Ends.{EndsLine}
use Rattle.file_lines.proofs.Laws.{ends-lines}

abbrev pub judged : (told : Bool) → List Bytes → Bool
judged true ls = every_line ls
judged false ls = every_line ls && says_table ls

-- ---- a line by what is spoken

spoken-nothing : (o : Option Action) → None ≡ spoken_is o → o ≡ None
unfolding spoken_is
spoken-nothing None e = refl
spoken-nothing (Some (add f)) e = apart (cc)
spoken-nothing (Some (remove p)) e = apart (cc)
spoken-nothing (Some (protocol p)) e = apart (cc)
spoken-nothing (Some (meta_data m)) e = apart (cc)
spoken-nothing (Some (mergeskip p k)) e = apart (cc)
spoken-nothing (Some other) e = apart (cc)

spoken-table : (o : Option Action) → (Some true) ≡ spoken_is o → (a : Action) × (o ≡ Some a) × (is_table o ≡ true)
unfolding spoken_is is_table
spoken-table None e = apart (cc)
spoken-table (Some (add f)) e = apart (cc)
spoken-table (Some (remove p)) e = apart (cc)
spoken-table (Some (protocol p)) e = apart (cc)
spoken-table (Some (meta_data m)) e = (meta_data m, refl, refl)
spoken-table (Some (mergeskip p k)) e = apart (cc)
spoken-table (Some other) e = apart (cc)

spoken-else : (o : Option Action) → (Some false) ≡ spoken_is o → (a : Action) × (o ≡ Some a) × (is_table o ≡ false)
unfolding spoken_is is_table
spoken-else None e = apart (cc)
spoken-else (Some (add f)) e = (add f, refl, refl)
spoken-else (Some (remove p)) e = (remove p, refl, refl)
spoken-else (Some (protocol p)) e = (protocol p, refl, refl)
spoken-else (Some (meta_data m)) e = apart (cc)
spoken-else (Some (mergeskip p k)) e = (mergeskip p k, refl, refl)
spoken-else (Some other) e = (other, refl, refl)

-- ---- a line more

every-good : (l : Bytes) (ls : List Bytes) {a : Action} → 0 < length l → action l ≡ Some a → every_line (l ∷ ls) ≡ every_line ls
unfolding every_line
every-good [] ls h e = absurd (not-suc-le-zero h)
every-good (b ∷ bs) ls h e = rw (every_line, e)

every-bad : (l : Bytes) (ls : List Bytes) → 0 < length l → action l ≡ None → every_line (l ∷ ls) ≡ false
unfolding every_line
every-bad [] ls h e = absurd (not-suc-le-zero h)
every-bad (b ∷ bs) ls h e = rw (every_line, e)

module _ (l : Bytes) (ls : List Bytes) where
  says_here : is_table (action l) ≡ true → says_table (l ∷ ls) ≡ true
  unfolding says_table
  says_here t = rw (says_table, t)

  says_past : is_table (action l) ≡ false → says_table (l ∷ ls) ≡ says_table ls
  unfolding says_table
  says_past t = rw (says_table, t)

and-true : (b : Bool) → (b && true) ≡ b
and-true true = refl
and-true false = refl

or-true : (b : Bool) → (b || true) ≡ true
or-true true = refl
or-true false = refl

or-false : (b : Bool) → (b || false) ≡ b
or-false true = refl
or-false false = refl

judged-empty : (told : Bool) (l : Bytes) (ls : List Bytes) → length l ≡ 0 → judged told (l ∷ ls) ≡ judged told ls
unfolding every_line is_table
judged-empty true [] ls h = refl
judged-empty false [] ls h = ap (λ (b : Bool). every_line ls && b) (says_past [] ls (ap is_table action-empty))
judged-empty told (b ∷ bs) ls h = absurd (omega arith)

judged-bad : (told : Bool) (l : Bytes) (ls : List Bytes) → 0 < length l → action l ≡ None → judged told (l ∷ ls) ≡ false
judged-bad true l ls h e = every-bad l ls h e
judged-bad false l ls h e = ap (λ (b : Bool). b && says_table (l ∷ ls)) (every-bad l ls h e)

judged-table : (told : Bool) (l : Bytes) (ls : List Bytes) {a : Action} → 0 < length l → action l ≡ Some a → is_table (action l) ≡ true
    → judged told (l ∷ ls) ≡ judged true ls
judged-table true l ls h e t = every-good l ls h e
judged-table false l ls h e t = ap₂ ◌&&◌ (every-good l ls h e) (says_here l ls t) ∙ and-true (every_line ls)

judged-else : (told : Bool) (l : Bytes) (ls : List Bytes) {a : Action} → 0 < length l → action l ≡ Some a → is_table (action l) ≡ false
    → judged told (l ∷ ls) ≡ judged told ls
judged-else true l ls h e t = every-good l ls h e
judged-else false l ls h e t = ap₂ ◌&&◌ (every-good l ls h e) (says_past l ls t)

judged-none : (told : Bool) → judged told [] ≡ told
unfolding every_line says_table
judged-none true = refl
judged-none false = refl

-- ---- all lines

-- a metaData is an object
says-object : (ls : List Bytes) → says_table ls ≡ true → any_object ls ≡ true
unfolding says_table any_object is_table
says-object [] e = apart (cc)
says-object ([] ∷ ls) e = says-object ls (sym (says_past [] ls (ap is_table action-empty)) ∙ e)
says-object ((b ∷ bs) ∷ ls) e = refl

start-judged : (body : Bytes) → is_start body ≡ judged false (lines body)
unfolding is_start well_formed
start-judged body = go (any_object (lines body)) (every_line (lines body)) (says_table (lines body)) refl refl refl
  where
    go : (o e s : Bool) → any_object (lines body) ≡ o → every_line (lines body) ≡ e → says_table (lines body) ≡ s → is_start body ≡ (e && s)
    go true true s p q r = let w : well_formed body ≡ true = rw (well_formed, p) q in rw (is_start, w) r
    go true false s p q r = let w : well_formed body ≡ false = rw (well_formed, p) q in rw (is_start, w)
    go false false s p q r = let w : well_formed body ≡ false = rw (well_formed, p) in rw (is_start, w)
    go false true false p q r = let w : well_formed body ≡ false = rw (well_formed, p) in rw (is_start, w)
    go false true true p q r = let c : true ≡ false = sym (says-object (lines body) r) ∙ p in apart (cc)

-- ---- at the place `from` of a body

-- what is left decides
abbrev pub Judging : (body : Bytes) (from : ℕ) (told : Bool) → Type 0
Judging body from told = is_start body ≡ judged told (lines (part body from (length body)))

pub judging-start : (body : Bytes) → Judging body 0 false
judging-start body = rw (part-whole body (length body) (omega arith)) (start-judged body)

module _ (body : Bytes) (from : ℕ) (told : Bool) (j : Judging body from told) where
  pub judging-end : length body ≤ from → told ≡ is_start body
  judging-end h = sym (j ∙ ap (judged told) (lines-part-none body from (length body) h) ∙ judged-none told)

  -- the line from here ends at e
  module _ (e : ℕ) (l : from < length body) (ends : EndsLine body from (length body) e) where
    turn : is_start body ≡ judged told (part body from e ∷ lines (part body (e + 1) (length body)))
    turn = j ∙ ap (judged told) (ends-lines body from e (length body) l (omega arith) ends)

    size : length (part body from e) ≡ e - from
    size = length_part body from e ends.within

    pub judging-empty : e ≤ from → Judging body (e + 1) told
    judging-empty h = turn ∙ judged-empty told (part body from e) _ (omega (arith, size))

    module _ (h : from < e) where
      pub judging-bad : None ≡ spoken_is (action (part body from e)) → false ≡ is_start body
      judging-bad a = sym (turn ∙ judged-bad told (part body from e) _ (omega (arith, size)) (spoken-nothing _ a))

      judging-table : (Some true) ≡ spoken_is (action (part body from e)) → Judging body (e + 1) true
      judging-table a =
          let (x, q, t) = spoken-table _ a in
          turn ∙ judged-table told (part body from e) _ (omega (arith, size)) q t

      judging-else : (Some false) ≡ spoken_is (action (part body from e)) → Judging body (e + 1) told
      judging-else a =
          let (x, q, t) = spoken-else _ a in
          turn ∙ judged-else told (part body from e) _ (omega (arith, size)) q t

      -- a line that says an action, the metadata or another
      pub judging-more : (table : Bool) → Some table ≡ spoken_is (action (part body from e)) → Judging body (e + 1) (told || table)
      judging-more true a = rw (or-true told) (judging-table a)
      judging-more false a = rw (or-false told) (judging-else a)

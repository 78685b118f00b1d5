-- Version 0: what a line adds to what was said, and the loop over its lines.
use mathlib.Core.Path.{◌≡◌, refl, sym, ap, ◌∙◌}
use Rattle.std.specs.Prelude.{Option, None, Some}
use mathlib.Core.List.{List, [], ◌∷◌}
use Prim.Native.Nat.{ℕ, suc, ◌+◌, ◌-◌, ◌≤◌, ◌<◌}
use native.Mathlib.Nat.{not-suc-le-zero}
use native.Mathlib.Numerals.{add-one}
use native.Mathlib.Omega.{arith}
use lib.ListN.{length}
use Rattle.facts.specs.Parts.{part}
use Rattle.facts.specs.Rows.{rows_of}
use Rattle.facts.proofs.Parts.{length_part}
use Rattle.rules.specs.Bytes.{Bytes}
use Rattle.rules.specs.Json.Text.{Text}
use Rattle.rules.specs.Lines.{lines}
use Rattle.rules.specs.Actions.{action, protocol, meta_data}
use Rattle.rules.specs.Actions.{Action as RuleAction, Protocol as RuleProtocol, MetaData as RuleMetaData}
use Rattle.rules.specs.Refusals.{Answer, accepted, ◌>>=◌, or_refuse, malformed}
use Rattle.rules.specs.History.{say_table, say_protocol, said_nothing, zero_lines, or_unstated, read_zero}
use Rattle.rules.specs.History.{State as RuleState, Said as RuleSaid, say as rule_say}
use Rattle.rules.proofs.Lines.{lines-part-none}
use Rattle.file_lines.specs.Ends.{EndsLine}
use Rattle.file_lines.proofs.Laws.{ends-lines}
use Rattle.line_actions.specs.Line.{ActionIs}
use Rattle.line_actions.specs.Asked.{protocol_in}
use Rattle.line_actions.specs.declared.line.Added.{Added}
use Rattle.line_actions.specs.declared.line.Stated.{Stated as Stating}
use Rattle.line_actions.specs.declared.line.Tabled.{Tabled}
use Rattle.line_actions.specs.declared.line.Skipped.{Skipped}
use Rattle.std.specs.Prelude.{Ok, Err}
use Rattle.line_actions.specs.declared.line.Action.TheVariants.{Add, Remove, Protocol, MetaData, Mergeskip, Other}
use Rattle.log_replay.specs.declared.begin.Said.{Said}
use Rattle.line_actions.specs.declared.line.Action.{Action}
use Rattle.line_actions.specs.contracts.line.Action.{the_type}
use denote.Enum.Declared.{tag_of}
use mathlib.Core.Logic.{◌⊎◌, inl, inr}
use Rattle.rules.proofs.Tests.{apart}
use Rattle.refusals.specs.Numbered.{numbered}
use Rattle.refusals.specs.declared.Refusal.{Refusal}
use Rattle.refusals.specs.declared.Refusal.TheVariants.{Malformed as MalformedLine}
use Rattle.log_replay.specs.Views.{Lies, table_at, protocol_at, or_no_table, state_of, said_of, Stated}
use Rattle.log_replay.specs.Answers.{body_as, says, SayingIs, ZeroIs, middle}
use Rattle.rules.proofs.Applying.{zero_lines-empty}
use Rattle.log_replay.proofs.Nothing.{nowhere, action-here, table_here, table-there, table-nowhere, protocol-nowhere, carries-none}

-- ---- one line

abbrev tag : Action → ℕ
tag a = tag_of the_type a

module _ (src line : Text) (from e k : ℕ) (x : Said) (w : Stated src x) (z : Lies src from line) (h : 0 < length line) where
  told : (a : RuleAction) → action line ≡ Some a → says e k line (said_of src x) ≡ or_refuse (malformed e k) (rule_say a (said_of src x))
  unfolding says
  told a q = rw q

  said-add : {a : Added} → ActionIs (action line) line (Some (Add a)) → SayingIs src (says e k line (said_of src x)) (Err (MalformedLine e k))
  unfolding rule_say numbered
  said-add q = told _ q.1

  said-remove : {p : ℕ} → ActionIs (action line) line (Some (Remove p)) → SayingIs src (says e k line (said_of src x)) (Err (MalformedLine e k))
  unfolding rule_say numbered
  said-remove q = told _ q.0

  said-mergeskip : {s : Skipped} → ActionIs (action line) line (Some (Mergeskip s)) → SayingIs src (says e k line (said_of src x)) (Err (MalformedLine e k))
  unfolding rule_say numbered
  said-mergeskip q = told _ q.says

  pub said-malformed : ActionIs (action line) line None → SayingIs src (says e k line (said_of src x)) (Err (MalformedLine e k))
  unfolding says numbered
  said-malformed q = rw q

  pub said-other : ActionIs (action line) line (Some Other) → SayingIs src (says e k line (said_of src x)) (Ok x)
  unfolding rule_say
  said-other q = (told _ q, w)

  -- a metaData where there is none yet, and another

  module _ {r : Tabled} (q : ActionIs (action line) line (Some (MetaData r))) where
    pub said-table : x.table.size ≡ 0
        → SayingIs src (says e k line (said_of src x))
        (Ok (record { table = record { at = from; size = length line }; columns = r.columns; protocol = x.protocol }))
    unfolding rule_say say_table said_of
    said-table n = (
      told (meta_data q.0) q.1
          ∙ ap (λ (o : Option RuleMetaData). or_refuse (malformed e k) (say_table o q.0 (said_of src x))) (table-nowhere src x.table n)
          ∙ ap (λ (o : Option RuleMetaData). accepted (record { of_table = o; of_protocol = protocol_at src x.protocol })) (sym (table_here z q.1)),
      record { meta_data = z.within; protocol = w.protocol; of_table = λ n. table-there z q; of_protocol = w.of_protocol },
    )

    pub said-table-twice : (x.table.size ≡ 0 → ⊥) → SayingIs src (says e k line (said_of src x)) (Err (MalformedLine e k))
    unfolding rule_say say_table said_of numbered
    said-table-twice n =
        told (meta_data q.0) q.1
        ∙ ap (λ (o : Option RuleMetaData). or_refuse (malformed e k) (say_table o q.0 (said_of src x))) (w.of_table (omega arith)).says

  module _ {r : Stating} (q : ActionIs (action line) line (Some (Protocol r))) where
    protocol-here : protocol_at src (record { at = from; size = length line }) ≡ Some q.0
    unfolding protocol_at protocol_in
    protocol-here = ap protocol_in (action-here z ∙ q.1)

    pub said-protocol : x.protocol.size ≡ 0
        → SayingIs src (says e k line (said_of src x))
        (Ok (record { table = x.table; columns = x.columns; protocol = record { at = from; size = length line } }))
    unfolding rule_say say_protocol said_of
    said-protocol n = (
      told (protocol q.0) q.1
          ∙ ap (λ (o : Option RuleProtocol). or_refuse (malformed e k) (say_protocol o q.0 (said_of src x))) (protocol-nowhere src x.protocol n)
          ∙ ap (λ (o : Option RuleProtocol). accepted (record { of_table = table_at src x.table; of_protocol = o })) (sym protocol-here),
      record { meta_data = w.meta_data; protocol = z.within; of_table = w.of_table; of_protocol = λ n. (q.0, protocol-here) },
    )

    pub said-protocol-twice : (x.protocol.size ≡ 0 → ⊥) → SayingIs src (says e k line (said_of src x)) (Err (MalformedLine e k))
    unfolding rule_say say_protocol said_of numbered
    said-protocol-twice n =
        told (protocol q.0) q.1
        ∙ ap (λ (o : Option RuleProtocol). or_refuse (malformed e k) (say_protocol o q.0 (said_of src x))) (w.of_protocol (omega arith)).1

  -- an action that version 0 has no place for: an add, a remove or a mergeskip, by its place in the enum
  pub said-else : (a : Action) → (tag a ≡ 0) ⊎ ((tag a ≡ 1) ⊎ (tag a ≡ 4)) → ActionIs (action line) line (Some a)
      → SayingIs src (says e k line (said_of src x)) (Err (MalformedLine e k))
  said-else (Add r) t q = said-add q
  said-else (Remove p) t q = said-remove q
  said-else (Protocol r) (inl t) q = apart (cc)
  said-else (Protocol r) (inr (inl t)) q = apart (cc)
  said-else (Protocol r) (inr (inr t)) q = apart (cc)
  said-else (MetaData r) (inl t) q = apart (cc)
  said-else (MetaData r) (inr (inl t)) q = apart (cc)
  said-else (MetaData r) (inr (inr t)) q = apart (cc)
  said-else (Mergeskip s) t q = said-mergeskip q
  said-else Other (inl t) q = apart (cc)
  said-else Other (inr (inl t)) q = apart (cc)
  said-else Other (inr (inr t)) q = apart (cc)

-- ---- the loop

-- what the rest of the rule does with what all lines said
abbrev ending : ℕ → RuleSaid → Answer RuleState
ending e x = or_refuse (malformed e 0) x.of_table >>= (λ m. accepted (record { table = m; in_force = or_unstated x.of_protocol; live = [] }))

zero_lines-says : (e k : ℕ) (l : Bytes) (ls : List Bytes) (x : RuleSaid) → 0 < length l
    → zero_lines e k (l ∷ ls) x ≡ (says e k l x >>= (λ next. zero_lines e (suc k) ls next))
unfolding zero_lines says
zero_lines-says e k [] ls x h = absurd (not-suc-le-zero h)
zero_lines-says e k (b ∷ bs) ls x h = split (action (b ∷ bs)) refl
  where
    split : (a : Option RuleAction) → action (b ∷ bs) ≡ a → zero_lines e k ((b ∷ bs) ∷ ls) x ≡ (says e k (b ∷ bs) x >>= (λ next. zero_lines e (suc k) ls next))
    split None p = rw (p, zero_lines)
    split (Some a) p = rw (p, zero_lines)

-- the lines before `at`, the next of which has number `line`, said x
pub record Telling (src : Text) (entry from to at : ℕ) (x : Said) (line : ℕ) : Type 0 where
  pub upto : at ≤ to + 1
  pub number : line ≤ at + 1
  pub stated : Stated src x
  pub reads : zero_lines entry line (lines (part src at to)) (said_of src x) ≡ zero_lines entry 1 (lines (part src from to)) said_nothing

module _ (src : Text) (entry from to : ℕ) where
  pub telling-start : from ≤ to → Telling src entry from to from (record { table = nowhere; columns = 0; protocol = nowhere }) 1
  unfolding said_of said_nothing
  telling-start h = record {
    upto = omega arith;
    number = omega arith;
    stated = record {
      meta_data = omega arith;
      protocol = omega arith;
      of_table = λ n. absurd (not-suc-le-zero n);
      of_protocol = λ n. absurd (not-suc-le-zero n);
    };
    reads =
        ap
        (λ (o : Option RuleMetaData). zero_lines entry 1 (lines (part src from to)) (record { of_table = o; of_protocol = protocol_at src nowhere }))
        (table-nowhere src nowhere refl)
        ∙ ap (λ (o : Option RuleProtocol). zero_lines entry 1 (lines (part src from to)) (record { of_table = None; of_protocol = o }))
        (protocol-nowhere src nowhere refl);
  }

  module _ (at : ℕ) (x : Said) (line : ℕ) (g : Telling src entry from to at x line) where
    -- ---- behind the last line

    ends : to ≤ at → read_zero (body_as entry from (part src from to)) ≡ ending entry (said_of src x)
    unfolding read_zero body_as zero_lines
    ends h =
        ap (λ (a : Answer RuleSaid). a >>= ending entry)
        (sym g.reads ∙ ap (λ (ls : List Bytes). zero_lines entry line ls (said_of src x)) (lines-part-none src at to h))

    pub telling-says : to ≤ at → (x.table.size ≡ 0 → ⊥)
        → ZeroIs src (read_zero (body_as entry from (part src from to)))
        (Ok (record { table = x.table; columns = x.columns; protocol = x.protocol; base = middle; live = 0 }))
    unfolding said_of state_of rows_of or_no_table
    telling-says h n =
        let q = (g.stated.of_table (omega arith)).says in (
          λ t.
              ends h
              ∙ ap (λ (o : Option RuleMetaData). ending entry (record { of_table = o; of_protocol = protocol_at src x.protocol })) q
              ∙ ap (λ (o : Option RuleMetaData). accepted (record { table = or_no_table o; in_force = or_unstated (protocol_at src x.protocol); live = [] }))
              (sym q),
          refl,
          λ limit t short fits room. carries-none
              (record { table = x.table; columns = x.columns; protocol = x.protocol; base = middle; live = 0 })
              refl short fits room
              g.stated.meta_data
              g.stated.of_table
              g.stated.protocol,
        )

    pub telling-none : to ≤ at → x.table.size ≡ 0 → ZeroIs src (read_zero (body_as entry from (part src from to))) (Err (MalformedLine entry 0))
    unfolding said_of numbered
    telling-none h e =
        ends h
        ∙ ap (λ (o : Option RuleMetaData). ending entry (record { of_table = o; of_protocol = protocol_at src x.protocol })) (table-nowhere src x.table e)

    -- ---- one line more, which ends at `end`

    module _ (end : ℕ) (h : at < to) (l : to ≤ length src) (y : EndsLine src at to end) where
      step : zero_lines entry 1 (lines (part src from to)) said_nothing
          ≡ zero_lines entry line (part src at end ∷ lines (part src (end + 1) to)) (said_of src x)
      step = sym g.reads ∙ ap (λ (ls : List Bytes). zero_lines entry line ls (said_of src x)) (ends-lines src at end to h l y)

      size : length (part src at end) ≡ end - at
      size = length_part src at end (omega (arith, y.within))

      next-number : (z : RuleSaid)
          → zero_lines entry (line + 1) (lines (part src (end + 1) to)) z ≡ zero_lines entry (suc line) (lines (part src (end + 1) to)) z
      next-number z = ap (λ (n : ℕ). zero_lines entry n (lines (part src (end + 1) to)) z) (add-one line)

      pub telling-empty : end ≤ at → Telling src entry from to (end + 1) x (line + 1)
      telling-empty n = record {
        upto = omega (arith, y.within);
        number = omega (arith, y.behind, g.number);
        stated = g.stated;
        reads = next-number (said_of src x)
            ∙ sym (step ∙ zero_lines-empty entry line (part src at end) (lines (part src (end + 1) to)) (said_of src x) (omega (arith, size)));
      }

      module _ (n : at < end) where
        -- what the rules give, by what this line says
        step-says : {a : Answer RuleSaid} → says entry line (part src at end) (said_of src x) ≡ a
            → zero_lines entry 1 (lines (part src from to)) said_nothing ≡ (a >>= (λ next. zero_lines entry (suc line) (lines (part src (end + 1) to)) next))
        step-says q =
            step ∙ zero_lines-says entry line (part src at end) (lines (part src (end + 1) to)) (said_of src x) (omega (arith, size))
            ∙ ap (λ (a : Answer RuleSaid). a >>= (λ next. zero_lines entry (suc line) (lines (part src (end + 1) to)) next)) q

        pub telling-next : (z : Said) → SayingIs src (says entry line (part src at end) (said_of src x)) (Ok z)
            → Telling src entry from to (end + 1) z (line + 1)
        telling-next z d = record {
          upto = omega (arith, y.within);
          number = omega (arith, y.behind, g.number);
          stated = d.1;
          reads = next-number (said_of src z) ∙ sym (step-says d.0);
        }

        pub telling-refused : (y : Refusal) → SayingIs src (says entry line (part src at end) (said_of src x)) (Err y)
            → ZeroIs src (read_zero (body_as entry from (part src from to))) (Err y)
        unfolding read_zero body_as
        telling-refused y d = ap (λ (a : Answer RuleSaid). a >>= ending entry) (step-says d)

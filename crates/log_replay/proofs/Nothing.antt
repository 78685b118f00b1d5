-- A state with nothing live: no row to be carried, and a line that is nowhere, which says nothing.
use mathlib.Core.Path.{◌≡◌, refl, sym, ap, ◌∙◌, subst}
use Rattle.std.specs.Prelude.{Option, None, Some}
use mathlib.Core.List.{List, []}
use Prim.Native.Nat.{ℕ, ◌+◌, ◌≤◌, ◌<◌}
use native.Mathlib.Nat.{not-suc-le-zero}
use native.Mathlib.Omega.{arith}
use lib.ListN.{length}
use Rattle.facts.specs.Lists.{All}
use Rattle.facts.specs.Rows.{rows_of}
use Rattle.facts.proofs.Parts.{part_none}
use Rattle.rules.specs.Json.Text.{Text}
use Rattle.rules.specs.Actions.{Protocol, MetaData as RuleMetaData, meta_data, action}
use Rattle.rules.specs.History.{no_table, or_unstated}
use Rattle.rules.specs.Starts.{nothing_live}
use Rattle.rules.proofs.Applying.{action-empty}
use Rattle.row_table.specs.Table.{Room}
use Rattle.row_live.specs.Live.{places}
use Rattle.log_replay.specs.declared.Span.{Span}
use Rattle.log_replay.specs.declared.State.{State}
use Rattle.field_containers.specs.Strung.{Listed}
use Rattle.line_actions.specs.Line.{ActionIs}
use Rattle.line_actions.specs.Asked.{protocol_in, meta_data_in}
use Rattle.line_actions.specs.declared.line.Tabled.{Tabled}
use Rattle.line_actions.specs.declared.line.Action.TheVariants.{MetaData}
use Rattle.log_replay.specs.Views.{Lies, line_at, table_at, protocol_at, or_no_table, state_of, Inside, TableSaid, Carries}
use Rattle.log_replay.specs.Answers.{Renewed}

-- ---- a line by its place, and no line

pub action-here : {src line : Text} {from : ℕ} → Lies src from line → action (line_at src (record { at = from; size = length line })) ≡ action line
unfolding line_at
action-here z = ap action z.same

action-nowhere : (src : Text) (sp : Span) → sp.size ≡ 0 → action (line_at src sp) ≡ None
unfolding line_at
action-nowhere src sp e = ap action (part_none src sp.at (sp.at + sp.size) (omega arith)) ∙ action-empty

pub table-nowhere : (src : Text) (sp : Span) → sp.size ≡ 0 → table_at src sp ≡ None
unfolding table_at meta_data_in
table-nowhere src sp e = ap meta_data_in (action-nowhere src sp e)

pub table_here : {src line : Text} {from : ℕ} {m : RuleMetaData} → Lies src from line → action line ≡ Some (meta_data m)
    → table_at src (record { at = from; size = length line }) ≡ Some m
unfolding table_at meta_data_in
table_here z q = ap meta_data_in (action-here z ∙ q)

pub table-there : {src line : Text} {from : ℕ} {r : Tabled} → Lies src from line → ActionIs (action line) line (Some (MetaData r))
    → TableSaid src (record { at = from; size = length line }) r.columns
unfolding line_at
table-there {r = r} z q = record {
  table = q.0;
  says = table_here z q.1;
  within = subst (λ (l : Text). r.columns ≤ length l) (sym z.same) q.2.within;
  listed = subst (λ (l : Text). Listed l r.columns q.0.partition_columns) (sym z.same) q.2.columns;
}

pub protocol-nowhere : (src : Text) (sp : Span) → sp.size ≡ 0 → protocol_at src sp ≡ None
unfolding protocol_at protocol_in
protocol-nowhere src sp e = ap protocol_in (action-nowhere src sp e)

-- ---- nothing live

abbrev pub nowhere : Span
nowhere = record { at = 0; size = 0 }

pub carries-none : {src : Text} {limit : ℕ} {t : List ℕ} (st : State) → st.live ≡ 0 → length src < places → st.base ≤ limit → Room limit t
    → Inside src st.table → (0 < st.table.size → TableSaid src st.table st.columns) → Inside src st.protocol
    → Carries src limit st t
unfolding rows_of All
carries-none {src} {limit} {t} st e short fits room m told p = record {
  short = short;
  room = room;
  few = omega arith;
  table = rw e (record { room = omega arith; spelled = tt; ascends = tt });
  stands = rw e tt;
  meta_data = m;
  told = told;
  protocol = p;
}

pub nothing-renewed : (z : State) → Renewed z (record { table = nowhere; columns = 0; protocol = nowhere; base = z.base; live = 0 })
unfolding state_of nothing_live rows_of or_no_table or_unstated
nothing-renewed z = (
  λ src t.
      ap (λ (o : Option RuleMetaData). record { table = or_no_table o; in_force = or_unstated (protocol_at src nowhere); live = [] })
      (table-nowhere src nowhere refl)
      ∙ ap (λ (o : Option Protocol). record { table = no_table; in_force = or_unstated o; live = [] }) (protocol-nowhere src nowhere refl),
  λ src limit t w. carries-none
      (record { table = nowhere; columns = 0; protocol = nowhere; base = z.base; live = 0 })
      refl
      w.short
      (omega (arith, w.few))
      w.room
      (omega arith)
      (λ n. absurd (not-suc-le-zero n))
      (omega arith),
)

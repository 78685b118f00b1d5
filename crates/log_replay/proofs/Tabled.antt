-- The metadata of what is carried: where there is a line, it says an id.
use mathlib.Core.Path.{◌≡◌, sym, ap, subst}
use Rattle.std.specs.Prelude.{Option, None, Some}
use mathlib.Core.List.{List}
use Prim.Native.Nat.{ℕ, ◌<◌}
use Rattle.rules.specs.Json.Text.{Text}
use Rattle.rules.specs.Actions.{MetaData, Action, add, remove, protocol, meta_data, mergeskip, other, action}
use Rattle.rules.proofs.Tests.{apart}
use Rattle.rules.proofs.Json.Suffix.{some_same}
use Rattle.rules.proofs.Tabled.{HasId, action-id}
use Rattle.line_actions.specs.Asked.{meta_data_in}
use Rattle.log_replay.specs.declared.State.{State}
use Rattle.log_replay.specs.Views.{line_at, table_at, or_no_table, state_of, Carries}

said : (o : Option Action) (m : MetaData) → meta_data_in o ≡ Some m → o ≡ Some (meta_data m)
unfolding meta_data_in
said None m e = apart (cc)
said (Some (add f)) m e = apart (cc)
said (Some (remove p)) m e = apart (cc)
said (Some (protocol p)) m e = apart (cc)
said (Some (meta_data n)) m e = ap (λ (x : MetaData). Some (meta_data x)) (some_same e)
said (Some (mergeskip p k)) m e = apart (cc)
said (Some other) m e = apart (cc)

pub carries-id : {src : Text} {limit : ℕ} {st : State} {t : List ℕ} → Carries src limit st t → 0 < st.table.size → HasId (state_of src st t).table
unfolding state_of or_no_table table_at
carries-id {src} {st = st} c told =
    let r = c.told told in
    subst HasId (sym (ap or_no_table r.says)) (action-id (line_at src st.table) r.table (said (action (line_at src st.table)) r.table r.says))

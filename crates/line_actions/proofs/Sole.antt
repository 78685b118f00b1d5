-- A line says one thing: where its action is no add, no protocol or no metaData, it says none; and where it is an add, it says that.
use mathlib.Core.Path.{◌≡◌, refl, sym, ap, ◌∙◌, subst}
use Rattle.std.specs.Prelude.{Option, None, Some, false, true}
use Rattle.rules.specs.Actions.{Facts, Action as RuleAction, add}
use Rattle.rules.specs.Json.Text.{Text}
use Rattle.rules.proofs.Tests.{apart}
use Rattle.line_actions.specs.Asked.{add_in, protocol_in, meta_data_in, spoken_is}
use Rattle.line_actions.specs.Line.{ActionIs}
use Rattle.line_actions.specs.declared.line.Added.{Added}
use Rattle.line_actions.specs.declared.line.Stated.{Stated}
use Rattle.line_actions.specs.declared.line.Tabled.{Tabled}
use Rattle.line_actions.specs.declared.line.Action.{Action}
use Rattle.line_actions.specs.declared.line.Action.TheVariants.{Add, Remove, Protocol, MetaData, Mergeskip, Other}

pub add-not-none : {P : Type 0} (o : Option RuleAction) {f : Facts} → o ≡ Some (add f) → add_in o ≡ None → P
unfolding add_in
add-not-none o {f} e h =
    let q : Some f ≡ None = sym (ap add_in e) ∙ h in
    apart (cc)

-- s says o, and the code answers an action of it
module _ (o : Option RuleAction) (s : Text) where
  pub no_add-here : (a : Action) → ActionIs o s (Some a) → ((x : Added) → a ≡ Add x → ⊥) → add_in o ≡ None
  unfolding add_in
  no_add-here (Add x) i n = absurd (n x refl)
  no_add-here (Remove p) i n = ap add_in i.0
  no_add-here (Protocol r) i n = ap add_in i.1
  no_add-here (MetaData r) i n = ap add_in i.1
  no_add-here (Mergeskip k) i n = ap add_in i.says
  no_add-here Other i n = ap add_in i

  pub no_protocol-here : (a : Action) → ActionIs o s (Some a) → ((x : Stated) → a ≡ Protocol x → ⊥) → protocol_in o ≡ None
  unfolding protocol_in
  no_protocol-here (Add x) i n = ap protocol_in i.1
  no_protocol-here (Remove p) i n = ap protocol_in i.0
  no_protocol-here (Protocol r) i n = absurd (n r refl)
  no_protocol-here (MetaData r) i n = ap protocol_in i.1
  no_protocol-here (Mergeskip k) i n = ap protocol_in i.says
  no_protocol-here Other i n = ap protocol_in i

  pub no_table-here : (a : Action) → ActionIs o s (Some a) → ((x : Tabled) → a ≡ MetaData x → ⊥) → meta_data_in o ≡ None
  unfolding meta_data_in
  no_table-here (Add x) i n = ap meta_data_in i.1
  no_table-here (Remove p) i n = ap meta_data_in i.0
  no_table-here (Protocol r) i n = ap meta_data_in i.1
  no_table-here (MetaData r) i n = absurd (n r refl)
  no_table-here (Mergeskip k) i n = ap meta_data_in i.says
  no_table-here Other i n = ap meta_data_in i

  pub spoken-else : (a : Action) → ActionIs o s (Some a) → ((x : Tabled) → a ≡ MetaData x → ⊥) → Some false ≡ spoken_is o
  unfolding spoken_is
  spoken-else (Add x) i n = sym (ap spoken_is i.1)
  spoken-else (Remove p) i n = sym (ap spoken_is i.0)
  spoken-else (Protocol r) i n = sym (ap spoken_is i.1)
  spoken-else (MetaData r) i n = absurd (n r refl)
  spoken-else (Mergeskip k) i n = sym (ap spoken_is i.says)
  spoken-else Other i n = sym (ap spoken_is i)

  pub spoken-table : (a : Action) {r : Tabled} → ActionIs o s (Some a) → a ≡ MetaData r → Some true ≡ spoken_is o
  unfolding spoken_is
  spoken-table a i e = sym (ap spoken_is (subst (λ (a : Action). ActionIs o s (Some a)) e i).1)

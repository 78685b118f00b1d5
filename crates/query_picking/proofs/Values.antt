-- One condition on the value of its column, by the member of partition values that has the column's name.
use mathlib.Core.Path.{◌≡◌, refl, sym, ap, ◌∙◌}
use Rattle.std.specs.Prelude.{Option, None, Some}
use mathlib.Core.List.{List}
use Rattle.rules.specs.Bytes.{Bytes, ◌>>=◌}
use Rattle.rules.specs.Json.Text.{Text}
use Rattle.rules.specs.Json.Values.{Member}
use Rattle.rules.specs.Json.Fields.{string_of, string_or_null}
use Rattle.rules.specs.Actions.{Pairs, pairs}
use Rattle.rules.specs.Picking.{value_at, meets_value, meets_as, out_of, out_of_as}
use Rattle.rules.specs.Query.{Condition}
use Rattle.rules.proofs.Json.Fields.{string_or_null-text, string_or_null-no-string}
use Rattle.rules.proofs.Json.Suffix.{answered-none}
use Rattle.field_objects.specs.Lookup.{lookup}
use Rattle.field_containers.proofs.Pairs.{value_at-lookup}
use Rattle.query_comparisons.specs.Judging.{judged_is}
use Rattle.std.specs.Prelude.{Result, Bool, false, Ok}
use Rattle.query_comparisons.specs.declared.OutOfRange.{OutOfRange}

module _ (c : Condition) (ms : List Member) {ps : Pairs} (e : pairs ms ≡ Some ps) where
  -- what it says of a value
  says : Option (Option Bytes) → Result Bool OutOfRange
  says v = judged_is (out_of c v) (meets_value c v)

  pub says-missing : lookup c.column ms ≡ None → (Ok false) ≡ judged_is (out_of c (value_at c.column ps)) (meets_value c (value_at c.column ps))
  unfolding says out_of meets_value judged_is
  says-missing f = sym (ap says (value_at-lookup c.column ms e ∙ ap (λ o. o >>= string_or_null) f))

  module _ (v : Text) (f : lookup c.column ms ≡ Some v) where
    found : value_at c.column ps ≡ string_or_null v
    found = value_at-lookup c.column ms e ∙ ap (λ o. o >>= string_or_null) f

    pub says-string : {x : Bytes} → string_of v ≡ Some x
        → judged_is (out_of_as c.kind x) (meets_as c.kind c.op x c.bound)
        ≡ judged_is (out_of c (value_at c.column ps)) (meets_value c (value_at c.column ps))
    unfolding says out_of meets_value
    says-string g = sym (ap says (found ∙ string_or_null-text v g))

    pub says-null : string_of v ≡ None → (Ok false) ≡ judged_is (out_of c (value_at c.column ps)) (meets_value c (value_at c.column ps))
    unfolding out_of meets_value judged_is
    says-null g = go (value_at c.column ps) refl
      where
        go : (o : Option (Option Bytes)) → value_at c.column ps ≡ o → (Ok false) ≡ judged_is (out_of c o) (meets_value c o)
        go None h = refl
        go (Some None) h = refl
        go (Some (Some x)) h = answered-none (sym (string_or_null-no-string v (sym found ∙ h) g)) refl

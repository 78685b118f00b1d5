-- A well-formed add: its line's member, the object under it, and the path among the fields.
use mathlib.Core.Path.{◌≡◌, ◌∙◌, ap}
use Rattle.std.specs.Prelude.{Option, Some}
use mathlib.Core.List.{List}
use lib.ListN.{length}
use Rattle.rules.specs.Bytes.{Bytes, guard, among}
use Rattle.rules.specs.Json.Text.{Text}
use Rattle.rules.specs.Json.Values.{Member, object_of}
use Rattle.rules.specs.Json.Numbers.{whole}
use Rattle.rules.specs.Json.Fields.{once, optional, if_there, string_of, bool_of, string_at, whole_at}
use Rattle.rules.specs.Actions.{in_action, Facts, path_at, partition_values_at, add_of, protocol_of, meta_data_of, skip_of}
use Rattle.rules.specs.Actions.{Key, key_add, key_remove, key_protocol, key_meta_data, key_mergeskip, key_other, key_of}
use Rattle.rules.specs.Actions.{Action, add, action_by, line_member, action}
use Rattle.rules.proofs.Tests.{apart}
use Rattle.rules.proofs.Json.Suffix.{some_same, bound}

add_same : {f g : Facts} → ◌≡◌ {A = Option Action} (Some (add f)) (Some (add g)) → f ≡ g
add_same e = cc

pub add_of-path : (ms : List Member) (f : Facts) → add_of ms ≡ Some f → path_at ms ≡ Some f.path
unfolding add_of
add_of-path ms f e =
    bound (path_at ms) _ e (λ p a b.
    bound (whole_at "size" ms) _ b (λ n _ c.
    bound (whole_at "modificationTime" ms) _ c (λ t _ d.
    bound (once "dataChange" ms) _ d (λ v _ g.
    bound (bool_of v) _ g (λ _ _ h.
    bound (partition_values_at ms) _ h (λ ps _ i.
    bound (optional "numRecords" ms) _ i (λ r _ j.
    bound (if_there whole r) _ j (λ q _ k. a ∙ ap (λ (x : Facts). Some x.path) (some_same k)))))))))

pub path_at-once : (ms : List Member) (p : Bytes) → path_at ms ≡ Some p → (v : Text) × (once "path" ms ≡ Some v) × (string_of v ≡ Some p)
unfolding path_at string_at
path_at-once ms p e =
    bound (string_at "path" ms) _ e (λ x a b.
    bound (once "path" ms) _ a (λ v c d.
    bound (guard (among 1 512 (length x))) _ b (λ _ _ g. (v, c, d ∙ g))))

-- only an add's key makes an add
pub action_by-add : (k : Key) (v : Text) (f : Facts) → action_by k v ≡ Some (add f)
    → (ms : List Member) × (object_of in_action v ≡ Some ms) × (add_of ms ≡ Some f)
unfolding action_by
action_by-add key_add v f h = bound (object_of in_action v) _ h (λ ms a b. bound (add_of ms) _ b (λ g c d. (ms, a, c ∙ ap Some (add_same d))))
action_by-add key_remove v f h = bound (object_of in_action v) _ h (λ ms a b. bound (path_at ms) _ b (λ p c d. apart (cc)))
action_by-add key_protocol v f h = bound (object_of in_action v) _ h (λ ms a b. bound (protocol_of ms) _ b (λ p c d. apart (cc)))
action_by-add key_meta_data v f h = bound (object_of in_action v) _ h (λ ms a b. bound (meta_data_of ms) _ b (λ m c d. apart (cc)))
action_by-add key_mergeskip v f h =
    bound (object_of in_action v) _ h (λ ms a b. bound (path_at ms) _ b (λ p c d. bound (skip_of ms) _ d (λ s g i. apart (cc))))
action_by-add key_other v f h = apart (cc)

pub action-add : (line : Text) (f : Facts) → action line ≡ Some (add f)
    → (m : Member) × (line_member line ≡ Some m) × ((ms : List Member) × (object_of in_action m.1 ≡ Some ms) × (add_of ms ≡ Some f))
unfolding action
action-add line f e = bound (line_member line) _ e (λ m a b. (m, a, action_by-add (key_of m.0) m.1 f b))

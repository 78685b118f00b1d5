-- A condition where its object stands: what the rules say of it by the slots of a scan.
use mathlib.Core.Path.{◌≡◌, sym, ap, ◌∙◌}
use mathlib.Core.Bool.{true, false, ◌&&◌}
use Rattle.std.specs.Prelude.{Option, None, Some}
use mathlib.Core.List.{List}
use native.Mathlib.Omega.{arith}
use lib.Dec.{eqb}
use lib.ListN.{length, get_or}
use Rattle.rules.specs.Bytes.{ascii, firsts, ◌>>=◌}
use Rattle.rules.specs.Actions.{in_action}
use Rattle.rules.specs.Json.Text.{Text, byte}
use Rattle.rules.specs.Json.Values.{Member, contents, value}
use Rattle.rules.specs.Json.Fields.{string_at}
use Rattle.rules.specs.Query.{Condition as RuleCondition, stands, condition_in}
use Rattle.rules.proofs.Tests.{by, and_left, and_right}
use Rattle.field_names.specs.Kinds.{names_of}
use Rattle.field_objects.specs.Slots.{missing, Each}
use Rattle.field_names.specs.declared.kinds.Kind.TheVariants.{Condition}
use Rattle.field_objects.specs.declared.notes.Slot.{Slot}
use Rattle.field_scalars.specs.Inside.{string_in}
use Rattle.field_scalars.proofs.Stated.{field-string}
use Rattle.query_conditions.specs.Members.{ordered}
use Rattle.query_conditions.specs.Conditions.{condition_from, condition_by, condition_read}

-- ---- the members

module _ (ms : List Member) where
  unordered : ordered ms ≡ false → condition_in ms ≡ None
  unfolding condition_in ordered
  unordered e = by (eqb (length ms) 4)
      (λ f.
      let late : stands (ascii "as") (ascii "value") (firsts ms) ≡ false = sym (ap (λ b. b && stands (ascii "as") (ascii "value") (firsts ms)) f) ∙ e in
      rw (condition_in, f, late))
      (λ f. rw (condition_in, f))

  in-ordered : ordered ms ≡ true → condition_in ms ≡ condition_by (string_at "column" ms) (string_at "as" ms) (string_at "op" ms) (string_at "value" ms)
  unfolding condition_in ordered condition_by condition_from
  in-ordered e =
      rw (
        condition_in,
        and_left (eqb (length ms) 4) (stands (ascii "as") (ascii "value") (firsts ms)) e,
        and_right (eqb (length ms) 4) (stands (ascii "as") (ascii "value") (firsts ms)) e,
      )

in-slots : (s : Text) (ms : List Member) (slots : List Slot) → Each s (names_of Condition) ms slots
    → condition_by (string_at "column" ms) (string_at "as" ms) (string_at "op" ms) (string_at "value" ms)
    ≡ condition_by (string_in s (get_or slots 0 missing)) (string_in s (get_or slots 1 missing)) (string_in s (get_or slots 2 missing))
    (string_in s (get_or slots 3 missing))
unfolding names_of
in-slots s ms slots each =
    let a = field-string s (get_or slots 0 missing) "column" ms (each 0 (omega arith)) in
    let b = field-string s (get_or slots 1 missing) "as" ms (each 1 (omega arith)) in
    let c = field-string s (get_or slots 2 missing) "op" ms (each 2 (omega arith)) in
    let d = field-string s (get_or slots 3 missing) "value" ms (each 3 (omega arith)) in
    rw (a, b, c, d)

-- ---- the object

pub read-no-brace : (t : Text) → byte 0x7B t ≡ None → condition_read t ≡ None
unfolding condition_read
read-no-brace t e = rw (condition_read, e)

module _ (t : Text) {r : Text} (b : byte 0x7B t ≡ Some r) where
  pub read-no-object : contents (value in_action) r ≡ None → condition_read t ≡ None
  unfolding condition_read
  read-no-object e = rw (condition_read, b, e)

  module _ (ms : List Member) {u : Text} (all : contents (value in_action) r ≡ Some (ms, u)) where
    read-members : condition_read t ≡ (condition_in ms >>= (λ c. Some (c, u)))
    unfolding condition_read
    read-members = rw (condition_read, b, all)

    pub read-unordered : ordered ms ≡ false → condition_read t ≡ None
    read-unordered e = read-members ∙ ap (λ (o : Option RuleCondition). o >>= (λ c. Some (c, u))) (unordered ms e)

    pub read-ordered : (s : Text) (slots : List Slot) → ordered ms ≡ true → Each s (names_of Condition) ms slots → condition_read t
        ≡ (condition_by (string_in s (get_or slots 0 missing)) (string_in s (get_or slots 1 missing)) (string_in s (get_or slots 2 missing))
        (string_in s (get_or slots 3 missing)) >>= (λ c. Some (c, u)))
    read-ordered s slots e each = read-members ∙ ap (λ (o : Option RuleCondition). o >>= (λ c. Some (c, u))) (in-ordered ms e ∙ in-slots s ms slots each)

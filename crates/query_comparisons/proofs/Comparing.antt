-- Values against a condition's own: what the orders and the numerals of the code say by the rules.
use mathlib.Core.Path.{◌≡◌, refl, sym, ap, subst, ◌∙◌}
use mathlib.Core.Bool.{true, false}
use Rattle.rules.specs.Bytes.{Bytes, Order as RuleOrder, order}
use Rattle.rules.specs.Query.{Number as RuleNumber, number, out_of_range, not_number, number_of, is_out_of_range, As, as_text, as_number, Op}
use Rattle.rules.specs.Picking.{meets, order_of_numbers, meets_number, meets_as, out_of_as}
use Rattle.rules.specs.Manifests.{outside, outside_numbers, outside_as}
use Rattle.bytes_values.specs.Answers.{order_is, order_of}
use Rattle.query_numbers.specs.Answers.{signed_is, numeral_is}
use Rattle.std.specs.Prelude.{Result, Bool, Ok, Err}
use Rattle.std.specs.declared.cmp.Ordering.{Ordering}
use Rattle.query_numbers.specs.declared.NoNumber.{NoNumber}
use Rattle.query_comparisons.specs.declared.OutOfRange.{OutOfRange}
use Rattle.query_numbers.specs.declared.Signed.{Signed}
use Rattle.bytes_values.proofs.Back.{order-back}
use Rattle.query_numbers.proofs.Back.{signed_back}
use Rattle.query_conditions.specs.Words.{as_is}
use Rattle.query_conditions.specs.declared.words.As.{As as Kind}
use Rattle.query_comparisons.specs.Between.{outside_by, outside_numerals}
use Rattle.query_comparisons.specs.Judging.{judged_is}

-- ---- one value

-- in range
in-range : (met : Bool) → (Ok met) ≡ judged_is false met
unfolding judged_is
in-range true = refl
in-range false = refl

module _ (op : Op) (v b : Bytes) where
  -- what is to be answered of it
  abbrev pub Answered : As → Result Bool OutOfRange → Type 0
  Answered kind r = r ≡ judged_is (out_of_as kind v) (meets_as kind op v b)

  -- by the condition's kind
  pub kind-judged : {k k' : Kind} {r : (Result Bool OutOfRange)} → k ≡ k' → Answered (as_is k') r → Answered (as_is k) r
  kind-judged {r = r} e a = subst (λ (x : Kind). Answered (as_is x) r) (sym e) a

  pub text-judged : {o : Ordering} → o ≡ order_is (order v b) → Answered as_text (Ok (meets op (order_of o)))
  unfolding out_of_as meets_as
  text-judged {o} e = in-range (meets op (order_of o)) ∙ ap (λ (x : RuleOrder). judged_is false (meets op x)) (ap order_of e ∙ order-back (order v b))

  pub number-judged : (m n : Signed) {o : Ordering} → number_of v ≡ number (signed_is m) → number_of b ≡ number (signed_is n)
      → o ≡ order_is (order_of_numbers (signed_is m) (signed_is n))
      → Answered as_number (Ok (meets op (order_of o)))
  unfolding out_of_as is_out_of_range meets_as meets_number
  number-judged m n {o} e f g =
      let x : order_of o ≡ order_of_numbers (signed_is m) (signed_is n) = ap order_of g ∙ order-back (order_of_numbers (signed_is m) (signed_is n)) in
      in-range (meets op (order_of o)) ∙ rw (e, f, x)

  pub out-judged : number_of v ≡ out_of_range → Answered as_number (Err (record {}))
  unfolding out_of_as is_out_of_range judged_is
  out-judged e = rw e

  pub not-judged : number_of v ≡ not_number → Answered as_number (Ok false)
  unfolding out_of_as is_out_of_range meets_as meets_number judged_is
  not-judged e = rw e

-- ---- two bounds

pub outside-orders : (op : Op) (x y z : RuleOrder) {a b c : Ordering} → a ≡ order_is x → b ≡ order_is y → c ≡ order_is z
    → outside_by op (order_of a) (order_of b) (order_of c) ≡ outside_by op x y z
outside-orders op x y z {a} {b} {c} e f g =
    let p : order_of a ≡ x = ap order_of e ∙ order-back x in
    let q : order_of b ≡ y = ap order_of f ∙ order-back y in
    let r : order_of c ≡ z = ap order_of g ∙ order-back z in
    rw (p, q, r)

numerals-outside : (op : Op) (n : Signed) (x y : RuleNumber) → outside_numerals op n (numeral_is x) (numeral_is y)
    ≡ outside_numbers op (number (signed_is n)) x y
unfolding outside_numerals numeral_is outside_numbers
numerals-outside op n (number x) (number y) = rw (signed_back x, signed_back y)
numerals-outside op n (number x) out_of_range = refl
numerals-outside op n (number x) not_number = refl
numerals-outside op n out_of_range y = refl
numerals-outside op n not_number y = refl

pub outside-numerals : (op : Op) (b lo hi : Bytes) (n : Signed) {x y : (Result Signed NoNumber)} → number_of b ≡ number (signed_is n)
    → x ≡ numeral_is (number_of lo)
    → y ≡ numeral_is (number_of hi)
    → outside_numerals op n x y ≡ outside_as as_number op b lo hi
unfolding outside_as
outside-numerals op b lo hi n {x} {y} e f g = rw (f, g, e) (numerals-outside op n (number_of lo) (number_of hi))

pub outside-signed : (op : Op) (n lo hi : Signed) {a b c : Ordering} → a ≡ order_is (order_of_numbers (signed_is lo) (signed_is hi))
    → b ≡ order_is (order_of_numbers (signed_is lo) (signed_is n))
    → c ≡ order_is (order_of_numbers (signed_is hi) (signed_is n))
    → outside_by op (order_of a) (order_of b) (order_of c) ≡ outside order_of_numbers op (signed_is n) (signed_is lo) (signed_is hi)
unfolding outside outside_by
outside-signed op n lo hi e f g =
    outside-orders op (order_of_numbers (signed_is lo) (signed_is hi)) (order_of_numbers (signed_is lo) (signed_is n))
    (order_of_numbers (signed_is hi) (signed_is n)) e f g

pub ruleset signed = (outside-signed)

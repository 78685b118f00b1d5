-- `read_known` meets its contract. A name of the kind before a quote, or what a name that is read says.
use mathlib.Core.Path.{ap}
use Rattle.std.specs.Prelude.{Option}
use native.Mathlib.Omega.{arith}
use Rattle.rules.specs.Bytes.{◌>>=◌}
use Rattle.rules.specs.Json.Text.{Text}
use Rattle.rules.specs.Json.Strings.{string}
use Rattle.field_names.proofs.Quotes.{name-stands}
use Rattle.field_names.proofs.places.read_known.Goals as goal

pub returns-in_err-i : goal.returns-in_err-i
returns-in_err-i c = rw c.from_residual.ensures (ap (λ (o : Option Text). o >>= string) c.in_err-i.ensures)

pub size_at-size-requires : goal.size_at-size-requires
size_at-size-requires c = let q = c.in_ok-i.ensures in q.2

pub overflow_add-last : goal.overflow_add-last
overflow_add-last c = omega (arith, (c.size_at-size.ensures c.if-size-gt0.true).0)

pub slice_bounds-place_of-count : goal.slice_bounds-place_of-count
slice_bounds-place_of-count c = omega arith

pub slice_bounds-place_of-start : goal.slice_bounds-place_of-start
slice_bounds-place_of-start c = omega arith

pub slice_bounds-place_of-end : goal.slice_bounds-place_of-end
slice_bounds-place_of-end c = omega (arith, (c.size_at-size.ensures c.if-size-gt0.true).0)

pub overflow_add-result : goal.overflow_add-result
overflow_add-result c = omega (arith, (c.size_at-size.ensures c.if-size-gt0.true).0)

pub returns-then-k-names_in : goal.returns-then-k-names_in
returns-then-k-names_in c =
    let q = c.in_ok-i.ensures in
    let size = c.size_at-size.ensures c.if-size-gt0.true in
    let (named, place) = name-stands c.args.s.now c.in_ok-i.i _ (omega arith) size.0 size.1 c.args.kind c.place_of-k.result c.place_of-k.ensures
    (omega (arith, c.if-k-names_in.true, c.names_in.ensures)) in
    (record { quote = q.0; from = q.1; named = named }, place)

pub returns-in_err-n : goal.returns-in_err-n
returns-in_err-n c = rw c.from_residual-in_err-n.ensures c.in_err-n.ensures

pub which-k-requires : goal.which-k-requires
which-k-requires c = c.in_ok-n.ensures.named

pub returns : goal.returns
returns c = (c.in_ok-n.ensures, c.which-k.ensures)

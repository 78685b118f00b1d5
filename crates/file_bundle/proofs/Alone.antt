-- A byte string is one bundle or none, and an entry of it is read in one way: the file's name and body fix how long they are.
use mathlib.Core.Path.{◌≡◌, refl, sym, ap, ◌∙◌}
use Rattle.std.specs.Prelude.{Option}
use mathlib.Core.List.{List}
use Prim.Native.Nat.{ℕ, ◌+◌, ◌*◌, ◌≤◌}
use native.Mathlib.Omega.{arith}
use lib.ListN.{length}
use Rattle.facts.specs.Parts.{part}
use Rattle.facts.proofs.Parts.{length_part}
use Rattle.rules.specs.Bytes.{Bytes}
use Rattle.rules.specs.Bundle.{File}
use Rattle.rules.proofs.Json.Suffix.{some_same, answered-none}
use Rattle.file_bundle.specs.Answers.{OpenedAs, EntryIs}
use Rattle.file_bundle.specs.declared.Entry.{Entry}
use Rattle.std.specs.Prelude.{Some, None}

pub opened-alone : (o : Option (List File)) (r q : Option ℕ) → OpenedAs o r → OpenedAs o q → r ≡ q
opened-alone o (Some n) (Some m) h k = ap Some (sym h.2 ∙ ap length (some_same (sym h.1 ∙ k.1)) ∙ k.2)
opened-alone o (Some n) None h k = answered-none h.1 k
opened-alone o None (Some m) h k = answered-none k.1 h
opened-alone o None None h k = refl

-- parts from one place on that are the same bytes are equally long
part-alone : (s : Bytes) (a n m : ℕ) → a + n ≤ length s → a + m ≤ length s → part s a (a + n) ≡ part s a (a + m) → n ≡ m
part-alone s a n m h k e = omega (arith, length_part s a (a + n) h, length_part s a (a + m) k, ap length e)

pub entry-alone : (s : Bytes) (f : File) (k : ℕ) (r q : Entry) → EntryIs s f k r → EntryIs s f k q → r ≡ q
entry-alone s f k r q h g =
    let name : r.name ≡ q.name = part-alone s (4 + 112 * k) r.name q.name
    (omega (arith, h.contents, h.short)) (omega (arith, g.contents, g.short)) (h.name ∙ sym g.name) in
    let start : r.start ≡ q.start = h.start ∙ sym g.start in
    let bodies : part s r.start (r.start + r.size) ≡ part s r.start (r.start + q.size) =
    h.body ∙ sym g.body ∙ ap (λ (a : ℕ). part s a (a + q.size)) (sym start) in
    let size : r.size ≡ q.size = part-alone s r.start r.size q.size h.inside (omega (arith, g.inside, start)) bodies in
    let time : r.time.0 ≡ q.time.0 = h.time ∙ sym g.time in
    ap (λ (n : ℕ). record { name = n; start = r.start; size = r.size; time = r.time }) name
    ∙ ap (λ (n : ℕ). record { name = q.name; start = n; size = r.size; time = r.time }) start
    ∙ ap (λ (n : ℕ). record { name = q.name; start = q.start; size = n; time = r.time }) size
    ∙ ap (λ (n : ℕ). record { name = q.name; start = q.start; size = q.size; time = record { 0 = n } }) time

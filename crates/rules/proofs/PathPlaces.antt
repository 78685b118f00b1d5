-- The bytes at the path's place are the path shown.
use mathlib.Core.Path.{◌≡◌, refl, sym, ◌∙◌, ap}
use mathlib.Core.Bool.{Bool, true, false}
use Rattle.std.specs.Prelude.{Option, None, Some}
use mathlib.Core.List.{List, [], ◌∷◌, ◌++◌, append_assoc}
use Prim.Native.Nat.{ℕ, ◌+◌, ◌-◌, ◌≤◌}
use native.Mathlib.Omega.{arith}
use borrow.Author.Tests.{eqb-true, eqb-false}
use lib.Dec.{eqb}
use lib.ListN.{length, take, drop, length-append, take-append-drop}
use lib.Seq.{take_at}
use Rattle.rules.specs.Bytes.{Bytes, ascii, first}
use Rattle.rules.specs.Json.Text.{Text, spelled, is_ws, ws, byte}
use Rattle.rules.specs.Json.Values.{Member, contents, value, object_of, members_left}
use Rattle.rules.specs.Json.Fields.{once, string_of, unquoted}
use Rattle.rules.specs.Actions.{in_line, in_action, Facts, only_one, line_member, is_line, or_nothing}
use Rattle.rules.specs.Actions.{Action, add, remove, protocol, meta_data, mergeskip, other, action}
use Rattle.rules.specs.Actions.{path_written, path_in, path_shown, path_left, start_of, start_in, path_start, path_place}
use Rattle.rules.specs.Actions.{no_add, records_of, records_in, records_shown}
use Rattle.rules.proofs.Tests.{apart, by}
use Rattle.rules.proofs.Json.Suffix.{some_same, bound, answered-none}
use Rattle.rules.proofs.Json.TextReads.{spelled-left}
use Rattle.rules.proofs.Json.Steps.{value-end}
use Rattle.rules.proofs.Json.InPlace.{value-text, object-text, object_of-other, string_of-other}
use Rattle.rules.proofs.Suffixes.{Suffix, suffix_trans, suffix-drop}
use Rattle.rules.proofs.Adds.{add_of-path, path_at-once, action-add}
use Rattle.rules.proofs.MemberPlaces.{Stands, contents-left, members_left-list, object_of-left, only_one-left, under_left, sole-left}

-- ---- the object and the string at a place

object-at : (x v : Text) (ms : List Member) (t : Text) → Stands (value in_line) t x v → object_of in_action x ≡ Some ms
    → (r : Text) × (u : Text) × (v ≡ 0x7B ∷ r) × (contents (value in_action) r ≡ Some (ms, u))
unfolding in_line in_action
object-at x [] ms t h e = answered-none (spelled-left (value in_line) [] h.text) (value-end in_line)
object-at x (b ∷ r) ms t h e = by (eqb b 0x7B)
    (λ p. let q : b ≡ 0x7B = eqb-true b 0x7B p in
    let (ns, f, g) = object-text in_action r x h.rest (sym (ap (λ (c : ℕ). spelled (value in_line) (c ∷ r)) q) ∙ h.text) in
    (r, h.rest, ap (λ (c : ℕ). c ∷ r) q, f ∙ ap (λ (xs : List Member). Some (xs, h.rest)) (some_same (sym g ∙ e))))
    (λ p. answered-none e (object_of-other in_action in_line b r x h.rest (eqb-false b 0x7B p) h.text))

string-at : (d : ℕ) (x v t : Text) {y : Bytes} → Stands (value d) t x v → string_of x ≡ Some y
    → (z : Text) × (behind : Text) × (v ≡ 0x22 ∷ z) × (z ≡ unquoted x ++ behind)
unfolding unquoted
string-at d x [] t h e = answered-none (spelled-left (value d) [] h.text) (value-end d)
string-at d x (b ∷ z) t h e = by (eqb b 0x22)
    (λ p. (z, drop n q ++ drop k z, ap (λ (c : ℕ). c ∷ z) (eqb-true b 0x22 p), sym split))
    (λ p. answered-none e (ap string_of text ∙ string_of-other b q (eqb-false b 0x22 p)))
  where
    k : ℕ
    k = length z - length h.rest

    q : Text
    q = take k z

    n : ℕ
    n = length x - 2

    text : x ≡ b ∷ q
    text = value-text d b z x h.rest h.text

    split : take n (drop 1 x) ++ (drop n q ++ drop k z) ≡ z
    split =
        ap (λ (w : Text). take n (drop 1 w) ++ (drop n q ++ drop k z)) text
        ∙ sym (append_assoc (take n q) (drop n q) (drop k z))
        ∙ ap (λ (w : Text). w ++ drop k z) (take-append-drop n q)
        ∙ take-append-drop k z

-- ---- the path of an add

-- what the line writes as its path begins what is left behind the opening quote
pub record Written (line : Text) : Type 0 where
  pub text : Text
  pub left : Text
  pub behind : Text
  pub written : path_written line ≡ Some text
  pub found : path_left line ≡ Some left
  pub begins : left ≡ text ++ behind
  pub suffix : Suffix left line

pub path_left-by : (line : Text) {ms fs : List Member} {m : Member} {v z : Text} → members_left in_line line ≡ Some ms → only_one ms ≡ Some m
    → members_left in_action m.1 ≡ Some fs → once "path" fs ≡ Some v → byte 0x22 v ≡ Some z → path_left line ≡ Some z
unfolding path_left
path_left-by line a b c d e = rw (path_left, a, b, c, d) e

pub brace-here : (v r : Text) → v ≡ 0x7B ∷ r → byte 0x7B (ws v) ≡ Some r
unfolding byte ws is_ws first
brace-here v r e = ap (λ (t : Text). byte 0x7B (ws t)) e

quote-here : (v z : Text) → v ≡ 0x22 ∷ z → byte 0x22 v ≡ Some z
unfolding byte
quote-here v z e = ap (byte 0x22) e

pub add-written : (line : Text) (f : Facts) → action line ≡ Some (add f) → Written line
unfolding action line_member path_written path_left once
add-written line f e =
    let (m, a, (ms, g, h)) = action-add line f e in
    let (x, i, j) = path_at-once ms f.path (add_of-path ms f h) in
    bound (object_of in_line line) _ a (λ ns c o.
    let (gs, k, ks) = object_of-left in_line line ns c in
    let (v, l, at-v) = only_one-left m ks o in
    let (r, u, p, q) = object-at m.1 v ms line at-v g in
    let (fs, w, each) = contents-left in_action r ms u q in
    let (n, d, at_n) = sole-left x (under_left (ascii "path") each) i in
    let (z, behind, s, t) = string-at in_action x n r at_n j in
    record {
      text = unquoted x;
      left = z;
      behind = behind;
      written = rw (path_written, a, g, i);
      found = path_left-by line {z = z} k l (members_left-list in_action v (brace-here v r p) w) d (quote-here n z s);
      begins = t;
      suffix = suffix_trans z n line (0x22 ∷ [], s) (suffix_trans n r line at_n.suffix (suffix_trans r v line (0x7B ∷ [], p) at-v.suffix));
    })

-- ---- its place

-- an add, or nothing
data Kind (line : Text) : Type 0 where
  adds : (f : Facts) (w : Written line) → path_start line ≡ length line - length w.left → path_shown line ≡ w.text
      → records_shown line ≡ records_of f.num_records → Kind line
  nothing : path_place line ≡ (0, 0) → path_shown line ≡ [] → Kind line

kind : (line : Text) → Kind line
unfolding path_place path_start start_in start_of path_shown path_in or_nothing records_shown records_in
kind line = go (is_line line) refl (action line) refl
  where
    none-by : path_start line ≡ 0 → path_shown line ≡ [] → Kind line
    none-by s p = nothing (ap (λ (n : ℕ). (n, length (path_shown line))) s ∙ ap (λ (t : Text). (0, length t)) p) p

    go : (b : Bool) → is_line line ≡ b → (a : Option Action) → action line ≡ a → Kind line
    go false l a e = none-by (rw (path_start, l)) (rw (path_shown, l))
    go true l None e = none-by (rw (path_start, l, e)) (rw (path_shown, l, e))
    go true l (Some (add f)) e =
        let w = add-written line f e in
        adds f w (rw (path_start, l, e, w.found)) (rw (path_shown, l, e, w.written)) (rw (records_shown, l, e))
    go true l (Some (remove p)) e = none-by (rw (path_start, l, e)) (rw (path_shown, l, e))
    go true l (Some (protocol p)) e = none-by (rw (path_start, l, e)) (rw (path_shown, l, e))
    go true l (Some (meta_data m)) e = none-by (rw (path_start, l, e)) (rw (path_shown, l, e))
    go true l (Some (mergeskip p s)) e = none-by (rw (path_start, l, e)) (rw (path_shown, l, e))
    go true l (Some other) e = none-by (rw (path_start, l, e)) (rw (path_shown, l, e))

pub place-shown : (line : Text) → take (path_place line).1 (drop (path_place line).0 line) ≡ path_shown line
unfolding path_place
place-shown line = go (kind line)
  where
    go : Kind line → take (length (path_shown line)) (drop (path_start line) line) ≡ path_shown line
    go (adds f w s p r) =
        ap (λ (n : ℕ). take (length (path_shown line)) (drop n line)) s
        ∙ ap (take (length (path_shown line))) (suffix-drop w.left line w.suffix ∙ w.begins)
        ∙ ap (λ (t : Text). take (length t) (w.text ++ w.behind)) p
        ∙ take_at w.text w.behind (length w.text) refl
        ∙ sym p
    go (nothing e p) = ap (λ (t : Text). take (length t) (drop (path_start line) line)) p ∙ sym p

pub place-within : (line : Text) → (path_place line).0 + (path_place line).1 ≤ length line
unfolding path_place
place-within line = go (kind line)
  where
    go : Kind line → path_start line + length (path_shown line) ≤ length line
    go (adds f w s p r) =
        let n : length line ≡ length w.suffix.0 + length w.left = ap length w.suffix.1 ∙ length-append w.suffix.0 w.left in
        let m : length w.left ≡ length w.text + length w.behind = ap length w.begins ∙ length-append w.text w.behind in
        let k : length (path_shown line) ≡ length w.text = ap length p in
        omega (arith, s)
    go (nothing e p) =
        let a : path_start line ≡ 0 = ap (λ (x : ℕ × ℕ). x.0) e in
        let b : length (path_shown line) ≡ 0 = ap length p in
        omega arith

pub place-nothing : (line : Text) → records_shown line ≡ no_add → path_place line ≡ (0, 0)
unfolding records_of
place-nothing line n = go (kind line)
  where
    stated : (o : Option ℕ) {P : Type 0} → records_of o ≡ no_add → P
    stated None e = apart (cc)
    stated (Some m) e = apart (cc)

    go : Kind line → path_place line ≡ (0, 0)
    go (adds f w s p r) = stated f.num_records (sym r ∙ n)
    go (nothing e p) = e

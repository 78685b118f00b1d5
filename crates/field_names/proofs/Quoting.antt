-- A name at positions of a text: what a string that was read says of it.
use mathlib.Core.Path.{◌≡◌, sym, ap, ◌∙◌}
use mathlib.Core.Bool.{true, false}
use Rattle.std.specs.Prelude.{Some}
use Prim.Native.Nat.{ℕ, ◌+◌, ◌-◌, ◌≤◌, ◌<◌}
use lib.ListN.{length, take, drop}
use Rattle.rules.specs.Bytes.{Bytes}
use Rattle.rules.specs.Json.Text.{Text, behind}
use Rattle.rules.specs.Json.Strings.{string}
use Rattle.rules.proofs.Tests.{apart}
use Rattle.rules.proofs.Json.Shadows.{behind-some}
use Rattle.json_strings.specs.Decoded.{decoded}
use Rattle.json_strings.proofs.Decoding.{decoded-some}
use Rattle.field_names.specs.Spelled.{name_in, Named}
use Rattle.field_names.specs.declared.keys.Spell.{Spell}

pub named-plain : (s : Text) (i e : ℕ) → string (drop i s) ≡ Some (take (e - 1 - i) (drop i s), drop e s) → i + 1 ≤ e → e ≤ length s
    → Named s (record { at = i; end = e; plain = true })
named-plain s i e f h k = record { closed = ap behind f; from = h; within = k; raw = λ _. decoded-some (drop i s) f; fewer = λ p. apart (cc) }

pub named-escaped : (s : Text) (i e : ℕ) → behind (string (drop i s)) ≡ Some (drop e s) → i + 1 ≤ e → e ≤ length s → length (decoded (drop i s)) < e - 1 - i
    → Named s (record { at = i; end = e; plain = false })
named-escaped s i e f h k l = record { closed = f; from = h; within = k; raw = λ p. apart (cc); fewer = λ _. l }

pub named-string : (s : Text) (n : Spell) → Named s n → string (drop n.at s) ≡ Some (name_in s n, drop n.end s)
named-string s n d =
    let (x, e) = behind-some (string (drop n.at s)) d.closed in
    e ∙ ap (λ (y : Bytes). Some (y, drop n.end s)) (sym (decoded-some (drop n.at s) e))

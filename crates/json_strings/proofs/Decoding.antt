-- The bytes of a string that was read.
use mathlib.Core.Path.{◌≡◌, ap}
use Rattle.std.specs.Prelude.{Some}
use Rattle.rules.specs.Bytes.{Bytes}
use Rattle.rules.specs.Json.Text.{Text}
use Rattle.rules.specs.Json.Strings.{string}
use Rattle.json_strings.specs.Decoded.{bytes_of, decoded}

pub decoded-some : (t : Text) {x : Bytes} {r : Text} → string t ≡ Some (x, r) → decoded t ≡ x
unfolding decoded bytes_of
decoded-some t e = ap bytes_of e

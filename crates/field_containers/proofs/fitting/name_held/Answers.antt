-- `name_held` meets its contract: a name is held where its value is found.
use mathlib.Core.Path.{◌≡◌, sym, ap, ◌∙◌}
use Prim.Native.Nat.{ℕ}
use Rattle.std.specs.Prelude.{Option, None, Some}
use Rattle.std.specs.Option.{is_some as is_found}
use Rattle.rules.specs.Bytes.{is_some, holds}
use Rattle.rules.specs.Json.Text.{Text}
use Rattle.json_strings.specs.Decoded.{decoded}
use Rattle.field_objects.specs.Lookup.{FoundIs}
use Rattle.field_containers.proofs.Pairs.{holds-lookup}
use lib.ListN.{drop}
use Rattle.field_containers.proofs.fitting.name_held.Goals as goal

found : (o : Option Text) (s : Text) (r : Option (ℕ × ℕ)) → FoundIs o s r → is_found r ≡ is_some o
unfolding is_some
found o s (Some (v, e)) f = sym (ap is_some f.0)
found o s None f = sym (ap is_some f)

pub returns : goal.returns
returns c =
    λ xs w. c.is_some.ensures ∙ found _ _ c.find_name.result (c.find_name.ensures (record { ms = w.ms; left = w.left; all = w.all }))
    ∙ sym (holds-lookup (decoded (drop c.args.j c.args.t.now)) w.ms) ∙ ap (holds (decoded (drop c.args.j c.args.t.now))) w.each

-- `is_json` meets its contract: the value, and nothing but white space behind it.
use mathlib.Core.Path.{sym, ap, ◌∙◌}
use Rattle.rules.specs.Bytes.{is_empty}
use Rattle.rules.specs.Json.Values.{value as rule_value}
use Rattle.json_values.proofs.Wholes.{json-none, json-some, nothing-left}
use Rattle.json_values.proofs.is_json.Goals as goal

pub returns-in_default : goal.returns-in_default
returns-in_default c = sym (json-none _ _ (ap (rule_value c.args.depth) c.skip_ws.ensures.left ∙ c.in_default.ensures))

pub returns : goal.returns
returns c =
    nothing-left c.args.s.now c.skip_ws-2.result c.skip_ws-2.ensures.within
    ∙ ap is_empty (sym c.skip_ws-2.ensures.left)
    ∙ sym (json-some _ _ (ap (rule_value c.args.depth) c.skip_ws.ensures.left ∙ c.in-Some.ensures.0))

-- `skip_string` meets its contract: what follows the plain bytes is the string's rest.
use Prim.Native.Nat.{ℕ, ◌+◌, ◌≤◌}
use lib.ListN.{length, drop}
use mathlib.Core.Path.{sym}
use native.Mathlib.Omega.{arith}
use Rattle.json_characters.proofs.Inside.{inside-start, inside-ended, inside-quote, inside-run, inside-rest}
use Rattle.rules.specs.Json.Text.{Text, behind}
use Rattle.rules.specs.Json.Strings.{string}
use Rattle.json_tokens.specs.Answers.{Answer}
use Rattle.std.specs.Prelude.{Option, None, Some}
use Rattle.json_characters.specs.Runs.{Run}
use Rattle.json_tokens.proofs.Anew.{anew, within-anew, answer-anew}
use Rattle.json_tokens.proofs.Places.{answer-from}
use Rattle.json_characters.proofs.strings.skip_string.Goals as goal

pub returns-then-s-i : goal.returns-then-s-i
returns-then-s-i c =
    inside-ended (inside-run (inside-start c.requires) (c.skip_plain-i.ensures.0, c.skip_plain-i.ensures.1, c.skip_plain-i.ensures.2)) c.if-s-i.true

pub returns-then-s-i-eq-QUOTE : goal.returns-then-s-i-eq-QUOTE
returns-then-s-i-eq-QUOTE c =
    let inside = inside-run (inside-start c.requires) (c.skip_plain-i.ensures.0, c.skip_plain-i.ensures.1, c.skip_plain-i.ensures.2) in
    (inside-quote inside c.if-s-i.false c.if-s-i-eq-QUOTE.true, omega (arith, c.skip_plain-i.ensures.0), omega arith)

pub skip_chars-requires : goal.skip_chars-requires
skip_chars-requires c =
    within-anew c.args.s.now _ c.skip_plain-i.ensures.1

-- what the characters behind the plain ones, which begin at i, answer, as the string does
rest-answer : (s : Text) (at i : ℕ) (r : Option ℕ) → at ≤ length s → Run s at i → Answer (behind (string (drop i (anew s)))) (anew s) (i + 1) r
    → Answer (behind (string (drop at s))) s (at + 1) r
rest-answer s at i r h p a =
    let e = answer-anew (λ t. behind (string t)) s i r a in
    let inside = inside-run (inside-start h) (p.0, p.1, p.2) in
    answer-from _ _ s _ _ r e (omega (arith, p.0)) (sym (inside-rest inside))

pub returns-in_err-j : goal.returns-in_err-j
returns-in_err-j c =
    rw c.from_residual.ensures
    (rest-answer c.args.s.now c.args.at _ None c.requires c.skip_plain-i.ensures c.in_err-j.ensures)

pub returns : goal.returns
returns c =
    rest-answer c.args.s.now c.args.at _ (Some c.in_ok-j.j) c.requires c.skip_plain-i.ensures c.in_ok-j.ensures

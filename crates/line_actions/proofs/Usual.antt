-- Lines that begin as most do, with the key of an add or a remove and no white space: by computing over the bytes that are there.
use mathlib.Core.Path.{◌≡◌, refl, sym, ap, ◌∙◌}
use mathlib.Core.Bool.{true}
use Rattle.std.specs.Prelude.{Option, None, Some}
use Rattle.std.specs.Option.{is_some}
use Rattle.std.proofs.lemmas.Bool.{false≢true}
use mathlib.Core.List.{◌∷◌, ◌++◌}
use Prim.Native.Nat.{ℕ, ◌+◌, ◌-◌, ◌≤◌}
use native.Mathlib.Omega.{arith}
use lib.ListN.{length, take, drop, get_or}
use Rattle.rules.specs.Bytes.{Bytes}
use Rattle.rules.specs.Json.Text.{Text, ws, byte, word}
use Rattle.rules.specs.Json.Values.{onward, opening, colon}
use Rattle.rules.proofs.Opened.{rules}
use Rattle.rules.proofs.Json.TextReads.{word-text}
use Rattle.json_tokens.specs.Answers.{Answer}
use Rattle.json_characters.specs.Runs.{Plains}
use Rattle.json_characters.proofs.Runs.{plains-joined, plains-one}
use Rattle.json_strings.proofs.Decoding.{decoded-some}
use Rattle.json_strings.specs.Scanned.{Scanned}
use Rattle.json_strings.specs.declared.spellings.Spelling.TheVariants.{Plain}
use Rattle.json_strings.proofs.Scanning.{Scanning, scanning-start, scanning-quote, scanning-run}
use Rattle.field_names.proofs.Quoting.{named-plain}
use Rattle.field_names.specs.Kinds.{names_of, seek}
use Rattle.field_names.specs.declared.kinds.Kind.TheVariants.{Line}
use Rattle.line_actions.specs.Begun.{Begun}
use Rattle.line_actions.proofs.Lines.{line-braced, line-begun}

-- a brace, a plain name in quotes up to the one at e, and a colon
begun : (s : Text) (e k : ℕ) → 2 ≤ e → e + 2 ≤ length s → byte 0x7B (ws s) ≡ Some (drop 1 s) → opening 0x7D (drop 1 s) ≡ onward (drop 1 s)
    → byte 0x22 (drop 1 s) ≡ Some (drop 2 s)
    → Plains s 2 e → get_or s e 0 ≡ 0x22 → colon (drop (e + 1) s) ≡ Some (drop (e + 2) s) → k ≡ seek (take (e - 2) (drop 2 s)) (names_of Line)
    → Begun s k (e + 2)
begun s e k low long brace first quote plain close after place =
    let run : Scanning s 2 e = scanning-run (scanning-start (omega arith)) (low, omega arith, plain) in
    let name : Scanned s 2 (Plain (e + 1)) = scanning-quote run (omega arith) close in
    let size : e - 2 ≡ e + 1 - 1 - 2 = omega arith in
    line-begun s 1 (line-braced s 1 brace 1 (omega arith) first)
    (record { at = 2; end = e + 1; plain = true })
    (record { quote = quote; from = omega arith; named = named-plain s 2 (e + 1) name.0 name.1 name.2 })
    (e + 2)
    after k long
    (place ∙ ap (λ (n : ℕ). seek (take n (drop 2 s)) (names_of Line)) size
    ∙ ap (λ (x : Bytes). seek x (names_of Line)) (sym (decoded-some (drop 2 s) name.0)))

-- `{"add":{`
abbrev add-line : Text → Text
add-line r = 0x7B ∷ 0x22 ∷ 0x61 ∷ 0x64 ∷ 0x64 ∷ 0x22 ∷ 0x3A ∷ 0x7B ∷ r

add-long : (r : Text) → 8 ≤ length (add-line r)
add-long r = omega arith

add-plain : (r : Text) → Plains (add-line r) 2 5
unfolding rules
add-plain r =
    plains-joined
    (add-line r)
    2 3 5
    (plains-one (add-line r) 2 refl)
    (plains-joined (add-line r) 3 4 5 (plains-one (add-line r) 3 refl) (plains-one (add-line r) 4 refl))

pub add-begun : (r : Text) → Begun (add-line r) 0 7
unfolding rules names_of seek
add-begun r = begun (add-line r) 5 0 (omega arith) (omega (arith, add-long r)) refl refl refl (add-plain r) refl refl refl

-- `{"remove":{`
abbrev remove-line : Text → Text
remove-line r = 0x7B ∷ 0x22 ∷ 0x72 ∷ 0x65 ∷ 0x6D ∷ 0x6F ∷ 0x76 ∷ 0x65 ∷ 0x22 ∷ 0x3A ∷ 0x7B ∷ r

remove-long : (r : Text) → 11 ≤ length (remove-line r)
remove-long r = omega arith

remove-plain : (r : Text) → Plains (remove-line r) 2 8
unfolding rules
remove-plain r =
    plains-joined
    (remove-line r)
    2 3 8
    (plains-one (remove-line r) 2 refl)
    (plains-joined (remove-line r) 3 4 8 (plains-one (remove-line r) 3 refl)
    (plains-joined (remove-line r) 4 5 8 (plains-one (remove-line r) 4 refl)
    (plains-joined (remove-line r) 5 6 8 (plains-one (remove-line r) 5 refl)
    (plains-joined (remove-line r) 6 7 8 (plains-one (remove-line r) 6 refl) (plains-one (remove-line r) 7 refl)))))

pub remove-begun : (r : Text) → Begun (remove-line r) 1 10
unfolding rules names_of seek
remove-begun r = begun (remove-line r) 8 1 (omega arith) (omega (arith, remove-long r)) refl refl refl (remove-plain r) refl refl refl

-- a text at whose start a word was read
pub begun-by : (w s : Text) (o : Option ℕ) → Answer (word w s) s 0 o → is_some o ≡ true → (r : Text) × (s ≡ w ++ r)
begun-by w s None a e = absurd (false≢true e)
begun-by w s (Some i) a e = (drop i s, word-text w s (drop i s) a.0)

-- A name that is read has one answer: its place is fixed by the bytes that it stands for.
use mathlib.Core.Path.{◌≡◌, refl, sym, ap, ◌∙◌}
use mathlib.Core.List.{List}
use Prim.Native.Nat.{ℕ}
use Rattle.rules.specs.Bytes.{Bytes}
use Rattle.rules.specs.Json.Text.{Text}
use Rattle.rules.proofs.Tests.{apart}
use Rattle.field_names.specs.Spelled.{name_in}
use Rattle.field_names.specs.declared.keys.Spell.{Spell}
use Rattle.std.specs.Prelude.{Option, Some, None}
use Rattle.field_names.proofs.KeysAlone.{name-alone}
use Rattle.field_names.specs.Kinds.{seek}
use Rattle.field_names.specs.Known.{KnownIs}

spell_of : Spell → Option Spell → Spell
spell_of d (Some n) = n
spell_of d None = d

pub known_alone : (s : Text) (at : ℕ) (names : List Bytes) (r q : Option (Spell × ℕ)) → KnownIs s at names r → KnownIs s at names q → r ≡ q
unfolding spell_of
known_alone s at names (Some (n, k)) (Some (m, j)) f g =
    let same : n ≡ m = ap (spell_of n) (name-alone s at (Some n) (Some m) f.0 g.0) in
    let place : k ≡ j = f.1 ∙ ap (λ (x : Spell). seek (name_in s x) names) same ∙ sym g.1 in
    ap (λ (x : Spell). (Some (x, k))) same ∙ ap (λ (j : ℕ). Some (m, j)) place
known_alone s at names (Some (n, k)) None f g = let e : Some n ≡ None = name-alone s at (Some n) None f.0 g in apart (cc)
known_alone s at names None (Some (m, j)) f g = let e : Some m ≡ None = name-alone s at (Some m) None g.0 f in apart (cc)
known_alone s at names None None f g = refl

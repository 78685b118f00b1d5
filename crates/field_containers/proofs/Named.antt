-- Whether a byte string is one of a few, by tests joined with `||`, in the order of the few.
use mathlib.Core.Path.{◌≡◌, refl, sym, ◌∙◌}
use mathlib.Core.Bool.{Bool, true, false}
use mathlib.Core.List.{List, [], ◌∷◌}
use Rattle.rules.specs.Bytes.{Bytes, same, holds}
use Rattle.rules.proofs.Tests.{true-not-false}
use Rattle.field_names.proofs.Seeking.{holds-none, holds-here, holds_then}

-- what is known where x was compared with all names but the rest: it is one of those, or it is asked of the rest
pub record Asked (x : Bytes) (names rest : List Bytes) (test : Bool) : Type 0 where
  pub yes : test ≡ true → holds x names ≡ true
  pub no : test ≡ false → holds x names ≡ holds x rest

pub asked-first : {x k : Bytes} {rest : List Bytes} {t : Bool} → t ≡ same x k → Asked x (k ∷ rest) rest t
asked-first {x} {k} {rest} e = record { yes = λ t. holds-here x k rest (sym e ∙ t); no = λ f. holds_then x k rest (sym e ∙ f) refl }

module _ {x : Bytes} {names rest : List Bytes} where
  -- where the two ways through `a || b` meet
  pub asked_then : {k : Bytes} {a t : Bool} → Asked x names (k ∷ rest) a → a ≡ true → t ≡ a → Asked x names rest t
  asked_then d p e = record { yes = λ _. d.yes p; no = λ f. absurd (true-not-false p (sym e ∙ f)) }

  pub asked_else : {k : Bytes} {a t : Bool} → Asked x names (k ∷ rest) a → a ≡ false → t ≡ same x k → Asked x names rest t
  asked_else {k} d p e = record { yes = λ y. d.no p ∙ holds-here x k rest (sym e ∙ y); no = λ f. d.no p ∙ holds_then x k rest (sym e ∙ f) refl }

  -- the end
  pub asked-found : {a : Bool} → Asked x names rest a → a ≡ true → a ≡ holds x names
  asked-found d p = p ∙ sym (d.yes p)

  pub asked-rest : {a t : Bool} → Asked x names rest a → a ≡ false → t ≡ holds x rest → t ≡ holds x names
  asked-rest d p e = e ∙ sym (d.no p)

-- of the last name alone
pub asked-last : (x k : Bytes) (t : Bool) → t ≡ same x k → t ≡ holds x (k ∷ [])
asked-last x k true e = sym (holds-here x k [] (sym e))
asked-last x k false e = sym (holds_then x k [] (sym e) (holds-none x))

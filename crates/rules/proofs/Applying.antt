-- One line by what it says: an empty line, a malformed one, a foreign one, and one whose action has its effect, within the limit or not.
use mathlib.Core.Path.{◌≡◌, refl, ap, ◌∙◌}
use mathlib.Core.Bool.{Bool, true, false}
use Rattle.std.specs.Prelude.{Option, None, Some}
use mathlib.Core.List.{List, [], ◌∷◌}
use Prim.Native.Nat.{ℕ, suc, ◌≤◌, ◌<◌}
use native.Mathlib.Nat.{not-suc-le-zero}
use native.Mathlib.Omega.{arith}
use lib.ListN.{length}
use borrow.Author.Tests.{le-leb, lt-leb}
use Rattle.rules.specs.Bytes.{Bytes}
use Rattle.rules.specs.Bundle.{File}
use Rattle.rules.specs.Lines.{lines, any_object}
use Rattle.rules.specs.Json.Text.{byte, ws}
use Rattle.rules.specs.Json.Values.{object_of}
use Rattle.rules.specs.Actions.{Action, action, line_member}
use Rattle.rules.specs.Refusals.{Refusal, Answer, accepted, refused, ◌>>=◌, or_refuse, require, malformed, foreign_keys, too_many_live}
use Rattle.rules.specs.History.{State, Origin, fits, Said, effect, within_limit, act, read_line, read_lines, read_file, zero_lines, read_zero}

pub action-empty : action [] ≡ None
unfolding action line_member object_of byte ws
action-empty = refl

-- ---- within the limit

pub within_limit-few : (limit e k : ℕ) (st : State) → length st.live ≤ limit → within_limit limit e k st ≡ accepted st
unfolding within_limit
within_limit-few limit e k st h = ap (λ (b : Bool). require (too_many_live e k) b >>= (λ _. accepted st)) (le-leb (length st.live) limit h)

pub within_limit-many : (limit e k : ℕ) (st : State) → limit < length st.live → within_limit limit e k st ≡ refused (too_many_live e k)
unfolding within_limit
within_limit-many limit e k st h = ap (λ (b : Bool). require (too_many_live e k) b >>= (λ _. accepted st)) (lt-leb (length st.live) limit h)

-- ---- the line

pub read_line-empty : (limit : ℕ) (of : Origin) (e k at : ℕ) (l : Bytes) (st : State) → length l ≡ 0 → read_line limit of e k at l st ≡ accepted st
unfolding read_line
read_line-empty limit of e k at [] st h = refl
read_line-empty limit of e k at (b ∷ bs) st h = absurd (omega arith)

pub read_line-none : (limit : ℕ) (of : Origin) (e k at : ℕ) (l : Bytes) (st : State) → 0 < length l → action l ≡ None
    → read_line limit of e k at l st ≡ refused (malformed e k)
unfolding read_line
read_line-none limit of e k at [] st h q = absurd (not-suc-le-zero h)
read_line-none limit of e k at (b ∷ bs) st h q =
    ap (λ (o : Option Action). or_refuse (malformed e k) o >>= (λ a. act limit of e k at (length (b ∷ bs)) a st)) q

-- an action, where the line is not malformed
acts : (limit : ℕ) (of : Origin) (e k at : ℕ) (l : Bytes) (st : State) → 0 < length l → (a : Action) → action l ≡ Some a
    → read_line limit of e k at l st ≡ act limit of e k at (length l) a st
unfolding read_line
acts limit of e k at [] st h a q = absurd (not-suc-le-zero h)
acts limit of e k at (b ∷ bs) st h a q = ap (λ (o : Option Action). or_refuse (malformed e k) o >>= (λ a. act limit of e k at (length (b ∷ bs)) a st)) q

pub read_line-some : (limit : ℕ) (of : Origin) (e k at : ℕ) (l : Bytes) (st : State) → 0 < length l → (a : Action) → action l ≡ Some a
    → fits of a st.table ≡ true → read_line limit of e k at l st ≡ within_limit limit e k (effect at (length l) a st)
unfolding act
read_line-some limit of e k at l st h a q t =
    acts limit of e k at l st h a q
    ∙ ap (λ (b : Bool). require (foreign_keys e k) b >>= (λ _. within_limit limit e k (effect at (length l) a st))) t

pub read_line-foreign : (limit : ℕ) (of : Origin) (e k at : ℕ) (l : Bytes) (st : State) → 0 < length l → (a : Action) → action l ≡ Some a
    → fits of a st.table ≡ false → read_line limit of e k at l st ≡ refused (foreign_keys e k)
unfolding act
read_line-foreign limit of e k at l st h a q t =
    acts limit of e k at l st h a q
    ∙ ap (λ (b : Bool). require (foreign_keys e k) b >>= (λ _. within_limit limit e k (effect at (length l) a st))) t

pub zero_lines-empty : (e k : ℕ) (l : Bytes) (ls : List Bytes) (x : Said) → length l ≡ 0 → zero_lines e k (l ∷ ls) x ≡ zero_lines e (suc k) ls x
unfolding zero_lines
zero_lines-empty e k [] ls x h = refl
zero_lines-empty e k (b ∷ bs) ls x h = absurd (omega arith)

-- ---- the file

module _ (limit : ℕ) (of : Origin) (f : File) (st : State) where
  pub read_file-refused : {r : Refusal} → read_lines limit of f.entry 1 f.start (lines f.body) st ≡ refused r → read_file limit of f st ≡ refused r
  unfolding read_file
  read_file-refused q =
      ap (λ (o : Answer State). o >>= (λ next. require (malformed f.entry 0) (any_object (lines f.body)) >>= (λ _. accepted next))) q

  pub read_file-ends : {next : State} → read_lines limit of f.entry 1 f.start (lines f.body) st ≡ accepted next
      → read_file limit of f st ≡ (require (malformed f.entry 0) (any_object (lines f.body)) >>= (λ _. accepted next))
  unfolding read_file
  read_file-ends q =
      ap (λ (o : Answer State). o >>= (λ next. require (malformed f.entry 0) (any_object (lines f.body)) >>= (λ _. accepted next))) q

-- the rules look at no name and no time
pub read_file-same : (limit : ℕ) (of : Origin) (f g : File) (st : State) → f.entry ≡ g.entry → f.start ≡ g.start → f.body ≡ g.body
    → read_file limit of f st ≡ read_file limit of g st
unfolding read_file
read_file-same limit of f g st e s b = rw (e, s, b)

pub read_zero-same : (f g : File) → f.entry ≡ g.entry → f.body ≡ g.body → read_zero f ≡ read_zero g
unfolding read_zero
read_zero-same f g e b = rw (e, b)

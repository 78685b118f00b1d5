-- What C gets of the cleaner and of a manifest's directory is one answer, and one content of each room.
use mathlib.Core.Path.{◌≡◌, sym, ◌∙◌}
use Prim.Native.Nat.{ℕ}
use Rattle.rules.specs.Bytes.{Bytes}
use Rattle.rules.specs.Rooms.{Room}
use Rattle.entries_c.specs.Cleans.{NamedIs}
use Rattle.entries_c.specs.States.{DirectoryIs}
use Rattle.entries_c.specs.declared.codes.Counted.{Counted}
use Rattle.entries_c.specs.declared.states.DirectoryShown.{DirectoryShown}

pub named-alone : (src : Bytes) (today retention : ℕ) (room room' room'' one one' one'' two two' two'' : Room) (r q : Counted)
    → NamedIs src today retention room room' one one' two two' r → NamedIs src today retention room room'' one one'' two two'' q
    → (r ≡ q) × (room' ≡ room'') × (one' ≡ one'') × (two' ≡ two'')
named-alone src today retention room room' room'' one one' one'' two two' two'' r q h k = (
  h.answer ∙ sym k.answer,
  h.names ∙ sym k.names,
  h.first ∙ sym k.first,
  h.second ∙ sym k.second,
)

pub directory-alone : (path state_directory : Bytes) (r q : DirectoryShown) → DirectoryIs path state_directory r → DirectoryIs path state_directory q → r ≡ q
directory-alone path state_directory r q h k = h.answer ∙ sym k.answer

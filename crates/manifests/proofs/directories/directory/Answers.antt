-- `directory` meets its contract. By where the last slash stands and how the path begins.
use mathlib.Core.Path.{sym, ◌∙◌}
use Rattle.rules.specs.Bytes.{ascii}
use Rattle.rules.proofs.Slashes.{directory-slashless, directory-manifests, directory-state, directory-other}
use Rattle.manifests.proofs.directories.directory.Goals as goal
use Rattle.manifests.proofs.directories.directory.Goals.{then-begins_with-via-then-begins_with, then-begins_with-via-else-begins_with+then-begins_with-2}

pub returns-in_default : goal.returns-in_default
returns-in_default c = sym (directory-slashless _ _ c.in_default.ensures)

pub returns-then-begins_with : goal.returns-then-begins_with
unfolding ascii
returns-then-begins_with c =
    let s = c.in-Some.ensures in
    elim c.then-begins_with.branch [
      | then-begins_with-via-then-begins_with w ↦ sym (directory-manifests _ _ (sym w.if-begins_with.ensures) ∙ s.before)
      | then-begins_with-via-else-begins_with+then-begins_with-2 w ↦ sym (directory-state _ _ (sym w.if-begins_with-2.ensures) s.held ∙ s.before)
    ]

pub returns : goal.returns
unfolding ascii
returns c = sym (directory-other _ _ (sym c.if-begins_with.ensures) (sym c.if-begins_with-2.ensures))

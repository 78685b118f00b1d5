-- Whether a file may go, by what its name says and by its time.
use mathlib.Core.Path.{◌≡◌, refl, sym, ap, ◌∙◌}
use mathlib.Core.Bool.{true, false, ◌&&◌}
use Rattle.std.specs.Prelude.{Option, None, Some}
use Prim.Native.Nat.{ℕ, ◌-◌, ◌≤◌, ◌<◌}
use lib.Dec.{ltb}
use borrow.Author.Tests.{lt-ltb, le-ltb, le-leb, lt-leb}
use Rattle.rules.specs.Bundle.{File}
use Rattle.rules.specs.Names.{Name as RuleName, version, checkpoint, marker, other, too_large, name_of, version_in}
use Rattle.rules.specs.Cleaning.{is_between, is_old, may_go}
use Rattle.rules.proofs.Tests.{and-fails-left}
use Rattle.file_names.specs.Names.{name_is}
use Rattle.file_names.specs.declared.Name.{Name}
use Rattle.file_names.specs.declared.Name.TheVariants.{VersionFile, Checkpoint, Marker, Other, TooLarge}
use Rattle.file_names.specs.declared.Version.{Version}
use Rattle.log_agreement.proofs.Stated.{and-past}

-- ---- the version

module _ (w c : ℕ) where
  pub between-behind : 0 < w → ltb w c ≡ (ltb 0 w && ltb w c)
  between-behind h = sym (and-past (ltb w c) (lt-ltb 0 w h))

  pub between-zero : w ≤ 0 → false ≡ (ltb 0 w && ltb w c)
  between-zero h = sym (and-fails-left (ltb w c) (le-ltb 0 w h))

-- ---- the time

module _ (today retention modified : ℕ) where
  pub old-later : today < modified → false ≡ is_old today retention modified
  unfolding is_old
  old-later h = sym (and-fails-left (ltb retention (today - modified)) (lt-leb modified today h))

  pub old-before : modified ≤ today → ltb retention (today - modified) ≡ is_old today retention modified
  unfolding is_old
  old-before h = sym (and-past (ltb retention (today - modified)) (le-leb modified today h))

-- ---- both, of the file f whose name says r

-- the version of a version file's name
abbrev tells_version : Name → Option ℕ
tells_version (VersionFile w) = Some w.0
tells_version (Checkpoint w) = None
tells_version Marker = None
tells_version Other = None
tells_version TooLarge = None

tells-version : (x : RuleName) → tells_version (name_is x) ≡ version_in x
unfolding name_is version_in
tells-version (version n) = refl
tells-version (checkpoint n) = refl
tells-version marker = refl
tells-version other = refl
tells-version too_large = refl

module _ (c today retention : ℕ) (f : File) (r : Name) (e : r ≡ name_is (name_of f.name)) where
  told : {x : Name} → r ≡ x → version_in (name_of f.name) ≡ tells_version x
  told g = sym (ap tells_version (sym g ∙ e) ∙ tells-version (name_of f.name))

  -- no version file
  pub go-other : {x : Name} → r ≡ x → tells_version x ≡ None → false ≡ may_go c today retention f
  unfolding may_go is_between
  go-other g n = sym (and-fails-left (is_old today retention f.time) (ap (is_between c) (told g ∙ n)))

  module _ (w : Version) (g : r ≡ VersionFile w) where
    pub go-outside : (ltb 0 w.0 && ltb w.0 c) ≡ false → false ≡ may_go c today retention f
    unfolding may_go is_between
    go-outside h = sym (and-fails-left (is_old today retention f.time) (ap (is_between c) (told g) ∙ h))

    pub go-between : (ltb 0 w.0 && ltb w.0 c) ≡ true → is_old today retention f.time ≡ may_go c today retention f
    unfolding may_go is_between
    go-between h = sym (and-past (is_old today retention f.time) (ap (is_between c) (told g) ∙ h))

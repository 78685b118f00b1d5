-- `may_go` meets its contract: what is no version file stays.
use mathlib.Core.Path.{refl, sym, ap, ◌∙◌}
use Rattle.rules.specs.Cleaning.{is_old}
use Rattle.file_bundle.specs.Files.{file_in}
use Rattle.cleaning.proofs.Ageing.{go-other, go-outside, go-between}
use Rattle.cleaning.proofs.may_go.Goals as goal

pub returns-then-is_between : goal.returns-then-is_between
returns-then-is_between c =
    c.is_old.ensures ∙ ap (is_old c.args.today.0 c.args.retention.0) c.entry_at-e.ensures.time
    ∙ go-between c.args.c.0 c.args.today.0 c.args.retention.0 (file_in c.args.src.now c.args.k) c.kind.result c.kind.ensures c.in-VersionFile.w
    c.in-VersionFile.is
    (sym c.is_between.ensures ∙ c.if-is_between.true)

pub returns-else-is_between : goal.returns-else-is_between
returns-else-is_between c =
    go-outside
    c.args.c.0
    c.args.today.0
    c.args.retention.0
    (file_in c.args.src.now c.args.k)
    c.kind.result
    c.kind.ensures
    c.in-VersionFile.w
    c.in-VersionFile.is
    (sym c.is_between.ensures ∙ c.if-is_between.false)

pub returns-in-Checkpoint : goal.returns-in-Checkpoint
returns-in-Checkpoint c =
    go-other c.args.c.0 c.args.today.0 c.args.retention.0 (file_in c.args.src.now c.args.k) c.kind.result c.kind.ensures c.in-Checkpoint.is refl

pub returns-in-Marker : goal.returns-in-Marker
returns-in-Marker c =
    go-other
    c.args.c.0
    c.args.today.0
    c.args.retention.0
    (file_in c.args.src.now c.args.k)
    c.kind.result
    c.kind.ensures
    c.in-Marker.is
    refl

pub returns-in-Other : goal.returns-in-Other
returns-in-Other c =
    go-other
    c.args.c.0
    c.args.today.0
    c.args.retention.0
    (file_in c.args.src.now c.args.k)
    c.kind.result
    c.kind.ensures
    c.in-Other.is
    refl

pub returns-in-TooLarge : goal.returns-in-TooLarge
returns-in-TooLarge c =
    go-other
    c.args.c.0
    c.args.today.0
    c.args.retention.0
    (file_in c.args.src.now c.args.k)
    c.kind.result
    c.kind.ensures
    c.in-TooLarge.is
    refl

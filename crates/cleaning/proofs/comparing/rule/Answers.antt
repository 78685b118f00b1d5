-- `rule` meets its contract, in the paper's order.
use mathlib.Core.Path.{sym, subst, ◌∙◌}
use Rattle.file_bundle.specs.Answers.{OpenedAs}
use Rattle.log_files.specs.Logs.{PlaceIs}
use Rattle.log_history.proofs.Walking.{left-same}
use Rattle.cleaning.proofs.Deciding.{opened_some, ruled-malformed, ruled-large, ruled-without, ruled-unmarked, ruled-nowhere, ruled-as}
use Rattle.cleaning.proofs.comparing.rule.Goals as goal

pub returns-in_default : goal.returns-in_default
returns-in_default c = (
  ruled-malformed
      c.args.src.now
      (subst (OpenedAs _) c.in_default.is c.open.ensures),
  left-same,
  left-same,
)

pub any_too_large-requires : goal.any_too_large-requires
any_too_large-requires c =
    (opened_some c.args.src.now _
    (subst (OpenedAs _) c.in-Some.is c.open.ensures).1)

pub returns-then-any_too_large : goal.returns-then-any_too_large
returns-then-any_too_large c = (
  ruled-large
      c.args.src.now
      (opened_some c.args.src.now _ (subst (OpenedAs _) c.in-Some.is c.open.ensures).1)
      (sym c.if-any_too_large.true ∙ c.any_too_large.ensures),
  left-same,
  left-same,
)

pub version_file-requires : goal.version_file-requires
version_file-requires c =
    (opened_some c.args.src.now _ (subst (OpenedAs _) c.in-Some.is c.open.ensures).1)

pub returns-in_default-version_file : goal.returns-in_default-version_file
returns-in_default-version_file c = (
  ruled-without
      c.args.src.now
      (opened_some c.args.src.now _
      (subst (OpenedAs _) c.in-Some.is
      c.open.ensures).1)
      (sym c.if-any_too_large.false ∙ c.any_too_large.ensures)
      (subst (PlaceIs _ _) c.in_default-version_file.is c.version_file.ensures),
  left-same,
  left-same,
)

pub marked-requires : goal.marked-requires
marked-requires c =
    (opened_some c.args.src.now _
    (subst (OpenedAs _) c.in-Some.is
    c.open.ensures).1)

pub returns-in_default-marked : goal.returns-in_default-marked
returns-in_default-marked c = (
  ruled-unmarked
      c.args.src.now
      (opened_some c.args.src.now _ (subst (OpenedAs _) c.in-Some.is c.open.ensures).1)
      (sym c.if-any_too_large.false ∙ c.any_too_large.ensures)
      c.in-Some-version_file.zero
      (subst (PlaceIs _ _) c.in-Some-version_file.is c.version_file.ensures).1
      c.marked.result
      c.marked.ensures
      c.in_default-marked.is,
  left-same,
  left-same,
)

pub start_at-requires : goal.start_at-requires
start_at-requires c =
    (opened_some c.args.src.now _ (subst (OpenedAs _) c.in-Some.is c.open.ensures).1)

pub returns-in_default-start_at : goal.returns-in_default-start_at
returns-in_default-start_at c = (
  ruled-nowhere
      c.args.src.now
      (opened_some c.args.src.now _ (subst (OpenedAs _) c.in-Some.is c.open.ensures).1)
      (sym c.if-any_too_large.false ∙ c.any_too_large.ensures)
      c.in-Some-version_file.zero
      (subst (PlaceIs _ _) c.in-Some-version_file.is c.version_file.ensures).1
      c.marked.result
      c.marked.ensures
      c.in-Some-marked.c
      c.in-Some-marked.is
      (subst (PlaceIs _ _) c.in_default-start_at.is c.start_at.ensures),
  left-same,
  left-same,
)

pub rule_at-requires : goal.rule_at-requires
rule_at-requires c = (
  (opened_some c.args.src.now _
      (subst (OpenedAs _) c.in-Some.is c.open.ensures).1),
  (subst (PlaceIs _ _) c.in-Some-version_file.is c.version_file.ensures).0,
  subst (PlaceIs _ _) c.in-Some-start_at.is c.start_at.ensures,
  c.requires.0,
  c.requires.1,
)

pub returns : goal.returns
returns c = (
  ruled-as
      c.args.src.now
      (opened_some c.args.src.now _ (subst (OpenedAs _) c.in-Some.is c.open.ensures).1)
      (sym c.if-any_too_large.false ∙ c.any_too_large.ensures)
      c.in-Some-version_file.zero
      (subst (PlaceIs _ _) c.in-Some-version_file.is c.version_file.ensures).1
      c.marked.result
      c.marked.ensures
      c.in-Some-marked.c
      c.in-Some-marked.is
      c.rule_at.result
      c.rule_at.ensures.0,
  c.rule_at.ensures.1,
  c.rule_at.ensures.2,
)

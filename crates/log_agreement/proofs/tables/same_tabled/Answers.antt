-- `same_tabled` meets its contract: the ids, and then the columns.
use mathlib.Core.Path.{ap₂, ◌∙◌}
use Rattle.rules.specs.Bytes.{same, same_each}
use Rattle.rules.specs.Agreement.{agree_tables}
use Rattle.log_agreement.proofs.Stated.{and-then, and-else}
use Rattle.log_agreement.proofs.tables.same_tabled.Goals as goal

pub same_strings-requires : goal.same_strings-requires
same_strings-requires c = (c.requires.0.says.spelled, c.requires.1.says.spelled)

pub same_lists-requires : goal.same_lists-requires
same_lists-requires c = (
  c.requires.0.says.within,
  record { ss = c.requires.0.table.partition_columns; listed = c.requires.0.says.columns },
  c.requires.1.says.within,
  record { ss = c.requires.1.table.partition_columns; listed = c.requires.1.says.columns },
)

pub returns-then-same_strings : goal.returns-then-same_strings
unfolding agree_tables
returns-then-same_strings c m n a b =
    and-then (c.same_strings.ensures ∙ ap₂ same a.id b.id) (c.same_lists.ensures m.partition_columns n.partition_columns a.columns b.columns)
    c.if-same_strings.true

pub returns-else-same_strings : goal.returns-else-same_strings
unfolding agree_tables
returns-else-same_strings c m n a b =
    and-else (same_each m.partition_columns n.partition_columns) (c.same_strings.ensures ∙ ap₂ same a.id b.id) c.if-same_strings.false

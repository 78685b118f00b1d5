-- A line feed stands within the bytes exactly where their first line ends before they do.
use Rattle.file_lines.proofs.Laws.{ends-is_line}
use Rattle.file_lines.proofs.is_line.Goals as goal

pub returns : goal.returns
returns c = ends-is_line c.args.l.now c.line_end.result c.line_end.ensures

-- `last_slash` meets its contract: by the places of the path.
use borrow.Author.Rules.{rules}
use Rattle.manifests.proofs.Slashes.{slash-is}
use Rattle.manifests.proofs.directories.last_slash.Goals as goal

pub returns : goal.returns
returns c = slash-is c.args.path.now c.rposition.result (search rules)

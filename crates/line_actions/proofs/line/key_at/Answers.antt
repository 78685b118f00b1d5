-- `key_at` meets its contract. A name and a colon, each from where the one before ends.
use Rattle.line_actions.proofs.Lines.{line-nameless, line-no-colon, line-begun}
use Rattle.line_actions.proofs.line.key_at.Goals as goal

pub returns-in_err-n : goal.returns-in_err-n
returns-in_err-n c = rw c.from_residual.ensures (line-nameless c.args.line.now c.args.j c.requires c.in_err-n.ensures)

pub returns-in_err-v : goal.returns-in_err-v
returns-in_err-v c =
    rw c.from_residual-in_err-v.ensures (line-no-colon c.args.line.now c.args.j c.requires c.in_ok-n.n c.in_ok-n.ensures c.in_err-v.ensures)

pub returns : goal.returns
returns c =
    let colon = c.in_ok-v.ensures in
    line-begun c.args.line.now c.args.j c.requires c.in_ok-n.n c.in_ok-n.ensures c.in_ok-v.v colon.0 c.which-k.result colon.2 c.which-k.ensures

-- `read_member` meets its contract. What `plain_member` finds is the member; where it finds none, any member is read.
use Rattle.field_objects.proofs.objects.read_member.Goals as goal

pub returns-in-Some : goal.returns-in-Some
returns-in-Some c = c.in-Some.ensures c.args.depth

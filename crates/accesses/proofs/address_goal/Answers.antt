use Rattle.accesses.proofs.Accessing.{address_judged}
use Rattle.accesses.proofs.address_goal.Goals as goal

pub returns : goal.returns
returns c = address_judged c.args.right c.put_with.ensures c.raised.ensures c.access_claim-claim.ensures c.requires.room_for c.goal.ensures

use Rattle.terms.proofs.NewNodes.{put_kept}
use Rattle.terms.proofs.keep_shift.Goals as goal

pub returns : goal.returns
returns c = put_kept c.put_shift.ensures c.keep.ensures

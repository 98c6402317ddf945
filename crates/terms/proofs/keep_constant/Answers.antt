use Rattle.terms.proofs.NewNodes.{put_kept}
use Rattle.terms.proofs.keep_constant.Goals as goal

pub returns : goal.returns
returns c = put_kept c.put_constant.ensures c.keep.ensures

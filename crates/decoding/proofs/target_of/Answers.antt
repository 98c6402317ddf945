use mathlib.Core.Path.{ap, sym}
use Rattle.model.specs.Instruction.{target_of}
use Rattle.decoding.proofs.Decoding.{no_target}
use Rattle.decoding.proofs.target_of.Goals as goal

pub returns-in-Jump : goal.returns-in-Jump
unfolding target_of
returns-in-Jump c = ap target_of (sym c.in-Jump.is)

pub returns-in-JumpLess : goal.returns-in-JumpLess
unfolding target_of
returns-in-JumpLess c = ap target_of (sym c.in-JumpLess.is)

pub returns-in-JumpEqual : goal.returns-in-JumpEqual
unfolding target_of
returns-in-JumpEqual c = ap target_of (sym c.in-JumpEqual.is)

pub returns-in_default : goal.returns-in_default
returns-in_default c = no_target c.args.instruction c.in_default.not-Jump c.in_default.not-JumpLess c.in_default.not-JumpEqual

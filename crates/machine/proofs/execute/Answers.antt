use Rattle.machine.proofs.Steps as steps
use Rattle.machine.proofs.execute.Goals as goal

pub returns-in-Set : goal.returns-in-Set
returns-in-Set c = steps.sets _ _ _ _ _ _ _ _ _ c.assign.ensures c.in-Set.is

pub returns-in-Add : goal.returns-in-Add
returns-in-Add c = steps.adds _ _ _ _ _ _ _ _ _ c.assign-in-Add.ensures _ _ _ _ c.in-Add.is c.word.ensures c.word-in-Add.ensures c.add-w.ensures

pub returns-in-AddImmediate : goal.returns-in-AddImmediate
returns-in-AddImmediate c = steps.adds_immediate _ _ _ _ _ _ _ _ _ c.assign-in-AddImmediate.ensures _ _ _ c.in-AddImmediate.is c.word-in-AddImmediate.ensures c.add-w-in-AddImmediate.ensures

pub returns-in-Subtract : goal.returns-in-Subtract
returns-in-Subtract c = steps.subtracts _ _ _ _ _ _ _ _ _ c.assign-in-Subtract.ensures _ _ _ _ c.in-Subtract.is c.word-in-Subtract.ensures c.word-in-Subtract-2.ensures c.sub-w.ensures

pub returns-in-Jump : goal.returns-in-Jump
returns-in-Jump c = steps.jumps _ _ _ _ _ _ c.in-Jump.is

pub returns-in-JumpLess : goal.returns-in-JumpLess
returns-in-JumpLess c = steps.jumps_less _ _ _ _ _ _ _ _ _ _ _ c.word-in-JumpLess.ensures c.word-in-JumpLess-2.ensures c.in-JumpLess.is c.branch-taken.ensures

pub returns-in-JumpEqual : goal.returns-in-JumpEqual
returns-in-JumpEqual c = steps.jumps_equal _ _ _ _ _ _ _ _ _ _ _ c.word-in-JumpEqual.ensures c.word-in-JumpEqual-2.ensures c.in-JumpEqual.is c.branch-taken-in-JumpEqual.ensures

pub returns-in-Return : goal.returns-in-Return
returns-in-Return c = steps.returning _ _ _ _ _ c.in-Return.is

pub returns-in-Mask : goal.returns-in-Mask
returns-in-Mask c = steps.masks _ _ _ _ _ _ _ _ _ c.assign-in-Mask.ensures _ _ _ c.in-Mask.is c.word-in-Mask.ensures c.mask-w.ensures

pub returns-in-Shift : goal.returns-in-Shift
returns-in-Shift c = steps.shifts _ _ _ _ _ _ _ _ _ c.assign-in-Shift.ensures _ _ _ c.in-Shift.is c.word-in-Shift.ensures c.shift-w.ensures

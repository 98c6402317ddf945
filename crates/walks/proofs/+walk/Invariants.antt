-- by how far it is to n: a branch hands its taken edge on to `follow`, which hands it on to `walk` only where it is nearer to n
use Prim.Native.Nat.{◌+◌, ◌*◌, ◌-◌}
use Rattle.walks.specs.Walks.{count_of}
use Rattle.walks.proofs.Looping.{nearer, Looping}
use Rattle.walks.proofs.+walk.Given as goal

abbrev pub decreases-branch : goal.decreases-branch
decreases-branch l = 4 * (count_of l.setting.now - l.block.path.counter) + 1

abbrev pub decreases-follow : goal.decreases-follow
decreases-follow l = nearer l.setting.now l.block.path.counter

abbrev pub decreases-step : goal.decreases-step
decreases-step l = 4 * (count_of l.setting.now - l.block.path.counter) + 2

abbrev pub decreases-walk : goal.decreases-walk
decreases-walk l = 4 * (count_of l.setting.now - l.block.path.counter) + 3

abbrev pub invariant-walk-loop-instruction : goal.invariant-walk-loop-instruction
invariant-walk-loop-instruction l = Looping l.initial.ws l.ws l.setting l.initial.block l.block l.initial.progress l.progress l.initial.visits l.visits

abbrev pub decreases-walk-loop-instruction : goal.decreases-walk-loop-instruction
decreases-walk-loop-instruction l = count_of l.setting - l.block.path.counter

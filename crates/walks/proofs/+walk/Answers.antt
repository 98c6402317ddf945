use mathlib.Core.Path.{refl, ◌∙◌}
use native.Mathlib.Omega.{arith}
use Rattle.model.proofs.Results.{stopped}
use Rattle.walks.proofs.Advancing.{branches}
use Rattle.walks.proofs.WalkLaws.{going_there, follow_arrives, follow_stops, walk_room, walk_credit, follow_walks}
use Rattle.walks.proofs.BranchLaws.{taken_room, taken_credit, branch_stops, other_room, branch_goes}
use Rattle.walks.proofs.Looping.{nearer_on, nearer_ahead, loop_stops, loop_refused, loop_ends, on_room, on_credit, loop_arrives, loop_arrival_stops, loop_goes}
use Rattle.walks.proofs.+walk.Goals as goal

-- ---- branch
pub branch-follow-requires : goal.branch-follow-requires
branch-follow-requires t c = (
  rw c.edge.ensures.counter (omega (arith, c.decreases, nearer_ahead c.args.setting.now c.requires.toward (omega (arith, c.requires.inside.1)))),
  (
    taken_room c.args.setting.now _ c.args.condition c.requires.room_for c.requires.inside c.requires.toward c.requires.credit_in c.edge.ensures c.edge.auto.ws,
    (
      taken_credit c.args.setting.now _ c.args.condition c.requires.room_for c.requires.inside c.requires.toward c.requires.credit_in c.edge.ensures,
      c.requires.reached,
    ),
  ),
)

pub branch-returns-in_err-after : goal.branch-returns-in_err-after
branch-returns-in_err-after t c = rw (stopped _ _ c.from_residual.ensures.1) (branch_stops c.args.setting.now _ c.args.condition c.requires.room_for c.requires.inside c.requires.toward c.requires.credit_in c.edge.ensures _ c.in_err-after.ensures)

pub branch-edge-other-requires-clause-room_for : goal.branch-edge-other-requires-clause-room_for
branch-edge-other-requires-clause-room_for t c = other_room c.args.setting.now _ c.args.condition c.requires.room_for c.requires.inside c.requires.toward c.requires.credit_in c.edge.ensures _ c.in_ok-after.ensures (c.follow.auto.ws ∙ c.edge.auto.ws)

pub branch-returns : goal.branch-returns
branch-returns t c =
    branch_goes c.args.setting.now _ c.args.condition c.requires.room_for c.requires.inside c.requires.toward c.requires.credit_in c.edge.ensures _ c.in_ok-after.ensures (c.follow.auto.ws ∙ c.edge.auto.ws)
    c.opposite-opposite.ensures c.requires.sides_below c.edge-other.ensures

-- ---- follow
pub follow-returns-in_err-done : goal.follow-returns-in_err-done
follow-returns-in_err-done t c = rw (stopped _ _ c.from_residual.ensures.1) (follow_stops c.args.setting.now _ c.requires.room_on.stops c.in_err-done.ensures)

pub follow-returns-in-Some : goal.follow-returns-in-Some
follow-returns-in-Some t c = follow_arrives c.args.setting.now _ c.requires.room_on.stops (rw c.in-Some.is at c.in_ok-done.ensures)

pub follow-walk-requires : goal.follow-walk-requires
follow-walk-requires t c =
    let nowhere = rw c.in-None.is at c.in_ok-done.ensures in (
      omega (arith, c.decreases, nearer_on c.args.setting.now c.args.block.path.counter (nowhere.nowhere refl)),
      (
        walk_room c.args.setting.now _ c.requires.room_on.stops c.requires.credit_in nowhere c.arrive.auto.ws c.requires.room_on.goes_on,
        (
          c.requires.room_on.inside,
          (
            walk_credit c.args.setting.now _ c.requires.room_on.stops c.requires.credit_in nowhere,
            c.requires.reached,
          ),
        ),
      ),
    )

pub follow-returns-in-None : goal.follow-returns-in-None
follow-returns-in-None t c = follow_walks c.args.setting.now _ c.requires.room_on.stops c.requires.credit_in (rw c.in-None.is at c.in_ok-done.ensures) _ c.walk.ensures

-- ---- step
pub step-returns-in_err-moved : goal.step-returns-in_err-moved
step-returns-in_err-moved t c = rw (stopped _ _ c.from_residual.ensures.1) (c.in_err-moved.ensures _)

pub step-returns-in-Moves : goal.step-returns-in-Moves
step-returns-in-Moves t c = (rw c.in-Moves.is at c.in_ok-moved.ensures) _

pub step-branch-setting-requires : goal.step-branch-setting-requires
step-branch-setting-requires t c =
    let (same, forks) = rw c.in-Branches.is at c.in_ok-moved.ensures in (
      omega (arith, c.decreases),
      (
        rw same c.requires.room_for,
        (
          (c.requires.inside, forks.inside),
          (
            forks.toward,
            (
              forks.below,
              (
                rw same c.requires.credit_in,
                c.requires.reached,
              ),
            ),
          ),
        ),
      ),
    )

pub step-returns-in-Branches : goal.step-returns-in-Branches
step-returns-in-Branches t c =
    let (same, forks) = rw c.in-Branches.is at c.in_ok-moved.ensures in
    branches c.args.block.credit c.args.instruction c.in-Branches.condition c.in-Branches.target forks same c.branch-setting.ensures

-- ---- walk
pub walk-returns-in_err-instruction : goal.walk-returns-in_err-instruction
walk-returns-in_err-instruction t c = rw (stopped _ _ c.from_residual.ensures.1) (loop_stops c.loop-instruction.invariant _ c.in_err-instruction.ensures)

pub walk-step-requires : goal.walk-step-requires
walk-step-requires t c =
    let v = c.in_ok-instruction.ensures in (
      omega (arith, c.loop-instruction.invariant.higher),
      (
        c.loop-instruction.invariant.room,
        (
          v.1,
          (
            v.0.formed,
            (
              v.0.ahead,
              (
                c.loop-instruction.invariant.credit_in,
                c.loop-instruction.invariant.reached,
              ),
            ),
          ),
        ),
      ),
    )

pub walk-returns-in_err-done : goal.walk-returns-in_err-done
walk-returns-in_err-done t c = rw (stopped _ _ c.from_residual-in_err-done.ensures.1) (loop_refused c.loop-instruction.invariant _ c.in_ok-instruction.ensures c.in_err-done.ensures)

pub walk-returns-in-Ended : goal.walk-returns-in-Ended
walk-returns-in-Ended t c = loop_ends c.loop-instruction.invariant _ c.in_ok-instruction.ensures (rw c.in-Ended.is at c.in_ok-done.ensures)

pub walk-arrive-requires-clause-going : goal.walk-arrive-requires-clause-going
walk-arrive-requires-clause-going t c =
    let on = rw c.in-On.is at c.in_ok-done.ensures in
    going_there (on_room c.loop-instruction.invariant _ c.in_ok-instruction.ensures on c.step.auto.ws).stops on.leads.1

pub walk-arrive-requires-clause-credit_in : goal.walk-arrive-requires-clause-credit_in
walk-arrive-requires-clause-credit_in t c = on_credit c.loop-instruction.invariant _ c.in_ok-instruction.ensures (rw c.in-On.is at c.in_ok-done.ensures) c.step.auto.ws

pub walk-returns-in_err-done-2 : goal.walk-returns-in_err-done-2
walk-returns-in_err-done-2 t c = rw (stopped _ _ c.from_residual-in_err-done-2.ensures.1) (loop_arrival_stops c.loop-instruction.invariant _ c.in_ok-instruction.ensures (rw c.in-On.is at c.in_ok-done.ensures) c.step.auto.ws c.in_err-done-2.ensures)

pub walk-returns-in-Some : goal.walk-returns-in-Some
walk-returns-in-Some t c = loop_arrives c.loop-instruction.invariant _ c.in_ok-instruction.ensures (rw c.in-On.is at c.in_ok-done.ensures) c.step.auto.ws (rw c.in-Some.is at c.in_ok-done-2.ensures)

pub walk-loop-instruction-preserved : goal.walk-loop-instruction-preserved
walk-loop-instruction-preserved t c = loop_goes c.loop-instruction.invariant _ c.in_ok-instruction.ensures (rw c.in-On.is at c.in_ok-done.ensures) c.step.auto.ws (rw c.in_default.is at c.in_ok-done-2.ensures) c.arrive.auto.ws

use mathlib.Core.Path.{refl}
use native.Mathlib.Omega.{arith}
use Rattle.model.specs.Result.{Ok}
use Rattle.model.specs.declared.Comparison.TheVariants.{Less, Equal}
use Rattle.moves.specs.declared.Moved.TheVariants.{On}
use Rattle.setting.proofs.Standing.{postcondition_stands, regions_stand}
use Rattle.model.specs.Goals.{move}
use Rattle.model.specs.Instruction.{target_of}
use Rattle.paths.proofs.Kept.{register_term}
use Rattle.walks.proofs.Advancing.{formed_as, advances, assigns, jumps, turns, forks}
use Rattle.walks.proofs.WalkLaws.{room_for_one}
use Rattle.walks.proofs.advance.Goals as goal
use Rattle.walks.proofs.advance.Goals.{in-Set, in-Add, in-AddImmediate, in-Subtract, in-Mask, in-Shift}

pub returns-in-Load : goal.returns-in-Load
unfolding move
returns-in-Load c = turns c.args.setting.now _ c.args.instruction _ c.turned.ensures (λ visits. advances c.args.instruction visits c.requires.inside (λ _ _ s. regions_stand c.args.setting.now s) (λ _ _. rw c.in-Load.is) ((rw (c.grounds-grounds.ensures.0, c.grounds-grounds.ensures.1) at c.load.ensures).moves _))

pub returns-in-Store : goal.returns-in-Store
unfolding move
returns-in-Store c = turns c.args.setting.now _ c.args.instruction _ c.turned-in-Store.ensures (λ visits. advances c.args.instruction visits c.requires.inside (λ _ _ s. regions_stand c.args.setting.now s) (λ _ _. rw c.in-Store.is) ((rw (c.grounds-grounds.ensures.0, c.grounds-grounds.ensures.1) at c.store.ensures).moves _))

pub returns-in-Jump : goal.returns-in-Jump
unfolding target_of
returns-in-Jump c =
    turns c.args.setting.now _ c.args.instruction (Ok (On c.stepped.result c.args.progress)) c.turned-in-Jump.ensures
    (λ visits. rw c.in-Jump.is (jumps visits (room_for_one c.args.setting.now c.requires.room_for c.requires.inside) c.stepped.ensures (omega (arith, formed_as _ c.requires.formed c.in-Jump.is)) (λ nowhere. c.requires.ahead _ (rw c.in-Jump.is) nowhere) c.requires.reached))

pub returns-in-JumpLess : goal.returns-in-JumpLess
unfolding move target_of
returns-in-JumpLess c =
    let below = formed_as _ c.requires.formed c.in-JumpLess.is in
    let held = c.requires.room_for.path_in in
    (refl, forks Less held below (λ nowhere. c.requires.ahead _ (rw c.in-JumpLess.is) nowhere) c.node.ensures c.node-in-JumpLess.ensures c.new-less.ensures (λ _. rw (c.in-JumpLess.is, register_term held _ below.0, register_term held _ below.1)))

pub returns-in-JumpEqual : goal.returns-in-JumpEqual
unfolding move target_of
returns-in-JumpEqual c =
    let below = formed_as _ c.requires.formed c.in-JumpEqual.is in
    let held = c.requires.room_for.path_in in
    (refl, forks Equal held below (λ nowhere. c.requires.ahead _ (rw c.in-JumpEqual.is) nowhere) c.node-in-JumpEqual.ensures c.node-in-JumpEqual-2.ensures c.new-equal.ensures (λ _. rw (c.in-JumpEqual.is, register_term held _ below.0, register_term held _ below.1)))

pub returns-in-Return : goal.returns-in-Return
unfolding move
returns-in-Return c = turns c.args.setting.now _ c.args.instruction _ c.turned-in-Return.ensures (λ visits. advances c.args.instruction visits c.requires.inside (λ _ _ s. (regions_stand c.args.setting.now s, (_, postcondition_stands c.args.setting.now s))) (λ _ _. rw c.in-Return.is) (rw (c.grounds-grounds.ensures.0, c.grounds-grounds.ensures.1) at c.return_from.ensures))

pub returns : goal.returns
unfolding move
returns c =
    turns c.args.setting.now _ c.args.instruction _ c.turned-2.ensures
    (λ visits.
    elim c.match-instruction.branch [
      | in-Set w ↦ assigns c.args.instruction visits c.requires.inside c.requires.reached (λ _ _. rw w.in-Set.is) w.set-assigned.ensures w.ws-is w.assigned-is c.going_on.ensures
      | in-Add w ↦ assigns c.args.instruction visits c.requires.inside c.requires.reached (λ _ _. rw w.in-Add.is) w.combine-assigned.ensures w.ws-is w.assigned-is c.going_on.ensures
      | in-AddImmediate w ↦ assigns c.args.instruction visits c.requires.inside c.requires.reached (λ _ _. rw w.in-AddImmediate.is) w.combine_immediate-assigned.ensures w.ws-is w.assigned-is c.going_on.ensures
      | in-Subtract w ↦ assigns c.args.instruction visits c.requires.inside c.requires.reached (λ _ _. rw w.in-Subtract.is) w.combine-assigned-in-Subtract.ensures w.ws-is w.assigned-is c.going_on.ensures
      | in-Mask w ↦ assigns c.args.instruction visits c.requires.inside c.requires.reached (λ _ _. rw w.in-Mask.is) w.combine_immediate-assigned-in-Mask.ensures w.ws-is w.assigned-is c.going_on.ensures
      | in-Shift w ↦ assigns c.args.instruction visits c.requires.inside c.requires.reached (λ _ _. rw w.in-Shift.is) w.shift-assigned.ensures w.ws-is w.assigned-is c.going_on.ensures
    ])

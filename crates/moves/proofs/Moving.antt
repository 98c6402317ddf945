-- What comes of a move, over the definitions. Assumes nothing.
use mathlib.Core.Path.{refl, ap, ◌∙◌}
use mathlib.Core.List.{List, [], ◌∷◌}
use Prim.Native.Nat.{ℕ}
use Rattle.model.specs.Result.{Ok, Err}
use Rattle.model.specs.Term.{Term}
use Rattle.model.specs.Policy.{Policy}
use Rattle.model.specs.Routine.{Routine}
use Rattle.model.specs.Goals.{Goal, Path as ModelPath, append, goes, refused, tracing}
use Rattle.model.specs.Verdict.{judge}
use Rattle.model.specs.declared.Refusal.{Refusal}
use Rattle.refusals.specs.declared.Refused.{Refused}
use Rattle.goals.specs.declared.Progress.{Progress}
use Rattle.moves.specs.declared.Moved.TheVariants.{On, Ended}
use Rattle.paths.specs.declared.Path.{Path}
use Rattle.paths.specs.Walking.{path_of}
use Rattle.goals.specs.Judging.{Judges}
use Rattle.moves.specs.Moves.{MoveJudged}
use Rattle.goals.proofs.Judging.{append_goals}

module _ {us bytes : List ℕ} {policy : Policy} {routine : Routine} {credit : Term} {p : Progress} where
  -- goals that are derived, and the path that goes on
  pub move_on : {after : Path} {gs : List Goal} {q : Progress} → Judges bytes policy gs p (Ok q) → MoveJudged bytes policy routine credit us (goes gs (path_of us after ∷ [])) p (Ok (On after q))
  unfolding tracing
  move_on {gs = gs} j = record { says = λ walks pending rest. ap (λ u. judge bytes policy u p.at p.goals) (append_goals gs _ rest) ∙ j.says _ }

  -- and no path
  pub move_ended : {gs : List Goal} {q : Progress} → Judges bytes policy gs p (Ok q) → MoveJudged bytes policy routine credit us (goes gs []) p (Ok (Ended q))
  unfolding tracing
  move_ended {gs = gs} j = record { says = λ walks pending rest. ap (λ u. judge bytes policy u p.at p.goals) (append_goals gs _ rest) ∙ j.says _ }

  pub move_stopped : {gs : List Goal} (paths : List ModelPath) {x : Refused} → Judges bytes policy gs p (Err x) → MoveJudged bytes policy routine credit us (goes gs paths) p (Err x)
  unfolding tracing
  move_stopped {gs} paths j = record { says = λ walks pending rest. ap (λ u. judge bytes policy u p.at p.goals) (append_goals gs _ rest) ∙ j.says _ }

  pub move_refused : (x : Refusal) → MoveJudged bytes policy routine credit us (refused x) p (Err (record { refusal = x; goals = p.goals }))
  unfolding tracing append judge
  move_refused x = record { says = λ walks pending rest. refl }

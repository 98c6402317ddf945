-- What a walk and a path that is followed are, over the definitions. Assumes nothing.
use mathlib.Core.Path.{◌≡◌, refl, ap}
use mathlib.Core.Option.{none, some}
use mathlib.Core.List.{List, ◌∷◌}
use Prim.Native.Nat.{ℕ, zero, suc}
use lib.ListN.{length, get_elem?}
use Rattle.model.specs.Term.{Term}
use Rattle.model.specs.Policy.{Policy}
use Rattle.model.specs.Annotation.{Annotation, annotation_at}
use Rattle.model.specs.Routine.{Routine}
use Rattle.model.specs.Goals.{Path, Trace, Goal, goals, append, refuse, arrival, tracing, follow, evaluating, move, walk}
use Rattle.model.specs.Verdict.{refusing, judge}
use Rattle.model.specs.declared.Instruction.{Instruction}
use Rattle.model.specs.declared.Refusal.{Refusal}
use Rattle.model.specs.declared.Refusal.TheVariants.{PastLast, LongBlock}
use Rattle.goals.specs.declared.Progress.{Progress}
use Rattle.goals.proofs.Judging.{append_goals}

module _ (policy : Policy) (routine : Routine) (credit : Term) where
  -- ---- the walk of a path, by the instruction at its counter
  module _ (s : Path) (pending : List Path) where
    pub walk_past : (visits : ℕ) → get_elem? routine.code s.counter ≡ none → walk policy routine credit visits s pending ≡ refuse (PastLast (length routine.code))
    unfolding walk evaluating
    walk_past zero e = rw (e, evaluating)
    walk_past (suc visits) e = rw (e, evaluating)

    module _ {x : Instruction} (e : get_elem? routine.code s.counter ≡ some x) where
      pub walk_spent : {visits : ℕ} → visits ≡ 0 → walk policy routine credit visits s pending ≡ refuse (LongBlock s.counter)
      unfolding walk evaluating
      walk_spent none-left = rw (none-left, walk, e, evaluating)

      pub walk_steps : {before after : ℕ} → before ≡ suc after → walk policy routine credit before s pending ≡ tracing policy routine credit (walk policy routine credit after) pending (move policy credit s x)
      unfolding walk evaluating
      walk_steps one-more = rw (one-more, walk, e, evaluating)

  -- ---- a path that is followed, by the annotation at its counter
  module _ (walks : Path → List Path → Trace) (s : Path) (pending : List Path) where
    pub follow_on : annotation_at routine.annotations s.counter ≡ none → follow policy routine credit walks (s ∷ pending) ≡ walks s pending
    unfolding follow
    follow_on e = rw (e, follow)

    pub follow_arrived : {a : Annotation} → annotation_at routine.annotations s.counter ≡ some a → follow policy routine credit walks (s ∷ pending) ≡ goals (arrival s credit a) (follow policy routine credit walks pending)
    unfolding follow
    follow_arrived e = rw (e, follow)

-- ---- how they are judged
module _ (bytes : List ℕ) (policy : Policy) (p : Progress) (rest : Trace) where
  -- a trace by another name
  pub judged_as : {t u : Trace} → t ≡ u → judge bytes policy (append t rest) p.at p.goals ≡ judge bytes policy (append u rest) p.at p.goals
  judged_as e = ap (λ (t : Trace). judge bytes policy (append t rest) p.at p.goals) e

  pub judged_refused : (x : Refusal) → judge bytes policy (append (refuse x) rest) p.at p.goals ≡ refusing x p.goals
  unfolding append judge
  judged_refused x = refl

  pub judged_goals : (gs : List Goal) (t : Trace) → judge bytes policy (append (goals gs t) rest) p.at p.goals ≡ judge bytes policy (goals gs (append t rest)) p.at p.goals
  judged_goals gs t = ap (λ (u : Trace). judge bytes policy u p.at p.goals) (append_goals gs t rest)

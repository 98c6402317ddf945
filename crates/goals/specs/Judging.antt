-- What deriving goals owes: the checker's answer as a function of the trace that follows them. Assumes nothing.
use Rattle.std.specs.Prelude.{◌≡◌, List, ℕ, ◌≤◌, length}
use Rattle.model.specs.Result.{Result, Ok, Err}
use Rattle.model.specs.Policy.{Policy}
use Rattle.model.specs.Goals.{Goal, Trace, goals, append}
use Rattle.model.specs.Verdict.{refusing, judge}
use Rattle.model.specs.declared.Verdict.{Verdict}
use Rattle.refusals.specs.declared.Refused.{Refused}
use Rattle.goals.specs.declared.Progress.{Progress}

-- the proof is read to within the package, and each goal derived has taken a byte at least
pub record Reached (bytes : List ℕ) (p : Progress) : Type 0 where
  pub within : p.at ≤ length bytes
  pub counted : p.goals ≤ p.at

module _ (bytes : List ℕ) (policy : Policy) where
  -- the checker's answer, where the trace t is still to be judged
  abbrev pub verdict_after : Result Progress Refused → Trace → Verdict
  verdict_after (Ok p) t = judge bytes policy t p.at p.goals
  verdict_after (Err x) t = refusing x.refusal x.goals

  -- r is what comes of deriving the goals gs, whatever trace follows them
  pub record Judges (gs : List Goal) (p : Progress) (r : Result Progress Refused) : Type 0 where
    pub says : (t : Trace) → judge bytes policy (goals gs t) p.at p.goals ≡ verdict_after r t

  -- r is what comes of judging the trace u, whatever trace follows it
  pub record JudgesTrace (u : Trace) (p : Progress) (r : Result Progress Refused) : Type 0 where
    pub says : (t : Trace) → judge bytes policy (append u t) p.at p.goals ≡ verdict_after r t

-- Goals before a trace, traces one after another, and what comes of judging them. Assumes nothing.
use mathlib.Core.Path.{◌≡◌, refl, sym, ap, ◌∙◌}
use mathlib.Core.List.{List, [], ◌∷◌, ◌++◌}
use Prim.Native.Nat.{ℕ, ◌+◌}
use Rattle.model.specs.Result.{Result, Ok, Err}
use Rattle.model.specs.Policy.{Policy}
use Rattle.model.specs.Goals.{Goal, Trace, goal, finish, refuse, goals, append}
use Rattle.model.specs.Derivation.{most_levels, derive}
use Rattle.model.specs.Verdict.{answered, judge}
use Rattle.model.specs.declared.Refusal.{Refusal}
use Rattle.refusals.specs.declared.Refused.{Refused}
use Rattle.goals.specs.declared.Progress.{Progress}
use Rattle.goals.specs.Judging.{verdict_after, Judges, JudgesTrace}

-- ---- traces
pub goals_after_goals : (gs hs : List Goal) (t : Trace) → goals (gs ++ hs) t ≡ goals gs (goals hs t)
unfolding goals
goals_after_goals [] hs t = refl
goals_after_goals (g ∷ gs) hs t = ap (goal g) (goals_after_goals gs hs t)

pub append_goals : (gs : List Goal) (t u : Trace) → append (goals gs t) u ≡ goals gs (append t u)
unfolding goals append
append_goals [] t u = refl
append_goals (g ∷ gs) t u = ap (goal g) (append_goals gs t u)

pub append_append : (t u v : Trace) → append (append t u) v ≡ append t (append u v)
unfolding append
append_append (goal g t) u v = ap (goal g) (append_append t u v)
append_append finish u v = refl
append_append (refuse r) u v = refl

pub append_finish : (t : Trace) → append t finish ≡ t
unfolding append
append_finish (goal g t) = ap (goal g) (append_finish t)
append_finish finish = refl
append_finish (refuse r) = refl

module _ {bytes : List ℕ} {policy : Policy} {p : Progress} where
  -- ---- goals
  pub judges_none : Judges bytes policy [] p (Ok p)
  unfolding goals
  judges_none = record { says = λ t. refl }

  pub judges_refused : (g : Goal) {r : Refusal} → Err r ≡ derive bytes policy g most_levels g.claim p.at → Judges bytes policy (g ∷ []) p (Err (record { refusal = r; goals = p.goals }))
  unfolding goals judge answered
  judges_refused g e = record { says = λ t. rw (← e, judge) }

  pub judges_derived : (g : Goal) {q : ℕ} → Ok q ≡ derive bytes policy g most_levels g.claim p.at → Judges bytes policy (g ∷ []) p (Ok (record { at = q; goals = p.goals + 1 }))
  unfolding goals judge answered
  judges_derived g e = record { says = λ t. rw (← e, judge) }

  -- ---- goals after goals
  pub judges_stopped : {gs : List Goal} (hs : List Goal) {x : Refused} → Judges bytes policy gs p (Err x) → Judges bytes policy (gs ++ hs) p (Err x)
  judges_stopped {gs} hs a = record { says = λ t. ap (λ u. judge bytes policy u p.at p.goals) (goals_after_goals gs hs t) ∙ a.says (goals hs t) }

  pub judges_both : {gs hs : List Goal} {q : Progress} {r : Result Progress Refused} → Judges bytes policy gs p (Ok q) → Judges bytes policy hs q r → Judges bytes policy (gs ++ hs) p r
  judges_both {gs} {hs} a b = record { says = λ t. ap (λ u. judge bytes policy u p.at p.goals) (goals_after_goals gs hs t) ∙ a.says (goals hs t) ∙ b.says t }

  -- ---- traces: the end or another trace after goals
  pub goals_end : {gs : List Goal} {s : Result Progress Refused} → Judges bytes policy gs p s → JudgesTrace bytes policy (goals gs finish) p s
  unfolding append
  goals_end {gs} a = record { says = λ t. ap (λ u. judge bytes policy u p.at p.goals) (append_goals gs finish t) ∙ a.says t }

  -- ---- one trace after another
  pub trace_stopped : {u : Trace} (v : Trace) {x : Refused} → JudgesTrace bytes policy u p (Err x) → JudgesTrace bytes policy (append u v) p (Err x)
  trace_stopped {u} v a = record { says = λ t. ap (λ w. judge bytes policy w p.at p.goals) (append_append u v t) ∙ a.says (append v t) }

  pub trace_both : {u v : Trace} {q : Progress} {r : Result Progress Refused} → JudgesTrace bytes policy u p (Ok q) → JudgesTrace bytes policy v q r → JudgesTrace bytes policy (append u v) p r
  trace_both {u} {v} a b = record { says = λ t. ap (λ w. judge bytes policy w p.at p.goals) (append_append u v t) ∙ a.says (append v t) ∙ b.says t }

  -- the whole trace
  pub trace_whole : {u : Trace} {s : Result Progress Refused} → JudgesTrace bytes policy u p s → judge bytes policy u p.at p.goals ≡ verdict_after bytes policy s finish
  trace_whole {u} a = ap (λ v. judge bytes policy v p.at p.goals) (sym (append_finish u)) ∙ a.says finish

  -- ---- the ends of a trace
  pub trace_end : JudgesTrace bytes policy finish p (Ok p)
  unfolding append
  trace_end = record { says = λ t. refl }

-- Laws of loads and stores. Assumes nothing.
use mathlib.Core.Path.{◌≡◌, refl, sym, ap, ap₂, subst, ◌∙◌}
use mathlib.Core.List.{List, [], ◌∷◌}
use Prim.Native.Nat.{ℕ, ◌+◌, ◌<◌, ◌≤◌}
use native.Mathlib.Numerals.{add-one}
use native.Mathlib.Omega.{arith}
use lib.ListN.{length}
use Rattle.model.specs.Result.{Result, Ok, Err}
use Rattle.model.specs.Term.{Term, variable}
use Rattle.model.specs.Linear.{variable_bound}
use Rattle.model.specs.Goals.{Claim, Goal, Path as ModelPath, goes, goal_of, onward, loading, assigning}
use Rattle.model.specs.declared.Right.{Right}
use Rattle.model.specs.declared.Right.TheVariants.{Read, Write}
use Rattle.model.specs.Expression.{register_count}
use Rattle.nodes.specs.Table.{place, term_at, Put}
use Rattle.workspace.proofs.Frames.{same_trans, same_within}
use Rattle.model.specs.declared.Region.{Region}
use Rattle.paths.specs.declared.Path.{Path}
use Rattle.refusals.specs.declared.Refused.{Refused}
use Rattle.goals.specs.declared.Progress.{Progress}
use Rattle.moves.specs.declared.Moved.TheVariants.{On}
use Rattle.goals.specs.Judging.{Judges}
use Rattle.paths.specs.Walking.{path_of, raised_to, PathIn, stepped_to, written_to, one_variable, Kept}
use Rattle.claims.specs.Parts.{claim_of}
use Rattle.claims.specs.declared.Claim.{Claim as NodeClaim}
use Rattle.goals.specs.Settling.{GoalJudged}
use Rattle.moves.specs.Moves.{RoomFor, Built, Advanced, MoveJudged}
use Rattle.accesses.specs.Accesses.{access_claim, access_claim_at, AddressJudged, Accesses, Loads}
use Rattle.moves.proofs.Moving.{move_on, move_stopped}
use Rattle.paths.proofs.Kept.{kept_none, kept_same, kept_then, path_held, path_equal}
use Rattle.paths.proofs.Walking.{path_raised}
use Rattle.moves.proofs.PathLaws.{path_written, written_path, path_stepped, path_variable}

-- ---- the next variable
variable_bound_lem : (v : ℕ) → variable_bound (variable v) ≤ v + 1
unfolding variable_bound
variable_bound_lem v = omega arith

module _ {ws us : List ℕ} {path : Path} {d : ℕ} (g : RoomFor ws path 1) (long : length us ≡ length ws) (below : d < register_count) (u : Put ws us path.top (variable path.variables)) where
  abbrev higher : Path
  higher = one_variable (raised_to path (path.top + 1))

  abbrev loaded_path : Path
  loaded_path = stepped_to (written_to higher d path.top) (path.counter + 1)

  kept : Kept ws us path
  kept = kept_same path g.path_in.prepared.assumed.few u.kept

  higher_in : PathIn us higher
  higher_in = path_variable (path_raised (path.top + 1) (omega arith) (rw (add-one path.top) u.formed) (path_held kept g.path_in long)) (omega (arith, g.loaded))

  the_loads : Loads ws us path d loaded_path
  the_loads = record {
    means =
        ap (λ (s : ModelPath). onward s) (written_path higher_in d path.top)
        ∙ ap₂ (λ (s : ModelPath) (x : Term). onward (record { counter = s.counter; steps = s.steps; registers = (assigning s d x).registers; variables = s.variables + 1; assumptions = s.assumptions })) (path_equal kept g.path_in) u.is;
    advanced = record {
      path_in = path_stepped (path_written higher_in below (record { below = omega arith; bound = rw u.is (variable_bound_lem path.variables) })) (path.counter + 1) (omega (arith, g.run));
      steps = refl;
      above = omega arith;
      nodes = omega arith;
      more = omega arith;
      variables = omega arith;
      listed = omega arith;
      assumptions = omega arith;
    };
    counter = refl;
    same = u.kept;
  }

  pub variable_loads : {raised more written stepped : Path} → raised ≡ raised_to path (path.top + 1) → more ≡ one_variable raised → written ≡ written_to more d path.top → stepped ≡ stepped_to written (path.counter + 1)
      → Loads ws us path d stepped
  variable_loads er em ew es = rw (es, ew, em, er) the_loads

-- ---- the goal of an address
-- its claim, of the node of the address
claim_means : (us : List ℕ) (right : Right) (node : ℕ) → claim_of us (access_claim_at right node) ≡ access_claim right (term_at us node)
claim_means us Read node = refl
claim_means us Write node = refl

module _ {ws us : List ℕ} {path raised : Path} {count node : ℕ} {t : Term} (right : Right) {claim : NodeClaim} (b : Built ws us path count node t) (is-raised : raised ≡ raised_to path (path.top + count)) (is-claim : claim ≡ access_claim_at right node) where
  -- what comes of it
  pub address_judged : {vs : List ℕ} {bytes : List ℕ} {regions : List Region} {p : Progress} {r : Result Progress Refused} → RoomFor ws path 1 → GoalJudged us vs bytes regions raised p r (claim_of us claim)
      → AddressJudged ws vs bytes regions path (access_claim right t) p r
  address_judged {vs} {bytes} {regions} {p} {r} g j =
      let h : GoalJudged us vs bytes regions (raised_to path (path.top + count)) p r (access_claim right (term_at us node)) =
      subst (λ (c : Claim). GoalJudged us vs bytes regions (raised_to path (path.top + count)) p r c) (ap (claim_of us) is-claim ∙ claim_means us right node) (subst (λ (q : Path). GoalJudged us vs bytes regions q p r (claim_of us claim)) is-raised j) in
      let k : Kept ws us path = kept_same path g.path_in.prepared.assumed.few b.same in
      record {
        judges = λ policy e. subst (λ (c : Goal). Judges bytes policy (c ∷ []) p r) (ap₂ (λ (s : ModelPath) (x : Term). goal_of s (access_claim right x)) (path_equal k g.path_in) b.means) (h.judges policy e);
        kept = kept_same path g.path_in.prepared.assumed.few (same_trans b.same (same_within 0 (place path.top) (omega arith) (omega arith) h.left.kept));
        reached = h.left.reached;
      }

-- ---- what follows it
module _ {ws vs : List ℕ} {bytes : List ℕ} {regions : List Region} {path : Path} {claim : Claim} {p : Progress} where
  pub access_stopped : (s : ModelPath) {x : Refused} → AddressJudged ws vs bytes regions path claim p (Err x) → Accesses ws vs bytes regions (goes (goal_of (path_of ws path) claim ∷ []) (s ∷ [])) path p (Err x)
  access_stopped s a = record { moves = λ credit. record { judged = λ policy routine h. move_stopped (s ∷ []) (a.judges policy h); kept = a.kept; leads = tt } }

  module _ {q : Progress} (a : AddressJudged ws vs bytes regions path claim p (Ok q)) where
    access_goes : {xs : List ℕ} {after : Path} (s : ModelPath) → path_of xs after ≡ s → Kept vs xs path → Advanced xs path after → after.counter ≡ path.counter + 1
        → Accesses ws xs bytes regions (goes (goal_of (path_of ws path) claim ∷ []) (s ∷ [])) path p (Ok (On after q))
    access_goes {xs} {after} s means k d c = record {
      moves = λ credit. record {
        judged = λ policy routine h. subst (λ (u : ModelPath). MoveJudged bytes policy routine credit xs (goes (goal_of (path_of ws path) claim ∷ []) (u ∷ [])) p (Ok (On after q))) means (move_on (a.judges policy h));
        kept = kept_then a.kept k;
        leads = (d, c, a.reached);
      };
    }

    module _ (g : RoomFor ws path 1) where
      same : path_of vs path ≡ path_of ws path
      same = path_equal a.kept g.path_in

      pub store_goes : {after : Path} → length vs ≡ length ws → after ≡ stepped_to path (path.counter + 1)
          → Accesses ws vs bytes regions (goes (goal_of (path_of ws path) claim ∷ []) (onward (path_of ws path) ∷ [])) path p (Ok (On after q))
      store_goes long h =
          subst (λ (x : Path). Accesses ws vs bytes regions (goes (goal_of (path_of ws path) claim ∷ []) (onward (path_of ws path) ∷ [])) path p (Ok (On x q))) (sym h)
          (access_goes (onward (path_of ws path)) (ap (λ (s : ModelPath). onward s) same) (kept_none path) (record {
            path_in = path_stepped (path_held a.kept g.path_in long) (path.counter + 1) (omega (arith, g.run));
            steps = refl;
            above = omega arith;
            nodes = omega arith;
            more = omega arith;
            variables = omega arith;
            listed = omega arith;
            assumptions = omega arith;
          }) refl)

      pub load_goes : {xs : List ℕ} {d : ℕ} {after : Path} → Loads vs xs path d after → Accesses ws xs bytes regions (goes (goal_of (path_of ws path) claim ∷ []) (onward (loading (path_of ws path) d) ∷ [])) path p (Ok (On after q))
      load_goes {d = d} l =
          access_goes (onward (loading (path_of ws path) d)) (l.means ∙ ap (λ (s : ModelPath). onward (loading s d)) same) (kept_same path g.path_in.prepared.assumed.few l.same) l.advanced l.counter

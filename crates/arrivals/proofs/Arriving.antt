-- Laws of the functions that derive the goals on credits, of arrivals and of returns: one for each way out. Assumes nothing.
use mathlib.Core.Path.{◌≡◌, sym, ap, ap₂, subst, ◌∙◌}
use mathlib.Core.List.{List, [], ◌∷◌, map}
use Prim.Native.Nat.{ℕ, ◌+◌, ◌≤◌}
use native.Mathlib.Omega.{arith}
use lib.ListN.{length, get_or}
use Rattle.model.specs.Result.{Result, Ok, Err}
use Rattle.model.specs.Term.{Term, constant, difference, substitute}
use Rattle.model.specs.Atom.{Atom, at_most}
use Rattle.model.specs.Linear.{variable_bound}
use Rattle.model.specs.Expression.{register_count, most_nodes, atoms_at}
use Rattle.model.specs.Goals.{Path as ModelPath, atom, goal_of, arrival, returning}
use Rattle.model.specs.declared.Comparison.TheVariants.{AtMost}
use Rattle.model.specs.declared.ReadError.{ReadError}
use Rattle.workspace.specs.Layout.{Same}
use Rattle.workspace.proofs.Frames.{same_trans}
use Rattle.workspace.specs.Room.{derivation_room, atom_room, credit_room, goal_room}
use Rattle.nodes.specs.Atoms.{node_atom}
use Rattle.nodes.specs.Table.{place, term_at, Put}
use Rattle.leaf_reader.specs.Leaves.{Grown}
use Rattle.leaf_reader.specs.declared.Parsed.{Parsed}
use Rattle.leaf_reader.specs.declared.sources.Source.{Source}
use Rattle.term_reader.specs.Reader.{expression_in, expression_answer}
use Rattle.claims.specs.Parts.{claim_of}
use Rattle.claims.specs.declared.Claim.TheVariants.{Atom as AtomClaim}
use Rattle.model.specs.declared.Region.{Region}
use Rattle.paths.specs.declared.Path.{Path}
use Rattle.policy.specs.declared.Condition.{Condition}
use Rattle.refusals.specs.declared.Refused.{Refused}
use Rattle.goals.specs.declared.Progress.{Progress}
use Rattle.goals.specs.Judging.{Judges}
use Rattle.paths.specs.Walking.{path_of, raised_to, OverRegisters, NodeIn, PathIn, ClaimIn}
use Rattle.goals.specs.Room.{Going}
use Rattle.goals.specs.Settling.{Left, GoalJudged, AtomsJudged}
use Rattle.arrivals.specs.Arriving.{CreditsJudged, ArrivalJudged, ReturnJudged}
use Rattle.paths.proofs.Reading.{same_value}
use Rattle.goals.proofs.Judging.{judges_stopped, judges_both}
use Rattle.paths.proofs.Walking.{node_same, node_kept, path_same, node_raised, Above, above_put, above_more, above_kept}
use Rattle.goals.proofs.Room.{going_kept, going_above, going_fewer}
use Rattle.paths.proofs.Found.{TermFound, term_found}
use Rattle.goals.proofs.Settling.{left_below, raised_goal, raised_atoms, raised_asks}

-- ---- the goal that so many instructions are at most the credit
module _ {ws : List ℕ} {bytes : List ℕ} {path : Path} {p : Progress} {credit : ℕ} (y : Going ws bytes credit_room path p) (n : NodeIn ws path credit) where
  module _ {us : List ℕ} {spent : ℕ} (q : Put ws us path.top (constant spent)) (l : length us ≡ length ws) where
    -- the constant's node
    spent_node : NodeIn us (raised_to path (path.top + 1)) path.top
    unfolding variable_bound
    spent_node = record { below = omega arith; bound = rw q.is (omega arith) }

    credit_node : NodeIn us (raised_to path (path.top + 1)) credit
    credit_node = node_raised (path.top + 1) (omega arith) (node_kept q.kept n)

    module _ {m : Path} (e : m ≡ raised_to path (path.top + 1)) where
      pub covers_asks : Going us bytes derivation_room m p × ClaimIn us m (AtomClaim (node_atom AtMost path.top credit))
      covers_asks = raised_asks (omega arith) y (above_put y.inside q l) e l spent_node credit_node

      pub covers : {vs : List ℕ} {r : Result Progress Refused} {regions : List Region} → GoalJudged us vs bytes regions m p r (claim_of us (AtomClaim (node_atom AtMost path.top credit)))
          → GoalJudged ws vs bytes regions path p r (atom (at_most (constant spent) (term_at ws credit)))
      covers {vs} {r} {regions} g = subst (λ (x : Atom). GoalJudged ws vs bytes regions path p r (atom x)) (λ i. at_most (q.is i) (node_same q.kept n i)) (raised_goal y.inside (above_put y.inside q l) e g)

-- ---- both goals on the credit
module _ {ws us : List ℕ} {bytes : List ℕ} {path : Path} {p : Progress} {credit owed : ℕ} (y : Going ws bytes credit_room path p) (n : NodeIn ws path credit) (o : NodeIn ws path owed)
    (q : Put ws us path.top (constant path.steps)) (l : length us ≡ length ws) where
  module _ {vs : List ℕ} {m : Path} (d : Put us vs (path.top + 1) (difference (term_at us credit) (term_at us path.top))) (k : length vs ≡ length us) (e : m ≡ raised_to path (path.top + 1 + 1)) where
    both : Above ws vs path (path.top + 1 + 1) 2
    both = above_more (above_put y.inside q l) (above_put (above_put y.inside q l).inside d k)

    -- the nodes of what is spent and of the rest
    spent_below : NodeIn vs (raised_to path (path.top + 1 + 1)) path.top
    spent_below = node_raised (path.top + 1 + 1) (omega arith) (node_kept d.kept (spent_node y n q l))

    rest_node : NodeIn vs (raised_to path (path.top + 1 + 1)) (path.top + 1)
    unfolding variable_bound
    rest_node = record { below = omega arith; bound = rw d.is (omega (arith, (credit_node y n q l).bound, (spent_node y n q l).bound)) }

    pub first_asks : Going vs bytes derivation_room m p × ClaimIn vs m (AtomClaim (node_atom AtMost path.top credit))
    first_asks = raised_asks (omega arith) y both e (k ∙ l) spent_below (node_raised (path.top + 1 + 1) (omega arith) (node_kept both.kept n))

    first : {xs : List ℕ} {r : Result Progress Refused} {regions : List Region} → GoalJudged vs xs bytes regions m p r (claim_of vs (AtomClaim (node_atom AtMost path.top credit)))
        → GoalJudged ws xs bytes regions path p r (atom (at_most (constant path.steps) (term_at ws credit)))
    first {xs} {r} {regions} g =
        let spent = node_same d.kept (spent_node y n q l) ∙ q.is in
        subst (λ (x : Atom). GoalJudged ws xs bytes regions path p r (atom x)) (ap₂ at_most spent (node_same both.kept n)) (raised_goal y.inside both e g)

    pub credits_stopped : {xs : List ℕ} {x : Refused} {regions : List Region} → GoalJudged vs xs bytes regions m p (Err x) (claim_of vs (AtomClaim (node_atom AtMost path.top credit)))
        → CreditsJudged ws xs bytes regions path p (Err x) (term_at ws credit) (term_at ws owed)
    credits_stopped g = record { judges = λ policy h. judges_stopped _ ((first g).judges policy h); left = (first g).left }

    module _ {xs : List ℕ} {a : Progress} {regions : List Region} (g : GoalJudged vs xs bytes regions m p (Ok a) (claim_of vs (AtomClaim (node_atom AtMost path.top credit)))) (k' : length xs ≡ length vs) where
      kept_nodes : Same 0 (place (path.top + 1 + 1)) vs xs
      kept_nodes = subst (λ (x : Path). Same 0 (place x.top) vs xs) e g.left.kept

      both_kept : Above ws xs path (path.top + 1 + 1) 2
      both_kept = above_kept both kept_nodes k'

      pub second_asks : Going xs bytes derivation_room m a × ClaimIn xs m (AtomClaim (node_atom AtMost owed (path.top + 1)))
      second_asks = raised_asks (omega arith) (record { inside = y.inside; space = y.space; reached = g.left.reached }) both_kept e (k' ∙ k ∙ l)
          (node_raised (path.top + 1 + 1) (omega arith) (node_kept both_kept.kept o)) (node_kept kept_nodes rest_node)

      pub credits_judged : {zs : List ℕ} {s : Result Progress Refused} → GoalJudged xs zs bytes regions m a s (claim_of xs (AtomClaim (node_atom AtMost owed (path.top + 1))))
          → CreditsJudged ws zs bytes regions path p s (term_at ws credit) (term_at ws owed)
      credits_judged {zs} {s} h =
          let rest = node_same kept_nodes rest_node ∙ d.is ∙ ap₂ difference (node_same q.kept n) q.is in
          let second : GoalJudged ws zs bytes regions path a s (atom (at_most (term_at ws owed) (difference (term_at ws credit) (constant path.steps)))) =
          subst (λ (x : Atom). GoalJudged ws zs bytes regions path a s (atom x)) (ap₂ at_most (node_same both_kept.kept o) rest) (raised_goal y.inside both_kept e h) in
          record { judges = λ policy b. judges_both ((first g).judges policy b) (second.judges policy b); left = second.left }

-- ---- what follows a piece that is derived, on the same path
module _ {ws us : List ℕ} {bytes : List ℕ} {room : ℕ} {path : Path} {p q : Progress} (y : Going ws bytes room path p) (left : Left ws us bytes path (Ok q)) (l : length us ≡ length ws) where
  pub then_going : (less : ℕ) → less ≤ room → Going us bytes less path q
  then_going less k = going_fewer less k (going_kept left.kept l left.reached y)

-- ---- a return
module _ {ws us : List ℕ} {bytes : List ℕ} {credit : ℕ} {path : Path} {p : Progress} {conditions : List ℕ} {condition : Condition} (y : Going ws bytes goal_room path p) (n : NodeIn ws path credit) where
  pub returning_stopped : {x : Refused} {regions : List Region} → AtomsJudged ws us bytes regions path p (Err x) conditions (length conditions) condition → ReturnJudged ws us bytes regions path p (Err x) (term_at ws credit) conditions condition
  unfolding returning
  returning_stopped w = record { judges = λ policy k atoms next e. judges_stopped _ (w.judges policy k atoms next e); left = w.left }

  module _ {q : Progress} {regions : List Region} (w : AtomsJudged ws us bytes regions path p (Ok q) conditions (length conditions) condition) where
    pub returning_asks : length us ≡ length ws → Going us bytes credit_room path q × NodeIn us path credit
    returning_asks l = (then_going y w.left l credit_room (omega arith), node_kept w.left.kept n)

    pub returning_judged : {vs : List ℕ} {s : Result Progress Refused} → GoalJudged us vs bytes regions path q s (atom (at_most (constant (path.steps + 1)) (term_at us credit)))
        → ReturnJudged ws vs bytes regions path p s (term_at ws credit) conditions condition
    unfolding returning
    returning_judged {vs} {s} h = record {
      judges = λ policy k atoms next e.
          let covered : Judges bytes policy (goal_of (path_of ws path) (atom (at_most (constant (path.steps + 1)) (term_at ws credit))) ∷ []) q s =
          subst (λ (z : ModelPath × Term). Judges bytes policy (goal_of z.0 (atom (at_most (constant (path.steps + 1)) z.1)) ∷ []) q s) (λ i. (path_same w.left.kept y.inside i, node_same w.left.kept n i)) (h.judges policy k) in
          judges_both (w.judges policy k atoms next e) covered;
      left = record { kept = same_trans w.left.kept h.left.kept; reached = h.left.reached };
    }

-- ---- an arrival
-- the goals on the credit, of a path with more nodes in the table
raised_credits : {ws us vs : List ℕ} {bytes : List ℕ} {path m : Path} {p : Progress} {r : Result Progress Refused} {credit owed : Term} {t : ℕ} {regions : List Region} → PathIn ws path → path.top ≤ t → Same 0 (place path.top) ws us
    → m ≡ raised_to path t → CreditsJudged us vs bytes regions m p r credit owed → CreditsJudged ws vs bytes regions path p r credit owed
raised_credits {us = us} {vs} {bytes} {path} {p = p} {r} {credit} {owed} {t} {regions} y k a e g =
    let h = subst (λ (x : Path). CreditsJudged us vs bytes regions x p r credit owed) e g in
    record {
      judges = λ policy j.
          subst (λ (s : ModelPath). Judges bytes policy (goal_of s (atom (at_most (constant s.steps) credit)) ∷ goal_of s (atom (at_most owed (difference credit (constant s.steps)))) ∷ []) p r) (path_same a y) (h.judges policy j);
      left = left_below t k a h.left;
    }

-- atoms that are read at a position
read_from : (bytes : List ℕ) (end number : ℕ) {q p : ℕ} {x : List Atom × ℕ} → q ≡ p → atoms_at bytes end register_count number q ≡ Ok x → atoms_at bytes end register_count number p ≡ Ok x
read_from bytes end number {x = x} e h = subst (λ z. atoms_at bytes end register_count number z ≡ Ok x) e h

module _ {bytes : List ℕ} {end : ℕ} where
  module _ {ws us : List ℕ} {credit : ℕ} {path m : Path} {x : Parsed} {p : Progress} {over : Source} (at : ℕ) (y : Going ws bytes goal_room path p) (n : NodeIn ws path credit) (o : OverRegisters path bytes end over) (l : length us ≡ length ws)
      {answer : Result Parsed ReadError} (grown : Grown ws us over.end path.top most_nodes answer) (read : expression_answer us answer ≡ expression_in ws over (at + 3)) (is : answer ≡ Ok x)
      (e : m ≡ raised_to path x.top) where
    found : TermFound ws us bytes path end (at + 3) x
    found = term_found y.inside l o (rw is at grown) (rw is at read)

    pub arrival_asks : Going us bytes atom_room m p
    arrival_asks = subst (λ (z : Path). Going us bytes atom_room z p) (sym e) (going_above atom_room (omega arith) found.above l y)

    module _ {vs : List ℕ} {number : ℕ} (i : number ≡ get_or bytes (at + 2) 0) where
      -- the atoms, on the path
      arrived : {r : Result Progress Refused} {regions : List Region} → AtomsJudged us vs bytes regions m p r bytes end (record { at = x.next; atoms = number })
          → AtomsJudged ws vs bytes regions path p r bytes end (record { at = x.next; atoms = get_or bytes (at + 2) 0 })
      arrived {r} {regions} w = raised_atoms y.inside found.above e (subst (λ (z : ℕ). AtomsJudged us vs bytes regions m p r bytes end (record { at = x.next; atoms = z })) i w)

      pub arrival_stopped : {f : Refused} {regions : List Region} → AtomsJudged us vs bytes regions m p (Err f) bytes end (record { at = x.next; atoms = number })
          → ArrivalJudged ws vs bytes regions path p (Err f) (term_at ws credit) end at
      unfolding arrival
      arrival_stopped w = record {
        judges = λ policy k a q last credits others.
            let pair : ◌≡◌ {A = Term × ℕ} (a.credit, q) (found.term, x.next) = same_value (sym credits ∙ found.read) in
            judges_stopped _ ((arrived w).judges policy k a.atoms last (read_from _ _ _ (ap (λ z. z.1) pair) others));
        left = (arrived w).left;
      }

      module _ {q : Progress} {regions : List Region} (w : AtomsJudged us vs bytes regions m p (Ok q) bytes end (record { at = x.next; atoms = number })) (l' : length vs ≡ length us) where
        -- the nodes of the credit and of what is owed
        credit_found : NodeIn us m credit
        credit_found = subst (λ (z : Path). NodeIn us z credit) (sym e) (node_raised x.top found.above.grows (node_kept found.above.kept n))

        owed_found : NodeIn us m x.node
        owed_found = subst (λ (z : Path). NodeIn us z x.node) (sym e) found.node

        pub owed_asks : Going vs bytes credit_room m q × (NodeIn vs m credit × NodeIn vs m x.node)
        owed_asks = (then_going arrival_asks w.left l' credit_room (omega arith), (node_kept w.left.kept credit_found, node_kept w.left.kept owed_found))

        pub arrival_judged : {xs : List ℕ} {s : Result Progress Refused} → CreditsJudged vs xs bytes regions m q s (term_at vs credit) (term_at vs x.node) → ArrivalJudged ws xs bytes regions path p s (term_at ws credit) end at
        unfolding arrival
        arrival_judged {xs} {s} h =
            let there = arrived w in
            let c : term_at vs credit ≡ term_at ws credit = node_same there.left.kept n in
            let o : term_at vs x.node ≡ substitute (map (term_at ws) path.registers) found.term = node_same w.left.kept owed_found ∙ found.is in
            let g : CreditsJudged ws xs bytes regions path q s (term_at ws credit) (substitute (map (term_at ws) path.registers) found.term) = rw (← c, ← o) (raised_credits y.inside found.above.grows there.left.kept e h) in
            record {
              judges = λ policy k a j last credits others.
                  let pair : ◌≡◌ {A = Term × ℕ} (a.credit, j) (found.term, x.next) = same_value (sym credits ∙ found.read) in
                  rw (ap (λ z. z.0) pair) (judges_both (there.judges policy k a.atoms last (read_from _ _ _ (ap (λ z. z.1) pair) others)) (g.judges policy k));
              left = g.left;
            }

-- Laws of the functions that derive one goal and the goals of atoms, one for each way out, and of a path with more nodes in the table. Assumes nothing.
use mathlib.Core.Path.{◌≡◌, refl, sym, subst, ◌∙◌}
use mathlib.Core.List.{List, [], ◌∷◌, map}
use Prim.Native.Nat.{ℕ, ◌+◌, ◌-◌, ◌<◌, ◌≤◌}
use native.Mathlib.Omega.{arith}
use lib.ListN.{length}
use Rattle.std.specs.Result.{MatchResult}
use Rattle.model.specs.Result.{Result, Ok, Err, map_ok}
use Rattle.model.specs.Atom.{Atom, substitute_atom}
use Rattle.model.specs.Policy.{Policy}
use Rattle.model.specs.Expression.{register_count}
use Rattle.model.specs.Goals.{Claim as ModelClaim, Path as ModelPath, atom, goal_of, atom_goals}
use Rattle.model.specs.Derivation.{most_levels}
use Rattle.model.specs.declared.ReadError.{ReadError}
use Rattle.model.specs.declared.Refusal.{Refusal}
use Rattle.workspace.specs.Layout.{Same}
use Rattle.nodes.specs.Table.{place, term_at}
use Rattle.nodes.specs.declared.Atom.{Atom as NodeAtom}
use Rattle.leaf_reader.specs.declared.sources.Source.{Source}
use Rattle.atom_reader.specs.AtomReader.{AtomGrown, atom_answer, atom_read}
use Rattle.atom_reader.specs.declared.AtomParsed.{AtomParsed}
use Rattle.workspace.proofs.Frames.{same_refl, same_trans, same_within}
use Rattle.workspace.specs.Room.{derivation_room, atom_room}
use Rattle.policy.specs.declared.Condition.{Condition}
use Rattle.claims.specs.Parts.{claim_of}
use Rattle.claims.specs.declared.Claim.{Claim}
use Rattle.claims.specs.declared.Claim.TheVariants.{Atom as AtomClaim}
use Rattle.derivation.specs.Deriving.{Derives, Judged}
use Rattle.model.specs.declared.Region.{Region}
use Rattle.paths.specs.declared.Path.{Path}
use Rattle.refusals.specs.declared.Refused.{Refused}
use Rattle.goals.specs.declared.Progress.{Progress}
use Rattle.goals.specs.Judging.{Judges}
use Rattle.paths.specs.Walking.{path_of, raised_to, scope_of, OverRegisters, NodeIn, ClaimIn, PathIn}
use Rattle.goals.specs.Room.{Going}
use Rattle.goals.specs.Settling.{Left, GoalJudged, AtomsJudged}
use Rattle.paths.proofs.Reading.{no_atoms, first_atom, after_atom}
use Rattle.goals.proofs.Judging.{judges_none, judges_refused, judges_derived, judges_stopped, judges_both}
use Rattle.paths.proofs.Walking.{path_same, Above}
use Rattle.goals.proofs.Room.{going_kept, going_above}
use Rattle.paths.proofs.Found.{AtomFound, atom_found, source_atom, not_mapped}

-- ---- one goal
module _ {ws : List ℕ} {bytes : List ℕ} {regions : List Region} {path : Path} {p : Progress} (y : Going ws bytes derivation_room path p) where
  -- a goal of the path is judged in its scope
  judged : (claim : ModelClaim) (policy : Policy) → policy.regions ≡ regions → Judged regions ws (scope_of path) policy (goal_of (path_of ws path) claim)
  judged claim policy k = record { regions_are = k; assumptions = refl; variables = refl }

  -- what comes of the derivation; Q is what is known where it is refused
  module _ {us : List ℕ} {claim : Claim} {Q : Refusal → Type 0} where
    pub goal_judged : (m : Result ℕ Refusal) (r : Result ℕ Refused) → Derives bytes regions ws us (scope_of path) most_levels path.top claim p.at m → ((e : Refusal) → Q e → r ≡ Err (record { refusal = e; goals = p.goals })) → MatchResult m (λ q. r ≡ Ok q) Q
        → GoalJudged ws us bytes regions path p (map_ok (λ q. record { at = q; goals = p.goals + 1 }) r) (claim_of ws claim)
    goal_judged (Ok q) r w counts e = rw e (record {
      judges = λ policy k. judges_derived _ (w.answer policy _ (judged _ policy k));
      left = record { kept = w.kept; reached = record { within = w.onward.1; counted = omega (arith, y.reached.counted, w.onward.0) } };
    })
    goal_judged (Err f) r w counts e = rw (counts f e) (record {
      judges = λ policy k. judges_refused _ (w.answer policy _ (judged _ policy k));
      left = record { kept = w.kept; reached = tt };
    })

-- ---- the path with more nodes in the table
-- what is left below its top
pub left_below : {ws us vs bytes : List ℕ} {path : Path} {r : Result Progress Refused} (t : ℕ) → path.top ≤ t → Same 0 (place path.top) ws us → Left us vs bytes (raised_to path t) r
    → Left ws vs bytes path r
left_below {path = path} t h s l = record { kept = same_trans s (same_within 0 (place path.top) (omega arith) (omega arith) l.kept); reached = l.reached }

pub raised_goal : {ws us vs : List ℕ} {bytes : List ℕ} {regions : List Region} {path m : Path} {p : Progress} {r : Result Progress Refused} {claim : ModelClaim} {t n : ℕ} → PathIn ws path → Above ws us path t n → m ≡ raised_to path t
    → GoalJudged us vs bytes regions m p r claim → GoalJudged ws vs bytes regions path p r claim
raised_goal {us = us} {vs} {bytes} {regions} {path} {p = p} {r} {claim} {t} y a e g =
    let h = subst (λ (x : Path). GoalJudged us vs bytes regions x p r claim) e g in
    record {
      judges = λ policy k. subst (λ (s : ModelPath). Judges bytes policy (goal_of s claim ∷ []) p r) (path_same a.kept y) (h.judges policy k);
      left = left_below t a.grows a.kept h.left;
    }

pub raised_atoms : {ws us vs source : List ℕ} {bytes : List ℕ} {regions : List Region} {path m : Path} {p : Progress} {r : Result Progress Refused} {end : ℕ} {condition : Condition} {t n : ℕ} → PathIn ws path → Above ws us path t n
    → m ≡ raised_to path t → AtomsJudged us vs bytes regions m p r source end condition → AtomsJudged ws vs bytes regions path p r source end condition
raised_atoms {us = us} {vs} {source} {bytes} {regions} {path} {p = p} {r} {end} {condition} {t} y a e g =
    let h = subst (λ (x : Path). AtomsJudged us vs bytes regions x p r source end condition) e g in
    record {
      judges = λ policy k atoms next i. subst (λ (s : ModelPath). Judges bytes policy (atom_goals s atoms) p r) (path_same a.kept y) (h.judges policy k atoms next i);
      left = left_below t a.grows a.kept h.left;
    }

-- what `goal` asks, for an atom over nodes of it
pub raised_asks : {ws us bytes : List ℕ} {room : ℕ} {path m : Path} {p : Progress} {a : NodeAtom} {t n : ℕ} → n + derivation_room ≤ room → Going ws bytes room path p → Above ws us path t n
    → m ≡ raised_to path t → length us ≡ length ws → NodeIn us (raised_to path t) a.left → NodeIn us (raised_to path t) a.right → Going us bytes derivation_room m p × ClaimIn us m (AtomClaim a)
raised_asks {us = us} {bytes} {p = p} {a} k y b e l i j = (
  subst (λ (x : Path). Going us bytes derivation_room x p) (sym e) (going_above derivation_room k b l y),
  subst (λ (x : Path). ClaimIn us x (AtomClaim a)) (sym e) (record { below = (i.below, j.below); bound = (i.bound, j.bound) }),
)

-- ---- atoms
-- so many atoms are judged, and what comes of all is what comes of those that are left
pub record Passed (ws us source bytes : List ℕ) (regions : List Region) (path : Path) (p q : Progress) (end : ℕ) (condition : Condition) (passed at : ℕ) : Type 0 where
  pub going : Going us bytes atom_room path q
  pub rest : {vs : List ℕ} {r : Result Progress Refused} → AtomsJudged us vs bytes regions path q r source end (record { at = at; atoms = condition.atoms - passed }) → AtomsJudged ws vs bytes regions path p r source end condition

module _ {ws source bytes : List ℕ} {regions : List Region} {path : Path} {p : Progress} {end : ℕ} {condition : Condition} where
  pub none_passed : Going ws bytes atom_room path p → Passed ws ws source bytes regions path p p end condition 0 condition.at
  none_passed y = let all : condition.atoms - 0 ≡ condition.atoms = omega arith in record { going = y; rest = λ w. rw all at w }

  module _ {us : List ℕ} {q : Progress} {passed at : ℕ} (y : Passed ws us source bytes regions path p q end condition passed at) where
    pub all_passed : condition.atoms ≤ passed → AtomsJudged ws us bytes regions path p (Ok q) source end condition
    all_passed h = y.rest (record {
      judges = λ policy k atoms next e. subst (λ (x : List Atom). Judges bytes policy (atom_goals (path_of us path) x) q (Ok q)) (no_atoms source end register_count at (omega arith) e) judges_none;
      left = record { kept = same_refl 0 (place path.top) us; reached = y.going.reached };
    })

    module _ {vs : List ℕ} {over : Source} (h : passed < condition.atoms) (o : OverRegisters path source end over) where
      -- they have been read before
      module _ {r : Result AtomParsed ReadError} (grown : AtomGrown us vs over.end path.top r) (read : atom_answer vs r ≡ atom_read us over at) where
        pub atom_unread : {x : Refused} → (e : ReadError) × (r ≡ Err e) → AtomsJudged ws vs bytes regions path p (Err x) source end condition
        atom_unread i = y.rest (record {
          judges = λ policy k atoms next e. absurd (not_mapped _ _ (rw i.1 at read ∙ source_atom o us at) (first_atom source end register_count at h e).1);
          left = record { kept = grown.kept; reached = tt };
        })

        module _ {m : Path} {x : AtomParsed} (i : r ≡ Ok x) (l : length vs ≡ length us) (e : m ≡ raised_to path x.top) where
          found : AtomFound us vs source path end at x
          found = atom_found y.going.inside l o (rw i at grown) (rw i at read)

          pub atom_asks : Going vs bytes derivation_room m q × ClaimIn vs m (AtomClaim x.atom)
          atom_asks = raised_asks (omega arith) y.going found.above e l found.left_node found.right_node

          -- the goal of the atom
          one_atom : {zs : List ℕ} {r : Result Progress Refused} → GoalJudged vs zs bytes regions m q r (claim_of vs (AtomClaim x.atom))
              → GoalJudged us zs bytes regions path q r (atom (substitute_atom (map (term_at us) path.registers) found.term))
          one_atom {zs} {r} g = subst (λ (z : Atom). GoalJudged us zs bytes regions path q r (atom z)) found.is (raised_goal y.going.inside found.above e g)

          pub atom_stopped : {zs : List ℕ} {f : Refused} → GoalJudged vs zs bytes regions m q (Err f) (claim_of vs (AtomClaim x.atom)) → AtomsJudged ws zs bytes regions path p (Err f) source end condition
          atom_stopped {f = f} g = y.rest (record {
            judges = λ policy k atoms last i.
                let o = after_atom source end register_count at h i found.read in
                subst (λ (l : List Atom). Judges bytes policy (atom_goals (path_of us path) l) q (Err f)) o.all (judges_stopped (atom_goals (path_of us path) o.rest) ((one_atom g).judges policy k));
            left = (one_atom g).left;
          })

          module _ {zs : List ℕ} {t : Progress} (g : GoalJudged vs zs bytes regions m q (Ok t) (claim_of vs (AtomClaim x.atom))) where
            -- those that are left are this one and the others
            atom_then : {xs : List ℕ} {s : Result Progress Refused} → AtomsJudged zs xs bytes regions path t s source end (record { at = x.next; atoms = condition.atoms - (passed + 1) })
                → AtomsJudged us xs bytes regions path q s source end (record { at = at; atoms = condition.atoms - passed })
            atom_then {s = s} w = record {
              judges = λ policy k atoms last i.
                  let o = after_atom source end register_count at h i found.read in
                  let rest : Judges bytes policy (atom_goals (path_of us path) o.rest) t s =
                  subst (λ (z : ModelPath). Judges bytes policy (atom_goals z o.rest) t s) (path_same (one_atom g).left.kept y.going.inside) (w.judges policy k o.rest last o.later) in
                  subst (λ (l : List Atom). Judges bytes policy (atom_goals (path_of us path) l) q s) o.all (judges_both ((one_atom g).judges policy k) rest);
              left = record { kept = same_trans (one_atom g).left.kept w.left.kept; reached = w.left.reached };
            }

            pub atom_passed : length zs ≡ length vs → Passed ws zs source bytes regions path p t end condition (passed + 1) x.next
            atom_passed i = record { going = going_kept (one_atom g).left.kept (i ∙ l) (one_atom g).left.reached y.going; rest = λ w. y.rest (atom_then w) }

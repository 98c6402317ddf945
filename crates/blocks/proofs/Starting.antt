-- Laws of a block's start: one for each way out. Assumes nothing.
use mathlib.Core.Path.{◌≡◌, refl, sym, ap, subst, ◌∙◌}
use mathlib.Core.Logic.{⊎_elim}
use mathlib.Core.List.{List, [], ◌∷◌, map, append-nil, append_assoc}
use Prim.Native.Nat.{ℕ, ◌+◌, ◌-◌, ◌<◌, ◌≤◌}
use native.Mathlib.Nat.{eq-or-lt_of_le, le_of_suc-le-suc}
use native.Mathlib.Numerals.{add-one}
use native.Mathlib.Omega.{arith}
use lib.ListN.{length, get_or}
use Rattle.model.specs.Result.{Ok, Err}
use Rattle.model.specs.Term.{Term, constant, variable}
use Rattle.model.specs.Expression.{register_count, expression_at, atom_at, atoms_at, most_nodes}
use Rattle.model.specs.declared.ReadError.{ReadError}
use Rattle.model.specs.Atom.{Atom, most_atoms}
use Rattle.model.specs.Linear.{variable_bound}
use Rattle.model.specs.Goals.{Path as ModelPath, register_variables, block_start, assuming}
use Rattle.model.specs.Verdict.{least_workspace}
use Rattle.workspace.specs.Layout.{most_assumptions, table_base, Same}
use Rattle.workspace.proofs.Frames.{same_refl, same_trans, same_within}
use Rattle.nodes.specs.Atoms.{atom_in}
use Rattle.nodes.specs.Table.{place, term_at, Formed, Space, Put}
use Rattle.nodes.proofs.Table.{term_same}
use Rattle.leaf_reader.specs.Leaves.{Ready, Grown, variable_term}
use Rattle.leaf_reader.specs.declared.Parsed.{Parsed}
use Rattle.leaf_reader.specs.declared.sources.Source.{Source}
use Rattle.term_reader.specs.Reader.{RegisterTerms, expression_over, expression_in}
use Rattle.term_reader.proofs.Substitution.{expression_self}
use Rattle.atom_reader.specs.AtomReader.{atom_over, atom_read, AtomGrown}
use Rattle.atom_reader.specs.declared.AtomParsed.{AtomParsed}
use Rattle.atom_reader.proofs.Substitution.{atom_self}
use Rattle.assumptions.specs.Area.{listed, Listed, Pushed}
use Rattle.assumptions.proofs.Laws.{pushed_table}
use Rattle.rule_reader.specs.Opening.{register_nodes}
use Rattle.rule_reader.proofs.OpeningLaws.{register_below}
use Rattle.policy.specs.declared.Condition.{Condition}
use Rattle.annotations.specs.declared.reading.Annotated.{Annotated}
use Rattle.paths.specs.declared.Path.{Path}
use Rattle.paths.specs.Walking.{path_of, raised_to, OverRegisters, NodeIn, PathIn, Kept}
use Rattle.paths.proofs.Reading.{same_value, no_atoms, first_atom, after_atom}
use Rattle.paths.proofs.Kept.{map_same, map_at, node_wider, node_held, registers_equal, path_equal, prepared_held, path_held}
use Rattle.paths.proofs.Walking.{node_kept, path_same, path_kept, Above, above_put, path_ready}
use Rattle.paths.proofs.Found.{TermFound, AtomFound, term_found, atom_found, source_term, source_atom, not_mapped}
use Rattle.blocks.specs.Starting.{assumed_path, Assumed, Workspace, Variables, start_path, Started, Fresh, assuming_all, AllAssumed, BlockIn, EntryBlock, AnnotationBlock}

-- ---- an assumption more
module _ {ws us : List ℕ} {path : Path} {a : Atom} (y : PathIn ws path) (c : path.assumptions < most_assumptions) (q : Pushed ws us path.assumptions path.top a) (l : length us ≡ length ws) where
  kept_path : Kept ws us path
  kept_path = record { low = q.below; table = pushed_table c y.prepared.formed q }

  pub assumed : Assumed ws us path a (assumed_path path)
  assumed = record {
    form = refl;
    inside = record {
      prepared = prepared_held kept_path y l (subst (λ n. Listed us n path.top) (sym (add-one path.assumptions)) q.held);
      sixteen = y.sixteen;
      held = λ v k. node_wider (omega arith) (omega arith) (node_held kept_path (y.held v k));
      run = y.run;
    };
    is = λ i. record {
      counter = path.counter;
      steps = path.steps;
      registers = registers_equal kept_path y i;
      variables = path.variables;
      assumptions = (ap (listed us) (add-one path.assumptions) ∙ q.is) i;
    };
    still = path_held kept_path y l;
    same = path_equal kept_path y;
    low = kept_path.low;
    table = kept_path.table;
  }

-- ---- the variables, one after the other
pub variables_more : {ws us vs : List ℕ} {n : ℕ} → Variables ws us n → Put us vs n (variable n) → Variables ws vs (n + 1)
variables_more {vs = vs} {n} f q = record {
  kept = same_trans f.kept (same_within 0 table_base (omega arith) (omega arith) q.kept);
  formed = subst (Formed vs) (sym (add-one n)) q.formed;
  are = λ v k. ⊎_elim
      (λ e. subst (λ i. term_at vs i ≡ variable i) (sym e) q.is)
      (λ m. term_same n (same_within table_base (place n) (omega arith) (omega arith) q.kept) v m ∙ f.are v m)
      (eq-or-lt_of_le (le_of_suc-le-suc (rw (← add-one n) k)));
}

-- ---- the start
module _ {ws us : List ℕ} (w : Workspace ws) (f : Variables ws us register_count) (index : ℕ) where
  start_terms : map (term_at us) register_nodes ≡ register_variables
  start_terms = map_same (term_at us) variable register_nodes (λ v h. f.are (get_or register_nodes v 0) (register_below v h))

  start_in : PathIn us (start_path index)
  unfolding variable_bound
  start_in = record {
    prepared = record {
      formed = f.formed;
      above = omega arith;
      registers = record { is = λ v h. sym (map_at (term_at us) register_nodes v (constant 0) h) ∙ ap (λ l. get_or l v (constant 0)) start_terms };
      most = omega arith;
      assumed = record { few = omega arith; held = λ k h. absurd (omega arith) };
      cleared = record { word = λ k h. f.kept.word k (omega arith) (omega arith) ∙ w.cleared.word k h };
    };
    sixteen = refl;
    held = λ v h. record { below = register_below v h; bound = rw (f.are (get_or register_nodes v 0) (register_below v h)) (omega (arith, register_below v h)) };
    run = omega arith;
  }

  pub started : Started us index (start_path index)
  unfolding listed
  started = record { form = refl; inside = start_in; is = ap {B = ModelPath} (λ l. record { counter = index; steps = 0; registers = l; variables = register_count; assumptions = [] }) start_terms }

-- ---- what is read over variables that stand for themselves
own_registers : {ws registers : List ℕ} → length registers ≡ register_count → map (term_at ws) registers ≡ register_variables → RegisterTerms ws registers register_variables
own_registers {ws} {registers} n e = record { is = λ v h. sym (map_at (term_at ws) registers v (constant 0) (omega arith)) ∙ ap (λ l. get_or l v (constant 0)) e }

module _ {ws : List ℕ} {path : Path} (y : PathIn ws path) (own : map (term_at ws) path.registers ≡ register_variables) (bytes : List ℕ) (end at : ℕ) where
  own_atom : atom_over (variable_term ws path.registers) (atom_at bytes end register_count at) ≡ atom_at bytes end register_count at
  own_atom = atom_self (own_registers y.sixteen own) (atom_at bytes end register_count at)

  own_term : expression_over (variable_term ws path.registers) (expression_at bytes end register_count at) ≡ expression_at bytes end register_count at
  own_term = expression_self (own_registers y.sixteen own) (expression_at bytes end register_count at)

-- ---- atoms that are assumed
all_none : (s : ModelPath) → s ≡ assuming_all s []
all_none s = λ i. record { counter = s.counter; steps = s.steps; registers = s.registers; variables = s.variables; assumptions = sym (append-nil s.assumptions) i }

all_more : (s : ModelPath) (a : Atom) (rest : List Atom) → assuming_all (assuming s a) rest ≡ assuming_all s (a ∷ rest)
all_more s a rest = λ i. record { counter = s.counter; steps = s.steps; registers = s.registers; variables = s.variables; assumptions = append_assoc s.assumptions (a ∷ []) rest i }

-- so many atoms are assumed, and what comes of all is what comes of those that are left
pub record Passed (ws us bytes : List ℕ) (path now : Path) (end : ℕ) (over : Source) (condition : Condition) (passed at : ℕ) : Type 0 where
  pub fresh : Fresh us now (condition.atoms - passed)
  pub source : OverRegisters now bytes end over
  pub rest : {vs : List ℕ} {r : Path} → AllAssumed us vs now bytes end (record { at = at; atoms = condition.atoms - passed }) r → AllAssumed ws vs path bytes end condition r

module _ {ws bytes : List ℕ} {path : Path} {end : ℕ} {over : Source} {condition : Condition} where
  module _ {us : List ℕ} {now : Path} {passed at : ℕ} (y : Passed ws us bytes path now end over condition passed at) where
    -- the path is answered as it is
    ended : {vs : List ℕ} → Same 0 (place now.top) us vs → length vs ≡ length us
        → ((atoms : List Atom) (next : ℕ) → atoms_at bytes end register_count (condition.atoms - passed) at ≡ Ok (atoms, next) → path_of vs now ≡ assuming_all (path_of us now) atoms) → AllAssumed ws vs path bytes end condition now
    ended s l is = y.rest (record {
      inside = path_kept s y.fresh.inside l;
      is = is;
      table = same_within table_base (place now.top) (omega arith) (omega arith) s;
      grows = omega arith;
      few = omega arith;
      more = omega arith;
      counter = refl;
      steps = refl;
      variables = refl;
    })

    pub all_passed : condition.atoms ≤ passed → AllAssumed ws us path bytes end condition now
    all_passed h = ended (same_refl 0 (place now.top) us) refl (λ atoms next e. all_none (path_of us now) ∙ ap (assuming_all (path_of us now)) (no_atoms bytes end register_count at (omega arith) e))

    module _ {vs : List ℕ} (h : passed < condition.atoms) (l : length vs ≡ length us) where
      pub atom_unread : {e : ReadError} → AtomGrown us vs over.end now.top (Err e) → Err e ≡ atom_read us over at → AllAssumed ws vs path bytes end condition now
      atom_unread g a = ended g.kept l (λ atoms next e. absurd (not_mapped _ _ (a ∙ source_atom y.source us at) (first_atom bytes end register_count at h e).1))

      -- the atom that is read
      module _ {m : Path} {x : AtomParsed} (g : AtomGrown us vs over.end now.top (Ok x)) (a : Ok (atom_in vs x.atom, x.next) ≡ atom_read us over at) (e : m ≡ raised_to now x.top) where
        found : AtomFound us vs bytes now end at x
        found = atom_found y.fresh.inside l y.source g a

        pub raised_in : PathIn vs m
        raised_in = subst (PathIn vs) (sym e) found.above.inside

        module _ {xs : List ℕ} {more : Path} (z : Assumed vs xs m (atom_in vs x.atom) more) where
          -- the path with the atom assumed
          one : path_of xs more ≡ assuming (path_of us now) (atom_in vs x.atom)
          one = z.is ∙ ap (λ s. assuming s (atom_in vs x.atom)) (ap (path_of vs) e ∙ path_same found.above.kept y.fresh.inside)

          form : more ≡ assumed_path (raised_to now x.top)
          form = z.form ∙ ap assumed_path e

          top_is : more.top ≡ x.top
          top_is = ap (λ (p : Path). p.top) form

          one_more : more.assumptions ≡ now.assumptions + 1
          one_more = ap (λ (p : Path). p.assumptions) form

          first_table : Same table_base (place now.top) us xs
          first_table =
              let top : m.top ≡ x.top = ap (λ (p : Path). p.top) e in
              same_trans (same_within table_base (place now.top) (omega arith) (omega arith) found.above.kept) (same_within table_base (place now.top) (omega arith) (omega (arith, found.above.grows)) z.table)

          atom_then : {zs : List ℕ} {p : Path} → AllAssumed xs zs more bytes end (record { at = x.next; atoms = condition.atoms - (passed + 1) }) p → AllAssumed us zs now bytes end (record { at = at; atoms = condition.atoms - passed }) p
          atom_then w = record {
            inside = w.inside;
            is = λ atoms last i.
                let f = after_atom bytes end register_count at h i (sym (a ∙ source_atom y.source us at ∙ own_atom y.fresh.inside y.fresh.own bytes end at)) in
                w.is f.rest last f.later
                ∙ ap (λ s. assuming_all s f.rest) one
                ∙ all_more (path_of us now) (atom_in vs x.atom) f.rest
                ∙ ap (assuming_all (path_of us now)) f.all;
            table = same_trans first_table (same_within table_base (place now.top) (omega arith) (omega (arith, top_is, found.above.grows)) w.table);
            grows = omega (arith, w.grows, top_is, found.above.grows);
            few = omega (arith, w.few, top_is, found.above.few);
            more = omega (arith, w.more, one_more);
            counter = w.counter ∙ ap (λ (s : ModelPath). s.counter) one;
            steps = w.steps ∙ ap (λ (s : ModelPath). s.steps) one;
            variables = w.variables ∙ ap (λ (s : ModelPath). s.variables) one;
          }

          pub atom_passed : length xs ≡ length vs → Passed ws xs bytes path more end over condition (passed + 1) x.next
          atom_passed i = record {
            fresh = record {
              inside = z.inside;
              own = ap (λ (p : ModelPath). p.registers) one ∙ y.fresh.own;
              space = record { words = omega (arith, y.fresh.space.words); fits = omega (arith, y.fresh.space.fits, top_is, found.above.few) };
              few = omega (arith, y.fresh.few, one_more);
            };
            source = record { bytes_are = y.source.bytes_are; end_is = y.source.end_is; limit_is = y.source.limit_is; registers_are = y.source.registers_are ∙ sym (ap (λ (p : Path). p.registers) form) };
            rest = λ w. y.rest (atom_then w);
          }

-- ---- blocks
module _ {us : List ℕ} {index : ℕ} {first : Path} (s : Started us index first) where
  start_path_lem : PathIn us (start_path index)
  start_path_lem = subst (PathIn us) s.form s.inside

  start_is : path_of us (start_path index) ≡ block_start index []
  start_is = subst (λ (x : Path). path_of us x ≡ block_start index []) s.form s.is

  pub start_ready : least_workspace ≤ length us → Ready us first.registers register_count most_nodes
  start_ready w =
      let room : Space us register_count most_nodes = record { words = w; fits = omega arith } in
      subst (λ (x : Path). Ready us x.registers register_count most_nodes) (sym s.form) (path_ready most_nodes (omega arith) start_path_lem room)

  -- with the credit above the variables
  module _ {vs : List ℕ} {m : Path} {t n : ℕ} (a : Above us vs (start_path index) t n) (e : m ≡ raised_to first t) where
    raised_is : m ≡ raised_to (start_path index) t
    raised_is = e ∙ ap (λ (x : Path). raised_to x t) s.form

    above_is : path_of vs m ≡ block_start index []
    above_is = ap (path_of vs) raised_is ∙ path_same a.kept start_path_lem ∙ start_is

    pub block_asks : {number : ℕ} → number ≤ most_atoms → n ≤ most_nodes → least_workspace ≤ length vs → Fresh vs m number
    block_asks h k w = record {
      inside = subst (PathIn vs) (sym raised_is) a.inside;
      own = ap (λ (x : ModelPath). x.registers) above_is;
      space = record { words = w; fits = omega (arith, ap (λ (x : Path). x.top) raised_is, a.few) };
      few = omega (arith, ap (λ (x : Path). x.assumptions) raised_is);
    }

    module _ {xs bytes : List ℕ} {end credit : ℕ} {condition : Condition} {p : Path} (c : NodeIn vs (raised_to (start_path index) t) credit) (w : AllAssumed vs xs m bytes end condition p) where
      pub block_credit : term_at xs credit ≡ term_at vs credit
      block_credit = term_same m.top w.table credit (omega (arith, ap (λ (x : Path). x.top) raised_is, c.below))

      pub block_in : condition.atoms ≤ most_atoms → n ≤ most_nodes → BlockIn xs index (record { path = p; credit = credit })
      block_in h k = record {
        inside = w.inside;
        credit = record {
          below = omega (arith, ap (λ (x : Path). x.top) raised_is, c.below, w.grows);
          bound = rw block_credit (omega (arith, c.bound, w.variables, ap (λ (x : Path). x.variables) raised_is));
        };
        counter = w.counter ∙ ap (λ (x : Path). x.counter) raised_is;
        steps = w.steps ∙ ap (λ (x : Path). x.steps) raised_is;
        variables = w.variables ∙ ap (λ (x : Path). x.variables) raised_is;
        few = omega (arith, w.few, ap (λ (x : Path). x.top) raised_is, a.few);
        more = omega (arith, w.more, ap (λ (x : Path). x.assumptions) raised_is);
      }

      pub block_is : (atoms : List Atom) (next : ℕ) → atoms_at bytes end register_count condition.atoms condition.at ≡ Ok (atoms, next) → path_of xs p ≡ block_start index atoms
      block_is atoms next h = w.is atoms next h ∙ ap (λ x. assuming_all x atoms) above_is

  -- the block at instruction 0
  module _ {vs : List ℕ} {limit : ℕ} (q : Put us vs register_count (constant limit)) (l : length vs ≡ length us) where
    pub entry_above : Above us vs (start_path index) 17 1
    entry_above = above_put start_path_lem q l

    entry_node : NodeIn vs (raised_to (start_path index) (register_count + 1)) register_count
    unfolding variable_bound
    entry_node = record { below = omega arith; bound = rw q.is (omega arith) }

    pub entry_block_lem : {xs conditions : List ℕ} {precondition : Condition} {m p : Path} → precondition.atoms ≤ most_atoms → index ≡ 0 → m ≡ raised_to first (register_count + 1)
        → AllAssumed vs xs m conditions (length conditions) precondition p → EntryBlock xs conditions precondition limit (record { path = p; credit = register_count })
    entry_block_lem {xs} {p = p} f z e w = record {
      block = subst (λ i. BlockIn xs i (record { path = p; credit = register_count })) z (block_in entry_above e entry_node w f (omega arith));
      credit = block_credit entry_above e entry_node w ∙ q.is;
      is = λ atoms next h. subst (λ i. path_of xs p ≡ block_start i atoms) z (block_is entry_above e entry_node w atoms next h);
    }

  -- a source over its registers
  over_start : {bytes : List ℕ} {end : ℕ} {over : Source} → OverRegisters first bytes end over → OverRegisters (start_path index) bytes end over
  over_start {bytes} {end} {over} o = subst (λ (x : Path). OverRegisters x bytes end over) s.form o

  -- the block at an annotation
  module _ {vs : List ℕ} (bytes : List ℕ) {end : ℕ} {over : Source} (annotated : Annotated) (i : index ≡ annotated.index) (o : OverRegisters first bytes end over) (l : length vs ≡ length us) where
    pub annotation_unread : {e : ReadError} → Grown us vs over.end register_count most_nodes (Err e) → Err e ≡ expression_in us over (annotated.at + 3) → AnnotationBlock vs bytes end annotated (record { path = first; credit = 0 })
    annotation_unread g a = subst (λ (x : Path). AnnotationBlock vs bytes end annotated (record { path = x; credit = 0 })) (sym s.form) (record {
      block = record {
        inside = path_kept g.kept start_path_lem l;
        credit = node_kept g.kept (start_path_lem.held 0 (omega arith));
        counter = i;
        steps = refl;
        variables = refl;
        few = omega arith;
        more = omega arith;
      };
      is = λ x q next e f. absurd (not_mapped _ _ (a ∙ source_term (over_start o) us (annotated.at + 3)) e);
    })

    module _ {x : Parsed} (g : Grown us vs over.end register_count most_nodes (Ok x)) (a : Ok (term_at vs x.node, x.next) ≡ expression_in us over (annotated.at + 3)) where
      pub annotation_found : TermFound us vs bytes (start_path index) end (annotated.at + 3) x
      annotation_found = term_found start_path_lem l (over_start o) g a

      pub annotation_block_lem : {xs : List ℕ} {number : ℕ} {m p : Path} → number ≡ get_or bytes (annotated.at + 2) 0 → get_or bytes (annotated.at + 2) 0 ≤ most_atoms → m ≡ raised_to first x.top
          → AllAssumed vs xs m bytes end (record { at = x.next; atoms = number }) p → AnnotationBlock xs bytes end annotated (record { path = p; credit = x.node })
      annotation_block_lem {xs} {number} {m} {p} k h e w = record {
        block = subst (λ n. BlockIn xs n (record { path = p; credit = x.node })) i (block_in annotation_found.above e annotation_found.node w (omega arith) (omega arith));
        is = λ y q last read others.
            let own = own_term start_path_lem (ap (λ (z : ModelPath). z.registers) start_is) bytes end (annotated.at + 3) in
            let pair : ◌≡◌ {A = Term × ℕ} (term_at vs x.node, x.next) (y.credit, q) = same_value (a ∙ source_term (over_start o) us (annotated.at + 3) ∙ own ∙ read) in (
              block_credit annotation_found.above e annotation_found.node w ∙ ap (λ z. z.0) pair,
              subst (λ n. path_of xs p ≡ block_start n y.atoms) i (block_is annotation_found.above e annotation_found.node w y.atoms last (rw (k, ap (λ z. z.1) pair) others)),
            );
      }

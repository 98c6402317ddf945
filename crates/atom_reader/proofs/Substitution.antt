-- Laws of an atom read over other terms: over the variables themselves, and over the registers' terms. Assumes nothing.
use mathlib.Core.Path.{◌≡◌, refl, sym, ap, ap₂, ◌∙◌, fun_ext}
use mathlib.Core.List.{List}
use Prim.Native.Nat.{ℕ, ◌+◌, ◌<◌}
use lib.ListN.{get_or, get_elem?}
use Rattle.model.specs.Result.{Result, Err, Ok, found, map_ok}
use Rattle.model.specs.Term.{Term, constant}
use Rattle.model.specs.Atom.{Atom, substitute_atom}
use Rattle.model.specs.Field.{byte_at}
use Rattle.model.specs.declared.ReadError.{ReadError}
use Rattle.model.specs.declared.ReadError.TheVariants.{Fault}
use Rattle.model.specs.Expression.{comparisons, expression_at, atom_at, register_count}
use Rattle.model.specs.Goals.{register_variables}
use Rattle.leaf_reader.specs.Leaves.{variable_term}
use Rattle.leaf_reader.proofs.Leaves.{variable_register}
use Rattle.term_reader.specs.Reader.{RegisterTerms}
use Rattle.term_reader.proofs.Substitution.{over_variable, over_registers, bind_agree, expression_agree, variables_self}
use Rattle.atom_reader.specs.AtomReader.{atom_over}
use Rattle.atom_reader.proofs.Reading.{two_sides, sides_over}

-- terms that agree on the variables below the limit give the same
module _ (bytes : List ℕ) (end limit : ℕ) (σ τ : ℕ → Term) (agree : (v : ℕ) → v < limit → σ v ≡ τ v) where
  pub atom_agree : (p : ℕ) → atom_over σ (atom_at bytes end limit p) ≡ atom_over τ (atom_at bytes end limit p)
  unfolding atom_at
  atom_agree p =
      bind_agree _ _ (byte_at bytes end p) _ (λ tag. bind_agree _ _ (found (get_elem? comparisons tag) (Fault p)) _ (λ kind.
      sides_over σ kind (expression_at bytes end limit (p + 1)) (λ q. expression_at bytes end limit q)
      ∙ ap₂ (λ x y. two_sides kind x y) (expression_agree bytes end limit σ τ agree (p + 1)) (fun_ext (λ q. expression_agree bytes end limit σ τ agree q))
      ∙ sym (sides_over τ kind (expression_at bytes end limit (p + 1)) (λ q. expression_at bytes end limit q))))

-- what is read has each variable replaced by the term of its register
module _ {ws registers : List ℕ} {terms : List Term} (h : RegisterTerms ws registers terms) (bytes : List ℕ) (end p : ℕ) where
  pub atom_substituted : atom_over (variable_term ws registers) (atom_at bytes end register_count p) ≡ map_ok (λ y. (substitute_atom terms y.0, y.1)) (atom_at bytes end register_count p)
  unfolding substitute_atom
  atom_substituted =
      atom_agree bytes end register_count (variable_term ws registers) (λ v. get_or terms v (constant 0)) (λ v l. sym (variable_register ws registers v l) ∙ h.is v l) p
      ∙ ap (λ f. map_ok f (atom_at bytes end register_count p)) (fun_ext (λ y. ap₂ (λ s t. (record { kind = y.0.kind; left = s; right = t }, y.1)) (over_registers terms y.0.left) (over_registers terms y.0.right)))

-- the registers are the variables themselves: what is read is unchanged
module _ {ws registers : List ℕ} (h : RegisterTerms ws registers register_variables) where
  pub atom_self : (x : Result (Atom × ℕ) ReadError) → atom_over (variable_term ws registers) x ≡ x
  atom_self (Err e) = refl
  atom_self (Ok z) = rw (variables_self h) (ap₂ (λ s t. Ok (record { kind = z.0.kind; left = s; right = t }, z.1)) (over_variable z.0.left) (over_variable z.0.right))

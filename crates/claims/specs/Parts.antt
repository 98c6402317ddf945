-- Claims and terms taken apart, in terms of the term table. Assumes nothing.
use Rattle.std.specs.Prelude.{List, ◌∷◌, [], ℕ, ◌<◌}
use Rattle.model.specs.Result.{Result, Fit, misfit, Err, Ok, map_ok}
use Rattle.model.specs.Term.{Term}
use Rattle.model.specs.Atom.{Atom, equal}
use Rattle.model.specs.Rule.{pair_of}
use Rattle.model.specs.Goals.{Claim as Claimed, atom, readable, writable}
use Rattle.model.specs.declared.Misfit.{Misfit}
use Rattle.model.specs.declared.Right.{Right}
use Rattle.model.specs.declared.Right.TheVariants.{Read, Write}
use Rattle.nodes.specs.Atoms.{atom_in, AtomBelow}
use Rattle.nodes.specs.Table.{operation_tag, term_at}
use Rattle.nodes.specs.declared.Atom.{Atom as NodeAtom}
use Rattle.nodes.specs.declared.Operation.{Operation}
use Rattle.claims.specs.declared.Claim.{Claim}
use Rattle.claims.specs.declared.Claim.TheVariants.{Atom as AtomClaim, Readable, Writable}
use Rattle.claims.specs.declared.parts.Congruence.{Congruence}
use Rattle.claims.specs.declared.parts.Congruence.TheVariants.{Pairs, Single}

-- ---- claims
-- the claim that the words ws say
abbrev pub claim_of : List ℕ → Claim → Claimed
claim_of ws (AtomClaim a) = atom (atom_in ws a)
claim_of ws (Readable t) = readable (term_at ws t)
claim_of ws (Writable t) = writable (term_at ws t)

-- the claim's nodes are below top
abbrev pub ClaimBelow : (top : ℕ) → Claim → Type 0
ClaimBelow top (AtomClaim a) = AtomBelow top a
ClaimBelow top (Readable t) = t < top
ClaimBelow top (Writable t) = t < top

-- the right that a claim asks for, and the term
abbrev pub access_of : Claimed → Fit (Right × Term)
access_of (atom a) = Err misfit
access_of (readable t) = Ok (Read, t)
access_of (writable t) = Ok (Write, t)

-- the operands of a term of an operation
abbrev pub operands_for : Operation → Term → Fit (Term × Term)
operands_for operation t = pair_of (operation_tag operation) t

-- ---- what answers in nodes say in the words ws
-- a comparison
abbrev pub comparison_in : List ℕ → Result NodeAtom Misfit → Fit Atom
comparison_in ws r = map_ok (atom_in ws) r

-- two terms
abbrev pub pair_in : List ℕ → Result (ℕ × ℕ) Misfit → Fit (Term × Term)
pair_in ws r = map_ok (λ p. (term_at ws p.0, term_at ws p.1)) r

-- a term beside a value, as a right or the count of a shift
abbrev pub valued_in : {A : Type 0} → List ℕ → Result (A × ℕ) Misfit → Fit (A × Term)
valued_in ws r = map_ok (λ p. (p.0, term_at ws p.1)) r

-- the premises that make two terms equal
abbrev pub equalities : List ℕ → Congruence → List Atom
equalities ws (Pairs a b c d) = equal (term_at ws a) (term_at ws c) ∷ equal (term_at ws b) (term_at ws d) ∷ []
equalities ws (Single a c) = equal (term_at ws a) (term_at ws c) ∷ []

abbrev pub congruence_in : List ℕ → Result Congruence Misfit → Fit (List Atom)
congruence_in ws r = map_ok (equalities ws) r

-- the nodes a and b are below i, the others below j
abbrev pub CongruenceBelow : (i j : ℕ) → Congruence → Type 0
CongruenceBelow i j (Pairs a b c d) = ((a < i) × (b < i)) × ((c < j) × (d < j))
CongruenceBelow i j (Single a c) = (a < i) × (c < j)

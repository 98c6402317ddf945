-- "Who can cause which answer": the number and the place of each refusal. Assumes nothing.
use Rattle.std.specs.Prelude.{ℕ}
use Rattle.model.specs.declared.Refusal.{Refusal}
use Rattle.model.specs.declared.Refusal.TheVariants.{SmallWorkspace, WrongStart, PolicyLength, PolicySize, BadRegion, PolicyExpression, BadHeader, BadInstruction, BadTarget, BadAnnotation, AnnotationBytes, Unannotated, PastLast, LargeTerm, ProofExhausted, UnfitRule, DeepDerivation, BadArgument, ProofLeft, LongBlock}

unfoldable pub number_of : Refusal → ℕ
number_of SmallWorkspace = 1
number_of WrongStart = 2
number_of (PolicyLength p) = 3
number_of (PolicySize p) = 4
number_of (BadRegion j) = 5
number_of (PolicyExpression p) = 6
number_of (BadHeader p) = 7
number_of (BadInstruction i) = 8
number_of (BadTarget i) = 9
number_of (BadAnnotation p) = 10
number_of (AnnotationBytes p) = 11
number_of (Unannotated i) = 12
number_of (PastLast n) = 13
number_of (LargeTerm i) = 14
number_of (ProofExhausted p) = 15
number_of (UnfitRule p) = 16
number_of (DeepDerivation p) = 17
number_of (BadArgument p) = 18
number_of (ProofLeft p) = 19
number_of (LongBlock i) = 23

unfoldable pub place_of : Refusal → ℕ
place_of SmallWorkspace = 0
place_of WrongStart = 0
place_of (PolicyLength p) = p
place_of (PolicySize p) = p
place_of (BadRegion j) = j
place_of (PolicyExpression p) = p
place_of (BadHeader p) = p
place_of (BadInstruction i) = i
place_of (BadTarget i) = i
place_of (BadAnnotation p) = p
place_of (AnnotationBytes p) = p
place_of (Unannotated i) = i
place_of (PastLast n) = n
place_of (LargeTerm i) = i
place_of (ProofExhausted p) = p
place_of (UnfitRule p) = p
place_of (DeepDerivation p) = p
place_of (BadArgument p) = p
place_of (ProofLeft p) = p
place_of (LongBlock i) = i

use native.Mathlib.Omega.{arith}
use Rattle.checker.proofs.Laws as laws
use Rattle.checker.proofs.check.Goals as goal

pub returns-then-workspace-lt-LEAST_WORKSPACE : goal.returns-then-workspace-lt-LEAST_WORKSPACE
returns-then-workspace-lt-LEAST_WORKSPACE c = let h = laws.workspace_small _ _ c.args.bytes.now (λ k. omega (arith, c.type_inv.bytes k)) _ (omega arith) c.refusing.ensures in record { verdict = h.0; left = h.1.0; safe = h.1.1 }

pub returns : goal.returns
returns c = let h = laws.checked c.args.workspace.now _ c.args.bytes.now (λ k. omega (arith, c.type_inv.bytes k)) _ (omega arith) (rw c.verdict.ensures c.check_policy-judged.ensures) c.check_policy-judged.new.workspace _ c.check_policy-judged.auto.workspace c.clear.ensures in record { verdict = h.0; left = h.1.0; safe = h.1.1 }

-- What a policy that has passed gives a setting. Assumes nothing.
use mathlib.Core.Path.{sym, ap}
use mathlib.Core.List.{List}
use Prim.Native.Nat.{ℕ}
use Rattle.expressions.specs.Reading.{ends}
use Rattle.policy.specs.declared.Condition.{Condition}
use Rattle.policy.specs.declared.Policy.{Policy}
use Rattle.policy.specs.Conditions.{Stands}
use Rattle.policy.specs.Policy.{Checked}
use Rattle.setting.specs.Fixed.{Ends, PolicyFits}

-- a condition that is read up to there ends there
read_ends : {conditions : List ℕ} {c : Condition} {next : ℕ} → Stands conditions c next → Ends conditions c next
unfolding ends
read_ends s = sym (ap ends s.read)

pub policy_fits : {conditions : List ℕ} {p : Policy} → Checked conditions p → PolicyFits conditions p
policy_fits c = record {
  small_memory = c.small_memory;
  few_precondition = c.few_precondition;
  few_postcondition = c.few_postcondition;
  precondition_ends = read_ends c.precondition_read;
  postcondition_ends = read_ends c.postcondition_read;
  whole = c.whole;
  fits = c.fits;
}

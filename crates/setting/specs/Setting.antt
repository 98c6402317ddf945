-- The policy and the routine that a setting stands for. Assumes nothing.
use Rattle.std.specs.Prelude.{◌≡◌}
use Rattle.model.specs.Result.{Ok}
use Rattle.model.specs.Policy.{Policy}
use Rattle.model.specs.Package.{read_code, proof_start}
use Rattle.model.specs.Routine.{Routine}
use Rattle.policy.specs.Policy.{policy_of}
use Rattle.annotations.specs.Annotations.{annotations_at}
use Rattle.setting.specs.declared.Setting.{Setting}
use Rattle.setting.specs.declared.Tables.{Tables}

-- a policy with these regions, and a routine with these annotations
pub record TablesStand (tables : Tables) (policy : Policy) (routine : Routine) : Type 0 where
  pub regions_are : policy.regions ≡ tables.regions.now
  pub annotations_are : routine.annotations ≡ annotations_at tables.routine.bytes.now tables.routine.header tables.annotations.now

-- the policy, and the routine that checks 8 to 12 have passed
pub record Stands (setting : Setting) (policy : Policy) (routine : Routine) : Type 0 where
  pub policy_is : policy ≡ policy_of setting.conditions.now setting.policy
  pub code_read : read_code setting.tables.routine.bytes.now setting.tables.routine.header ≡ Ok routine.code
  pub annotations_are : routine.annotations ≡ annotations_at setting.tables.routine.bytes.now setting.tables.routine.header setting.tables.annotations.now
  pub proof_is : routine.proof ≡ proof_start setting.tables.routine.header

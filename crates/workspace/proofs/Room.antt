-- The layout has room for a path of as many instructions as a routine may have. Assumes nothing.
use native.Mathlib.Omega.{arith}
use Rattle.workspace.specs.Room.{Room}

pub room : Room
room = record {
  variables = omega arith;
  assumptions = omega arith;
  nodes = omega arith;
  constant_after = omega arith;
  assumptions_after = omega arith;
  table_after = omega arith;
  hints_after = omega arith;
}

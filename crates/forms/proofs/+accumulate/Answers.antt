use native.Mathlib.Omega.{arith}
use Rattle.forms.proofs.Laws.{first, second, pair_parts, variable_within, no_mask, no_shift, accumulated_constant, accumulated_variable, accumulated_sum, accumulated_difference}
use Rattle.forms.proofs.+accumulate.Goals as goal

pub returns-in-Constant : goal.returns-in-Constant
returns-in-Constant t c = accumulated_constant c.requires (λ k. omega (arith, c.type_inv.ws k)) c.in-Constant.ensures (omega arith) c.change.ensures

pub returns-in-Variable : goal.returns-in-Variable
returns-in-Variable t c = accumulated_variable c.requires (λ k. omega (arith, c.type_inv.ws k)) c.in-Variable.ensures (variable_within c.requires c.in-Variable.ensures) c.change-in-Variable.ensures

pub accumulate-requires : goal.accumulate-requires
accumulate-requires t c = first c.decreases (pair_parts c.requires _ c.in-Pair.ensures)

pub accumulate-requires-in-Sum : goal.accumulate-requires-in-Sum
accumulate-requires-in-Sum t c = second c.decreases (pair_parts c.requires _ c.in-Pair.ensures) c.accumulate.ensures

pub accumulate-requires-in-Difference : goal.accumulate-requires-in-Difference
accumulate-requires-in-Difference t c = second c.decreases (pair_parts c.requires _ c.in-Pair.ensures) c.accumulate.ensures

pub returns-in-Sum : goal.returns-in-Sum
returns-in-Sum t c = accumulated_sum c.requires c.accumulate.ensures (rw c.in-Sum.is at c.in-Pair.ensures) c.accumulate-in-Sum.ensures

pub returns-in-Difference : goal.returns-in-Difference
returns-in-Difference t c = accumulated_difference c.requires c.accumulate.ensures (rw c.in-Difference.is at c.in-Pair.ensures) c.accumulate-in-Difference.ensures

pub returns-in-Mask : goal.returns-in-Mask
returns-in-Mask t c = no_mask c.requires (rw c.in-Mask.is at c.in-Pair.ensures)

pub returns-in-Shift : goal.returns-in-Shift
returns-in-Shift t c = no_shift c.requires c.in-Shift.ensures

-- The samples: evaluated by the definitions, each has the answer that document 01, or 02, gives. Assumes nothing.
use mathlib.Core.Bool.{true}
use mathlib.Core.Path.{◌≡◌, refl}
use Rattle.model.specs.Samples.{all_right, samples, packaged, mask_samples, table_samples, difference_samples, length_samples, jump_samples}

-- every sample that is marked (P) has its answer
pub samples_right : all_right samples ≡ true
unfolding all_right
samples_right = refl

pub masks_right : all_right mask_samples ≡ true
unfolding all_right packaged
masks_right = refl

pub tables_right : all_right table_samples ≡ true
unfolding all_right packaged
tables_right = refl

pub differences_right : all_right difference_samples ≡ true
unfolding all_right packaged
differences_right = refl

pub lengths_right : all_right length_samples ≡ true
unfolding all_right
lengths_right = refl

pub jumps_right : all_right jump_samples ≡ true
unfolding all_right packaged
jumps_right = refl

-- The values of two terms without variables. Assumes nothing.
use Rattle.std.specs.Prelude.{Option, Some, None, ◌&&◌, if◌then◌else◌}
use Rattle.model.specs.Term.{Term, closed, eval}
use Rattle.term_walks.specs.declared.Values.{Values}

abbrev pub values_of : Term → Term → Values
values_of s t = record { left = eval (λ v. 0) s; right = eval (λ v. 0) t }

-- the values of closed terms, which no variable changes; none where a variable stands in one of them
abbrev pub closed_values : Term → Term → Option Values
closed_values s t = if closed s && closed t then Some (values_of s t) else None

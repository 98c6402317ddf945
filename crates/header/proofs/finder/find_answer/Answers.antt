use Rattle.model.specs.Package.{finder_answer}
use Rattle.header.proofs.finder.find_answer.Goals as goal

pub returns-in-Ok : goal.returns-in-Ok
unfolding finder_answer
returns-in-Ok c = rw (← c.in-Ok.ensures.is, finder_answer)

pub returns-in-Err : goal.returns-in-Err
unfolding finder_answer
returns-in-Err c = rw (← c.in-Err.ensures.is, c.number.ensures, c.place.ensures, finder_answer)

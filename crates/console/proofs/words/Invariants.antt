use Rattle.std.proofs.Common.{◌≡◌, take}
use Rattle.console.specs.Words.{words_from}
use Rattle.console.proofs.words.Given as goal

abbrev pub invariant-loop-i : goal.invariant-loop-i
invariant-loop-i l = take l.i l.out ≡ words_from l.bytes l.first l.i

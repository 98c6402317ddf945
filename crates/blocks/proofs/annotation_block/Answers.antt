use mathlib.Core.Path.{refl}
use native.Mathlib.Omega.{arith}
use Rattle.blocks.proofs.Starting.{start_ready, block_asks, annotation_unread, annotation_found, annotation_block_lem}
use Rattle.blocks.proofs.annotation_block.Goals as goal

pub expression-requires : goal.expression-requires
expression-requires c = rw c.source-source.ensures.registers_are (start_ready c.start-first.ensures (omega (arith, c.requires.workspace.words, c.start-first.auto.ws)))

pub returns-in_default : goal.returns-in_default
returns-in_default c = annotation_unread c.start-first.ensures c.args.bytes.now c.args.annotated refl c.source-source.ensures c.expression.auto.ws c.in_default.ensures.grown c.in_default.ensures.answer

pub assume-path-requires-clause-fresh : goal.assume-path-requires-clause-fresh
assume-path-requires-clause-fresh c =
    let found = annotation_found c.start-first.ensures c.args.bytes.now c.args.annotated refl c.source-source.ensures c.expression.auto.ws c.in-Ok.ensures.grown c.in-Ok.ensures.answer in
    block_asks c.start-first.ensures found.above c.raised.ensures (omega (arith, c.from.ensures, c.requires.few_atoms)) (omega arith) (omega (arith, c.requires.workspace.words, c.start-first.auto.ws, c.expression.auto.ws))

pub returns : goal.returns
returns c = annotation_block_lem c.start-first.ensures c.args.bytes.now c.args.annotated refl c.source-source.ensures c.expression.auto.ws c.in-Ok.ensures.grown c.in-Ok.ensures.answer c.from.ensures c.requires.few_atoms c.raised.ensures c.assume-path.ensures

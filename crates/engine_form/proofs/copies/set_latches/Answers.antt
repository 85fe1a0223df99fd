use Rattle.std.proofs.Common.{List, ap, refl, ◌∙◌, arith}
use Rattle.aiger.specs.declared.circuit.Latch.{Latch}
use Rattle.aiger.specs.Circuit.{Circuit, with_latch}
use Rattle.engine_form.proofs.LatchLemmas.{set-more}
use Rattle.engine_form.proofs.CopyLemmas.{latch_fits, latches_done}
use Rattle.engine_form.proofs.copies.set_latches.Goals as goal

pub set_latch-requires-clause-there : goal.set_latch-requires-clause-there
set_latch-requires-clause-there c =
    (latch_fits c.args.made.now c.loop-k.made c.args.latches.now c.loop-k.k c.index-latches-k.result c.loop-k.invariant c.requires.many c.requires.defined c.loop-k-test.true c.index-latches-k.is).0

pub set_latch-requires-clause-defined : goal.set_latch-requires-clause-defined
set_latch-requires-clause-defined c =
    (latch_fits c.args.made.now c.loop-k.made c.args.latches.now c.loop-k.k c.index-latches-k.result c.loop-k.invariant c.requires.many c.requires.defined c.loop-k-test.true c.index-latches-k.is).1

pub loop-k-preserved : goal.loop-k-preserved
loop-k-preserved c =
    c.set_latch.ensures ∙ ap (λ (d : Circuit). with_latch d c.loop-k.k c.index-latches-k.result) c.loop-k.invariant
    ∙ ap (λ (l : List Latch). record c.args.made.now { latches = l }) (set-more (λ latch. latch) c.args.latches.now c.args.made.now.latches c.loop-k.k c.index-latches-k.result c.index-latches-k.result c.loop-k-test.true (omega (arith, c.requires.many)) c.index-latches-k.is refl)

pub returns : goal.returns
returns c = latches_done c.args.made.now c.loop-k.made c.args.latches.now c.loop-k.k c.loop-k.invariant c.requires.many (omega arith)

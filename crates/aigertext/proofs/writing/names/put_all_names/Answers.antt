use Rattle.std.proofs.Common.{refl, arith}
use Rattle.aigertext.proofs.SectionLemmas.{all_names_at}
use Rattle.base.proofs.PenLemmas.{write_none, write_more}
use Rattle.aigertext.proofs.writing.names.put_all_names.Goals as goal

pub loop-section-init : goal.loop-section-init
loop-section-init g c = write_none

pub loop-section-preserved : goal.loop-section-preserved
loop-section-preserved g c = write_more c.loop-section.invariant c.put_names.ensures (all_names_at c.loop-section.section-index c.args.circuit.now _ _ (omega (arith, c.loop-section-test.true)) refl)

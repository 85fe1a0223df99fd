use Rattle.std.proofs.Common.{drop}
use Rattle.std.specs.Prelude.{flat_map}
use Rattle.aiger.specs.Names.{all_sections}
use Rattle.aigertext.specs.Ascii.{names_of, all_names}
use Rattle.base.proofs.PenLemmas.{Writing}
use Rattle.aigertext.proofs.writing.names.put_all_names.Given as goal

abbrev pub invariant-loop-section : goal.invariant-loop-section
invariant-loop-section g l = Writing g.K.Sink.written g.K.Sink.failures l.initial.sink l.sink l.initial.pen l.pen (all_names l.circuit) (flat_map (names_of l.circuit) (drop l.section-index all_sections))

use Rattle.std.proofs.Common.{add-one}
use Rattle.aigertext.specs.Binary.{circuit_text}
use Rattle.base.proofs.PenLemmas.{writes_then}
use Rattle.aigertext.proofs.writing.put_text.Goals as goal

pub returns : goal.returns
unfolding circuit_text
returns g c =
    writes_then c.put_header.ensures
    (writes_then (rw c.inputs-inputs.ensures.count at c.put_inputs.ensures)
    (writes_then (rw (add-one c.inputs-inputs.result, c.inputs-inputs.ensures.count, c.latches.ensures.items) at c.put_latches.ensures)
    (writes_then c.put_properties.ensures
    (writes_then (rw (c.first_gate.ensures.variable, c.gates.ensures.items) at c.put_gates.ensures) c.put_all_names.ensures))))

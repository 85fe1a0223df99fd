use Rattle.std.proofs.Common.{append_assoc}
use Rattle.aigertext.specs.Ascii.{literal_lines, size_lines, list_lines}
use Rattle.base.proofs.PenLemmas.{writes_then}
use Rattle.aigertext.proofs.writing.properties.put_properties.Goals as goal

pub returns : goal.returns
returns g c =
    let circuit = c.args.circuit.now in
    let last = writes_then c.put_sizes.ensures (writes_then c.put_lists.ensures (rw c.fair.ensures.items at c.put_literals-4.ensures)) in
    writes_then (rw c.outputs.ensures.items at c.put_literals.ensures) (writes_then (rw c.bads.ensures.items at c.put_literals-2.ensures) (writes_then (rw c.constraints.ensures.items at c.put_literals-3.ensures)
    (rw (append_assoc (size_lines circuit.justice) (list_lines circuit.justice) (literal_lines circuit.fair)) last)))

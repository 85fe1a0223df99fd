use Rattle.std.proofs.Common.{◌≡◌, ◌+◌, ◌-◌, ◌*◌}
use Rattle.aigertext.specs.Passes.{onto, latches_in}
use Rattle.aigertext.proofs.reading.front.read_latches.Given as goal

abbrev pub invariant-loop-index : goal.invariant-loop-index
invariant-loop-index l = onto l.latches.items (latches_in l.form l.greatest (l.first + 2 * l.index) (l.count - l.index) l.rest) ≡ latches_in l.form l.greatest l.first l.count l.fn.text

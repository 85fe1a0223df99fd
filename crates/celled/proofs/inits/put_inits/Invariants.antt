use Rattle.std.proofs.Common.{◌≡◌, ℕ, ◌+◌, ◌<◌, ◌≤◌, Some}
use Rattle.btor2.specs.Items.{sort_width}
use Rattle.celled.specs.Spots.{ids_from}
use Rattle.wide.specs.Lines.{number_of_digits}
use Rattle.celled.specs.Steps.{InitsPut, IsOpen, HaveSize}
use Rattle.celled.proofs.inits.put_inits.Given as goal

abbrev pub invariant-loop-index : goal.invariant-loop-index
invariant-loop-index l = record {
  put : InitsPut l.fn.maker l.maker l.first l.index l.size (number_of_digits l.number);
  sort : sort_width l.maker l.sort ≡ Some l.size;
  cells : HaveSize l.maker l.size (ids_from l.first l.count);
  rest : (i : ℕ) → l.index ≤ i → i < l.count → IsOpen l.maker (l.first + i);
}

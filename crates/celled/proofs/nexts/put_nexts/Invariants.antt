use Rattle.std.proofs.Common.{◌≡◌, ℕ, ◌+◌, ◌*◌, ◌<◌, ◌≤◌, Some}
use Rattle.btor2.specs.Items.{sort_width, node_width}
use Rattle.celled.specs.Spots.{ids_from}
use Rattle.celled.specs.Steps.{NextsPut, IsLoose, HaveSize}
use Rattle.celled.proofs.nexts.put_nexts.Given as goal

abbrev pub invariant-loop-index : goal.invariant-loop-index
invariant-loop-index l = record {
  put : NextsPut l.fn.maker l.maker l.first l.index l.size l.node;
  sort : sort_width l.maker l.sort ≡ Some l.size;
  cells : HaveSize l.maker l.size (ids_from l.first l.count);
  node : node_width l.maker l.node ≡ Some (l.count * l.size);
  rest : (i : ℕ) → l.index ≤ i → i < l.count → IsLoose l.maker (l.first + i);
}

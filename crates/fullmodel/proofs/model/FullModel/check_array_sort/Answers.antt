use Rattle.fullmodel.proofs.AcceptedLemmas.{words_size}
use Rattle.fullmodel.proofs.model.FullModel.check_array_sort.Goals as goal

pub makes_arrays-requires : goal.makes_arrays-requires
makes_arrays-requires c = λ e. (words_size c.sort_at-elements.result c.sort_at-elements.ensures.size e).0

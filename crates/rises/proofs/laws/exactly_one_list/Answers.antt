use Rattle.btor2.proofs.TraceLemmas.{trace_exists, trace_unique}
use Rattle.witness.specs.Judgements.{initial_words, given_frames}
use Rattle.witness.specs.ClosedWords.{closed_words}
use Rattle.rises.proofs.LawLemmas.{words_same_firsts}
use Rattle.rises.proofs.laws.exactly_one_list.Goals as goal

pub returns : goal.returns
returns c =
    record {
      exists = λ items text well. trace_exists items (initial_words items (closed_words items text)) (given_frames items (closed_words items text)) well;
      unique = λ items text fs gs well t u. words_same_firsts items text fs gs well (trace_unique items (initial_words items (closed_words items text)) (given_frames items (closed_words items text)) fs gs well t u);
    }

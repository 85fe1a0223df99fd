use Rattle.btor2.proofs.TraceLemmas.{trace_exists, trace_unique}
use Rattle.witness.specs.Judgements.{initial_words, given_frames}
use Rattle.witness.specs.ClosedWords.{closed_words}
use Rattle.vcd.proofs.SignalLemmas.{all_there}
use Rattle.vcd.proofs.DumpLemmas.{dumps_same}
use Rattle.vcd.proofs.laws.exactly_one_dump.Goals as goal

pub returns : goal.returns
returns c =
    record {
      exists = λ items text w. trace_exists items (initial_words items (closed_words items text)) (given_frames items (closed_words items text)) w;
      unique = λ s title items text fs gs w t u. dumps_same s title items fs gs (trace_unique items (initial_words items (closed_words items text)) (given_frames items (closed_words items text)) fs gs w t u) (all_there items s w);
    }

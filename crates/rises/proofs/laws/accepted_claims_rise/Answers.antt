use Rattle.std.proofs.Common.{length, map}
use Rattle.btor2.specs.Items.{is_bad}
use Rattle.btor2.specs.Reachability.{nodes_of, model_shows}
use Rattle.witness.specs.Reached.{word_claimed}
use Rattle.rises.proofs.RiseLemmas.{length-rises}
use Rattle.rises.proofs.LawLemmas.{accepted_words, other_rises}
use Rattle.rises.proofs.laws.accepted_claims_rise.Goals as goal

pub returns : goal.returns
returns c =
    record {
      claimed = accepted_words;
      others = λ items text fs k other inside. other_rises (word_claimed items text) (map (model_shows items) fs) (length (nodes_of is_bad items)) k inside other;
      many = λ items text fs. length-rises (word_claimed items text) (map (model_shows items) fs) 0 (length (nodes_of is_bad items));
    }

use Rattle.fulljudge.proofs.ClaimLemmas.{claim_rises, other_has_none, all_stand}
use Rattle.fulljudge.proofs.laws.accepted_claims_rise.Goals as goal

pub returns : goal.returns
returns c =
    record {
      claimed = λ full text frames k firsts judges. claim_rises full text frames firsts judges k;
      others = λ full text frames k firsts judges. other_has_none full text frames firsts judges k;
      many = all_stand;
    }

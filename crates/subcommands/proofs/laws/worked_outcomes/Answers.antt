use Rattle.std.proofs.Common.{refl}
use Rattle.std.specs.Fmt.{digits}
use Rattle.subcommands.specs.Objects.{claim_begin, claim_end, claims_begin, claims_end, number_member, object_begin, object_end, text_member}
use Rattle.subcommands.proofs.laws.worked_outcomes.Goals as goal

pub returns-clause-claimed : goal.returns-clause-claimed
unfolding digits
returns-clause-claimed c = refl

pub returns-clause-unclaimed : goal.returns-clause-unclaimed
unfolding digits
returns-clause-unclaimed c = refl

pub returns-clause-unreached : goal.returns-clause-unreached
unfolding digits
returns-clause-unreached c = refl

pub returns-clause-claims : goal.returns-clause-claims
unfolding digits claim_begin claim_end claims_begin claims_end number_member object_begin object_end
returns-clause-claims c = refl

pub returns-clause-none : goal.returns-clause-none
unfolding digits number_member object_begin object_end
returns-clause-none c = refl

pub returns-clause-escaped : goal.returns-clause-escaped
unfolding text_member
returns-clause-escaped c = refl

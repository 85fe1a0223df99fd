use Rattle.std.proofs.Common.{◌≡◌, refl}
use Rattle.verbs.proofs.FittedLemmas.{neither, profile_of}
use Rattle.verbs.proofs.fitted.read_profile.Goals as goal

pub returns-in-Ok-clause-read : goal.returns-in-Ok-clause-read
returns-in-Ok-clause-read c = profile_of c.args.text.now c.in-Ok.model c.where_ready.result (λ items. c.one_model.ensures.same c.args.text.now items c.in-Ok.model) c.in-Ok.ensures.found c.where_ready.ensures

pub returns-in_default : goal.returns-in_default
returns-in_default c = record {
  read = λ items stands ready.
      neither (λ failed. let risen : 0 ≡ 1 = c.in-Err.ensures.device failed in absurd (cc)) c.in_default.not-NoMemory (c.in-Err.ensures.only c.args.text.now items refl stands);
  memory = tt;
}

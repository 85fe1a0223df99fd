use Rattle.std.proofs.Common.{ℕ, ◌^◌, ◌<◌, List, sym, ap, subst}
use Rattle.wide.specs.Lines.{number_of_digits}
use Rattle.fullmodel.specs.Lines.{says_of}
use Rattle.writeout.proofs.way.says_kind.Goals as goal

pub digits_kind-requires : goal.digits_kind-requires
digits_kind-requires c =
    subst (λ (ds : List ℕ). number_of_digits ds < 2 ^ c.args.width) (sym c.as_slice.ensures.value)
    (c.requires.fits c.in-Constant.spelling c.in-Constant.sort c.in-Constant.count _ (ap says_of c.in-Constant.is))

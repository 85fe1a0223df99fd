use Rattle.std.proofs.Common.{arith, Bool, false, List, [], length, refl, sym, ap, subst, ◌∙◌}
use Rattle.std.proofs.lemmas.List.{length-replicate}
use Rattle.witness.specs.Readings.{reading}
use Rattle.fulljudge.specs.Compared.{Flag}
use Rattle.fulljudge.proofs.HearLemmas.{none_flagged}
use Rattle.fulljudge.proofs.first_words.FirstWords.new.Goals as goal

pub returns : goal.returns
unfolding reading
returns c = λ shape narrow. (
  record { sorts = refl; words = refl; count = ap length c.loop.invariant ∙ length-replicate c.loop.counter false ∙ omega (arith, c.loop-test.false, c.loop.auto, c.words-end.ensures) },
  λ none. record {
    none = refl;
    said = record { closed = refl; states = refl; open_part = refl };
    part = refl;
    flags = subst (λ (l : List Bool). Flag l []) (sym c.loop.invariant) (none_flagged c.loop.counter);
  },
)

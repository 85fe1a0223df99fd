use Rattle.std.proofs.Common.{◌≡◌, ◌+◌, ◌≤◌, ◌^◌, ◌++◌, ◌∷◌, [], List, Result, Ok, Err, OnOk, arith, ap, ◌∙◌}
use Rattle.full.specs.Lines.{Sort}
use Rattle.fullmodel.specs.Lines.{sort_value}
use Rattle.fulljudge.specs.Shapes.{word_count}
use Rattle.fulljudge.specs.Kept.{words_in}
use Rattle.fulljudge.proofs.ValuesLemmas.{few_words, words_more}
use Rattle.fulljudge.proofs.values.Values.add_line.Goals as goal

put_few : {E : Type 0} (r : Result Unit E) (old new : List Sort) (s : Sort) → word_count s ≤ 2 ^ 20 → OnOk r (new ≡ old ++ s ∷ []) → OnOk r (words_in new ≤ words_in old + 2 ^ 20)
put_few (Ok u) old new s few is = let grown = ap words_in is ∙ words_more old s in omega (arith, few, grown)
put_few (Err e) old new s few is = tt

pub returns-in-Some-sort_at-clause-few : goal.returns-in-Some-sort_at-clause-few
returns-in-Some-sort_at-clause-few c =
    put_few c.put.result c.args.self.now c.put.new.self (sort_value c.in-Some-sort_at.sort) (few_words (sort_value c.in-Some-sort_at.sort) c.in-Some-sort_at.ensures.size.0 c.in-Some-sort_at.ensures.size.1) c.put.ensures

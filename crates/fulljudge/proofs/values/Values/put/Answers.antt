use Rattle.std.proofs.Common.{◌+◌, ◌<◌, ◌^◌, List, arith, refl, sym, subst}
use Rattle.full.specs.Lines.{Sort}
use Rattle.fullmodel.specs.Lines.{sort_value}
use Rattle.fulljudge.specs.declared.values.Value.{Value}
use Rattle.fulljudge.specs.Shapes.{word_count}
use Rattle.fulljudge.specs.Kept.{words_in, AreKept}
use Rattle.fulljudge.proofs.ValuesLemmas.{kept_more}
use Rattle.fulljudge.proofs.values.Values.put.Goals as goal

pub invariant_of-self-2 : goal.invariant_of-self-2
invariant_of-self-2 c =
    let v : Value = record { sort = c.args.sort; first = c.self.inside.words } in
    let few = subst (λ (l : List Sort). words_in l + word_count (sort_value c.args.sort) < 2 ^ 64) (sym c.self.view_is) c.requires in
    subst (λ (l : List Value). AreKept l (c.self.inside.words + c.word_count-count.result)) (sym c.in_ok-push.ensures.items)
    (kept_more c.self.inside.list.items c.self.inside.words c.word_count-count.result v c.self.invariant refl c.word_count-count.ensures (omega (arith, few, c.self.invariant.all, c.word_count-count.ensures)))

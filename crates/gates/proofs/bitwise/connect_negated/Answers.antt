use Rattle.std.proofs.Common.{length, map, ap, ◌∙◌}
use Rattle.base.specs.Literal.{negation}
use Rattle.gates.specs.Connect.{connected_words}
use Rattle.gates.specs.Made.{word_value}
use Rattle.gates.proofs.GrowthLemmas.{MakesWord-negated}
use Rattle.gates.proofs.bitwise.connect_negated.Goals as goal

pub returns-clause-ok : goal.returns-clause-ok
returns-clause-ok g c =
    MakesWord-negated _ _ _ (length c.args.a.now) (λ v. connected_words c.args.by (word_value v c.args.a.now) (word_value v c.args.b.now)) c.in_ok-bits.bits.items c.negation.result.items (c.negation.ensures ∙ ap (map negation) c.as_slice.ensures.value) c.in_ok-bits.ensures.ok

use Rattle.std.proofs.Common.{length, sym, ap, ◌∙◌, arith}
use Rattle.witness.proofs.WordReaderLemmas.{some_free, none_free}
use Rattle.witness.proofs.word_reader.has_free.Goals as goal

pub returns-then-is_free : goal.returns-then-is_free
returns-then-is_free c = sym (some_free c.args.model.now c.loop-k.k (omega (arith, ap length c.states-k-end.ensures)) (sym c.is_free.ensures ∙ c.if-is_free.true))

pub returns : goal.returns
returns c = sym (none_free c.args.model.now (λ i h. c.loop-k.invariant i (omega (arith, h, ap length c.states-k-end.ensures))))

use Rattle.std.proofs.Common.{◌≡◌, ℕ, ◌%◌, ◌^◌, List, refl, sym, ap, subst, ◌∙◌, arith}
use Rattle.std.proofs.lemmas.Nat.{pow_pos}
use Rattle.base.specs.Operator.{ite_value}
use Rattle.pieces.specs.declared.node.Node.{Node}
use Rattle.pieces.specs.Nodes.{word_of, bits_in, MakesWord}
use Rattle.pieces.specs.Cuts.{widths, IsCut}
use Rattle.pieces.specs.Moves.{moved_value}
use Rattle.pieces.proofs.NodeLemmas.{extends_same, extends_twice}
use Rattle.pieces.proofs.ListLemmas.{nodes_kept}
use Rattle.pieces.proofs.SumLemmas.{word_made}
use Rattle.pieces.proofs.MoveLemmas.{barrel_none, barrel_more, stage_power, amount_fits, amount_doubled}
use Rattle.pieces.proofs.shifts.barrel.Goals as goal

pub loop-k-init : goal.loop-k-init
loop-k-init c = record {
  within = omega arith;
  extends = extends_same c.args.maker.now;
  amount = refl;
  cut = subst (λ (l : List Node). IsCut 64 (widths l)) (sym c.in_ok-word.ensures.nodes) c.requires.a.cut;
  word = barrel_none c.args.by c.args.maker.now c.args.a.now c.args.b.now c.in_ok-word.word.items c.requires.a.nodes c.requires.a.some c.in_ok-word.ensures.nodes;
}

pub field-requires-clause-nodes : goal.field-requires-clause-nodes
field-requires-clause-nodes c = nodes_kept c.args.maker.now c.loop-k.maker c.args.b.now c.loop-k.invariant.extends c.requires.b

pub field-requires-clause-within : goal.field-requires-clause-within
field-requires-clause-within c = omega (arith, c.loop-k-test.true, c.requires.within)

pub stage-requires-clause-a : goal.stage-requires-clause-a
stage-requires-clause-a c = word_made c.loop-k.maker c.field.new.maker c.args.a.now c.loop-k.word.items c.deref.result.now c.in_ok-bit.ensures.extends c.deref.ensures.value c.loop-k.invariant.word.nodes c.loop-k.invariant.word.wide c.loop-k.invariant.cut c.requires.a.some c.requires.a.few

pub stage-requires-clause-some : goal.stage-requires-clause-some
stage-requires-clause-some c = omega (arith, c.loop-k.invariant.amount, pow_pos c.loop-k.k)

pub stage-requires-clause-less : goal.stage-requires-clause-less
stage-requires-clause-less c = let small = stage_power c.loop-k.k c.args.count (bits_in c.args.a.now) c.loop-k-test.true c.requires.small in
    omega (arith, small, c.loop-k.invariant.amount, ap bits_in c.deref.ensures.value ∙ c.loop-k.invariant.word.wide)

pub overflow_mul-amount : goal.overflow_mul-amount
overflow_mul-amount c = let fits = amount_fits c.loop-k.k c.args.count (bits_in c.args.a.now) c.loop-k.amount c.loop-k-test.true c.requires.small c.requires.a.few c.loop-k.invariant.amount in omega (arith, fits)

pub loop-k-preserved : goal.loop-k-preserved
loop-k-preserved c = let same = ap bits_in c.deref.ensures.value ∙ c.loop-k.invariant.word.wide in
    let made = subst (λ (l : List Node). MakesWord c.stage.new.maker (bits_in c.deref.result.now) (λ g. ite_value (g c.in_ok-bit.bit.id) (moved_value c.args.by (bits_in c.deref.result.now) (word_of g l) c.loop-k.amount) (word_of g l)) c.in_ok-next.next.items) c.deref.ensures.value c.in_ok-next.ensures.word in
    record {
      within = omega (arith, c.loop-k-test.true);
      extends = extends_twice c.args.maker.now c.loop-k.maker c.stage.new.maker c.loop-k.invariant.extends (extends_twice c.loop-k.maker c.field.new.maker c.stage.new.maker c.in_ok-bit.ensures.extends c.in_ok-next.ensures.extends);
      amount = amount_doubled c.loop-k.k c.loop-k.amount c.loop-k.invariant.amount;
      cut = c.in_ok-next.ensures.cut;
      word = barrel_more c.args.by c.args.maker.now c.loop-k.maker c.field.new.maker c.stage.new.maker c.args.a.now c.args.b.now c.loop-k.word.items c.in_ok-next.next.items (bits_in c.args.a.now) (bits_in c.deref.result.now) c.loop-k.k c.loop-k.amount c.in_ok-bit.bit
          c.requires.a.nodes refl c.requires.a.some same c.loop-k.invariant.amount c.loop-k.invariant.extends c.in_ok-bit.ensures.extends c.in_ok-next.ensures.extends c.loop-k.invariant.word c.in_ok-bit.ensures.node made;
    }

pub returns-clause-word : goal.returns-clause-word
returns-clause-word c = let end : c.loop-k.k ≡ c.args.count = omega (arith, c.loop-k-test.false, c.loop-k.invariant.within) in
    subst (λ (k : ℕ). MakesWord c.loop-k.maker (bits_in c.args.a.now) (λ g. moved_value c.args.by (bits_in c.args.a.now) (word_of g c.args.a.now) (word_of g c.args.b.now % 2 ^ k)) c.loop-k.word.items) end c.loop-k.invariant.word

use Rattle.std.proofs.Common.{ℕ, ◌^◌, ◌<◌, List, sym, ap, subst, ◌∙◌, arith, ◌/◌, ◌%◌}
use Rattle.base.specs.Operator.{ite_value}
use Rattle.pieces.specs.declared.node.Node.{Node}
use Rattle.pieces.specs.Nodes.{word_of, bits_in, AreNodes, MakesWord}
use Rattle.pieces.specs.Moves.{entering_value}
use Rattle.pieces.proofs.NodeLemmas.{extends_same, extends_twice, node_kept}
use Rattle.pieces.proofs.ListLemmas.{word_kept, ok_with}
use Rattle.pieces.proofs.SumLemmas.{word_made, recut}
use Rattle.pieces.proofs.MoveLemmas.{chosen_far}
use Rattle.pieces.proofs.shifts.unless_far.Goals as goal

pub entering-requires-clause-some : goal.entering-requires-clause-some
entering-requires-clause-some c = omega (arith, c.requires.a.some, c.bits_of-width.ensures)

pub cut-requires-clause-nodes : goal.cut-requires-clause-nodes
cut-requires-clause-nodes c = subst (AreNodes c.entering.new.maker) (sym c.deref.ensures.value) c.in_ok-empty.ensures.word.nodes

pub cut-requires-clause-some : goal.cut-requires-clause-some
cut-requires-clause-some c = omega (arith, c.requires.a.some, c.bits_of-width.ensures)

pub cut-requires-clause-within : goal.cut-requires-clause-within
cut-requires-clause-within c = omega (arith, ap bits_in c.deref.ensures.value, c.in_ok-empty.ensures.word.wide)

pub cut-requires-clause-few : goal.cut-requires-clause-few
cut-requires-clause-few c = let few : bits_in c.args.a.now < 2 ^ 63 = c.requires.a.few in omega (arith, few, c.bits_of-width.ensures)

pub choice-requires-clause-condition : goal.choice-requires-clause-condition
choice-requires-clause-condition c = node_kept c.args.maker.now c.cut.new.maker c.args.far (extends_twice c.args.maker.now c.entering.new.maker c.cut.new.maker c.in_ok-empty.ensures.extends c.in_ok-whole.ensures.extends) c.requires.far

pub choice-requires-clause-first : goal.choice-requires-clause-first
choice-requires-clause-first c = word_made c.cut.new.maker c.cut.new.maker c.args.a.now c.in_ok-whole.whole.items c.deref-2.result.now (extends_same c.cut.new.maker) c.deref-2.ensures.value c.in_ok-whole.ensures.word.nodes (c.in_ok-whole.ensures.word.wide ∙ c.bits_of-width.ensures) c.in_ok-whole.ensures.cut c.requires.a.some c.requires.a.few

pub choice-requires-clause-second : goal.choice-requires-clause-second
choice-requires-clause-second c = word_kept c.args.maker.now c.cut.new.maker c.args.near.now (extends_twice c.args.maker.now c.entering.new.maker c.cut.new.maker c.in_ok-empty.ensures.extends c.in_ok-whole.ensures.extends) c.requires.near

pub choice-requires-clause-same : goal.choice-requires-clause-same
choice-requires-clause-same c = ap bits_in c.deref-2.ensures.value ∙ c.in_ok-whole.ensures.word.wide ∙ c.bits_of-width.ensures ∙ sym c.requires.same

pub returns-clause-word : goal.returns-clause-word
returns-clause-word c =
    let n = bits_in c.args.a.now in
    let empty = subst (λ (m : ℕ). MakesWord c.entering.new.maker m (λ g. entering_value c.args.by m (word_of g c.args.a.now) m) c.in_ok-empty.empty.items) c.bits_of-width.ensures c.in_ok-empty.ensures.word in
    let cut_anew = subst (λ (m : ℕ). MakesWord c.cut.new.maker m (λ g. word_of g c.in_ok-empty.empty.items / 2 ^ 0 % 2 ^ m) c.in_ok-whole.whole.items) c.bits_of-width.ensures
    (subst (λ (l : List Node). MakesWord c.cut.new.maker c.bits_of-width.result (λ g. word_of g l / 2 ^ 0 % 2 ^ c.bits_of-width.result) c.in_ok-whole.whole.items) c.deref.ensures.value c.in_ok-whole.ensures.word) in
    let whole = recut c.entering.new.maker c.cut.new.maker c.in_ok-empty.empty.items c.in_ok-whole.whole.items n (λ g. entering_value c.args.by n (word_of g c.args.a.now) n) c.in_ok-whole.ensures.extends empty cut_anew in
    let same = ap bits_in c.deref-2.ensures.value ∙ c.in_ok-whole.ensures.word.wide ∙ c.bits_of-width.ensures in
    ok_with _ _ c.choice.result
    (λ rs h. chosen_far c.args.by c.cut.new.maker c.choice.new.maker c.args.a.now c.args.near.now c.in_ok-whole.whole.items rs.items n (bits_in c.deref-2.result.now) c.args.far same c.choice.ensures.extends whole
    (subst (λ (l : List Node). MakesWord c.choice.new.maker (bits_in c.deref-2.result.now) (λ g. ite_value (g c.args.far.id) (word_of g l) (word_of g c.args.near.now)) rs.items) c.deref-2.ensures.value h)) c.choice.ensures.word

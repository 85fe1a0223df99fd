use Rattle.std.proofs.Common.{◌≡◌, ◌≤◌, ℕ, List, Option, Some, Vec, Global, length, map, slice_get, option_and_then, unwrap_or, ap, ◌∙◌, sym, arith}
use Rattle.std.proofs.lemmas.List.{take_all}
use Rattle.btor2.specs.declared.item.Item.{Item}
use Rattle.btor2.specs.Items.{constant_of_body}
use Rattle.btor2.specs.Lists.{of_kind}
use Rattle.runs.specs.Frames.{has_value}
use Rattle.runs.specs.Nodes.{standing_word}
use Rattle.runs.proofs.StateLemmas.{item_at, made_more, made_same}
use Rattle.runs.proofs.resolving.standing_words.Goals as goal
use Rattle.runs.proofs.resolving.standing_words.Goals.{then-is_node+in_ok-push, else-is_node}

pub loop-place-init : goal.loop-place-init
loop-place-init c = c.new-words.ensures.items

pub bounds-items-place : goal.bounds-items-place
bounds-items-place c = c.loop-place-test.true

pub is_node-requires-clause-well_formed : goal.is_node-requires-clause-well_formed
is_node-requires-clause-well_formed c = c.items-items.ensures.well_formed

pub is_node-requires-clause-at : goal.is_node-requires-clause-at
is_node-requires-clause-at c = item_at c.args.model.now c.items-items.result.now c.loop-place.place c.index-items-place.result c.items-items.ensures.items c.loop-place-test.true c.index-items-place.is

pub loop-place-preserved : goal.loop-place-preserved
loop-place-preserved c =
    let at : slice_get c.args.model.now c.loop-place.place ≡ Some c.index-items-place.result =
    item_at c.args.model.now c.items-items.result.now c.loop-place.place c.index-items-place.result c.items-items.ensures.items c.loop-place-test.true c.index-items-place.is
    in
    elim c.if-is_node.branch [
      | then-is_node+in_ok-push w ↦
          ap (λ (v : Vec ℕ Global). v.items) w.words-is
          ∙ made_more (λ (x : Item). standing_word c.args.model.now x.body) c.items-items.result.now c.loop-place.words.items w.push.new.self.items c.loop-place.place c.index-items-place.result c.index-items-place.result w.unwrap_or.result c.loop-place-test.true
          c.index-items-place.is (sym c.is_node.ensures ∙ w.if-is_node.true) c.loop-place.invariant (w.unwrap_or.ensures ∙ ap (λ (o : Option ℕ). unwrap_or o 0) (w.constant.ensures ∙ ap (option_and_then (λ (y : Item). constant_of_body c.args.model.now y.body)) at)) w.in_ok-push.ensures.items
      | else-is_node w ↦
          ap (λ (v : Vec ℕ Global). v.items) w.words-is
          ∙ made_same (λ (x : Item). standing_word c.args.model.now x.body) c.items-items.result.now c.loop-place.words.items c.loop-place.place c.index-items-place.result c.index-items-place.result c.loop-place-test.true
          c.index-items-place.is (sym c.is_node.ensures ∙ w.if-is_node.false) c.loop-place.invariant
    ]

pub returns : goal.returns
returns c =
    let all : length c.items-items.result.now ≤ c.loop-place.place = omega arith in
    c.loop-place.invariant ∙ ap (λ (l : List Item). map (λ (x : Item). standing_word c.args.model.now x.body) (of_kind has_value l)) (take_all c.loop-place.place c.items-items.result.now all ∙ c.items-items.ensures.items)

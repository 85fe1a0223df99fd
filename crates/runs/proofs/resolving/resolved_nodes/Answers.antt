use Rattle.std.proofs.Common.{◌≡◌, ◌≤◌, ℕ, List, [], ◌∷◌, ◌++◌, Option, Some, Vec, Global, length, take, get_or, slice_get, ap, ap₂, ◌∙◌, sym, arith}
use Rattle.std.proofs.lemmas.List.{append-nil, take_all}
use Rattle.btor2.specs.declared.item.Item.{Item}
use Rattle.runs.specs.declared.nodes.Node.{Node}
use Rattle.runs.specs.declared.nodes.Operator.{Operator}
use Rattle.runs.specs.Nodes.{slot, with_node, run_nodes}
use Rattle.runs.proofs.PlaceLemmas.{map_read}
use Rattle.runs.proofs.StateLemmas.{item_at, nodes_of-more}
use Rattle.runs.proofs.resolving.resolved_nodes.Goals as goal
use Rattle.runs.proofs.resolving.resolved_nodes.Goals.{in-Some+in_ok-push, in_default}

pub loop-place-preserved : goal.loop-place-preserved
loop-place-preserved c =
    let items = c.args.model.now in
    let list = c.items-items.result.now in
    let place = c.loop-place.place in
    let x = c.index-items-place.result in
    let at : slice_get items place ≡ Some x = item_at items list place x c.items-items.ensures.items c.loop-place-test.true c.index-items-place.is in
    let own : get_or c.args.slots.now place 0 ≡ slot items x.id = ap (λ (l : List ℕ). get_or l place 0) c.requires ∙ map_read (λ (y : Item). slot items y.id) items place x at in
    let more = nodes_of-more items list place x x c.loop-place-test.true c.index-items-place.is in
    elim c.match-operator_of.branch [
      | in-Some+in_ok-push w ↦
          ap (λ (v : Vec Node Global). v.items) w.nodes-is ∙ w.in_ok-push.ensures.items
          ∙ ap₂ (λ (front : List Node) (p : ℕ). front ++ record { place = p; operator = w.in-Some.operator } ∷ []) c.loop-place.invariant own
          ∙ ap (λ (o : Option Operator). run_nodes items (take place list) ++ with_node (slot items x.id) o []) w.in-Some.ensures ∙ sym more
      | in_default w ↦
          ap (λ (v : Vec Node Global). v.items) w.nodes-is ∙ c.loop-place.invariant ∙ sym (append-nil (run_nodes items (take place list)))
          ∙ ap (λ (o : Option Operator). run_nodes items (take place list) ++ with_node (slot items x.id) o []) w.in_default.ensures ∙ sym more
    ]

pub returns : goal.returns
returns c =
    let all : length c.items-items.result.now ≤ c.loop-place.place = omega arith in
    c.loop-place.invariant ∙ ap (run_nodes c.args.model.now) (take_all c.loop-place.place c.items-items.result.now all ∙ c.items-items.ensures.items)

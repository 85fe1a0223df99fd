use Rattle.std.proofs.Common.{◌≡◌, ◌<◌, ◌≤◌, length, map, take, ap, ◌∙◌, arith, refl}
use Rattle.std.proofs.lemmas.List.{take_all}
use Rattle.btor2.specs.Items.{is_state}
use Rattle.runs.specs.Frames.{ids_of}
use Rattle.runs.specs.Holds.{next_slot}
use Rattle.runs.proofs.RankLemmas.{length-ids, length-places}
use Rattle.runs.proofs.StateLemmas.{map_push}
use Rattle.runs.proofs.resolving.next_slots.Goals as goal

pub next_slot-requires-clause-there : goal.next_slot-requires-clause-there
next_slot-requires-clause-there c = omega (arith, ap length c.states-k-end.ensures, length-ids is_state c.args.model.now, length-places is_state 0 c.args.model.now)

pub loop-k-preserved : goal.loop-k-preserved
loop-k-preserved c =
    let items = c.args.model.now in
    let inside : c.loop-k.k < length (ids_of is_state items) = omega (arith, ap length c.states-k-end.ensures, length-ids is_state items, length-places is_state 0 items) in
    map_push (next_slot items) (ids_of is_state items) c.loop-k.nexts.items c.push.new.self.items c.loop-k.k _ 0 _ inside c.loop-k.invariant refl c.next_slot.ensures c.in_ok-push.ensures.items

pub returns : goal.returns
returns c =
    let items = c.args.model.now in
    let all : length (ids_of is_state items) ≤ c.loop-k.k = omega (arith, ap length c.states-k-end.ensures, length-ids is_state items, length-places is_state 0 items) in
    let so_far : c.loop-k.nexts.items ≡ map (next_slot items) (take c.loop-k.k (ids_of is_state items)) = c.loop-k.invariant in
    so_far ∙ ap (map (next_slot items)) (take_all c.loop-k.k (ids_of is_state items) all)

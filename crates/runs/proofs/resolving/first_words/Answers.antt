use Rattle.std.proofs.Common.{◌<◌, ◌≤◌, length, map, ap, ◌∙◌, arith, refl}
use Rattle.std.proofs.lemmas.List.{take_all}
use Rattle.btor2.specs.Items.{is_state}
use Rattle.runs.specs.Frames.{ids_of}
use Rattle.runs.specs.Run.{first_word}
use Rattle.runs.proofs.RankLemmas.{length-ids, length-places}
use Rattle.runs.proofs.StateLemmas.{map_push}
use Rattle.runs.proofs.resolving.first_words.Goals as goal

pub first_word-requires : goal.first_word-requires
first_word-requires c = omega (arith, ap length c.states-k-end.ensures, length-ids is_state c.args.model.now, length-places is_state 0 c.args.model.now)

pub loop-k-preserved : goal.loop-k-preserved
loop-k-preserved c =
    let items = c.args.model.now in
    let inside : c.loop-k.k < length (ids_of is_state items) = omega (arith, ap length c.states-k-end.ensures, length-ids is_state items, length-places is_state 0 items) in
    map_push (first_word items) (ids_of is_state items) c.loop-k.words.items c.push.new.self.items c.loop-k.k _ 0 c.first_word.result inside c.loop-k.invariant refl c.first_word.ensures c.in_ok-push.ensures.items

pub returns : goal.returns
returns c =
    let items = c.args.model.now in
    let all : length (ids_of is_state items) ≤ c.loop-k.k = omega (arith, ap length c.states-k-end.ensures, length-ids is_state items, length-places is_state 0 items) in
    c.loop-k.invariant ∙ ap (map (first_word items)) (take_all c.loop-k.k (ids_of is_state items) all)

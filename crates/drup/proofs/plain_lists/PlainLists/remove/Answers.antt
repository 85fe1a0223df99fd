use Rattle.std.proofs.Common.{◌<◌, ℕ, List, length, ap, ◌∙◌, arith, Vec, Global}
use Rattle.std.proofs.lemmas.List.{length-map}
use Rattle.std.specs.Prelude.{slice_set}
use Rattle.std.specs.List.{swap_remove}
use Rattle.drup.specs.Lists.{list_at}
use Rattle.drup.proofs.ListsLemmas.{put_list, list_is, removed_default}
use Rattle.drup.proofs.plain_lists.PlainLists.remove.Goals as goal

pub returns : goal.returns
returns c =
    let inside : c.args.list < length c.self.inside.lists.items = omega (arith, c.requires.inside, ap length c.self.view_is, length-map c.self.inside.lists.items (λ (v : Vec ℕ Global). v.items)) in
    let there : c.args.place < length c.index_mut.result.now.items =
    omega (arith, c.requires.there, ap (λ (now : List (List ℕ)). length (list_at now c.args.list)) c.self.view_is, ap length (list_is (λ (v : Vec ℕ Global). v.items) c.self.inside.lists.items c.args.list c.index_mut.result.now inside c.index_mut.ensures.value)) in
    (put_list (λ (v : Vec ℕ Global). v.items) c.self.inside.lists.items c.args.list c.index_mut.result.now c.swap_remove.new.self (λ ys. swap_remove ys c.args.place 0) inside c.index_mut.ensures.value
    (c.swap_remove.ensures.items ∙ removed_default c.index_mut.result.now.items c.args.place c.swap_remove.result there))
    ∙ ap (λ (now : List (List ℕ)). slice_set now c.args.list (swap_remove (list_at now c.args.list) c.args.place 0)) c.self.view_is

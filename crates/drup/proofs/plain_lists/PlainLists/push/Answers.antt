use Rattle.std.proofs.Common.{◌<◌, ℕ, List, [], ◌∷◌, ◌++◌, length, ap, ◌∙◌, arith, Vec, Global}
use Rattle.std.proofs.lemmas.List.{length-map}
use Rattle.std.specs.Prelude.{slice_set}
use Rattle.drup.specs.Lists.{list_at}
use Rattle.drup.proofs.ListsLemmas.{put_list, same_list}
use Rattle.drup.proofs.plain_lists.PlainLists.push.Goals as goal

pub returns-clause-ok : goal.returns-clause-ok
returns-clause-ok c =
    let inside : c.args.list < length c.self.inside.lists.items = omega (arith, c.requires, ap length c.self.view_is, length-map c.self.inside.lists.items (λ (v : Vec ℕ Global). v.items)) in
    (put_list (λ (v : Vec ℕ Global). v.items) c.self.inside.lists.items c.args.list c.index_mut.result.now c.push.new.self (λ ys. ys ++ c.args.number ∷ []) inside c.index_mut.ensures.value c.in-Ok.ensures.items)
    ∙ ap (λ (now : List (List ℕ)). slice_set now c.args.list (list_at now c.args.list ++ c.args.number ∷ [])) c.self.view_is

pub returns-in-Err-clause-err : goal.returns-in-Err-clause-err
returns-in-Err-clause-err c =
    let inside : c.args.list < length c.self.inside.lists.items = omega (arith, c.requires, ap length c.self.view_is, length-map c.self.inside.lists.items (λ (v : Vec ℕ Global). v.items)) in
    same_list (λ (v : Vec ℕ Global). v.items) c.self.inside.lists.items c.args.list c.index_mut.result.now c.push.new.self inside c.index_mut.ensures.value c.in-Err.ensures.items ∙ c.self.view_is

use Rattle.std.proofs.Common.{◌≡◌, ◌<◌, ℕ, List, length, get_or, set, ap, ap₂, sym, ◌∙◌, arith}
use Rattle.std.specs.List.{swap_remove}
use Rattle.drup.specs.Lists.{list_at, numbered}
use Rattle.std.proofs.lemmas.List.{length-map, get_or_read}
use Rattle.drup.proofs.ListsLemmas.{numbered_at, numbered_set, own_number}
use Rattle.drup.proofs.lists.Lists.remove.Goals as goal

pub returns : goal.returns
returns c =
    let numbers : List ℕ = c.self.inside.numbers.items in
    let inside : c.args.literal < length numbers = omega (arith, c.requires.inside, ap length c.self.view_is, length-map numbers (list_at c.self.inside.lists)) in
    let number : c.index.result.now ≡ get_or numbers c.args.literal 0 = get_or_read numbers c.args.literal c.index.result.now inside c.index.ensures 0 in
    let own : list_at c.self.inside.lists c.index.result.now ≡ list_at c.args.self.now c.args.literal =
    ap (list_at c.self.inside.lists) number ∙ sym (numbered_at numbers c.self.inside.lists c.args.literal inside) ∙ ap (λ (lists : List (List ℕ)). list_at lists c.args.literal) c.self.view_is in
    let some : 0 < c.index.result.now = own_number c.self.inside.lists c.index.result.now c.self.invariant.none (omega (arith, c.requires.there, ap length own)) in
    ap (numbered numbers) c.remove.ensures
    ∙ numbered_set numbers c.self.inside.lists c.args.literal c.index.result.now (swap_remove (list_at c.self.inside.lists c.index.result.now) c.args.place 0) c.self.invariant inside number some
    ∙ ap₂ (λ (lists : List (List ℕ)) (list : List ℕ). set lists c.args.literal (swap_remove list c.args.place 0)) c.self.view_is own

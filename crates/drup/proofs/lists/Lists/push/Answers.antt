use Rattle.std.proofs.Common.{◌≡◌, ℕ, List, [], ◌∷◌, ◌++◌, ◌<◌, length, set, ap, ap₂, sym, ◌∙◌, arith}
use Rattle.drup.specs.Lists.{list_at, numbered}
use Rattle.std.proofs.lemmas.List.{length-map}
use Rattle.drup.proofs.NamedLemmas.{on_ok}
use Rattle.drup.proofs.ListsLemmas.{numbered_at, numbered_set}
use Rattle.drup.proofs.lists.Lists.push.Goals as goal

pub returns-clause-ok : goal.returns-clause-ok
returns-clause-ok c =
    let inside : c.args.literal < length c.own_list.new.numbers.items = omega (arith, c.requires, ap length c.self.view_is, length-map c.self.inside.numbers.items (list_at c.self.inside.lists), c.own_list.ensures.many) in
    let view : numbered c.own_list.new.numbers.items c.own_list.new.lists ≡ c.args.self.now = c.own_list.ensures.same ∙ c.self.view_is in
    let own : list_at c.own_list.new.lists c.in_ok-list.list ≡ list_at c.args.self.now c.args.literal =
    ap (list_at c.own_list.new.lists) c.in_ok-list.ensures.own.1 ∙ sym (numbered_at c.own_list.new.numbers.items c.own_list.new.lists c.args.literal inside) ∙ ap (λ (lists : List (List ℕ)). list_at lists c.args.literal) view in
    on_ok c.push.result (c.push.new.self ≡ set c.own_list.new.lists c.in_ok-list.list (list_at c.own_list.new.lists c.in_ok-list.list ++ c.args.number ∷ []))
    (numbered c.own_list.new.numbers.items c.push.new.self ≡ set c.args.self.now c.args.literal (list_at c.args.self.now c.args.literal ++ c.args.number ∷ [])) c.push.ensures.ok
    (λ pushed.
    ap (numbered c.own_list.new.numbers.items) pushed
    ∙ numbered_set c.own_list.new.numbers.items c.own_list.new.lists c.args.literal c.in_ok-list.list (list_at c.own_list.new.lists c.in_ok-list.list ++ c.args.number ∷ []) c.own_list.ensures.numbered inside c.in_ok-list.ensures.own.1 c.in_ok-list.ensures.own.0
    ∙ ap₂ (λ (lists : List (List ℕ)) (list : List ℕ). set lists c.args.literal (list ++ c.args.number ∷ [])) view own)

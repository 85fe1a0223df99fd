use Rattle.std.proofs.Common.{◌≡◌, ℕ, List, get_or, set, sym, ap₂, ◌∙◌, arith}
use Rattle.std.proofs.lemmas.List.{get_or_read}
use Rattle.drup.specs.Lists.{numbered}
use Rattle.drup.proofs.ListsLemmas.{numbered_more}
use Rattle.drup.proofs.lists.own_list.Goals as goal

pub returns-clause-same : goal.returns-clause-same
returns-clause-same c =
    let none : get_or c.args.numbers.now.items c.args.literal 0 ≡ 0 = sym (get_or_read c.args.numbers.now.items c.args.literal c.index-found.result.now c.requires.inside c.index-found.ensures 0) ∙ omega (arith, c.if-found-gt0.false) in
    ap₂ (λ (n : ℕ) (lists : List (List ℕ)). numbered (set c.args.numbers.now.items c.args.literal n) lists) c.len-number.ensures c.in_ok-add.ensures.ok ∙ numbered_more c.args.numbers.now.items c.args.lists.now c.args.literal c.requires.numbered c.requires.inside none

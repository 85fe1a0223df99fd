use Rattle.std.proofs.Common.{◌++◌, ℕ, List, ap, sym, ◌∙◌}
use Rattle.fullunfit.proofs.TitleLemmas.{told_front}
use Rattle.fullunfit.proofs.titles.ByValueTitles.add_front.Goals as goal

pub add_word_front-requires-clause-word : goal.add_word_front-requires-clause-word
add_word_front-requires-clause-word c =
    let by = c.args.self.now in (told_front by.values.now by.leaves.now by.nodes.now c.args.frame c.args.index (sym c.tells_word.ensures ∙ c.if-tells_word.true)).0

pub returns-then-tells_word : goal.returns-then-tells_word
returns-then-tells_word c =
    let by = c.args.self.now in
    c.add_word_front.ensures ∙ ap (λ (front : List ℕ). front ++ c.args.line.now) (sym (told_front by.values.now by.leaves.now by.nodes.now c.args.frame c.args.index (sym c.tells_word.ensures ∙ c.if-tells_word.true)).1)

use Rattle.std.proofs.Common.{◌<◌, ◌^◌, not, sym, ap, ◌∙◌, arith}
use Rattle.std.proofs.lemmas.Bool.{lt-ltb}
use Rattle.fulljudge.specs.Kept.{words_in}
use Rattle.fullunfit.proofs.TitleLemmas.{told_past, told_later, told_first}
use Rattle.fullunfit.proofs.titles.ByValue.tells_word.Goals as goal

pub returns-then-word-words : goal.returns-then-word-words
returns-then-word-words c =
    let by = c.args.self.now in
    sym (told_past by.values.now by.leaves.now by.nodes.now c.args.frame c.args.word (omega (arith, c.if-word-words.true, c.words.ensures)))

pub returns-then-frame-gt0 : goal.returns-then-frame-gt0
returns-then-frame-gt0 c =
    let by = c.args.self.now in
    let few : words_in by.values.now < 2 ^ 64 = omega (arith, c.words.ensures, c.words.type_inv) in
    lt-ltb 0 c.args.frame c.if-frame-gt0.true ∙ sym (told_later by.values.now by.leaves.now by.nodes.now c.args.frame c.args.word few (omega (arith, c.if-word-words.false, c.words.ensures)) c.if-frame-gt0.true)

pub returns-else-frame-gt0 : goal.returns-else-frame-gt0
returns-else-frame-gt0 c =
    let by = c.args.self.now in
    let few : words_in by.values.now < 2 ^ 64 = omega (arith, c.words.ensures, c.words.type_inv) in
    ap not c.is_left_out.ensures ∙ sym (told_first by.values.now by.leaves.now by.nodes.now c.args.frame c.args.word few (omega (arith, c.if-word-words.false, c.words.ensures)) c.if-frame-gt0.false)

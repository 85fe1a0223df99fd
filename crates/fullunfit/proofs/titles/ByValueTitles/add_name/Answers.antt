use Rattle.std.proofs.Common.{◌++◌, ℕ, List, Option, None, get_or, option_and_then, arith, ap, sym, ◌∙◌}
use Rattle.witness.specs.Texts.{symbol_part}
use Rattle.lift.specs.Lifted.{name_in_frame}
use Rattle.fullunfit.proofs.TitleLemmas.{symbol_is, no_symbol}
use Rattle.fullunfit.proofs.titles.ByValueTitles.add_name.Goals as goal

pub returns-then-word-words : goal.returns-then-word-words
returns-then-word-words c =
    c.add_name.ensures
    ∙ ap (λ (o : Option (List ℕ)). symbol_part (option_and_then (name_in_frame c.args.frame) o) ++ c.args.line.now)
    (ap (λ (k : ℕ). get_or c.args.self.now.symbols.now k None) c.value_of_word-value.ensures ∙ sym (symbol_is c.args.self.now.values.now c.args.self.now.symbols.now c.args.index (omega (arith, c.if-word-words.true, c.words.ensures))))

pub returns-else-word-words : goal.returns-else-word-words
returns-else-word-words c =
    ap (λ (o : Option (List ℕ)). symbol_part (option_and_then (name_in_frame c.args.frame) o) ++ c.args.line.now) (sym (no_symbol c.args.self.now.values.now c.args.self.now.symbols.now c.args.index (omega (arith, c.if-word-words.false, c.words.ensures))))

use Rattle.verbs.proofs.FittedLemmas.{neither, words_of_text}
use Rattle.verbs.proofs.fitted.read_words.Goals as goal

pub returns-in-Ok-clause-read : goal.returns-in-Ok-clause-read
returns-in-Ok-clause-read c = words_of_text c.args.text.now c.in-Ok.wide c.where_wide_ready.result (λ items. c.texts_are_read.ensures.same c.args.text.now items c.in-Ok.wide) c.in-Ok.ensures.found c.where_wide_ready.ensures

pub returns-in_default : goal.returns-in_default
returns-in_default c = record {
  read = λ items stands ready. neither c.in_default.not-Device c.in_default.not-NoMemory (c.in-Err.ensures.only items stands);
  memory = tt;
}

use Rattle.std.proofs.Common.{sym}
use Rattle.std.proofs.lemmas.List.Elements.{All-set}
use Rattle.btor2text.specs.KnownWords.{IsKnown}
use Rattle.btor2text.proofs.FormLemmas.{form_takes}
use Rattle.btor2text.proofs.known_words.KnownWords.learn.Goals as goal

pub known-requires-clause-names : goal.known-requires-clause-names
known-requires-clause-names c = form_takes c.in_ok-word.word.now c.in_ok-form.form (sym c.in_ok-form.ensures)

pub invariant_of-self : goal.invariant_of-self
invariant_of-self c = All-set IsKnown c.self.inside.words c.args.place c.known.result c.known.ensures c.self.invariant

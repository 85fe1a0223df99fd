use Rattle.std.proofs.Common.{◌<◌, length, refl, rules}
use Rattle.btor2text.proofs.KnownLemmas.{known_form}
use Rattle.btor2text.proofs.known_words.KnownWords.form_at.Goals as goal

pub returns-then-begin_as : goal.returns-then-begin_as
returns-then-begin_as c =
    let first = c.in-Some.ensures.cases in
    let there : c.place-at.result < length c.self.inside.words = search rules in
    rw (c.split_at.ensures.back, c.from.ensures) (known_form _ c.args.line.now c.in-Some.bytes.now (c.self.invariant c.place-at.result _ there) first.enough first.same (c.if-begin_as.ensures refl))

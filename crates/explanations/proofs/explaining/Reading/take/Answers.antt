use Rattle.std.specs.Str.Iter.{split_ascii_whitespace_text}
use Rattle.explanations.proofs.WordLemmas.{next_word, no_more}
use Rattle.explanations.proofs.explaining.Reading.take.Goals as goal

pub loop-word-preserved : goal.loop-word-preserved
loop-word-preserved c =
    let first = next_word (split_ascii_whitespace_text c.loop-word.words) (split_ascii_whitespace_text c.next.new.self) c.in-Some.word c.in-Some.ensures.steps in
    record { left = λ more. rw (c.eq-self.ensures, c.with_word-self.ensures) (rw first at (c.loop-word.invariant.left more)) }

pub returns : goal.returns
returns c =
    let none = no_more (split_ascii_whitespace_text c.loop-word.words) (split_ascii_whitespace_text c.next.new.self) c.next.result c.in_default.is c.next.ensures.steps in
    λ more. rw none at (c.loop-word.invariant.left more)

use Rattle.bstr.specs.Bytes.{not_in}
use Rattle.base.proofs.CutLemmas.{cut_at_first, none_at_all}
use Rattle.btor2text.proofs.TokenLemmas.{blanks, tokens-drop, all_blanks, begins_blank-drop, is_blank_not}
use Rattle.requests.proofs.line_words.without_blanks.Goals as goal

pub returns-in-None-clause-same : goal.returns-in-None-clause-same
returns-in-None-clause-same c =
    let all = all_blanks c.args.line.now (none_at_all (not_in blanks) c.args.line.now c.in-None.ensures) in
    rw c.split_at.ensures.back all

pub returns-in-Some-clause-same : goal.returns-in-Some-clause-same
returns-in-Some-clause-same c =
    let cut = cut_at_first (not_in blanks) c.args.line.now c.in-Some.at c.in-Some.ensures in
    rw c.split_at-in-Some.ensures.back (tokens-drop c.in-Some.at c.args.line.now cut.before)

pub returns-in-Some-clause-begins : goal.returns-in-Some-clause-begins
returns-in-Some-clause-begins c =
    let cut = cut_at_first (not_in blanks) c.args.line.now c.in-Some.at c.in-Some.ensures in
    rw c.split_at-in-Some.ensures.back (begins_blank-drop c.in-Some.at c.args.line.now cut.inside (is_blank_not _ cut.passes))

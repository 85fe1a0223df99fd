use Rattle.std.proofs.Common.{◌++◌, take, sym, ◌∙◌}
use Rattle.lrat.proofs.CodedLemmas.{word_there, all_there}
use Rattle.lrat.proofs.lrat_judge.LratJudge.take_piece.Goals as goal

pub returns-then-is_closed-clause-stands : goal.returns-then-is_closed-clause-stands
returns-then-is_closed-clause-stands c f text b = all_there f c.args.self.now text c.args.bytes.now c.args.at (sym c.is_closed.ensures ∙ c.if-is_closed.true) b

pub returns-in-Some-clause-stands : goal.returns-in-Some-clause-stands
returns-in-Some-clause-stands c f text b =
    word_there f c.take_number.new.self text c.args.bytes.now c.in-Some.ensures.word c.args.at c.in-Some.end c.in-Some.ensures.is
    (c.take_number.ensures.stands f (text ++ take c.args.at c.args.bytes.now) c.in-Some.ensures.word c.in-Some.ensures.writes b)

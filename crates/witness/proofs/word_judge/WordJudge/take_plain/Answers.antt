use Rattle.std.proofs.Common.{◌≡◌, [], ◌∷◌, ◌<◌, ◌^◌, None, append_assoc, ap, subst, sym, ◌∙◌}
use Rattle.std.proofs.lemmas.Bool.{leb-false}
use Rattle.witness.specs.WordStands.{WordJudge, StandsForWitness}
use Rattle.witness.proofs.WordJudgeLemmas.{line_taken}
use Rattle.witness.proofs.word_judge.WordJudge.take_plain.Goals as goal

pub returns-clause-line : goal.returns-clause-line
returns-clause-line c =
    let taken = c.in_ok-rest.ensures.line in
    let fresh : c.self.inside.lines.refused ≡ None = ap (λ (j : WordJudge). j.refused) c.self.view_is ∙ c.requires.unrefused in
    let few : c.self.inside.lines.admitted < 2 ^ 62 = leb-false (2 ^ 62) c.self.inside.lines.admitted (sym c.are_most.ensures ∙ c.if-are_most.false) in
    let empty : c.self.inside.line.bytes ≡ [] = ap (λ (j : WordJudge). j.line) c.self.view_is ∙ c.requires.begins in
    record {
      line = taken.line;
      is = taken.is ∙ sym (append_assoc taken.line (10 ∷ []) c.in_ok-rest.rest.now);
      stands = λ items text stands. line_taken items text _ c.take_line.new.self c.args.text.now c.in_ok-rest.rest.now taken fresh few empty (subst (λ (j : WordJudge). StandsForWitness items j text) (sym c.self.view_is) stands);
    }

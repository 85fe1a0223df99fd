use Rattle.std.proofs.Common.{◌≡◌, List, ℕ, ◌++◌, ◌∷◌, [], ◌+◌, take, get_or, append_assoc, subst, sym, ap, ◌∙◌}
use Rattle.std.proofs.lemmas.List.{take_more}
use Rattle.drup.specs.TextJudges.{StandsForLines}
use Rattle.drup.proofs.text_judge.TextJudge.take_more.Goals as goal

pub returns-in-Within-clause-stands : goal.returns-in-Within-clause-stands
returns-in-Within-clause-stands c f text stands =
    let front : List ℕ = take c.args.from c.args.bytes.now in
    let byte = get_or c.args.bytes.now c.args.from 0 in
    let whole : (text ++ front) ++ byte ∷ [] ≡ text ++ take (c.args.from + 1) c.args.bytes.now =
    append_assoc text front (byte ∷ []) ∙ ap (λ (l : List ℕ). text ++ l) (sym (take_more c.args.bytes.now c.args.from 0 c.requires)) in
    c.take_letters.ensures.stands f text (subst (StandsForLines f c.take.new.self) whole (c.take.ensures.stands f (text ++ front) stands))

use Rattle.std.proofs.Common.{◌≡◌, ◌<◌, List, ℕ, ◌++◌, ◌∷◌, [], ◌+◌, length, take, get_or, append_assoc, subst, sym, ap, ◌∙◌, arith}
use Rattle.std.proofs.lemmas.List.{take_more}
use Rattle.drup.specs.TextJudges.{TextJudge, StandsForLines}
use Rattle.drup.proofs.TextJudgeLemmas.{byte_comes, stands_letter, stands_through, stands_behind}
use Rattle.drup.proofs.text_judge.TextJudge.take_letters.Goals as goal

pub loop-word-preserved : goal.loop-word-preserved
loop-word-preserved c =
    let here : c.loop-word.place < length c.args.bytes.now = c.is_letter_at.ensures.inside c.loop-word-test.true in (
      omega (arith, c.loop-word.invariant.0),
      omega (arith, here),
      λ f text stands.
          let front : List ℕ = take c.loop-word.place c.args.bytes.now in
          let byte = get_or c.args.bytes.now c.loop-word.place 0 in
          let old : TextJudge = record c.args.self.now { word = c.loop-word.word } in
          let new : TextJudge = record c.args.self.now { word = c.with-word.result } in
          let whole : (text ++ front) ++ byte ∷ [] ≡ text ++ take (c.loop-word.place + 1) c.args.bytes.now =
          append_assoc text front (byte ∷ []) ∙ ap (λ (l : List ℕ). text ++ l) (sym (take_more c.args.bytes.now c.loop-word.place 0 here)) in
          let pending = byte_comes f old (text ++ front) byte c.requires.open (stands_through f old (text ++ front) (c.loop-word.invariant.2 f text stands)) in
          subst (StandsForLines f new) whole
          (stands_behind f new (text ++ front) byte
          (stands_letter f old ((text ++ front) ++ byte ∷ []) byte c.with-word.result c.requires.open c.requires.within (c.is_letter_at.ensures.goes_on c.loop-word-test.true) (c.is_letter_at.ensures.apart c.loop-word-test.true) c.with-word.ensures pending)),
    )

pub returns-clause-stands : goal.returns-clause-stands
returns-clause-stands c f text stands = subst (λ (x : TextJudge). StandsForLines f (record x { word = c.loop-word.word }) (text ++ take c.loop-word.place c.args.bytes.now)) (sym c.self.view_is) (c.loop-word.invariant.2 f text stands)

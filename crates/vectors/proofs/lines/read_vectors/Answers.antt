use Rattle.std.proofs.Common.{◌≡◌, ℕ, ◌+◌, ◌++◌, ◌∷◌, [], ap, ◌∙◌, refl, rules, List, length, ◌==◌}
use Rattle.std.proofs.lemmas.Bool.{false≢true}
use Rattle.vectors.proofs.VectorLemmas.{one_numbered, first_bad, first_unfinished}
use Rattle.vectors.proofs.lines.read_vectors.Goals as goal

pub loop-front-preserved : goal.loop-front-preserved
loop-front-preserved c =
    let cut : c.loop-front.rest.now ≡ c.in-Some.front.now ++ 10 ∷ c.in-Some.after.now = search rules in
    one_numbered c.args.text.now c.loop-front.rest.now c.in-Some.front.now c.in-Some.after.now c.loop-front.vectors.items c.push.new.self.items c.in-Some-vector_of.vector c.loop-front.invariant cut c.in-Some-vector_of.ensures.written
    (c.in-Ok.ensures.items ∙ ap (λ (k : ℕ). c.loop-front.vectors.items ++ record { line = k + 1; vector = c.in-Some-vector_of.vector } ∷ []) (c.len.ensures ∙ c.loop-front.vectors.ok.0))

pub returns-in-None-clause-bad : goal.returns-in-None-clause-bad
returns-in-None-clause-bad c =
    first_bad c.args.text.now c.loop-front.rest.now c.in-Some.front.now c.in-Some.after.now c.loop-front.vectors.items c.len.result c.loop-front.invariant (c.len.ensures ∙ c.loop-front.vectors.ok.0) (search rules) (search rules) (c.in-None.ensures.none refl)

pub returns-else-is_empty-clause-bad : goal.returns-else-is_empty-clause-bad
returns-else-is_empty-clause-bad c =
    first_unfinished c.args.text.now c.loop-front.rest.now c.loop-front.vectors.items c.len-else-is_empty.result c.loop-front.invariant (c.len-else-is_empty.ensures ∙ c.loop-front.vectors.ok.0) (search rules) (λ e. false≢true (c.if-is_empty.ensures ∙ ap (λ (t : List ℕ). length t == 0) e))

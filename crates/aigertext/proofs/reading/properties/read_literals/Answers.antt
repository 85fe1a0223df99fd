use Rattle.std.proofs.Common.{◌≡◌, ◌+◌, ◌-◌, ◌∷◌, [], ◌++◌, ◌∙◌, ap, refl, inr, rules, arith}
use Rattle.aigertext.specs.Passes.{onto}
use Rattle.aigertext.specs.Reading.{literal_on, literals_at}
use Rattle.aigertext.proofs.PassLemmas.{onto_step, onto_stop}
use Rattle.aigertext.proofs.reading.properties.read_literals.Goals as goal

pub returns-in-Err : goal.returns-in-Err
returns-in-Err c =
    inr (onto_stop literal_on (λ g l. g) c.args.greatest (c.args.count - c.loop-index._index) (c.args.count - (c.loop-index._index + 1)) c.loop-index.rest.now (omega arith)
    c.loop-index.list.items c.in-Err.stop _ c.in-Err.ensures c.loop-index.invariant)

pub loop-index-preserved : goal.loop-index-preserved
loop-index-preserved c =
    let pushed : c.push.new.self.items ≡ c.loop-index.list.items ++ c.in-Ok.found.0 ∷ [] = search rules in
    ap (λ ls. onto ls (literals_at c.args.greatest (c.args.count - (c.loop-index._index + 1)) c.in-Ok.found.1.now)) pushed
    ∙ onto_step literal_on (λ g l. g) c.args.greatest (c.args.count - c.loop-index._index) (c.args.count - (c.loop-index._index + 1)) c.loop-index.rest.now (omega arith)
    c.loop-index.list.items c.in-Ok.found.0 c.in-Ok.found.1.now c.args.greatest _ refl c.in-Ok.ensures c.loop-index.invariant

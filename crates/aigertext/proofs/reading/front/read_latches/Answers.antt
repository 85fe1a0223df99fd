use Rattle.std.proofs.Common.{◌≡◌, ◌+◌, ◌-◌, ◌*◌, ◌∷◌, [], ◌++◌, ◌∙◌, ap, inr, rules, arith}
use Rattle.aigertext.specs.Passes.{onto, latch_in, latches_in}
use Rattle.aigertext.proofs.PassLemmas.{onto_step, onto_stop}
use Rattle.aigertext.proofs.reading.front.read_latches.Goals as goal

pub returns-in-Err : goal.returns-in-Err
returns-in-Err c =
    inr (onto_stop (latch_in c.args.form c.args.greatest) (λ o l. o + 2) (c.args.first + 2 * c.loop-index.index) (c.args.count - c.loop-index.index) (c.args.count - (c.loop-index.index + 1)) c.loop-index.rest.now (omega arith)
    c.loop-index.latches.items c.in-Err.stop _ c.in-Err.ensures c.loop-index.invariant)

pub loop-index-preserved : goal.loop-index-preserved
loop-index-preserved c =
    let pushed : c.push.new.self.items ≡ c.loop-index.latches.items ++ c.in-Ok.found.0 ∷ [] = search rules in
    ap (λ ls. onto ls (latches_in c.args.form c.args.greatest (c.args.first + 2 * (c.loop-index.index + 1)) (c.args.count - (c.loop-index.index + 1)) c.in-Ok.found.1.now)) pushed
    ∙ onto_step (latch_in c.args.form c.args.greatest) (λ o l. o + 2) (c.args.first + 2 * c.loop-index.index) (c.args.count - c.loop-index.index) (c.args.count - (c.loop-index.index + 1)) c.loop-index.rest.now (omega arith)
    c.loop-index.latches.items c.in-Ok.found.0 c.in-Ok.found.1.now (c.args.first + 2 * (c.loop-index.index + 1)) _ (omega arith) c.in-Ok.ensures c.loop-index.invariant

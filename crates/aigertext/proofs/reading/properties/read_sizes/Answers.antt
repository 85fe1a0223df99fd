use Rattle.std.proofs.Common.{◌≡◌, ◌+◌, ◌-◌, ◌∷◌, [], ◌++◌, ◌∙◌, ap, refl, inr, rules, arith}
use Rattle.std.proofs.lemmas.Result.{err_from_is_err_and}
use Rattle.std.specs.List.{sum}
use Rattle.aigertext.specs.Passes.{onto}
use Rattle.aigertext.specs.Reading.{size_of, sizes_at}
use Rattle.aigertext.proofs.PassLemmas.{onto_step, onto_stop, stopped, sum_of_more}
use Rattle.aigertext.proofs.reading.properties.read_sizes.Goals as goal

pub returns-in_err-size-clause-read : goal.returns-in_err-size-clause-read
returns-in_err-size-clause-read c =
    stopped _ _ _ _ (err_from_is_err_and c.from_residual.result c.from_residual.ensures.1)
    (inr (onto_stop size_of (λ b size. b + size) c.loop-index.total (c.args.count - c.loop-index._index) (c.args.count - (c.loop-index._index + 1)) c.loop-index.rest.now (omega arith)
    c.loop-index.list.items _ _ c.in_err-size.ensures.gives c.loop-index.invariant.read))

pub loop-index-preserved : goal.loop-index-preserved
loop-index-preserved c =
    let pushed : c.push.new.self.items ≡ c.loop-index.list.items ++ c.in_ok-size.size ∷ [] = search rules in
    record {
      read =
          ap (λ ls. onto ls (sizes_at (c.loop-index.total + c.in_ok-size.size) (c.args.count - (c.loop-index._index + 1)) c.in_ok-size.after.now)) pushed
          ∙ onto_step size_of (λ b size. b + size) c.loop-index.total (c.args.count - c.loop-index._index) (c.args.count - (c.loop-index._index + 1)) c.loop-index.rest.now (omega arith)
          c.loop-index.list.items c.in_ok-size.size c.in_ok-size.after.now (c.loop-index.total + c.in_ok-size.size) _ refl c.in_ok-size.ensures.gives c.loop-index.invariant.read;
      sums = omega (arith, c.loop-index.invariant.sums, sum_of_more c.in_ok-size.size c.loop-index.list.items, ap sum pushed);
      small = c.in_ok-size.ensures.small;
    }

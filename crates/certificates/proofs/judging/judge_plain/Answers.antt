use Rattle.std.proofs.Common.{◌≡◌, [], refl}
use Rattle.std.proofs.KnownBytes.{Consumes-whole}
use Rattle.certificates.proofs.judging.judge_plain.Goals as goal

pub returns-in_ok-finish-in-Ok-clause-judged : goal.returns-in_ok-finish-in-Ok-clause-judged
returns-in_ok-finish-in-Ok-clause-judged g c =
    let f = c.args.formula in
    let taken = c.take_source.ensures.front in
    record {
      text = taken.front;
      is_text = Consumes-whole _ _ taken.front (λ all. all ≡ taken.front) taken.consumes c.in-Ok.ensures.end refl;
      judged = c.in_ok-finish-in-Ok.ensures f taken.front (taken.takes f [] c.in_ok-judge.ensures);
    }

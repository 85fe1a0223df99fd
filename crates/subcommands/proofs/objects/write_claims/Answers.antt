use Rattle.std.proofs.Common.{rules, ◌++◌, ◌+◌, ◌||◌, ℕ, Bool, Option, false, drop, sym, ap, ◌∙◌, arith}
use Rattle.subcommands.specs.Objects.{claim_object, claim_objects, is_there, names}
use Rattle.subcommands.proofs.ObjectLemmas.{claims_next}
use Rattle.subcommands.proofs.SubjectLemmas.{more_told}
use Rattle.subcommands.proofs.objects.write_claims.Goals as goal

pub loop-position-preserved : goal.loop-position-preserved
loop-position-preserved g c =
    let all = names c.args.subject in
    let k = c.loop-position.position in
    let b = c.loop-position.is_behind in
    let rest = drop (k + 1) c.args.firsts.now in
    record {
      told = more_told (g.O.Sink.written c.args.out.now) (g.O.Sink.written c.loop-position.out) (g.O.Sink.written c.write_claim.new.out) (claim_objects all false 0 c.args.firsts.now)
          (claim_object all b k c.frame-first.result) (claim_objects all b k (drop k c.args.firsts.now)) (claim_objects all c.stands_before-is_behind.result (k + 1) rest)
          c.loop-position.invariant.told c.in_ok-write_claim.ensures.written
          (claims_next all b k c.args.firsts.now (omega (arith, c.loop-position-test.true, c.len-position-end.ensures))
          ∙ ap (λ (o : Option ℕ). claim_object all b k o ++ claim_objects all (b || is_there o) (k + 1) rest) (sym c.frame-first.ensures)
          ∙ ap (λ (m : Bool). claim_object all b k c.frame-first.result ++ claim_objects all m (k + 1) rest) (sym c.stands_before-is_behind.ensures));
      counted = search rules;
    }

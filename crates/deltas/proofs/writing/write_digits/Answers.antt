use Rattle.std.proofs.Common.{◌+◌, ◌/◌, ◌%◌, ◌++◌, take, sym, refl, ap, ◌∙◌, arith}
use Rattle.std.proofs.lemmas.List.{take_more_set}
use Rattle.std.proofs.lemmas.Grind.{common_steps}
use Rattle.deltas.specs.Deltas.{digits_128, delta}
use Rattle.deltas.proofs.DigitLemmas.{digits-one, digit_written}
use Rattle.deltas.proofs.writing.write_digits.Goals as goal

pub loop-rest-init : goal.loop-rest-init
loop-rest-init c = record { more = 4; written = refl; small = omega (arith, c.ranges.number.fits); room = omega arith; same = refl }

pub loop-rest-preserved : goal.loop-rest-preserved
loop-rest-preserved c =
    let i = c.loop-rest.invariant in
    let next = digit_written i.more c.loop-rest.rest (take c.loop-rest.end c.loop-rest.buffer) (take c.args.at c.args.buffer.now ++ delta c.args.number) c.loop-rest-test.true i.small i.written in
    record {
      more = next.0;
      written = ap (λ l. l ++ digits_128 next.0 (c.loop-rest.rest / 128)) (take_more_set c.loop-rest.buffer c.loop-rest.end (c.loop-rest.rest % 128 + 128) (omega (arith, i.room, i.same, c.requires))) ∙ next.2;
      small = next.3;
      room = omega (arith, i.room, next.1);
      same = grind (arith, common_steps);
    }

pub returns-clause-bytes : goal.returns-clause-bytes
returns-clause-bytes c =
    let i = c.loop-rest.invariant in
    take_more_set c.loop-rest.buffer c.loop-rest.end c.loop-rest.rest (omega (arith, i.room, i.same, c.requires))
    ∙ ap (λ l. take c.loop-rest.end c.loop-rest.buffer ++ l) (sym (digits-one i.more c.loop-rest.rest c.loop-rest-test.false)) ∙ i.written

use Rattle.std.proofs.Common.{◌≡◌, ◌+◌, ◌<◌, ℕ, List, Option, length, length-set, option_map, slice_get, refl, subst, sym, ap, ◌∙◌, arith}
use Rattle.witness.specs.Reached.{word_reached}
use Rattle.rises.specs.Notes.{noted}
use Rattle.rises.proofs.RiseLemmas.{other_position}
use Rattle.rises.proofs.NoteLemmas.{noted_below, noted_all}
use Rattle.rises.proofs.word_noter.note_words.Goals as goal

pub loop-position-init : goal.loop-position-init
loop-position-init c = record { many = refl; below = λ items text fs stands trace k h. absurd (omega (arith, h)); above = λ k h. refl }

pub loop-position-preserved : goal.loop-position-preserved
loop-position-preserved c =
    record {
      many = ap length c.note.ensures ∙ (length-set _ _ _ ∙ c.loop-position.invariant.many);
      below = λ items text fs stands trace.
          subst (λ (l : List (Option ℕ)). (k : ℕ) → k < c.loop-position.position + 1 → slice_get l k ≡ option_map (noted (word_reached items text fs k) c.args.frame) (slice_get c.args.firsts.now k)) (sym c.note.ensures)
          (noted_below (word_reached items text fs) c.args.frame c.loop-position.position c.args.firsts.now c.loop-position.firsts c.has_reached.result (omega (arith, c.loop-position.invariant.many)) (c.has_reached.ensures items text fs stands trace) c.loop-position.invariant.above
          (c.loop-position.invariant.below items text fs stands trace));
      above = λ k h. ap (λ (l : List (Option ℕ)). slice_get l k) c.note.ensures ∙ (other_position c.loop-position.firsts c.loop-position.position k _ (λ e. omega (arith, h, e)) ∙ c.loop-position.invariant.above k (omega (arith, h)));
    }

pub returns : goal.returns
returns c items text fs stands trace =
    noted_all (word_reached items text fs) c.args.frame c.loop-position.position c.args.firsts.now c.loop-position.firsts (omega arith) (c.loop-position.invariant.below items text fs stands trace) c.loop-position.invariant.above

use Rattle.std.proofs.Common.{List, ◌∷◌, ℕ, Option, length, take, drop, sym, ap, ◌∙◌}
use Rattle.std.proofs.Math.Seq.{take-append_seam, drop-append_seam}
use Rattle.witness.specs.Texts.{symbol_part}
use Rattle.witness.proofs.WordFieldLemmas.{cut_alone, cut_once}
use Rattle.fulljudge.proofs.addresses.front_and_tail.Goals as goal

pub returns-in-None-clause-front : goal.returns-in-None-clause-front
returns-in-None-clause-front c = sym (ap (λ (l : List ℕ × Option (List ℕ)). l.0) (cut_alone c.args.text.now c.in-None.ensures))

pub returns-in-None-clause-tail : goal.returns-in-None-clause-tail
returns-in-None-clause-tail c = sym (ap (λ (l : List ℕ × Option (List ℕ)). symbol_part l.1) (cut_alone c.args.text.now c.in-None.ensures))

pub returns-in-Some-clause-front : goal.returns-in-Some-clause-front
returns-in-Some-clause-front c =
    let front : List ℕ = c.in-Some.front.now in
    c.split_at.ensures.front ∙ ap (take (length front)) c.in-Some.ensures.0 ∙ take-append_seam front (32 ∷ c.in-Some.field-0-1.now)
    ∙ sym (ap (λ (l : List ℕ × Option (List ℕ)). l.0) (cut_once c.args.text.now front c.in-Some.field-0-1.now c.in-Some.ensures.0 c.in-Some.ensures.1))

pub returns-in-Some-clause-tail : goal.returns-in-Some-clause-tail
returns-in-Some-clause-tail c =
    let front : List ℕ = c.in-Some.front.now in
    c.split_at.ensures.back ∙ ap (drop (length front)) c.in-Some.ensures.0 ∙ drop-append_seam front (32 ∷ c.in-Some.field-0-1.now)
    ∙ sym (ap (λ (l : List ℕ × Option (List ℕ)). symbol_part l.1) (cut_once c.args.text.now front c.in-Some.field-0-1.now c.in-Some.ensures.0 c.in-Some.ensures.1))

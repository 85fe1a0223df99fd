-- First rises beside an acceptance.
use Rattle.std.proofs.Common.{◌≡◌, ℕ, ◌+◌, ◌<◌, nat_eq, Bool, true, false, cond, List, Option, Some, None, length, map, slice_get, inl, inr, sym, ap, ◌∙◌, arith}
use Rattle.std.specs.List.{list_any}
use Rattle.base.specs.Lines.{whole_lines}
use Rattle.base.specs.Shown.{Shown, is_bad_in, rises_in_some}
use Rattle.btor2.specs.Items.{is_bad}
use Rattle.full.specs.Lines.{FullLine, lines_of}
use Rattle.full.specs.Runs.{full_shows}
use Rattle.rises.specs.FirstRises.{first_rise}
use Rattle.rises.proofs.LawLemmas.{some_first, other_rises}
use Rattle.rises.proofs.RiseLemmas.{rises_there, length-rises}
use Rattle.witness.specs.declared.judgement.Judgement.TheVariants as judgement
use Rattle.witness.specs.Readings.{reading, text_read}
use Rattle.witness.specs.Admits.{Read, witness_of}
use Rattle.witness.specs.Judgements.{violation_from, unreached_from, words_of, makes_no_claim}
use Rattle.witness.proofs.JudgedLemmas.{ReadAccepted, accepted_reads, NoFault, no_fault}
use Rattle.witness.proofs.ReadingLemmas.{was_all_read}
use Rattle.witness.proofs.ShownLemmas.{claim_reached}
use Rattle.fulljudge.specs.Shapes.{full_shape}
use Rattle.fulljudge.specs.Lines.{full_reader}
use Rattle.fulljudge.specs.Judgements.{SaysOfRun}
use Rattle.fulljudge.specs.Rises.{full_first_rises, IsJudgedWithRises, JudgesFullWithRises, full_claimed}

module _ (full : List FullLine) (text : List ℕ) (frames : ℕ) (firsts : List (Option ℕ)) (judges : JudgesFullWithRises full text (judgement.Accepted frames) firsts) where
  accepted : ReadAccepted (λ r i. IsJudgedWithRises full (words_of (witness_of r)) i firsts) (makes_no_claim 0 (whole_lines text)) (text_read (full_reader (full_shape full)) text) frames
  accepted = accepted_reads (λ r i. IsJudgedWithRises full (words_of (witness_of r)) i firsts) (makes_no_claim 0 (whole_lines text)) (text_read (full_reader (full_shape full)) text) frames judges

  abbrev bads : ℕ
  bads = length (lines_of is_bad full)

  abbrev claims : List ℕ
  claims = accepted.what.claims

  abbrev shown : List Shown
  shown = map (full_shows full) accepted.judged.judged.frames

  said : (reading (full_reader (full_shape full)) text).read ≡ accepted.what
  said = was_all_read (full_reader (full_shape full)) text accepted.what accepted.is

  are : firsts ≡ full_first_rises full claims accepted.judged.judged.frames
  are = accepted.judged.rises (λ i e. cc e)

  fault : NoFault None (violation_from 0 shown) (unreached_from claims shown 0 bads) frames (length shown)
  fault = by accepted.judged.judged.says
    where
      by : SaysOfRun full (words_of (witness_of accepted.what)) accepted.judged.judged.frames (judgement.Accepted frames) → NoFault None (violation_from 0 shown) (unreached_from claims shown 0 bads) frames (length shown)
      by (inl differs) = absurd (cc differs.1)
      by (inr same) = no_fault None (violation_from 0 shown) (unreached_from claims shown 0 bads) frames (length shown) same.1

  is_claimed : (k : ℕ) (b : Bool) → full_claimed full text k ≡ b → list_any (λ c. nat_eq c k) claims ≡ b
  is_claimed k b h = ap (λ (r : Read). list_any (λ c. nat_eq c k) r.claims) (sym said) ∙ h

  pub claim_rises : (k : ℕ) → k < bads → full_claimed full text k ≡ true → (first : ℕ) × ((slice_get firsts k ≡ Some (Some first)) × (first < frames))
  claim_rises k inside h =
      let claimed = is_claimed k true h in
      let e : 0 + k ≡ k = omega arith in
      let reached : rises_in_some k shown ≡ true = sym (ap (λ (i : ℕ). rises_in_some i shown) e) ∙ claim_reached claims shown 0 k bads inside (ap (λ (i : ℕ). list_any (λ c. nat_eq c i) claims) e ∙ claimed) fault.reached in
      let first = some_first (is_bad_in k) 0 shown reached in
      let there = rises_there (λ i. list_any (λ c. nat_eq c i) claims) shown bads k inside in
      let low = first.1.1 in
      let many = fault.many in
      (first.0, (ap (λ (l : List (Option ℕ)). slice_get l k) are ∙ there ∙ ap (λ (b : Bool). Some (cond b (first_rise shown k) None)) claimed ∙ ap (λ (o : Option ℕ). Some o) first.1.0, omega (arith, low, many)))

  pub other_has_none : (k : ℕ) → k < bads → full_claimed full text k ≡ false → slice_get firsts k ≡ Some None
  other_has_none k inside h = ap (λ (l : List (Option ℕ)). slice_get l k) are ∙ other_rises (λ i. list_any (λ c. nat_eq c i) claims) shown bads k inside (is_claimed k false h)

  pub all_stand : length firsts ≡ bads
  all_stand = ap length are ∙ length-rises (λ i. list_any (λ c. nat_eq c i) claims) shown 0 bads

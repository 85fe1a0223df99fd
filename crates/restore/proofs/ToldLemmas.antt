-- What is told behind frames that a circuit took is what is judged of what they are restored to, and its first rise.
use Rattle.std.proofs.Common.{◌≡◌, ℕ, zero, suc, ◌+◌, ◌-◌, ◌^◌, ◌<◌, min, Bool, true, false, cond, if◌then◌else◌, List, [], ◌∷◌, ◌++◌, codes, length, length-append, map, take, get_or, All, Option, None, Some, option_map, refl, sym, ap, ap₂, subst, ◌∙◌, arith, append_assoc, append-nil}
use Rattle.std.specs.List.{position_from}
use Rattle.std.proofs.lemmas.Bool.{leb-true, leb-false}
use Rattle.std.proofs.lemmas.List.{length-map}
use Rattle.base.specs.Lines.{text_of_lines}
use Rattle.base.specs.Literal.{Valuation, literal_value}
use Rattle.base.specs.Shown.{is_bad_in}
use Rattle.aiger.specs.Circuit.{Circuit, IsCircuit}
use Rattle.aiger.specs.Reachability.{circuit_shows}
use Rattle.aiger.specs.Trace.{IsCircuitTrace}
use Rattle.aiger.proofs.TraceLemmas.{trace_length, trace_unique, trace_taken}
use Rattle.engine_form.specs.EngineForm.{begins, input_count}
use Rattle.witness.specs.declared.judgement.Judgement.TheVariants as judgement
use Rattle.witness.specs.declared.why.Why.TheVariants as why
use Rattle.witness.specs.Texts.{most_lines}
use Rattle.witness.specs.Judgements.{Violation, first_of, verdict}
use Rattle.witness.specs.Fits.{breach_from}
use Rattle.witness.specs.Readings.{reading}
use Rattle.witness.specs.BitTexts.{bit_witness_lines, IsBitWitness, BitSays, bit_line}
use Rattle.witness.specs.BitPlays.{first_bit_violated, bit_rises}
use Rattle.witness.specs.BitJudgements.{first_reset_differing, BitJudges}
use Rattle.witness.specs.Reached.{bits_said_in}
use Rattle.witness.proofs.AcceptLemmas.{judged_bits}
use Rattle.witness.proofs.BitOneJudgement.{shown_same}
use Rattle.witness.proofs.BitReadLemmas.{many_lines}
use Rattle.witness.proofs.ShownLemmas.{bits_verdict}
use Rattle.restore.specs.Accepted.{IsFirstRise}
use Rattle.restore.specs.Frames.{trace_from}
use Rattle.restore.specs.FormWitness.{restored_frame_lines, last_line}
use Rattle.restore.specs.Restored.{opening, own_inputs, written_frames, restored_witness}
use Rattle.restore.specs.Plays.{Play, IsFresh, fresh, begun, played, own_frame, are_too_many, play_judgement, play_told, taken}
use Rattle.restore.specs.Putting.{put_lines, lines_before, frames_put, end_put}
use Rattle.restore.proofs.FrameOf.{trace_is}
use Rattle.restore.proofs.LinesReadLemmas.{text_goes, too_long_judged}
use Rattle.restore.proofs.PlayedLemmas.{Behind, behind, one_more, later_frames}
use Rattle.restore.proofs.TakenLemmas.{put_more, all_put}
use Rattle.restore.proofs.RestoredLemmas.{begins_length, begins_as_reset}
use Rattle.restore.proofs.RiseLemmas.{is_witness}

-- where a property is 1 among what frames show
shown_position : (c : Circuit) (k i : ℕ) (vs : List Valuation) → k < length c.bads → position_from (λ v. literal_value v (get_or c.bads k 0)) i vs ≡ position_from (is_bad_in k) i (map (circuit_shows c) vs)
shown_position c k i [] below = refl
shown_position c k i (v ∷ vs) below = ap₂ (λ (b : Bool) (o : Option ℕ). cond b (Some i) o) (bad_shown c.bads k v below) (shown_position c k (i + 1) vs below)
  where
    bad_shown : (bads : List ℕ) (k : ℕ) (v : Valuation) → k < length bads → literal_value v (get_or bads k 0) ≡ is_bad_in k (record { bads = map (literal_value v) bads; constraints = map (literal_value v) c.constraints })
    bad_shown [] k v h = absurd (omega arith)
    bad_shown (b ∷ bads) zero v h = refl
    bad_shown (b ∷ bads) (suc k) v h = bad_shown bads k v (omega arith)

abbrev unreached : Bool → ℕ → Option ℕ
unreached risen k = if risen then None else Some k

found_same : (o breach : Option Violation) (risen rose : Bool) (j k n m : ℕ) → o ≡ breach → (o ≡ None → risen ≡ rose) → j ≡ k → n ≡ m → first_of None o (unreached risen j) n ≡ first_of None breach (cond rose None (Some k)) m
found_same None breach risen rose j k n m same rises claim count = rw (sym same, rises refl, claim, count) refl
found_same (Some w) breach risen rose j k n m same rises claim count = rw (sym same) refl

module _ (c : Circuit) (k : ℕ) (state first_bits : List Bool) (bits : List Bool) (more : List (List Bool)) (circuit : IsCircuit c) (below : k < length c.bads) (wide : All (λ bits. length bits ≡ input_count c) (bits ∷ more)) where
  abbrev given : List (List Bool)
  given = bits ∷ more

  abbrev first : Play
  first = fresh c k state first_bits

  abbrev last : Play
  last = taken first given

  abbrev frames : List (List Bool)
  frames = written_frames c k given

  abbrev vs : List Valuation
  vs = trace_from c (begins c given) frames

  valid : IsBitWitness c (restored_witness c k given)
  valid = is_witness c k given below (λ e. absurd (cc)) wide

  trace : IsCircuitTrace c (begins c given) frames vs
  trace = trace_is c (begins c given) frames circuit (begins_length c given) valid.frames

  many : length vs ≡ length frames
  many = trace_length c (begins c given) frames vs trace

  pub found : Behind (begun first bits) last vs
  found =
      let p : Play = begun first bits in
      let input : List Bool = own_frame first bits in
      one_more p input (own_inputs c more) more (played p input).risen refl (λ going. behind (played p input) more going (later_frames p input) (omega arith))

  -- with the last line
  pub judged_whole : (text : List ℕ) → text ≡ text_of_lines (restored_frame_lines c k given ++ last_line true) → BitJudges c text (play_judgement last)
  judged_whole text spelled = by (are_too_many last.frames) refl
    where
      b : Behind (begun first bits) last vs
      b = found

      same_lines : restored_frame_lines c k given ++ last_line true ≡ bit_witness_lines (restored_witness c k given)
      same_lines = append_assoc (opening c k given) (map bit_line frames) (last_line true)

      by : (t : Bool) → are_too_many last.frames ≡ t → BitJudges c text (if t then judgement.Malformed (most_lines + 1) why.TooLong else first_of None last.breach (unreached last.risen last.claim) last.frames)
      by true is =
          let most = leb-true most_lines (last.frames + 3) is in
          let count = b.count in
          let lines = many_lines (restored_witness c k given) in
          let as_many : length (restored_frame_lines c k given ++ last_line true) ≡ length frames + 4 = ap length same_lines ∙ lines in
          too_long_judged c k bits more true circuit below wide text spelled (omega (arith, most, count, many, as_many))
      by false is =
          let few = leb-false most_lines (last.frames + 3) is in
          let count = b.count in
          let all : length vs ≡ last.frames = omega (arith, few, count) in
          let lines = many_lines (restored_witness c k given) in
          let says : BitSays c text (restored_witness c k given) = record { whole = spelled ∙ ap text_of_lines same_lines; valid = valid; few = omega (arith, few, all, many, lines) } in
          let own = found_same last.breach (breach_from (first_bit_violated c) 0 vs) last.risen (bit_rises c k vs) last.claim k last.frames (length vs) (b.breach (omega (arith, few, all))) b.rose b.claim (sym all) in
          judged_bits c text (restored_witness c k given) (first_of None last.breach (unreached last.risen last.claim) last.frames) circuit says
          (λ us t.
          own ∙ ap (λ (o : Option ℕ). first_of o (breach_from (first_bit_violated c) 0 vs) (cond (bit_rises c k vs) None (Some k)) (length vs)) (sym (begins_as_reset c given))
          ∙ bits_verdict c (first_reset_differing 0 c.latches (begins c given)) k vs below
          ∙ ap (verdict (first_reset_differing 0 c.latches (begins c given)) (k ∷ []) (length c.bads)) (shown_same c vs us circuit (trace_unique c (begins c given) frames vs us circuit trace t)))

  -- with it or without
  pub first_told : (b : Bool) (text : List ℕ) → text ≡ text_of_lines (restored_frame_lines c k given ++ last_line b) → IsFirstRise c text (play_told last).first
  first_told b text spelled us closed =
      let goes = text_goes c k bits more b circuit below wide text spelled in
      let n : ℕ = most_lines - 3 in
      let cut : IsCircuitTrace c (begins c given) (take n frames) (take n vs) = trace_taken c (begins c given) frames vs n trace in
      let own : IsCircuitTrace c (begins c given) (take n frames) us =
      subst (λ (fs : List (List Bool)). IsCircuitTrace c (begins c given) fs us) goes.frames_are (subst (λ (s : List Bool). IsCircuitTrace c s (bits_said_in c text).frames us) goes.initial_bits closed) in
      let shown = shown_same c (take n vs) us circuit (trace_unique c (begins c given) (take n frames) (take n vs) us circuit cut own) in
      ap₂ (λ (j : ℕ) (o : Option ℕ). option_map (λ frame. (j, frame)) o) found.claim
      (found.first ∙ shown_position c k 0 (take n vs) below ∙ ap (position_from (is_bad_in k) 0) shown)
      ∙ ap (λ (j : ℕ). option_map (λ frame. (j, frame)) (position_from (is_bad_in j) 0 (map (circuit_shows c) us))) (sym goes.claim)

-- what is put for frames and what may stand behind them
pub end_lines : (put : ℕ → List ℕ → List ℕ) (c : Circuit) (k : ℕ) (first : Play) (bits : List Bool) (more : List (List Bool)) → IsCircuit c → k < length c.bads → All (λ bits. length bits ≡ input_count c) (bits ∷ more) → IsFresh c k first → (b : Bool)
    → frames_put put first (bits ∷ more) ++ end_put put (taken first (bits ∷ more)) b ≡ put_lines put 0 (restored_frame_lines c k (bits ∷ more) ++ last_line b)
end_lines put c k first bits more circuit below wide is b =
    ap (λ (q : Play). frames_put put q (bits ∷ more) ++ end_put put (taken q (bits ∷ more)) b) is ∙ by b
  where
    by : (b : Bool) → frames_put put (fresh c k first.state first.begins) (bits ∷ more) ++ end_put put (taken (fresh c k first.state first.begins) (bits ∷ more)) b ≡ put_lines put 0 (restored_frame_lines c k (bits ∷ more) ++ last_line b)
    by false = append-nil (frames_put put (fresh c k first.state first.begins) (bits ∷ more)) ∙ all_put put c k first.state first.begins (bits ∷ more) ∙ ap (put_lines put 0) (sym (append-nil (restored_frame_lines c k (bits ∷ more))))
    by true =
        let lines : List (List ℕ) = restored_frame_lines c k (bits ∷ more) in
        let count = (found c k first.state first.begins bits more circuit below wide).count in
        let frames = many c k first.state first.begins bits more circuit below wide in
        let as_many : length lines ≡ 3 + length (written_frames c k (bits ∷ more)) = length-append (opening c k (bits ∷ more)) (map bit_line (written_frames c k (bits ∷ more))) ∙ ap (λ (n : ℕ). 3 + n) (length-map (written_frames c k (bits ∷ more)) bit_line) in
        let number : lines_before (taken (fresh c k first.state first.begins) (bits ∷ more)) ≡ min (0 + length lines) (2 ^ 64 - 1) = omega (arith, count, frames, as_many) in
        ap₂ (λ (t : List ℕ) (n : ℕ). t ++ put n (codes ".")) (all_put put c k first.state first.begins (bits ∷ more)) number
        ∙ ap (λ (t : List ℕ). put_lines put 0 lines ++ t) (sym (append-nil (put (min (0 + length lines) (2 ^ 64 - 1)) (codes "."))))
        ∙ sym (put_more put 0 lines (codes "." ∷ []))

-- of no text
pub nothing_rises : (c : Circuit) → IsFirstRise c [] None
unfolding reading
nothing_rises c [] closed = refl
nothing_rises c (v ∷ more) closed = absurd closed

-- Lines of a witness of a circuit, admitted one after the other by what is kept of them.
use Rattle.std.proofs.Common.{◌≡◌, ℕ, Bool, true, false, ◌<◌, ◌^◌, List, [], ◌∷◌, ◌++◌, Result, Ok, Err, codes, map, length, refl, sym, ap, subst, ◌∙◌}
use Rattle.std.specs.Str.{bytes_eq}
use Rattle.aiger.specs.Circuit.{Circuit}
use Rattle.witness.specs.declared.why.Why.{Why}
use Rattle.witness.specs.declared.why.Why.TheVariants as why
use Rattle.witness.specs.declared.bit_reader.BitPlace.{BitPlace as CodePlace}
use Rattle.witness.specs.declared.bit_reader.BitPlace.TheVariants as code
use Rattle.witness.specs.declared.bit_reader.BitGiven.{BitGiven}
use Rattle.witness.specs.declared.bit_reader.BitGiven.TheVariants as given
use Rattle.witness.specs.declared.bit_reader.BitReader.{BitReader}
use Rattle.witness.specs.BitAdmits.{bits_at, AtClaim, AtInitial, AtFirst, AtLater, AtDone, BitRead, claim_at, after_frame, bit_admit}
use Rattle.witness.specs.Admits.{is_one_bit}
use Rattle.witness.specs.BitStands.{bit_place_of, PlaysAt, ReadsBits, Gives, GivesBitLine, GivesFrame, is_frame, line_room}
use Rattle.witness.specs.CutLines.{AreFront}
use Rattle.witness.proofs.BitReadLemmas.{claim_is_line}
use Rattle.witness.proofs.CutLineLemmas.{is_at_claim, admit_front}

-- ---- a line at each place

module _ (c : Circuit) (r : BitRead) (line : List ℕ) (q : BitReader) (reads : ReadsBits c q r) where
  is_at : (x : CodePlace) → q.place ≡ x → r.place ≡ bit_place_of x
  is_at x e = sym reads.place ∙ ap bit_place_of e

  pub header_refused : q.place ≡ code.Header → bytes_eq line (codes "1") ≡ false → bit_admit c r line ≡ Err why.BadHeader
  unfolding bit_admit
  header_refused e fails = rw (is_at code.Header e, fails) refl

  pub header_admitted : q.place ≡ code.Header → bytes_eq line (codes "1") ≡ true → GivesBitLine c r line line (record q { place = code.Claim }) (Ok given.Nothing)
  unfolding bit_admit
  header_admitted e is = (
    record r { place = AtClaim },
    (
      rw (is_at code.Header e, is) refl,
      (record { circuit = reads.circuit; place = refl; claim = reads.claim }, λ few p plays. subst (PlaysAt c r p) (is_at code.Header e) plays),
    ),
  )

  pub claim_refused : (w : Why) → q.place ≡ code.Claim → claim_at (length c.bads) line ≡ Err w → bit_admit c r line ≡ Err w
  unfolding bit_admit
  claim_refused w e is = rw (is_at code.Claim e, is) refl

  pub claim_admitted : (front : List ℕ) (i : ℕ) → q.place ≡ code.Claim → length c.bads < 2 ^ 64 → claim_at (length c.bads) line ≡ Ok i → GivesBitLine c r front line (record q { place = code.Initial; claim = i }) (Ok given.Nothing)
  unfolding bit_admit
  claim_admitted front i e small is =
      let there = claim_is_line (length c.bads) line i small is in (
        record r { place = AtInitial; claim = i },
        (
          rw (is_at code.Claim e, is) refl,
          (
            record { circuit = reads.circuit; place = refl; claim = refl },
            λ few p plays. let before = subst (PlaysAt c r p) (is_at code.Claim e) plays in (before.0, before.1, there.below),
          ),
        ),
      )

  pub initial_refused : (w : Why) → q.place ≡ code.Initial → bits_at (length c.latches) line ≡ Err w → bit_admit c r line ≡ Err w
  unfolding bit_admit
  initial_refused w e is = rw (is_at code.Initial e, is) refl

  pub initial_admitted : q.place ≡ code.Initial → bits_at (length c.latches) line ≡ Ok (map is_one_bit line) → GivesBitLine c r line line (record q { place = code.First }) (Ok given.Initial)
  unfolding bit_admit
  initial_admitted e is = (
    record r { place = AtFirst; initial = map is_one_bit line },
    (rw (is_at code.Initial e, is) refl, (record { circuit = reads.circuit; place = refl; claim = reads.claim }, λ few. (is_at code.Initial e, refl))),
  )

  pub end_refused : q.place ≡ code.First → bytes_eq line (codes ".") ≡ true → bit_admit c r line ≡ Err why.FrameOrder
  unfolding bit_admit
  end_refused e is = rw (is_at code.First e, is) refl

  pub end_admitted : q.place ≡ code.Later → bytes_eq line (codes ".") ≡ true → GivesBitLine c r line line (record q { place = code.Done }) (Ok given.Nothing)
  unfolding bit_admit
  end_admitted e is = (
    record r { place = AtDone },
    (
      rw (is_at code.Later e, is) refl,
      (record { circuit = reads.circuit; place = refl; claim = reads.claim }, λ few p plays. subst (PlaysAt c r p) (is_at code.Later e) plays),
    ),
  )

  pub trailing_refused : q.place ≡ code.Done → bit_admit c r line ≡ Err why.Trailing
  unfolding bit_admit
  trailing_refused e = rw (is_at code.Done e) refl

  -- the line of a frame
  is_of_frame : (x : CodePlace) → q.place ≡ x → is_frame (bit_place_of x) ≡ true → bytes_eq line (codes ".") ≡ false → bit_admit c r line ≡ after_frame r (bits_at c.inputs line)
  unfolding bit_admit
  is_of_frame code.First e f fails = rw (is_at code.First e, fails) refl
  is_of_frame code.Later e f fails = rw (is_at code.Later e, fails) refl
  is_of_frame _ e f fails = absurd cc

  pub frame_gives : (x : CodePlace) (after : BitReader) (result : Result BitGiven Why) → q.place ≡ x → is_frame (bit_place_of x) ≡ true → bytes_eq line (codes ".") ≡ false → GivesFrame c r line after result
      → GivesBitLine c r line line after result
  frame_gives x after (Ok g) e f fails h = (
    record r { place = AtLater; frames = r.frames ++ map is_one_bit line ∷ [] },
    (
      is_of_frame x e f fails ∙ ap (after_frame r) h.1.0,
      (h.1.1, λ few. subst (Gives c r (record r { place = AtLater; frames = r.frames ++ map is_one_bit line ∷ [] }) line) (sym h.0) (ap is_frame (is_at x e) ∙ f, refl, few)),
    ),
  )
  frame_gives x after (Err w) e f fails h = is_of_frame x e f fails ∙ ap (after_frame r) h

  -- where the line is as far the same as another
  pub gives_whole : (x : CodePlace) (digits : Bool) (whole : List ℕ) (after : BitReader) (result : Result BitGiven Why) → q.place ≡ x → is_at_claim (bit_place_of x) ≡ false → AreFront (line_room c) line digits whole
      → GivesBitLine c r line line after result → GivesBitLine c r line whole after result
  gives_whole x digits whole after result e other front = by result
    where
      same : bit_admit c r line ≡ bit_admit c r whole
      same = admit_front c r line digits whole front (ap is_at_claim (is_at x e) ∙ other)

      by : (result : Result BitGiven Why) → GivesBitLine c r line line after result → GivesBitLine c r line whole after result
      by (Ok g) gives = (gives.0, (sym same ∙ gives.1.0, gives.1.1))
      by (Err w) gives = sym same ∙ gives

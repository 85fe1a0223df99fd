-- A line that is admitted: what it is by its place, and that its piece is that of what is kept of it.
use Rattle.std.proofs.Common.{◌≡◌, ℕ, zero, suc, ◌<◌, ◌≤◌, ◌^◌, Bool, true, false, List, [], ◌∷◌, None, Result, Ok, Err, codes, length, take, refl, sym, ap, subst, ◌∙◌, arith, inl, inr}
use Rattle.std.specs.Str.{bytes_eq}
use Rattle.std.proofs.lemmas.Fmt.{length-decimal-le}
use Rattle.std.proofs.lemmas.List.{length-map, take_all}
use Rattle.std.proofs.lemmas.Slice.Eq.{bytes_eq-Decides}
use Rattle.base.proofs.DecimalLemmas.{chosen}
use Rattle.btor2.specs.declared.item.Item.{Item}
use Rattle.aiger.specs.Circuit.{Circuit}
use Rattle.witness.specs.declared.why.Why.{Why}
use Rattle.witness.specs.declared.why.Why.TheVariants as why
use Rattle.witness.specs.Texts.{digit, claim}
use Rattle.witness.specs.Readings.{lines_read}
use Rattle.witness.specs.BitAdmits.{claim_at, bits_at, BitPlace, AtHeader, AtClaim, AtInitial, AtFirst, AtLater, AtDone, BitRead, after_frame, bit_admit_at, bit_admit, bit_reader}
use Rattle.witness.proofs.StepWords.{after_claim, after_initial}
use Rattle.witness.proofs.BitReadLemmas.{bits_are_line, claim_is_line}
use Rattle.restore.proofs.BitPlaceLemmas.{PlaceAt, place_of_lines}
use Rattle.lift.specs.Lifted.{piece, bits_of_line, initial_piece}
use Rattle.lift.specs.Stands.{HasRoom}

-- ---- what the line is

-- a line in the place of a frame is the end, or has as many bytes as there are inputs
abbrev IsFrameOrEnd : Circuit → List ℕ → Bool → Type 0
IsFrameOrEnd c line true = Unit {0}
IsFrameOrEnd c line false = length line ≡ c.inputs

-- what a line is that is admitted behind so many others
abbrev pub IsAdmitted : Circuit → ℕ → List ℕ → Type 0
IsAdmitted c zero line = Unit {0}
IsAdmitted c (suc zero) line = (i : ℕ) × ((line ≡ claim i) × (i < length c.bads))
IsAdmitted c (suc (suc zero)) line = length line ≡ length c.latches
IsAdmitted c (suc (suc (suc n))) line = IsFrameOrEnd c line (bytes_eq line (codes "."))

frame_line : (c : Circuit) (r next : BitRead) (line : List ℕ) (o : Result (List Bool) Why) → bits_at c.inputs line ≡ o → after_frame r o ≡ Ok next → IsFrameOrEnd c line false
frame_line c r next line (Ok bits) is h =
    let are = bits_are_line c.inputs line bits is in
    ap length are.spelled ∙ (length-map bits digit ∙ are.many)
frame_line c r next line (Err w) is h = absurd cc

later_line : (c : Circuit) (n : ℕ) (line : List ℕ) (b : Bool) → 3 ≤ n → bytes_eq line (codes ".") ≡ b → IsFrameOrEnd c line b → IsAdmitted c n line
later_line c zero line b le is h = absurd (omega (arith, le))
later_line c (suc zero) line b le is h = absurd (omega (arith, le))
later_line c (suc (suc zero)) line b le is h = absurd (omega (arith, le))
later_line c (suc (suc (suc n))) line b le is h = subst (IsFrameOrEnd c line) (sym is) h

initial_line : (c : Circuit) (r next : BitRead) (line : List ℕ) (o : Result (List Bool) Why) → bits_at (length c.latches) line ≡ o → after_initial r o ≡ Ok next → length line ≡ length c.latches
initial_line c r next line (Ok bits) is h =
    let are = bits_are_line (length c.latches) line bits is in
    ap length are.spelled ∙ (length-map bits digit ∙ are.many)
initial_line c r next line (Err w) is h = absurd cc

claim_line : (c : Circuit) (r next : BitRead) (line : List ℕ) (o : Result ℕ Why) → length c.bads < 2 ^ 64 → claim_at (length c.bads) line ≡ o → after_claim r o ≡ Ok next → (i : ℕ) × ((line ≡ claim i) × (i < length c.bads))
claim_line c r next line (Ok i) small is h =
    let found = claim_is_line (length c.bads) line i small is in
    (i, (found.spelled, found.below))
claim_line c r next line (Err w) small is h = absurd cc

admitted_at : (c : Circuit) (n : ℕ) (r next : BitRead) (line : List ℕ) (place : BitPlace) → length c.bads < 2 ^ 64 → PlaceAt n place → bit_admit_at c r line place ≡ Ok next → IsAdmitted c n line
admitted_at c n r next line AtHeader small at h = subst (λ (k : ℕ). IsAdmitted c k line) (sym at) tt
admitted_at c n r next line AtClaim small at h = subst (λ (k : ℕ). IsAdmitted c k line) (sym at) (claim_line c r next line (claim_at (length c.bads) line) small refl h)
admitted_at c n r next line AtInitial small at h = subst (λ (k : ℕ). IsAdmitted c k line) (sym at) (initial_line c r next line (bits_at (length c.latches) line) refl h)
admitted_at c n r next line AtFirst small at h =
    elim (chosen (bytes_eq line (codes ".")) (Err why.FrameOrder) (after_frame r (bits_at c.inputs line)) (Ok next) h) [
      | inl e ↦ absurd (cc (e.1))
      | inr e ↦ later_line c n line false (omega (arith, at)) e.0 (frame_line c r next line (bits_at c.inputs line) refl e.1)
    ]
admitted_at c n r next line AtLater small at h =
    elim (chosen (bytes_eq line (codes ".")) (Ok (record r { place = AtDone })) (after_frame r (bits_at c.inputs line)) (Ok next) h) [
      | inl e ↦ later_line c n line true (omega (arith, at)) e.0 tt
      | inr e ↦ later_line c n line false (omega (arith, at)) e.0 (frame_line c r next line (bits_at c.inputs line) refl e.1)
    ]
admitted_at c n r next line AtDone small at h = absurd cc

pub is_admitted : (c : Circuit) (lines : List (List ℕ)) (next : BitRead) (line : List ℕ) → length c.bads < 2 ^ 64 → (lines_read (bit_reader c) lines).refused ≡ None
    → bit_admit c (lines_read (bit_reader c) lines).read line ≡ Ok next → IsAdmitted c (length lines) line
unfolding bit_admit
is_admitted c lines next line small none h =
    admitted_at c (length lines) (lines_read (bit_reader c) lines).read next line (lines_read (bit_reader c) lines).read.place small (place_of_lines c lines none) h

-- ---- its piece

dot_fits : (c : Circuit) (room : ℕ) (line : List ℕ) (b : Bool) → HasRoom c room → bytes_eq line (codes ".") ≡ b → IsFrameOrEnd c line b → length line ≤ room
dot_fits c room line true has is h =
    let dot : line ≡ codes "." = (bytes_eq-Decides line (codes ".")).0 is in
    omega (arith, ap length dot, has.claim)
dot_fits c room line false has is h = omega (arith, h, has.inputs)

-- what is kept of it is all of it, or enough
pub kept_is_piece : (named : Bool) (items : List Item) (c : Circuit) (n room : ℕ) (line : List ℕ) → length c.bads < 2 ^ 64 → IsAdmitted c n line → HasRoom c room → piece named items n (take room line) ≡ piece named items n line
kept_is_piece named items c zero room line small is has = refl
kept_is_piece named items c (suc zero) room line small is has =
    let short = length-decimal-le 20 is.0 (omega arith) (omega (arith, small, is.1.1)) (omega (arith, small, is.1.1)) in
    ap (λ (l : List ℕ). l ∷ []) (take_all room line (omega (arith, ap length is.1.0, short, has.claim)))
kept_is_piece named items c (suc (suc zero)) room line small is has = ap (λ (l : List ℕ). initial_piece named items (bits_of_line l)) (take_all room line (omega (arith, is, has.latches)))
kept_is_piece named items c (suc (suc (suc n))) room line small is has = ap (piece named items (suc (suc (suc n)))) (take_all room line (dot_fits c room line (bytes_eq line (codes ".")) has refl is))

-- A whole line more of a witness of an engine form: what is read with it.
use Rattle.std.proofs.Common.{◌≡◌, ℕ, suc, ◌+◌, ◌<◌, ◌≤◌, ◌^◌, ◌==◌, Bool, true, false, List, [], ◌∷◌, ◌++◌, Result, Ok, Err, codes, length, map, refl, sym, ap, subst, ◌∙◌, ◌⊎◌, arith, inl, inr}
use Rattle.std.specs.Str.{bytes_eq}
use Rattle.base.specs.Lines.{IsLine, whole_lines, unfinished}
use Rattle.base.proofs.DecimalLemmas.{chosen}
use Rattle.aiger.specs.Circuit.{Circuit}
use Rattle.witness.specs.declared.why.Why.{Why}
use Rattle.witness.specs.declared.why.Why.TheVariants as why
use Rattle.witness.specs.Texts.{claim}
use Rattle.witness.specs.Readings.{lines_read, reading}
use Rattle.witness.specs.BitAdmits.{claim_at, bits_at, BitPlace, AtHeader, AtClaim, AtInitial, AtFirst, AtLater, AtDone, BitRead, after_frame, bit_admit_at, bit_admit, bit_reader, admitted_lines, is_done}
use Rattle.witness.proofs.StepWords.{after_claim, after_initial}
use Rattle.witness.proofs.BitReadLemmas.{bits_are_line, claim_is_line}
use Rattle.witness.proofs.TextEndLemmas.{whole_lines-part, whole_lines-line_end}
use Rattle.restore.specs.FormSteps.{read_of}
use Rattle.restore.proofs.BitPlaceLemmas.{PlaceAt, place_of_lines, line_more}

-- ---- texts

line_behind : (text line : List ℕ) → unfinished text ≡ [] → IsLine line → whole_lines (text ++ (line ++ 10 ∷ [])) ≡ whole_lines text ++ line ∷ []
line_behind text line whole is = whole_lines-line_end text line is ∙ ap (λ (l : List ℕ). whole_lines text ++ (l ++ line) ∷ []) whole

pub admitted_by : (d : Circuit) (text : List ℕ) → admitted_lines d text ≡ (lines_read (bit_reader d) (whole_lines text)).admitted
unfolding reading
admitted_by d text = refl

pub read_by : (d : Circuit) (text : List ℕ) → read_of d text ≡ (lines_read (bit_reader d) (whole_lines text)).read
unfolding reading
read_by d text = refl

-- bytes that end no line say nothing more
pub same_read : (d : Circuit) (text bytes : List ℕ) → IsLine bytes → read_of d (text ++ bytes) ≡ read_of d text
same_read d text bytes is = read_by d (text ++ bytes) ∙ ap (λ (ls : List (List ℕ)). (lines_read (bit_reader d) ls).read) (whole_lines-part text bytes is) ∙ sym (read_by d text)

-- ---- a line more

pub record Same (d : Circuit) (text more : List ℕ) : Type 0 where
  pub count : admitted_lines d more ≡ admitted_lines d text
  pub read : read_of d more ≡ read_of d text

pub record More (d : Circuit) (text line more : List ℕ) : Type 0 where
  pub count : admitted_lines d more ≡ admitted_lines d text + 1
  pub placed : PlaceAt (admitted_lines d text) (read_of d text).place
  pub reads : bit_admit_at d (read_of d text) line (read_of d text).place ≡ Ok (read_of d more)

pub read_more : (d : Circuit) (text line : List ℕ) → unfinished text ≡ [] → IsLine line → Same d text (text ++ (line ++ 10 ∷ [])) ⊎ More d text line (text ++ (line ++ 10 ∷ []))
unfolding bit_admit
read_more d text line whole is =
    let lines : List (List ℕ) = whole_lines text in
    let more : List ℕ = text ++ (line ++ 10 ∷ []) in
    let behind : whole_lines more ≡ lines ++ line ∷ [] = line_behind text line whole is in
    let count : admitted_lines d more ≡ (lines_read (bit_reader d) (lines ++ line ∷ [])).admitted = admitted_by d more ∙ ap (λ (ls : List (List ℕ)). (lines_read (bit_reader d) ls).admitted) behind in
    let read : read_of d more ≡ (lines_read (bit_reader d) (lines ++ line ∷ [])).read = read_by d more ∙ ap (λ (ls : List (List ℕ)). (lines_read (bit_reader d) ls).read) behind in
    elim (line_more d lines line) [
      | inl p ↦ inl (record { count = count ∙ p.count ∙ sym (admitted_by d text); read = read ∙ p.read ∙ sym (read_by d text) })
      | inr a ↦
          let number : admitted_lines d text ≡ length lines = admitted_by d text ∙ a.before in
          let here : read_of d text ≡ (lines_read (bit_reader d) lines).read = read_by d text in
          inr (record {
            count = count ∙ a.count ∙ ap (λ (n : ℕ). n + 1) (sym number);
            placed = subst (λ (r : BitRead). PlaceAt (admitted_lines d text) r.place) (sym here) (subst (λ (n : ℕ). PlaceAt n (lines_read (bit_reader d) lines).read.place) (sym number) (place_of_lines d lines a.going));
            reads = subst (λ (r : BitRead). bit_admit_at d r line r.place ≡ Ok (read_of d more)) (sym here) (a.reads ∙ ap (λ (r : BitRead). Ok r) (sym read));
          })
    ]

-- ---- by its place

-- that of the claim
pub record Claims (d : Circuit) (r next : BitRead) (line : List ℕ) : Type 0 where
  pub index : ℕ
  pub spelled : line ≡ claim index
  pub below : index < length d.bads
  pub says : next ≡ record r { place = AtInitial; claim = index }

claimed : (d : Circuit) (r next : BitRead) (line : List ℕ) (o : Result ℕ Why) → length d.bads < 2 ^ 64 → claim_at (length d.bads) line ≡ o → after_claim r o ≡ Ok next → Claims d r next line
claimed d r next line (Ok i) few is h =
    let says = claim_is_line (length d.bads) line i few is in
    record { index = i; spelled = says.spelled; below = says.below; says = cc }
claimed d r next line (Err w) few is h = absurd cc

pub claim_line : (d : Circuit) (r next : BitRead) (line : List ℕ) (n : ℕ) (place : BitPlace) → length d.bads < 2 ^ 64 → n ≡ 1 → PlaceAt n place → bit_admit_at d r line place ≡ Ok next → Claims d r next line
claim_line d r next line n AtHeader few one at h = absurd (omega (arith, one, at))
claim_line d r next line n AtClaim few one at h = claimed d r next line (claim_at (length d.bads) line) few refl h
claim_line d r next line n AtInitial few one at h = absurd (omega (arith, one, at))
claim_line d r next line n AtFirst few one at h = absurd (omega (arith, one, at))
claim_line d r next line n AtLater few one at h = absurd (omega (arith, one, at))
claim_line d r next line n AtDone few one at h = absurd (omega (arith, one, at))

-- the status
pub status_line : (d : Circuit) (r next : BitRead) (line : List ℕ) (n : ℕ) (place : BitPlace) → n ≡ 0 → PlaceAt n place → bit_admit_at d r line place ≡ Ok next → next ≡ record r { place = AtClaim }
status_line d r next line n AtHeader none at h =
    elim (chosen (bytes_eq line (codes "1")) (Ok (record r { place = AtClaim })) (Err why.BadHeader) (Ok next) h) [
      | inl e ↦ cc (e.1)
      | inr e ↦ absurd (cc (e.1))
    ]
status_line d r next line n AtClaim none at h = absurd (omega (arith, none, at))
status_line d r next line n AtInitial none at h = absurd (omega (arith, none, at))
status_line d r next line n AtFirst none at h = absurd (omega (arith, none, at))
status_line d r next line n AtLater none at h = absurd (omega (arith, none, at))
status_line d r next line n AtDone none at h = absurd (omega (arith, none, at))

-- the initial bits
begun : (r next : BitRead) (o : Result (List Bool) Why) → after_initial r o ≡ Ok next → (bits : List Bool) × (next ≡ record r { place = AtFirst; initial = bits })
begun r next (Ok bits) h = (bits, cc)
begun r next (Err w) h = absurd cc

pub initial_line : (d : Circuit) (r next : BitRead) (line : List ℕ) (n : ℕ) (place : BitPlace) → n ≡ 2 → PlaceAt n place → bit_admit_at d r line place ≡ Ok next → (bits : List Bool) × ((next ≡ record r { place = AtFirst; initial = bits }) × (place ≡ AtInitial))
initial_line d r next line n AtInitial two at h = let b = begun r next (bits_at (length d.latches) line) h in (b.0, (b.1, refl))
initial_line d r next line n AtHeader two at h = absurd (omega (arith, two, at))
initial_line d r next line n AtClaim two at h = absurd (omega (arith, two, at))
initial_line d r next line n AtFirst two at h = absurd (omega (arith, two, at))
initial_line d r next line n AtLater two at h = absurd (omega (arith, two, at))
initial_line d r next line n AtDone two at h = absurd (omega (arith, two, at))

-- a frame or the end
pub record Frames (d : Circuit) (r next : BitRead) (line : List ℕ) : Type 0 where
  pub many : length line ≡ d.inputs
  pub says : next ≡ record r { place = AtLater; frames = r.frames ++ map (λ b. b == 49) line ∷ [] }

framed : (d : Circuit) (r next : BitRead) (line : List ℕ) (o : Result (List Bool) Why) → bits_at d.inputs line ≡ o → after_frame r o ≡ Ok next → Frames d r next line
framed d r next line (Ok bits) is h =
    let of = bits_are_line d.inputs line bits is in
    record {
      many = sym (ap length of.are ∙ length-map' line) ∙ of.many;
      says = subst (λ (bs : List Bool). next ≡ record r { place = AtLater; frames = r.frames ++ bs ∷ [] }) of.are cc;
    }
  where
    length-map' : (l : List ℕ) → length (map (λ b. b == 49) l) ≡ length l
    length-map' [] = refl
    length-map' (x ∷ xs) = ap suc (length-map' xs)
framed d r next line (Err w) is h = absurd cc

pub end_line : (d : Circuit) (r next : BitRead) (line : List ℕ) (n : ℕ) (place : BitPlace) → 3 ≤ n → bytes_eq line (codes ".") ≡ true → PlaceAt n place → bit_admit_at d r line place ≡ Ok next → (next ≡ record r { place = AtDone }) × (is_done place ≡ false)
end_line d r next line n AtHeader many end at h = absurd (omega (arith, many, at))
end_line d r next line n AtClaim many end at h = absurd (omega (arith, many, at))
end_line d r next line n AtInitial many end at h = absurd (omega (arith, many, at))
end_line d r next line n AtFirst many end at h =
    elim (chosen (bytes_eq line (codes ".")) (Err why.FrameOrder) (after_frame r (bits_at d.inputs line)) (Ok next) h) [
      | inl e ↦ absurd (cc (e.1))
      | inr e ↦ absurd (cc (end, e.0))
    ]
end_line d r next line n AtLater many end at h =
    elim (chosen (bytes_eq line (codes ".")) (Ok (record r { place = AtDone })) (after_frame r (bits_at d.inputs line)) (Ok next) h) [
      | inl e ↦ (cc (e.1), refl)
      | inr e ↦ absurd (cc (end, e.0))
    ]
end_line d r next line n AtDone many end at h = absurd cc

pub frame_line : (d : Circuit) (r next : BitRead) (line : List ℕ) (n : ℕ) (place : BitPlace) → 3 ≤ n → bytes_eq line (codes ".") ≡ false → PlaceAt n place → bit_admit_at d r line place ≡ Ok next → Frames d r next line × (is_done place ≡ false)
frame_line d r next line n AtHeader many end at h = absurd (omega (arith, many, at))
frame_line d r next line n AtClaim many end at h = absurd (omega (arith, many, at))
frame_line d r next line n AtInitial many end at h = absurd (omega (arith, many, at))
frame_line d r next line n AtFirst many end at h =
    elim (chosen (bytes_eq line (codes ".")) (Err why.FrameOrder) (after_frame r (bits_at d.inputs line)) (Ok next) h) [
      | inl e ↦ absurd (cc (e.1))
      | inr e ↦ (framed d r next line (bits_at d.inputs line) refl e.1, refl)
    ]
frame_line d r next line n AtLater many end at h =
    elim (chosen (bytes_eq line (codes ".")) (Ok (record r { place = AtDone })) (after_frame r (bits_at d.inputs line)) (Ok next) h) [
      | inl e ↦ absurd (cc (end, e.0))
      | inr e ↦ (framed d r next line (bits_at d.inputs line) refl e.1, refl)
    ]
frame_line d r next line n AtDone many end at h = absurd cc

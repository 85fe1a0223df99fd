-- Lines of a witness of a circuit that are admitted: how many, and the place of the next one.
use Rattle.std.proofs.Common.{◌≡◌, ℕ, suc, ◌+◌, ◌≤◌, nat_le, Bool, false, List, [], ◌∷◌, ◌++◌, Option, Some, None, Result, Ok, Err, codes, length, refl, sym, ap, subst, ◌∙◌, ◌⊎◌, arith, inl, inr}
use Rattle.std.specs.Str.{bytes_eq}
use Rattle.std.proofs.lemmas.Bool.{cases_Bool}
use Rattle.base.proofs.DecimalLemmas.{chosen}
use Rattle.aiger.specs.Circuit.{Circuit}
use Rattle.witness.specs.declared.why.Why.{Why}
use Rattle.witness.specs.declared.why.Why.TheVariants as why
use Rattle.witness.specs.Texts.{most_lines}
use Rattle.witness.specs.Readings.{Reading, one_more_line, next_line, lines_behind, lines_read, so_far}
use Rattle.witness.specs.BitAdmits.{claim_at, bits_at, BitPlace, AtHeader, AtClaim, AtInitial, AtFirst, AtLater, AtDone, BitRead, after_frame, bit_admit_at, bit_admit, bit_reader}
use Rattle.witness.proofs.StepWords.{after_claim, after_initial}
use Rattle.witness.proofs.ReadingLemmas.{lines_append}

-- ---- lines that are admitted

-- how many lines are admitted of so many
pub record Counted (g : Reading BitRead) (n : ℕ) : Type 0 where
  pub few : g.admitted ≤ n
  pub all : g.refused ≡ None → g.admitted ≡ n

counted_read : (g : Reading BitRead) (n : ℕ) (o : Result BitRead Why) → Counted g n → g.refused ≡ None → Counted (one_more_line g o) (n + 1)
counted_read g n (Ok r) h none = record { few = omega (arith, h.few); all = λ e. ap (λ (k : ℕ). k + 1) (h.all none) }
counted_read g n (Err w) h none = record { few = omega (arith, h.few); all = λ e. absurd cc }

counted_line : (c : Circuit) (g : Reading BitRead) (n : ℕ) (line : List ℕ) (o : Option Why) → g.refused ≡ o → Counted g n → Counted (next_line (bit_reader c) g line) (n + 1)
unfolding next_line
counted_line c g n line (Some w) is h = rw is (record { few = omega (arith, h.few); all = λ e. absurd cc })
counted_line c g n line None is h =
    elim (cases_Bool (nat_le most_lines g.admitted)) [
      | inl many ↦ rw (is, many) (record { few = omega (arith, h.few); all = λ e. absurd cc })
      | inr few ↦ rw (is, few) (counted_read g n (bit_admit c g.read line) h is)
    ]

counted_from : (c : Circuit) (g : Reading BitRead) (n : ℕ) (lines : List (List ℕ)) → Counted g n → Counted (lines_behind (bit_reader c) g lines) (n + length lines)
counted_from c g n [] h = let same : n + 0 ≡ n = omega arith in subst (Counted g) (sym same) h
counted_from c g n (line ∷ lines) h =
    let same : n + 1 + length lines ≡ n + suc (length lines) = omega arith in
    subst (Counted (lines_behind (bit_reader c) (next_line (bit_reader c) g line) lines)) same (counted_from c (next_line (bit_reader c) g line) (n + 1) lines (counted_line c g n line g.refused refl h))

pub counted : (c : Circuit) (lines : List (List ℕ)) → Counted (lines_read (bit_reader c) lines) (length lines)
counted c lines =
    let same : 0 + length lines ≡ length lines = omega arith in
    subst (Counted (lines_read (bit_reader c) lines)) same (counted_from c (so_far 0 (bit_reader c).nothing) 0 lines (record { few = omega arith; all = λ e. refl }))

-- ---- the place of the next line, by how many lines are admitted

abbrev pub PlaceAt : ℕ → BitPlace → Type 0
PlaceAt n AtHeader = n ≡ 0
PlaceAt n AtClaim = n ≡ 1
PlaceAt n AtInitial = n ≡ 2
PlaceAt n AtFirst = n ≡ 3
PlaceAt n AtLater = 4 ≤ n
PlaceAt n AtDone = 5 ≤ n

after_claim_at : (n : ℕ) (r next : BitRead) (o : Result ℕ Why) → n ≡ 1 → after_claim r o ≡ Ok next → PlaceAt (n + 1) next.place
after_claim_at n r next (Ok i) at h =
    let e : record r { place = AtInitial; claim = i } ≡ next = cc in
    subst (λ (x : BitRead). PlaceAt (n + 1) x.place) e (omega (arith, at))
after_claim_at n r next (Err w) at h = absurd cc

after_initial_at : (n : ℕ) (r next : BitRead) (o : Result (List Bool) Why) → n ≡ 2 → after_initial r o ≡ Ok next → PlaceAt (n + 1) next.place
after_initial_at n r next (Ok bits) at h =
    let e : record r { place = AtFirst; initial = bits } ≡ next = cc in
    subst (λ (x : BitRead). PlaceAt (n + 1) x.place) e (omega (arith, at))
after_initial_at n r next (Err w) at h = absurd cc

after_frame_at : (n : ℕ) (r next : BitRead) (o : Result (List Bool) Why) → 3 ≤ n → after_frame r o ≡ Ok next → PlaceAt (n + 1) next.place
after_frame_at n r next (Ok bits) at h =
    let e : record r { place = AtLater; frames = r.frames ++ bits ∷ [] } ≡ next = cc in
    subst (λ (x : BitRead). PlaceAt (n + 1) x.place) e (omega (arith, at))
after_frame_at n r next (Err w) at h = absurd cc

place_step : (c : Circuit) (n : ℕ) (r next : BitRead) (line : List ℕ) (place : BitPlace) → PlaceAt n place → bit_admit_at c r line place ≡ Ok next → PlaceAt (n + 1) next.place
place_step c n r next line AtHeader at h =
    elim (chosen (bytes_eq line (codes "1")) (Ok (record r { place = AtClaim })) (Err why.BadHeader) (Ok next) h) [
      | inl e ↦
          let is : record r { place = AtClaim } ≡ next = cc (e.1) in
          subst (λ (x : BitRead). PlaceAt (n + 1) x.place) is (omega (arith, at))
      | inr e ↦ absurd (cc (e.1))
    ]
place_step c n r next line AtClaim at h = after_claim_at n r next (claim_at (length c.bads) line) at h
place_step c n r next line AtInitial at h = after_initial_at n r next (bits_at (length c.latches) line) at h
place_step c n r next line AtFirst at h =
    elim (chosen (bytes_eq line (codes ".")) (Err why.FrameOrder) (after_frame r (bits_at c.inputs line)) (Ok next) h) [
      | inl e ↦ absurd (cc (e.1))
      | inr e ↦ after_frame_at n r next (bits_at c.inputs line) (omega (arith, at)) e.1
    ]
place_step c n r next line AtLater at h =
    elim (chosen (bytes_eq line (codes ".")) (Ok (record r { place = AtDone })) (after_frame r (bits_at c.inputs line)) (Ok next) h) [
      | inl e ↦
          let is : record r { place = AtDone } ≡ next = cc (e.1) in
          subst (λ (x : BitRead). PlaceAt (n + 1) x.place) is (omega (arith, at))
      | inr e ↦ after_frame_at n r next (bits_at c.inputs line) (omega (arith, at)) e.1
    ]
place_step c n r next line AtDone at h = absurd cc

abbrev Placed : Reading BitRead → ℕ → Type 0
Placed g n = g.refused ≡ None → PlaceAt n g.read.place

placed_read : (c : Circuit) (g : Reading BitRead) (n : ℕ) (line : List ℕ) (o : Result BitRead Why) → bit_admit c g.read line ≡ o → g.refused ≡ None → Placed g n → Placed (one_more_line g o) (n + 1)
unfolding bit_admit
placed_read c g n line (Ok r) is none h e = place_step c n g.read r line g.read.place (h none) is
placed_read c g n line (Err w) is none h e = absurd cc

placed_line : (c : Circuit) (g : Reading BitRead) (n : ℕ) (line : List ℕ) (o : Option Why) → g.refused ≡ o → Placed g n → Placed (next_line (bit_reader c) g line) (n + 1)
unfolding next_line
placed_line c g n line (Some w) is h = rw is (λ e. absurd cc)
placed_line c g n line None is h =
    elim (cases_Bool (nat_le most_lines g.admitted)) [
      | inl many ↦ rw (is, many) (λ e. absurd cc)
      | inr few ↦ rw (is, few) (placed_read c g n line (bit_admit c g.read line) refl is h)
    ]

placed_from : (c : Circuit) (g : Reading BitRead) (n : ℕ) (lines : List (List ℕ)) → Placed g n → Placed (lines_behind (bit_reader c) g lines) (n + length lines)
placed_from c g n [] h = let same : n + 0 ≡ n = omega arith in subst (Placed g) (sym same) h
placed_from c g n (line ∷ lines) h =
    let same : n + 1 + length lines ≡ n + suc (length lines) = omega arith in
    subst (Placed (lines_behind (bit_reader c) (next_line (bit_reader c) g line) lines)) same (placed_from c (next_line (bit_reader c) g line) (n + 1) lines (placed_line c g n line g.refused refl h))

nothing_placed : (c : Circuit) → Placed (so_far 0 (bit_reader c).nothing) 0
nothing_placed c e = refl

pub place_of_lines : (c : Circuit) (lines : List (List ℕ)) → (lines_read (bit_reader c) lines).refused ≡ None → PlaceAt (length lines) (lines_read (bit_reader c) lines).read.place
place_of_lines c lines none =
    let same : 0 + length lines ≡ length lines = omega arith in
    subst (λ (n : ℕ). PlaceAt n (lines_read (bit_reader c) lines).read.place) same (placed_from c (so_far 0 (bit_reader c).nothing) 0 lines (nothing_placed c) none)

-- ---- a line more

-- it is not admitted, and as many are as before, which say the same; or it is, behind all before
pub record Passes (c : Circuit) (lines : List (List ℕ)) (line : List ℕ) : Type 0 where
  pub count : (lines_read (bit_reader c) (lines ++ line ∷ [])).admitted ≡ (lines_read (bit_reader c) lines).admitted
  pub read : (lines_read (bit_reader c) (lines ++ line ∷ [])).read ≡ (lines_read (bit_reader c) lines).read

pub record Adds (c : Circuit) (lines : List (List ℕ)) (line : List ℕ) : Type 0 where
  pub going : (lines_read (bit_reader c) lines).refused ≡ None
  pub before : (lines_read (bit_reader c) lines).admitted ≡ length lines
  pub count : (lines_read (bit_reader c) (lines ++ line ∷ [])).admitted ≡ length lines + 1
  pub reads : bit_admit c (lines_read (bit_reader c) lines).read line ≡ Ok (lines_read (bit_reader c) (lines ++ line ∷ [])).read

next_is : (c : Circuit) (lines : List (List ℕ)) (line : List ℕ) → lines_read (bit_reader c) (lines ++ line ∷ []) ≡ next_line (bit_reader c) (lines_read (bit_reader c) lines) line
next_is c lines line = lines_append (bit_reader c) (so_far 0 (bit_reader c).nothing) lines (line ∷ [])

passes : (c : Circuit) (lines : List (List ℕ)) (line : List ℕ) (g : Reading BitRead) → next_line (bit_reader c) (lines_read (bit_reader c) lines) line ≡ g → g.admitted ≡ (lines_read (bit_reader c) lines).admitted → g.read ≡ (lines_read (bit_reader c) lines).read → Passes c lines line
passes c lines line g is same read = record { count = ap (λ (x : Reading BitRead). x.admitted) (next_is c lines line ∙ is) ∙ same; read = ap (λ (x : Reading BitRead). x.read) (next_is c lines line ∙ is) ∙ read }

judged_line : (c : Circuit) (lines : List (List ℕ)) (line : List ℕ) (o : Result BitRead Why) → (lines_read (bit_reader c) lines).refused ≡ None → nat_le most_lines (lines_read (bit_reader c) lines).admitted ≡ false
    → bit_admit c (lines_read (bit_reader c) lines).read line ≡ o → Passes c lines line ⊎ Adds c lines line
unfolding next_line
judged_line c lines line (Ok next) going few is =
    let g : Reading BitRead = lines_read (bit_reader c) lines in
    let before : g.admitted ≡ length lines = (counted c lines).all going in
    let whole : lines_read (bit_reader c) (lines ++ line ∷ []) ≡ one_more_line g (Ok next) = next_is c lines line ∙ rw (going, few, is) refl in
    inr (record {
      going = going;
      before = before;
      count = ap (λ (x : Reading BitRead). x.admitted) whole ∙ ap (λ (n : ℕ). n + 1) before;
      reads = is ∙ ap (λ (x : Reading BitRead). Ok x.read) (sym whole);
    })
judged_line c lines line (Err w) going few is = inl (passes c lines line (one_more_line (lines_read (bit_reader c) lines) (Err w)) (rw (going, few, is) refl) refl refl)

pub line_more : (c : Circuit) (lines : List (List ℕ)) (line : List ℕ) → Passes c lines line ⊎ Adds c lines line
unfolding next_line
line_more c lines line =
    let g : Reading BitRead = lines_read (bit_reader c) lines in
    let cases = elim (g.refused) as (λ o. g.refused ≡ o → Passes c lines line ⊎ Adds c lines line) [
      | Some w ↦ λ h. inl (passes c lines line g (rw h refl) refl refl)
      | None ↦ λ h.
          elim (cases_Bool (nat_le most_lines g.admitted)) [
            | inl many ↦ inl (passes c lines line (record g { refused = Some why.TooLong }) (rw (h, many) refl) refl refl)
            | inr few ↦ judged_line c lines line (bit_admit c g.read line) h few refl
          ]
    ] in
    cases refl

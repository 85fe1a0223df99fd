-- From what reading gives back to the text: fields and latches.
use Rattle.std.proofs.Common.{◌≡◌, ◌≢◌, ℕ, zero, suc, ◌+◌, ◌-◌, ◌*◌, ◌^◌, ◌<◌, ◌≤◌, true, ◌==◌, List, [], ◌∷◌, ◌++◌, length, map, decimal, All, Option, Some, None, Ok, Err, refl, sym, ap, subst, ◌∙◌, append_assoc, inl, inr, if◌then◌else◌, arith}
use Rattle.std.proofs.lemmas.Bool.{eqb-true}
use Rattle.std.proofs.lemmas.List.Elements.{All-nil, All-cons}
use Rattle.base.specs.Lines.{onto_first}
use Rattle.base.specs.Decimals.{number_of}
use Rattle.base.proofs.DecimalLemmas.{chosen, number_is_decimal}
use Rattle.aiger.specs.declared.circuit.Latch.{Latch}
use Rattle.aigerlists.specs.declared.loose.LatchLine.{LatchLine}
use Rattle.aigerlists.specs.OwnLists.{own_latches}
use Rattle.aiger.specs.declared.circuit.Reset.{Reset}
use Rattle.aiger.specs.declared.circuit.Reset.TheVariants.{Zero, One, Free}
use Rattle.aigertext.specs.declared.fault.Why.TheVariants as why
use Rattle.aigertext.specs.declared.forms.Form.{Form}
use Rattle.aigertext.specs.declared.forms.Form.TheVariants.{Ascii, Binary}
use Rattle.aigertext.specs.Spelling.{IsReset, IsNextLine, AreNextLines, AreLines, IsLatchLine}
use Rattle.aigertext.specs.Reading.{fields, some_or, within, reset_of, reset_on, next_fields}
use Rattle.aigertext.specs.Passes.{own_fields, latch_in, latches_in}
use Rattle.aigertext.proofs.BackLemmas.{ok_same, not_err, bind-then, some-back, within-back, lines-back}
use Rattle.aigertext.proofs.FieldLemmas.{joined, numbers_line-joined}
use Rattle.aigertext.proofs.GateLemmas.{next_literal}

-- fields with a space between
abbrev pub spaced : List (List ℕ) → List ℕ
spaced [] = []
spaced (f ∷ []) = f
spaced (f ∷ g ∷ fs) = f ++ 32 ∷ spaced (g ∷ fs)

spaced-onto : (b : ℕ) (fs : List (List ℕ)) → fs ≢ [] → spaced (onto_first b fs) ≡ b ∷ spaced fs
spaced-onto b [] some = absurd (some refl)
spaced-onto b (f ∷ []) some = refl
spaced-onto b (f ∷ g ∷ fs) some = refl

some_field : (line : List ℕ) → fields line ≢ []
some_field [] e = absurd cc
some_field (b ∷ bs) e =
    elim (chosen (b == 32) ([] ∷ fields bs) (onto_first b (fields bs)) [] e) [
      | inl here ↦ absurd cc
      | inr later ↦ go (fields bs) later.1 (some_field bs)
    ]
  where
    go : (fs : List (List ℕ)) → onto_first b fs ≡ [] → fs ≢ [] → ⊥
    go [] e some = some refl
    go (f ∷ fs) e some = absurd cc

spaced-more : (fs : List (List ℕ)) → fs ≢ [] → spaced ([] ∷ fs) ≡ 32 ∷ spaced fs
spaced-more [] some = absurd (some refl)
spaced-more (f ∷ fs) some = refl

-- a line is its fields
pub fields-back : (line : List ℕ) → spaced (fields line) ≡ line
fields-back [] = refl
fields-back (b ∷ bs) =
    elim (chosen (b == 32) ([] ∷ fields bs) (onto_first b (fields bs)) (fields (b ∷ bs)) refl) [
      | inl here ↦
          ap spaced (sym here.1) ∙ spaced-more (fields bs) (some_field bs) ∙ ap (λ (l : List ℕ). 32 ∷ l) (fields-back bs) ∙ ap (λ (c : ℕ). c ∷ bs) (sym (eqb-true b 32 here.0))
      | inr later ↦
          ap spaced (sym later.1) ∙ spaced-onto b (fields bs) (some_field bs) ∙ ap (λ (l : List ℕ). b ∷ l) (fields-back bs)
    ]

-- ---- latches

-- the number of a field that says how a latch begins
reset-back : (own : ℕ) (r : Reset) (field : List ℕ) → own < 2 ^ 64 - 1 → reset_of own (number_of field) ≡ Ok r → (n : ℕ) × ((field ≡ decimal n) × IsReset own r (n ∷ []))
reset-back own r field small e = by (number_of field) refl e
  where
    free : (n : ℕ) → (if_free : (n == own) ≡ true) → number_of field ≡ Some n → (Free ≡ r) → (m : ℕ) × ((field ≡ decimal m) × IsReset own r (m ∷ []))
    free n t f is =
        let same : n ≡ own = eqb-true n own t in
        subst (λ (x : Reset). (m : ℕ) × ((field ≡ decimal m) × IsReset own x (m ∷ []))) is
        (n, (number_is_decimal field n f (omega (arith, same)), ap (λ (m : ℕ). m ∷ []) same))

    by : (o : Option ℕ) → number_of field ≡ o → reset_of own o ≡ Ok r → (n : ℕ) × ((field ≡ decimal n) × IsReset own r (n ∷ []))
    by None f g = absurd (not_err _ _ g)
    by (Some n) f g =
        elim (chosen (n == 0) (Ok Zero) (if n == 1 then Ok One else (if n == own then Ok Free else Err why.BadLatch)) (Ok r) g) [
          | inl zero' ↦
              let is : n ≡ 0 = eqb-true n 0 zero'.0 in
              subst (λ (x : Reset). (m : ℕ) × ((field ≡ decimal m) × IsReset own x (m ∷ []))) (ok_same Zero r zero'.1)
              (n, (number_is_decimal field n f (omega (arith, is)), inr (ap (λ (m : ℕ). m ∷ []) is)))
          | inr more ↦
              elim (chosen (n == 1) (Ok One) (if n == own then Ok Free else Err why.BadLatch) (Ok r) more.1) [
                | inl one ↦
                    let is : n ≡ 1 = eqb-true n 1 one.0 in
                    subst (λ (x : Reset). (m : ℕ) × ((field ≡ decimal m) × IsReset own x (m ∷ []))) (ok_same One r one.1)
                    (n, (number_is_decimal field n f (omega (arith, is)), ap (λ (m : ℕ). m ∷ []) is))
                | inr other ↦
                    elim (chosen (n == own) (Ok Free) (Err why.BadLatch) (Ok r) other.1) [
                      | inl own' ↦ free n own'.0 f (ok_same Free r own'.1)
                      | inr wrong ↦ absurd (not_err _ _ wrong.1)
                    ]
              ]
        ]

-- a latch's line, which ends with byte 10; its next literal is at most the greatest
abbrev IsLatchAt : ℕ → ℕ → Latch → List ℕ → Type 0
IsLatchAt greatest own l bytes = IsNextLine own l bytes × (l.next ≤ greatest)

-- the fields behind a next literal are the numbers that say how a latch begins
resets-back : (own : ℕ) (r : Reset) (fs : List (List ℕ)) → own < 2 ^ 64 - 1 → reset_on own fs ≡ Ok r → (numbers : List ℕ) × (IsReset own r numbers × (fs ≡ map decimal numbers))
resets-back own r [] small e = ([], (subst (λ (x : Reset). IsReset own x []) (ok_same Zero r e) (inl refl), refl))
resets-back own r (field ∷ []) small e = let b = reset-back own r field small e in (b.0 ∷ [], (b.1.1, ap (λ (f : List ℕ). f ∷ []) b.1.0))
resets-back own r (field ∷ more ∷ others) small e = absurd (not_err _ _ e)

pub spaced-joined : (ns : List ℕ) → spaced (map decimal ns) ≡ joined ns
spaced-joined [] = refl
spaced-joined (n ∷ []) = refl
spaced-joined (n ∷ m ∷ ns) = ap (λ (l : List ℕ). decimal n ++ 32 ∷ l) (spaced-joined (m ∷ ns))

pub latch_by : (greatest own : ℕ) (l : Latch) (fs : List (List ℕ)) → greatest < 2 ^ 64 - 1 → own < 2 ^ 64 - 1 → next_fields greatest own fs ≡ Ok l → IsLatchAt greatest own l (spaced fs ++ 10 ∷ [])
unfolding next_fields
latch_by greatest own l [] g_small o_small e = absurd (not_err _ _ e)
latch_by greatest own l (next ∷ others) g_small o_small e =
    bind-then (within why.BadLatch greatest (number_of next)) _ l e
    (λ n n' e1. bind-then (reset_on own others) _ l e1
    (λ r r' e2.
    let p = within-back why.BadLatch greatest n (number_of next) n' in
    let b = resets-back own r others o_small r' in
    let first : next ≡ decimal n = number_is_decimal next n p.0 (omega (arith, p.1)) in
    subst (λ (y : Latch). IsLatchAt greatest own y (spaced (next ∷ others) ++ 10 ∷ [])) (ok_same (record { next = n; reset = r }) l e2) (
      record {
        reset = b.0;
        is_reset = b.1.0;
        spelled = ap (λ (f : List ℕ). spaced (f ∷ others) ++ 10 ∷ []) first ∙ ap (λ (fs : List (List ℕ)). spaced (decimal n ∷ fs) ++ 10 ∷ []) b.1.1
            ∙ ap (λ (t : List ℕ). t ++ 10 ∷ []) (spaced-joined (n ∷ b.0)) ∙ sym (numbers_line-joined (n ∷ b.0));
      },
      p.1,
    )))

-- the line of a latch whose own literal is given
abbrev pub with_own : ℕ → Latch → LatchLine
with_own own l = record { current = own; next = l.next; reset = l.reset }

abbrev IsOwnAt : ℕ → ℕ → Latch → List ℕ → Type 0
IsOwnAt greatest own l bytes = IsLatchLine (with_own own l) bytes × (l.next ≤ greatest)

own_by : (greatest own : ℕ) (l : Latch) (fs : List (List ℕ)) → greatest < 2 ^ 64 - 1 → own < 2 ^ 64 - 1 → own_fields greatest own fs ≡ Ok l → IsOwnAt greatest own l (spaced fs ++ 10 ∷ [])
unfolding own_fields next_fields
own_by greatest own l [] g_small o_small e = absurd (not_err _ _ e)
own_by greatest own l (current ∷ []) g_small o_small e =
    bind-then (some_or why.BadLatch (number_of current)) _ l e
    (λ n n' e1. elim (chosen (n == own) (Err why.BadLatch) (Err why.BadLatch) (Ok l) e1) [
      | inl wrong ↦ absurd (not_err _ _ wrong.1)
      | inr wrong ↦ absurd (not_err _ _ wrong.1)
    ])
own_by greatest own l (current ∷ next ∷ others) g_small o_small e =
    bind-then (some_or why.BadLatch (number_of current)) _ l e
    (λ n n' e1. elim (chosen (n == own) (next_fields greatest own (next ∷ others)) (Err why.BadLatch) (Ok l) e1) [
      | inl said ↦
          let line = latch_by greatest own l (next ∷ others) g_small o_small said.1 in
          let same : n ≡ own = eqb-true n own said.0 in
          let first : current ≡ decimal own = number_is_decimal current n (some-back why.BadLatch n (number_of current) n') (omega (arith, same, o_small)) ∙ ap decimal same in
          let text : (current ++ 32 ∷ spaced (next ∷ others)) ++ 10 ∷ [] ≡ decimal own ++ 32 ∷ (spaced (next ∷ others) ++ 10 ∷ []) =
          append_assoc current (32 ∷ spaced (next ∷ others)) (10 ∷ []) ∙ ap (λ (t : List ℕ). t ++ 32 ∷ (spaced (next ∷ others) ++ 10 ∷ [])) first in
          (record { reset = line.0.reset; is_reset = line.0.is_reset; spelled = text ∙ ap (λ (t : List ℕ). decimal own ++ 32 ∷ t) line.0.spelled }, line.1)
      | inr wrong ↦ absurd (not_err _ _ wrong.1)
    ])

-- the line of a latch in a form
abbrev IsLineIn : Form → ℕ → ℕ → Latch → List ℕ → Type 0
IsLineIn Ascii greatest own l bytes = IsOwnAt greatest own l bytes
IsLineIn Binary greatest own l bytes = IsLatchAt greatest own l bytes

latch-back : (form : Form) (greatest own : ℕ) (l : Latch) (line : List ℕ) → greatest < 2 ^ 64 - 1 → own < 2 ^ 64 - 1 → latch_in form greatest own line ≡ Ok l → IsLineIn form greatest own l (line ++ 10 ∷ [])
latch-back Ascii greatest own l line g_small o_small e = subst (λ (t : List ℕ). IsOwnAt greatest own l (t ++ 10 ∷ [])) (fields-back line) (own_by greatest own l (fields line) g_small o_small e)
latch-back Binary greatest own l line g_small o_small e = subst (λ (t : List ℕ). IsLatchAt greatest own l (t ++ 10 ∷ [])) (fields-back line) (latch_by greatest own l (fields line) g_small o_small e)

-- lines of latches in a form, the first of which has the given variable
abbrev pub AreLinesIn : Form → ℕ → List Latch → List ℕ → Type 0
AreLinesIn Ascii first ls bytes = AreLines IsLatchLine (own_latches first ls) bytes
AreLinesIn Binary first ls bytes = AreNextLines (2 * first) ls bytes

no_lines : (form : Form) (first : ℕ) → AreLinesIn form first [] []
no_lines Ascii first = refl
no_lines Binary first = refl

line_and_others : (form : Form) (greatest first : ℕ) (l : Latch) (ls : List Latch) (line bytes : List ℕ) → IsLineIn form greatest (2 * first) l line → AreLinesIn form (suc first) ls bytes → AreLinesIn form first (l ∷ ls) (line ++ bytes) × (l.next ≤ greatest)
line_and_others Ascii greatest first l ls line bytes one others = ((line, (bytes, (refl, one.0, others))), one.1)
line_and_others Binary greatest first l ls line bytes one others =
    ((line, (bytes, (refl, one.0, subst (λ (own : ℕ). AreNextLines own ls bytes) (sym (next_literal first)) others))), one.1)

-- so many latches, the first of which has the given variable
pub record AreLatchesAt (form : Form) (greatest first n : ℕ) (text : List ℕ) (ls : List Latch) (rest : List ℕ) : Type 0 where
  pub bytes : List ℕ
  pub lines : AreLinesIn form first ls bytes
  pub parts : text ≡ bytes ++ rest
  pub count : length ls ≡ n
  pub below : All (λ l. l.next ≤ greatest) ls

pub latches-back : (form : Form) (greatest first n : ℕ) (text : List ℕ) (ls : List Latch) (rest : List ℕ) → greatest < 2 ^ 64 - 1 → 2 * first + 2 * n < 2 ^ 64 - 1 → latches_in form greatest (2 * first) n text ≡ Ok (ls, rest) → AreLatchesAt form greatest first n text ls rest
latches-back form greatest first zero text ls rest g_small o_small e =
    let is : ([], text) ≡ (ls, rest) = ok_same ([], text) (ls, rest) e in
    subst (λ (p : List Latch × List ℕ). AreLatchesAt form greatest first 0 text p.0 p.1) is (record { bytes = []; lines = no_lines form first; parts = refl; count = refl; below = All-nil (λ l. l.next ≤ greatest) })
latches-back form greatest first (suc n) text ls rest g_small o_small e =
    let b = lines-back (latch_in form greatest) (λ o l. o + 2) (2 * first) n text ls rest e in
    let more : latches_in form greatest (2 * suc first) n b.after ≡ Ok (b.others, rest) = subst (λ (own : ℕ). latches_in form greatest own n b.after ≡ Ok (b.others, rest)) (next_literal first) b.more in
    let others = latches-back form greatest (suc first) n b.after b.others rest g_small (omega (arith, o_small)) more in
    let line = latch-back form greatest (2 * first) b.first b.one.line g_small (omega (arith, o_small)) b.one.said in
    let both = line_and_others form greatest first b.first b.others (b.one.line ++ 10 ∷ []) others.bytes line others.lines in
    let whole : text ≡ ((b.one.line ++ 10 ∷ []) ++ others.bytes) ++ rest =
    b.one.parts ∙ ap (λ (t : List ℕ). b.one.line ++ 10 ∷ t) others.parts ∙ joined b.one.line others.bytes rest in
    subst (λ (all : List Latch). AreLatchesAt form greatest first (suc n) text all rest) (sym b.all)
    (record {
      bytes = (b.one.line ++ 10 ∷ []) ++ others.bytes;
      lines = both.0;
      parts = whole;
      count = ap suc others.count;
      below = All-cons (λ l. l.next ≤ greatest) b.first b.others both.1 others.below;
    })
  where
    joined : (line bytes rest : List ℕ) → line ++ 10 ∷ (bytes ++ rest) ≡ ((line ++ 10 ∷ []) ++ bytes) ++ rest
    joined line bytes rest = simp append_assoc

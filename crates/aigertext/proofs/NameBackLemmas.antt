-- From what reading gives back to the text: names and the comment.
use Rattle.std.proofs.Common.{◌≡◌, ℕ, ◌-◌, ◌^◌, ◌<◌, true, ◌==◌, nat_le, List, [], ◌∷◌, ◌++◌, decimal, codes, Option, Some, None, Result, Ok, Err, refl, sym, ap, subst, ◌∙◌, append_assoc, inl, inr, if◌then◌else◌, arith}
use Rattle.std.specs.Prelude.{find, flat_map, is_some}
use Rattle.std.specs.Str.{bytes_eq}
use Rattle.std.proofs.lemmas.Bool.{eqb-true, leb-false}
use Rattle.std.proofs.lemmas.Slice.Eq.{bytes_eq-Decides}
use Rattle.base.specs.Lines.{text_of_lines, whole_lines, unfinished}
use Rattle.base.specs.Decimals.{number_of}
use Rattle.base.proofs.DecimalLemmas.{chosen, number_is_decimal}
use Rattle.base.proofs.LineLemmas.{parts_of_text}
use Rattle.aiger.specs.declared.circuit.Section.{Section}
use Rattle.aiger.specs.declared.fault.CircuitFault.{CircuitFault}
use Rattle.aiger.specs.declared.fault.CircuitFault.TheVariants.{NoSuchPosition, NameTaken, BadName}
use Rattle.aiger.specs.Circuit.{Circuit, letter, all_sections, section_count, name_of, with_name, name_refusal, is_name}
use Rattle.aigertext.specs.declared.fault.Stop.{Stop}
use Rattle.aigertext.specs.declared.fault.Why.{Why}
use Rattle.aigertext.specs.declared.fault.Why.TheVariants as why
use Rattle.aigertext.specs.Spelling.{Given, given_line, GiveNames, IsComment}
use Rattle.aigertext.specs.Reading.{◌>>=◌, said_at_front, cut_at_byte, section_with_letter, some_or, name_accepted, named_by, name_on, names_on, names_at}
use Rattle.aigertext.proofs.BackLemmas.{ok_same, not_err, IsCut, cut-back}
use Rattle.aigertext.proofs.NameReadLemmas.{HasFewPositions, few_with_name}

-- equal bytes
pub same_bytes : (xs ys : List ℕ) → bytes_eq xs ys ≡ true → xs ≡ ys
same_bytes xs ys e = (bytes_eq-Decides xs ys).0 e

-- a letter
found_letter : (b : ℕ) (ss : List Section) (s : Section) → find (λ t. letter t == b) ss ≡ Some s → b ≡ letter s
found_letter b [] s e = absurd cc
found_letter b (t ∷ ss) s e =
    elim (chosen (letter t == b) (Some t) (find (λ t. letter t == b) ss) (Some s) e) [
      | inl h ↦ sym (eqb-true (letter t) b h.0) ∙ ap letter (some_same t s h.1)
      | inr h ↦ found_letter b ss s h.1
    ]
  where
    some_same : (s t : Section) → Some s ≡ Some t → s ≡ t
    some_same s t e = cc

section_of-back : (b : ℕ) (s : Section) → section_with_letter b ≡ Some s → b ≡ letter s
unfolding section_with_letter
section_of-back b s e = found_letter b all_sections s e

-- a position that a circuit has a name for
position_below : (c : Circuit) (s : Section) (p : ℕ) (name : List ℕ) → name_refusal c s p name ≡ None → p < section_count s c
position_below c s p name e =
    elim (chosen (nat_le (section_count s c) p) (Some NoSuchPosition) (if is_some (name_of c s p) then Some NameTaken else (if is_name name then None else Some BadName)) None e) [
      | inl wrong ↦ absurd cc
      | inr there ↦ leb-false (section_count s c) p there.0
    ]

-- a name's line
line_shape : (g : Given) → (letter g.section ∷ (decimal g.position ++ 32 ∷ g.name)) ++ 10 ∷ [] ≡ given_line g
line_shape g = simp append_assoc

-- the name that a line gives
pub record NameBack (c : Circuit) (line : List ℕ) (d : Circuit) : Type 0 where
  pub given : Given
  pub taken : name_refusal c given.section given.position given.name ≡ None
  pub after : with_name c given.section given.position given.name ≡ d
  pub parts : line ++ 10 ∷ [] ≡ given_line given

module _ (c : Circuit) (b : ℕ) (bs : List ℕ) (d : Circuit) (few : HasFewPositions c) where
  accepted_by : (s : Section) (x : List ℕ × List ℕ) (p : ℕ) (f : Option CircuitFault) → b ≡ letter s → IsCut 32 bs x.0 x.1 → number_of x.0 ≡ Some p → name_refusal c s p x.1 ≡ f
      → name_accepted (with_name c s p x.1) f ≡ Ok d → NameBack c (b ∷ bs) d
  accepted_by s x p (Some f) is parts n r e = absurd (not_err _ _ e)
  accepted_by s x p None is parts n r e =
      let small : p < 2 ^ 64 - 1 = omega (arith, position_below c s p x.1 r, few s) in
      let digits : x.0 ≡ decimal p = number_is_decimal x.0 p n small in
      let line : (b ∷ bs) ++ 10 ∷ [] ≡ given_line (record { section = s; position = p; name = x.1 }) =
      ap (λ (l : List ℕ). (b ∷ l) ++ 10 ∷ []) parts.parts
      ∙ ap (λ (l : List ℕ). (b ∷ (l ++ 32 ∷ x.1)) ++ 10 ∷ []) digits
      ∙ ap (λ (k : ℕ). (k ∷ (decimal p ++ 32 ∷ x.1)) ++ 10 ∷ []) is
      ∙ line_shape (record { section = s; position = p; name = x.1 }) in
      record { given = record { section = s; position = p; name = x.1 }; taken = r; after = ok_same (with_name c s p x.1) d e; parts = line }

  position_by : (s : Section) (x : List ℕ × List ℕ) (r : Option ℕ) → b ≡ letter s → IsCut 32 bs x.0 x.1 → number_of x.0 ≡ r
      → ◌>>=◌ {A = ℕ} {B = Circuit} {E = Why} (some_or why.BadSymbol r) (λ p. name_accepted (with_name c s p x.1) (name_refusal c s p x.1)) ≡ Ok d → NameBack c (b ∷ bs) d
  position_by s x None is parts n e = absurd (not_err _ _ e)
  position_by s x (Some p) is parts n e = accepted_by s x p (name_refusal c s p x.1) is parts n refl e

  cut_by : (s : Section) (r : Option (List ℕ × List ℕ)) → b ≡ letter s → cut_at_byte 32 bs ≡ r → named_by c s r ≡ Ok d → NameBack c (b ∷ bs) d
  cut_by s None is f e = absurd (not_err _ _ e)
  cut_by s (Some x) is f e = position_by s x (number_of x.0) is (cut-back 32 bs x f) refl e

  section_by : (r : Option Section) → section_with_letter b ≡ r → ◌>>=◌ {A = Section} {B = Circuit} {E = Why} (some_or why.BadSymbol r) (λ s. named_by c s (cut_at_byte 32 bs)) ≡ Ok d → NameBack c (b ∷ bs) d
  section_by None f e = absurd (not_err _ _ e)
  section_by (Some s) f e = cut_by s (cut_at_byte 32 bs) (section_of-back b s f) refl e

pub name-back : (c : Circuit) (line : List ℕ) (d : Circuit) → HasFewPositions c → name_on c line ≡ Ok d → NameBack c line d
unfolding name_on
name-back c [] d few e = absurd (not_err _ _ e)
name-back c (b ∷ bs) d few e = section_by c b bs d few (section_with_letter b) refl e

-- names and a comment
pub record NamesBack (c : Circuit) (text : List ℕ) (d : Circuit) : Type 0 where
  pub given : List Given
  pub names : GiveNames c given d
  pub comment : List ℕ
  pub is_comment : IsComment comment
  pub parts : text ≡ flat_map given_line given ++ comment

names_by : (c : Circuit) (line rest : List ℕ) (text : List ℕ) (d : Circuit) (r : Result Circuit Why) → HasFewPositions c → name_on c line ≡ r → text ≡ (line ++ 10 ∷ []) ++ rest
    → ((c' : Circuit) → HasFewPositions c' → r ≡ Ok c' → NamesBack c' rest d) → (x : (c' : Circuit) × (r ≡ Ok c')) → NamesBack c text d
names_by c line rest text d r few f parts others x =
    let n = name-back c line x.0 few (f ∙ x.1) in
    let few' : HasFewPositions x.0 = subst HasFewPositions n.after (few_with_name c n.given few) in
    let o = others x.0 few' x.1 in
    record {
      given = n.given ∷ o.given;
      names = (n.taken, subst (λ (y : Circuit). GiveNames y o.given d) (sym n.after) o.names);
      comment = o.comment;
      is_comment = o.is_comment;
      parts = parts ∙ ap (λ (l : List ℕ). l ++ rest) n.parts ∙ ap (λ (l : List ℕ). given_line n.given ++ l) o.parts ∙ sym (append_assoc (given_line n.given) (flat_map given_line o.given) o.comment);
    }

pub names_on-back : (c : Circuit) (lines : List (List ℕ)) (last : List ℕ) (d : Circuit) → HasFewPositions c → names_on c lines last ≡ Ok d → NamesBack c (text_of_lines lines ++ last) d
names_on-back c [] [] d few e = record { given = []; names = ok_same c d e; comment = []; is_comment = inl refl; parts = refl }
names_on-back c [] (b ∷ bs) d few e = absurd (not_err _ _ e)
names_on-back c (line ∷ lines) last d few e =
    elim (chosen (bytes_eq line (codes "c")) (Ok c) (◌>>=◌ {A = Circuit} {B = Circuit} {E = Stop} (said_at_front (text_of_lines (line ∷ lines) ++ last) (name_on c line)) (λ x. names_on x lines last)) (Ok d) e) [
      | inl comment' ↦
          let is : line ≡ codes "c" = same_bytes line (codes "c") comment'.0 in
          record {
            given = [];
            names = ok_same c d comment'.1;
            comment = text_of_lines (line ∷ lines) ++ last;
            is_comment = inr (text_of_lines lines ++ last, ap (λ (l : List ℕ). text_of_lines (l ∷ lines) ++ last) is);
            parts = refl;
          }
      | inr name' ↦ by (name_on c line) refl name'.1 (λ x f g. names_on-back x lines last d f g)
    ]
  where
    by : (r : Result Circuit Why) → name_on c line ≡ r → ◌>>=◌ {A = Circuit} {B = Circuit} {E = Stop} (said_at_front (text_of_lines (line ∷ lines) ++ last) r) (λ x. names_on x lines last) ≡ Ok d
        → ((x : Circuit) → HasFewPositions x → names_on x lines last ≡ Ok d → NamesBack x (text_of_lines lines ++ last) d) → NamesBack c (text_of_lines (line ∷ lines) ++ last) d
    by (Err w) f g again = absurd (not_err _ _ g)
    by (Ok x) f g again =
        names_by c line (text_of_lines lines ++ last) (text_of_lines (line ∷ lines) ++ last) d (Ok x) few f (append_assoc (line ++ 10 ∷ []) (text_of_lines lines) last)
        (λ y few' is. again y few' (subst (λ (z : Circuit). names_on z lines last ≡ Ok d) (ok_same x y is) g)) (x, refl)

pub names-back : (c : Circuit) (text : List ℕ) (d : Circuit) → HasFewPositions c → names_at c text ≡ Ok d → NamesBack c text d
names-back c text d few e = subst (λ (t : List ℕ). NamesBack c t d) (parts_of_text text) (names_on-back c (whole_lines text) (unfinished text) d few e)

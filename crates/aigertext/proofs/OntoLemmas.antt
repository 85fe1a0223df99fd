-- Lines that define variables, one after the other onto the lists of a file: they are read where they stand for things, and back.
use Rattle.std.proofs.Common.{◌≡◌, ℕ, zero, suc, false, List, [], ◌∷◌, ◌++◌, map, length, All, nat_eq, Result, Ok, refl, sym, ap, subst, ◌∙◌, append_assoc, append-nil, arith}
use Rattle.std.specs.List.{list_any}
use Rattle.std.proofs.lemmas.List.Elements.{All-nil, All-cons, All-head, All-tail}
use Rattle.aigerlists.specs.Loose.{Loose, defined_variables, is_defined}
use Rattle.aigerlists.specs.Numbering.{IsOnce}
use Rattle.aigerlists.proofs.PlacesLemmas.{once_front, not_yet, once_more}
use Rattle.aigertext.specs.declared.fault.Why.{Why}
use Rattle.aigertext.specs.Reading.{line_at}
use Rattle.aigertext.specs.AsciiReading.{onto_lists}
use Rattle.aigertext.specs.Spelling.{AreLines}
use Rattle.aigertext.proofs.BackLemmas.{ok_same, bind-back, line-back}

-- the lists with these things more, one after the other
abbrev pub all_onto : {A : Type 0} → (Loose → A → Loose) → Loose → List A → Loose
all_onto with' l [] = l
all_onto with' l (x ∷ xs) = all_onto with' (with' l x) xs

-- what comes next is not before itself
once_new : {A : Type 0} (own : A → ℕ) (front : List ℕ) (x : A) (xs : List A) (later : List ℕ) → IsOnce (front ++ (map own (x ∷ xs) ++ later)) → list_any (nat_eq (own x)) front ≡ false
once_new own front x xs later once =
    subst (λ (ns : List ℕ). list_any (nat_eq (own x)) ns ≡ false) (append-nil front)
    (not_yet own front (x ∷ xs) 0 x (once_front (front ++ map own (x ∷ xs)) later (subst IsOnce (sym (append_assoc front (map own (x ∷ xs)) later)) once)) (omega arith) refl)

-- lines that stand for things are read onto lists that define none of their variables yet
module _ {A : Type 0} (says : Loose → List ℕ → Result A Why) (with' : Loose → A → Loose) (own : A → ℕ) (IsLine : A → List ℕ → Type 0) (IsGood : A → Type 0) (IsReady : Loose → Type 0)
    (grows : (l : Loose) (x : A) → IsReady l → IsReady (with' l x) × (defined_variables (with' l x) ≡ defined_variables l ++ own x ∷ []))
    (reads : (l : Loose) (x : A) (line rest : List ℕ) → IsGood x → is_defined l (own x) ≡ false → IsLine x line → line_at (says l) (line ++ rest) ≡ Ok (x, rest)) where
  onto_step : (l m : Loose) (n : ℕ) (text after rest : List ℕ) (x : A) → line_at (says l) text ≡ Ok (x, after) → onto_lists says with' (with' l x) n after ≡ Ok (m, rest) → onto_lists says with' l (suc n) text ≡ Ok (m, rest)
  onto_step l m n text after rest x one more = rw one more

  pub onto-read : (l : Loose) (xs : List A) (later bytes rest : List ℕ) → IsReady l → IsOnce (defined_variables l ++ (map own xs ++ later)) → All IsGood xs → AreLines IsLine xs bytes
      → onto_lists says with' l (length xs) (bytes ++ rest) ≡ Ok (all_onto with' l xs, rest)
  onto-read l [] later bytes rest ready once good are = rw are refl
  onto-read l (x ∷ xs) later bytes rest ready once good are =
      let line = are.0 in
      let more = are.1.0 in
      let g = grows l x ready in
      let one = reads l x line (more ++ rest) (All-head IsGood x xs good) (once_new own (defined_variables l) x xs later once) are.1.1.1 in
      let again : defined_variables l ++ (own x ∷ (map own xs ++ later)) ≡ defined_variables (with' l x) ++ (map own xs ++ later) =
      sym (append_assoc (defined_variables l) (own x ∷ []) (map own xs ++ later)) ∙ ap (λ (ns : List ℕ). ns ++ (map own xs ++ later)) (sym g.1) in
      let others = onto-read (with' l x) xs later more rest g.0 (subst IsOnce again once) (All-tail IsGood x xs good) are.1.1.2 in
      let text : bytes ++ rest ≡ line ++ (more ++ rest) = ap (λ (t : List ℕ). t ++ rest) are.1.1.0 ∙ append_assoc line more rest in
      ap (onto_lists says with' l (suc (length xs))) text
      ∙ onto_step l (all_onto with' (with' l x) xs) (length xs) (line ++ (more ++ rest)) (more ++ rest) rest x one others

-- things that were read onto lists, and their lines: each variable still stands once
pub record OntoBack {A : Type 0} (with' : Loose → A → Loose) (IsLine : A → List ℕ → Type 0) (IsGood : A → Type 0) (IsReady : Loose → Type 0) (l m : Loose) (n : ℕ) (text rest : List ℕ) : Type 0 where
  pub things : List A
  pub is : m ≡ all_onto with' l things
  pub many : length things ≡ n
  pub good : All IsGood things
  pub keeps : IsReady l → IsOnce (defined_variables l) → IsReady m × IsOnce (defined_variables m)
  pub bytes : List ℕ
  pub lines : AreLines IsLine things bytes
  pub parts : text ≡ bytes ++ rest

before_rest : (line bytes rest : List ℕ) → line ++ 10 ∷ (bytes ++ rest) ≡ ((line ++ 10 ∷ []) ++ bytes) ++ rest
before_rest line bytes rest = simp append_assoc

module _ {A : Type 0} (says : Loose → List ℕ → Result A Why) (with' : Loose → A → Loose) (own : A → ℕ) (IsLine : A → List ℕ → Type 0) (IsGood : A → Type 0) (IsReady : Loose → Type 0)
    (grows : (l : Loose) (x : A) → IsReady l → IsReady (with' l x) × (defined_variables (with' l x) ≡ defined_variables l ++ own x ∷ []))
    (said : (l : Loose) (x : A) (line : List ℕ) → says l line ≡ Ok x → IsLine x (line ++ 10 ∷ []) × IsGood x × (is_defined l (own x) ≡ false)) where
  pub onto-back : (l m : Loose) (n : ℕ) (text rest : List ℕ) → onto_lists says with' l n text ≡ Ok (m, rest) → OntoBack with' IsLine IsGood IsReady l m n text rest
  onto-back l m zero text rest e =
      let is : ◌≡◌ {A = Loose × List ℕ} (l, text) (m, rest) = ok_same (l, text) (m, rest) e in
      subst (λ (p : Loose × List ℕ). OntoBack with' IsLine IsGood IsReady l p.0 0 text p.1) is
      (record { things = []; is = refl; many = refl; good = All-nil IsGood; keeps = λ ready once. (ready, once); bytes = []; lines = refl; parts = refl })
  onto-back l m (suc n) text rest e =
      let b = bind-back (line_at (says l) text) _ (m, rest) e in
      let s = line-back (says l) text b.value.0 b.value.1 b.was in
      let o = onto-back (with' l b.value.0) m n b.value.1 rest b.then' in
      let g = said l b.value.0 s.line s.said in
      record {
        things = b.value.0 ∷ o.things;
        is = o.is;
        many = ap suc o.many;
        good = All-cons IsGood b.value.0 o.things g.1 o.good;
        keeps = λ ready once. let r = grows l b.value.0 ready in o.keeps r.0 (subst IsOnce (sym r.1) (once_more (defined_variables l) (own b.value.0) once g.2));
        bytes = (s.line ++ 10 ∷ []) ++ o.bytes;
        lines = (s.line ++ 10 ∷ [], (o.bytes, (refl, g.0, o.lines)));
        parts = s.parts ∙ ap (λ (t : List ℕ). s.line ++ 10 ∷ t) o.parts ∙ before_rest s.line o.bytes rest;
      }

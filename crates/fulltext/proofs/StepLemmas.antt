-- What a line and a text give, by the steps in which they are read.
use Rattle.std.proofs.Common.{◌≡◌, ◌≢◌, ℕ, Bool, false, List, [], ◌∷◌, ◌++◌, Option, None, Result, Ok, Err, refl, sym, ap, ap₂, ◌∙◌, inl, inr, ◌⊎◌}
use Rattle.base.specs.Lines.{IsLine, whole_lines, unfinished, line_after}
use Rattle.base.proofs.LineLemmas.{whole_lines-line, unfinished-line, whole_lines-last, unfinished-last}
use Rattle.btor2.specs.declared.item.Body.{Body}
use Rattle.btor2text.specs.declared.fault.Why.{Why}
use Rattle.btor2text.specs.declared.fault.Why.TheVariants as why
use Rattle.btor2text.specs.declared.fault.ReadFault.{ReadFault}
use Rattle.btor2text.specs.declared.forms.Constant.{Constant}
use Rattle.btor2text.specs.declared.forms.Form.TheVariants as form
use Rattle.btor2text.specs.Tokens.{tokens}
use Rattle.btor2text.specs.Reading.{◌>>=◌, Tokens, plain_at, sort_at, symbol_at, line_fault}
use Rattle.btor2text.specs.Stopping.{Ends}
use Rattle.widetext.specs.Reading.{digits_at, wide_body_at}
use Rattle.full.specs.Lines.{Says, form as form_says, FullLine}
use Rattle.fulltext.specs.declared.kinds.Kind.{Kind}
use Rattle.fulltext.specs.declared.kinds.Kind.TheVariants as kind
use Rattle.fulltext.specs.Signs.{signs_behind, unsigned_behind, kept_signs}
use Rattle.fulltext.specs.Spelling.{StandsForFull}
use Rattle.fulltext.specs.FirstFault.{IsFullFaultOf}
use Rattle.fulltext.specs.Reading.{kind_at, places_before, operand_count, form_at, says_at, said_at, numbered, full_accepted, then_lines, full_line_at, full_line_on, full_lines_on, full_text_on}
use Rattle.fulltext.specs.Steps.{plain_on, said_on, line_on, IsFaultAt, ReadsFullLine, ReadsText, ReadsAsLines}
use Rattle.fulltext.proofs.SignLemmas.{none_counted}
use Rattle.fulltext.proofs.FaultLemmas.{not_failed, text_fails}
use Rattle.fulltext.proofs.StandsLemmas.{ok_items, read_stands, stands_read}

-- ---- a line

bind_assoc : {A B C : Type 0} (r : Result A Why) (f : A → Result B Why) (g : B → Result C Why) → ((r >>= f) >>= g) ≡ (r >>= λ x. f x >>= g)
bind_assoc (Ok x) f g = refl
bind_assoc (Err e) f g = refl

bind_same : {A B : Type 0} (r : Result A Why) (f g : A → Result B Why) → ((x : A) → f x ≡ g x) → (r >>= f) ≡ (r >>= g)
bind_same (Ok x) f g same = same x
bind_same (Err e) f g same = refl

-- a line is added by its parts
said_steps : (before : List FullLine) (id : ℕ) (k : Kind) (line : Tokens) → ((said_at k line >>= λ b. symbol_at b.1 >>= λ s. Ok (numbered id s b.0)) >>= λ x. full_accepted before x) ≡ said_on before id k line
said_steps before id k line =
    bind_assoc (said_at k line) (λ b. symbol_at b.1 >>= λ s. Ok (numbered id s b.0)) (λ x. full_accepted before x)
    ∙ bind_same (said_at k line) (λ b. (symbol_at b.1 >>= λ s. Ok (numbered id s b.0)) >>= λ x. full_accepted before x) (λ b. symbol_at b.1 >>= λ s. full_accepted before (numbered id s b.0))
    (λ b. bind_assoc (symbol_at b.1) (λ s. Ok (numbered id s b.0)) (λ x. full_accepted before x))

line_steps : (before : List FullLine) (line : Tokens) → line_on before line ≡ (plain_at line >>= λ i. kind_at i.1 >>= λ k. said_on before i.0 k.0 k.1)
unfolding full_line_at
line_steps before line =
    bind_assoc (plain_at line) (λ i. kind_at i.1 >>= λ k. said_at k.0 k.1 >>= λ b. symbol_at b.1 >>= λ s. Ok (numbered i.0 s b.0)) (λ x. full_accepted before x)
    ∙ bind_same (plain_at line) (λ i. (kind_at i.1 >>= λ k. said_at k.0 k.1 >>= λ b. symbol_at b.1 >>= λ s. Ok (numbered i.0 s b.0)) >>= λ x. full_accepted before x) (λ i. kind_at i.1 >>= λ k. said_on before i.0 k.0 k.1)
    (λ i.
    bind_assoc (kind_at i.1) (λ k. said_at k.0 k.1 >>= λ b. symbol_at b.1 >>= λ s. Ok (numbered i.0 s b.0)) (λ x. full_accepted before x)
    ∙ bind_same (kind_at i.1) (λ k. (said_at k.0 k.1 >>= λ b. symbol_at b.1 >>= λ s. Ok (numbered i.0 s b.0)) >>= λ x. full_accepted before x) (λ k. said_on before i.0 k.0 k.1)
    (λ k. said_steps before i.0 k.0 k.1))

-- without the minuses, and with them
pub with_signs : (before : List FullLine) (id : ℕ) (k : Kind) (line plain : Tokens) (ms : List Bool) → plain ≡ unsigned_behind (places_before k) (operand_count k line) line → ms ≡ kept_signs (signs_behind (places_before k) (operand_count k line) line)
    → plain_on before id k plain ms ≡ said_on before id k line
unfolding said_at
with_signs before id k line plain ms is kept = ap₂ (λ (l : Tokens) (ns : List Bool). plain_on before id k l ns) is kept

module _ (before : List FullLine) (id : ℕ) (k : Kind) (line : Tokens) (ms : List Bool) where
  pub says_fail : (e : Why) → (e ≡ why.NoMemory) ⊎ (says_at k line ms ≡ Err e) → (e ≡ why.NoMemory) ⊎ (plain_on before id k line ms ≡ Err e)
  says_fail e (inl full) = inl full
  says_fail e (inr read) = inr (rw read refl)

  pub symbol_fails : (x : Says × Tokens) (e : Why) → says_at k line ms ≡ Ok x → (e ≡ why.NoMemory) ⊎ (symbol_at x.1 ≡ Err e) → (e ≡ why.NoMemory) ⊎ (plain_on before id k line ms ≡ Err e)
  symbol_fails x e said (inl full) = inl full
  symbol_fails x e said (inr read) = inr (rw (said, read) refl)

  pub plain_is : (x : Says × Tokens) (s : Option (List ℕ)) → says_at k line ms ≡ Ok x → symbol_at x.1 ≡ Ok s → plain_on before id k line ms ≡ full_accepted before (numbered id s x.0)
  plain_is x s said symbol = rw (said, symbol) refl

-- a constant in digits
abbrev constant_of : Body × Tokens → Result (Says × Tokens) Why
constant_of x = Ok (form_says x.0 [], x.1)

abbrev digits_of : Constant → ℕ × Tokens → Result (Says × Tokens) Why
digits_of c s = digits_at c s.0 s.1 >>= constant_of

abbrev named_by : List FullLine → ℕ → Says × Tokens → Result (List FullLine) Why
named_by before id b = symbol_at b.1 >>= λ s. full_accepted before (numbered id s b.0)

constant_said : (c : Constant) (line : Tokens) → said_at (kind.Form (form.Constant c)) line ≡ (sort_at line >>= digits_of c)
unfolding said_at form_at wide_body_at
constant_said c line =
    let none = none_counted 1 line in
    ap₂ (λ (l : Tokens) (ms : List Bool). form_at (form.Constant c) l (kept_signs ms)) none.0 none.1 ∙ bind_assoc (sort_at line) (λ s. digits_at c s.0 s.1) constant_of

constant_steps : (before : List FullLine) (id : ℕ) (c : Constant) (line : Tokens) → said_on before id (kind.Form (form.Constant c)) line ≡ ((sort_at line >>= digits_of c) >>= named_by before id)
constant_steps before id c line = ap (λ (r : Result (Says × Tokens) Why). r >>= named_by before id) (constant_said c line)

module _ (before : List FullLine) (id : ℕ) (c : Constant) (line : Tokens) where
  pub sort_fails : (e : Why) → sort_at line ≡ Err e → said_on before id (kind.Form (form.Constant c)) line ≡ Err e
  sort_fails e read = constant_steps before id c line ∙ rw read refl

  pub digits_fail : (s : ℕ × Tokens) (e : Why) → sort_at line ≡ Ok s → digits_at c s.0 s.1 ≡ Err e → said_on before id (kind.Form (form.Constant c)) line ≡ Err e
  digits_fail s e sort read = constant_steps before id c line ∙ rw (sort, read) refl

  pub name_fails : (s : ℕ × Tokens) (x : Body × Tokens) (e : Why) → sort_at line ≡ Ok s → digits_at c s.0 s.1 ≡ Ok x → (e ≡ why.NoMemory) ⊎ (symbol_at x.1 ≡ Err e)
      → (e ≡ why.NoMemory) ⊎ (said_on before id (kind.Form (form.Constant c)) line ≡ Err e)
  name_fails s x e sort digits (inl full) = inl full
  name_fails s x e sort digits (inr read) = inr (constant_steps before id c line ∙ rw (sort, digits, read) refl)

  pub constant_is : (s : ℕ × Tokens) (x : Body × Tokens) (symbol : Option (List ℕ)) → sort_at line ≡ Ok s → digits_at c s.0 s.1 ≡ Ok x → symbol_at x.1 ≡ Ok symbol
      → said_on before id (kind.Form (form.Constant c)) line ≡ full_accepted before (numbered id symbol (form_says x.0 []))
  constant_is s x symbol sort digits read = constant_steps before id c line ∙ rw (sort, digits, read) refl

-- a line with a token
module _ (before : List FullLine) (line : Tokens) where
  pub id_fails : (e : Why) → plain_at line ≡ Err e → line_on before line ≡ Err e
  id_fails e read = line_steps before line ∙ rw read refl

  pub kind_fails : (i : ℕ × Tokens) (e : Why) → plain_at line ≡ Ok i → kind_at i.1 ≡ Err e → line_on before line ≡ Err e
  kind_fails i e id read = line_steps before line ∙ rw (id, read) refl

  pub line_is : (i : ℕ × Tokens) (k : Kind × Tokens) → plain_at line ≡ Ok i → kind_at i.1 ≡ Ok k → line_on before line ≡ said_on before i.0 k.0 k.1
  line_is i k id read = line_steps before line ∙ rw (id, read) refl

-- ---- a text

abbrev failed : ReadFault → Result (List FullLine) ReadFault
failed e = Err e

-- one line more
lines_on-line : (n : ℕ) (before : List FullLine) (text line rest : List ℕ) → text ≡ line ++ 10 ∷ rest → IsLine line
    → full_lines_on n before (whole_lines text) (unfinished text) ≡ then_lines (line_after n) (full_line_on before (tokens line)) (λ items. full_lines_on (line_after n) items (whole_lines rest) (unfinished rest))
unfolding full_lines_on
lines_on-line n before text line rest is h = rw (is, whole_lines-line line rest h, unfinished-line line rest) refl

-- the end
lines_on-last : (n : ℕ) (before : List FullLine) (text : List ℕ) → IsLine text → full_lines_on n before (whole_lines text) (unfinished text) ≡ full_lines_on n before [] text
lines_on-last n before text h = rw (whole_lines-last text h, unfinished-last text h) refl

-- a step of the loop over lines: the line is read, or has a fault
module _ (n m : ℕ) (before : List FullLine) (text line rest : List ℕ) (total : Result (List FullLine) ReadFault) (is : text ≡ line ++ 10 ∷ rest) (whole : IsLine line) (number : m ≡ line_after n) (so_far : full_lines_on n before (whole_lines text) (unfinished text) ≡ total) where
  pub goes_on : (items : List FullLine) → full_line_on before (tokens line) ≡ Ok items → full_lines_on m items (whole_lines rest) (unfinished rest) ≡ total
  goes_on items read =
      let step = lines_on-line n before text line rest is whole in
      let one : full_lines_on n before (whole_lines text) (unfinished text) ≡ full_lines_on (line_after n) items (whole_lines rest) (unfinished rest) = step ∙ rw read refl in
      rw number (sym one ∙ so_far)

  ends_at : (e : Why) → full_line_on before (tokens line) ≡ Err e → total ≡ Err (line_fault m e)
  ends_at e read =
      let step = lines_on-line n before text line rest is whole in
      let one : full_lines_on n before (whole_lines text) (unfinished text) ≡ Err (line_fault (line_after n) e) = step ∙ rw read refl in
      rw number (sym so_far ∙ one)

  -- a line's fault, which is told with its number unless memory ran out
  pub stops_at : (e : Why) (items : List FullLine) (f : ReadFault) → ReadsFullLine (Err e) items (full_line_on before (tokens line)) → IsFaultAt f m e → ReadsText (Err f) items total
  stops_at e items f (inl full) told = inl (told.full full)
  stops_at e items f (inr read) told =
      elim told.is [
        | inl at ↦ inr (ends_at e read ∙ ap (λ (g : ReadFault). failed g) (sym at))
        | inr full ↦ inl full
      ]

-- the end of the text
is_done : (n : ℕ) (before : List FullLine) (text : List ℕ) → text ≡ [] → full_lines_on n before (whole_lines text) (unfinished text) ≡ Ok before
unfolding full_lines_on
is_done n before text none = rw none refl

is_unfinished : (n : ℕ) (before : List FullLine) (text : List ℕ) → IsLine text → text ≢ [] → full_lines_on n before (whole_lines text) (unfinished text) ≡ Err (line_fault (line_after n) why.Unfinished)
unfolding full_lines_on
is_unfinished n before [] h some = absurd (some refl)
is_unfinished n before (b ∷ bs) h some = lines_on-last n before (b ∷ bs) h

pub text_ends : (n : ℕ) (before : List FullLine) (rest : List ℕ) (total : Result (List FullLine) ReadFault) (r : Result (Unit {0}) ReadFault) → IsLine rest → Ends r n rest
    → full_lines_on n before (whole_lines rest) (unfinished rest) ≡ total → ReadsText r before total
text_ends n before rest total (Ok u) whole ends so_far = sym so_far ∙ is_done n before rest ends
text_ends n before rest total (Err e) whole ends so_far = inr (sym so_far ∙ is_unfinished n before rest whole ends.0 ∙ ap (λ (g : ReadFault). failed g) (sym ends.1))

-- ---- what is promised of reading a text

pub reads_text : (text : List ℕ) (r : Result (Unit {0}) ReadFault) (start model : List FullLine) → start ≡ [] → ReadsText r model (full_lines_on 0 start (whole_lines text) (unfinished text)) → ReadsText r model (full_text_on text)
unfolding full_text_on
reads_text text r start model none h = rw none at h

pub found : (text : List ℕ) (model : List FullLine) → full_text_on text ≡ Ok model → StandsForFull text model
found text model read = read_stands text model read

pub only : (text : List ℕ) (model items : List FullLine) → full_text_on text ≡ Ok model → StandsForFull text items → model ≡ items
only text model items read stands = ok_items model items (sym read ∙ stands_read text items stands)

pub not_read : (text : List ℕ) (model items : List FullLine) (e : ReadFault) → ReadsText (Err e) model (full_text_on text) → StandsForFull text items → ReadsAsLines (Err e) items
not_read text model items e (inl full) stands = full
not_read text model items e (inr read) stands = absurd (not_failed items e (sym (stands_read text items stands) ∙ read))

pub first_fault : (text : List ℕ) (model : List FullLine) (e : ReadFault) → ReadsText (Err e) model (full_text_on text) → (e ≡ line_fault 0 why.NoMemory) ⊎ IsFullFaultOf text e
first_fault text model e (inl full) = inl full
first_fault text model e (inr read) = inr (text_fails text e read)

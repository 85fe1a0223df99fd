-- What a line and a text give, by the steps in which they are read.
use Rattle.std.proofs.Common.{◌≡◌, ◌≢◌, ℕ, false, List, [], ◌∷◌, ◌++◌, Option, None, Result, Ok, Err, refl, sym, ap, ◌∙◌, inl, inr, ◌⊎◌}
use Rattle.base.specs.Lines.{IsLine, whole_lines, unfinished, line_after}
use Rattle.base.proofs.LineLemmas.{whole_lines-line, unfinished-line, whole_lines-last, unfinished-last}
use Rattle.btor2.specs.declared.item.Item.{Item}
use Rattle.btor2.specs.declared.item.Body.{Body}
use Rattle.btor2.specs.declared.item.Body.TheVariants as body
use Rattle.btor2text.specs.declared.fault.Why.{Why}
use Rattle.btor2text.specs.declared.fault.Why.TheVariants as why
use Rattle.btor2text.specs.declared.fault.ReadFault.{ReadFault}
use Rattle.btor2text.specs.declared.forms.Constant.{Constant}
use Rattle.btor2text.specs.declared.forms.Form.{Form}
use Rattle.btor2text.specs.declared.forms.Form.TheVariants as form
use Rattle.btor2text.specs.Tokens.{tokens}
use Rattle.btor2text.specs.Reading.{◌>>=◌, Tokens, plain_at, sort_at, form_at, body_at, symbol_at, line_fault, then_lines, ReadsLine, ReadsAs}
use Rattle.btor2text.specs.Stopping.{Ends}
use Rattle.btor2text.proofs.BodyLemmas.{body_form, body_at_takes}
use Rattle.wide.specs.Entries.{digits_sort}
use Rattle.widetext.specs.Spelling.{StandsForWide}
use Rattle.widetext.specs.FirstFault.{IsWideFaultOf}
use Rattle.widetext.proofs.FaultLemmas.{not_failed, text_fails}
use Rattle.widetext.proofs.StandsLemmas.{ok_items, read_stands, stands_read}
use Rattle.widetext.specs.Reading.{digits_at, wide_body_at, wide_item_at, named, wide_accepted, wide_line_on, wide_lines_on, wide_text_on}
use Rattle.widetext.specs.Steps.{item_on, said_on, is_constant_form, IsFaultAt, ReadsText}

-- ---- a line

bind_assoc : {A B C : Type 0} (r : Result A Why) (f : A → Result B Why) (g : B → Result C Why) → ((r >>= f) >>= g) ≡ (r >>= λ x. f x >>= g)
bind_assoc (Ok x) f g = refl
bind_assoc (Err e) f g = refl

bind_same : {A B : Type 0} (r : Result A Why) (f g : A → Result B Why) → ((x : A) → f x ≡ g x) → (r >>= f) ≡ (r >>= g)
bind_same (Ok x) f g same = same x
bind_same (Err e) f g same = refl

-- an item is added by its parts
said_steps : (before : List Item) (id : ℕ) (f : Form) (line : Tokens) → ((wide_body_at f line >>= λ b. symbol_at b.1 >>= λ s. Ok (named id s b.0)) >>= λ x. wide_accepted before x) ≡ said_on before id f line
said_steps before id f line =
    bind_assoc (wide_body_at f line) (λ b. symbol_at b.1 >>= λ s. Ok (named id s b.0)) (λ x. wide_accepted before x)
    ∙ bind_same (wide_body_at f line) (λ b. (symbol_at b.1 >>= λ s. Ok (named id s b.0)) >>= λ x. wide_accepted before x) (λ b. symbol_at b.1 >>= λ s. wide_accepted before (named id s b.0))
    (λ b. bind_assoc (symbol_at b.1) (λ s. Ok (named id s b.0)) (λ x. wide_accepted before x))

item_steps : (before : List Item) (line : Tokens) → item_on before line ≡ (plain_at line >>= λ i. form_at i.1 >>= λ f. said_on before i.0 f.0 f.1)
unfolding wide_item_at
item_steps before line =
    bind_assoc (plain_at line) (λ i. form_at i.1 >>= λ f. wide_body_at f.0 f.1 >>= λ b. symbol_at b.1 >>= λ s. Ok (named i.0 s b.0)) (λ x. wide_accepted before x)
    ∙ bind_same (plain_at line) (λ i. (form_at i.1 >>= λ f. wide_body_at f.0 f.1 >>= λ b. symbol_at b.1 >>= λ s. Ok (named i.0 s b.0)) >>= λ x. wide_accepted before x) (λ i. form_at i.1 >>= λ f. said_on before i.0 f.0 f.1)
    (λ i.
    bind_assoc (form_at i.1) (λ f. wide_body_at f.0 f.1 >>= λ b. symbol_at b.1 >>= λ s. Ok (named i.0 s b.0)) (λ x. wide_accepted before x)
    ∙ bind_same (form_at i.1) (λ f. (wide_body_at f.0 f.1 >>= λ b. symbol_at b.1 >>= λ s. Ok (named i.0 s b.0)) >>= λ x. wide_accepted before x) (λ f. said_on before i.0 f.0 f.1)
    (λ f. said_steps before i.0 f.0 f.1))

-- what is behind the word of a form that is none of constants in digits
pub other_body : (f : Form) (line : Tokens) → is_constant_form f ≡ false → wide_body_at f line ≡ body_at f line
unfolding wide_body_at
other_body (form.Constant c) line h = absurd (cc)
other_body f line h = refl

no_digits : (b : Body) → is_constant_form (body_form b) ≡ false → digits_sort b ≡ None
no_digits (body.Const s d v) h = absurd (cc)
no_digits (body.Constd s v) h = absurd (cc)
no_digits (body.Consth s d v) h = absurd (cc)
no_digits _ h = refl

pub other_sort : (f : Form) (line : Tokens) (x : Body × Tokens) → is_constant_form f ≡ false → body_at f line ≡ Ok x → digits_sort x.0 ≡ None
other_sort f line x h e = no_digits x.0 (ap is_constant_form (body_at_takes f line x e).form ∙ h)

module _ (before : List Item) (id : ℕ) (f : Form) (line : Tokens) (h : is_constant_form f ≡ false) where
  pub body_fails : (e : Why) → (e ≡ why.NoMemory) ⊎ (body_at f line ≡ Err e) → (e ≡ why.NoMemory) ⊎ (said_on before id f line ≡ Err e)
  body_fails e (inl full) = inl full
  body_fails e (inr read) = inr (rw (other_body f line h, read) refl)

  pub symbol_fails : (x : Body × Tokens) (e : Why) → body_at f line ≡ Ok x → (e ≡ why.NoMemory) ⊎ (symbol_at x.1 ≡ Err e) → (e ≡ why.NoMemory) ⊎ (said_on before id f line ≡ Err e)
  symbol_fails x e said (inl full) = inl full
  symbol_fails x e said (inr read) = inr (rw (other_body f line h, said, read) refl)

  pub said_is : (x : Body × Tokens) (s : Option (List ℕ)) → body_at f line ≡ Ok x → symbol_at x.1 ≡ Ok s → said_on before id f line ≡ wide_accepted before (named id s x.0)
  said_is x s said symbol = rw (other_body f line h, said, symbol) refl

-- a constant in digits
module _ (before : List Item) (id : ℕ) (c : Constant) (line : Tokens) where
  pub sort_fails : (e : Why) → sort_at line ≡ Err e → said_on before id (form.Constant c) line ≡ Err e
  unfolding wide_body_at
  sort_fails e read = rw read refl

  pub digits_fail : (s : ℕ × Tokens) (e : Why) → sort_at line ≡ Ok s → digits_at c s.0 s.1 ≡ Err e → said_on before id (form.Constant c) line ≡ Err e
  unfolding wide_body_at
  digits_fail s e sort read = rw (sort, read) refl

  pub name_fails : (s : ℕ × Tokens) (x : Body × Tokens) (e : Why) → sort_at line ≡ Ok s → digits_at c s.0 s.1 ≡ Ok x → (e ≡ why.NoMemory) ⊎ (symbol_at x.1 ≡ Err e)
      → (e ≡ why.NoMemory) ⊎ (said_on before id (form.Constant c) line ≡ Err e)
  unfolding wide_body_at
  name_fails s x e sort digits (inl full) = inl full
  name_fails s x e sort digits (inr read) = inr (rw (sort, digits, read) refl)

  pub constant_is : (s : ℕ × Tokens) (x : Body × Tokens) (symbol : Option (List ℕ)) → sort_at line ≡ Ok s → digits_at c s.0 s.1 ≡ Ok x → symbol_at x.1 ≡ Ok symbol
      → said_on before id (form.Constant c) line ≡ wide_accepted before (named id symbol x.0)
  unfolding wide_body_at
  constant_is s x symbol sort digits read = rw (sort, digits, read) refl

-- an item
module _ (before : List Item) (line : Tokens) where
  pub id_fails : (e : Why) → plain_at line ≡ Err e → item_on before line ≡ Err e
  id_fails e read = item_steps before line ∙ rw read refl

  pub form_fails : (i : ℕ × Tokens) (e : Why) → plain_at line ≡ Ok i → form_at i.1 ≡ Err e → item_on before line ≡ Err e
  form_fails i e id read = item_steps before line ∙ rw (id, read) refl

  pub item_is : (i : ℕ × Tokens) (f : Form × Tokens) → plain_at line ≡ Ok i → form_at i.1 ≡ Ok f → item_on before line ≡ said_on before i.0 f.0 f.1
  item_is i f id read = item_steps before line ∙ rw (id, read) refl

-- ---- a text

abbrev failed : ReadFault → Result (List Item) ReadFault
failed e = Err e

-- one line more
lines_on-line : (n : ℕ) (before : List Item) (text line rest : List ℕ) → text ≡ line ++ 10 ∷ rest → IsLine line
    → wide_lines_on n before (whole_lines text) (unfinished text) ≡ then_lines (line_after n) (wide_line_on before (tokens line)) (λ items. wide_lines_on (line_after n) items (whole_lines rest) (unfinished rest))
unfolding wide_lines_on
lines_on-line n before text line rest is h = rw (is, whole_lines-line line rest h, unfinished-line line rest) refl

-- the end
lines_on-last : (n : ℕ) (before : List Item) (text : List ℕ) → IsLine text → wide_lines_on n before (whole_lines text) (unfinished text) ≡ wide_lines_on n before [] text
lines_on-last n before text h = rw (whole_lines-last text h, unfinished-last text h) refl

-- a step of the loop over lines: the line is read, or has a fault
module _ (n m : ℕ) (before : List Item) (text line rest : List ℕ) (total : Result (List Item) ReadFault) (is : text ≡ line ++ 10 ∷ rest) (whole : IsLine line) (number : m ≡ line_after n) (so_far : wide_lines_on n before (whole_lines text) (unfinished text) ≡ total) where
  pub goes_on : (items : List Item) → wide_line_on before (tokens line) ≡ Ok items → wide_lines_on m items (whole_lines rest) (unfinished rest) ≡ total
  goes_on items read =
      let step = lines_on-line n before text line rest is whole in
      let one : wide_lines_on n before (whole_lines text) (unfinished text) ≡ wide_lines_on (line_after n) items (whole_lines rest) (unfinished rest) = step ∙ rw read refl in
      rw number (sym one ∙ so_far)

  ends_at : (e : Why) → wide_line_on before (tokens line) ≡ Err e → total ≡ Err (line_fault m e)
  ends_at e read =
      let step = lines_on-line n before text line rest is whole in
      let one : wide_lines_on n before (whole_lines text) (unfinished text) ≡ Err (line_fault (line_after n) e) = step ∙ rw read refl in
      rw number (sym so_far ∙ one)

  -- a line's fault, which is told with its number unless memory ran out
  pub stops_at : (e : Why) (items : List Item) (f : ReadFault) → ReadsLine (Err e) items (wide_line_on before (tokens line)) → IsFaultAt f m e → ReadsText (Err f) items total
  stops_at e items f (inl full) told = inl (told.full full)
  stops_at e items f (inr read) told =
      elim told.is [
        | inl at ↦ inr (ends_at e read ∙ ap (λ (g : ReadFault). failed g) (sym at))
        | inr full ↦ inl full
      ]

-- the end of the text
is_done : (n : ℕ) (before : List Item) (text : List ℕ) → text ≡ [] → wide_lines_on n before (whole_lines text) (unfinished text) ≡ Ok before
unfolding wide_lines_on
is_done n before text none = rw none refl

is_unfinished : (n : ℕ) (before : List Item) (text : List ℕ) → IsLine text → text ≢ [] → wide_lines_on n before (whole_lines text) (unfinished text) ≡ Err (line_fault (line_after n) why.Unfinished)
unfolding wide_lines_on
is_unfinished n before [] h some = absurd (some refl)
is_unfinished n before (b ∷ bs) h some = lines_on-last n before (b ∷ bs) h

pub text_ends : (n : ℕ) (before : List Item) (rest : List ℕ) (total : Result (List Item) ReadFault) (r : Result (Unit {0}) ReadFault) → IsLine rest → Ends r n rest
    → wide_lines_on n before (whole_lines rest) (unfinished rest) ≡ total → ReadsText r before total
text_ends n before rest total (Ok u) whole ends so_far = sym so_far ∙ is_done n before rest ends
text_ends n before rest total (Err e) whole ends so_far = inr (sym so_far ∙ is_unfinished n before rest whole ends.0 ∙ ap (λ (g : ReadFault). failed g) (sym ends.1))

-- ---- what is promised of reading a text

pub reads_text : (text : List ℕ) (r : Result (Unit {0}) ReadFault) (start model : List Item) → start ≡ [] → ReadsText r model (wide_lines_on 0 start (whole_lines text) (unfinished text)) → ReadsText r model (wide_text_on text)
unfolding wide_text_on
reads_text text r start model none h = rw none at h

pub found : (text : List ℕ) (model : List Item) → wide_text_on text ≡ Ok model → StandsForWide text model
found text model read = read_stands text model read

pub only : (text : List ℕ) (model items : List Item) → wide_text_on text ≡ Ok model → StandsForWide text items → model ≡ items
only text model items read stands = ok_items model items (sym read ∙ stands_read text items stands)

pub not_read : (text : List ℕ) (model items : List Item) (e : ReadFault) → ReadsText (Err e) model (wide_text_on text) → StandsForWide text items → ReadsAs (Err e) items
not_read text model items e (inl full) stands = inr (ap (λ (f : ReadFault). f.why) full)
not_read text model items e (inr read) stands = absurd (not_failed items e (sym (stands_read text items stands) ∙ read))

pub first_fault : (text : List ℕ) (model : List Item) (e : ReadFault) → ReadsText (Err e) model (wide_text_on text) → (e ≡ line_fault 0 why.NoMemory) ⊎ IsWideFaultOf text e
first_fault text model e (inl full) = inl full
first_fault text model e (inr read) = inr (text_fails text e read)

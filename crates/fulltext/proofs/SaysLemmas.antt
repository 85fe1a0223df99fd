-- What lines say by the steps in which it is read, and the words of lines.
use Rattle.std.proofs.Common.{◌≡◌, ℕ, Bool, true, false, cond, ◌||◌, List, [], ◌∷◌, Option, Some, None, Result, Ok, Err, codes, refl, sym, ap, subst, ◌∙◌, ◌⊎◌, inl, inr}
use Rattle.std.specs.Str.{bytes_eq}
use Rattle.base.proofs.DecimalLemmas.{chosen}
use Rattle.btor2.specs.declared.item.Body.{Body}
use Rattle.btor2.specs.declared.item.Body.TheVariants as body
use Rattle.btor2text.specs.declared.fault.Why.{Why}
use Rattle.btor2text.specs.declared.fault.Why.TheVariants as why
use Rattle.btor2text.specs.declared.forms.Form.{Form}
use Rattle.btor2text.specs.declared.forms.Form.TheVariants as form
use Rattle.btor2text.specs.Words.{form_name, form_of, form_named, known_form, no_form, unary_of, binary_of}
use Rattle.btor2text.specs.Reading.{IsAsLineRead, GivesUnlessFull, ◌>>=◌, Tokens, triple_at, operand_at, body_at}
use Rattle.btor2text.proofs.PlaceLemmas.{bind_ok, ok_is, is_word}
use Rattle.btor2text.proofs.FormLemmas.{form_takes}
use Rattle.btor2text.specs.Reading.{form_at as word_at}
use Rattle.widetext.specs.Reading.{wide_body_at}
use Rattle.widetext.specs.Steps.{is_constant_form}
use Rattle.widetext.proofs.StepLemmas.{other_body}
use Rattle.full.specs.Lines.{operand, Says, form as form_says, read, write}
use Rattle.fulltext.specs.declared.kinds.Kind.{Kind}
use Rattle.fulltext.specs.declared.kinds.Kind.TheVariants as kind
use Rattle.fulltext.specs.Steps.{read_by, write_by, said_before}
use Rattle.fulltext.specs.Reading.{kind_by, kind_at, first_sign, second_sign, form_at, read_at, write_at}

-- ---- forms

pub form_ok : (f : Form) (ts : Tokens) (ms : List Bool) (x : Body × Tokens) → is_constant_form f ≡ false → body_at f ts ≡ Ok x → form_at f ts ms ≡ Ok (form_says x.0 ms, x.1)
unfolding form_at
form_ok f ts ms x h e = rw (other_body f ts h, e) refl

pub form_fails : (f : Form) (ts : Tokens) (ms : List Bool) (e : Why) → is_constant_form f ≡ false → (e ≡ why.NoMemory) ⊎ (body_at f ts ≡ Err e) → (e ≡ why.NoMemory) ⊎ (form_at f ts ms ≡ Err e)
unfolding form_at
form_fails f ts ms e h (inl full) = inl full
form_fails f ts ms e h (inr given) = inr (rw (other_body f ts h, given) refl)

-- ---- read and write, by the places of a concatenation and of a choice

abbrev concat_of : ℕ × ℕ × ℕ × Tokens → Result (Body × Tokens) Why
concat_of y = Ok (body.Concat y.0 y.1 y.2, y.3)

abbrev read_of : List Bool → ℕ × ℕ × ℕ × Tokens → Result (Says × Tokens) Why
read_of ms y = Ok (read y.0 y.1 (operand y.2 (first_sign ms)), y.3)

abbrev choice_of : ℕ → ℕ → ℕ → ℕ × Tokens → Result (Body × Tokens) Why
choice_of a b c e = Ok (body.Ite a b c e.0, e.1)

abbrev write_of : List Bool → ℕ → ℕ → ℕ → ℕ × Tokens → Result (Says × Tokens) Why
write_of ms a b c e = Ok (write a b (operand c (first_sign ms)) (operand e.0 (second_sign ms)), e.1)

read_steps : (r : Result (ℕ × ℕ × ℕ × Tokens) Why) (ms : List Bool) (x : Body × Tokens) → (r >>= concat_of) ≡ Ok x → (r >>= read_of ms) ≡ (read_by x.0 ms >>= said_before x.1)
read_steps (Ok y) ms x e = ap (λ (z : Body × Tokens). read_by z.0 ms >>= said_before z.1) (ok_is (body.Concat y.0 y.1 y.2, y.3) x e)
read_steps (Err w) ms x e = absurd (cc)

pub read_ok : (ts : Tokens) (ms : List Bool) (x : Body × Tokens) → body_at form.Concat ts ≡ Ok x → read_at ts ms ≡ (read_by x.0 ms >>= said_before x.1)
unfolding body_at read_at
read_ok ts ms x e = read_steps (triple_at ts) ms x e

read_errs : (r : Result (ℕ × ℕ × ℕ × Tokens) Why) (ms : List Bool) (w : Why) → (r >>= concat_of) ≡ Err w → (r >>= read_of ms) ≡ Err w
read_errs (Ok y) ms w e = absurd (cc)
read_errs (Err v) ms w e = ap body_free (e)
  where
    body_free : Result (Body × Tokens) Why → Result (Says × Tokens) Why
    body_free (Ok x) = Err why.BadToken
    body_free (Err u) = Err u

pub read_fails : (ts : Tokens) (ms : List Bool) (e : Why) → (e ≡ why.NoMemory) ⊎ (body_at form.Concat ts ≡ Err e) → (e ≡ why.NoMemory) ⊎ (read_at ts ms ≡ Err e)
unfolding body_at read_at
read_fails ts ms e (inl full) = inl full
read_fails ts ms e (inr given) = inr (read_errs (triple_at ts) ms e given)

last_steps : (a b c : ℕ) (r : Result (ℕ × Tokens) Why) (ms : List Bool) (x : Body × Tokens) → (r >>= choice_of a b c) ≡ Ok x → (r >>= write_of ms a b c) ≡ (write_by x.0 ms >>= said_before x.1)
last_steps a b c (Ok z) ms x e = ap (λ (y : Body × Tokens). write_by y.0 ms >>= said_before y.1) (ok_is (body.Ite a b c z.0, z.1) x e)
last_steps a b c (Err w) ms x e = absurd (cc)

write_steps : (r : Result (ℕ × ℕ × ℕ × Tokens) Why) (ms : List Bool) (x : Body × Tokens) → (r >>= λ y. operand_at y.3 >>= choice_of y.0 y.1 y.2) ≡ Ok x
    → (r >>= λ y. operand_at y.3 >>= write_of ms y.0 y.1 y.2) ≡ (write_by x.0 ms >>= said_before x.1)
write_steps (Ok y) ms x e = last_steps y.0 y.1 y.2 (operand_at y.3) ms x e
write_steps (Err w) ms x e = absurd (cc)

pub write_ok : (ts : Tokens) (ms : List Bool) (x : Body × Tokens) → body_at form.Ite ts ≡ Ok x → write_at ts ms ≡ (write_by x.0 ms >>= said_before x.1)
unfolding body_at write_at
write_ok ts ms x e = write_steps (triple_at ts) ms x e

last_errs : (a b c : ℕ) (r : Result (ℕ × Tokens) Why) (ms : List Bool) (w : Why) → (r >>= choice_of a b c) ≡ Err w → (r >>= write_of ms a b c) ≡ Err w
last_errs a b c (Ok z) ms w e = absurd (cc)
last_errs a b c (Err v) ms w e = ap body_free (e)
  where
    body_free : Result (Body × Tokens) Why → Result (Says × Tokens) Why
    body_free (Ok x) = Err why.BadToken
    body_free (Err u) = Err u

write_errs : (r : Result (ℕ × ℕ × ℕ × Tokens) Why) (ms : List Bool) (w : Why) → (r >>= λ y. operand_at y.3 >>= choice_of y.0 y.1 y.2) ≡ Err w → (r >>= λ y. operand_at y.3 >>= write_of ms y.0 y.1 y.2) ≡ Err w
write_errs (Ok y) ms w e = last_errs y.0 y.1 y.2 (operand_at y.3) ms w e
write_errs (Err v) ms w e = ap body_free (e)
  where
    body_free : Result (Body × Tokens) Why → Result (Says × Tokens) Why
    body_free (Ok x) = Err why.BadToken
    body_free (Err u) = Err u

pub write_fails : (ts : Tokens) (ms : List Bool) (e : Why) → (e ≡ why.NoMemory) ⊎ (body_at form.Ite ts ≡ Err e) → (e ≡ why.NoMemory) ⊎ (write_at ts ms ≡ Err e)
unfolding body_at write_at
write_fails ts ms e (inl full) = inl full
write_fails ts ms e (inr given) = inr (write_errs (triple_at ts) ms e given)

-- what was made of what was read is what reading gives
pub gives_read : {X : Type 0} (view : X → Says × Tokens) (r : Result X Why) (ts : Tokens) (ms : List Bool) (x : Body × Tokens) → body_at form.Concat ts ≡ Ok x → IsAsLineRead view r (read_by x.0 ms >>= said_before x.1) → GivesUnlessFull view r (read_at ts ms)
gives_read view (Ok y) ts ms x e h = read_ok ts ms x e ∙ h
gives_read view (Err w) ts ms x e h = inr (read_ok ts ms x e ∙ h)

pub gives_write : {X : Type 0} (view : X → Says × Tokens) (r : Result X Why) (ts : Tokens) (ms : List Bool) (x : Body × Tokens) → body_at form.Ite ts ≡ Ok x → IsAsLineRead view r (write_by x.0 ms >>= said_before x.1) → GivesUnlessFull view r (write_at ts ms)
gives_write view (Ok y) ts ms x e h = write_ok ts ms x e ∙ h
gives_write view (Err w) ts ms x e h = inr (write_ok ts ms x e ∙ h)

-- ---- words

-- the word of a kind
abbrev pub kind_word : Kind → List ℕ
kind_word (kind.Form f) = form_name f
kind_word kind.Read = codes "read"
kind_word kind.Write = codes "write"

abbrev no_form_for : Why → Result Form Why
no_form_for w = Err w

either_word : (r w : Bool) → r ≡ false → no_form_for (cond (r || w) why.ArrayOperator why.UnknownOperator) ≡ no_form_for why.ArrayOperator → w ≡ true
either_word r true other e = refl
either_word true false other e = absurd (cc)
either_word false false other e = absurd (cc)

array_why : (word : List ℕ) (o : Option Form) → known_form word o ≡ no_form_for why.ArrayOperator → bytes_eq word (codes "read") ≡ false → bytes_eq word (codes "write") ≡ true
unfolding no_form
array_why word (Some f) e other = absurd (cc)
array_why word None e other = either_word (bytes_eq word (codes "read")) (bytes_eq word (codes "write")) other e

array_word : (word : List ℕ) → form_of word ≡ no_form_for why.ArrayOperator → bytes_eq word (codes "read") ≡ false → bytes_eq word (codes "write") ≡ true
unfolding form_of
array_word word e other = array_why word (form_named word) e other

abbrev kind_done : Kind → Result Kind Why
kind_done k = Ok k

array_named : (word : List ℕ) (k : Kind) (b : Bool) → form_of word ≡ no_form_for why.ArrayOperator → bytes_eq word (codes "read") ≡ b → cond b (kind_done kind.Read) (kind_done kind.Write) ≡ kind_done k → word ≡ kind_word k
array_named word k true is same e = is_word word (codes "read") same ∙ ap kind_word (ok_is kind.Read k e)
array_named word k false is other e = is_word word (codes "write") (array_word word is other) ∙ ap kind_word (ok_is kind.Write k e)

kind_named : (word : List ℕ) (r : Result Form Why) (k : Kind) → form_of word ≡ r → kind_by word r ≡ kind_done k → word ≡ kind_word k
kind_named word (Ok f) k is e = form_takes word f is ∙ ap kind_word (ok_is (kind.Form f) k e)
kind_named word (Err why.ArrayOperator) k is e = array_named word k (bytes_eq word (codes "read")) is refl e
kind_named word (Err _) k is e = absurd (cc)

abbrev kind_before : Tokens → Kind → Result (Kind × Tokens) Why
kind_before rest k = Ok (k, rest)

abbrev form_before : Tokens → Form → Result (Form × Tokens) Why
form_before rest f = Ok (f, rest)

pub kind_at_takes : (ts : Tokens) (x : Kind × Tokens) → kind_at ts ≡ Ok x → ts ≡ kind_word x.0 ∷ x.1
unfolding kind_at
kind_at_takes [] x e = absurd (cc)
kind_at_takes (word ∷ rest) x e =
    let k = bind_ok (kind_by word (form_of word)) (kind_before rest) x e in
    subst (λ (y : Kind × Tokens). word ∷ rest ≡ kind_word y.0 ∷ y.1) {x = (k.0, rest)} (ok_is (k.0, rest) x k.2) (ap (λ (w : List ℕ). w ∷ rest) (kind_named word (form_of word) k.0 refl k.1))

array_of : (word : List ℕ) → form_of word ≡ Err why.ArrayOperator → kind_by word (form_of word) ≡ cond (bytes_eq word (codes "read")) (Ok kind.Read) (Ok kind.Write)
array_of word e = ap (kind_by word) e

no_array_form : (form_of (codes "read") ≡ Err why.ArrayOperator) × (form_of (codes "write") ≡ Err why.ArrayOperator)
unfolding form_of form_named unary_of binary_of no_form
no_array_form = (refl, refl)

form_by : (f : Form) (rest : Tokens) (r : Result Form Why) → (r >>= form_before rest) ≡ Ok (f, rest) → (kind_by (form_name f) r >>= kind_before rest) ≡ Ok (kind.Form f, rest)
form_by f rest (Ok g) e = ap (λ (x : Form × Tokens). kind_before x.1 (kind.Form x.0)) (ok_is (g, rest) (f, rest) e)
form_by f rest (Err w) e = absurd (cc)

form_again : (f : Form) (rest : Tokens) → word_at (form_name f ∷ rest) ≡ Ok (f, rest) → kind_at (form_name f ∷ rest) ≡ Ok (kind.Form f, rest)
unfolding kind_at word_at
form_again f rest e = form_by f rest (form_of (form_name f)) e

array_again : (rest : Tokens) → (kind_at (codes "read" ∷ rest) ≡ Ok (kind.Read, rest)) × (kind_at (codes "write" ∷ rest) ≡ Ok (kind.Write, rest))
unfolding kind_at
array_again rest = (ap (λ (r : Result Kind Why). r >>= kind_before rest) (array_of (codes "read") no_array_form.0), ap (λ (r : Result Kind Why). r >>= kind_before rest) (array_of (codes "write") no_array_form.1))

pub kind_at-again : (k : Kind) (rest : Tokens) → ((f : Form) → word_at (form_name f ∷ rest) ≡ Ok (f, rest)) → kind_at (kind_word k ∷ rest) ≡ Ok (k, rest)
kind_at-again (kind.Form f) rest h = form_again f rest (h f)
kind_at-again kind.Read rest h = (array_again rest).0
kind_at-again kind.Write rest h = (array_again rest).1

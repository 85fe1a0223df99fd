-- A word that is read as a form is the form's word, and the form's word is read as it.
use Rattle.std.proofs.Common.{◌≡◌, ℕ, List, [], ◌∷◌, Option, Some, None, Ok, option_map, refl, sym, ap, subst, ◌∙◌, inl, inr, ◌⊎◌}
use Rattle.std.specs.Option.{option_or}
use Rattle.std.specs.Str.{bytes_eq}
use Rattle.base.specs.declared.operators.Unary.{Unary}
use Rattle.base.specs.declared.operators.Unary.TheVariants as unary
use Rattle.base.specs.declared.operators.Binary.{Binary}
use Rattle.base.specs.declared.operators.Binary.TheVariants as binary
use Rattle.base.proofs.DecimalLemmas.{chosen}
use Rattle.btor2text.specs.declared.forms.Form.{Form}
use Rattle.btor2text.specs.declared.forms.Form.TheVariants as form
use Rattle.btor2text.specs.declared.forms.Leaf.TheVariants as leaf
use Rattle.btor2text.specs.declared.forms.Constant.TheVariants as constant
use Rattle.btor2text.specs.declared.forms.Extension.TheVariants as extension
use Rattle.btor2text.specs.declared.forms.Link.TheVariants as link
use Rattle.btor2text.specs.declared.forms.Property.TheVariants as property
use Rattle.btor2text.specs.Words.{unary_name, binary_name, form_name, named, unaries, tests, bitwise, arithmetic, plain_forms, unary_of, binary_of, form_named, known_form, form_of}
use Rattle.btor2text.specs.Reading.{Tokens, form_at}
use Rattle.btor2text.proofs.PlaceLemmas.{bind_ok, ok_is, some_is, is_word}

-- a word that names something is its name
named_is : {A : Type 0} (name : A → List ℕ) (word : List ℕ) (xs : List A) (x : A) → named name word xs ≡ Some x → word ≡ name x
named_is name word [] x e = absurd cc
named_is name word (y ∷ ys) x e =
    elim (chosen (bytes_eq word (name y)) (Some y) (named name word ys) (Some x) e) [
      | inl h ↦ is_word word (name y) h.0 ∙ ap name (some_is y x h.1)
      | inr h ↦ named_is name word ys x h.1
    ]

option_or_cases : {A : Type 0} (o p : Option A) (x : A) → option_or o p ≡ Some x → (o ≡ Some x) ⊎ (p ≡ Some x)
option_or_cases (Some y) p x e = inl e
option_or_cases None p x e = inr e

-- something else that is a name of what a word names
option_or_word : {A : Type 0} (o p : Option A) (x : A) (word named : List ℕ) → option_or o p ≡ Some x → (o ≡ Some x → word ≡ named) → (p ≡ Some x → word ≡ named) → word ≡ named
option_or_word o p x word name e f g =
    elim (option_or_cases o p x e) [
      | inl h ↦ f h
      | inr h ↦ g h
    ]

mapped_is : {A : Type 0} (f : A → Form) (o : Option A) (x : Form) → option_map f o ≡ Some x → (a : A) × (o ≡ Some a) × (f a ≡ x)
mapped_is f None x e = absurd cc
mapped_is f (Some a) x e = (a, refl, some_is (f a) x e)

unary_is : (word : List ℕ) (op : Unary) → unary_of word ≡ Some op → word ≡ unary_name op
unfolding unary_of
unary_is word op e = named_is unary_name word unaries op e

binary_is : (word : List ℕ) (op : Binary) → binary_of word ≡ Some op → word ≡ binary_name op
unfolding binary_of
binary_is word op e0 =
    option_or_word _ _ op word (binary_name op) e0 (named_is binary_name word tests op) (λ e1.
    option_or_word _ _ op word (binary_name op) e1 (named_is binary_name word bitwise op) (named_is binary_name word arithmetic op))

operator_is : {A : Type 0} (make : A → Form) (name : A → List ℕ) (o : Option A) (word : List ℕ) (f : Form) → ((a : A) → form_name (make a) ≡ name a) → ((a : A) → o ≡ Some a → word ≡ name a) → option_map make o ≡ Some f → word ≡ form_name f
operator_is make name o word f same is e =
    let a = mapped_is make o f e in
    is a.0 a.1 ∙ (sym (same a.0) ∙ ap form_name a.2)

form_named_is : (word : List ℕ) (f : Form) → form_named word ≡ Some f → word ≡ form_name f
unfolding form_named
form_named_is word f e0 =
    option_or_word _ _ f word (form_name f) e0 (named_is form_name word plain_forms f) (λ e1.
    option_or_word _ _ f word (form_name f) e1
    (operator_is (λ op. form.Unary op) unary_name (unary_of word) word f (λ op. refl) (unary_is word))
    (operator_is (λ op. form.Binary op) binary_name (binary_of word) word f (λ op. refl) (binary_is word)))

known_is : (word : List ℕ) (o : Option Form) (f : Form) → known_form word o ≡ Ok f → o ≡ Some f
known_is word None f e = absurd cc
known_is word (Some g) f e = ap (λ x. Some x) (ok_is g f e)

pub form_takes : (word : List ℕ) (f : Form) → form_of word ≡ Ok f → word ≡ form_name f
unfolding form_of
form_takes word f e = form_named_is word f (known_is word (form_named word) f e)

pub form_at_takes : (tokens : Tokens) (x : Form × Tokens) → form_at tokens ≡ Ok x → tokens ≡ form_name x.0 ∷ x.1
unfolding form_at
form_at_takes [] x e = absurd cc
form_at_takes (word ∷ rest) x e =
    let f = bind_ok (form_of word) (λ f. Ok (f, rest)) x e in
    let is = form_takes word f.0 f.1 in
    subst (λ (p : Form × Tokens). word ∷ rest ≡ form_name p.0 ∷ p.1) {x = (f.0, rest)} (ok_is (f.0, rest) x f.2) (ap (λ w. w ∷ rest) is)

-- each form's word is read as it
form_named-again : (f : Form) → form_named (form_name f) ≡ Some f
unfolding form_named unary_of binary_of
form_named-again (form.Leaf leaf.Input) = refl
form_named-again (form.Constant constant.Const) = refl
form_named-again (form.Extension extension.Uext) = refl
form_named-again (form.Unary unary.Not) = refl
form_named-again (form.Binary binary.Iff) = refl
form_named-again (form.Link link.Init) = refl
form_named-again (form.Property property.Bad) = refl
form_named-again _ = refl

pub form_at-again : (f : Form) (rest : Tokens) → form_at (form_name f ∷ rest) ≡ Ok (f, rest)
unfolding form_at form_of
form_at-again f rest = rw (form_named-again f) refl

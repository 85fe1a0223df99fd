-- What the tokens behind a form's word are read as is what they say, and what they say is read.
use Rattle.std.proofs.Common.{◌≡◌, ℕ, ◌^◌, ◌≤◌, List, [], ◌∷◌, ◌++◌, length, map, Ok, codes, decimal, refl, ap, subst, ◌∙◌, arith}
use Rattle.std.specs.Fmt.{signed_decimal}
use Rattle.btor2.specs.declared.item.Body.{Body}
use Rattle.btor2.specs.declared.item.Body.TheVariants as body
use Rattle.btor2text.specs.declared.forms.Form.{Form}
use Rattle.btor2text.specs.declared.forms.Form.TheVariants as form
use Rattle.btor2text.specs.declared.forms.Leaf.{Leaf}
use Rattle.btor2text.specs.declared.forms.Leaf.TheVariants as leaf
use Rattle.btor2text.specs.declared.forms.Constant.{Constant}
use Rattle.btor2text.specs.declared.forms.Constant.TheVariants as constant
use Rattle.btor2text.specs.declared.forms.Extension.{Extension}
use Rattle.btor2text.specs.declared.forms.Extension.TheVariants as extension
use Rattle.btor2text.specs.declared.forms.Link.{Link}
use Rattle.btor2text.specs.declared.forms.Link.TheVariants as link
use Rattle.btor2text.specs.declared.forms.Property.{Property}
use Rattle.btor2text.specs.declared.forms.Property.TheVariants as property
use Rattle.btor2text.specs.Words.{form_name}
use Rattle.btor2text.specs.Digits.{IsNumber}
use Rattle.btor2text.specs.Spelling.{SaysBody}
use Rattle.btor2text.specs.Reading.{◌>>=◌, Tokens, sort_at, width_told, pair_at, triple_at, operand_at, plain_at, bit_at, digits_at, signed_at, counted_at, constant_told, leaf_body, extension_body, link_body, property_body, body_at}
use Rattle.btor2text.proofs.BoundLemmas.{IsId, BodyFits}
use Rattle.btor2text.proofs.PlaceLemmas.{bind_ok, ok_is, plain_at_takes, plain_at-decimal, bit_at_takes, bit_at-decimal, sort_at_takes, sort_at-decimal, operand_at_takes, operand_at-decimal, width_at_takes, width_at-again, pair_at_takes, pair_at-again, triple_at_takes, triple_at-again}
use Rattle.btor2text.proofs.OperandLemmas.{counted_at_takes, counted_at-again}
use Rattle.btor2text.proofs.ConstantLemmas.{digits_at_takes, digits_at-again, signed_at_takes, signed_at-again}

-- the form of a body
abbrev pub body_form : Body → Form
body_form (body.Sort n) = form.Sort
body_form (body.Input s) = form.Leaf leaf.Input
body_form (body.State s) = form.Leaf leaf.State
body_form (body.Zero s) = form.Leaf leaf.Zero
body_form (body.One s) = form.Leaf leaf.One
body_form (body.Ones s) = form.Leaf leaf.Ones
body_form (body.Const s d v) = form.Constant constant.Const
body_form (body.Constd s v) = form.Constant constant.Constd
body_form (body.Consth s d v) = form.Constant constant.Consth
body_form (body.Uext s a w) = form.Extension extension.Uext
body_form (body.Sext s a w) = form.Extension extension.Sext
body_form (body.Slice s a u l) = form.Slice
body_form (body.Unary op s a) = form.Unary op
body_form (body.Binary op s a b) = form.Binary op
body_form (body.Concat s a b) = form.Concat
body_form (body.Ite s c t e) = form.Ite
body_form (body.Init s t v) = form.Link link.Init
body_form (body.Next s t v) = form.Link link.Next
body_form (body.Bad a) = form.Property property.Bad
body_form (body.Constraint a) = form.Property property.Constraint
body_form (body.Fair a) = form.Property property.Fair
body_form (body.Output a) = form.Property property.Output
body_form (body.Justice nodes) = form.Justice

-- what the tokens behind a form's word were read as: a body of this form, which the tokens up to those that follow say
pub record Taken (f : Form) (tokens : Tokens) (x : Body × Tokens) : Type 0 where
  pub form : body_form x.0 ≡ f
  pub says : BodyFits x.0 → (front : Tokens) × (tokens ≡ front ++ x.1) × SaysBody x.0 (form_name f ∷ front)

-- what the words of a group say
leaf_taken : (l : Leaf) (tokens rest : Tokens) (s : ℕ) → (IsId s → tokens ≡ decimal s ∷ rest) → Taken (form.Leaf l) tokens (leaf_body l s, rest)
leaf_taken leaf.Input tokens rest s e = record { form = refl; says = λ fits. (decimal s ∷ [], e fits, refl) }
leaf_taken _ tokens rest s e = record { form = refl; says = λ fits. (decimal s ∷ [], e fits, refl) }

extension_taken : (x : Extension) (tokens rest : Tokens) (s a w : ℕ) → (IsId s → IsId a → w ≤ 64 → tokens ≡ decimal s ∷ decimal a ∷ decimal w ∷ rest) → Taken (form.Extension x) tokens (extension_body x s a w, rest)
extension_taken extension.Uext tokens rest s a w e = record { form = refl; says = λ fits. (decimal s ∷ decimal a ∷ decimal w ∷ [], e fits.0 fits.1 fits.2, refl) }
extension_taken extension.Sext tokens rest s a w e = record { form = refl; says = λ fits. (decimal s ∷ decimal a ∷ decimal w ∷ [], e fits.0 fits.1 fits.2, refl) }

slice_taken : (tokens rest : Tokens) (s a u l : ℕ) → (IsId s → IsId a → u ≤ 64 → l ≤ 64 → tokens ≡ decimal s ∷ decimal a ∷ decimal u ∷ decimal l ∷ rest) → Taken form.Slice tokens (body.Slice s a u l, rest)
slice_taken tokens rest s a u l e = record { form = refl; says = λ fits. (decimal s ∷ decimal a ∷ decimal u ∷ decimal l ∷ [], e fits.0 fits.1 fits.2 fits.3, refl) }

choice_taken : (tokens rest : Tokens) (s c t e : ℕ) → (IsId s → IsId c → IsId t → IsId e → tokens ≡ decimal s ∷ decimal c ∷ decimal t ∷ decimal e ∷ rest) → Taken form.Ite tokens (body.Ite s c t e, rest)
choice_taken tokens rest s c t e is = record { form = refl; says = λ fits. (decimal s ∷ decimal c ∷ decimal t ∷ decimal e ∷ [], is fits.0 fits.1 fits.2 fits.3, refl) }

link_taken : (l : Link) (tokens rest : Tokens) (s t v : ℕ) → (IsId s → IsId t → IsId v → tokens ≡ decimal s ∷ decimal t ∷ decimal v ∷ rest) → Taken (form.Link l) tokens (link_body l s t v, rest)
link_taken link.Init tokens rest s t v e = record { form = refl; says = λ fits. (decimal s ∷ decimal t ∷ decimal v ∷ [], e fits.0 fits.1 fits.2, refl) }
link_taken link.Next tokens rest s t v e = record { form = refl; says = λ fits. (decimal s ∷ decimal t ∷ decimal v ∷ [], e fits.0 fits.1 fits.2, refl) }

property_taken : (p : Property) (tokens rest : Tokens) (a : ℕ) → (IsId a → tokens ≡ decimal a ∷ rest) → Taken (form.Property p) tokens (property_body p a, rest)
property_taken property.Bad tokens rest a e = record { form = refl; says = λ fits. (decimal a ∷ [], e fits, refl) }
property_taken _ tokens rest a e = record { form = refl; says = λ fits. (decimal a ∷ [], e fits, refl) }

-- digits behind a sort
numeral_joined : (radix most : ℕ) (tokens : Tokens) (s : ℕ × Tokens) (x : ℕ × ℕ × Tokens) → 1 ≤ radix → radix ^ most ≡ 2 ^ 64 → sort_at tokens ≡ Ok s → digits_at radix most s.1 ≡ Ok x → IsId s.0 → x.0 ≤ most
    → (digits : List ℕ) × (tokens ≡ decimal s.0 ∷ digits ∷ x.2) × IsNumber radix x.0 x.1 digits
numeral_joined radix most tokens s x least word rs rx id le =
    let d = digits_at_takes radix most s.1 x least word rx le in
    (d.0, sort_at_takes tokens s rs id ∙ ap (λ rest. decimal s.0 ∷ rest) d.1, d.2)

constant_at_takes : (c : Constant) (tokens : Tokens) (x : Body × Tokens) → constant_told c tokens ≡ Ok x → Taken (form.Constant c) tokens x
unfolding constant_told
constant_at_takes constant.Const tokens y e =
    let s = bind_ok (sort_at tokens) (λ s. digits_at 2 64 s.1 >>= λ x. Ok (body.Const s.0 x.0 x.1, x.2)) y e in
    let x = bind_ok (digits_at 2 64 s.0.1) (λ x. Ok (body.Const s.0.0 x.0 x.1, x.2)) y s.2 in
    subst (Taken (form.Constant constant.Const) tokens) {x = (body.Const s.0.0 x.0.0 x.0.1, x.0.2)} (ok_is (body.Const s.0.0 x.0.0 x.0.1, x.0.2) y x.2)
    (record { form = refl; says = λ fits. let d = numeral_joined 2 64 tokens s.0 x.0 (omega arith) refl s.1 x.1 fits.0 fits.2 in (decimal s.0.0 ∷ d.0 ∷ [], d.1, (d.0, refl, d.2)) })
constant_at_takes constant.Constd tokens y e =
    let s = bind_ok (sort_at tokens) (λ s. signed_at s.1 >>= λ x. Ok (body.Constd s.0 x.0, x.1)) y e in
    let x = bind_ok (signed_at s.0.1) (λ x. Ok (body.Constd s.0.0 x.0, x.1)) y s.2 in
    subst (Taken (form.Constant constant.Constd) tokens) {x = (body.Constd s.0.0 x.0.0, x.0.1)} (ok_is (body.Constd s.0.0 x.0.0, x.0.1) y x.2)
    (record { form = refl; says = λ fits. (decimal s.0.0 ∷ signed_decimal x.0.0 ∷ [], sort_at_takes tokens s.0 s.1 fits.0 ∙ ap (λ rest. decimal s.0.0 ∷ rest) (signed_at_takes s.0.1 x.0 x.1 fits.1), refl) })
constant_at_takes constant.Consth tokens y e =
    let s = bind_ok (sort_at tokens) (λ s. digits_at 16 16 s.1 >>= λ x. Ok (body.Consth s.0 x.0 x.1, x.2)) y e in
    let x = bind_ok (digits_at 16 16 s.0.1) (λ x. Ok (body.Consth s.0.0 x.0 x.1, x.2)) y s.2 in
    subst (Taken (form.Constant constant.Consth) tokens) {x = (body.Consth s.0.0 x.0.0 x.0.1, x.0.2)} (ok_is (body.Consth s.0.0 x.0.0 x.0.1, x.0.2) y x.2)
    (record { form = refl; says = λ fits. let d = numeral_joined 16 16 tokens s.0 x.0 (omega arith) refl s.1 x.1 fits.0 fits.2 in (decimal s.0.0 ∷ d.0 ∷ [], d.1, (d.0, refl, d.2)) })

-- numbers behind a sort and an operand
extension_joined : (tokens : Tokens) (x : ℕ × ℕ × Tokens) (w : ℕ × Tokens) → pair_at tokens ≡ Ok x → plain_at x.2 ≡ Ok w → IsId x.0 → IsId x.1 → w.0 ≤ 64 → tokens ≡ decimal x.0 ∷ decimal x.1 ∷ decimal w.0 ∷ w.1
extension_joined tokens x w rx rw-is s a le = pair_at_takes tokens x rx s a ∙ ap (λ rest. decimal x.0 ∷ decimal x.1 ∷ rest) (plain_at_takes x.2 w rw-is (omega (arith, le)))

slice_joined : (tokens : Tokens) (x : ℕ × ℕ × Tokens) (u l : ℕ × Tokens) → pair_at tokens ≡ Ok x → bit_at x.2 ≡ Ok u → bit_at u.1 ≡ Ok l → IsId x.0 → IsId x.1 → u.0 ≤ 64 → l.0 ≤ 64 → tokens ≡ decimal x.0 ∷ decimal x.1 ∷ decimal u.0 ∷ decimal l.0 ∷ l.1
slice_joined tokens x u l rx ru rl s a le least =
    pair_at_takes tokens x rx s a ∙ ap (λ rest. decimal x.0 ∷ decimal x.1 ∷ rest) (bit_at_takes x.2 u ru le ∙ ap (λ rest. decimal u.0 ∷ rest) (bit_at_takes u.1 l rl least))

choice_joined : (tokens : Tokens) (x : ℕ × ℕ × ℕ × Tokens) (e : ℕ × Tokens) → triple_at tokens ≡ Ok x → operand_at x.3 ≡ Ok e → IsId x.0 → IsId x.1 → IsId x.2 → IsId e.0 → tokens ≡ decimal x.0 ∷ decimal x.1 ∷ decimal x.2 ∷ decimal e.0 ∷ e.1
choice_joined tokens x e rx re s c t id = triple_at_takes tokens x rx s c t ∙ ap (λ rest. decimal x.0 ∷ decimal x.1 ∷ decimal x.2 ∷ rest) (operand_at_takes x.3 e re id)

pub body_at_takes : (f : Form) (tokens : Tokens) (x : Body × Tokens) → body_at f tokens ≡ Ok x → Taken f tokens x
unfolding body_at
body_at_takes form.Sort tokens y e =
    let b = bind_ok (width_told tokens) (λ x. Ok (body.Sort x.0, x.1)) y e in
    subst (Taken form.Sort tokens) {x = (body.Sort b.0.0, b.0.1)} (ok_is (body.Sort b.0.0, b.0.1) y b.2)
    (record { form = refl; says = λ fits. (codes "bitvec" ∷ decimal b.0.0 ∷ [], width_at_takes tokens b.0 b.1 (omega (arith, fits)), refl) })
body_at_takes (form.Leaf l) tokens y e =
    let b = bind_ok (sort_at tokens) (λ x. Ok (leaf_body l x.0, x.1)) y e in
    subst (Taken (form.Leaf l) tokens) {x = (leaf_body l b.0.0, b.0.1)} (ok_is (leaf_body l b.0.0, b.0.1) y b.2) (leaf_taken l tokens b.0.1 b.0.0 (sort_at_takes tokens b.0 b.1))
body_at_takes (form.Constant c) tokens y e = constant_at_takes c tokens y e
body_at_takes (form.Extension k) tokens y e =
    let x = bind_ok (pair_at tokens) (λ x. plain_at x.2 >>= λ w. Ok (extension_body k x.0 x.1 w.0, w.1)) y e in
    let w = bind_ok (plain_at x.0.2) (λ w. Ok (extension_body k x.0.0 x.0.1 w.0, w.1)) y x.2 in
    subst (Taken (form.Extension k) tokens) {x = (extension_body k x.0.0 x.0.1 w.0.0, w.0.1)} (ok_is (extension_body k x.0.0 x.0.1 w.0.0, w.0.1) y w.2)
    (extension_taken k tokens w.0.1 x.0.0 x.0.1 w.0.0 (extension_joined tokens x.0 w.0 x.1 w.1))
body_at_takes form.Slice tokens y e =
    let x = bind_ok (pair_at tokens) (λ x. bit_at x.2 >>= λ u. bit_at u.1 >>= λ l. Ok (body.Slice x.0 x.1 u.0 l.0, l.1)) y e in
    let u = bind_ok (bit_at x.0.2) (λ u. bit_at u.1 >>= λ l. Ok (body.Slice x.0.0 x.0.1 u.0 l.0, l.1)) y x.2 in
    let l = bind_ok (bit_at u.0.1) (λ l. Ok (body.Slice x.0.0 x.0.1 u.0.0 l.0, l.1)) y u.2 in
    subst (Taken form.Slice tokens) {x = (body.Slice x.0.0 x.0.1 u.0.0 l.0.0, l.0.1)} (ok_is (body.Slice x.0.0 x.0.1 u.0.0 l.0.0, l.0.1) y l.2)
    (slice_taken tokens l.0.1 x.0.0 x.0.1 u.0.0 l.0.0 (slice_joined tokens x.0 u.0 l.0 x.1 u.1 l.1))
body_at_takes (form.Unary op) tokens y e =
    let b = bind_ok (pair_at tokens) (λ x. Ok (body.Unary op x.0 x.1, x.2)) y e in
    subst (Taken (form.Unary op) tokens) {x = (body.Unary op b.0.0 b.0.1, b.0.2)} (ok_is (body.Unary op b.0.0 b.0.1, b.0.2) y b.2)
    (record { form = refl; says = λ fits. (decimal b.0.0 ∷ decimal b.0.1 ∷ [], pair_at_takes tokens b.0 b.1 fits.0 fits.1, refl) })
body_at_takes (form.Binary op) tokens y e =
    let b = bind_ok (triple_at tokens) (λ x. Ok (body.Binary op x.0 x.1 x.2, x.3)) y e in
    subst (Taken (form.Binary op) tokens) {x = (body.Binary op b.0.0 b.0.1 b.0.2, b.0.3)} (ok_is (body.Binary op b.0.0 b.0.1 b.0.2, b.0.3) y b.2)
    (record { form = refl; says = λ fits. (decimal b.0.0 ∷ decimal b.0.1 ∷ decimal b.0.2 ∷ [], triple_at_takes tokens b.0 b.1 fits.0 fits.1 fits.2, refl) })
body_at_takes form.Concat tokens y e =
    let b = bind_ok (triple_at tokens) (λ x. Ok (body.Concat x.0 x.1 x.2, x.3)) y e in
    subst (Taken form.Concat tokens) {x = (body.Concat b.0.0 b.0.1 b.0.2, b.0.3)} (ok_is (body.Concat b.0.0 b.0.1 b.0.2, b.0.3) y b.2)
    (record { form = refl; says = λ fits. (decimal b.0.0 ∷ decimal b.0.1 ∷ decimal b.0.2 ∷ [], triple_at_takes tokens b.0 b.1 fits.0 fits.1 fits.2, refl) })
body_at_takes form.Ite tokens y e =
    let x = bind_ok (triple_at tokens) (λ x. operand_at x.3 >>= λ e. Ok (body.Ite x.0 x.1 x.2 e.0, e.1)) y e in
    let z = bind_ok (operand_at x.0.3) (λ e. Ok (body.Ite x.0.0 x.0.1 x.0.2 e.0, e.1)) y x.2 in
    subst (Taken form.Ite tokens) {x = (body.Ite x.0.0 x.0.1 x.0.2 z.0.0, z.0.1)} (ok_is (body.Ite x.0.0 x.0.1 x.0.2 z.0.0, z.0.1) y z.2)
    (choice_taken tokens z.0.1 x.0.0 x.0.1 x.0.2 z.0.0 (choice_joined tokens x.0 z.0 x.1 z.1))
body_at_takes (form.Link l) tokens y e =
    let b = bind_ok (triple_at tokens) (λ x. Ok (link_body l x.0 x.1 x.2, x.3)) y e in
    subst (Taken (form.Link l) tokens) {x = (link_body l b.0.0 b.0.1 b.0.2, b.0.3)} (ok_is (link_body l b.0.0 b.0.1 b.0.2, b.0.3) y b.2) (link_taken l tokens b.0.3 b.0.0 b.0.1 b.0.2 (triple_at_takes tokens b.0 b.1))
body_at_takes (form.Property p) tokens y e =
    let b = bind_ok (operand_at tokens) (λ x. Ok (property_body p x.0, x.1)) y e in
    subst (Taken (form.Property p) tokens) {x = (property_body p b.0.0, b.0.1)} (ok_is (property_body p b.0.0, b.0.1) y b.2) (property_taken p tokens b.0.1 b.0.0 (operand_at_takes tokens b.0 b.1))
body_at_takes form.Justice tokens y e =
    let b = bind_ok (counted_at tokens) (λ x. Ok (body.Justice x.0, x.1)) y e in
    subst (Taken form.Justice tokens) {x = (body.Justice b.0.0, b.0.1)} (ok_is (body.Justice b.0.0, b.0.1) y b.2)
    (record { form = refl; says = λ fits. let c = counted_at_takes tokens b.0 b.1 fits in (decimal (length b.0.0) ∷ map decimal b.0.0, c.0, (refl, c.1)) })

-- ---- again

-- tokens that say a body are its form's word and those that are read as it
pub record Again (b : Body) (tokens : Tokens) : Type 0 where
  pub behind : Tokens
  pub parts : tokens ≡ form_name (body_form b) ∷ behind
  pub again : (rest : Tokens) → body_at (body_form b) (behind ++ rest) ≡ Ok (b, rest)

pub says_again : (b : Body) (tokens : Tokens) → SaysBody b tokens → BodyFits b → Again b tokens
unfolding body_at constant_told
says_again (body.Sort n) tokens says fits = record { behind = codes "bitvec" ∷ decimal n ∷ []; parts = says; again = λ rest. rw (width_at-again n rest (omega (arith, fits))) refl }
says_again (body.Input s) tokens says fits = record { behind = decimal s ∷ []; parts = says; again = λ rest. rw (sort_at-decimal s rest fits) refl }
says_again (body.State s) tokens says fits = record { behind = decimal s ∷ []; parts = says; again = λ rest. rw (sort_at-decimal s rest fits) refl }
says_again (body.Zero s) tokens says fits = record { behind = decimal s ∷ []; parts = says; again = λ rest. rw (sort_at-decimal s rest fits) refl }
says_again (body.One s) tokens says fits = record { behind = decimal s ∷ []; parts = says; again = λ rest. rw (sort_at-decimal s rest fits) refl }
says_again (body.Ones s) tokens says fits = record { behind = decimal s ∷ []; parts = says; again = λ rest. rw (sort_at-decimal s rest fits) refl }
says_again (body.Const s d v) tokens says fits = record { behind = decimal s ∷ says.0 ∷ []; parts = says.1; again = λ rest. rw (sort_at-decimal s (says.0 ∷ rest) fits.0, digits_at-again 2 64 d v says.0 rest (omega arith) refl fits.2 says.2) refl }
says_again (body.Constd s v) tokens says fits = record { behind = decimal s ∷ signed_decimal v ∷ []; parts = says; again = λ rest. rw (sort_at-decimal s (signed_decimal v ∷ rest) fits.0, signed_at-again v rest fits.1) refl }
says_again (body.Consth s d v) tokens says fits = record { behind = decimal s ∷ says.0 ∷ []; parts = says.1; again = λ rest. rw (sort_at-decimal s (says.0 ∷ rest) fits.0, digits_at-again 16 16 d v says.0 rest (omega arith) refl fits.2 says.2) refl }
says_again (body.Uext s a w) tokens says fits = record { behind = decimal s ∷ decimal a ∷ decimal w ∷ []; parts = says; again = λ rest. rw (pair_at-again s a (decimal w ∷ rest) fits.0 fits.1, plain_at-decimal w rest (omega (arith, fits.2))) refl }
says_again (body.Sext s a w) tokens says fits = record { behind = decimal s ∷ decimal a ∷ decimal w ∷ []; parts = says; again = λ rest. rw (pair_at-again s a (decimal w ∷ rest) fits.0 fits.1, plain_at-decimal w rest (omega (arith, fits.2))) refl }
says_again (body.Slice s a u l) tokens says fits = record { behind = decimal s ∷ decimal a ∷ decimal u ∷ decimal l ∷ []; parts = says; again = λ rest. rw (pair_at-again s a (decimal u ∷ decimal l ∷ rest) fits.0 fits.1, bit_at-decimal u (decimal l ∷ rest) fits.2, bit_at-decimal l rest fits.3) refl }
says_again (body.Unary op s a) tokens says fits = record { behind = decimal s ∷ decimal a ∷ []; parts = says; again = λ rest. rw (pair_at-again s a rest fits.0 fits.1) refl }
says_again (body.Binary op s a b) tokens says fits = record { behind = decimal s ∷ decimal a ∷ decimal b ∷ []; parts = says; again = λ rest. rw (triple_at-again s a b rest fits.0 fits.1 fits.2) refl }
says_again (body.Concat s a b) tokens says fits = record { behind = decimal s ∷ decimal a ∷ decimal b ∷ []; parts = says; again = λ rest. rw (triple_at-again s a b rest fits.0 fits.1 fits.2) refl }
says_again (body.Ite s c t e) tokens says fits = record { behind = decimal s ∷ decimal c ∷ decimal t ∷ decimal e ∷ []; parts = says; again = λ rest. rw (triple_at-again s c t (decimal e ∷ rest) fits.0 fits.1 fits.2, operand_at-decimal e rest fits.3) refl }
says_again (body.Init s t v) tokens says fits = record { behind = decimal s ∷ decimal t ∷ decimal v ∷ []; parts = says; again = λ rest. rw (triple_at-again s t v rest fits.0 fits.1 fits.2) refl }
says_again (body.Next s t v) tokens says fits = record { behind = decimal s ∷ decimal t ∷ decimal v ∷ []; parts = says; again = λ rest. rw (triple_at-again s t v rest fits.0 fits.1 fits.2) refl }
says_again (body.Bad a) tokens says fits = record { behind = decimal a ∷ []; parts = says; again = λ rest. rw (operand_at-decimal a rest fits) refl }
says_again (body.Constraint a) tokens says fits = record { behind = decimal a ∷ []; parts = says; again = λ rest. rw (operand_at-decimal a rest fits) refl }
says_again (body.Fair a) tokens says fits = record { behind = decimal a ∷ []; parts = says; again = λ rest. rw (operand_at-decimal a rest fits) refl }
says_again (body.Output a) tokens says fits = record { behind = decimal a ∷ []; parts = says; again = λ rest. rw (operand_at-decimal a rest fits) refl }
says_again (body.Justice nodes) tokens says fits = record { behind = decimal (length nodes) ∷ map decimal nodes; parts = says.0; again = λ rest. rw (counted_at-again nodes rest fits says.1) refl }

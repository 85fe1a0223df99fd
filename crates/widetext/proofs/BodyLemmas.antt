-- What the tokens behind a form's word are read as is what they say, and what they say is read.
use Rattle.std.proofs.Common.{◌≡◌, ℕ, ◌≤◌, Bool, true, false, List, [], ◌∷◌, ◌++◌, length, Option, Some, None, Ok, codes, decimal, refl, sym, ap, subst, ◌∙◌, inl, inr, arith}
use Rattle.std.specs.Prelude.{option_map}
use Rattle.std.specs.Str.Parse.{digits_value}
use Rattle.base.proofs.DecimalLemmas.{chosen}
use Rattle.btor2.specs.declared.item.Body.{Body}
use Rattle.btor2.specs.declared.item.Body.TheVariants as body
use Rattle.btor2text.specs.declared.forms.Form.{Form}
use Rattle.btor2text.specs.declared.forms.Form.TheVariants as form
use Rattle.btor2text.specs.declared.forms.Constant.{Constant}
use Rattle.btor2text.specs.declared.forms.Constant.TheVariants as constant
use Rattle.btor2text.specs.declared.forms.Extension.{Extension}
use Rattle.btor2text.specs.declared.forms.Extension.TheVariants as extension
use Rattle.btor2text.specs.Words.{form_name}
use Rattle.btor2text.specs.Digits.{are_digits_of, IsNumber}
use Rattle.btor2text.specs.Spelling.{SaysBody}
use Rattle.btor2text.specs.Reading.{◌>>=◌, Tokens, some_of, sort_at, width_told, pair_at, plain_at, bit_at, kept_slice_bit, extension_body, body_at}
use Rattle.btor2text.proofs.BoundLemmas.{IsId, BodyFits}
use Rattle.btor2text.proofs.PlaceLemmas.{bind_ok, ok_is, some_is, some_read, plain_at_takes, plain_at-decimal, sort_at_takes, sort_at-decimal, width_at_takes, width_at-again, pair_at_takes, pair_at-again}
use Rattle.btor2text.proofs.BodyLemmas.{body_form, Taken, body_at_takes, says_again}
use Rattle.widetext.specs.Digits.{whole_number, whole_signed, spelled_body}
use Rattle.widetext.specs.Reading.{digits_at, wide_body_at}
use Rattle.widetext.specs.Spelling.{WideSaysBody}
use Rattle.widetext.proofs.BoundLemmas.{WideBodyFits}

-- what the tokens behind a form's word were read as: a body of this form, which the tokens up to those that follow say
pub record WideTaken (f : Form) (tokens : Tokens) (x : Body × Tokens) : Type 0 where
  pub form : body_form x.0 ≡ f
  pub says : WideBodyFits x.0 → (front : Tokens) × (tokens ≡ front ++ x.1) × WideSaysBody x.0 (form_name f ∷ front)

-- ---- forms whose numbers have no other bounds

abbrev pub is_own : Form → Bool
is_own form.Sort = true
is_own (form.Constant c) = true
is_own (form.Extension x) = true
is_own form.Slice = true
is_own _ = false

narrow : (b : Body) → is_own (body_form b) ≡ false → WideBodyFits b → BodyFits b
narrow (body.Sort n) h fits = absurd (cc)
narrow (body.Const s d v) h fits = absurd (cc)
narrow (body.Constd s v) h fits = absurd (cc)
narrow (body.Consth s d v) h fits = absurd (cc)
narrow (body.Uext s a w) h fits = absurd (cc)
narrow (body.Sext s a w) h fits = absurd (cc)
narrow (body.Slice s a u l) h fits = absurd (cc)
narrow b h fits = fits

widen : (b : Body) (form : Tokens) → is_own (body_form b) ≡ false → SaysBody b form → WideSaysBody b form
widen (body.Constd s v) form h says = absurd (cc)
widen b form h says = says

unwiden : (b : Body) (form : Tokens) → is_own (body_form b) ≡ false → WideSaysBody b form → SaysBody b form
unwiden (body.Constd s v) form h says = absurd (cc)
unwiden b form h says = says

plain_taken : (f : Form) (tokens : Tokens) (x : Body × Tokens) → is_own f ≡ false → Taken f tokens x → WideTaken f tokens x
plain_taken f tokens x h t =
    let own : is_own (body_form x.0) ≡ false = ap is_own t.form ∙ h in
    record { form = t.form; says = λ fits. let s = t.says (narrow x.0 own fits) in (s.0, s.1, widen x.0 (form_name f ∷ s.0) own s.2) }

-- ---- widths and bits

-- a number that is kept as a bit is that bit
kept-bit : (n : ℕ) → kept_slice_bit n ≤ 1048576 → kept_slice_bit n ≡ n
unfolding kept_slice_bit
kept-bit n le = omega arith

small-bit : (n : ℕ) → n ≤ 1048576 → kept_slice_bit n ≡ n
unfolding kept_slice_bit
small-bit n le = omega arith

bit_is : (tokens : Tokens) (n : ℕ) (rest : Tokens) → plain_at tokens ≡ Ok (n, rest) → kept_slice_bit n ≤ 1048576 → tokens ≡ decimal (kept_slice_bit n) ∷ rest
bit_is tokens n rest e le = plain_at_takes tokens (kept_slice_bit n, rest) (e ∙ ap (λ (m : ℕ). Ok (m, rest)) (sym (kept-bit n le))) (omega (arith, le))

bit_takes : (tokens : Tokens) (x : ℕ × Tokens) → bit_at tokens ≡ Ok x → x.0 ≤ 1048576 → tokens ≡ decimal x.0 ∷ x.1
unfolding bit_at
bit_takes tokens x e =
    let y = bind_ok (plain_at tokens) (λ y. Ok (kept_slice_bit y.0, y.1)) x e in
    subst (λ (p : ℕ × Tokens). p.0 ≤ 1048576 → tokens ≡ decimal p.0 ∷ p.1) {x = (kept_slice_bit y.0.0, y.0.1)} (ok_is (kept_slice_bit y.0.0, y.0.1) x y.2) (bit_is tokens y.0.0 y.0.1 y.1)

bit-decimal : (n : ℕ) (rest : Tokens) → n ≤ 1048576 → bit_at (decimal n ∷ rest) ≡ Ok (n, rest)
unfolding bit_at
bit-decimal n rest le = rw (plain_at-decimal n rest (omega (arith, le)), small-bit n le) refl

extension_joined : (tokens : Tokens) (x : ℕ × ℕ × Tokens) (w : ℕ × Tokens) → pair_at tokens ≡ Ok x → plain_at x.2 ≡ Ok w → IsId x.0 → IsId x.1 → w.0 ≤ 1048576 → tokens ≡ decimal x.0 ∷ decimal x.1 ∷ decimal w.0 ∷ w.1
extension_joined tokens x w rx rw-is s a le = pair_at_takes tokens x rx s a ∙ ap (λ rest. decimal x.0 ∷ decimal x.1 ∷ rest) (plain_at_takes x.2 w rw-is (omega (arith, le)))

slice_joined : (tokens : Tokens) (x : ℕ × ℕ × Tokens) (u l : ℕ × Tokens) → pair_at tokens ≡ Ok x → bit_at x.2 ≡ Ok u → bit_at u.1 ≡ Ok l → IsId x.0 → IsId x.1 → u.0 ≤ 1048576 → l.0 ≤ 1048576 → tokens ≡ decimal x.0 ∷ decimal x.1 ∷ decimal u.0 ∷ decimal l.0 ∷ l.1
slice_joined tokens x u l rx ru rl s a up low =
    pair_at_takes tokens x rx s a ∙ ap (λ rest. decimal x.0 ∷ decimal x.1 ∷ rest) (bit_takes x.2 u ru up ∙ ap (λ rest. decimal u.0 ∷ rest) (bit_takes u.1 l rl low))

extension_taken : (x : Extension) (tokens rest : Tokens) (s a w : ℕ) → (IsId s → IsId a → w ≤ 1048576 → tokens ≡ decimal s ∷ decimal a ∷ decimal w ∷ rest) → WideTaken (form.Extension x) tokens (extension_body x s a w, rest)
extension_taken extension.Uext tokens rest s a w e = record { form = refl; says = λ fits. (decimal s ∷ decimal a ∷ decimal w ∷ [], e fits.0 fits.1 fits.2, refl) }
extension_taken extension.Sext tokens rest s a w e = record { form = refl; says = λ fits. (decimal s ∷ decimal a ∷ decimal w ∷ [], e fits.0 fits.1 fits.2, refl) }

-- ---- constants

number_told : (radix : ℕ) (bytes : List ℕ) (v : ℕ) → whole_number radix bytes ≡ Some v → IsNumber radix (length bytes) v bytes
unfolding whole_number
number_told radix bytes v e =
    elim (chosen (are_digits_of radix bytes) (Some (digits_value radix bytes)) None (Some v) e) [
      | inl h ↦ record { each = h.0; many = refl; says = some_is _ _ h.1 }
      | inr h ↦ absurd cc
    ]

number_again : (radix d v : ℕ) (bytes : List ℕ) → IsNumber radix d v bytes → whole_number radix bytes ≡ Some v
unfolding whole_number
number_again radix d v bytes n = rw (n.each, n.says) refl

mapped : {A B : Type 0} (f : A → B) (o : Option A) (y : B) → option_map f o ≡ Some y → (x : A) × (o ≡ Some x) × (f x ≡ y)
mapped f None y e = absurd cc
mapped f (Some x) y e = (x, refl, some_is (f x) y e)

-- digits behind a sort say a body of the constant's form
SpelledBy : Constant → ℕ → List ℕ → Body → Type 0
SpelledBy c s token b = (body_form b ≡ form.Constant c) × (WideBodyFits b → IsId s) × WideSaysBody b (form_name (form.Constant c) ∷ decimal s ∷ token ∷ [])

spelled_by : (c : Constant) (s : ℕ) (token : List ℕ) (b : Body) → spelled_body c s token ≡ Some b → SpelledBy c s token b
unfolding SpelledBy
spelled_by constant.Const s token b e =
    let v = mapped (λ v. body.Const s (length token) v) (whole_number 2 token) b e in
    subst (SpelledBy constant.Const s token) v.2 (refl, (λ fits. fits), (token, refl, number_told 2 token v.0 v.1))
spelled_by constant.Constd s token b e =
    let v = mapped (λ v. body.Constd s v) (whole_signed token) b e in
    subst (SpelledBy constant.Constd s token) v.2 (refl, (λ fits. fits), (token, refl, v.1))
spelled_by constant.Consth s token b e =
    let v = mapped (λ v. body.Consth s (length token) v) (whole_number 16 token) b e in
    subst (SpelledBy constant.Consth s token) v.2 (refl, (λ fits. fits), (token, refl, number_told 16 token v.0 v.1))

digits_taken : (c : Constant) (tokens : Tokens) (s : ℕ × Tokens) (y : Body × Tokens) → sort_at tokens ≡ Ok s → digits_at c s.0 s.1 ≡ Ok y → WideTaken (form.Constant c) tokens y
unfolding digits_at SpelledBy
digits_taken c tokens (s, []) y rs e = absurd cc
digits_taken c tokens (s, token ∷ rest) y rs e =
    let b = bind_ok (some_of (spelled_body c s token)) (λ b. Ok (b, rest)) y e in
    let by = spelled_by c s token b.0 (some_read (spelled_body c s token) b.0 b.1) in
    subst (WideTaken (form.Constant c) tokens) {x = (b.0, rest)} (ok_is (b.0, rest) y b.2)
    (record { form = by.0; says = λ fits. (decimal s ∷ token ∷ [], sort_at_takes tokens (s, token ∷ rest) rs (by.1 fits), by.2) })

-- ---- all forms

pub wide_body_takes : (f : Form) (tokens : Tokens) (y : Body × Tokens) → wide_body_at f tokens ≡ Ok y → WideTaken f tokens y
unfolding wide_body_at body_at
wide_body_takes (form.Constant c) tokens y e =
    let s = bind_ok (sort_at tokens) (λ s. digits_at c s.0 s.1) y e in
    digits_taken c tokens s.0 y s.1 s.2
wide_body_takes form.Sort tokens y e =
    let x = bind_ok (width_told tokens) (λ x. Ok (body.Sort x.0, x.1)) y e in
    subst (WideTaken form.Sort tokens) {x = (body.Sort x.0.0, x.0.1)} (ok_is (body.Sort x.0.0, x.0.1) y x.2)
    (record { form = refl; says = λ fits. (codes "bitvec" ∷ decimal x.0.0 ∷ [], width_at_takes tokens x.0 x.1 (omega (arith, fits)), refl) })
wide_body_takes (form.Extension k) tokens y e =
    let x = bind_ok (pair_at tokens) (λ x. plain_at x.2 >>= λ w. Ok (extension_body k x.0 x.1 w.0, w.1)) y e in
    let w = bind_ok (plain_at x.0.2) (λ w. Ok (extension_body k x.0.0 x.0.1 w.0, w.1)) y x.2 in
    subst (WideTaken (form.Extension k) tokens) {x = (extension_body k x.0.0 x.0.1 w.0.0, w.0.1)} (ok_is (extension_body k x.0.0 x.0.1 w.0.0, w.0.1) y w.2)
    (extension_taken k tokens w.0.1 x.0.0 x.0.1 w.0.0 (extension_joined tokens x.0 w.0 x.1 w.1))
wide_body_takes form.Slice tokens y e =
    let x = bind_ok (pair_at tokens) (λ x. bit_at x.2 >>= λ u. bit_at u.1 >>= λ l. Ok (body.Slice x.0 x.1 u.0 l.0, l.1)) y e in
    let u = bind_ok (bit_at x.0.2) (λ u. bit_at u.1 >>= λ l. Ok (body.Slice x.0.0 x.0.1 u.0 l.0, l.1)) y x.2 in
    let l = bind_ok (bit_at u.0.1) (λ l. Ok (body.Slice x.0.0 x.0.1 u.0.0 l.0, l.1)) y u.2 in
    subst (WideTaken form.Slice tokens) {x = (body.Slice x.0.0 x.0.1 u.0.0 l.0.0, l.0.1)} (ok_is (body.Slice x.0.0 x.0.1 u.0.0 l.0.0, l.0.1) y l.2)
    (record { form = refl; says = λ fits. (decimal x.0.0 ∷ decimal x.0.1 ∷ decimal u.0.0 ∷ decimal l.0.0 ∷ [], slice_joined tokens x.0 u.0 l.0 x.1 u.1 l.1 fits.0 fits.1 fits.2 fits.3, refl) })
wide_body_takes (form.Leaf k) tokens y e = plain_taken (form.Leaf k) tokens y refl (body_at_takes (form.Leaf k) tokens y e)
wide_body_takes (form.Unary op) tokens y e = plain_taken (form.Unary op) tokens y refl (body_at_takes (form.Unary op) tokens y e)
wide_body_takes (form.Binary op) tokens y e = plain_taken (form.Binary op) tokens y refl (body_at_takes (form.Binary op) tokens y e)
wide_body_takes form.Concat tokens y e = plain_taken form.Concat tokens y refl (body_at_takes form.Concat tokens y e)
wide_body_takes form.Ite tokens y e = plain_taken form.Ite tokens y refl (body_at_takes form.Ite tokens y e)
wide_body_takes (form.Link k) tokens y e = plain_taken (form.Link k) tokens y refl (body_at_takes (form.Link k) tokens y e)
wide_body_takes (form.Property k) tokens y e = plain_taken (form.Property k) tokens y refl (body_at_takes (form.Property k) tokens y e)
wide_body_takes form.Justice tokens y e = plain_taken form.Justice tokens y refl (body_at_takes form.Justice tokens y e)

-- ---- again

-- tokens that say a body are its form's word and those that are read as it
pub record WideAgain (b : Body) (tokens : Tokens) : Type 0 where
  pub behind : Tokens
  pub parts : tokens ≡ form_name (body_form b) ∷ behind
  pub again : (rest : Tokens) → wide_body_at (body_form b) (behind ++ rest) ≡ Ok (b, rest)

plain_body : (f : Form) (tokens : Tokens) → is_own f ≡ false → wide_body_at f tokens ≡ body_at f tokens
unfolding wide_body_at
plain_body (form.Constant c) tokens h = absurd (cc)
plain_body f tokens h = refl

plain_again : (b : Body) (tokens : Tokens) → is_own (body_form b) ≡ false → WideSaysBody b tokens → WideBodyFits b → WideAgain b tokens
plain_again b tokens h says fits =
    let a = says_again b tokens (unwiden b tokens h says) (narrow b h fits) in
    record { behind = a.behind; parts = a.parts; again = λ rest. plain_body (body_form b) (a.behind ++ rest) h ∙ a.again rest }

pub wide_says_again : (b : Body) (tokens : Tokens) → WideSaysBody b tokens → WideBodyFits b → WideAgain b tokens
unfolding wide_body_at body_at digits_at
wide_says_again (body.Sort n) tokens says fits = record { behind = codes "bitvec" ∷ decimal n ∷ []; parts = says; again = λ rest. rw (width_at-again n rest (omega (arith, fits))) refl }
wide_says_again (body.Const s d v) tokens says fits = record { behind = decimal s ∷ says.0 ∷ []; parts = says.1; again = λ rest. rw (sort_at-decimal s (says.0 ∷ rest) fits, number_again 2 d v says.0 says.2, says.2.many) refl }
wide_says_again (body.Constd s v) tokens says fits = record { behind = decimal s ∷ says.0 ∷ []; parts = says.1; again = λ rest. rw (sort_at-decimal s (says.0 ∷ rest) fits, says.2) refl }
wide_says_again (body.Consth s d v) tokens says fits = record { behind = decimal s ∷ says.0 ∷ []; parts = says.1; again = λ rest. rw (sort_at-decimal s (says.0 ∷ rest) fits, number_again 16 d v says.0 says.2, says.2.many) refl }
wide_says_again (body.Uext s a w) tokens says fits = record { behind = decimal s ∷ decimal a ∷ decimal w ∷ []; parts = says; again = λ rest. rw (pair_at-again s a (decimal w ∷ rest) fits.0 fits.1, plain_at-decimal w rest (omega (arith, fits.2))) refl }
wide_says_again (body.Sext s a w) tokens says fits = record { behind = decimal s ∷ decimal a ∷ decimal w ∷ []; parts = says; again = λ rest. rw (pair_at-again s a (decimal w ∷ rest) fits.0 fits.1, plain_at-decimal w rest (omega (arith, fits.2))) refl }
wide_says_again (body.Slice s a u l) tokens says fits = record { behind = decimal s ∷ decimal a ∷ decimal u ∷ decimal l ∷ []; parts = says; again = λ rest. rw (pair_at-again s a (decimal u ∷ decimal l ∷ rest) fits.0 fits.1, bit-decimal u (decimal l ∷ rest) fits.2, bit-decimal l rest fits.3) refl }
wide_says_again (body.Input s) tokens says fits = plain_again (body.Input s) tokens refl says fits
wide_says_again (body.State s) tokens says fits = plain_again (body.State s) tokens refl says fits
wide_says_again (body.Zero s) tokens says fits = plain_again (body.Zero s) tokens refl says fits
wide_says_again (body.One s) tokens says fits = plain_again (body.One s) tokens refl says fits
wide_says_again (body.Ones s) tokens says fits = plain_again (body.Ones s) tokens refl says fits
wide_says_again (body.Unary op s a) tokens says fits = plain_again (body.Unary op s a) tokens refl says fits
wide_says_again (body.Binary op s a b) tokens says fits = plain_again (body.Binary op s a b) tokens refl says fits
wide_says_again (body.Concat s a b) tokens says fits = plain_again (body.Concat s a b) tokens refl says fits
wide_says_again (body.Ite s c t e) tokens says fits = plain_again (body.Ite s c t e) tokens refl says fits
wide_says_again (body.Init s t v) tokens says fits = plain_again (body.Init s t v) tokens refl says fits
wide_says_again (body.Next s t v) tokens says fits = plain_again (body.Next s t v) tokens refl says fits
wide_says_again (body.Bad a) tokens says fits = plain_again (body.Bad a) tokens refl says fits
wide_says_again (body.Constraint a) tokens says fits = plain_again (body.Constraint a) tokens refl says fits
wide_says_again (body.Fair a) tokens says fits = plain_again (body.Fair a) tokens refl says fits
wide_says_again (body.Output a) tokens says fits = plain_again (body.Output a) tokens refl says fits
wide_says_again (body.Justice nodes) tokens says fits = plain_again (body.Justice nodes) tokens refl says fits

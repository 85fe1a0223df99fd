-- What the tokens behind a line's word are read as is what they say, and what they say is read.
use Rattle.std.proofs.Common.{◌≡◌, ℕ, zero, suc, ◌+◌, ◌-◌, ◌^◌, ◌<◌, ◌≤◌, Bool, true, false, cond, List, [], ◌∷◌, ◌++◌, length, map, Option, Some, None, Result, Ok, Err, codes, decimal, refl, sym, ap, ap₂, subst, ◌∙◌, append_assoc, inl, inr, arith, length-append}
use Rattle.std.specs.List.{list_any}
use Rattle.std.proofs.lemmas.List.{length-map, append-nil}
use Rattle.std.specs.Str.{bytes_eq}
use Rattle.base.proofs.DecimalLemmas.{chosen}
use Rattle.btor2.specs.declared.item.Body.{Body}
use Rattle.btor2.specs.declared.item.Body.TheVariants as body
use Rattle.btor2.specs.Items.{operands}
use Rattle.btor2.proofs.AcceptedLemmas.{Each}
use Rattle.btor2text.specs.declared.fault.Why.{Why}
use Rattle.btor2text.specs.declared.forms.Form.{Form}
use Rattle.btor2text.specs.declared.forms.Form.TheVariants as form
use Rattle.btor2text.specs.Words.{form_name}
use Rattle.btor2text.specs.Reading.{◌>>=◌, Tokens, plain_at, plain_number, sort_at, operand_at, triple_at, kept_id}
use Rattle.btor2text.proofs.BoundLemmas.{IsId}
use Rattle.btor2text.proofs.PlaceLemmas.{bind_ok, ok_is, is_word, plain_at-decimal, sort_at_takes, sort_at-decimal, operand_at_takes, operand_at-decimal, triple_at_takes, triple_at-again}
use Rattle.btor2text.proofs.BodyLemmas.{body_form}
use Rattle.widetext.specs.Reading.{wide_body_at}
use Rattle.widetext.specs.Spelling.{WideSaysBody}
use Rattle.widetext.proofs.BoundLemmas.{WideBodyFits}
use Rattle.widetext.proofs.BodyLemmas.{wide_body_takes, wide_says_again}
use Rattle.full.specs.Lines.{operand, Says, form as form_says, array_sort, read, write}
use Rattle.fulltext.specs.declared.kinds.Kind.{Kind}
use Rattle.fulltext.specs.declared.kinds.Kind.TheVariants as kind
use Rattle.fulltext.specs.Signs.{with_sign, signed, signed_behind, signs, unsigned, signs_behind, unsigned_behind, kept_signs}
use Rattle.fulltext.specs.Reading.{places_before, told_by, operand_count, first_sign, second_sign, form_at, array_at, sort_said_at, read_at, write_at, says_at, said_at}
use Rattle.fulltext.specs.Spelling.{operand_token, tokens_before, AreSigns, SaysLine}
use Rattle.fulltext.proofs.SaysLemmas.{kind_word}
use Rattle.fulltext.proofs.BoundLemmas.{SaysFits}
use Rattle.fulltext.proofs.SignLemmas.{id_sign, id_unsigned, behind_again, kept_behind, behind_front, behind_all, filled, unsigned_ids, signs_ids, kept_none, kept_some, none_counted, none_behind}

-- ---- where operands stand

-- the tokens that say a form are those before its operands, the operands, and what is behind them
pub record OperandsStand (b : Body) (plain : Tokens) : Type 0 where
  pub head : Tokens
  pub tail : Tokens
  pub parts : plain ≡ head ++ (map decimal (operands b) ++ tail)
  pub count : length head ≡ tokens_before b

pub operands_stand : (b : Body) (plain : Tokens) → WideSaysBody b plain → OperandsStand b plain
operands_stand (body.Sort n) plain says = record { head = codes "sort" ∷ codes "bitvec" ∷ []; tail = decimal n ∷ []; parts = says; count = refl }
operands_stand (body.Input s) plain says = record { head = codes "input" ∷ decimal s ∷ []; tail = []; parts = says; count = refl }
operands_stand (body.State s) plain says = record { head = codes "state" ∷ decimal s ∷ []; tail = []; parts = says; count = refl }
operands_stand (body.Zero s) plain says = record { head = codes "zero" ∷ decimal s ∷ []; tail = []; parts = says; count = refl }
operands_stand (body.One s) plain says = record { head = codes "one" ∷ decimal s ∷ []; tail = []; parts = says; count = refl }
operands_stand (body.Ones s) plain says = record { head = codes "ones" ∷ decimal s ∷ []; tail = []; parts = says; count = refl }
operands_stand (body.Const s d v) plain says = record { head = codes "const" ∷ decimal s ∷ []; tail = says.0 ∷ []; parts = says.1; count = refl }
operands_stand (body.Constd s v) plain says = record { head = codes "constd" ∷ decimal s ∷ []; tail = says.0 ∷ []; parts = says.1; count = refl }
operands_stand (body.Consth s d v) plain says = record { head = codes "consth" ∷ decimal s ∷ []; tail = says.0 ∷ []; parts = says.1; count = refl }
operands_stand (body.Uext s a w) plain says = record { head = codes "uext" ∷ decimal s ∷ []; tail = decimal w ∷ []; parts = says; count = refl }
operands_stand (body.Sext s a w) plain says = record { head = codes "sext" ∷ decimal s ∷ []; tail = decimal w ∷ []; parts = says; count = refl }
operands_stand (body.Slice s a u l) plain says = record { head = codes "slice" ∷ decimal s ∷ []; tail = decimal u ∷ decimal l ∷ []; parts = says; count = refl }
operands_stand (body.Unary op s a) plain says = record { head = form_name (form.Unary op) ∷ decimal s ∷ []; tail = []; parts = says; count = refl }
operands_stand (body.Binary op s a b) plain says = record { head = form_name (form.Binary op) ∷ decimal s ∷ []; tail = []; parts = says; count = refl }
operands_stand (body.Concat s a b) plain says = record { head = codes "concat" ∷ decimal s ∷ []; tail = []; parts = says; count = refl }
operands_stand (body.Ite s c t e) plain says = record { head = codes "ite" ∷ decimal s ∷ []; tail = []; parts = says; count = refl }
operands_stand (body.Init s t v) plain says = record { head = codes "init" ∷ decimal s ∷ []; tail = []; parts = says; count = refl }
operands_stand (body.Next s t v) plain says = record { head = codes "next" ∷ decimal s ∷ []; tail = []; parts = says; count = refl }
operands_stand (body.Bad a) plain says = record { head = codes "bad" ∷ []; tail = []; parts = says; count = refl }
operands_stand (body.Constraint a) plain says = record { head = codes "constraint" ∷ []; tail = []; parts = says; count = refl }
operands_stand (body.Fair a) plain says = record { head = codes "fair" ∷ []; tail = []; parts = says; count = refl }
operands_stand (body.Output a) plain says = record { head = codes "output" ∷ []; tail = []; parts = says; count = refl }
operands_stand (body.Justice nodes) plain says =
    record { head = codes "justice" ∷ decimal (length nodes) ∷ []; tail = []; parts = says.0 ∙ ap (λ (ts : Tokens). codes "justice" ∷ decimal (length nodes) ∷ ts) (sym (append-nil (map decimal nodes))); count = refl }

pub ids_fit : (b : Body) → WideBodyFits b → Each IsId (operands b)
ids_fit (body.Uext s a w) fits = (fits.1, tt)
ids_fit (body.Sext s a w) fits = (fits.1, tt)
ids_fit (body.Slice s a u l) fits = (fits.1, tt)
ids_fit (body.Unary op s a) fits = (fits.1, tt)
ids_fit (body.Binary op s a b) fits = (fits.1, (fits.2, tt))
ids_fit (body.Concat s a b) fits = (fits.1, (fits.2, tt))
ids_fit (body.Ite s c t e) fits = (fits.1, (fits.2, (fits.3, tt)))
ids_fit (body.Init s t v) fits = (fits.1, (fits.2, tt))
ids_fit (body.Next s t v) fits = (fits.1, (fits.2, tt))
ids_fit (body.Bad a) fits = (fits, tt)
ids_fit (body.Constraint a) fits = (fits, tt)
ids_fit (body.Fair a) fits = (fits, tt)
ids_fit (body.Output a) fits = (fits, tt)
ids_fit (body.Justice nodes) fits = fits
ids_fit _ fits = tt

-- the word is one of the tokens before the operands
pub places_same : (b : Body) → tokens_before b ≡ suc (places_before (kind.Form (body_form b)))
places_same (body.Bad a) = refl
places_same (body.Constraint a) = refl
places_same (body.Fair a) = refl
places_same (body.Output a) = refl
places_same b = refl

-- ---- how many operands there are

told_first : (t : List ℕ) (a b : Tokens) → told_by (plain_at (t ∷ a)) ≡ told_by (plain_at (t ∷ b))
unfolding plain_at
told_first t a b = by (plain_number t)
  where
    by : (r : Result ℕ Why) → told_by (r >>= λ n. Ok (n, a)) ≡ told_by (r >>= λ n. Ok (n, b))
    by (Ok n) = refl
    by (Err e) = refl

told_same : (n : ℕ) (ts : Tokens) → told_by (plain_at ts) ≡ told_by (plain_at (unsigned_behind 1 n ts))
told_same n [] = refl
told_same n (t ∷ ts) = told_first t ts (unsigned n ts)

pub count_unsigned : (f : Form) (n : ℕ) (ts : Tokens) → operand_count (kind.Form f) ts ≡ operand_count (kind.Form f) (unsigned_behind (places_before (kind.Form f)) n ts)
count_unsigned form.Justice n ts = told_same n ts
count_unsigned form.Sort n ts = refl
count_unsigned (form.Leaf l) n ts = refl
count_unsigned (form.Constant c) n ts = refl
count_unsigned (form.Extension x) n ts = refl
count_unsigned form.Slice n ts = refl
count_unsigned (form.Unary op) n ts = refl
count_unsigned (form.Binary op) n ts = refl
count_unsigned form.Concat n ts = refl
count_unsigned form.Ite n ts = refl
count_unsigned (form.Link l) n ts = refl
count_unsigned (form.Property p) n ts = refl

-- told by a word, and what is behind it
told_nodes : (nodes : List ℕ) (ts : Tokens) → length nodes < 2 ^ 64 - 1 → told_by (plain_at (decimal (length nodes) ∷ ts)) ≡ length nodes
told_nodes nodes ts few = ap told_by (plain_at-decimal (length nodes) ts (omega (arith, few)))

tail_of : (w v : List ℕ) (a b : Tokens) → w ∷ a ≡ v ∷ b → a ≡ b
tail_of w v a b e = cc

pub count_said : (b : Body) (front rest : Tokens) → WideSaysBody b (form_name (body_form b) ∷ front) → operand_count (kind.Form (body_form b)) (front ++ rest) ≡ length (operands b)
count_said (body.Justice nodes) front rest says =
    let is : front ≡ decimal (length nodes) ∷ map decimal nodes = tail_of (codes "justice") (codes "justice") front (decimal (length nodes) ∷ map decimal nodes) says.0 in
    ap (λ (ts : Tokens). told_by (plain_at (ts ++ rest))) is ∙ told_nodes nodes (map decimal nodes ++ rest) says.1
count_said (body.Sort n) front rest says = refl
count_said (body.Input s) front rest says = refl
count_said (body.State s) front rest says = refl
count_said (body.Zero s) front rest says = refl
count_said (body.One s) front rest says = refl
count_said (body.Ones s) front rest says = refl
count_said (body.Const s d v) front rest says = refl
count_said (body.Constd s v) front rest says = refl
count_said (body.Consth s d v) front rest says = refl
count_said (body.Uext s a w) front rest says = refl
count_said (body.Sext s a w) front rest says = refl
count_said (body.Slice s a u l) front rest says = refl
count_said (body.Unary op s a) front rest says = refl
count_said (body.Binary op s a b) front rest says = refl
count_said (body.Concat s a b) front rest says = refl
count_said (body.Ite s c t e) front rest says = refl
count_said (body.Init s t v) front rest says = refl
count_said (body.Next s t v) front rest says = refl
count_said (body.Bad a) front rest says = refl
count_said (body.Constraint a) front rest says = refl
count_said (body.Fair a) front rest says = refl
count_said (body.Output a) front rest says = refl

-- ---- what was read of a line

-- tokens were read as what they say, up to those that follow
pub record Said (k : Kind) (ts : Tokens) (x : Says × Tokens) : Type 0 where
  pub front : Tokens
  pub parts : ts ≡ front ++ x.1
  pub says : SaysLine x.0 (kind_word k ∷ front)

are_signs : (n : ℕ) (ms : List Bool) → length ms ≡ n → AreSigns n (kept_signs ms)
are_signs n ms e = by (list_any (λ (m : Bool). m) ms) refl
  where
    some : (ns : List Bool) → length ns ≡ n → list_any (λ (m : Bool). m) ns ≡ true → AreSigns n ns
    some [] e any = tt
    some (m ∷ ns) e any = (e, any)

    by : (b : Bool) → list_any (λ (m : Bool). m) ms ≡ b → AreSigns n (cond b ms [])
    by true any = some ms e any
    by false any = tt

-- of a form: its tokens without minuses say a body, and so those with them say it with these
form_said : (f : Form) (k n : ℕ) (ts rest front : Tokens) (b : Body) → k ≡ places_before (kind.Form f) → n ≡ operand_count (kind.Form f) ts → body_form b ≡ f
    → unsigned_behind k n ts ≡ front ++ rest → WideSaysBody b (form_name f ∷ front) → Said (kind.Form f) ts (form_says b (kept_signs (signs_behind k n ts)), rest)
form_said f k n ts rest front b ke ne fe parts says =
    let ss = signs_behind k n ts in
    let stand = operands_stand b (form_name f ∷ front) says in
    let own : WideSaysBody b (form_name (body_form b) ∷ front) = subst (λ (g : Form). WideSaysBody b (form_name g ∷ front)) (sym fe) says in
    let count : n ≡ length (operands b) =
    ne ∙ (count_unsigned f n ts ∙ (ap (λ (j : ℕ). operand_count (kind.Form f) (unsigned_behind j n ts)) (sym ke) ∙ (ap (operand_count (kind.Form f)) parts ∙ (ap (λ (g : Form). operand_count (kind.Form g) (front ++ rest)) (sym fe) ∙ count_said b front rest own)))) in
    let places : tokens_before b ≡ suc k = places_same b ∙ ap (λ (g : Form). suc (places_before (kind.Form g))) fe ∙ ap suc (sym ke) in
    let long : k + n ≤ length front = omega (arith, ap length stand.parts, length-append stand.head (map decimal (operands b) ++ stand.tail), length-append (map decimal (operands b)) stand.tail, length-map (operands b) decimal, stand.count, count, places) in
    let all : length ss ≡ n = behind_all k n ts (omega (arith, ap length parts, length-append front rest, long)) in
    record {
      front = signed_behind k ss front;
      parts = sym (behind_again k n ts) ∙ (ap (signed_behind k ss) parts ∙ behind_front k ss front rest (omega (arith, long, all)));
      says = (form_name f ∷ front, ap (λ (l : Tokens). form_name f ∷ l) (sym (kept_behind k ss front)) ∙ ap (λ (j : ℕ). signed_behind j (kept_signs ss) (form_name f ∷ front)) (sym places), says, subst (λ (j : ℕ). AreSigns j (kept_signs ss)) count (are_signs n ss all));
    }

form_taken : (f : Form) (k n : ℕ) (ts : Tokens) (x : Says × Tokens) → k ≡ places_before (kind.Form f) → n ≡ operand_count (kind.Form f) ts
    → form_at f (unsigned_behind k n ts) (kept_signs (signs_behind k n ts)) ≡ Ok x → SaysFits x.0 → Said (kind.Form f) ts x
unfolding form_at
form_taken f k n ts x ke ne e =
    let ms = kept_signs (signs_behind k n ts) in
    let y = bind_ok (wide_body_at f (unsigned_behind k n ts)) (λ y. Ok (form_says y.0 ms, y.1)) x e in
    let taken = wide_body_takes f (unsigned_behind k n ts) y.0 y.1 in
    subst (λ (z : Says × Tokens). SaysFits z.0 → Said (kind.Form f) ts z) {x = (form_says y.0.0 ms, y.0.1)} (ok_is (form_says y.0.0 ms, y.0.1) x y.2)
    (λ fits. let says = taken.says fits in form_said f k n ts y.0.1 says.0 y.0.0 ke ne taken.form says.1 says.2)

-- a sort without minuses
no_signs : (f : Form) (ts : Tokens) (x : Says × Tokens) → 1 ≡ places_before (kind.Form f) → 0 ≡ operand_count (kind.Form f) ts → form_at f ts [] ≡ Ok x → SaysFits x.0 → Said (kind.Form f) ts x
no_signs f ts x ke ne e =
    let none = none_counted 1 ts in
    form_taken f 1 0 ts x ke ne (ap₂ (λ (l : Tokens) (ms : List Bool). form_at f l (kept_signs ms)) none.0 none.1 ∙ e)

arrays_taken : (word : List ℕ) (rest : Tokens) (x : Says × Tokens) → word ≡ codes "array" → array_at rest ≡ Ok x → SaysFits x.0 → Said (kind.Form form.Sort) (word ∷ rest) x
unfolding array_at
arrays_taken word rest x is e =
    let i = bind_ok (sort_at rest) (λ i. sort_at i.1 >>= λ s. Ok (array_sort i.0 s.0, s.1)) x e in
    let s = bind_ok (sort_at i.0.1) (λ s. Ok (array_sort i.0.0 s.0, s.1)) x i.2 in
    subst (λ (z : Says × Tokens). SaysFits z.0 → Said (kind.Form form.Sort) (word ∷ rest) z) {x = (array_sort i.0.0 s.0.0, s.0.1)} (ok_is (array_sort i.0.0 s.0.0, s.0.1) x s.2)
    (λ fits. record {
      front = codes "array" ∷ decimal i.0.0 ∷ decimal s.0.0 ∷ [];
      parts = ap₂ (λ (w : List ℕ) (l : Tokens). w ∷ l) is (sort_at_takes rest i.0 i.1 fits.0 ∙ ap (λ (l : Tokens). decimal i.0.0 ∷ l) (sort_at_takes i.0.1 s.0 s.1 fits.1));
      says = refl;
    })

sort_taken : (ts : Tokens) (x : Says × Tokens) → sort_said_at ts ≡ Ok x → SaysFits x.0 → Said (kind.Form form.Sort) ts x
unfolding sort_said_at
sort_taken [] x e = absurd (cc)
sort_taken (word ∷ rest) x e =
    elim (chosen (bytes_eq word (codes "array")) (array_at rest) (form_at form.Sort (word ∷ rest) []) (Ok x) e) [
      | inl h ↦ arrays_taken word rest x (is_word word (codes "array") h.0) h.1
      | inr h ↦ no_signs form.Sort (word ∷ rest) x refl refl h.1
    ]

-- lists of one and of two
one_of : (ms : List Bool) → length ms ≡ 1 → (m : Bool) × (ms ≡ m ∷ [])
one_of [] e = absurd (omega (arith, e))
one_of (m ∷ []) e = (m, refl)
one_of (m ∷ n ∷ ms) e = absurd (omega (arith, e))

two_of : (ms : List Bool) → length ms ≡ 2 → (m n : Bool) × (ms ≡ m ∷ n ∷ [])
two_of [] e = absurd (omega (arith, e))
two_of (m ∷ []) e = absurd (omega (arith, e))
two_of (m ∷ n ∷ []) e = (m, n, refl)
two_of (m ∷ n ∷ o ∷ ms) e = absurd (omega (arith, e))

pub first_kept : (m : Bool) → first_sign (kept_signs (m ∷ [])) ≡ m
first_kept true = refl
first_kept false = refl

pub both_kept : (m n : Bool) → (first_sign (kept_signs (m ∷ n ∷ [])) ≡ m) × (second_sign (kept_signs (m ∷ n ∷ [])) ≡ n)
both_kept true true = (refl, refl)
both_kept true false = (refl, refl)
both_kept false true = (refl, refl)
both_kept false false = (refl, refl)

read_said : (ts rest : Tokens) (s a i : ℕ) (ss : List Bool) → ss ≡ signs_behind 2 1 ts → unsigned_behind 2 1 ts ≡ decimal s ∷ decimal a ∷ decimal i ∷ rest → Said kind.Read ts (read s a (operand i (first_sign (kept_signs ss))), rest)
read_said ts rest s a i ss is parts =
    let m = one_of ss (ap length is ∙ behind_all 2 1 ts (omega (arith, ap length parts))) in
    let same : first_sign (kept_signs ss) ≡ m.0 = ap (λ (ns : List Bool). first_sign (kept_signs ns)) m.1 ∙ first_kept m.0 in
    record {
      front = decimal s ∷ decimal a ∷ with_sign (first_sign (kept_signs ss)) (decimal i) ∷ [];
      parts =
          sym (behind_again 2 1 ts) ∙ (ap₂ (λ (ns : List Bool) (l : Tokens). signed_behind 2 ns l) (sym is ∙ m.1) parts
          ∙ ap (λ (b : Bool). decimal s ∷ decimal a ∷ with_sign b (decimal i) ∷ rest) (sym same));
      says = refl;
    }

read_taken : (ts : Tokens) (x : Says × Tokens) → read_at (unsigned_behind 2 1 ts) (kept_signs (signs_behind 2 1 ts)) ≡ Ok x → SaysFits x.0 → Said kind.Read ts x
unfolding read_at
read_taken ts x e =
    let ms = kept_signs (signs_behind 2 1 ts) in
    let y = bind_ok (triple_at (unsigned_behind 2 1 ts)) (λ y. Ok (read y.0 y.1 (operand y.2 (first_sign ms)), y.3)) x e in
    subst (λ (z : Says × Tokens). SaysFits z.0 → Said kind.Read ts z) {x = (read y.0.0 y.0.1 (operand y.0.2 (first_sign ms)), y.0.3)} (ok_is (read y.0.0 y.0.1 (operand y.0.2 (first_sign ms)), y.0.3) x y.2)
    (λ fits. read_said ts y.0.3 y.0.0 y.0.1 y.0.2 (signs_behind 2 1 ts) refl (triple_at_takes (unsigned_behind 2 1 ts) y.0 y.1 fits.0 fits.1 fits.2))

write_said : (ts rest : Tokens) (s a i v : ℕ) (ss : List Bool) → ss ≡ signs_behind 2 2 ts → unsigned_behind 2 2 ts ≡ decimal s ∷ decimal a ∷ decimal i ∷ decimal v ∷ rest
    → Said kind.Write ts (write s a (operand i (first_sign (kept_signs ss))) (operand v (second_sign (kept_signs ss))), rest)
write_said ts rest s a i v ss is parts =
    let m = two_of ss (ap length is ∙ behind_all 2 2 ts (omega (arith, ap length parts))) in
    let first : first_sign (kept_signs ss) ≡ m.0 = ap (λ (ns : List Bool). first_sign (kept_signs ns)) m.2 ∙ (both_kept m.0 m.1).0 in
    let second : second_sign (kept_signs ss) ≡ m.1 = ap (λ (ns : List Bool). second_sign (kept_signs ns)) m.2 ∙ (both_kept m.0 m.1).1 in
    record {
      front = decimal s ∷ decimal a ∷ with_sign (first_sign (kept_signs ss)) (decimal i) ∷ with_sign (second_sign (kept_signs ss)) (decimal v) ∷ [];
      parts =
          sym (behind_again 2 2 ts) ∙ (ap₂ (λ (ns : List Bool) (l : Tokens). signed_behind 2 ns l) (sym is ∙ m.2) parts
          ∙ ap₂ (λ (b c : Bool). decimal s ∷ decimal a ∷ with_sign b (decimal i) ∷ with_sign c (decimal v) ∷ rest) (sym first) (sym second));
      says = refl;
    }

write_taken : (ts : Tokens) (x : Says × Tokens) → write_at (unsigned_behind 2 2 ts) (kept_signs (signs_behind 2 2 ts)) ≡ Ok x → SaysFits x.0 → Said kind.Write ts x
unfolding write_at
write_taken ts x e =
    let ms = kept_signs (signs_behind 2 2 ts) in
    let y = bind_ok (triple_at (unsigned_behind 2 2 ts)) (λ y. operand_at y.3 >>= λ w. Ok (write y.0 y.1 (operand y.2 (first_sign ms)) (operand w.0 (second_sign ms)), w.1)) x e in
    let w = bind_ok (operand_at y.0.3) (λ w. Ok (write y.0.0 y.0.1 (operand y.0.2 (first_sign ms)) (operand w.0 (second_sign ms)), w.1)) x y.2 in
    subst (λ (z : Says × Tokens). SaysFits z.0 → Said kind.Write ts z) {x = (write y.0.0 y.0.1 (operand y.0.2 (first_sign ms)) (operand w.0.0 (second_sign ms)), w.0.1)}
    (ok_is (write y.0.0 y.0.1 (operand y.0.2 (first_sign ms)) (operand w.0.0 (second_sign ms)), w.0.1) x w.2)
    (λ fits.
    write_said ts w.0.1 y.0.0 y.0.1 y.0.2 w.0.0 (signs_behind 2 2 ts) refl
    (triple_at_takes (unsigned_behind 2 2 ts) y.0 y.1 fits.0 fits.1 fits.2 ∙ ap (λ (l : Tokens). decimal y.0.0 ∷ decimal y.0.1 ∷ decimal y.0.2 ∷ l) (operand_at_takes y.0.3 w.0 w.1 fits.3)))

pub said_takes : (k : Kind) (ts : Tokens) (x : Says × Tokens) → said_at k ts ≡ Ok x → SaysFits x.0 → Said k ts x
unfolding said_at
said_takes (kind.Form form.Sort) ts x e = sort_taken ts x (ap sort_said_at (sym (none_counted 1 ts).0) ∙ e)
said_takes (kind.Form (form.Leaf l)) ts x e = form_taken (form.Leaf l) 1 0 ts x refl refl e
said_takes (kind.Form (form.Constant c)) ts x e = form_taken (form.Constant c) 1 0 ts x refl refl e
said_takes (kind.Form (form.Extension y)) ts x e = form_taken (form.Extension y) 1 1 ts x refl refl e
said_takes (kind.Form form.Slice) ts x e = form_taken form.Slice 1 1 ts x refl refl e
said_takes (kind.Form (form.Unary op)) ts x e = form_taken (form.Unary op) 1 1 ts x refl refl e
said_takes (kind.Form (form.Binary op)) ts x e = form_taken (form.Binary op) 1 2 ts x refl refl e
said_takes (kind.Form form.Concat) ts x e = form_taken form.Concat 1 2 ts x refl refl e
said_takes (kind.Form form.Ite) ts x e = form_taken form.Ite 1 3 ts x refl refl e
said_takes (kind.Form (form.Link l)) ts x e = form_taken (form.Link l) 1 2 ts x refl refl e
said_takes (kind.Form (form.Property p)) ts x e = form_taken (form.Property p) 0 1 ts x refl refl e
said_takes (kind.Form form.Justice) ts x e = form_taken form.Justice 1 (told_by (plain_at ts)) ts x refl refl e
said_takes kind.Read ts x e = read_taken ts x e
said_takes kind.Write ts x e = write_taken ts x e

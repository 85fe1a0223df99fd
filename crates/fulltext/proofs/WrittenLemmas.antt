-- What is written stands for a model, where any text does.
use Rattle.std.proofs.Common.{◌≡◌, ℕ, ◌+◌, ◌^◌, ◌<◌, ◌≤◌, Bool, true, false, List, [], ◌∷◌, ◌++◌, length, take, drop, map, codes, decimal, refl, sym, ap, ap₂, subst, ◌∙◌, append_assoc, append-nil, length-append, arith}
use Rattle.std.specs.List.{AllByRecursion}
use Rattle.std.specs.Option.{option_to_list}
use Rattle.std.specs.Str.Parse.{digits_value}
use Rattle.std.proofs.lemmas.List.{length-map}
use Rattle.std.proofs.lemmas.List.Elements.{All-from_recursion, recursion_from_All}
use Rattle.base.specs.Lines.{IsLine, text_of_lines}
use Rattle.btor2.specs.declared.item.Body.{Body}
use Rattle.btor2.specs.declared.item.Body.TheVariants as body
use Rattle.btor2.specs.Items.{operands}
use Rattle.btor2text.specs.Digits.{IsNumber, last_digits}
use Rattle.btor2text.specs.Tokens.{tokens}
use Rattle.btor2text.specs.Reading.{Tokens}
use Rattle.btor2text.specs.Writing.{behind_spaces}
use Rattle.widetext.specs.Spelling.{WideSaysBody}
use Rattle.widetext.proofs.DigitLemmas.{value-below}
use Rattle.full.specs.Lines.{with_minuses, Says, form, array_sort, read, write, FullLine}
use Rattle.fulltext.specs.Signs.{signed, signed_behind}
use Rattle.fulltext.specs.Spelling.{operand_token, tokens_before, AreSigns, SaysLine, SpellsLine, SpellsLines, StandsForFull}
use Rattle.fulltext.specs.Writing.{long_tokens, head_tokens, tail_tokens, says_tokens, written_full, signed_long}
use Rattle.fulltext.proofs.LongLemmas.{signed_writes}
use Rattle.fulltext.proofs.PartLemmas.{IsPart, tokens_behind, line_behind, tokens_are_parts, signed_part, last_number, last_part}
use Rattle.fulltext.proofs.SignLemmas.{signed_front}
use Rattle.fulltext.proofs.SpellLemmas.{operands_stand}
use Rattle.fulltext.proofs.StandsLemmas.{spells_line}

-- ---- operands with their minuses

signed_ids : (ids : List ℕ) (ms : List Bool) → signed ms (map decimal ids) ≡ map operand_token (with_minuses ids ms)
signed_ids [] [] = refl
signed_ids [] (m ∷ ms) = refl
signed_ids (a ∷ ids) [] = ap (λ (ts : Tokens). decimal a ∷ ts) (signed_ids ids [])
signed_ids (a ∷ ids) (m ∷ ms) = ap (λ (ts : Tokens). operand_token (record { id = a; minus = m }) ∷ ts) (signed_ids ids ms)

behind_head : (head rest : Tokens) (ms : List Bool) → signed_behind (length head) ms (head ++ rest) ≡ head ++ signed ms rest
behind_head [] rest ms = refl
behind_head (t ∷ head) rest ms = ap (λ (ts : Tokens). t ∷ ts) (behind_head head rest ms)

take_head : (head rest : Tokens) → take (length head) (head ++ rest) ≡ head
take_head [] rest = refl
take_head (t ∷ head) rest = ap (λ (ts : Tokens). t ∷ ts) (take_head head rest)

drop_head : (head rest : Tokens) → drop (length head) (head ++ rest) ≡ rest
drop_head [] rest = refl
drop_head (t ∷ head) rest = drop_head head rest

few_signs : (n : ℕ) (ms : List Bool) → AreSigns n ms → length ms ≤ n
few_signs n [] h = omega arith
few_signs n (m ∷ ms) h = omega (arith, h.0)

-- what stands behind the operands of a justice line
tail_is : (b : Body) → drop (tokens_before b + length (operands b)) (long_tokens b) ≡ tail_tokens b
tail_is (body.Justice nodes) =
    let all = codes "justice" ∷ decimal (length nodes) ∷ map decimal nodes in
    let long : 2 + length nodes ≡ length all = omega (arith, length-map nodes decimal) in
    ap₂ (λ (k : ℕ) (ts : Tokens). drop k ts) long (sym (append-nil all)) ∙ drop_head all []
tail_is _ = refl

-- the tokens of a form, of those without minuses
pub form_signed : (b : Body) (ms : List Bool) → WideSaysBody b (long_tokens b) → AreSigns (length (operands b)) ms → says_tokens (form b ms) ≡ signed_behind (tokens_before b) ms (long_tokens b)
form_signed b ms says signs =
    let s = operands_stand b (long_tokens b) says in
    let ids = map decimal (operands b) in
    let few : length ms ≤ length ids = omega (arith, few_signs (length (operands b)) ms signs, length-map (operands b) decimal) in
    let head : head_tokens b ≡ s.head = ap₂ (λ (k : ℕ) (ts : Tokens). take k ts) (sym s.count) s.parts ∙ take_head s.head (ids ++ s.tail) in
    let front : tokens_before b + length (operands b) ≡ length (s.head ++ ids) = omega (arith, s.count, length-append s.head ids, length-map (operands b) decimal) in
    let tail : tail_tokens b ≡ s.tail = sym (tail_is b) ∙ (ap₂ (λ (k : ℕ) (ts : Tokens). drop k ts) front (s.parts ∙ sym (append_assoc s.head ids s.tail)) ∙ drop_head (s.head ++ ids) s.tail) in
    let signed_all : signed_behind (tokens_before b) ms (long_tokens b) ≡ s.head ++ (signed ms ids ++ s.tail) = ap₂ (λ (k : ℕ) (ts : Tokens). signed_behind k ms ts) (sym s.count) s.parts ∙ (behind_head s.head (ids ++ s.tail) ms ∙ ap (λ (ts : Tokens). s.head ++ ts) (signed_front ms ids s.tail few)) in
    ap₂ (λ (h t : Tokens). h ++ (map operand_token (with_minuses (operands b) ms) ++ t)) head tail
    ∙ (ap (λ (ts : Tokens). s.head ++ (ts ++ s.tail)) (sym (signed_ids (operands b) ms)) ∙ sym signed_all)

-- ---- the tokens that are written, of any that say the same

record Again (b : Body) (ms : List Bool) : Type 0 where
  says : WideSaysBody b (long_tokens b)
  parts : AllByRecursion IsPart (says_tokens (form b ms))

-- no operands have no minuses
no_signs : (ms : List Bool) → AreSigns 0 ms → ms ≡ []
no_signs [] h = refl
no_signs (m ∷ ms) h = absurd (omega (arith, h.0))

-- a constant of other digits
constant_parts : (word sort digits other : List ℕ) (ms : List Bool) → ms ≡ [] → AllByRecursion IsPart (signed_behind 2 ms (word ∷ sort ∷ digits ∷ [])) → IsPart other → AllByRecursion IsPart (word ∷ sort ∷ other ∷ [])
constant_parts word sort digits other [] e each own = (each.0, (each.1.0, (own, tt)))
constant_parts word sort digits other (m ∷ ms) e each own = absurd (cc)

some_digits : (token : List ℕ) (n : ℕ) → IsPart token → length token ≡ n → 1 ≤ n
some_digits [] n part e = absurd (no_word part.word.begins)
  where
    no_word : false ≡ true → ⊥
    no_word e = cc
some_digits (b ∷ bs) n part e = omega (arith, e)

third : (word sort digits : List ℕ) (ms : List Bool) → ms ≡ [] → AllByRecursion IsPart (signed_behind 2 ms (word ∷ sort ∷ digits ∷ [])) → IsPart digits
third word sort digits [] e each = each.1.1.0
third word sort digits (m ∷ ms) e each = absurd (cc)

module _ (radix count value : ℕ) (least : 1 ≤ radix) (most : radix ≤ 16) (word sort digits : List ℕ) (ms : List Bool) (none : ms ≡ []) (is : IsNumber radix count value digits) (each : AllByRecursion IsPart (signed_behind 2 ms (word ∷ sort ∷ digits ∷ []))) where
  digits_number : IsNumber radix count value (last_digits radix count value)
  digits_number = last_number radix least most count value (subst (λ (v : ℕ). v < radix ^ count) is.says (subst (λ (n : ℕ). digits_value radix digits < radix ^ n) is.many (value-below radix digits is.each)))

  digits_parts : AllByRecursion IsPart (word ∷ sort ∷ last_digits radix count value ∷ [])
  digits_parts = constant_parts word sort digits (last_digits radix count value) ms none each (last_part radix least most count value (some_digits digits count (third word sort digits ms none each) is.many))

again : (b : Body) (ms : List Bool) (plain : Tokens) → WideSaysBody b plain → AreSigns (length (operands b)) ms → AllByRecursion IsPart (signed_behind (tokens_before b) ms plain) → Again b ms
again (body.Const s d v) ms plain says signs each =
    let none = no_signs ms signs in
    let all = subst (λ (ts : Tokens). AllByRecursion IsPart (signed_behind 2 ms ts)) says.1 each in
    record {
      says = (last_digits 2 d v, refl, digits_number 2 d v (omega arith) (omega arith) (codes "const") (decimal s) says.0 ms none says.2 all);
      parts = digits_parts 2 d v (omega arith) (omega arith) (codes "const") (decimal s) says.0 ms none says.2 all;
    }
again (body.Consth s d v) ms plain says signs each =
    let none = no_signs ms signs in
    let all = subst (λ (ts : Tokens). AllByRecursion IsPart (signed_behind 2 ms ts)) says.1 each in
    record {
      says = (last_digits 16 d v, refl, digits_number 16 d v (omega arith) (omega arith) (codes "consth") (decimal s) says.0 ms none says.2 all);
      parts = digits_parts 16 d v (omega arith) (omega arith) (codes "consth") (decimal s) says.0 ms none says.2 all;
    }
again (body.Constd s v) ms plain says signs each =
    let none = no_signs ms signs in
    let all = subst (λ (ts : Tokens). AllByRecursion IsPart (signed_behind 2 ms ts)) says.1 each in
    record {
      says = (signed_long v, refl, signed_writes v);
      parts = constant_parts (codes "constd") (decimal s) says.0 (signed_long v) ms none all (signed_part v);
    }
again (body.Justice nodes) ms plain says signs each =
    let own : WideSaysBody (body.Justice nodes) (long_tokens (body.Justice nodes)) = (refl, says.1) in
    record { says = own; parts = subst (AllByRecursion IsPart) (ap (signed_behind 2 ms) says.0 ∙ sym (form_signed (body.Justice nodes) ms own signs)) each }
again b ms plain says signs each =
    record { says = refl; parts = subst (AllByRecursion IsPart) (ap (signed_behind (tokens_before b) ms) says ∙ sym (form_signed b ms refl signs)) each }

record SaysAgain (b : Says) : Type 0 where
  says : SaysLine b (says_tokens b)
  parts : AllByRecursion IsPart (says_tokens b)

says_again : (b : Says) (ts : Tokens) → SaysLine b ts → AllByRecursion IsPart ts → SaysAgain b
says_again (form b ms) ts says each =
    let a = again b ms says.0 says.2 says.3 (subst (AllByRecursion IsPart) says.1 each) in
    record { says = (long_tokens b, form_signed b ms a.says says.3, a.says, says.3); parts = a.parts }
says_again (array_sort index element) ts says each = record { says = refl; parts = subst (AllByRecursion IsPart) says each }
says_again (read s array index) ts says each = record { says = refl; parts = subst (AllByRecursion IsPart) says each }
says_again (write s array index word) ts says each = record { says = refl; parts = subst (AllByRecursion IsPart) says each }

-- ---- lines

parts_of : (xs ys : Tokens) → AllByRecursion IsPart (xs ++ ys) → AllByRecursion IsPart xs × AllByRecursion IsPart ys
parts_of [] ys h = (tt, h)
parts_of (x ∷ xs) ys h = let rest = parts_of xs ys h.1 in ((h.0, rest.0), rest.1)

parts_with : (xs ys : Tokens) → AllByRecursion IsPart xs → AllByRecursion IsPart ys → AllByRecursion IsPart (xs ++ ys)
parts_with [] ys h k = k
parts_with (x ∷ xs) ys h k = (h.0, parts_with xs ys h.1 k)

-- the bytes of a line before byte 10
abbrev line_text : FullLine → List ℕ
line_text x = decimal x.id ++ behind_spaces (says_tokens x.says ++ option_to_list x.symbol)

record LineAgain (x : FullLine) : Type 0 where
  spells : SpellsLine (tokens (line_text x)) x
  line : IsLine (line_text x)

line_again : (line : List ℕ) (x : FullLine) → IsLine line → SpellsLine (tokens line) x → LineAgain x
line_again line x whole s =
    let all : AllByRecursion IsPart (decimal x.id ∷ s.form ++ option_to_list x.symbol) = subst (AllByRecursion IsPart) s.tokens (tokens_are_parts line whole) in
    let apart = parts_of s.form (option_to_list x.symbol) all.1 in
    let says = says_again x.says s.form s.says apart.0 in
    let words = parts_with (says_tokens x.says) (option_to_list x.symbol) says.parts apart.1 in
    record {
      spells = record { form = says_tokens x.says; tokens = tokens_behind (decimal x.id) (says_tokens x.says ++ option_to_list x.symbol) all.0 words; says = says.says; symbol = s.symbol };
      line = line_behind (decimal x.id) (says_tokens x.says ++ option_to_list x.symbol) all.0 words;
    }

-- ---- a text

written_text : (items : List FullLine) → written_full items ≡ text_of_lines (map line_text items)
written_text [] = refl
written_text (x ∷ xs) = ap₂ (λ (a b : List ℕ). a ++ b) (sym (append_assoc (decimal x.id) (behind_spaces (says_tokens x.says ++ option_to_list x.symbol)) (10 ∷ []))) (written_text xs)

lines_again : (lines : List (List ℕ)) (items : List FullLine) → AllByRecursion IsLine lines → SpellsLines (map tokens lines) items → AllByRecursion LineAgain items
lines_again [] [] each s = tt
lines_again [] (x ∷ xs) each s = absurd s
lines_again (line ∷ lines) items each s = by (tokens line) refl items s (λ xs others. lines_again lines xs each.1 others)
  where
    by : (ts : Tokens) → tokens line ≡ ts → (items : List FullLine) → SpellsLines (ts ∷ map tokens lines) items → ((xs : List FullLine) → SpellsLines (map tokens lines) xs → AllByRecursion LineAgain xs) → AllByRecursion LineAgain items
    by [] e xs s rest = rest xs s
    by (t ∷ ts) e [] s rest = absurd s
    by (t ∷ ts) e (x ∷ xs) s rest = (line_again line x each.0 (subst (λ (l : Tokens). SpellsLine l x) (sym e) s.0), rest xs s.1)

all_spelled : (items : List FullLine) → AllByRecursion LineAgain items → SpellsLines (map tokens (map line_text items)) items
all_spelled [] h = tt
all_spelled (x ∷ xs) h = spells_line (tokens (line_text x)) (map tokens (map line_text xs)) x xs h.0.spells (all_spelled xs h.1)

all_lines : (items : List FullLine) → AllByRecursion LineAgain items → AllByRecursion IsLine (map line_text items)
all_lines [] h = tt
all_lines (x ∷ xs) h = (h.0.line, all_lines xs h.1)

pub written_stands : (text : List ℕ) (items : List FullLine) → StandsForFull text items → StandsForFull (written_full items) items
written_stands text items s =
    let again = lines_again s.lines items (recursion_from_All IsLine s.lines s.each) s.spelled in
    record {
      lines = map line_text items;
      whole = written_text items;
      each = All-from_recursion IsLine (map line_text items) (all_lines items again);
      spelled = all_spelled items again;
      accepted = s.accepted;
    }

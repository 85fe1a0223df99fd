use Rattle.std.proofs.Common.{◌≡◌, ℕ, zero, suc, ◌<◌, true, List, [], ◌∷◌, ◌++◌, Option, None, Some, Ok, codes, get_or, nat_eq, refl, sym, ap, subst, ◌∙◌, arith}
use Rattle.std.specs.List.{list_any}
use Rattle.base.specs.Decimals.{number_of, capped_value, is_decimal}
use Rattle.aiger.specs.declared.circuit.Reset.TheVariants.{Zero}
use Rattle.aigerlists.specs.Loose.{Loose, empty_loose}
use Rattle.aigerlists.specs.Renumbering.{IsNumberingOf}
use Rattle.aigertext.specs.declared.forms.Form.TheVariants.{Ascii, Binary}
use Rattle.aigertext.specs.declared.reading.counts.Counts.{Counts}
use Rattle.aigertext.specs.Worked.{in_turn}
use Rattle.aigertext.specs.Reading.{line_at, header_of, next_fields, properties_at, header_fields, header_form, fitting, counts_of}
use Rattle.aigertext.specs.AsciiReading.{lists_of_file, input_of, latch_fields, gate_fields}
use Rattle.aigertext.specs.Numbering.{IsNumberingOfLists, IsNumberingOfBody, IsNumberingOfText}
use Rattle.aigertext.proofs.BackLemmas.{ok_same}
use Rattle.aigertext.proofs.laws.worked_numberings.Goals as goal

abbrev counts : Counts
counts = record { variables = 5; inputs = 1; latches = 1; outputs = 0; gates = 1; bads = 0; constraints = 0; justice = 0; fair = 0 }

abbrev behind : List ℕ
behind = codes "10\n6 4\n4 10 7\n"

abbrev lists : Loose
lists = record empty_loose { inputs = 10 ∷ []; latches = record { current = 6; next = 4; reset = Zero } ∷ []; gates = record { lhs = 4; rhs0 = 10; rhs1 = 7 } ∷ [] }

header : line_at header_of (codes "aag 5 1 1 0 1\n10\n6 4\n4 10 7\n") ≡ Ok ((Ascii, counts), behind)
unfolding lists_of_file input_of latch_fields gate_fields next_fields properties_at header_fields header_form fitting counts_of number_of capped_value is_decimal
header = refl

read : lists_of_file counts behind ≡ Ok (lists, [])
unfolding lists_of_file input_of latch_fields gate_fields next_fields properties_at header_fields header_form fitting counts_of number_of capped_value is_decimal
read = refl

below_one : (P : ℕ → Type 0) → P 0 → (i : ℕ) → i < 1 → P i
below_one P p zero h = p
below_one P p (suc i) h = absurd (omega arith)

pub returns-clause-numbers : goal.returns-clause-numbers
returns-clause-numbers c = record {
  form = Ascii;
  counts = counts;
  behind = behind;
  header = header;
  body = record {
    lists = lists;
    names = [];
    read = read;
    numbers = record { order = 0 ∷ []; is_order = record { in_turn = (record { ready = refl; first = λ i h. absurd (omega (arith, h)) }, tt); all = below_one (λ j. list_any (nat_eq j) (0 ∷ []) ≡ true) refl }; circuit = refl; numbers = refl };
  };
}

-- numbers of the text are numbers of its lists
of_lists : (n : Option (List ℕ)) → IsNumberingOfText (codes "aag 5 1 1 0 1\n10\n6 4\n4 10 7\n") in_turn n → IsNumberingOf lists in_turn n
of_lists n t =
    let body : IsNumberingOfLists counts behind in_turn n = subst (λ x. IsNumberingOfBody x.0.0 x.0.1 x.1 in_turn n) (ok_same ((t.form, t.counts), t.behind) ((Ascii, counts), behind) (sym t.header ∙ header)) t.body in
    subst (λ x. IsNumberingOf x.0 in_turn n) (ok_same (body.lists, body.names) (lists, []) (sym body.read ∙ read)) body.numbers

first_of : (xs ys : List ℕ) → xs ≡ ys → get_or xs 0 0 ≡ get_or ys 0 0
first_of xs ys e = ap (λ zs. get_or zs 0 0) e

pub returns-clause-own : goal.returns-clause-own
returns-clause-own c = λ t. let e : 5 ≡ 1 = first_of _ _ (of_lists None t).numbers in omega (arith, e)

pub returns-clause-exchanged : goal.returns-clause-exchanged
returns-clause-exchanged c = λ t. let e : 3 ≡ 5 = first_of _ _ (of_lists (Some (3 ∷ 5 ∷ 2 ∷ [])) t).numbers in omega (arith, e)

pub returns-clause-binary : goal.returns-clause-binary
unfolding lists_of_file input_of latch_fields gate_fields next_fields properties_at header_fields header_form fitting counts_of number_of capped_value is_decimal
returns-clause-binary c = record {
  form = Binary;
  counts = record { variables = 3; inputs = 2; latches = 0; outputs = 1; gates = 1; bads = 0; constraints = 0; justice = 0; fair = 0 };
  behind = codes "6\n" ++ 2 ∷ 2 ∷ [];
  header = refl;
  body = refl;
}

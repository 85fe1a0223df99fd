use Rattle.std.proofs.Common.{ℕ, ◌≤◌, [], ◌∷◌, All, codes, nat_eq, inl, refl, arith}
use Rattle.std.specs.List.Sorted.{IsStrictlySortedBy}
use Rattle.std.specs.Fmt.{digits}
use Rattle.std.proofs.lemmas.List.Elements.{All-nil, All-cons}
use Rattle.std.proofs.lemmas.List.Sums.{count_by-le-length}
use Rattle.base.specs.Decimals.{is_decimal, capped_value, number_of}
use Rattle.aiger.specs.declared.circuit.Latch.{Latch}
use Rattle.aiger.specs.Circuit.{IsNamed}
use Rattle.aigerlists.specs.Loose.{Loose, IsLoose, IsSmall, IsDefining, sections_of, empty_loose}
use Rattle.aigertext.specs.declared.fault.Why.TheVariants as why
use Rattle.aigertext.specs.Worked.{negated_input}
use Rattle.aigertext.specs.Reading.{header_fields, header_form, fitting, counts_of}
use Rattle.aigertext.specs.AsciiReading.{AnswersText}
use Rattle.aigertext.proofs.StandsLemmas.{not_stopped}
use Rattle.aigertext.proofs.laws.worked_ascii_spellings.Goals as goal

abbrev lists : Loose
lists = record empty_loose { inputs = 8 ∷ []; outputs = 9 ∷ [] }

-- one number for which something holds
alone : (P : ℕ → Type 0) (n : ℕ) → P n → All P (n ∷ [])
alone P n p = All-cons P n [] p (All-nil P)

valid : IsLoose lists
unfolding IsStrictlySortedBy
valid =
    record {
      definitions = record { inputs = alone IsDefining 8 (record { even = refl; least = omega arith }); latches = All-nil (λ line. IsDefining line.current); gates = All-nil (λ line. IsDefining line.lhs); once = λ v. count_by-le-length (nat_eq v) (4 ∷ []) };
      small = record { inputs = alone IsSmall 8 (omega arith); latches = All-nil (λ line. IsSmall line.current); gates = All-nil (λ line. IsSmall line.lhs); first_operands = All-nil (λ line. IsSmall line.rhs0); second_operands = All-nil (λ line. IsSmall line.rhs1); sections = record { nexts = All-nil (λ (x : Latch). IsSmall x.next); outputs = alone IsSmall 9 (omega arith); bads = All-nil IsSmall; constraints = All-nil IsSmall; justice = All-nil (All IsSmall); fair = All-nil IsSmall } };
      few = record { defined = omega arith; sections = record { outputs = omega arith; bads = omega arith; constraints = omega arith; justice = omega arith; justice_literals = omega arith; fair = omega arith } };
      names = record { sorted = tt; named = All-nil (IsNamed (sections_of lists)) };
    }

pub returns-clause-any_number : goal.returns-clause-any_number
unfolding digits
returns-clause-any_number c =
    record {
      lists = lists;
      valid = valid;
      unnamed = refl;
      greatest = 9;
      small = omega arith;
      enough = omega arith;
      literals = record { inputs = alone (λ n. n ≤ 19) 8 (omega arith); latches = All-nil (λ line. (line.current ≤ 19) × (line.next ≤ 19)); outputs = alone (λ n. n ≤ 19) 9 (omega arith); bads = All-nil (λ n. n ≤ 19); constraints = All-nil (λ n. n ≤ 19); justice = All-nil (λ n. n ≤ 19); fair = All-nil (λ n. n ≤ 19); gates = All-nil (λ line. (line.lhs ≤ 19) × (line.rhs0 ≤ 19) × (line.rhs1 ≤ 19)) };
      header = codes "aag 9 1 0 1 0\n";
      is_header = record { kept = []; dropped = 4; counts = refl; spelled = refl };
      inputs = codes "8\n";
      are_inputs = (codes "8\n", ([], (refl, refl, refl)));
      latches = [];
      are_latches = refl;
      gates = [];
      are_gates = refl;
      end = [];
      is_end = record { given = []; names = refl; comment = []; is_comment = inl refl; spelled = refl };
      is_renumbered = record { known = refl; order = []; is_order = record { in_turn = tt; all = λ j h. absurd (omega (arith, h)) }; circuit = refl };
      whole = refl;
    }

pub returns-clause-too_many : goal.returns-clause-too_many
unfolding AnswersText header_fields header_form fitting counts_of number_of capped_value is_decimal
returns-clause-too_many c = λ t. not_stopped negated_input (record { left = 18; why = why.CountsDisagree }) (c.one_ascii_circuit.ensures.read (codes "aag 0 1 0 1 0\n2\n3\n") negated_input t)

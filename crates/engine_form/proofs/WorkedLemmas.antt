-- Small circuits and their engine forms, worked out by hand.
use Rattle.std.proofs.Common.{◌≡◌, ℕ, ◌≤◌, All, subst, Bool, true, false, not, ◌&&◌, nat_lt, List, [], ◌∷◌, Some, None, if◌then◌else◌, refl, sym, ap, ap₂, ◌∙◌, arith, rules}
use Rattle.std.specs.Map.{keys_of}
use Rattle.std.specs.List.Sorted.{IsStrictlySortedBy}
use Rattle.std.proofs.lemmas.List.Elements.{All-nil}
use Rattle.base.specs.Literal.{Valuation}
use Rattle.aiger.specs.Limits.{greatest_count}
use Rattle.aiger.specs.Net.{variables, Satisfies, AreOrdered}
use Rattle.aiger.specs.Circuit.{Circuit, IsCircuit, HasFew, HasDefined, IsNamed, NameMap, place_cmp, net}
use Rattle.engine_form.specs.EngineForm.{IsEngineFormOf}
use Rattle.engine_form.specs.Reads.{FormMade}
use Rattle.engine_form.specs.Worked.{negated_toggler, toggler_form, stays_negated, keeper, keeper_form, begins_with_0, guarded, guarded_form, guarded_alone, either, second_form}
use Rattle.engine_form.proofs.AssemblyLemmas.{assembled}

-- a circuit without names, from the rest of what it keeps
pub plain_circuit : (c : Circuit) → variables (net c) ≤ greatest_count → HasFew c → AreOrdered (net c) → HasDefined (net c) c → c.names ≡ [] → IsCircuit c
unfolding IsStrictlySortedBy
plain_circuit c small few ordered defined none =
    record {
      small = small;
      few = few;
      ordered = ordered;
      defined = defined;
      names = record { sorted = subst (λ (m : NameMap). IsStrictlySortedBy place_cmp (keys_of m)) (sym none) tt; named = subst (All (IsNamed c)) (sym none) (All-nil (IsNamed c)) };
    }

-- the variables below one are 1, and no other
abbrev below : ℕ → Valuation
below k j = nat_lt j k

and_true : (b : Bool) → b ≡ (b && true)
and_true true = refl
and_true false = refl

-- what two gates that choose, and a third, make
mux_bit : (a b c : Bool) → not (not (not a && c) && not (a && b)) ≡ (if a then b else c)
mux_bit true true c = refl
mux_bit true false c = refl
mux_bit false b true = refl
mux_bit false b false = refl

-- ---- forms

toggler_made : FormMade negated_toggler None (net toggler_form) (0 ∷ 5 ∷ []) 1 (5 ∷ [])
toggler_made =
    record {
      inputs = refl;
      latches = refl;
      few_gates = omega arith;
      many = refl;
      table_defined = search rules;
      met_defined = omega arith;
      bads_defined = search rules;
      few_bads = omega arith;
      zero_is = refl;
      input_bits = λ w. refl;
      latch_bits = λ w s. refl;
      gates = λ w s. tt;
      met_is = λ w s. refl;
      bads_are = λ w s. ap (λ (b : Bool). b ∷ []) (and_true (not (w 2)));
    }

pub toggler_formed : IsCircuit negated_toggler → IsCircuit toggler_form → IsEngineFormOf negated_toggler None toggler_form
toggler_formed c d = assembled negated_toggler None toggler_form (0 ∷ 5 ∷ []) 1 c (record { no_justice = refl; no_fair = refl; has_bad = refl }) d toggler_made refl refl

keeper_made : FormMade keeper None (net keeper_form) (0 ∷ 13 ∷ []) 1 (13 ∷ [])
keeper_made =
    record {
      inputs = refl;
      latches = refl;
      few_gates = omega arith;
      many = refl;
      table_defined = search rules;
      met_defined = omega arith;
      bads_defined = search rules;
      few_bads = omega arith;
      zero_is = refl;
      input_bits = λ w. refl;
      latch_bits = λ w s. ap (λ (b : Bool). b ∷ []) (chooses w s);
      gates = λ w s. tt;
      met_is = λ w s. refl;
      bads_are = λ w s. ap (λ (b : Bool). b ∷ []) (and_true (not (w 6)));
    }
  where
    chooses : (w : Valuation) → Satisfies (net keeper_form) w → not (w 6) ≡ (if w 3 then w 2 else w 1)
    chooses w s = ap not (s.1.1.0 ∙ ap₂ (λ (a b : Bool). not b && not a) s.0 s.1.0) ∙ mux_bit (w 3) (w 2) (w 1)

pub keeper_formed : IsCircuit keeper → IsCircuit keeper_form → IsEngineFormOf keeper None keeper_form
keeper_formed c d = assembled keeper None keeper_form (0 ∷ 13 ∷ []) 1 c (record { no_justice = refl; no_fair = refl; has_bad = refl }) d keeper_made refl refl

guarded_made : FormMade guarded None (net guarded_form) (0 ∷ 2 ∷ []) 6 (6 ∷ [])
guarded_made =
    record {
      inputs = refl;
      latches = refl;
      few_gates = omega arith;
      many = refl;
      table_defined = search rules;
      met_defined = omega arith;
      bads_defined = search rules;
      few_bads = omega arith;
      zero_is = refl;
      input_bits = λ w. refl;
      latch_bits = λ w s. refl;
      gates = λ w s. tt;
      met_is = λ w s. s.0 ∙ ap (λ (b : Bool). not (w 2) && b) (and_true (w 1));
      bads_are = λ w s. refl;
    }

pub guarded_formed : IsCircuit guarded → IsCircuit guarded_form → IsEngineFormOf guarded None guarded_form
guarded_formed c d = assembled guarded None guarded_form (0 ∷ 2 ∷ []) 6 c (record { no_justice = refl; no_fair = refl; has_bad = refl }) d guarded_made refl refl

second_made : FormMade either (Some 1) (net second_form) (0 ∷ 2 ∷ []) 1 (3 ∷ [])
second_made =
    record {
      inputs = refl;
      latches = refl;
      few_gates = omega arith;
      many = refl;
      table_defined = search rules;
      met_defined = omega arith;
      bads_defined = search rules;
      few_bads = omega arith;
      zero_is = refl;
      input_bits = λ w. refl;
      latch_bits = λ w s. refl;
      gates = λ w s. tt;
      met_is = λ w s. refl;
      bads_are = λ w s. ap (λ (b : Bool). b ∷ []) (and_true (not (w 1)));
    }

pub second_formed : IsCircuit either → IsCircuit second_form → IsEngineFormOf either (Some 1) second_form
second_formed c d = assembled either (Some 1) second_form (0 ∷ 2 ∷ []) 1 c (record { no_justice = refl; no_fair = refl; has_bad = refl }) d second_made refl refl

-- ---- circuits that are no forms, since the two traces part

differ : (let l : List Bool = false ∷ [] in l) ≡ true ∷ [] → ⊥
differ e = absurd (cc)

pub stays_negated_none : IsEngineFormOf negated_toggler None stays_negated → ⊥
stays_negated_none f =
    let given : List (List Bool) = (false ∷ []) ∷ (false ∷ []) ∷ [] in
    let h = f.frames given (below 2 ∷ below 0 ∷ []) (below 0 ∷ below 0 ∷ []) (record { gates = tt; inputs = refl; latches = refl }, (record { gates = tt; inputs = refl; latches = refl }, tt))
    (record { gates = tt; inputs = refl; latches = refl }, (record { gates = tt; inputs = refl; latches = refl }, tt)) in
    differ h.1.0.latches

pub begins_with_0_none : IsEngineFormOf keeper None begins_with_0 → ⊥
begins_with_0_none f =
    let h = f.frames ((true ∷ []) ∷ []) (below 2 ∷ []) (below 2 ∷ []) (record { gates = tt; inputs = refl; latches = refl }, tt) (record { gates = tt; inputs = refl; latches = refl }, tt) in
    differ h.0.bads

pub guarded_alone_none : IsEngineFormOf guarded None guarded_alone → ⊥
guarded_alone_none f =
    let h = f.frames ((false ∷ []) ∷ (true ∷ []) ∷ []) (below 0 ∷ below 2 ∷ []) (below 0 ∷ below 3 ∷ []) (record { gates = tt; inputs = refl; latches = refl }, (record { gates = tt; inputs = refl; latches = refl }, tt))
    (record { gates = (refl, tt); inputs = refl; latches = refl }, (record { gates = (refl, tt); inputs = refl; latches = refl }, tt)) in
    differ (sym h.1.0.bads)

pub first_none : IsEngineFormOf either (Some 0) second_form → ⊥
first_none f =
    let h = f.frames ((true ∷ []) ∷ []) (below 2 ∷ []) (below 2 ∷ []) (record { gates = tt; inputs = refl; latches = refl }, tt) (record { gates = tt; inputs = refl; latches = refl }, tt) in
    differ h.0.bads

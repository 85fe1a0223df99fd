-- The circuits of small models, worked out by hand.
use Rattle.std.proofs.Common.{◌≡◌, ℕ, ◌-◌, ◌/◌, ◌%◌, ◌<◌, rules, Bool, not, ◌==◌, List, [], ◌∷◌, refl, sym, ap, ap₂, ◌∙◌, arith, ◌≤◌, length, map}
use Rattle.std.specs.Fmt.{digits}
use Rattle.std.proofs.lemmas.Bool.Decides.{nat_tests}
use Rattle.std.proofs.lemmas.List.Elements.{All-nil, All-cons}
use Rattle.base.specs.Word.{bits}
use Rattle.btor2.specs.declared.item.Item.{Item}
use Rattle.btor2.specs.Check.{IsWellFormed}
use Rattle.btor2.specs.Trace.{Frame}
use Rattle.btor2.specs.Worked.{toggler_model}
use Rattle.btor2.proofs.TraceLemmas.{next_state_fits}
use Rattle.base.specs.Literal.{Valuation}
use Rattle.aiger.specs.declared.circuit.Reset.{Reset}
use Rattle.aiger.specs.declared.circuit.Section.TheVariants as section
use Rattle.aiger.specs.Circuit.{Circuit, IsCircuit, IsName, Names, net, section_names}
use Rattle.aiger.specs.Worked.{toggler as toggler_circuit}
use Rattle.blast.specs.Worked.{named_follower, follower_circuit, free_alone, input_circuit, named_inverter, inverter_circuit, named_keeper, keeper_circuit}
use Rattle.blast.specs.Cost.{cost, given_width}
use Rattle.blast.specs.Leaves.{input_names, state_names, state_resets, output_names, bad_names, constraint_names}
use Rattle.blast.specs.Refusal.{IsOfProfile}
use Rattle.blast.specs.Lowering.{Lowers}
use Rattle.blast.specs.Reads.{Together}
use Rattle.blast.proofs.LowerAssembly.{nexts_by_id}
use Rattle.blast.proofs.LowerLemmas.{Observes, show_same}

-- a bit and its negation, as words and as bits
bit_is : (x : ℕ) → x < 2 → (x % 2 == 1) ≡ (x == 1)
bit_is x h = grind (arith, nat_tests)

bit_negated : (x : ℕ) → x < 2 → not (x % 2 == 1) ≡ ((1 - x) % 2 == 1)
bit_negated x h = grind (arith, nat_tests)

head_same : {A : Type 0} (x y : A) → (let l : List A = x ∷ [] in l) ≡ y ∷ [] → x ≡ y
head_same x y e = cc

-- what a circuit has beside its gates, and what it has as a lowering of a model: inputs, names and resets, no justice and no fairness
abbrev Said : Type 0
Said = ℕ × Names × Names × List Reset × Names × Names × Names × List (List ℕ) × List ℕ

abbrev said_by : Circuit → Said
said_by c =
    (c.inputs, section_names section.Input c, section_names section.Latch c, map (λ latch. latch.reset) c.latches, section_names section.Output c, section_names section.Bad c, section_names section.Constraint c, c.justice, c.fair)

abbrev said_of : List Item → Said
said_of items = (given_width items, input_names items, state_names items, state_resets items, output_names items, bad_names items, constraint_names items, [], [])

lowers_as_said : (items : List Item) (c : Circuit) → IsOfProfile items → said_by c ≡ said_of items → length c.gates ≤ cost items → Observes items c → IsWellFormed items → IsCircuit c → Lowers items c
lowers_as_said items c profile same few observes well circuit =
    record {
      well_formed = well;
      of_profile = profile;
      circuit = circuit;
      inputs = ap (λ (s : Said). s.0) same;
      input_names = ap (λ (s : Said). s.1) same;
      latch_names = ap (λ (s : Said). s.2) same;
      resets = ap (λ (s : Said). s.3) same;
      output_names = ap (λ (s : Said). s.4) same;
      bad_names = ap (λ (s : Said). s.5) same;
      constraint_names = ap (λ (s : Said). s.6) same;
      no_justice = ap (λ (s : Said). s.7) same;
      no_fair = ap (λ (s : Said). s.8) same;
      few_gates = few;
      frames = λ state inputs initial in_fit fs t vs u. show_same items c observes state inputs fs vs initial.fits in_fit t u;
    }

-- The model that toggles a bit.

module _ (state input f : Frame) (v : Valuation) (t : Together toggler_model (net toggler_circuit) state input f v) where
  latch : v 1 ≡ (state 3 % 2 == 1)
  latch = head_same (v 1) (state 3 % 2 == 1) t.latches

  small : state 3 < 2
  small = t.state_fits.1.1.0 refl

  next : not (v 1) ≡ (f 5 % 2 == 1)
  next = ap not latch ∙ bit_negated (state 3) small ∙ ap (λ (n : ℕ). n % 2 == 1) (sym (t.frame.1.1.1.1.0 ∙ ap (λ (n : ℕ). 1 - n) t.frame.1.1.0))

  bad : v 1 ≡ (f 3 == 1)
  bad = latch ∙ bit_is (state 3) small ∙ ap (λ (n : ℕ). n == 1) (sym t.frame.1.1.0)

observes : IsWellFormed toggler_model → Observes toggler_model toggler_circuit
observes well =
    record {
      latches = record { defined = search rules; resets = refl; nexts = λ state input f v t. ap (λ (b : Bool). b ∷ []) (next state input f v t) };
      outputs = record { values = λ state input f v t. refl };
      bads = record { values = λ state input f v t. ap (λ (b : Bool). b ∷ []) (bad state input f v t) };
      constraints = record { values = λ state input f v t. refl };
      stays = λ state input f fits in_fits frame. next_state_fits toggler_model state input f well fits in_fits frame (nexts_by_id toggler_model refl);
    }

pub toggler_lowered : IsWellFormed toggler_model → IsCircuit toggler_circuit → Lowers toggler_model toggler_circuit
toggler_lowered well circuit = lowers_as_said toggler_model toggler_circuit refl refl (omega arith) (observes well) well circuit

-- The model in which a state follows a free state.

second_same : {A : Type 0} (a b x y : A) → (let l : List A = a ∷ b ∷ [] in l) ≡ x ∷ y ∷ [] → b ≡ y
second_same a b x y e = cc

module _ (state input f : Frame) (v : Valuation) (t : Together named_follower (net follower_circuit) state input f v) where
  follower_next : v 2 ≡ (f 2 % 2 == 1)
  follower_next = second_same (v 1) (v 2) (input 4 % 2 == 1) (input 2 % 2 == 1) t.inputs ∙ ap (λ (n : ℕ). n % 2 == 1) (sym t.frame.1.0)

  follower_small : state 3 < 2
  follower_small = t.state_fits.1.1.0 refl

  follower_bad : v 3 ≡ (f 3 == 1)
  follower_bad = head_same (v 3) (state 3 % 2 == 1) t.latches ∙ bit_is (state 3) follower_small ∙ ap (λ (n : ℕ). n == 1) (sym t.frame.1.1.0)

follower_observes : IsWellFormed named_follower → Observes named_follower follower_circuit
follower_observes well =
    record {
      latches = record { defined = search rules; resets = refl; nexts = λ state input f v t. ap (λ (b : Bool). b ∷ []) (follower_next state input f v t) };
      outputs = record { values = λ state input f v t. refl };
      bads = record { values = λ state input f v t. ap (λ (b : Bool). b ∷ []) (follower_bad state input f v t) };
      constraints = record { values = λ state input f v t. refl };
      stays = λ state input f fits in_fits frame. next_state_fits named_follower state input f well fits in_fits frame (nexts_by_id named_follower refl);
    }

pub follower_lowered : IsWellFormed named_follower → IsCircuit follower_circuit → Lowers named_follower follower_circuit
unfolding digits
follower_lowered well circuit = lowers_as_said named_follower follower_circuit refl refl (omega arith) (follower_observes well) well circuit

-- The model of a free state alone.

free_alone_observes : IsWellFormed free_alone → Observes free_alone input_circuit
free_alone_observes well =
    record {
      latches = record { defined = search rules; resets = refl; nexts = λ state input f v t. refl };
      outputs = record { values = λ state input f v t. refl };
      bads = record { values = λ state input f v t. refl };
      constraints = record { values = λ state input f v t. refl };
      stays = λ state input f fits in_fits frame. next_state_fits free_alone state input f well fits in_fits frame (nexts_by_id free_alone refl);
    }

pub free_alone_lowered : IsWellFormed free_alone → IsCircuit input_circuit → Lowers free_alone input_circuit
free_alone_lowered well circuit = lowers_as_said free_alone input_circuit refl refl (omega arith) (free_alone_observes well) well circuit

-- The model that shows two bits negated.

low_negated : (x : ℕ) → x < 4 → not (x % 2 == 1) ≡ ((3 - x) % 2 == 1)
low_negated x h = grind (arith, nat_tests)

high_negated : (x : ℕ) → x < 4 → not (x / 2 % 2 == 1) ≡ ((3 - x) / 2 % 2 == 1)
high_negated x h = grind (arith, nat_tests)

pair_same : {A : Type 0} (a b x y : A) → (let l : List A = a ∷ b ∷ [] in l) ≡ x ∷ y ∷ [] → a ≡ x
pair_same a b x y e = cc

module _ (state input f : Frame) (v : Valuation) (t : Together named_inverter (net inverter_circuit) state input f v) where
  inverted : f 3 ≡ 3 - input 2
  inverted = t.frame.1.1.0 ∙ ap (λ (n : ℕ). 3 - n) t.frame.1.0

  inverter_small : input 2 < 4
  inverter_small = t.input_fits.1.0

  shown_low : not (v 1) ≡ (f 3 % 2 == 1)
  shown_low = ap not (pair_same (v 1) (v 2) (input 2 % 2 == 1) (input 2 / 2 % 2 == 1) t.inputs) ∙ low_negated (input 2) inverter_small ∙ ap (λ (n : ℕ). n % 2 == 1) (sym inverted)

  shown_high : not (v 2) ≡ (f 3 / 2 % 2 == 1)
  shown_high = ap not (second_same (v 1) (v 2) (input 2 % 2 == 1) (input 2 / 2 % 2 == 1) t.inputs) ∙ high_negated (input 2) inverter_small ∙ ap (λ (n : ℕ). n / 2 % 2 == 1) (sym inverted)

inverter_observes : IsWellFormed named_inverter → Observes named_inverter inverter_circuit
inverter_observes well =
    record {
      latches = record { defined = search rules; resets = refl; nexts = λ state input f v t. refl };
      outputs = record { values = λ state input f v t. ap₂ (λ (a b : Bool). a ∷ b ∷ []) (shown_low state input f v t) (shown_high state input f v t) };
      bads = record { values = λ state input f v t. refl };
      constraints = record { values = λ state input f v t. refl };
      stays = λ state input f fits in_fits frame. next_state_fits named_inverter state input f well fits in_fits frame (nexts_by_id named_inverter refl);
    }

pub inverter_lowered : IsWellFormed named_inverter → IsCircuit inverter_circuit → Lowers named_inverter inverter_circuit
unfolding digits
inverter_lowered well circuit = lowers_as_said named_inverter inverter_circuit refl refl (omega arith) (inverter_observes well) well circuit

-- The model that keeps two bits.

module _ (state input f : Frame) (v : Valuation) (t : Together named_keeper (net keeper_circuit) state input f v) where
  kept : (let l : List Bool = v 1 ∷ v 2 ∷ [] in l) ≡ bits 2 (f 3)
  kept = t.latches ∙ ap (bits 2) (sym t.frame.1.1.0)

  high_bad : v 2 ≡ (f 5 == 1)
  high_bad = second_same (v 1) (v 2) (f 3 % 2 == 1) (f 3 / 2 % 2 == 1) kept ∙ ap (λ (n : ℕ). n == 1) (sym t.frame.1.1.1.1.0)

keeper_observes : IsWellFormed named_keeper → Observes named_keeper keeper_circuit
keeper_observes well =
    record {
      latches = record { defined = search rules; resets = refl; nexts = λ state input f v t. kept state input f v t };
      outputs = record { values = λ state input f v t. refl };
      bads = record { values = λ state input f v t. ap (λ (b : Bool). b ∷ []) (high_bad state input f v t) };
      constraints = record { values = λ state input f v t. refl };
      stays = λ state input f fits in_fits frame. next_state_fits named_keeper state input f well fits in_fits frame (nexts_by_id named_keeper refl);
    }

pub keeper_lowered : IsWellFormed named_keeper → IsCircuit keeper_circuit → Lowers named_keeper keeper_circuit
unfolding digits
keeper_lowered well circuit = lowers_as_said named_keeper keeper_circuit refl refl (omega arith) (keeper_observes well) well circuit

-- the name of a bit of a symbol of one byte is a name
pub bit_is_name : (n i : ℕ) → (32 ≤ n) × (n ≤ 126) → (32 ≤ i) × (i ≤ 126) → IsName (n ∷ 91 ∷ i ∷ 93 ∷ [])
bit_is_name n i p q =
    let good : ℕ → Type 0 = λ x. (32 ≤ x) × (x ≤ 126) in
    record {
      some = omega arith;
      short = omega arith;
      printable = All-cons good n (91 ∷ i ∷ 93 ∷ []) p (All-cons good 91 (i ∷ 93 ∷ []) (omega arith, omega arith) (All-cons good i (93 ∷ []) q (All-cons good 93 [] (omega arith, omega arith) (All-nil good))));
    }

-- What keeps a circuit a circuit.
use Rattle.std.proofs.Common.{◌≡◌, ℕ, ◌+◌, ◌<◌, ◌≤◌, Bool, true, false, List, [], ◌∷◌, ◌++◌, All, Result, Ok, Err, OnOk, OnErr, refl, sym, subst, arith, if◌then◌else◌, length-append, nat_le}
use Rattle.std.proofs.lemmas.Bool.Decides.{nat_tests}
use Rattle.std.proofs.lemmas.List.Elements.{All-weaker}
use Rattle.std.specs.List.Sorted.{IsStrictlySortedBy}
use Rattle.std.specs.Map.{keys_of}
use Rattle.aiger.specs.declared.circuit.Gate.{Gate}
use Rattle.aiger.specs.declared.circuit.Latch.{Latch}
use Rattle.aiger.specs.declared.circuit.Section.{Section}
use Rattle.aiger.specs.declared.circuit.Section.TheVariants as section
use Rattle.aiger.specs.declared.fault.CircuitFault.{CircuitFault}
use Rattle.aiger.specs.Limits.{greatest_count}
use Rattle.base.specs.Literal.{variable}
use Rattle.aiger.specs.Net.{Net, variables, IsDefined, AreOrdered}
use Rattle.aiger.specs.Circuit.{Circuit, IsCircuit, AllLiterals, HasDefined, HasFew, HasNames, IsNamed, NamePlace, NameMap, place_cmp, rank, with_name_in, section_count, net, IsName}
use Rattle.aiger.proofs.NetLemmas.{AreOrdered-push, IsDefined-append}
use Rattle.aiger.proofs.NameLemmas.{exact_places, All-insert_entry}

-- a literal that the test finds defined
pub defined_from_test : (c d : Circuit) (l : ℕ) → c ≡ d → true ≡ nat_le (variable l) (variables (net d)) → IsDefined (net c) l
defined_from_test c d l e t =
    let here : IsDefined (net d) l = grind (arith, nat_tests) in
    subst (λ (x : Circuit). IsDefined (net x) l) (sym e) here

-- each section of one circuit has at most as many positions as of another
abbrev IsWithin : Circuit → Circuit → Type 0
IsWithin c d = (s : Section) → section_count s c ≤ section_count s d

-- other names change no count
same_counts : (c : Circuit) (names : NameMap) (s : Section) → section_count s (record c { names = names }) ≡ section_count s c
same_counts c names section.Input = refl
same_counts c names section.Latch = refl
same_counts c names section.Output = refl
same_counts c names section.Bad = refl
same_counts c names section.Constraint = refl
same_counts c names section.Justice = refl
same_counts c names section.Fair = refl

-- the names of a circuit are those of one with as many positions or more
pub names_kept : (c d : Circuit) → HasNames c → d.names ≡ c.names → IsWithin c d → HasNames d
names_kept c d has e more =
    let weaker : (entry : NamePlace × List ℕ) → IsNamed c entry → IsNamed d entry = λ entry n. record { section = n.section; is_section = n.is_section; position = omega (arith, n.position, more n.section); name = n.name } in
    record {
      sorted = subst (λ (names : NameMap). IsStrictlySortedBy place_cmp (keys_of names)) (sym e) has.sorted;
      named = subst (All (IsNamed d)) (sym e) (All-weaker (IsNamed c) (IsNamed d) weaker c.names has.named);
    }

-- what holds of all literals
pub AllLiterals-weaker : (P Q : ℕ → Type 0) → ((l : ℕ) → P l → Q l) → (c : Circuit) → AllLiterals P c → AllLiterals Q c
AllLiterals-weaker P Q more c has =
    record {
      nexts = All-weaker (λ (l : Latch). P l.next) (λ (l : Latch). Q l.next) (λ l. more l.next) c.latches has.nexts;
      outputs = All-weaker P Q more c.outputs has.outputs;
      bads = All-weaker P Q more c.bads has.bads;
      constraints = All-weaker P Q more c.constraints has.constraints;
      justice = All-weaker (All P) (All Q) (λ ls. All-weaker P Q more ls) c.justice has.justice;
      fair = All-weaker P Q more c.fair has.fair;
    }

-- what a property or a name more keeps
pub record AreKept (P : ℕ → Type 0) (c : Circuit) : Type 0 where
  pub few : HasFew c
  pub literals : AllLiterals P c
  pub names : HasNames c

-- with a name more or as it was
pub kept_name : (P : ℕ → Type 0) (c : Circuit) (s : Section) (k : ℕ) (name : List ℕ) (names : NameMap) (r : Result (Unit {0}) CircuitFault) → OnOk r (names ≡ with_name_in c.names s k name) → AreKept P c → k < section_count s c → IsName name
    → OnOk r (IsStrictlySortedBy place_cmp (keys_of names)) → OnErr r (names ≡ c.names) → AreKept P (record c { names = names })
kept_name P c s k name names (Ok x) ok kept here good sorted err =
    let d : Circuit = record c { names = names } in
    let weaker : (entry : NamePlace × List ℕ) → IsNamed c entry → IsNamed d entry = λ entry n. record { section = n.section; is_section = n.is_section; position = omega (arith, n.position, same_counts c names n.section); name = n.name } in
    let new : IsNamed d ((rank s, k), name) = record { section = s; is_section = refl; position = omega (arith, here, same_counts c names s); name = good } in
    let all : All (IsNamed d) (with_name_in c.names s k name) = All-insert_entry exact_places (rank s, k) name (IsNamed d) c.names (All-weaker (IsNamed c) (IsNamed d) weaker c.names kept.names.named) new in
    record {
      few = record { outputs = kept.few.outputs; bads = kept.few.bads; constraints = kept.few.constraints; justice = kept.few.justice; justice_literals = kept.few.justice_literals; fair = kept.few.fair };
      literals = record { nexts = kept.literals.nexts; outputs = kept.literals.outputs; bads = kept.literals.bads; constraints = kept.literals.constraints; justice = kept.literals.justice; fair = kept.literals.fair };
      names = record { sorted = sorted; named = subst (All (IsNamed d)) (sym ok) all };
    }
kept_name P c s k name names (Err x) ok kept here good sorted err = subst (λ (ns : NameMap). AreKept P (record c { names = ns })) (sym err) kept

-- a circuit, and one with the same gates of which this is kept
pub are_kept : (c : Circuit) → IsCircuit c → AreKept (IsDefined (net c)) c
are_kept c valid = record { few = valid.few; literals = valid.defined; names = valid.names }

pub IsCircuit-kept : (c d : Circuit) → IsCircuit c → net d ≡ net c → AreKept (IsDefined (net c)) d → IsCircuit d
IsCircuit-kept c d valid e kept =
    record {
      small = subst (λ (n : Net). variables n ≤ greatest_count) (sym e) valid.small;
      few = kept.few;
      ordered = subst AreOrdered (sym e) valid.ordered;
      defined = subst (λ (n : Net). HasDefined n d) (sym e) kept.literals;
      names = kept.names;
    }

-- with a gate more
IsCircuit-gate : (c : Circuit) (g : Gate) → IsCircuit c → variables (net c) < greatest_count → IsDefined (net c) g.rhs0 → g.rhs1 ≤ g.rhs0 → IsCircuit (record c { gates = c.gates ++ g ∷ [] })
IsCircuit-gate c g valid room defined order =
    let d : Circuit = record c { gates = c.gates ++ g ∷ [] } in
    let h : HasDefined (net d) c = AllLiterals-weaker (IsDefined (net c)) (IsDefined (net d)) (λ l. IsDefined-append (net c) (g ∷ []) l) c valid.defined in
    record {
      small = omega (arith, length-append c.gates (g ∷ []));
      few = record { outputs = valid.few.outputs; bads = valid.few.bads; constraints = valid.few.constraints; justice = valid.few.justice; justice_literals = valid.few.justice_literals; fair = valid.few.fair };
      ordered = AreOrdered-push (net c) g valid.ordered defined order;
      defined = record { nexts = h.nexts; outputs = h.outputs; bads = h.bads; constraints = h.constraints; justice = h.justice; fair = h.fair };
      names = names_kept c d valid.names refl (elim [ section.Input ↦ omega arith | section.Latch ↦ omega arith | section.Output ↦ omega arith | section.Bad ↦ omega arith | section.Constraint ↦ omega arith | section.Justice ↦ omega arith | section.Fair ↦ omega arith ]);
    }

-- with a gate more or as it was
pub IsCircuit-pushed : (c : Circuit) (g : Gate) (pushed : Bool) (gates : List Gate) → gates ≡ (if pushed then c.gates ++ g ∷ [] else c.gates) → IsCircuit c → variables (net c) < greatest_count → IsDefined (net c) g.rhs0 → g.rhs1 ≤ g.rhs0 → IsCircuit (record c { gates = gates })
IsCircuit-pushed c g true gates e valid room defined order =
    subst (λ (gs : List Gate). IsCircuit (record c { gates = gs })) (sym e) (IsCircuit-gate c g valid room defined order)
IsCircuit-pushed c g false gates e valid room defined order =
    subst (λ (gs : List Gate). IsCircuit (record c { gates = gs })) (sym e) valid

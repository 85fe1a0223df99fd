-- The literals that stand for all variables of a circuit, from those for the inputs, the latches and the gates.
use Rattle.std.proofs.Common.{◌≡◌, ℕ, suc, ◌+◌, ◌*◌, ◌<◌, ◌≤◌, ◌&&◌, Option, Some, None, List, ◌++◌, length, map, drop, get_or, All, length-take, sym, ap, ap₂, subst, ◌∙◌, length-append, append_assoc, arith}
use Rattle.std.specs.List.{range_with_len, list_all}
use Rattle.std.proofs.lemmas.List.{length-drop, get_or_append_left}
use Rattle.std.proofs.lemmas.List.FromFn.{get_or-map-range_with_len, length-map-range_with_len}
use Rattle.std.proofs.lemmas.List.Elements.{All-append, All-take, All-drop}
use Rattle.aiger.specs.declared.circuit.Latch.{Latch}
use Rattle.aiger.specs.declared.circuit.Gate.{Gate}
use Rattle.base.specs.Literal.{variable, literal_value}
use Rattle.aiger.specs.Net.{Net, variables, IsDefined, SatisfiesFrom, bits_from}
use Rattle.aiger.specs.Circuit.{Circuit, IsCircuit, net}
use Rattle.base.proofs.LiteralLemmas.{literal_value-even}
use Rattle.aiger.proofs.TraceLemmas.{bits_from-agree}
use Rattle.gates.specs.Made.{MakesLiteral}
use Rattle.gates.proofs.GrowthLemmas.{Grows-trans, Grows-weaker, Satisfies-earlier, IsDefined-grown, All-defined-grown}
use Rattle.engine_form.specs.EngineForm.{free_count, input_count, chosen}
use Rattle.gates.proofs.TableLemmas.{doubles_defined, read_middle}
use Rattle.gates.specs.Reads.{read, literal_in, GatesRead}
use Rattle.engine_form.specs.Reads.{read_latches, LatchLiteralsRead, BadLiteralsRead, TableRead, started_literal, before_literal, bare_net, PropertiesRead, FormMade}

pub TableRead-made : (c : Circuit) (started : ℕ) (old mid new : Net) (inputs latches gates table : List ℕ) → IsCircuit c → c.inputs + 1 ≤ suc (variables old)
    → inputs ≡ map (λ k. 2 * k) (range_with_len 0 (c.inputs + 1))
    → LatchLiteralsRead old mid (3 * free_count c.latches) c.latches (suc old.inputs) (suc c.inputs) started latches
    → GatesRead mid new (length (inputs ++ latches)) c.gates (inputs ++ latches) gates → table ≡ (inputs ++ latches) ++ gates
    → TableRead c started old new table
TableRead-made c started old mid new inputs latches gates table valid fits is l g all =
    let many = l.many in
    let size : length inputs ≡ c.inputs + 1 = ap length is ∙ length-map-range_with_len (λ k. 2 * k) 0 (c.inputs + 1) in
    let own : (k : ℕ) → k < c.inputs + 1 → get_or table k 0 ≡ 2 * k =
    λ k h.
    ap (λ (xs : List ℕ). get_or xs k 0) all
    ∙ get_or_append_left (inputs ++ latches) gates 0 k (let e = length-append inputs latches in omega arith)
    ∙ get_or_append_left inputs latches 0 k (omega arith)
    ∙ ap (λ (xs : List ℕ). get_or xs k 0) is ∙ get_or-map-range_with_len (λ k. 2 * k) 0 (c.inputs + 1) k k 0 h (omega arith) in
    let first : length (inputs ++ latches) ≡ suc (c.inputs + length c.latches) = (let e = length-append inputs latches in omega arith) in
    let regrouped : table ≡ inputs ++ (latches ++ gates) = all ∙ append_assoc inputs latches gates in
    record {
      grows = Grows-weaker old new (3 * free_count c.latches + length c.gates) (length c.gates + 3 * free_count c.latches) (omega arith) (Grows-trans old mid new _ _ l.grows g.grows);
      zero_is = own 0 (omega arith);
      many = ap length all ∙ (let e = length-append (inputs ++ latches) gates in let f = g.many in omega arith);
      defined = subst (All (IsDefined new)) (sym all) (All-append (IsDefined new) (inputs ++ latches) gates
          (All-defined-grown mid new _ g.grows (inputs ++ latches) (All-append (IsDefined mid) inputs latches (All-defined-grown old mid _ l.grows inputs (subst (All (IsDefined old)) (sym is) (doubles_defined old 0 (c.inputs + 1) (omega arith)))) l.defined))
          g.defined);
      input_bits = λ w. bits_from-agree 1 c.inputs (read table w) w (λ k low high. ap (literal_value w) (own k (omega arith)) ∙ literal_value-even w k (omega arith));
      latch_bits = λ w s.
          ap₂ (λ (a b : ℕ). bits_from a b (read table w)) (omega arith) (sym many)
          ∙ ap (λ (xs : List ℕ). bits_from (length inputs) (length latches) (read xs w)) regrouped
          ∙ read_middle inputs latches gates w
          ∙ l.bits w (Satisfies-earlier mid new _ g.grows w s);
      gates = λ w s. subst (λ (xs : List ℕ). SatisfiesFrom (suc (c.inputs + length c.latches)) c.gates (read xs w)) (sym all) (subst (λ (k : ℕ). SatisfiesFrom k c.gates (read ((inputs ++ latches) ++ gates) w)) first (g.satisfied w s));
    }

-- the same of numbers and lists that are equal
pub LatchesRead-said : (old mid : Net) (ls ms : List Latch) (own own2 input input2 s : ℕ) (more : List ℕ) → ls ≡ ms → own ≡ own2 → input ≡ input2
    → LatchLiteralsRead old mid (3 * free_count ls) ls own input s more → LatchLiteralsRead old mid (3 * free_count ms) ms own2 input2 s more
LatchesRead-said old mid ls ms own own2 input input2 s more e f g l =
    subst (λ (x : List Latch). LatchLiteralsRead old mid (3 * free_count x) x own2 input2 s more) e
    (subst (λ (x : ℕ). LatchLiteralsRead old mid (3 * free_count ls) ls x input2 s more) f
    (subst (λ (x : ℕ). LatchLiteralsRead old mid (3 * free_count ls) ls own x s more) g l))

pub GatesRead-said : (mid new : Net) (gs hs : List Gate) (before front more : List ℕ) → gs ≡ hs → before ≡ front → GatesRead mid new (length before) gs before more → GatesRead mid new (length front) hs front more
GatesRead-said mid new gs hs before front more e f g =
    subst (λ (x : List Gate). GatesRead mid new (length front) x front more) e (subst (λ (x : List ℕ). GatesRead mid new (length x) gs x more) f g)

-- ---- the properties, and the whole

-- the chosen ones are among all
pub chosen_all : (P : ℕ → Type 0) (choice : Option ℕ) (bads : List ℕ) → All P bads → All P (chosen choice bads)
chosen_all P None bads all = all
chosen_all P (Some k) bads all = All-take P 1 (drop k bads) (All-drop P k bads all)

pub chosen_few : (choice : Option ℕ) (bads : List ℕ) → length (chosen choice bads) ≤ length bads
chosen_few None bads = omega arith
chosen_few (Some k) bads = omega (arith, length-take 1 (drop k bads), length-drop k bads)

-- they are of variables that the table has
pub chosen_inside : (c : Circuit) (choice : Option ℕ) (table : List ℕ) → IsCircuit c → length table ≡ suc (variables (net c)) → All (λ l. variable l < length table) (chosen choice c.bads)
chosen_inside c choice table valid many k d within = let e = chosen_all (IsDefined (net c)) choice c.bads valid.defined.bads k d within in omega (arith, many)

-- the literals of the properties, from the one for the constraints and those for the bad properties
pub PropertiesRead-made : (c : Circuit) (choice : Option ℕ) (before : ℕ) (old mid new : Net) (table first second constraints kept : List ℕ) (met : ℕ) (bads : List ℕ)
    → first ≡ table → second ≡ table → constraints ≡ c.constraints → kept ≡ chosen choice c.bads
    → MakesLiteral old mid (length constraints) (λ v. literal_value v before && list_all (λ l. literal_value v (literal_in first l)) constraints) met
    → BadLiteralsRead mid new second kept met bads → PropertiesRead c choice before old new table met bads
PropertiesRead-made c choice before old mid new table first second constraints kept met bads is_first is_second is_constraints is_kept made read_bads =
    let m : MakesLiteral old mid (length c.constraints) (λ v. literal_value v before && list_all (λ l. literal_value v (literal_in table l)) c.constraints) met =
    subst (λ (ls : List ℕ). MakesLiteral old mid (length ls) (λ v. literal_value v before && list_all (λ l. literal_value v (literal_in table l)) ls) met) is_constraints
    (subst (λ (t : List ℕ). MakesLiteral old mid (length constraints) (λ v. literal_value v before && list_all (λ l. literal_value v (literal_in t l)) constraints) met) is_first made) in
    let b : BadLiteralsRead mid new table (chosen choice c.bads) met bads = subst (λ (t : List ℕ). BadLiteralsRead mid new t (chosen choice c.bads) met bads) is_second (subst (λ (ls : List ℕ). BadLiteralsRead mid new second ls met bads) is_kept read_bads) in
    let few = chosen_few choice c.bads in
    record {
      grows = Grows-weaker old new (length c.constraints + length (chosen choice c.bads)) (length c.constraints + length c.bads) (omega arith) (Grows-trans old mid new _ _ m.grows b.grows);
      met_defined = IsDefined-grown mid new _ b.grows met m.defined;
      bads_defined = b.defined;
      few_bads = (let e = b.many in omega arith);
      met_is = λ w s. m.means w (Satisfies-earlier mid new _ b.grows w s);
      bads_are = b.bits;
    }

-- what the gates of an engine form say, from the literals for the variables and those of the properties
FormMade-made : (c : Circuit) (choice : Option ℕ) (mid new : Net) (table : List ℕ) (met : ℕ) (bads : List ℕ)
    → TableRead c (started_literal c) (bare_net c) mid table → PropertiesRead c choice (before_literal c) mid new table met bads → FormMade c choice new table met bads
FormMade-made c choice mid new table met bads t p =
    let g = Grows-trans (bare_net c) mid new _ _ t.grows p.grows in
    let few : length new.gates ≤ length g.gates.0 = (let e = ap length g.gates.1 in omega arith) in
    let most = g.gates.2 in
    let same : new.inputs ≡ input_count c = g.inputs in
    record {
      inputs = g.inputs;
      latches = g.latches;
      few_gates = omega arith;
      many = t.many;
      table_defined = All-defined-grown mid new _ p.grows table t.defined;
      met_defined = p.met_defined;
      bads_defined = p.bads_defined;
      few_bads = p.few_bads;
      zero_is = t.zero_is;
      input_bits = t.input_bits;
      latch_bits = λ w s. t.latch_bits w (Satisfies-earlier mid new _ p.grows w s) ∙ ap (λ (k : ℕ). read_latches c.latches (suc k) (suc c.inputs) (literal_value w (started_literal c)) w) (sym same);
      gates = λ w s. t.gates w (Satisfies-earlier mid new _ p.grows w s);
      met_is = p.met_is;
      bads_are = p.bads_are;
    }

-- the same of numbers, nets and lists that are equal
pub FormMade-said : (c : Circuit) (choice : Option ℕ) (started before : ℕ) (old mid new : Net) (first table : List ℕ) (met : ℕ) (bads : List ℕ)
    → started ≡ started_literal c → before ≡ before_literal c → old ≡ bare_net c → table ≡ first
    → TableRead c started old mid first → PropertiesRead c choice before mid new first met bads → FormMade c choice new table met bads
FormMade-said c choice started before old mid new first table met bads is_started is_before is_old is_table t p =
    let t_said : TableRead c (started_literal c) (bare_net c) mid first = subst (λ (n : Net). TableRead c (started_literal c) n mid first) is_old (subst (λ (l : ℕ). TableRead c l old mid first) is_started t) in
    let p_said : PropertiesRead c choice (before_literal c) mid new first met bads = subst (λ (l : ℕ). PropertiesRead c choice l mid new first met bads) is_before p in
    subst (λ (l : List ℕ). FormMade c choice new l met bads) (sym is_table) (FormMade-made c choice mid new first met bads t_said p_said)

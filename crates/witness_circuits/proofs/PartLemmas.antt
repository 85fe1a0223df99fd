-- The parts of a test's inputs, and what is made from them.
use Rattle.std.proofs.Common.{◌≡◌, ℕ, ◌+◌, Bool, ◌&&◌, List, [], ◌∷◌, ◌++◌, length, All, sym, ap, ap₂, ◌∙◌, arith}
use Rattle.std.proofs.lemmas.List.Elements.{All-head, All-tail, All-nil, All-cons}
use Rattle.aiger.specs.Net.{Net}
use Rattle.aiger.specs.Circuit.{Circuit}
use Rattle.gates.specs.Made.{Grows, MakesLiteral}
use Rattle.gates.specs.Reads.{read}
use Rattle.gates.proofs.GrowthLemmas.{Grows-trans, Grows-weaker, Satisfies-earlier}
use Rattle.witness_circuits.specs.Mapping.{Mapping, IsMappingOf}
use Rattle.witness_circuits.specs.Certificate.{constraints_hold, bad_rises}
use Rattle.witness_circuits.specs.Guards.{beside}
use Rattle.witness_circuits.specs.Tests.{claim_holds, test_cost}
use Rattle.witness_circuits.specs.Made.{own_initial, both_begin, fails_by, condition_cost, TestParts, all_parts, values, next_literals, AreBeside, IsMadeFrom}
use Rattle.witness_circuits.proofs.BesideLemmas.{values-next_literals, initial-beside}

all_left : {A : Type 0} (P : A → Type 0) (xs ys : List A) → All P (xs ++ ys) → All P xs
all_left P [] ys all = All-nil P
all_left P (x ∷ xs) ys all = All-cons P x xs (All-head P x (xs ++ ys) all) (all_left P xs ys (All-tail P x (xs ++ ys) all))

all_right : {A : Type 0} (P : A → Type 0) (xs ys : List A) → All P (xs ++ ys) → All P ys
all_right P [] ys all = all
all_right P (x ∷ xs) ys all = all_right P xs ys (All-tail P x (xs ++ ys) all)

-- what holds of all, of each part
pub record EachPart (P : ℕ → Type 0) (p : TestParts ℕ) : Type 0 where
  pub inputs : All P p.inputs
  pub latches : All P p.latches
  pub next_inputs : All P p.next_inputs
  pub own_inputs : All P p.own_inputs
  pub own_latches : All P p.own_latches
  pub next_own : All P p.next_own

pub each_part : (P : ℕ → Type 0) (p : TestParts ℕ) → All P (all_parts p) → EachPart P p
each_part P p all =
    let a = all_right P p.inputs (p.latches ++ (p.next_inputs ++ (p.own_inputs ++ (p.own_latches ++ p.next_own)))) all in
    let b = all_right P p.latches (p.next_inputs ++ (p.own_inputs ++ (p.own_latches ++ p.next_own))) a in
    let d = all_right P p.next_inputs (p.own_inputs ++ (p.own_latches ++ p.next_own)) b in
    let e = all_right P p.own_inputs (p.own_latches ++ p.next_own) d in
    record {
      inputs = all_left P p.inputs (p.latches ++ (p.next_inputs ++ (p.own_inputs ++ (p.own_latches ++ p.next_own)))) all;
      latches = all_left P p.latches (p.next_inputs ++ (p.own_inputs ++ (p.own_latches ++ p.next_own))) a;
      next_inputs = all_left P p.next_inputs (p.own_inputs ++ (p.own_latches ++ p.next_own)) b;
      own_inputs = all_left P p.own_inputs (p.own_latches ++ p.next_own) d;
      own_latches = all_left P p.own_latches p.next_own e;
      next_own = all_right P p.own_latches p.next_own e;
    }

module _ (c : Circuit) (k : ℕ) (w : Circuit) (m : Mapping) (p : TestParts ℕ) (old mid late new : Net) (table own next_table next_own : List ℕ) (l : ℕ) (mapping : IsMappingOf w m)
    (first : AreBeside c w m p.inputs p.latches p.own_inputs p.own_latches old mid table own)
    (next : AreBeside c w m p.next_inputs (next_literals table c.latches) p.next_own (next_literals own w.latches) mid late next_table next_own)
    (last : MakesLiteral late new (condition_cost c w) (λ v. fails_by (constraints_hold c (read table v)) (own_initial [] c.latches (values v p.latches) && own_initial m.latches w.latches (values v p.own_latches))
    (claim_holds w (read own v)) (constraints_hold c (read next_table v)) (claim_holds w (read next_own v)) (bad_rises c k (read table v))) l) where
  pub made_grows : Grows old new (test_cost c w)
  made_grows =
      Grows-weaker old new (length c.gates + length w.gates + (length c.gates + length w.gates) + condition_cost c w) (test_cost c w) (omega arith)
      (Grows-trans old late new (length c.gates + length w.gates + (length c.gates + length w.gates)) (condition_cost c w)
      (Grows-trans old mid late (length c.gates + length w.gates) (length c.gates + length w.gates) first.grows next.grows) last.grows)

  pub made_from : IsMadeFrom c k w m p old new l
  made_from =
      record {
        now = read table;
        next = read next_table;
        beside_now = read own;
        beside_next = read next_own;
        grows = made_grows;
        defined = last.defined;
        frames = λ z s.
            let behind = Satisfies-earlier late new (condition_cost c w) last.grows z s in
            let before = Satisfies-earlier mid late (length c.gates + length w.gates) next.grows z behind in
            let f = next.frame z behind in
            let g = next.own_frame z behind in
            record {
              now = first.frame z before;
              next = record { gates = f.gates; inputs = f.inputs; latches = f.latches ∙ values-next_literals c table z first.stand.zero_is };
              beside_now = first.own_frame z before;
              beside_next =
                  record {
                    gates = g.gates;
                    inputs = g.inputs;
                    latches = g.latches ∙ ap (beside (read next_table z) m.latches) (values-next_literals w own z first.own_stand.zero_is);
                  };
            };
        rises = λ z s.
            let behind = Satisfies-earlier late new (condition_cost c w) last.grows z s in
            let before = Satisfies-earlier mid late (length c.gates + length w.gates) next.grows z behind in
            let begun : (own_initial [] c.latches (values z p.latches) && own_initial m.latches w.latches (values z p.own_latches)) ≡ both_begin c w m (read table z) (read own z) =
            ap₂ ◌&&◌ (ap (own_initial [] c.latches) (sym (first.frame z before).latches))
            (sym (ap (own_initial m.latches w.latches) (first.own_frame z before).latches ∙ initial-beside (read table z) m.latches w.latches (values z p.own_latches) mapping.latches)) in
            last.means z s
            ∙ ap (λ (b : Bool). fails_by (constraints_hold c (read table z)) b (claim_holds w (read own z)) (constraints_hold c (read next_table z)) (claim_holds w (read next_own z)) (bad_rises c k (read table z))) begun;
      }

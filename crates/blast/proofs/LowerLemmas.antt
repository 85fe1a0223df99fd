-- From what the latches and the properties of a circuit read as to whole traces.
use Rattle.std.proofs.Common.{◌≡◌, ◌==◌, Bool, List, [], ◌∷◌, map, refl, ap, subst, ◌∙◌}
use Rattle.std.specs.List.{AllZip, AllByRecursion}
use Rattle.base.specs.Shown.{Shown}
use Rattle.btor2.specs.declared.item.Item.{Item}
use Rattle.btor2.specs.declared.item.Body.{Body}
use Rattle.btor2.specs.declared.item.Body.TheVariants as body
use Rattle.btor2.specs.Items.{is_bad, is_constraint}
use Rattle.btor2.specs.Reachability.{values_of}
use Rattle.btor2.specs.Trace.{Frame, IsFrame, IsState, IsInput, IsTrace, next_state}
use Rattle.base.specs.Literal.{Valuation}
use Rattle.aiger.specs.Circuit.{Circuit, net}
use Rattle.aiger.specs.Trace.{IsCircuitFrame, IsCircuitTrace, next_latch_bits as next_bits}
use Rattle.blast.specs.Leaves.{by_body, given_by_kind, input_bits, state_bits}
use Rattle.blast.specs.Lowering.{ShowsSame}
use Rattle.blast.specs.Reads.{Together, LatchesRead, OutputsRead, BadsRead, ConstraintsRead, observed}

-- ---- what a frame shows, node by node

constraint_shown : (f : Frame) (b : Body) (x : Item) (xs : List Item) → x.body ≡ b → given_by_kind (by_body is_constraint) (λ x. observed f x.body) xs ≡ values_of is_constraint xs f
    → given_by_kind (by_body is_constraint) (λ x. observed f x.body) (x ∷ xs) ≡ values_of is_constraint (x ∷ xs) f
constraint_shown f (body.Constraint a) x xs is rest = rw is (ap (λ (l : List Bool). (f a == 1) ∷ l) rest)
constraint_shown f _ x xs is rest = rw is rest

constraints_shown : (f : Frame) (xs : List Item) → given_by_kind (by_body is_constraint) (λ x. observed f x.body) xs ≡ values_of is_constraint xs f
constraints_shown f [] = refl
constraints_shown f (x ∷ xs) = constraint_shown f x.body x xs refl (constraints_shown f xs)

bad_shown : (f : Frame) (b : Body) (x : Item) (xs : List Item) → x.body ≡ b → given_by_kind (by_body is_bad) (λ x. observed f x.body) xs ≡ values_of is_bad xs f
    → given_by_kind (by_body is_bad) (λ x. observed f x.body) (x ∷ xs) ≡ values_of is_bad (x ∷ xs) f
bad_shown f (body.Bad a) x xs is rest = rw is (ap (λ (l : List Bool). (f a == 1) ∷ l) rest)
bad_shown f _ x xs is rest = rw is rest

bads_shown : (f : Frame) (xs : List Item) → given_by_kind (by_body is_bad) (λ x. observed f x.body) xs ≡ values_of is_bad xs f
bads_shown f [] = refl
bads_shown f (x ∷ xs) = bad_shown f x.body x xs refl (bads_shown f xs)

same_shown : {a b c d : List Bool} → a ≡ b → c ≡ d → (let s : Shown = record { bads = a; constraints = c } in s) ≡ record { bads = b; constraints = d }
same_shown p q = rw (p, q) refl

-- all that is observed of a circuit reads as the model's words
pub record Observes (items : List Item) (c : Circuit) : Type 0 where
  pub latches : LatchesRead items (net c) items c.latches
  pub outputs : OutputsRead items (net c) items c.outputs
  pub bads : BadsRead items (net c) items c.bads
  pub constraints : ConstraintsRead items (net c) items c.constraints
  pub stays : (state input f : Frame) → IsState items state → IsInput items input → IsFrame items state input f → IsState items (next_state items f)

-- a frame of the circuit from the bits of a frame of the model goes with it
together : (items : List Item) (c : Circuit) (state input f : Frame) (v : Valuation) → IsState items state → IsInput items input → IsFrame items state input f → IsCircuitFrame c (state_bits items state) (input_bits items input) v → Together items (net c) state input f v
together items c state input f v fits in_fits frame circuit_frame =
    record { frame = frame; state_fits = fits; input_fits = in_fits; satisfied = circuit_frame.gates; inputs = circuit_frame.inputs; latches = circuit_frame.latches }

-- the two traces from the same bits show the same in every frame
pub show_same : (items : List Item) (c : Circuit) → Observes items c → (state : Frame) (inputs fs : List Frame) (vs : List Valuation) → IsState items state → AllByRecursion (IsInput items) inputs → IsTrace items state inputs fs → IsCircuitTrace c (state_bits items state) (map (input_bits items) inputs) vs → AllZip (ShowsSame items c) fs vs
show_same items c o state [] [] [] fits in_fit t u = tt
show_same items c o state [] [] (v ∷ vs) fits in_fit t u = u
show_same items c o state [] (f ∷ fs) vs fits in_fit t u = absurd t
show_same items c o state (input ∷ inputs) [] vs fits in_fit t u = absurd t
show_same items c o state (input ∷ inputs) (f ∷ fs) [] fits in_fit t u = u
show_same items c o state (input ∷ inputs) (f ∷ fs) (v ∷ vs) fits in_fit t u =
    let both = together items c state input f v fits in_fit.0 t.0 u.0 in
    let next : next_bits c v ≡ state_bits items (next_state items f) = o.latches.nexts state input f v both in (
      record {
        outputs = o.outputs.values state input f v both;
        properties = same_shown (o.bads.values state input f v both ∙ bads_shown f items) (o.constraints.values state input f v both ∙ constraints_shown f items);
      },
      show_same items c o (next_state items f) inputs fs vs (o.stays state input f fits in_fit.0 t.0) in_fit.1 t.1 (subst (λ s. IsCircuitTrace c s (map (input_bits items) inputs) vs) next u.1),
    )

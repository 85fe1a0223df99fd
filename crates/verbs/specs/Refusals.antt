-- Why a verb is not done: the fault that an input has, said of its text.
use Rattle.std.specs.Prelude.{◌≡◌, ◌≢◌, ◌⊎◌, ℕ, ◌<◌, ◌≤◌, List, [], length, Option, None, Some, Err, IfSome, unwrap_or}
use Rattle.btor2.specs.declared.item.Item.{Item}
use Rattle.btor2.specs.Check.{IsWellFormed}
use Rattle.btor2.specs.Lists.{first_init_without_next}
use Rattle.btor2text.specs.FirstFault.{IsFaultOf}
use Rattle.aiger.specs.Circuit.{Circuit}
use Rattle.aigertext.specs.AsciiReading.{IsAsciiFaultOf as IsCircuitFaultOf}
use Rattle.blast.specs.declared.fault.LowerFault.{LowerFault}
use Rattle.blast.specs.Refusal.{lowering_refusal}
use Rattle.engine_form.specs.Refusal.{engine_refusal}
use Rattle.engine_form.specs.declared.fault.EngineFault.{EngineFault}
use Rattle.engine_form.specs.declared.fault.EngineFault.TheVariants as engine
use Rattle.vectors.specs.Vectors.{IsFirstBad}
use Rattle.witness_circuits.specs.Refusal.{test_refusal}
use Rattle.witness_circuits.specs.declared.fault.TestFault.TheVariants as test
use Rattle.certificates.specs.Certificates.{AreCubes, IsFormFor}
use Rattle.certificates.specs.Reading.{ReadsCubes}
use Rattle.certificates.specs.Refusal.{obligation_refusal}
use Rattle.verbs.specs.declared.refusals.Claimed.{Claimed}
use Rattle.verbs.specs.declared.refusals.Claimed.TheVariants as claimed
use Rattle.verbs.specs.declared.refusals.Fault.{Fault}
use Rattle.verbs.specs.declared.refusals.Fault.TheVariants as fault
use Rattle.invocation.specs.declared.tasks.Certificate.{Certificate}
use Rattle.invocation.specs.declared.tasks.Certificate.TheVariants as certificate
use Rattle.invocation.specs.declared.tasks.Given.{Given}
use Rattle.invocation.specs.declared.tasks.Given.TheVariants as given
use Rattle.verbs.specs.Fitting.{FitsFirst, IsNotFitted}
use Rattle.verbs.specs.Given.{GivesItsCircuit, IsGivenNumbering}
use Rattle.btor2text.specs.Spelling.{IsModelOf}
use Rattle.aigertext.specs.Spelling.{IsCircuitText}
use Rattle.verbs.specs.Claims.{IsClaim}

-- ---- the fault of a first text

-- the first text is no model, and this is the fault of its first faulty line
abbrev pub IsNoModel : Option (List ℕ) → Fault → Type 0
IsNoModel known (fault.Model e) = IfSome known (λ text. IsFaultOf text e)
IsNoModel known _ = ⊥

-- the first text is of a model, and this is the first that speaks against lowering it
pub record IsUnlowered (known : Option (List ℕ)) (e : LowerFault) : Type 0 where
  pub items : List Item
  pub text : IsModelOf known items
  pub well_formed : IsWellFormed items
  pub first : lowering_refusal items ≡ Some e

-- the first text is no model, or is of one that is not lowered
abbrev pub IsNotLowered : Option (List ℕ) → Fault → Type 0
IsNotLowered known (fault.Lowering e) = IsUnlowered known e
IsNotLowered known f = IsNoModel known f

-- the first text is of a model, and this is its first state with an init and no next
pub record LacksNext (known : Option (List ℕ)) (id : ℕ) : Type 0 where
  pub items : List Item
  pub text : IsModelOf known items
  pub well_formed : IsWellFormed items
  pub first : first_init_without_next items items ≡ Some id

-- the first text is no model, or is of one over which nothing is judged
abbrev pub IsNotJudged : Option (List ℕ) → Fault → Type 0
IsNotJudged known (fault.NoNext id) = LacksNext known id
IsNotJudged known f = IsNoModel known f

-- the first text is no circuit, and this is its first fault
abbrev pub IsNoCircuit : Option (List ℕ) → Fault → Type 0
IsNoCircuit known (fault.Circuit e) = IfSome known (λ text. IsCircuitFaultOf text e)
IsNoCircuit known _ = ⊥

-- the first text is no list of vectors, and this is its first line that writes none
abbrev pub IsNoVectorList : Option (List ℕ) → Fault → Type 0
IsNoVectorList known (fault.Vector n) = IfSome known (λ text. IsFirstBad text n)
IsNoVectorList known _ = ⊥

-- a circuit has outputs, as before AIGER 1.9, and no bad property
abbrev pub HasOutputsAlone : Circuit → Fault → Type 0
HasOutputsAlone c (fault.Engine e) = (e ≡ engine.NoBad) × ((c.bads ≡ []) × (c.outputs ≢ []))
HasOutputsAlone c _ = ⊥

-- this is the first that speaks against an engine form of a circuit
abbrev pub IsWithoutForm : Circuit → Option ℕ → Fault → Type 0
IsWithoutForm c choice (fault.Engine e) = engine_refusal c choice ≡ Some e
IsWithoutForm c choice _ = ⊥

-- this is the first that speaks against lowering a model
abbrev pub IsAgainst : List Item → Fault → Type 0
IsAgainst items (fault.Lowering e) = lowering_refusal items ≡ Some e
IsAgainst items _ = ⊥

-- the first text is fitted into a model, and this is the first that speaks against lowering that
pub record IsUnloweredFitted (known : Option (List ℕ)) (e : LowerFault) : Type 0 where
  pub narrow : List Item
  pub fits : FitsFirst known narrow
  pub first : lowering_refusal narrow ≡ Some e

-- the first text is not fitted, or into a model that is not lowered
abbrev pub IsNotLoweredFitted : Option (List ℕ) → Fault → Type 0
IsNotLoweredFitted known (fault.Lowering e) = IsUnloweredFitted known e
IsNotLoweredFitted known f = IsNotFitted known f

-- the first text is no model, or is of one that is not lowered; or it is not fitted, or into such a one; or it is no circuit
abbrev pub IsNotGiven : Given → Option (List ℕ) → Fault → Type 0
IsNotGiven given.Model known f = IsNotLowered known f
IsNotGiven given.Fitted known f = IsNotLoweredFitted known f
IsNotGiven given.Circuit known f = IsNoCircuit known f

-- the first text gives a circuit that has outputs and no bad property
pub record GivesOutputsAlone (g : Given) (known : Option (List ℕ)) (f : Fault) : Type 0 where
  pub circuit : Circuit
  pub gives : GivesItsCircuit g known circuit
  pub alone : HasOutputsAlone circuit f

-- the first text gives no circuit, or one of which no witness can claim a bad property that was meant
abbrev pub IsNotClaimable : Given → Option (List ℕ) → Fault → Type 0
IsNotClaimable g known (fault.Engine e) = GivesOutputsAlone g known (fault.Engine e)
IsNotClaimable g known f = IsNotGiven g known f

-- the first text gives a circuit, and this is the first that speaks against an engine form of it
pub record GivesWithoutForm (g : Given) (choice : Option ℕ) (known : Option (List ℕ)) (e : EngineFault) : Type 0 where
  pub circuit : Circuit
  pub gives : GivesItsCircuit g known circuit
  pub first : engine_refusal circuit choice ≡ Some e

-- the first text gives no circuit, or one that has no such engine form
abbrev pub IsNotForEngines : Given → Option ℕ → Option (List ℕ) → Fault → Type 0
IsNotForEngines g choice known (fault.Engine e) = GivesWithoutForm g choice known e
IsNotForEngines g choice known f = IsNotGiven g known f

-- the first text gives a circuit, and this is the first that speaks against an engine form of it with the bad property that is claimed
pub record GivesNoForm (g : Given) (choice : Option ℕ) (known : Option (List ℕ)) (e : EngineFault) : Type 0 where
  pub circuit : Circuit
  pub claim : ℕ
  pub gives : GivesItsCircuit g known circuit
  pub is_claim : IsClaim choice circuit claim
  pub first : engine_refusal circuit (Some claim) ≡ Some e

-- no bad property of a circuit is claimed so, where none is chosen: it has none, and this is the first that speaks against an engine form of it; or it has several
abbrev pub IsUnclaimed : Claimed → Circuit → Fault → Type 0
IsUnclaimed c circuit (fault.Engine e) = (circuit.bads ≡ []) × (engine_refusal circuit None ≡ Some e)
IsUnclaimed c circuit (fault.Unchosen c') = (c' ≡ c) × (1 < length circuit.bads)
IsUnclaimed c circuit _ = ⊥

-- the first text gives a circuit without a bad property, none is chosen, and this is the first that speaks against an engine form of it
pub record GivesNoBad (g : Given) (choice : Option ℕ) (known : Option (List ℕ)) (e : EngineFault) : Type 0 where
  pub circuit : Circuit
  pub gives : GivesItsCircuit g known circuit
  pub unchosen : choice ≡ None
  pub none : circuit.bads ≡ []
  pub first : engine_refusal circuit None ≡ Some e

-- the first text gives a circuit that has several bad properties, and none is chosen
pub record GivesUnchosen (g : Given) (choice : Option ℕ) (known : Option (List ℕ)) : Type 0 where
  pub circuit : Circuit
  pub gives : GivesItsCircuit g known circuit
  pub unchosen : choice ≡ None
  pub several : 1 < length circuit.bads

-- the first text gives no circuit, or one without an engine form for the bad property that is claimed, or leaves open which one that is, of what is so claimed
abbrev pub IsNotClaimed : Claimed → Given → Option ℕ → Option (List ℕ) → Fault → Type 0
IsNotClaimed c g choice known (fault.Engine e) = GivesNoForm g choice known e ⊎ GivesNoBad g choice known e
IsNotClaimed c g choice known (fault.Unchosen c') = (c' ≡ c) × GivesUnchosen g choice known
IsNotClaimed c g choice known f = IsNotGiven g known f

-- no bad property of a circuit can be guarded: there is none at the place that is chosen, or none at all; or there are several, and none is chosen
abbrev pub IsUnguarded : Option ℕ → Circuit → Fault → Type 0
IsUnguarded choice c (fault.Engine e) = (e ≡ engine.NoBad) × (c.bads ≡ [])
IsUnguarded choice c (fault.Test e) = (e ≡ test.NoSuchBad) × ((0 < length c.bads) × (length c.bads ≤ unwrap_or choice 0))
IsUnguarded choice c (fault.Unchosen c') = (c' ≡ claimed.Guarded) × ((choice ≡ None) × (1 < length c.bads))
IsUnguarded choice c _ = ⊥

-- the first text gives a circuit, of which no bad property can be guarded
pub record GivesUnguarded (g : Given) (choice : Option ℕ) (known : Option (List ℕ)) (f : Fault) : Type 0 where
  pub circuit : Circuit
  pub gives : GivesItsCircuit g known circuit
  pub unguarded : IsUnguarded choice circuit f

-- the first text gives no circuit, or one of which no bad property can be guarded
abbrev pub IsNotGuarded : Given → Option ℕ → Option (List ℕ) → Fault → Type 0
IsNotGuarded g choice known (fault.Engine e) = GivesUnguarded g choice known (fault.Engine e)
IsNotGuarded g choice known (fault.Test e) = GivesUnguarded g choice known (fault.Test e)
IsNotGuarded g choice known (fault.Unchosen c) = GivesUnguarded g choice known (fault.Unchosen c)
IsNotGuarded g choice known f = IsNotGiven g known f

-- the first text has this fault, for which no certificate of this kind is judged over what it gives
abbrev pub IsNotCertifiable : Certificate → Given → Option ℕ → Option (List ℕ) → Fault → Type 0
IsNotCertifiable certificate.Invariant g choice known f = IsNotClaimed claimed.Certified g choice known f
IsNotCertifiable certificate.Circuit g choice known f = IsNotGuarded g choice known f
IsNotCertifiable certificate.CircuitOfForm g choice known f = IsNotClaimed claimed.Guarded g choice known f

-- no bad property of a circuit is claimed so by a certificate of this kind
abbrev pub IsUnclaimedBy : Certificate → Option ℕ → Circuit → Fault → Type 0
IsUnclaimedBy certificate.Invariant choice c f = (choice ≡ None) × IsUnclaimed claimed.Certified c f
IsUnclaimedBy certificate.Circuit choice c f = IsUnguarded choice c f
IsUnclaimedBy certificate.CircuitOfForm choice c f = (choice ≡ None) × IsUnclaimed claimed.Guarded c f

-- this is the first that speaks against the engine form that a certificate of this kind speaks of
abbrev pub IsWithoutFormBy : Certificate → Circuit → ℕ → Fault → Type 0
IsWithoutFormBy certificate.Circuit c k f = ⊥
IsWithoutFormBy _ c k f = IsWithoutForm c (Some k) f

-- ---- the fault of a second text

-- a text is no invariant over a circuit, and this is the fault of its first faulty line; or there is no obligation of its cubes
abbrev pub IsFaultyOver : Circuit → Option (List ℕ) → Fault → Type 0
IsFaultyOver d invariant (fault.Invariant e) = ReadsCubes (length d.latches) invariant (Err e)
IsFaultyOver d invariant (fault.Obligation e) = (cubes : List (List ℕ)) × AreCubes d invariant cubes × (obligation_refusal d cubes ≡ Some e)
IsFaultyOver d invariant _ = ⊥

-- a circuit has an engine form with this bad property, and over that a text of an invariant has this fault
pub record IsFaultyFor (c : Circuit) (k : ℕ) (invariant : Option (List ℕ)) (f : Fault) : Type 0 where
  pub form : Circuit
  pub is_form : IsFormFor c k form
  pub faulty : IsFaultyOver form invariant f

-- a text is no circuit, and this is its first fault; or it is a witness circuit without a test, and this is the first refusal that applies
abbrev pub IsFaultyWitness : Option (List ℕ) → Circuit → ℕ → Option (List ℕ) → Fault → Type 0
IsFaultyWitness n c k second (fault.Circuit e) = IfSome second (λ text. IsCircuitFaultOf text e)
IsFaultyWitness n c k second (fault.Test e) = (w : Circuit) × IsCircuitText second w × (test_refusal n c k w ≡ Some e)
IsFaultyWitness n c k second _ = ⊥

-- a circuit has an engine form with this bad property, and a text has this fault as a witness circuit of that
pub record IsFaultyOverForm (c : Circuit) (k : ℕ) (second : Option (List ℕ)) (f : Fault) : Type 0 where
  pub form : Circuit
  pub is_form : IsFormFor c k form
  pub faulty : IsFaultyWitness None form 0 second f

-- a text has this fault as a certificate of this kind
abbrev pub IsFaultyBy : Certificate → Option (List ℕ) → Circuit → ℕ → Option (List ℕ) → Fault → Type 0
IsFaultyBy certificate.Invariant n c k second f = IsFaultyFor c k second f
IsFaultyBy certificate.Circuit n c k second f = IsFaultyWitness n c k second f
IsFaultyBy certificate.CircuitOfForm n c k second f = IsFaultyOverForm c k second f

-- the second text has this fault as a certificate of this kind, for the bad property that is claimed of the circuit that the first gives
pub record IsFaultyCertificate (by : Certificate) (g : Given) (choice : Option ℕ) (first second : Option (List ℕ)) (f : Fault) : Type 0 where
  pub circuit : Circuit
  pub numbering : Option (List ℕ)
  pub claim : ℕ
  pub gives : GivesItsCircuit g first circuit
  pub is_numbering : IsGivenNumbering g first circuit numbering
  pub is_claim : IsClaim choice circuit claim
  pub faulty : IsFaultyBy by numbering circuit claim second f

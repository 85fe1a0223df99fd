-- What is refused of certificates, and that a bad property that one is judged to show never rises.
use Rattle.std.proofs.Common.{◌≡◌, ◌⊎◌, inl, inr, ◌↔◌, ℕ, List, Option, None, Some, IfSome, Result, Ok, Err, IfOk, refl}
use Rattle.btor2.specs.declared.item.Item.{Item}
use Rattle.aiger.specs.Circuit.{Circuit}
use Rattle.aiger.specs.Reachability.{CanRiseInCircuit}
use Rattle.blast.specs.Lowering.{Lowers}
use Rattle.btor2.specs.Reachability.{CanRise}
use Rattle.engine_form.specs.declared.fault.EngineFault.{EngineFault}
use Rattle.engine_form.specs.declared.fault.EngineFault.TheVariants as engine
use Rattle.drup.specs.Formula.{Formula}
use Rattle.drup.specs.declared.judgement.Judgement.{Judgement}
use Rattle.certificates.specs.declared.why.InvariantFault.{InvariantFault}
use Rattle.certificates.specs.declared.why.InvariantWhy.{InvariantWhy}
use Rattle.certificates.specs.declared.why.InvariantWhy.TheVariants as why
use Rattle.certificates.specs.declared.fault.ObligationFault.{ObligationFault}
use Rattle.certificates.specs.declared.fault.ObligationFault.TheVariants as obligation
use Rattle.certificates.specs.declared.claim_fault.ClaimFault.{ClaimFault}
use Rattle.certificates.specs.declared.claim_fault.ClaimFault.TheVariants as claim
use Rattle.certificates.specs.declared.certificate_fault.CertificateFault.{CertificateFault}
use Rattle.certificates.specs.declared.certificate_fault.CertificateFault.TheVariants as certificate
use Rattle.certificates.specs.Certificates.{CountsCertificate, IsFormFor, IsOfProof, OwesNone, OwesNoneOver}
use Rattle.aigertext.specs.AsciiReading.{IsAsciiFaultOf}
use Rattle.aigertext.specs.declared.fault.ReadFault.{ReadFault}
use Rattle.aigertext.specs.declared.fault.Why.{Why}
use Rattle.aigertext.specs.declared.fault.Why.TheVariants as circuit_why
use Rattle.witness_circuits.specs.Owing.{HasNoTest, HasNoTestOverForm}
use Rattle.witness_circuits.specs.declared.fault.TestFault.{TestFault}
use Rattle.witness_circuits.specs.declared.fault.TestFault.TheVariants as test
use Rattle.witness_circuits.specs.declared.witness_fault.WitnessFault.{WitnessFault}
use Rattle.witness_circuits.specs.declared.witness_fault.WitnessFault.TheVariants as witness
use Rattle.invocation.specs.declared.tasks.Certificate.{Certificate}
use Rattle.invocation.specs.declared.tasks.Certificate.TheVariants as kind
use Rattle.invocation.specs.declared.tasks.Certified.{Certified}
use Rattle.invocation.specs.declared.tasks.Given.{Given}
use Rattle.invocation.specs.declared.tasks.Given.TheVariants as given
use Rattle.verbs.specs.declared.refusals.Claimed.TheVariants as claimed
use Rattle.verbs.specs.declared.refusals.Fault.{Fault}
use Rattle.verbs.specs.declared.refusals.Fault.TheVariants as fault
use Rattle.verbs.specs.declared.refusals.Refusal.{Refusal}
use Rattle.verbs.specs.declared.refusals.Refusal.TheVariants as refusal
use Rattle.verbs.specs.Certificates.{IsOwedBy, IsOwedFormula}
use Rattle.verbs.specs.Given.{GivesItsCircuit, IsGivenNumbering, NeverRises}
use Rattle.verbs.specs.Conversions.{of_certificate, of_claim, of_engine_form, of_invariant_for, of_obligation, of_witness, of_witness_reading_for}
use Rattle.verbs.proofs.GivenLemmas.{formless, not_claimed}
use Rattle.verbs.specs.Refusals.{IsFaultyBy, IsFaultyCertificate, IsFaultyFor, IsFaultyOver, IsFaultyOverForm, IsFaultyWitness, IsNotCertifiable, IsNotGuarded, IsUnclaimedBy, IsUnguarded, IsWithoutFormBy}
use Rattle.verbs.specs.Statuses.{CountsAll, IfInput, IfSecond}
use Rattle.verbs.specs.Claims.{IsClaim}

-- ---- what is refused

form_no_second : (P : Fault → Type 0) (e : EngineFault) → IfSecond P (of_engine_form e)
form_no_second P engine.NoMemory = tt
form_no_second P _ = tt

faulty_line : (d : Circuit) (invariant : Option (List ℕ)) (e : InvariantFault) (w : InvariantWhy) → e.why ≡ w → OwesNoneOver d invariant (claim.Invariant e) → IfSecond (IsFaultyOver d invariant) (of_invariant_for e w)
faulty_line d invariant e why.Device is h = tt
faulty_line d invariant e why.NoMemory is h = tt
faulty_line d invariant e _ is (inl memory) = absurd (cc)
faulty_line d invariant e _ is (inr (inl device)) = absurd (cc)
faulty_line d invariant e _ is (inr (inr reads)) = reads

faulty_cubes : (d : Circuit) (invariant : Option (List ℕ)) (e : ObligationFault) → OwesNoneOver d invariant (claim.Obligation e) → IfSecond (IsFaultyOver d invariant) (of_obligation e)
faulty_cubes d invariant obligation.NoMemory h = tt
faulty_cubes d invariant obligation.TooBig (cubes, are, inl refused) = (cubes, are, refused)
faulty_cubes d invariant obligation.TooBig (cubes, are, inr memory) = let is = memory.1 in absurd (cc)

with_form : (c : Circuit) (k : ℕ) (invariant : Option (List ℕ)) (d : Circuit) (r : Refusal) → ((f : Fault) → IsFaultyOver d invariant f → IsFaultyFor c k invariant f) → IfSecond (IsFaultyOver d invariant) r → IfSecond (IsFaultyFor c k invariant) r
with_form c k invariant d (refusal.Second f) is h = is f h
with_form c k invariant d _ is h = tt

-- no formula is owed: the second file is refused, for its text or its cubes, or the first, for the form
pub refuses_invariant : (c : Circuit) (k : ℕ) (invariant : Option (List ℕ)) (e : ClaimFault) → OwesNone c k invariant e → IfSecond (IsFaultyFor c k invariant) (of_claim e)
refuses_invariant c k invariant (claim.Form e) h = form_no_second (IsFaultyFor c k invariant) e
refuses_invariant c k invariant (claim.Invariant e) h =
    with_form c k invariant h.form (of_invariant_for e e.why) (λ f faulty. record { form = h.form; is_form = h.is_form; faulty = faulty }) (faulty_line h.form invariant e e.why refl h.owes_none)
refuses_invariant c k invariant (claim.Obligation e) h =
    with_form c k invariant h.form (of_obligation e) (λ f faulty. record { form = h.form; is_form = h.is_form; faulty = faulty }) (faulty_cubes h.form invariant e h.owes_none)

-- the text of a witness circuit has a fault
witness_text : (n : Option (List ℕ)) (c : Circuit) (k : ℕ) (second : Option (List ℕ)) (e : ReadFault) (w : Why) → e.why ≡ w
    → IfSome second (λ text. (e.why ≡ circuit_why.Device) ⊎ ((e.why ≡ circuit_why.NoMemory) ⊎ IsAsciiFaultOf text e)) → IfSecond (IsFaultyWitness n c k second) (of_witness_reading_for e w)
witness_text n c k second e circuit_why.Device is h = tt
witness_text n c k second e circuit_why.NoMemory is h = tt
witness_text n c k None e _ is h = tt
witness_text n c k (Some text) e _ is (inl device) = absurd (cc)
witness_text n c k (Some text) e _ is (inr (inl memory)) = absurd (cc)
witness_text n c k (Some text) e _ is (inr (inr at)) = at

witness_test : (n : Option (List ℕ)) (c : Circuit) (k : ℕ) (second : Option (List ℕ)) (e : TestFault) → HasNoTest n c k second (witness.Test e) → IfSecond (IsFaultyWitness n c k second) (of_witness (witness.Test e))
witness_test n c k second test.NoMemory h = tt
witness_test n c k second _ (w, text, inl refused) = (w, text, refused)
witness_test n c k second _ (w, text, inr memory) = let is = memory.1 in absurd (cc)

-- no formula is owed by a witness circuit: the second file is refused, for its text or its circuit
pub refuses_witness : (n : Option (List ℕ)) (c : Circuit) (k : ℕ) (second : Option (List ℕ)) (e : WitnessFault) → HasNoTest n c k second e → IfSecond (IsFaultyWitness n c k second) (of_witness e)
refuses_witness n c k second (witness.Form e) h = absurd h
refuses_witness n c k second (witness.Text e) h = witness_text n c k second e e.why refl h
refuses_witness n c k second (witness.Test e) h = witness_test n c k second e h

with_witness_form : (c : Circuit) (k : ℕ) (second : Option (List ℕ)) (d : Circuit) (r : Refusal) → IsFormFor c k d → IfSecond (IsFaultyWitness None d 0 second) r → IfSecond (IsFaultyOverForm c k second) r
with_witness_form c k second d (refusal.Second f) is h = record { form = d; is_form = is; faulty = h }
with_witness_form c k second d _ is h = tt

-- the same over an engine form, or the first file is refused for that
pub refuses_witness_of_form : (c : Circuit) (k : ℕ) (second : Option (List ℕ)) (e : WitnessFault) → HasNoTestOverForm c k second e → IfSecond (IsFaultyOverForm c k second) (of_witness e)
refuses_witness_of_form c k second (witness.Form e) h = form_no_second (IsFaultyOverForm c k second) e
refuses_witness_of_form c k second (witness.Text e) h = with_witness_form c k second h.form (of_witness (witness.Text e)) h.is_form (refuses_witness None h.form 0 second (witness.Text e) h.none)
refuses_witness_of_form c k second (witness.Test e) h = with_witness_form c k second h.form (of_witness (witness.Test e)) h.is_form (refuses_witness None h.form 0 second (witness.Test e) h.none)

-- the third file's count, where its proof is not judged
pub counted_proof : (e : CertificateFault) (f s t t' o err : ℕ) → IsOfProof e → ((old : ℕ) → CountsCertificate {T = Judgement} (Err e) old old t t') → CountsAll {T = Judgement} (Err (of_certificate e)) f f s s t t' o o err err
counted_proof (certificate.Claim e) f s t t' o err of h = absurd of
counted_proof (certificate.Judge e) f s t t' o err of h = ((refl, refl, refl, refl), (h 0).1)
counted_proof certificate.Device f s t t' o err of h = (refl, refl, (h 0).1, refl, refl)

-- ---- what is done

-- what never rises in the circuit never does in what the first text gives
pub never : (g : Given) (known : Option (List ℕ)) (c : Circuit) (gives : GivesItsCircuit g known c) (k : ℕ) → ((items : List Item) (d : Circuit) (b : ℕ) → Lowers items d → CanRise items b ↔ CanRiseInCircuit d b) → (CanRiseInCircuit c k → ⊥) → NeverRises g known c gives k
never given.Model known c gives k alike cannot = λ rise. cannot ((alike gives.items c k gives.lowers).0 rise)
never given.Fitted known c gives k alike cannot = λ rise. cannot ((alike gives.narrow c k gives.lowers).0 ((gives.fits.rise_alike k).0 rise))
never given.Circuit known c gives k alike cannot = cannot

-- ---- what is refused of the first file

not_guarded : (g : Given) (choice : Option ℕ) (known : Option (List ℕ)) (c : Circuit) (f : Fault) → GivesItsCircuit g known c → IsUnguarded choice c f → IsNotGuarded g choice known f
not_guarded g choice known c (fault.Engine e) gives is = record { circuit = c; gives = gives; unguarded = is }
not_guarded g choice known c (fault.Test e) gives is = record { circuit = c; gives = gives; unguarded = is }
not_guarded g choice known c (fault.Unchosen n) gives is = record { circuit = c; gives = gives; unguarded = is }
not_guarded g choice known c _ gives is = absurd is

-- a first file is refused of whose circuit no bad property is claimed so by a certificate of a kind
pub not_certifiable : (by : Certificate) (g : Given) (choice : Option ℕ) (known : Option (List ℕ)) (c : Circuit) (f : Fault) → GivesItsCircuit g known c → IsUnclaimedBy by choice c f → IsNotCertifiable by g choice known f
not_certifiable kind.Invariant g choice known c f gives is = rw is.0 (not_claimed claimed.Certified g known c f gives is.1)
not_certifiable kind.Circuit g choice known c f gives is = not_guarded g choice known c f gives is
not_certifiable kind.CircuitOfForm g choice known c f gives is = rw is.0 (not_claimed claimed.Guarded g known c f gives is.1)

-- or that has no engine form that the certificate speaks of
pub formless_by : (by : Certificate) (g : Given) (choice : Option ℕ) (known : Option (List ℕ)) (c : Circuit) (claim : ℕ) (x : Refusal) → GivesItsCircuit g known c → IsClaim choice c claim → IfInput (IsWithoutFormBy by c claim) x → IfInput (IsNotCertifiable by g choice known) x
formless_by kind.Invariant g choice known c claim x gives is without = formless claimed.Certified g choice known c claim x gives is without
formless_by kind.CircuitOfForm g choice known c claim x gives is without = formless claimed.Guarded g choice known c claim x gives is without
formless_by kind.Circuit g choice known c claim (refusal.Input f) gives is without = absurd without
formless_by kind.Circuit g choice known c claim _ gives is without = tt

-- a second text has a fault
pub faulty_by : (by : Certificate) (g : Given) (choice : Option ℕ) (first second n : Option (List ℕ)) (c : Circuit) (claim : ℕ) (x : Refusal) → GivesItsCircuit g first c → IsGivenNumbering g first c n → IsClaim choice c claim → IfSecond (IsFaultyBy by n c claim second) x → IfSecond (IsFaultyCertificate by g choice first second) x
faulty_by by g choice first second n c claim (refusal.Second f) gives numbers is faulty = record { circuit = c; numbering = n; claim = claim; gives = gives; is_numbering = numbers; is_claim = is; faulty = faulty }
faulty_by by g choice first second n c claim _ gives numbers is faulty = tt

-- a formula that is owed for what the first text gives
pub owed_so : (r : Result Formula Refusal) (of : Certified) (first second n : Option (List ℕ)) (c : Circuit) (claim : ℕ) → GivesItsCircuit of.given first c → IsGivenNumbering of.given first c n → IsClaim of.choice c claim → IfOk r (IsOwedBy of.by n c claim second) → IfOk r (IsOwedFormula of first second)
owed_so (Ok f) of first second n c claim gives numbers is owed = record { circuit = c; numbering = n; claim = claim; gives = gives; is_numbering = numbers; is_claim = is; is_owed = owed }
owed_so (Err x) of first second n c claim gives numbers is owed = tt

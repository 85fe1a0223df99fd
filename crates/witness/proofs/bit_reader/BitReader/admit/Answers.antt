use Rattle.std.proofs.Common.{◌≡◌, ◌<◌, ◌^◌, Ok, Err, map, length, subst, sym, ap, ◌∙◌, refl, arith}
use Rattle.std.proofs.lemmas.Result.{err_from_is_err_and}
use Rattle.aiger.specs.Circuit.{Circuit}
use Rattle.witness.specs.declared.why.Why.{Why}
use Rattle.witness.specs.declared.why.Why.TheVariants as why
use Rattle.witness.specs.declared.bit_reader.BitPlace.TheVariants as code
use Rattle.witness.specs.declared.bit_reader.BitGiven.TheVariants as given
use Rattle.witness.specs.BitAdmits.{claim_at, bits_at}
use Rattle.witness.specs.Admits.{is_one_bit}
use Rattle.witness.specs.BitStands.{line_room}
use Rattle.witness.proofs.BitReaderLemmas.{gives_whole, header_refused, header_admitted, claim_refused, claim_admitted, initial_refused, initial_admitted, end_refused, end_admitted, trailing_refused, frame_gives}
use Rattle.witness.proofs.bit_reader.BitReader.admit.Goals as goal

pub returns-then-not-is_word-clause-line : goal.returns-then-not-is_word-clause-line
returns-then-not-is_word-clause-line c circuit r whole reads front =
    gives_whole circuit r c.args.line.now c.args.self.now reads code.Header c.args.digits whole c.args.self.now (Err why.BadHeader) c.in-Header.is refl front
    (header_refused circuit r c.args.line.now c.args.self.now reads c.in-Header.is (sym c.is_word.ensures ∙ c.if-not-is_word.true))

pub returns-else-not-is_word-clause-line : goal.returns-else-not-is_word-clause-line
returns-else-not-is_word-clause-line c circuit r whole reads front =
    gives_whole circuit r c.args.line.now c.args.self.now reads code.Header c.args.digits whole (record c.args.self.now { place = code.Claim }) (Ok given.Nothing) c.in-Header.is refl front
    (header_admitted circuit r c.args.line.now c.args.self.now reads c.in-Header.is (sym c.is_word.ensures ∙ c.if-not-is_word.false))

pub returns-in_ok-self-in-Claim-clause-line : goal.returns-in_ok-self-in-Claim-clause-line
returns-in_ok-self-in-Claim-clause-line c circuit r whole reads front =
    let count : length c.bads.result.now ≡ length circuit.bads = ap length c.bads.ensures.items ∙ ap (λ (k : Circuit). length k.bads) reads.circuit in
    let small : length circuit.bads < 2 ^ 64 = subst (λ n. n < 2 ^ 64) count (omega (arith, c.bads.type_inv)) in
    claim_admitted circuit r whole c.args.self.now reads c.args.line.now c.in_ok-self-in-Claim.field-0 c.in-Claim.is small
    (subst (λ n. claim_at n whole ≡ Ok c.in_ok-self-in-Claim.field-0) count (sym (c.claim_of.ensures (line_room circuit) whole (omega arith) front) ∙ c.in_ok-self-in-Claim.was))

pub returns-in_err-self-in-Claim-clause-line : goal.returns-in_err-self-in-Claim-clause-line
returns-in_err-self-in-Claim-clause-line c circuit r whole reads front =
    let count : length c.bads.result.now ≡ length circuit.bads = ap length c.bads.ensures.items ∙ ap (λ (k : Circuit). length k.bads) reads.circuit in
    let gone = err_from_is_err_and c.from_residual.result c.from_residual.ensures.1 in
    let why : Why = c.in_err-self-in-Claim.field-0.0 in
    let is : c.from_residual.result ≡ Err why = gone.1 ∙ ap Err gone.2 in
    rw is (claim_refused circuit r whole c.args.self.now reads why c.in-Claim.is (subst (λ n. claim_at n whole ≡ Err why) count (sym (c.claim_of.ensures (line_room circuit) whole (omega arith) front) ∙ c.in_err-self-in-Claim.was)))

pub returns-in-Some-clause-line : goal.returns-in-Some-clause-line
returns-in-Some-clause-line c circuit r whole reads front =
    let count : length c.latches.result.now ≡ length circuit.latches = ap length c.latches.ensures.items ∙ ap (λ (k : Circuit). length k.latches) reads.circuit in
    gives_whole circuit r c.args.line.now c.args.self.now reads code.Initial c.args.digits whole c.args.self.now (Err c.in-Some.why) c.in-Initial.is refl front
    (initial_refused circuit r c.args.line.now c.args.self.now reads c.in-Some.why c.in-Initial.is (subst (λ n. bits_at n c.args.line.now ≡ Err c.in-Some.why) count c.in-Some.ensures))

pub returns-in_default-clause-line : goal.returns-in_default-clause-line
returns-in_default-clause-line c circuit r whole reads front =
    let count : length c.latches.result.now ≡ length circuit.latches = ap length c.latches.ensures.items ∙ ap (λ (k : Circuit). length k.latches) reads.circuit in
    gives_whole circuit r c.args.line.now c.args.self.now reads code.Initial c.args.digits whole (record c.args.self.now { place = code.First }) (Ok given.Initial) c.in-Initial.is refl front
    (initial_admitted circuit r c.args.line.now c.args.self.now reads c.in-Initial.is (subst (λ n. bits_at n c.args.line.now ≡ Ok (map is_one_bit c.args.line.now)) count c.in_default.ensures.1))

pub returns-then-is_word-clause-line : goal.returns-then-is_word-clause-line
returns-then-is_word-clause-line c circuit r whole reads front =
    gives_whole circuit r c.args.line.now c.args.self.now reads code.First c.args.digits whole c.args.self.now (Err why.FrameOrder) c.in-First.is refl front
    (end_refused circuit r c.args.line.now c.args.self.now reads c.in-First.is (sym c.is_word-in-First.ensures ∙ c.if-is_word.true))

pub returns-then-is_word-2-clause-line : goal.returns-then-is_word-2-clause-line
returns-then-is_word-2-clause-line c circuit r whole reads front =
    gives_whole circuit r c.args.line.now c.args.self.now reads code.Later c.args.digits whole (record c.args.self.now { place = code.Done }) (Ok given.Nothing) c.in-Later.is refl front
    (end_admitted circuit r c.args.line.now c.args.self.now reads c.in-Later.is (sym c.is_word-in-Later.ensures ∙ c.if-is_word-2.true))

pub returns-in-Done-clause-line : goal.returns-in-Done-clause-line
returns-in-Done-clause-line c circuit r whole reads front = trailing_refused circuit r whole c.args.self.now reads c.in-Done.is

pub returns-else-is_word-clause-line : goal.returns-else-is_word-clause-line
returns-else-is_word-clause-line c circuit r whole reads front =
    gives_whole circuit r c.args.line.now c.args.self.now reads code.First c.args.digits whole c.admit_frame.new.self c.admit_frame.result c.in-First.is refl front
    (frame_gives circuit r c.args.line.now c.args.self.now reads code.First c.admit_frame.new.self c.admit_frame.result c.in-First.is refl (sym c.is_word-in-First.ensures ∙ c.if-is_word.false) (c.admit_frame.ensures.frame circuit r reads))

pub returns-else-is_word-2-clause-line : goal.returns-else-is_word-2-clause-line
returns-else-is_word-2-clause-line c circuit r whole reads front =
    gives_whole circuit r c.args.line.now c.args.self.now reads code.Later c.args.digits whole c.admit_frame-in-Later.new.self c.admit_frame-in-Later.result c.in-Later.is refl front
    (frame_gives circuit r c.args.line.now c.args.self.now reads code.Later c.admit_frame-in-Later.new.self c.admit_frame-in-Later.result c.in-Later.is refl (sym c.is_word-in-Later.ensures ∙ c.if-is_word-2.false) (c.admit_frame-in-Later.ensures.frame circuit r reads))

use Rattle.std.proofs.Common.{◌≡◌, ℕ, Bool, List, Ok, Err, length, sym, ap, subst, ◌∙◌, arith}
use Rattle.base.specs.Fixed.{refilled}
use Rattle.std.proofs.lemmas.Result.{err_from_is_err_and}
use Rattle.witness.specs.declared.why.Why.{Why}
use Rattle.base.proofs.FixedLemmas.{refilled_is}
use Rattle.witness.specs.Fits.{AreClaimed}
use Rattle.witness.specs.declared.word_reader.Place.TheVariants as code
use Rattle.witness.specs.Texts.{shape_of}
use Rattle.witness.specs.Admits.{claims_at}
use Rattle.witness.specs.WordClaims.{AreClaims}
use Rattle.witness.specs.WordStands.{WordReader}
use Rattle.witness.proofs.WordReaderLemmas.{claims_there, claims_admitted, claims_refused}
use Rattle.witness.proofs.word_reader.WordReader.admit_claims.Goals as goal

pub returns-clause-line : goal.returns-clause-line
returns-clause-line c items r bytes reads there =
    let are : AreClaims c.self.inside.claims c.as_mut_slice.result.now bytes = subst (λ (l : List Bool). AreClaims c.self.inside.claims l bytes) (sym c.as_mut_slice.ensures.value) (claims_there items r bytes _ _ c.self.view_is reads code.Claims there) in
    let count : length c.as_mut_slice.result.now ≡ (shape_of items).bads = ap length c.as_mut_slice.ensures.value ∙ (ap (λ (q : WordReader). length q.claimed) c.self.view_is ∙ reads.many) in
    let told = c.in_ok-end.ensures.line bytes are in
    let back = refilled_is c.self.inside.claimed c.end.new.claimed (omega (arith, ap length c.as_mut_slice.ensures.value)) in
    claims_admitted items r bytes _ _ c.self.view_is reads (refilled c.self.inside.claimed c.end.new.claimed) told.0 there (subst (λ (n : ℕ). claims_at n bytes ≡ Ok told.0) count told.1.0)
    (subst (λ (l : List Bool). AreClaimed l told.0) (sym back) told.1.1) (ap length back ∙ (c.end.ensures.many ∙ ap length c.as_mut_slice.ensures.value))

pub returns-in_err-end-clause-line : goal.returns-in_err-end-clause-line
returns-in_err-end-clause-line c items r bytes reads there =
    let gone = err_from_is_err_and c.from_residual.result c.from_residual.ensures.1 in
    let why : Why = c.in_err-end.field-0.0 in
    let is : c.from_residual.result ≡ Err why = gone.1 ∙ ap Err gone.2 in
    let are : AreClaims c.self.inside.claims c.as_mut_slice.result.now bytes = subst (λ (l : List Bool). AreClaims c.self.inside.claims l bytes) (sym c.as_mut_slice.ensures.value) (claims_there items r bytes _ _ c.self.view_is reads code.Claims there) in
    let count : length c.as_mut_slice.result.now ≡ (shape_of items).bads = ap length c.as_mut_slice.ensures.value ∙ (ap (λ (q : WordReader). length q.claimed) c.self.view_is ∙ reads.many) in
    rw is (claims_refused items r bytes _ _ c.self.view_is reads why there (subst (λ (n : ℕ). claims_at n bytes ≡ Err why) count (c.in_err-end.ensures.line bytes are)))

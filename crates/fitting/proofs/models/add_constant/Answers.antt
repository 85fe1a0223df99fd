use Rattle.std.proofs.Common.{◌≡◌, ℕ, ◌+◌, ◌*◌, ◌<◌, ◌≤◌, true, List, length, Some, sym, ap, subst, ◌∙◌}
use Rattle.btor2.specs.declared.item.Body.{Body}
use Rattle.btor2.specs.Items.{constant_word}
use Rattle.wide.specs.Lines.{number_of_digits}
use Rattle.pieces.specs.Lines.{named}
use Rattle.pieces.specs.Constants.{digits_value}
use Rattle.fitting.specs.Fitted.{constant_fits_word}
use Rattle.fitting.specs.Tables.{table_of}
use Rattle.fitting.proofs.ModelLemmas.{has_sort}
use Rattle.fitting.proofs.models.add_constant.Goals as goal

pub constant_digits-requires : goal.constant_digits-requires
constant_digits-requires g c =
    let k = c.args.constant.now in
    let sort = has_sort g.at.wide (table_of c.args.fitter.now) c.args.fitter.now.maker (named k.id g.at.symbol g.at.body) k.spelling k.sort k.count (number_of_digits k.number.items) c.width-width.result c.requires.0 c.requires.1.0 c.requires.1.1 c.width-width.ensures in
    record { least = sort.least; fits = subst (λ (b : Body). constant_fits_word c.width-width.result b ≡ true) c.requires.1.1 sort.fits }

pub add_digits-requires : goal.add_digits-requires
add_digits-requires g c =
    let k = c.args.constant.now in
    let width = c.width-width.result in
    let sort = has_sort g.at.wide (table_of c.args.fitter.now) c.args.fitter.now.maker (named k.id g.at.symbol g.at.body) k.spelling k.sort k.count (number_of_digits k.number.items) width c.requires.0 c.requires.1.0 c.requires.1.1 c.width-width.ensures in
    let ds = sym c.as_slice.ensures.value in (
      c.requires.0,
      (
        c.requires.1.0,
        (
          sort.line,
          (
            sort.node,
            (
              sort.is,
              (
                ap (constant_word width) c.requires.1.1 ∙ c.in_ok-digits.ensures.word ∙ ap (λ (l : List ℕ). Some (digits_value l)) ds,
                (subst (λ (l : List ℕ). width ≤ 64 * length l) ds c.in_ok-digits.ensures.enough, subst (λ (l : List ℕ). 64 * length l < width + 64) ds c.in_ok-digits.ensures.few),
              ),
            ),
          ),
        ),
      ),
    )

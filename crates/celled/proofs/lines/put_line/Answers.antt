use Rattle.std.proofs.Common.{◌≡◌, true, ◌||◌, ◌++◌, ◌∷◌, None, ap, subst, ◌∙◌}
use Rattle.btor2.specs.declared.item.Item.{Item}
use Rattle.btor2.specs.declared.item.Body.{Body}
use Rattle.btor2.specs.Items.{is_input, is_state}
use Rattle.fitting.specs.Fitted.{is_leaf}
use Rattle.wide.specs.Lines.{item_of}
use Rattle.wide.specs.WideModels.{greatest_width, wide_refusal}
use Rattle.celled.specs.Steps.{HasSize}
use Rattle.celled.proofs.CallLemmas.{leaf_there, leaf_width_is}
use Rattle.celled.proofs.lines.put_line.Goals as goal

pub width_at-width-requires : goal.width_at-width-requires
width_at-width-requires g c =
    let leaf : is_leaf c.in-Item.item ≡ true = ap (λ (b : Body). is_input b || is_state b) c.in-Input.is in
    let same : item_of c.args.line.now ≡ c.in-Item.item = ap item_of c.in-Item.is in
    let accepted : wide_refusal greatest_width g.at.front c.in-Item.item ≡ None = subst (λ (x : Item). wide_refusal greatest_width g.at.front x ≡ None) same c.requires.1.0 in
    let wide : c.args.wide.now ≡ g.at.front ++ c.in-Item.item ∷ g.at.after = c.requires.1.1.1.0 ∙ ap (λ (x : Item). g.at.front ++ x ∷ g.at.after) same in
    leaf_there g.at.front c.args.wide.now c.in-Item.item g.at.after accepted wide leaf

pub width_at-width-requires-in-State : goal.width_at-width-requires-in-State
width_at-width-requires-in-State g c =
    let leaf : is_leaf c.in-Item.item ≡ true = ap (λ (b : Body). is_input b || is_state b) c.in-State.is in
    let same : item_of c.args.line.now ≡ c.in-Item.item = ap item_of c.in-Item.is in
    let accepted : wide_refusal greatest_width g.at.front c.in-Item.item ≡ None = subst (λ (x : Item). wide_refusal greatest_width g.at.front x ≡ None) same c.requires.1.0 in
    let wide : c.args.wide.now ≡ g.at.front ++ c.in-Item.item ∷ g.at.after = c.requires.1.1.1.0 ∙ ap (λ (x : Item). g.at.front ++ x ∷ g.at.after) same in
    leaf_there g.at.front c.args.wide.now c.in-Item.item g.at.after accepted wide leaf

pub put_leaf-requires : goal.put_leaf-requires
put_leaf-requires g c =
    let leaf : is_leaf c.in-Item.item ≡ true = ap (λ (b : Body). is_input b || is_state b) c.in-Input.is in
    let same : item_of c.args.line.now ≡ c.in-Item.item = ap item_of c.in-Item.is in
    let accepted : wide_refusal greatest_width g.at.front c.in-Item.item ≡ None = subst (λ (x : Item). wide_refusal greatest_width g.at.front x ≡ None) same c.requires.1.0 in
    let wide : c.args.wide.now ≡ g.at.front ++ c.in-Item.item ∷ g.at.after = c.requires.1.1.1.0 ∙ ap (λ (x : Item). g.at.front ++ x ∷ g.at.after) same in (
      c.requires.0,
      (
        accepted,
        (
          c.requires.1.1.0,
          (
            same,
            (
              (c.in-Input.sort, c.in-Input.is),
              (
                leaf_width_is g.at.front c.args.wide.now c.in-Item.item g.at.after c.width_at-width.result accepted wide leaf c.width_at-width.ensures,
                subst (λ (x : Item). HasSize g.at.front x c.args.size) same c.requires.1.1.1.1,
              ),
            ),
          ),
        ),
      ),
    )

pub put_leaf-requires-in-State : goal.put_leaf-requires-in-State
put_leaf-requires-in-State g c =
    let leaf : is_leaf c.in-Item.item ≡ true = ap (λ (b : Body). is_input b || is_state b) c.in-State.is in
    let same : item_of c.args.line.now ≡ c.in-Item.item = ap item_of c.in-Item.is in
    let accepted : wide_refusal greatest_width g.at.front c.in-Item.item ≡ None = subst (λ (x : Item). wide_refusal greatest_width g.at.front x ≡ None) same c.requires.1.0 in
    let wide : c.args.wide.now ≡ g.at.front ++ c.in-Item.item ∷ g.at.after = c.requires.1.1.1.0 ∙ ap (λ (x : Item). g.at.front ++ x ∷ g.at.after) same in (
      c.requires.0,
      (
        accepted,
        (
          c.requires.1.1.0,
          (
            same,
            (
              (c.in-State.sort, c.in-State.is),
              (
                leaf_width_is g.at.front c.args.wide.now c.in-Item.item g.at.after c.width_at-width-in-State.result accepted wide leaf c.width_at-width-in-State.ensures,
                subst (λ (x : Item). HasSize g.at.front x c.args.size) same c.requires.1.1.1.1,
              ),
            ),
          ),
        ),
      ),
    )

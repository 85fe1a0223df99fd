-- Nodes as pieces, by their ids.
use Rattle.std.proofs.Common.{◌≡◌, ℕ, ◌+◌, true, List, [], ◌∷◌, Option, is_some, map, unwrap_or, refl, ap, ap₂, ◌∙◌}
use Rattle.std.specs.List.{AllByRecursion}
use Rattle.base.specs.Operator.{concat_value}
use Rattle.btor2.specs.declared.item.Item.{Item}
use Rattle.btor2.specs.Items.{node_width}
use Rattle.btor2.specs.Trace.{Frame, bits_of}
use Rattle.btor2.proofs.AppendLemmas.{is_some_from}
use Rattle.fit.specs.Fitting.{pieces_word, pieces_width}
use Rattle.fit.specs.Gives.{Gives}
use Rattle.pieces.specs.declared.node.Node.{Node}
use Rattle.pieces.specs.Nodes.{word_of, bits_in, AreNodes, IsNode, MakesWord}

abbrev ids : List Node → List ℕ
ids rs = map (λ (p : Node). p.id) rs

own_bits : (items : List Item) (p : Node) → IsNode items p → bits_of items p.id ≡ p.width
own_bits items p h = ap (λ (o : Option ℕ). unwrap_or o 0) h

there : (items : List Item) (rs : List Node) → AreNodes items rs → AllByRecursion (λ p. is_some (node_width items p) ≡ true) (ids rs)
there items [] h = tt
there items (p ∷ ps) h = (is_some_from (node_width items p.id) p.width h.0, there items ps h.1)

same_width : (items : List Item) (rs : List Node) → AreNodes items rs → pieces_width (bits_of items) (ids rs) ≡ bits_in rs
same_width items [] h = refl
same_width items (p ∷ ps) h = ap₂ (λ (i j : ℕ). i + j) (same_width items ps h.1) (own_bits items p h.0)

same_word : (items : List Item) (g : Frame) (rs : List Node) → AreNodes items rs → pieces_word (bits_of items) g (ids rs) ≡ word_of g rs
same_word items g [] h = refl
same_word items g (p ∷ ps) h = ap₂ (λ (i j : ℕ). concat_value i j (g p.id)) (same_word items g ps h.1) (own_bits items p h.0)

pub gives : (items : List Item) (bits : ℕ) (value : Frame → ℕ) (rs : List Node) → MakesWord items bits value rs → Gives items bits value (ids rs)
gives items bits value rs h =
    record {
      nodes = there items rs h.nodes;
      width = same_width items rs h.nodes ∙ h.wide;
      word = λ more state input g w states inputs frame. same_word items g rs h.nodes ∙ h.word more state input g w states inputs frame;
    }

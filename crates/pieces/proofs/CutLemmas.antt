-- Bits of nodes one above the other.
use Rattle.std.proofs.Common.{◌≡◌, ℕ, ◌+◌, ◌-◌, ◌/◌, ◌%◌, ◌^◌, ◌<◌, ◌≤◌, List, [], ◌∷◌, ◌++◌, append_assoc, refl, sym, ap, ap₂, subst, ◌∙◌, arith}
use Rattle.std.proofs.lemmas.Nat.{shr-shr, mod-pow-add, mod_below}
use Rattle.std.specs.List.{AllByRecursion}
use Rattle.base.specs.Operator.{concat_value}
use Rattle.btor2.specs.declared.item.Item.{Item}
use Rattle.pieces.specs.declared.node.Node.{Node}
use Rattle.pieces.specs.Nodes.{word_of, bits_in, AreNodes, Extends, IsNode, Makes, MakesWord}
use Rattle.pieces.specs.Cuts.{widths, IsCut, IsBehind}
use Rattle.pieces.proofs.NodeLemmas.{extends_twice, later, word_fits, makes_same}
use Rattle.pieces.proofs.WordLemmas.{field_low, field_across, field_all, from_first}
use Rattle.pieces.proofs.ListLemmas.{bits_append, bits_more, word_more, nodes_more, nodes_kept, behind_word}

-- all bits of a node
pub part_whole : (items : List Item) (p : Node) (low width : ℕ) → IsNode items p → low + width ≤ p.width → width ≡ p.width → Makes items width (λ g. g p.id / 2 ^ low % 2 ^ width) p
part_whole items p low width h within is =
    let first : low ≡ 0 = omega (arith, within, is) in
    record {
      node = h;
      wide = sym is;
      word = λ more state input g w states inputs frame.
          sym (ap₂ (λ (l n : ℕ). g p.id / 2 ^ l % 2 ^ n) first is ∙ field_all p.width (g p.id) (word_fits items p h more state input g w states inputs frame));
    }

-- bits of the first node alone
pub bits_low : (items : List Item) (first : Node) (more : List Node) (low width : ℕ) (r : Node) → IsNode items first → low + width ≤ first.width → Makes items width (λ g. g first.id / 2 ^ low % 2 ^ width) r
    → Makes items width (λ g. word_of g (first ∷ more) / 2 ^ low % 2 ^ width) r
bits_low items first more low width r in_first within h =
    makes_same items width width (λ g. g first.id / 2 ^ low % 2 ^ width) (λ g. word_of g (first ∷ more) / 2 ^ low % 2 ^ width) r h refl
    (λ rest state input g w states inputs frame. sym (field_low first.width (word_of g more) (g first.id) low width (word_fits items first in_first rest state input g w states inputs frame) within))

-- bits of the first node and of those above it
pub bits_across : (old m1 m2 new : List Item) (first : Node) (more : List Node) (low width : ℕ) (p a r : Node) → IsNode old first → Extends old m1 → Extends m1 m2 → Extends m2 new → low ≤ first.width → first.width - low ≤ width
    → Makes m1 (first.width - low) (λ g. g first.id / 2 ^ low % 2 ^ (first.width - low)) p → Makes m2 (width - (first.width - low)) (λ g. word_of g more / 2 ^ 0 % 2 ^ (width - (first.width - low))) a
    → Makes new (a.width + p.width) (λ g. concat_value (g a.id) p.width (g p.id)) r → Makes new width (λ g. word_of g (first ∷ more) / 2 ^ low % 2 ^ width) r
bits_across old m1 m2 new first more low width p a r in_first e1 e2 e3 below enough hp ha hr =
    let own = first.width - low in
    let all : (width - own) + own ≡ width = omega (arith, enough) in
    let e13 = extends_twice m1 m2 new e2 e3 in
    makes_same new (a.width + p.width) width (λ g. concat_value (g a.id) p.width (g p.id)) (λ g. word_of g (first ∷ more) / 2 ^ low % 2 ^ width) r hr (ap₂ (λ (i j : ℕ). i + j) ha.wide hp.wide ∙ all)
    (λ rest state input g w states inputs frame.
    let at_p = later m1 new (λ g. g p.id ≡ g first.id / 2 ^ low % 2 ^ own) e13 hp.word rest state input g w states inputs frame in
    let at_a = later m2 new (λ g. g a.id ≡ word_of g more / 2 ^ 0 % 2 ^ (width - own)) e3 ha.word rest state input g w states inputs frame in
    let fits = later old new (λ g. g first.id < 2 ^ first.width) (extends_twice old m1 new e1 e13) (word_fits old first in_first) rest state input g w states inputs frame in
    ap₂ (λ (i j : ℕ). concat_value i p.width j) (at_a ∙ from_first (width - own) (word_of g more)) at_p ∙ ap (λ (k : ℕ). concat_value (word_of g more % 2 ^ (width - own)) k (g first.id / 2 ^ low % 2 ^ own)) hp.wide
    ∙ sym (field_across first.width (word_of g more) (g first.id) low (width - own) width fits below all))

-- bits of what is behind
pub field_behind : (old new : List Item) (xs rest : List Node) (low inside width : ℕ) (r : Node) → AreNodes old xs → Extends old new → IsBehind xs low rest inside → Makes new width (λ g. word_of g rest / 2 ^ inside % 2 ^ width) r
    → Makes new width (λ g. word_of g xs / 2 ^ low % 2 ^ width) r
field_behind old new xs rest low inside width r in_xs e b h =
    makes_same new width width (λ g. word_of g rest / 2 ^ inside % 2 ^ width) (λ g. word_of g xs / 2 ^ low % 2 ^ width) r h refl
    (λ more state input g w states inputs frame. ap (λ (k : ℕ). k % 2 ^ width) (sym (later old new (λ g. word_of g xs / 2 ^ low ≡ word_of g rest / 2 ^ inside) e (behind_word old xs low rest inside in_xs b) more state input g w states inputs frame)))

-- one node more is passed
pub behind_more : (xs : List Node) (low : ℕ) (p : Node) (more : List Node) (inside : ℕ) → IsBehind xs low (p ∷ more) inside → p.width ≤ inside → IsBehind xs low more (inside - p.width)
behind_more xs low p more inside b enough =
    let passed = b.passed in
    record { front = b.front ++ p ∷ []; splits = b.splits ∙ sym (append_assoc b.front (p ∷ []) more); passed = omega (arith, bits_more b.front p, passed, enough) }

-- bits further up
pub behind_further : (xs : List Node) (low : ℕ) (rest : List Node) (inside by : ℕ) (next : List Node) (into : ℕ) → IsBehind xs low rest inside → IsBehind rest (inside + by) next into → IsBehind xs (low + by) next into
behind_further xs low rest inside by next into b d =
    let first = b.passed in
    let second = d.passed in
    record {
      front = b.front ++ d.front;
      splits = b.splits ∙ ap (λ (l : List Node). b.front ++ l) d.splits ∙ sym (append_assoc b.front d.front next);
      passed = omega (arith, bits_append b.front d.front, first, second);
    }

-- ---- how a word is cut

pub all_of_size : (size v : ℕ) (ws : List ℕ) → AllByRecursion (λ w. w ≡ size) ws → 1 ≤ v → v ≤ size → IsCut size (ws ++ v ∷ [])
all_of_size size v [] h some most = (some, most)
all_of_size size v (w ∷ []) h some most = (h.0, (some, most))
all_of_size size v (w ∷ u ∷ more) h some most = (h.0, all_of_size size v (u ∷ more) h.1 some most)

pub size_more : (size v : ℕ) (ws : List ℕ) → AllByRecursion (λ w. w ≡ size) ws → v ≡ size → AllByRecursion (λ w. w ≡ size) (ws ++ v ∷ [])
size_more size v [] h is = (is, tt)
size_more size v (w ∷ ws) h is = (h.0, size_more size v ws h.1 is)

pub widths_more : (xs : List Node) (p : Node) → widths (xs ++ p ∷ []) ≡ widths xs ++ p.width ∷ []
widths_more [] p = refl
widths_more (x ∷ xs) p = ap (λ (l : List ℕ). x.width ∷ l) (widths_more xs p)

-- ---- pieces one behind the other

pub cut_more : (now new : List Item) (nodes rest out : List Node) (low m taken n inside : ℕ) (r : Node) → AreNodes now nodes → Extends now new → IsBehind nodes (low + m) rest inside → m + taken ≡ n
    → MakesWord now m (λ g. word_of g nodes / 2 ^ low % 2 ^ m) out → Makes new taken (λ g. word_of g rest / 2 ^ inside % 2 ^ taken) r → MakesWord new n (λ g. word_of g nodes / 2 ^ low % 2 ^ n) (out ++ r ∷ [])
cut_more now new nodes rest out low m taken n inside r in_nodes e behind is h k =
    record {
      nodes = nodes_more new out r (nodes_kept now new out e h.nodes) k.node;
      wide = bits_more out r ∙ ap₂ (λ (i j : ℕ). i + j) k.wide h.wide ∙ omega (arith, is);
      word = λ more state input g w states inputs frame.
          let low_side = later now new (λ g. word_of g out ≡ word_of g nodes / 2 ^ low % 2 ^ m) e h.word more state input g w states inputs frame in
          let same = later now new (λ g. word_of g nodes / 2 ^ (low + m) ≡ word_of g rest / 2 ^ inside) e (behind_word now nodes (low + m) rest inside in_nodes behind) more state input g w states inputs frame in
          let high_side = k.word more state input g w states inputs frame in
          let turned : taken + m ≡ n = omega (arith, is) in
          word_more g out r ∙ ap₂ (λ (i j : ℕ). concat_value i (bits_in out) j) (high_side ∙ ap (λ (i : ℕ). i % 2 ^ taken) (sym same ∙ sym (shr-shr (word_of g nodes) low m))) low_side
          ∙ ap (λ (i : ℕ). concat_value (word_of g nodes / 2 ^ low / 2 ^ m % 2 ^ taken) i (word_of g nodes / 2 ^ low % 2 ^ m)) h.wide
          ∙ sym (mod-pow-add (word_of g nodes / 2 ^ low) taken m) ∙ ap (λ (i : ℕ). word_of g nodes / 2 ^ low % 2 ^ i) turned;
    }

pub cut_none : (items : List Item) (nodes : List Node) (low n : ℕ) (out : List Node) → n ≡ 0 → out ≡ [] → MakesWord items n (λ g. word_of g nodes / 2 ^ low % 2 ^ n) out
cut_none items nodes low n out none is =
    record {
      nodes = subst (AreNodes items) (sym is) tt;
      wide = ap bits_in is ∙ sym none;
      word = λ more state input g w states inputs frame.
          let unit : 2 ^ n ≡ 1 = ap (λ (k : ℕ). 2 ^ k) none in
          let rest : word_of g nodes / 2 ^ low % 1 < 1 = mod_below (word_of g nodes / 2 ^ low) 1 (omega arith) in
          ap (word_of g) is ∙ sym (ap (λ (k : ℕ). word_of g nodes / 2 ^ low % k) unit ∙ omega (arith, rest));
    }

-- What reading gives stands for the text.
use Rattle.std.proofs.Common.{◌≡◌, ℕ, zero, suc, ◌+◌, ◌-◌, ◌*◌, ◌^◌, ◌<◌, ◌≤◌, List, [], ◌∷◌, ◌++◌, length, map, take, drop, All, nat_le, Option, Some, None, Ok, Err, inl, inr, refl, sym, ap, subst, ◌∙◌, append_assoc, arith}
use Rattle.std.specs.List.{concat, sum, sum_by, AllByRecursion}
use Rattle.std.specs.List.Sorted.{IsStrictlySortedBy}
use Rattle.std.proofs.lemmas.List.{length-take-le, take-append-drop, length-drop}
use Rattle.std.proofs.lemmas.List.Elements.{All-from_recursion, All-weaker, All-nil, All-cons, All-head, All-tail}
use Rattle.aiger.specs.declared.circuit.Latch.{Latch}
use Rattle.aiger.specs.declared.circuit.Gate.{Gate}
use Rattle.aiger.specs.declared.circuit.Section.{Section}
use Rattle.aiger.specs.declared.circuit.Section.TheVariants as section
use Rattle.aiger.specs.Limits.{greatest_count}
use Rattle.base.specs.Literal.{variable}
use Rattle.aiger.specs.Net.{AreOrderedFrom}
use Rattle.aiger.specs.Circuit.{Circuit, IsCircuit, IsNamed, with_name, name_refusal}
use Rattle.base.specs.Decimals.{number_of}
use Rattle.base.proofs.DecimalLemmas.{chosen}
use Rattle.std.proofs.lemmas.Bool.{leb-true}
use Rattle.std.proofs.lemmas.List.Sums.{sum-map}
use Rattle.aigertext.specs.declared.reading.counts.Counts.{Counts}
use Rattle.aigertext.specs.declared.fault.Why.TheVariants as why
use Rattle.aigertext.specs.declared.forms.Form.{Form}
use Rattle.aigertext.specs.declared.forms.Form.TheVariants.{Binary}
use Rattle.aigertext.specs.Ascii.{form_word, numbers_line, literal_lines, size_lines, property_lines}
use Rattle.aigertext.specs.Counts.{first_of_counts, last_of_counts, counts_in}
use Rattle.aigertext.specs.Binary.{gates_text}
use Rattle.aigertext.specs.Spelling.{IsHeader, AreNextLines, GiveNames, Given, IsEnd, IsBinaryText}
use Rattle.aigertext.specs.Reading.{Properties, sized_lists, line_at, literal_on, size_within, size_of, literals_at, sizes_at, justice_at, nexts_at, gates_at, properties_at, nameless, binary_at, names_at, header_of}
use Rattle.aigertext.proofs.BackLemmas.{ok_same, not_err, bind-back, bind-then, lines-back, within-back, literals-back, sizes-back, SaysAt, line-back}
use Rattle.aigertext.proofs.FieldLemmas.{joined, numbers_line-joined}
use Rattle.deltas.proofs.BackLemmas.{AreBytes}
use Rattle.aigertext.proofs.GateBackLemmas.{bytes_behind, gates-back}
use Rattle.aigertext.proofs.HeaderBackLemmas.{HeaderBack, header-back, AreCounts}
use Rattle.aigertext.proofs.LatchBackLemmas.{AreLatchesAt, latches-back}
use Rattle.aigertext.proofs.NameBackLemmas.{names-back}
use Rattle.aigertext.proofs.NameReadLemmas.{HasFewPositions}
use Rattle.aigertext.proofs.PassLemmas.{sum_of_cons}
use Rattle.aigertext.proofs.StandsLemmas.{HasUpTo, property_text}

-- ---- lists of given sizes

fits_front : (n : ℕ) (ns literals : List ℕ) → length literals ≡ sum (n ∷ ns) → (n ≤ length literals) × (length (drop n literals) ≡ sum ns)
fits_front n ns literals e =
    let whole : sum (n ∷ ns) ≡ n + sum ns = sum_of_cons n ns in
    (omega (arith, e, whole), omega (arith, e, whole, length-drop n literals))

sizes_of_lists : (ns literals : List ℕ) → length literals ≡ sum ns → map length (sized_lists ns literals) ≡ ns
sizes_of_lists [] literals e = refl
sizes_of_lists (n ∷ ns) literals e =
    let fits = fits_front n ns literals e in
    ap (λ (k : ℕ). k ∷ map length (sized_lists ns (drop n literals))) (length-take-le n literals fits.0)
    ∙ ap (λ (l : List ℕ). n ∷ l) (sizes_of_lists ns (drop n literals) fits.1)

none_left : (literals : List ℕ) → length literals ≡ 0 → [] ≡ literals
none_left [] e = refl
none_left (l ∷ ls) e = absurd (omega (arith, e))

concat_of_lists : (ns literals : List ℕ) → length literals ≡ sum ns → concat (sized_lists ns literals) ≡ literals
concat_of_lists [] literals e = none_left literals e
concat_of_lists (n ∷ ns) literals e =
    let fits = fits_front n ns literals e in
    ap (λ (l : List ℕ). take n literals ++ l) (concat_of_lists ns (drop n literals) fits.1) ∙ take-append-drop n literals

lists_total : (ns literals : List ℕ) → length literals ≡ sum ns → sum ns ≤ greatest_count → sum_by length (sized_lists ns literals) ≤ greatest_count
lists_total ns literals e few = subst (λ (n : ℕ). n ≤ greatest_count) (ap sum (sym (sizes_of_lists ns literals e)) ∙ sum-map length (sized_lists ns literals)) few

length_lists : (ns literals : List ℕ) → length (sized_lists ns literals) ≡ length ns
length_lists [] literals = refl
length_lists (n ∷ ns) literals = ap suc (length_lists ns (drop n literals))

size_lines-is : (lists : List (List ℕ)) → size_lines lists ≡ literal_lines (map length lists)
size_lines-is [] = refl
size_lines-is (ls ∷ lists) = ap (λ (l : List ℕ). numbers_line (length ls ∷ []) ++ l) (size_lines-is lists)

-- ---- properties

-- literals that were read are small, and so many
record AreSmall (greatest n : ℕ) (ls : List ℕ) : Type 0 where
  many : length ls ≡ n
  small : AllByRecursion (λ l. l ≤ greatest) ls

literals_small : (greatest n : ℕ) (text ls rest : List ℕ) → literals_at greatest n text ≡ Ok (ls, rest) → AreSmall greatest n ls
unfolding literal_on
literals_small greatest zero text ls rest e = subst (AreSmall greatest 0) (ap (λ (p : List ℕ × List ℕ). p.0) (ok_same ([], text) (ls, rest) e)) (record { many = refl; small = tt })
literals_small greatest (suc n) text ls rest e =
    let b = lines-back literal_on (λ g l. g) greatest n text ls rest e in
    let others = literals_small greatest n b.after b.others rest b.more in
    let first : b.first ≤ greatest = (within-back why.BadNumber greatest b.first (number_of b.one.line) b.one.said).1 in
    subst (AreSmall greatest (suc n)) (sym b.all) (record { many = ap suc others.many; small = (first, others.small) })

pub literals_many : (greatest n : ℕ) (text ls rest : List ℕ) → literals_at greatest n text ≡ Ok (ls, rest) → length ls ≡ n
literals_many greatest n text ls rest e = (literals_small greatest n text ls rest e).many

-- all sizes together are within the limit
size_fits : (before n : ℕ) (line : List ℕ) → size_of before line ≡ Ok n → n ≤ greatest_count - before
unfolding size_of
size_fits before n line e = by (number_of line) e
  where
    by : (r : Option ℕ) → size_within before r ≡ Ok n → n ≤ greatest_count - before
    by None g = absurd (not_err _ _ g)
    by (Some m) g =
        elim (chosen (nat_le m (greatest_count - before)) (Ok m) (Err why.TooBig) (Ok n) g) [
          | inl fits ↦ subst (λ (k : ℕ). k ≤ greatest_count - before) (ok_same m n fits.1) (leb-true m (greatest_count - before) fits.0)
          | inr wrong ↦ absurd (not_err _ _ wrong.1)
        ]

sizes_total : (before n : ℕ) (text ls rest : List ℕ) → before ≤ greatest_count → sizes_at before n text ≡ Ok (ls, rest) → before + sum ls ≤ greatest_count
sizes_total before zero text ls rest few e =
    let none : [] ≡ ls = ap (λ (p : List ℕ × List ℕ). p.0) (ok_same ([], text) (ls, rest) e) in
    subst (λ (ns : List ℕ). before + sum ns ≤ greatest_count) none (omega (arith, few))
sizes_total before (suc n) text ls rest few e =
    let b = lines-back size_of (λ b size. b + size) before n text ls rest e in
    let fits = size_fits before b.first b.one.line b.one.said in
    let others = sizes_total (before + b.first) n b.after b.others rest (omega (arith, fits, few)) b.more in
    subst (λ (ns : List ℕ). before + sum ns ≤ greatest_count) (sym b.all) (omega (arith, others, sum_of_cons b.first b.others))

-- justice properties that were read: their lines, and how many and how great they are
record JusticeBack (greatest n : ℕ) (text : List ℕ) (lists : List (List ℕ)) (rest : List ℕ) : Type 0 where
  parts : text ≡ size_lines lists ++ (literal_lines (concat lists) ++ rest)
  count : length lists ≡ n
  total : sum_by length lists ≤ greatest_count
  up_to : All (λ l. l ≤ greatest) (concat lists)

below : (greatest n : ℕ) (text ls rest : List ℕ) → literals_at greatest n text ≡ Ok (ls, rest) → All (λ l. l ≤ greatest) ls
below greatest n text ls rest e = All-from_recursion (λ l. l ≤ greatest) ls (literals_small greatest n text ls rest e).small

justice_are : (greatest n : ℕ) → greatest < 2 ^ 64 - 1 → (text t1 rest ns ls : List ℕ) → sizes_at 0 n text ≡ Ok (ns, t1) → literals_at greatest (sum ns) t1 ≡ Ok (ls, rest) → JusticeBack greatest n text (sized_lists ns ls) rest
justice_are greatest n small text t1 rest ns ls s j =
    let s' = sizes-back 0 n text ns t1 s in
    let j' = literals-back greatest (sum ns) t1 ls rest small j in
    let sizes : size_lines (sized_lists ns ls) ≡ literal_lines ns = size_lines-is (sized_lists ns ls) ∙ ap literal_lines (sizes_of_lists ns ls j'.count) in
    let listed : concat (sized_lists ns ls) ≡ ls = concat_of_lists ns ls j'.count in
    record {
      parts =
          s'.parts ∙ ap (λ (l : List ℕ). literal_lines ns ++ l) j'.parts ∙ ap (λ (l : List ℕ). l ++ (literal_lines ls ++ rest)) (sym sizes)
          ∙ ap (λ (l : List ℕ). size_lines (sized_lists ns ls) ++ (literal_lines l ++ rest)) (sym listed);
      count = length_lists ns ls ∙ s'.count;
      total = lists_total ns ls j'.count (omega (arith, sizes_total 0 n text ns t1 (omega arith) s));
      up_to = subst (All (λ l. l ≤ greatest)) (sym listed) (below greatest (sum ns) t1 ls rest j);
    }

justice-back : (greatest n : ℕ) → greatest < 2 ^ 64 - 1 → (text : List ℕ) (lists : List (List ℕ)) (rest : List ℕ) → justice_at greatest n text ≡ Ok (lists, rest) → JusticeBack greatest n text lists rest
justice-back greatest n small text lists rest e0 =
    bind-then (sizes_at 0 n text) _ (lists, rest) e0
    (λ s s' e1. bind-then (literals_at greatest (sum s.0) s.1) _ (lists, rest) e1
    (λ j j' e2. subst (λ (q : List (List ℕ) × List ℕ). JusticeBack greatest n text q.0 q.1) (ok_same _ (lists, rest) e2) (justice_are greatest n small text s.1 j.1 s.0 j.0 s' j')))

pub record PropertiesBack (h : Counts) (text : List ℕ) (p : Properties) (rest : List ℕ) : Type 0 where
  pub parts : text ≡ literal_lines p.outputs ++ (literal_lines p.bads ++ (literal_lines p.constraints ++ (size_lines p.justice ++ (literal_lines (concat p.justice) ++ (literal_lines p.fair ++ rest)))))
  pub outputs : length p.outputs ≡ h.outputs
  pub bads : length p.bads ≡ h.bads
  pub constraints : length p.constraints ≡ h.constraints
  pub justice : length p.justice ≡ h.justice
  pub fair : length p.fair ≡ h.fair
  pub total : sum_by length p.justice ≤ greatest_count
  pub up_to : HasUpTo (2 * h.variables + 1) (nameless 0 [] p [])

five_parts : (t a b c d e f a' b' c' d' r : List ℕ) → t ≡ a ++ a' → a' ≡ b ++ b' → b' ≡ c ++ c' → c' ≡ d ++ (e ++ d') → d' ≡ f ++ r → t ≡ a ++ (b ++ (c ++ (d ++ (e ++ (f ++ r)))))
five_parts t a b c d e f a' b' c' d' r p q s u v =
    p ∙ ap (λ (l : List ℕ). a ++ l) (q ∙ ap (λ (l : List ℕ). b ++ l) (s ∙ ap (λ (l : List ℕ). c ++ l) (u ∙ ap (λ (l : List ℕ). d ++ (e ++ l)) v)))

-- the parts of properties that were read
module _ (h : Counts) (small : 2 * h.variables + 1 < 2 ^ 64 - 1) (text t1 t2 t3 t4 rest : List ℕ) (os bs cs : List ℕ) (js : List (List ℕ)) (fs : List ℕ)
    (o : literals_at (2 * h.variables + 1) h.outputs text ≡ Ok (os, t1)) (b : literals_at (2 * h.variables + 1) h.bads t1 ≡ Ok (bs, t2)) (c : literals_at (2 * h.variables + 1) h.constraints t2 ≡ Ok (cs, t3))
    (j : justice_at (2 * h.variables + 1) h.justice t3 ≡ Ok (js, t4)) (f : literals_at (2 * h.variables + 1) h.fair t4 ≡ Ok (fs, rest)) where
  properties_are : PropertiesBack h text (record { outputs = os; bads = bs; constraints = cs; justice = js; fair = fs }) rest
  properties_are =
      let o' = literals-back (2 * h.variables + 1) h.outputs text os t1 small o in
      let b' = literals-back (2 * h.variables + 1) h.bads t1 bs t2 small b in
      let c' = literals-back (2 * h.variables + 1) h.constraints t2 cs t3 small c in
      let j' = justice-back (2 * h.variables + 1) h.justice small t3 js t4 j in
      let f' = literals-back (2 * h.variables + 1) h.fair t4 fs rest small f in
      record {
        parts = five_parts text (literal_lines os) (literal_lines bs) (literal_lines cs) (size_lines js) (literal_lines (concat js)) (literal_lines fs) t1 t2 t3 t4 rest o'.parts b'.parts c'.parts j'.parts f'.parts;
        outputs = o'.count;
        bads = b'.count;
        constraints = c'.count;
        justice = j'.count;
        fair = f'.count;
        total = j'.total;
        up_to = record {
          outputs = below (2 * h.variables + 1) h.outputs text os t1 o;
          bads = below (2 * h.variables + 1) h.bads t1 bs t2 b;
          constraints = below (2 * h.variables + 1) h.constraints t2 cs t3 c;
          justice = j'.up_to;
          fair = below (2 * h.variables + 1) h.fair t4 fs rest f;
        };
      }

pub properties-back : (h : Counts) (text : List ℕ) (p : Properties) (rest : List ℕ) → h.variables ≤ greatest_count → properties_at h text ≡ Ok (p, rest) → PropertiesBack h text p rest
unfolding properties_at
properties-back h text p rest few e0 =
    bind-then (literals_at (2 * h.variables + 1) h.outputs text) _ (p, rest) e0
    (λ o o' e1. bind-then (literals_at (2 * h.variables + 1) h.bads o.1) _ (p, rest) e1
    (λ b b' e2. bind-then (literals_at (2 * h.variables + 1) h.constraints b.1) _ (p, rest) e2
    (λ c c' e3. bind-then (justice_at (2 * h.variables + 1) h.justice c.1) _ (p, rest) e3
    (λ j j' e4. bind-then (literals_at (2 * h.variables + 1) h.fair j.1) _ (p, rest) e4
    (λ f f' e5. subst (λ (q : Properties × List ℕ). PropertiesBack h text q.0 q.1) (ok_same _ (p, rest) e5)
    (properties_are h (omega (arith, few)) text o.1 b.1 c.1 j.1 f.1 o.0 b.0 c.0 j.0 f.0 o' b' c' j' f'))))))

-- ---- the circuit

front_holds : (P : ℕ → Type 0) (xs ys : List ℕ) → All P (xs ++ ys) → All P xs × All P ys
front_holds P [] ys h = (All-nil P, h)
front_holds P (x ∷ xs) ys h =
    let rest = front_holds P xs ys (All-tail P x (xs ++ ys) h) in
    (All-cons P x xs (All-head P x (xs ++ ys) h) rest.0, rest.1)

pub lists_hold : (P : ℕ → Type 0) (lists : List (List ℕ)) → All P (concat lists) → All (All P) lists
lists_hold P [] h = All-nil (All P)
lists_hold P (ls ∷ lists) h =
    let parts = front_holds P ls (concat lists) h in
    All-cons (All P) ls lists parts.0 (lists_hold P lists parts.1)

-- names change nothing else
pub names_alone : (c : Circuit) (gs : List Given) (d : Circuit) → GiveNames c gs d → ◌≡◌ {A = Circuit} (record c { names = [] }) (record d { names = [] })
names_alone c [] d e = ap (λ (x : Circuit). record x { names = [] }) e
names_alone c (g ∷ gs) d e = names_alone (with_name c g.section g.position g.name) gs d e.1

-- the text of a circuit's sections before its names
pub record IsBody (h : Counts) (text : List ℕ) (end : List ℕ) (c : Circuit) : Type 0 where
  pub latches : List ℕ
  pub are_latches : AreNextLines (2 * suc c.inputs) c.latches latches
  pub whole : text ≡ latches ++ (property_lines c ++ (gates_text Binary (suc (c.inputs + length c.latches)) c.gates ++ end))
  pub counts : h ≡ counts_in c

-- a circuit of what was read before the gates of a text, and of gates
module _ (form : Form) (h : Counts) (text : List ℕ) (ls : List Latch) (after : List ℕ) (p : Properties) (behind : List ℕ) (gs : List Gate)
    (few_first : AreCounts (first_of_counts h)) (few_last : AreCounts (last_of_counts h)) (fits : h.variables ≡ h.inputs + h.latches + h.gates)
    (l : AreLatchesAt form (2 * h.variables + 1) (suc h.inputs) h.latches text ls after) (q : PropertiesBack h after p behind) (many : length gs ≡ h.gates) where
  few_bare : HasFewPositions (nameless h.inputs ls p gs)
  few_bare section.Input = few_first.1.0
  few_bare section.Latch = omega (arith, l.count, few_first.1.1.0)
  few_bare section.Output = omega (arith, q.outputs, few_first.1.1.1.0)
  few_bare section.Bad = omega (arith, q.bads, few_last.0)
  few_bare section.Constraint = omega (arith, q.constraints, few_last.1.0)
  few_bare section.Justice = omega (arith, q.justice, few_last.1.1.0)
  few_bare section.Fair = omega (arith, q.fair, few_last.1.1.1.0)

  counts_bare : h ≡ counts_in (nameless h.inputs ls p gs)
  counts_bare = rw (fits, l.count, q.outputs, many, q.bads, q.constraints, q.justice, q.fair) refl

  pub bare_valid : AreOrderedFrom (suc (h.inputs + h.latches)) gs → IsCircuit (nameless h.inputs ls p gs)
  unfolding IsStrictlySortedBy
  bare_valid ordered =
      let all : h.inputs + length ls + length gs ≡ h.variables = omega (arith, l.count, many, fits) in
      let defined = λ (lits : List ℕ) (b : All (λ n. n ≤ 2 * h.variables + 1) lits). All-weaker (λ n. n ≤ 2 * h.variables + 1) (λ n. variable n ≤ h.inputs + length ls + length gs) (λ n le. omega (arith, le, all)) lits b in
      record {
        small = omega (arith, all, few_first.0);
        few = record {
          outputs = omega (arith, q.outputs, few_first.1.1.1.0);
          bads = omega (arith, q.bads, few_last.0);
          constraints = omega (arith, q.constraints, few_last.1.0);
          justice = omega (arith, q.justice, few_last.1.1.0);
          justice_literals = q.total;
          fair = omega (arith, q.fair, few_last.1.1.1.0);
        };
        ordered = subst (λ (n : ℕ). AreOrderedFrom (suc (h.inputs + n)) gs) (sym l.count) ordered;
        defined = record {
          nexts = All-weaker (λ x. x.next ≤ 2 * h.variables + 1) (λ x. variable x.next ≤ h.inputs + length ls + length gs) (λ x le. omega (arith, le, all)) ls l.below;
          outputs = defined p.outputs q.up_to.outputs;
          bads = defined p.bads q.up_to.bads;
          constraints = defined p.constraints q.up_to.constraints;
          justice = lists_hold (λ n. variable n ≤ h.inputs + length ls + length gs) p.justice (defined (concat p.justice) q.up_to.justice);
          fair = defined p.fair q.up_to.fair;
        };
        names = record { sorted = tt; named = All-nil (IsNamed (nameless h.inputs ls p gs)) };
      }

-- the law that a circuit with a name more that it takes is one
abbrev pub NameLaw : Type 0
NameLaw = (c : Circuit) (s : Section) (k : ℕ) (name : List ℕ) → IsCircuit c → name_refusal c s k name ≡ None → IsCircuit (with_name c s k name)

pub names_valid : NameLaw → (c : Circuit) (gs : List Given) (d : Circuit) → IsCircuit c → GiveNames c gs d → IsCircuit d
names_valid law c [] d valid e = subst IsCircuit e valid
names_valid law c (g ∷ gs) d valid e = names_valid law (with_name c g.section g.position g.name) gs d (law c g.section g.position g.name valid e.0) e.1

-- the end of a text whose names were read onto a circuit without any
pub record EndBack (bare c : Circuit) (text : List ℕ) : Type 0 where
  pub is_end : IsEnd c text
  pub same : bare ≡ record c { names = [] }
  pub valid : NameLaw → IsCircuit bare → IsCircuit c

pub end-back : (bare c : Circuit) (text : List ℕ) → HasFewPositions bare → ◌≡◌ {A = Circuit} bare (record bare { names = [] }) → names_at bare text ≡ Ok c → EndBack bare c text
end-back bare c text few none read =
    let n = names-back bare text c few read in
    let alone : bare ≡ record c { names = [] } = none ∙ names_alone bare n.given c n.names in
    record {
      is_end = record { given = n.given; names = subst (λ (d : Circuit). GiveNames d n.given c) alone n.names; comment = n.comment; is_comment = n.is_comment; spelled = n.parts };
      same = alone;
      valid = λ law valid. names_valid law bare n.given c valid n.names;
    }

-- the sections and the end of a circuit's text
pub record BinaryBack (h : Counts) (text : List ℕ) (c : Circuit) : Type 0 where
  pub end : List ℕ
  pub body : IsBody h text end c
  pub is_end : IsEnd c end
  pub valid : IsCircuit c

bytes_after : (front rest text : List ℕ) → AreBytes text → text ≡ front ++ rest → AreBytes rest
bytes_after front rest text bytes e = bytes_behind front rest (subst AreBytes e bytes)

binary-back : NameLaw → (h : Counts) (text : List ℕ) (c : Circuit) → AreCounts (first_of_counts h) → AreCounts (last_of_counts h) → h.variables ≡ h.inputs + h.latches + h.gates → AreBytes text → binary_at h text ≡ Ok c → BinaryBack h text c
unfolding binary_at
binary-back law h text c few_first few_last fits bytes e =
    let l = bind-back (nexts_at (2 * h.variables + 1) (2 * suc h.inputs) h.latches text) _ c e in
    let p = bind-back (properties_at h l.value.1) _ c l.then' in
    let g = bind-back (gates_at (2 * suc (h.inputs + h.latches)) h.gates p.value.1) _ c p.then' in
    let l' = latches-back Binary (2 * h.variables + 1) (suc h.inputs) h.latches text l.value.0 l.value.1 (omega (arith, few_first.0)) (omega (arith, few_first.1.0, few_first.1.1.0)) l.was in
    let p' = properties-back h l.value.1 p.value.0 p.value.1 few_first.0 p.was in
    let bytes1 : AreBytes l.value.1 = bytes_after l'.bytes l.value.1 text bytes l'.parts in
    let bytes2 : AreBytes p.value.1 = bytes_after (property_lines (nameless 0 [] p.value.0 [])) p.value.1 l.value.1 bytes1 (p'.parts ∙ sym (property_text (nameless 0 [] p.value.0 []) p.value.1)) in
    let g' = gates-back (suc (h.inputs + h.latches)) h.gates p.value.1 g.value.0 g.value.1 bytes2 g.was in
    let bare : Circuit = nameless h.inputs l.value.0 p.value.0 g.value.0 in
    let n = end-back bare c g.value.1 (few_bare Binary h text l.value.0 l.value.1 p.value.0 p.value.1 g.value.0 few_first few_last fits l' p' g'.count) refl g.then' in
    let body : IsBody h text g.value.1 bare =
    record {
      latches = l'.bytes;
      are_latches = l'.lines;
      whole =
          l'.parts
          ∙ ap (λ (t : List ℕ). l'.bytes ++ t) (p'.parts ∙ sym (property_text bare p.value.1))
          ∙ ap (λ (t : List ℕ). l'.bytes ++ (property_lines bare ++ t))
          (g'.parts ∙ ap (λ (n : ℕ). gates_text Binary (suc (h.inputs + n)) g.value.0 ++ g.value.1) (sym l'.count));
      counts = counts_bare Binary h text l.value.0 l.value.1 p.value.0 p.value.1 g.value.0 few_first few_last fits l' p' g'.count;
    } in
    record {
      end = g.value.1;
      body = body_of h text g.value.1 c (subst (IsBody h text g.value.1) n.same body);
      valid = n.valid law (bare_valid Binary h text l.value.0 l.value.1 p.value.0 p.value.1 g.value.0 few_first few_last fits l' p' g'.count g'.ordered);
      is_end = n.is_end;
    }
  where
    body_of : (h : Counts) (text end : List ℕ) (c : Circuit) → IsBody h text end (record c { names = [] }) → IsBody h text end c
    body_of h text end c b = record { latches = b.latches; are_latches = b.are_latches; whole = b.whole; counts = b.counts }

-- ---- the text

-- the line of a header is one of the format
pub header_spelled : (form : Form) (line : List ℕ) (h : Counts) → HeaderBack form line h → IsHeader form h (line ++ 10 ∷ [])
header_spelled form line h k =
    record {
      kept = k.kept;
      dropped = k.dropped;
      counts = k.counts;
      spelled =
          ap (λ (l : List ℕ). l ++ 10 ∷ []) k.line_is ∙ append_assoc (form_word form) (32 ∷ joined (first_of_counts h ++ k.kept)) (10 ∷ [])
          ∙ ap (λ (l : List ℕ). form_word form ++ 32 ∷ l) (sym (numbers_line-joined (first_of_counts h ++ k.kept)));
    }

-- a text with a header of the binary form
with_header : (text : List ℕ) (c : Circuit) (h : Counts) (rest : List ℕ) → (s : SaysAt header_of text (Binary, h) rest) → HeaderBack Binary s.line h → BinaryBack h rest c → IsBinaryText text c
with_header text c h rest s k b =
    record {
      header = s.line ++ 10 ∷ [];
      is_header = subst (λ (g : Counts). IsHeader Binary g (s.line ++ 10 ∷ [])) b.body.counts (header_spelled Binary s.line h k);
      latches = b.body.latches;
      are_latches = b.body.are_latches;
      end = b.end;
      is_end = b.is_end;
      valid = b.valid;
      whole = s.parts ∙ sym (append_assoc s.line (10 ∷ []) rest) ∙ ap (λ (l : List ℕ). (s.line ++ 10 ∷ []) ++ l) b.body.whole;
    }

pub binary-stands : NameLaw → (text : List ℕ) (c : Circuit) (h : Counts) (rest : List ℕ) → AreBytes text → line_at header_of text ≡ Ok ((Binary, h), rest) → binary_at h rest ≡ Ok c → IsBinaryText text c
binary-stands law text c h rest bytes was then' =
    let s = line-back header_of text (Binary, h) rest was in
    let k = header-back s.line Binary h s.said in
    let behind : AreBytes (10 ∷ rest) = bytes_after s.line (10 ∷ rest) text bytes s.parts in
    with_header text c h rest s k (binary-back law h rest c k.few_first k.few_last k.fits behind.1 then')

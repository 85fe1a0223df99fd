use Rattle.std.proofs.Common.{length, map, refl, arith, ◌*◌, rules}
use Rattle.std.proofs.lemmas.List.{length-map}
use Rattle.base.specs.Literal.{literal_value}
use Rattle.gates.specs.Made.{RefusesGate}
use Rattle.gates.specs.Connect.{connected, connective_bound, words_bound}
use Rattle.gates.proofs.LiteralLemmas.{Refuses-behind}
use Rattle.gates.proofs.LaterLemmas.{IsDefined-of_word}
use Rattle.gates.proofs.WordLemmas.{word-connected, words_bound-is}
use Rattle.gates.proofs.BitListLemmas.{IsRow-push, MakesWord-row}
use Rattle.gates.proofs.RowLemmas.{IsRow-start, words_bound-more}
use Rattle.gates.proofs.bitwise.connect_words.Goals as goal

pub loop-i-preserved : goal.loop-i-preserved
loop-i-preserved g c =
    let by = c.args.by in
    rw c.push.ensures.items (IsRow-push _ _ _ (connective_bound by) c.loop-i.i (λ v. connected by) c.args.a.now c.args.b.now c.loop-i.bits.items c.index-a-i.result c.index-b-i.result c.in_ok-connect.field-0 (omega arith) (omega arith) c.index-a-i.is c.index-b-i.is c.loop-i.invariant c.in_ok-connect.ensures.ok)

pub returns-clause-ok : goal.returns-clause-ok
returns-clause-ok g c =
    let by = c.args.by in
    let a = c.args.a.now in
    let b = c.args.b.now in
    rw (← words_bound-is by (length a)) (MakesWord-row _ _ (connective_bound by) (length a) c.loop-i.i (λ v. connected by) _ a b c.loop-i.bits.items refl c.requires.equal (omega arith)
    (λ v. word-connected by (map (literal_value v) a) (map (literal_value v) b) (omega (arith, length-map a (literal_value v), length-map b (literal_value v))))
    c.loop-i.invariant)

pub connect-requires-clause-left : goal.connect-requires-clause-left
connect-requires-clause-left g c =
    IsDefined-of_word _ _ _ c.args.a.now c.loop-i.i c.index-a-i.result (omega arith) c.index-a-i.is c.requires.left c.loop-i.invariant.grows

pub connect-requires-clause-right : goal.connect-requires-clause-right
connect-requires-clause-right g c =
    IsDefined-of_word _ _ _ c.args.b.now c.loop-i.i c.index-b-i.result (omega (arith, c.requires.equal)) c.index-b-i.is c.requires.right c.loop-i.invariant.grows

pub loop-i-init : goal.loop-i-init
loop-i-init g c = let by = c.args.by in rw c.new-bits.ensures (IsRow-start _ (connective_bound by) (λ v. connected by) c.args.a.now c.args.b.now)

pub returns-in_err-connect-clause-refused : goal.returns-in_err-connect-clause-refused
returns-in_err-connect-clause-refused g c =
    let by = c.args.by in
    let n = length c.args.a.now in
    let refused : RefusesGate (g.G.Gates.made c.args.g.now) (g.G.Gates.made c.connect.new.g) (words_bound by n) c.in_err-connect.field-0.0 =
    Refuses-behind _ _ _ (connective_bound by * c.loop-i.i) (connective_bound by) (words_bound by n) _ (words_bound-more by c.loop-i.i n (omega arith)) c.loop-i.invariant.grows c.in_err-connect.ensures.refused
    in search rules

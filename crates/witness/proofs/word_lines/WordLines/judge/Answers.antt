use Rattle.std.proofs.Common.{Bool, ◌||◌, ◌&&◌, ◌<◌, ◌^◌, sym, ap, ap₂, ◌∙◌}
use Rattle.std.proofs.lemmas.Bool.{leb-true, leb-false}
use Rattle.witness.specs.declared.word_reader.Place.{Place as CodePlace}
use Rattle.witness.specs.Texts.{shape_of}
use Rattle.witness.specs.Readings.{lines_read}
use Rattle.witness.specs.Admits.{word_reader}
use Rattle.witness.specs.WordStands.{CountsWords, word_judging, is_status, place_of}
use Rattle.witness.proofs.StandsLemmas.{too_many, not_admitted}
use Rattle.witness.proofs.WordJudgeLemmas.{claims_more, few_frames, given_line, refused_counts}
use Rattle.witness.proofs.KeptLineLemmas.{status_alike}
use Rattle.witness.proofs.word_lines.WordLines.judge.Goals as goal

pub returns-then-are_most : goal.returns-then-are_most
returns-then-are_most c items kept lines bytes is alike none =
    too_many (word_judging items) (claims_more items) lines bytes bytes _ is none (leb-true (2 ^ 62) c.args.self.now.admitted (sym c.are_most.ensures ∙ c.if-are_most.true))

pub returns-in-Ok : goal.returns-in-Ok
returns-in-Ok c items kept lines bytes is alike none =
    let says = ap (λ (b : Bool). c.args.self.now.no_claim || b) (c.says_no_claim.ensures ∙ ap₂ (λ (x : CodePlace) (b : Bool). is_status (place_of x) && b) c.place.ensures (status_alike c.args.line.now bytes alike)) in
    let few : c.args.self.now.admitted < 2 ^ 62 = leb-false (2 ^ 62) c.args.self.now.admitted (sym c.are_most.ensures ∙ c.if-are_most.false) in
    let read = (lines_read (word_reader (shape_of items)) lines).read in
    given_line items lines bytes bytes _ c.admit.new.self (c.args.self.now.no_claim || c.says_no_claim.result) is none few (c.in-Ok.ensures.line items read bytes (is.reads none) alike (few_frames items lines bytes _ is few)) says

pub returns-in-Err : goal.returns-in-Err
returns-in-Err c items kept lines bytes is alike none =
    let says = ap (λ (b : Bool). c.args.self.now.no_claim || b) (c.says_no_claim.ensures ∙ ap₂ (λ (x : CodePlace) (b : Bool). is_status (place_of x) && b) c.place.ensures (status_alike c.args.line.now bytes alike)) in
    let few : c.args.self.now.admitted < 2 ^ 62 = leb-false (2 ^ 62) c.args.self.now.admitted (sym c.are_most.ensures ∙ c.if-are_most.false) in
    let read = (lines_read (word_reader (shape_of items)) lines).read in
    let counts : CountsWords items c.admit.new.self read = refused_counts items c.args.self.now.reader c.admit.new.self read bytes (is.reads none) c.in-Err.ensures.err c.in-Err.ensures.other in
    not_admitted (word_judging items) (claims_more items) lines bytes bytes _ is none few c.admit.new.self c.in-Err.why (c.args.self.now.no_claim || c.says_no_claim.result) (is_status (place_of c.args.self.now.reader.place)) counts (c.in-Err.ensures.line items read bytes (is.reads none) alike (few_frames items lines bytes _ is few)) (ap is_status (is.reads none).place) says

use Rattle.std.proofs.Common.{List, ℕ, ◌++◌, refl, subst, sym}
use Rattle.witness.specs.WordStands.{StandsForWitness}
use Rattle.rises.specs.Notes.{NotesWords}
use Rattle.rises.specs.declared.word_noter.WordNoter.{WordNoter}
use Rattle.rises.proofs.NoteLemmas.{words_same, words_more}
use Rattle.rises.proofs.word_noter.WordNoter.take_line.Goals as goal

pub returns-then-closed_frames-closed : goal.returns-then-closed_frames-closed
returns-then-closed_frames-closed c items text h =
    let line : List ℕ = c.requires.line in
    let after : WordNoter = record { judge = c.feed.new.self; firsts = c.args.self.now.firsts } in
    let stands = subst (λ (l : List ℕ). StandsForWitness items c.feed.new.self (text ++ l)) c.requires.is (c.feed.ensures items text h.judge) in
    subst (λ (l : List ℕ). NotesWords items after (text ++ l)) (sym c.requires.is)
    (words_same items text line c.args.self.now after c.requires.whole h stands c.closed_frames-closed.result c.closed_frames.result (c.closed_frames-closed.ensures items text h.judge) (c.closed_frames.ensures items _ stands) c.if-closed_frames-closed.true refl)

pub returns : goal.returns
returns c items text h =
    let line : List ℕ = c.requires.line in
    let after : WordNoter = record { judge = c.feed.new.self; firsts = c.note_words.new.firsts } in
    let stands = subst (λ (l : List ℕ). StandsForWitness items c.feed.new.self (text ++ l)) c.requires.is (c.feed.ensures items text h.judge) in
    subst (λ (l : List ℕ). NotesWords items after (text ++ l)) (sym c.requires.is)
    (words_more items text line c.args.self.now after c.requires.whole h stands c.closed_frames-closed.result c.closed_frames.result (c.closed_frames-closed.ensures items text h.judge) (c.closed_frames.ensures items _ stands) c.if-closed_frames-closed.false
    (λ fs trace. c.note_words.ensures items _ fs stands trace))

use Rattle.std.proofs.Common.{◌≡◌, ◌∷◌, ◌++◌, [], ℕ, ◌<◌, Bool, List, map, length, sym, subst, ap, ◌∙◌}
use Rattle.aiger.specs.Circuit.{Circuit}
use Rattle.witness.specs.Admits.{is_one_bit}
use Rattle.witness.specs.BitAdmits.{BitRead}
use Rattle.witness.specs.BitPlays.{PlaysBits}
use Rattle.witness.specs.BitStands.{PlaysAt, PlaysSaid, Gives}
use Rattle.witness.proofs.BitPlayLemmas.{frame_plays}
use Rattle.witness.proofs.bit_play.BitPlay.take.Goals as goal

pub returns-in-Nothing-clause-played : goal.returns-in-Nothing-clause-played
returns-in-Nothing-clause-played c r next gives same played = subst (Gives c.args.circuit.now r next c.args.line.now) c.in-Nothing.is gives c.args.self.now played

pub returns-in-Initial-clause-played : goal.returns-in-Initial-clause-played
returns-in-Initial-clause-played c r next gives same played =
    let circuit : Circuit = c.args.circuit.now in
    let bits : List Bool = map is_one_bit c.args.line.now in
    let given = subst (Gives circuit r next c.args.line.now) c.in-Initial.is gives in
    let before = subst (PlaysAt circuit r c.args.self.now) given.0 played in
    subst (λ (n : BitRead). PlaysSaid circuit n c.begin.new.self) (sym given.1)
    (subst (λ (frames : List (List Bool)). PlaysBits circuit r.claim bits frames c.begin.new.self) (sym before.1) (c.begin.ensures.begun r.claim before.0), before.2)

pub returns-in-Frame-clause-played : goal.returns-in-Frame-clause-played
returns-in-Frame-clause-played c r next gives same played =
    let circuit : Circuit = c.args.circuit.now in
    let bits : List Bool = map is_one_bit c.args.line.now in
    let given = subst (Gives circuit r next c.args.line.now) c.in-Frame.is gives in
    let before = frame_plays circuit r c.args.self.now r.place given.0 played in
    let claim : c.args.claim ≡ r.claim = same ∙ ap (λ (n : BitRead). n.claim) given.1 in
    let closed = c.close.ensures.closed r.initial r.frames (subst (λ (i : ℕ). PlaysBits circuit i r.initial r.frames c.args.self.now) (sym claim) before.0) (subst (λ (i : ℕ). i < length circuit.bads) (sym claim) before.1) given.2 in
    subst (λ (n : BitRead). PlaysSaid circuit n c.close.new.self) (sym given.1)
    (subst (λ (i : ℕ). PlaysBits circuit i r.initial (r.frames ++ bits ∷ []) c.close.new.self) claim closed, before.1)

-- What the code compares and clears is what opening answers and leaves (`proofs/OpenLaws`).
use Rattle.std.proofs.Common.{◌∙◌, ap, sym, true, false}
use Rattle.netlogon_seal.specs.Channels.{NlState}
use Rattle.netlogon_seal.proofs.OpenLaws.{compare_is, cleared_is, not_true, not_false}
use Rattle.netlogon_seal.proofs.channel.NlSeal.open_front.Goals as goal

pub returns-then-ne-clause-answer : goal.returns-then-ne-clause-answer
returns-then-ne-clause-answer c =
    compare_is c.args.self.now c.args.front.now c.args.from c.args.to c.args.signature.now _ _ _ _ _ _ _ false c.in_ok-expects.ensures.answer (ap (λ (s : NlState). s.key) c.self.view_is) c.awaited_sequence.ensures c.sealing_key-key.ensures c.confounder_in-confounder.ensures c.combine.ensures c.checksum.ensures c.checksum_in.ensures (not_true _ (sym c.ne.ensures ∙ c.if-ne.true))

pub returns-then-ne-clause-front : goal.returns-then-ne-clause-front
returns-then-ne-clause-front c =
    cleared_is _ c.args.front.now _ _ c.args.from c.args.to c.requires.range c.requires.within c.combine.ensures c.clear.ensures

pub returns-clause-answer : goal.returns-clause-answer
returns-clause-answer c =
    compare_is c.args.self.now c.args.front.now c.args.from c.args.to c.args.signature.now _ _ _ _ _ _ _ true c.in_ok-expects.ensures.answer (ap (λ (s : NlState). s.key) c.self.view_is) c.awaited_sequence.ensures c.sealing_key-key.ensures c.confounder_in-confounder.ensures c.combine.ensures c.checksum.ensures c.checksum_in.ensures (not_false _ (sym c.ne.ensures ∙ c.if-ne.false))

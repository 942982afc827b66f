-- The parts that the code writes are the next sealed unit (`proofs/SealLaws`).
use Rattle.std.proofs.Common.{◌∙◌, ap}
use Rattle.netlogon_seal.specs.Channels.{NlState}
use Rattle.netlogon_seal.specs.Signatures.{sealed_unit}
use Rattle.netlogon_seal.proofs.SealLaws.{sealed_is}
use Rattle.netlogon_seal.proofs.channel.NlSeal.seal_front.Goals as goal

pub returns : goal.returns
returns c = record {
  whole = sealed_is _ _ _ c.args.front.now c.args.from c.args.to c.args.confounder _ _ _ _ _ _ _ _ c.sequence_bytes-sequence.ensures c.checksum-checksum.ensures c.sealing_key-key.ensures c.sequence_key.ensures c.combine.ensures c.combine_eight-number.ensures c.combine_eight.ensures c.write_signature.ensures
      ∙ ap (λ (s : NlState). sealed_unit s.key s.sent s.requester c.args.front.now c.args.from c.args.to c.args.confounder) c.self.view_is;
}

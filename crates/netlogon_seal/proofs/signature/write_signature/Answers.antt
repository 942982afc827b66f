-- Four parts of 8 bytes, written one after the other (`proofs/SealLaws`).
use Rattle.std.proofs.Common.{refl}
use Rattle.netlogon_seal.proofs.SealLaws.{four_written}
use Rattle.netlogon_seal.specs.Signatures.{algorithms}
use Rattle.netlogon_seal.proofs.signature.write_signature.Goals as goal

pub returns : goal.returns
returns c =
    four_written c.args.signature.now _ _ _ _ algorithms c.args.number.now c.args.checksum.now c.args.confounder.now c.requires
    c.copy_from_slice.ensures.after c.copy_from_slice-2.ensures.after c.copy_from_slice-3.ensures.after c.copy_from_slice-4.ensures.after
    refl c.told-number c.told-checksum c.told-confounder

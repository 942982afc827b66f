-- The laws on one unit (`proofs/CarryLaws`) and on its range (`proofs/SealLaws`).
use Rattle.netlogon_seal.proofs.CarryLaws.{paired_first, opens_again, length-signature_of}
use Rattle.netlogon_seal.proofs.SealLaws.{combined_range}
use Rattle.netlogon_seal.proofs.laws.what_is_sent_is_taken.Goals as goal

pub returns-clause-first : goal.returns-clause-first
returns-clause-first c = paired_first

pub returns-clause-either : goal.returns-clause-either
returns-clause-either c one other p = record { there = p.back; back = p.there }

pub returns-clause-sealed : goal.returns-clause-sealed
returns-clause-sealed c = opens_again

pub returns-clause-range : goal.returns-clause-range
returns-clause-range c = combined_range

pub returns-clause-signature : goal.returns-clause-signature
returns-clause-signature c = length-signature_of

use Rattle.ntlm_seal.proofs.TurnLaws.{paired_first, opens_again, is_accepted, combine_range, length-signature_of}
use Rattle.ntlm_seal.proofs.session.what_is_sent_is_taken.Goals as goal

pub returns-clause-first : goal.returns-clause-first
returns-clause-first c = paired_first

pub returns-clause-either : goal.returns-clause-either
returns-clause-either c one other p = record { there = p.back; back = p.there }

pub returns-clause-sealed : goal.returns-clause-sealed
returns-clause-sealed c = opens_again

pub returns-clause-signed : goal.returns-clause-signed
returns-clause-signed c = is_accepted

pub returns-clause-range : goal.returns-clause-range
returns-clause-range c = combine_range

pub returns-clause-signature : goal.returns-clause-signature
returns-clause-signature c = length-signature_of

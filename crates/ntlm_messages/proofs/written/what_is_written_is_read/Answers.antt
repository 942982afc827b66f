use Rattle.ntlm_messages.proofs.NegotiateWritten.{negotiate_back}
use Rattle.ntlm_messages.proofs.ChallengeWritten.{challenge_back}
use Rattle.ntlm_messages.proofs.AuthenticateWritten.{authenticate_back}
use Rattle.ntlm_messages.proofs.PairsLaws.{written_pairs_back}
use Rattle.ntlm_messages.proofs.TextLaws.{text_units_of-written, IsText-written}
use Rattle.ntlm_messages.proofs.written.what_is_written_is_read.Goals as goal

pub returns-clause-negotiate : goal.returns-clause-negotiate
returns-clause-negotiate c = λ value can widths fit. negotiate_back value can fit widths

pub returns-clause-challenge : goal.returns-clause-challenge
returns-clause-challenge c = λ value can widths fit. challenge_back value can fit widths

pub returns-clause-authenticate : goal.returns-clause-authenticate
returns-clause-authenticate c = λ value can widths fit. authenticate_back value can fit widths

pub returns-clause-pairs : goal.returns-clause-pairs
returns-clause-pairs c = written_pairs_back

pub returns-clause-text : goal.returns-clause-text
returns-clause-text c = text_units_of-written

pub returns-clause-even : goal.returns-clause-even
returns-clause-even c = IsText-written

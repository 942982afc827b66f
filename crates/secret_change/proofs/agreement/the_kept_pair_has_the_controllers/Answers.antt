-- The law on any list of happenings (`proofs/AgreementLaws`).
use Rattle.secret_change.proofs.AgreementLaws.{all_agree}
use Rattle.secret_change.proofs.agreement.the_kept_pair_has_the_controllers.Goals as goal

pub returns : goal.returns
returns c = all_agree

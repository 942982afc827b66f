use Rattle.std.proofs.Common.{refl}
use Rattle.nt_words.proofs.laws.files_are_of_their_options.Goals as goal

pub returns : goal.returns
returns c = record { controller = λ rows. refl; member = λ rows. refl; logon = λ rows. refl; station = λ rows. refl; drill = refl }

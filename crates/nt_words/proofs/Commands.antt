-- The commands are ones whose contract is exact.
use Rattle.std.proofs.Common.{◌≡◌, true, refl}
use Rattle.clap.specs.Words.{is_simple_and_free}
use Rattle.clap.proofs.OnLiterals.{clap_on_literals}
use Rattle.nt_words.specs.Words.{app_with}
use Rattle.nt_words.specs.Jobs.{controller_form, member_form, logon_form, station_form, drill_form}

pub controller_is_simple : is_simple_and_free (app_with controller_form.name controller_form.choices) ≡ true
unfolding clap_on_literals
controller_is_simple = refl

pub member_is_simple : is_simple_and_free (app_with member_form.name member_form.choices) ≡ true
unfolding clap_on_literals
member_is_simple = refl

pub logon_is_simple : is_simple_and_free (app_with logon_form.name logon_form.choices) ≡ true
unfolding clap_on_literals
logon_is_simple = refl

pub station_is_simple : is_simple_and_free (app_with station_form.name station_form.choices) ≡ true
unfolding clap_on_literals
station_is_simple = refl

pub drill_is_simple : is_simple_and_free (app_with drill_form.name drill_form.choices) ≡ true
unfolding clap_on_literals
drill_is_simple = refl

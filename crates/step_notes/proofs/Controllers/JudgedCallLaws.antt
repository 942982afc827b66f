-- What is said of a judged call by its kind.
-- It serves `passed_replies_are_read`, and laws of runs.
use Rattle.std.proofs.Common.{◌≡◌, refl, ap, subst}
use Rattle.authenticators.specs.SecureChannels.{SecureChannelState}
use Rattle.logon_stubs.specs.declared.calls.LogonCall.{LogonCall}
use Rattle.controller_calls.specs.Doing.{done_by}
use Rattle.controller_calls.specs.Logons.{status_of}
use Rattle.step_notes.specs.Records.{IfNetwork, Judging}
use Rattle.controller_calls.specs.declared.calls.JudgedCall.{JudgedCall}
use Rattle.controller_calls.specs.declared.calls.JudgedCall.TheVariants.{Network, Interactive, Logoff, NetworkLogoff, Set}
use Rattle.step_notes.specs.ReplySends.{done_on, verdict_passed}

-- what is said of a network logon is had from its kind
pub if_network : (Fact : LogonCall → Type 0) (asked : JudgedCall) → ((c : LogonCall) → asked ≡ Network c → Fact c) → IfNetwork Fact asked
if_network Fact (Network c) so = so c refl
if_network Fact (Interactive c) so = tt
if_network Fact (Logoff c) so = tt
if_network Fact (NetworkLogoff c) so = tt
if_network Fact (Set c) so = tt

-- what is said of a network logon holds of a call that is one
pub of_network : (Fact : LogonCall → Type 0) (asked : JudgedCall) (c : LogonCall) → asked ≡ Network c → IfNetwork Fact asked → Fact c
of_network Fact asked c is said = subst (λ (a : JudgedCall). IfNetwork Fact a) is said

pub network_so : (Fact Other : LogonCall → Type 0) (asked : JudgedCall) → ((c : LogonCall) → Fact c → Other c) → IfNetwork Fact asked → IfNetwork Other asked
network_so Fact Other (Network c) so said = so c said
network_so Fact Other (Interactive c) so said = tt
network_so Fact Other (Logoff c) so said = tt
network_so Fact Other (NetworkLogoff c) so said = tt
network_so Fact Other (Set c) so said = tt

-- the status that a network logon comes to is that of the verdict on it
pub status_done : (j : Judging) (c : LogonCall) (channel : SecureChannelState) → j.asked ≡ Network c → (done_on j channel).status ≡ status_of (verdict_passed j c)
status_done j c channel asks = ap (λ (asked : JudgedCall). (done_by asked channel j.name j.table j.moment j.sessions).status) asks

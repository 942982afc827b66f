-- What a controller sends where it grants a Logon call (MS-NRPC 3.5.4.5.3; what is claimed is this project's own
-- choice, in the standard's terms).
use Rattle.std.specs.Prelude.{◌≡◌, List, [], ◌∷◌, Some}
use Rattle.wire_base.specs.declared.authenticator.Authenticator.{Authenticator}
use Rattle.authenticators.specs.Sequences.{return_of}
use Rattle.outside.specs.declared.action.Action.{Action}
use Rattle.outside.specs.declared.action.Action.TheVariants as action
use Rattle.outside.specs.declared.action.Judged.TheVariants as judged
use Rattle.rpc_units.specs.Calls.{bytes_of_call}
use Rattle.logon_stubs.specs.declared.calls.LogonCall.{LogonCall}
use Rattle.logon_stubs.specs.declared.calls.Reply.{Reply}
use Rattle.logon_stubs.specs.declared.info.SamInfo.{SamInfo}
use Rattle.logon_stubs.specs.Writing.{written_reply}
use Rattle.account_table.specs.declared.account.Account.{Account}
use Rattle.account_table.specs.LookUps.{account_in}
use Rattle.sam_logon.specs.Granting.{granting_reply, sam_info_of}
use Rattle.end_links.specs.Sending.{response_of}
use Rattle.channel_keys.specs.Hidden.{crypt_key}
use Rattle.authenticators.specs.SecureChannels.{SecureChannelState, key_of_channel}
use Rattle.domain_controller.specs.Machine.{Desk, answer_logon}
use Rattle.controller_calls.specs.declared.line.Line.{Line}
use Rattle.step_notes.specs.ControllerNotes.{Where, judging_of, new_actions}
use Rattle.step_notes.specs.Judged.{IsNextOn, base_key_asked}
use Rattle.step_notes.specs.Records.{Judging, given_in}
use Rattle.controller_calls.specs.declared.calls.JudgedCall.TheVariants.{Network}

-- ---- what is sent then

-- what is granted to the account: its session base key is the one of its stored hash and of the response
abbrev pub info_granted : Judging → LogonCall → Account → SamInfo
info_granted j c account = sam_info_of j.table j.name account (base_key_asked j c.info) j.moment

-- the reply on a channel whose authenticator passed, at the level that was asked for: that key stands in it under the
-- session key of the channel
abbrev pub reply_granted : Judging → LogonCall → Account → SecureChannelState → Authenticator → Reply
reply_granted j c account channel given =
    granting_reply
    (Some (record { credential = return_of (key_of_channel channel) channel.seed given.timestamp; timestamp = 0 }))
    c.validation (info_granted j c account) (crypt_key (key_of_channel channel) (base_key_asked j c.info)) 1 0

-- the call's one judgement, and the frames of that reply
abbrev pub actions_granting : Line → Reply → List Action
actions_granting line answer =
    action.Judged (judged.Passed 0)
    ∷ action.Send line.link (bytes_of_call (response_of line.call line.context (written_reply answer)) line.limit)
    ∷ []

-- the step that granted that network logon did no more and no less than that, on the channel that it is checked on, for
-- the account of the user's name
pub record IsSentAsGranted (j : Judging) (c : LogonCall) (line : Line) (new : List Action) : Type 0 where
  pub next : IsNextOn j.checks (given_in j.asked)
  pub account : Account
  pub stored : account_in j.table.accounts c.info.user ≡ Some account
  pub actions : new ≡ actions_granting line (reply_granted j c account next.channel next.given)

-- What a controller sends where it grants a Logon call: at whatever moment, and whatever stood before.
abbrev pub GrantsCarryTheirKey : Type 0
GrantsCarryTheirKey =
    (w : Where) (line : Line) (c : LogonCall) (d after : Desk) →
    after ≡ answer_logon c.computer c.authenticator w.name w.moment line c.info c.validation d →
    (judging_of w line (Network c) d (Some after)).how ≡ Some (judged.Passed 0) →
    IsSentAsGranted (judging_of w line (Network c) d (Some after)) c line (new_actions (Some after) d)

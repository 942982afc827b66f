-- What is written down of the units that a controller serves that asks nobody (this project's own choice). What it
-- heard, what it told and what it sent is read off its own machine; only which channel a call is checked on is found by
-- the same cases again. `TrustNotes` has what is written down of one that may hand logons on.
use Rattle.std.specs.Prelude.{ℕ, Bool, true, false, List, [], ◌∷◌, ◌++◌, drop, length, bytes_eq, Option, Some, None}
use Rattle.wire_base.specs.Maps.{lookup, same_number}
use Rattle.wire_base.specs.Names.{same_name}
use Rattle.ntlm_flags.specs.Flags.{has_flag}
use Rattle.channel_keys.specs.Credentials.{cred_of}
use Rattle.channel_keys.specs.Flags.{rc4_flag}
use Rattle.authenticators.specs.Channels.{ChannelIdentity}
use Rattle.authenticators.specs.SecureChannels.{SecureChannelState, channel_of, key_of_channel}
use Rattle.outside.specs.declared.action.Action.{Action}
use Rattle.outside.specs.declared.action.Action.TheVariants as action
use Rattle.outside.specs.declared.action.Judged.{Judged}
use Rattle.outside.specs.declared.event.Event.TheVariants as event
use Rattle.logon_stubs.specs.declared.calls.AuthCall.{AuthCall}
use Rattle.account_table.specs.declared.account.Account.{Account}
use Rattle.rpc_units.specs.Stream.{cut_stream}
use Rattle.end_links.specs.Links.{LinkState}
use Rattle.end_links.specs.Serving.{ServedUnit, served_units}
use Rattle.domain_controller.specs.Hearing.{hear}
use Rattle.domain_controller.specs.Laws.{is_passed}
use Rattle.domain_controller.specs.Machine.{Desk, account_for, channel_for, controller_server}
use Rattle.domain_controller.specs.State.{State as ControllerState}
use Rattle.domain_controller.specs.Step.{first_desk, step_of}
use Rattle.domain_controller.specs.declared.hearing.Heard.{Heard}
use Rattle.domain_controller.specs.declared.hearing.Heard.TheVariants as heard
use Rattle.controller_calls.specs.declared.calls.ControllerCall.{ControllerCall}
use Rattle.controller_calls.specs.declared.calls.ControllerCall.TheVariants as call
use Rattle.controller_calls.specs.declared.line.Line.{Line}
use Rattle.controller_calls.specs.declared.state.Computers.{Computers}
use Rattle.controller_calls.specs.declared.state.ChallengePair.{ChallengePair}
use Rattle.domain_controller.specs.declared.state.Running.{Running}
use Rattle.domain_controller.specs.declared.state.Talk.{Talk}
use Rattle.channel_events.specs.Marks.{Mark, Plain, Opened, ReplyTo}
use Rattle.step_notes.specs.Records.{Judging, Source, computer_named, unit_in, ChannelAccepted}
use Rattle.controller_calls.specs.declared.calls.JudgedCall.{JudgedCall}
use Rattle.step_notes.specs.Served.{units_if_taken, work_after}

-- ---- the units

abbrev pub units_at : Option (LinkState Talk) → ℕ → List ℕ → ControllerState → Running → ℕ → List (List ℕ) → List (ServedUnit Desk Talk)
units_at None number piece c running now left = []
units_at (Some link) number piece c running now left =
    served_units (controller_server c.name now number) (cut_stream (link.rest ++ piece)).units (first_desk c.table running) link.talk left

abbrev pub units_by : Option Running → ℕ → List ℕ → ControllerState → ℕ → List (List ℕ) → List (ServedUnit Desk Talk)
units_by None number piece c now left = []
units_by (Some running) number piece c now left = units_at (lookup same_number number running.links) number piece c running now left

-- the units that the controller serves when these bytes come on the link
abbrev pub units_of_controller : ControllerState → ℕ → List ℕ → ℕ → List (List ℕ) → List (ServedUnit Desk Talk)
units_of_controller c number piece now left =
    units_if_taken (step_of c (event.Bytes number piece) now left).answer (units_by c.running number piece c now left)

-- ---- channels

abbrev pub identity_by : ℕ → List ℕ → Option SecureChannelState → Option ChannelIdentity
identity_by controller computer None = None
identity_by controller computer (Some c) = Some (channel_of controller computer c)

-- the channel that a call is checked on: that of the computer that it names, as it stands
abbrev pub checked_on : Option (List ℕ) → Computers → Option SecureChannelState
checked_on None computers = None
checked_on (Some computer) computers = lookup same_name computer computers.channels

-- which one that is, by the computer and by the state in which it stands
abbrev pub channel_in : ℕ → Option (List ℕ) → Option SecureChannelState → Option ChannelIdentity
channel_in controller None checks = None
channel_in controller (Some computer) checks = identity_by controller computer checks

-- the channel that an accepted NetrServerAuthenticate2 opens, by the controller's own cases
abbrev pub opened_if : (is_accepted : Bool) (channel : SecureChannelState) → Option SecureChannelState
opened_if false channel = None
opened_if true channel = Some channel

abbrev pub opened_client : SecureChannelState → AuthCall → Option SecureChannelState
opened_client channel c = opened_if (bytes_eq c.credential (cred_of (key_of_channel channel) channel.client)) channel

abbrev pub opened_pair : Option ChallengePair → Account → AuthCall → Option SecureChannelState
opened_pair None account c = None
opened_pair (Some pair) account c = opened_client (channel_for account pair c) c

abbrev pub opened_offer : Bool → Option ChallengePair → Account → AuthCall → Option SecureChannelState
opened_offer false pair account c = None
opened_offer true pair account c = opened_pair pair account c

abbrev pub opened_account : Option Account → Option ChallengePair → AuthCall → Option SecureChannelState
opened_account None pair c = None
opened_account (Some account) pair c = opened_offer (has_flag c.flags rc4_flag) pair account c

abbrev pub opened_by : ℕ → AuthCall → Desk → Option ChannelIdentity
opened_by controller c d =
    identity_by controller c.computer (opened_account (account_for d.table c) (lookup same_name c.computer d.work.computers.pending) c)

-- ---- a unit that is answered

-- what a unit comes to: whether something is sent on its link, and what that was made for; the channel on which a
-- credential passed; the call on a secure channel that was judged; and the channel that was accepted
pub record Answered : Type 0 where
  pub sends : Bool
  pub mark : Mark
  pub checked : Option ChannelIdentity
  pub judging : Option Judging
  pub accepted : Option ChannelAccepted

abbrev pub silent : Answered
silent = record { sends = false; mark = Plain; checked = None; judging = None; accepted = None }

abbrev pub plain : Answered
plain = record { sends = true; mark = Plain; checked = None; judging = None; accepted = None }

-- the first judgement among actions
abbrev pub judged_in : List Action → Option Judged
judged_in [] = None
judged_in (action.Judged how ∷ actions) = Some how
judged_in (what ∷ actions) = judged_in actions

abbrev pub has_passed : Option Judged → Bool
has_passed None = false
has_passed (Some how) = is_passed how

-- the actions of the unit, beside those before it
abbrev pub new_actions : Option Desk → Desk → List Action
new_actions None before = []
new_actions (Some after) before = drop (length before.work.actions) after.work.actions

-- a reply goes into the bag where the call came in a unit of the bag
abbrev pub reply_mark : Option ℕ → ChannelIdentity → ℕ → Mark
reply_mark None channel number = Plain
reply_mark (Some unit) channel number = ReplyTo channel number unit

-- a call on a secure channel that passed, by its channel
abbrev pub passing : Option ChannelIdentity → Judging → Answered
passing None j = record { sends = true; mark = Plain; checked = None; judging = Some j; accepted = None }
passing (Some channel) j =
    record { sends = true; mark = reply_mark (unit_in j.source) channel j.number; checked = Some channel; judging = Some j; accepted = None }

abbrev pub judging_by : (has_passed : Bool) → Judging → Answered
judging_by false j = record { sends = true; mark = Plain; checked = None; judging = Some j; accepted = None }
judging_by true j = passing (channel_in j.controller (computer_named j.asked) j.checks) j

-- at which controller, from where, and after how many moves
pub record Where : Type 0 where
  pub at : ℕ
  pub controller : ℕ
  pub source : Source
  pub name : List ℕ
  pub moment : ℕ

-- the reply that accepts a NetrServerAuthenticate2 goes into the bag where the call came in a unit of the bag
abbrev pub opened_mark : Option ℕ → ChannelIdentity → ℕ → Mark
opened_mark None channel number = Plain
opened_mark (Some unit) channel number = Opened channel number unit

-- the channel that a NetrServerAuthenticate2 opens, by the call's number and the type of channel that it names
abbrev pub accepting : Where → (number kind : ℕ) → ChannelIdentity → ChannelAccepted
accepting w number kind channel =
    record { at = w.at; source = w.source; number = number; channel = channel; kind = kind; reply = None }

-- a NetrServerAuthenticate2, by the channel that it opens, its number, and the type that it names
abbrev pub opening : Option ChannelIdentity → Where → (number kind : ℕ) → Answered
opening None w number kind = plain
opening (Some channel) w number kind =
    record {
      sends = true;
      mark = opened_mark (unit_in w.source) channel number;
      checked = Some channel;
      judging = None;
      accepted = Some (accepting w number kind channel);
    }

abbrev pub judging_of : Where → Line → JudgedCall → Desk → Option Desk → Judging
judging_of w line asked before after = record {
  at = w.at;
  controller = w.controller;
  name = w.name;
  source = w.source;
  number = line.call;
  asked = asked;
  checks = checked_on (computer_named asked) before.work.computers;
  table = before.table;
  sessions = before.work.computers.sessions;
  moment = w.moment;
  how = judged_in (new_actions after before);
  reply = None;
}

abbrev pub judged_answer : Judging → Answered
judged_answer j = judging_by (has_passed j.how) j

abbrev pub call_answer : ControllerCall → Line → Where → Desk → Option Desk → Answered
call_answer (call.Challenge c) line w before after = plain
call_answer (call.Authenticate c) line w before after = opening (opened_by w.controller c before) w line.call c.channel
call_answer (call.Judged c) line w before after = judged_answer (judging_of w line c before after)

abbrev pub heard_answer : Heard → Where → Desk → Option Desk → Answered
heard_answer (heard.Close cause) w before after = silent
heard_answer (heard.Answer bytes talk) w before after = plain
heard_answer (heard.Waits talk) w before after = silent
heard_answer (heard.Asked line call talk) w before after = call_answer call line w before after

abbrev pub answer_on : ℕ → Where → ServedUnit Desk Talk → Answered
answer_on link w unit = heard_answer (hear link unit.bytes unit.talk) w unit.work (work_after unit.part)

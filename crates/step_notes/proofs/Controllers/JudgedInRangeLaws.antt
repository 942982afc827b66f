-- For the law `passed_replies_are_read`: a walk over the units of a piece, of which each leaves the ranges
-- (`SendsAreWhole` of domain_controller).
use Rattle.std.proofs.Common.{arith, ◌==◌, ◌≡◌, ◌≤◌, ◌<◌, ◌^◌, ◌++◌, ℕ, Bool, true, false, List, length, map, Option, Some, None, Result, Ok, Err, ap, ◌∙◌, subst}
use Rattle.std.specs.List.{AllByRecursion}
use Rattle.wire_base.specs.Maps.{lookup, same_number}
use Rattle.wire_base.specs.Names.{IsName}
use Rattle.wire_base.specs.declared.authenticator.Authenticator.{Authenticator}
use Rattle.authenticators.specs.Channels.{ChannelIdentity}
use Rattle.authenticators.specs.SecureChannels.{SecureChannelState, key_of_channel}
use Rattle.outside.specs.declared.action.Action.{Action}
use Rattle.outside.specs.declared.action.StepRefused.{StepRefused}
use Rattle.rpc_units.specs.declared.unit.Unit.{Unit as RpcUnit}
use Rattle.rpc_units.specs.Calls.{IsHeard, bytes_of_call}
use Rattle.rpc_units.specs.Joining.{stub_of}
use Rattle.rpc_units.specs.Stream.{cut_stream}
use Rattle.logon_stubs.specs.Parts.{IfThere}
use Rattle.logon_stubs.specs.Calls.{reply_of}
use Rattle.logon_stubs.specs.declared.calls.LogonCall.{LogonCall}
use Rattle.logon_stubs.specs.Writing.{written_reply}
use Rattle.end_links.specs.Links.{LinkState}
use Rattle.end_links.specs.Sending.{response_of}
use Rattle.end_links.specs.Serving.{ServedUnit, served_units}
use Rattle.authenticators.specs.Sequences.{next_seed, return_of}
use Rattle.authenticators.proofs.BlockLaws.{cred_block}
use Rattle.logon_stubs.specs.Ranges.{IsBlock, short_reply_limit}
use Rattle.logon_stubs.specs.Status.{no_trust_sam_account}
use Rattle.interactive_logon.specs.Sessions.{session_limit}
use Rattle.interactive_logon.specs.declared.sessions.Session.{Session}
use Rattle.secret_change.specs.Calls.{written_set_reply}
use Rattle.secret_change.specs.Hiding.{show_of}
use Rattle.secret_change.proofs.SetLaws.{reply_stub as set_stub}
use Rattle.account_table.specs.AccountTable.{AccountTable}
use Rattle.account_table.specs.LookUps.{machine_in}
use Rattle.controller_calls.specs.Doing.{done_by, reply_stub, returned_with, set_so}
use Rattle.controller_calls.specs.Interactive.{admitted, judge_interactive}
use Rattle.controller_calls.specs.Logons.{IsServedLevel}
use Rattle.domain_controller.proofs.WholeParts.{Fits, admitted_has, interactive_fit, interactive_served, logoff_few, passed_few}
use Rattle.domain_controller.specs.Hearing.{hear}
use Rattle.domain_controller.specs.Machine.{Desk, controller_server}
use Rattle.domain_controller.specs.ReadBack.{IsReadBack}
use Rattle.domain_controller.specs.State.{State as ControllerState}
use Rattle.domain_controller.specs.Step.{first_desk, step_of}
use Rattle.domain_controller.specs.Whole.{AreChallenges, InRangeDesk, InRangePart, InRangeRunning, InRangeState, InRangeTable, InRangeTalk}
use Rattle.domain_controller.specs.declared.hearing.Heard.{Heard}
use Rattle.domain_controller.specs.declared.state.Running.{Running}
use Rattle.domain_controller.specs.declared.state.Talk.{Talk}
use Rattle.domain_controller.proofs.ReadBackLaws.{replies_are_read_back}
use Rattle.domain_controller.proofs.WholeLaws.{found_link, sends_are_whole}
use Rattle.step_notes.specs.ControllerNotes.{Answered, Where, answer_on, channel_in, has_passed, heard_answer, judging_by, judging_of, opened_by, opening, passing, units_at, units_by, units_of_controller}
use Rattle.step_notes.specs.JudgedInRange.{HasLevel, IsJudgedInRange, IsReadAsMade, PassedRepliesAreRead}
use Rattle.step_notes.specs.Records.{Judging, Source, computer_named}
use Rattle.step_notes.specs.ReplySends.{IsItsReply, reply_passed, standing_at, stub_passed}
use Rattle.controller_calls.specs.declared.calls.JudgedCall.{JudgedCall}
use Rattle.controller_calls.specs.declared.calls.JudgedCall.TheVariants.{Network, Interactive, Logoff, NetworkLogoff, Set}
use Rattle.step_notes.specs.Served.{units_if_taken, work_after}
use Rattle.step_notes.proofs.Controllers.JudgedCallLaws.{if_network, of_network}
use Rattle.step_notes.proofs.ServedLaws.{all_mapped, served_such}
use Rattle.outside.specs.declared.event.Event.TheVariants as event
use Rattle.controller_calls.specs.declared.calls.ControllerCall.TheVariants as call
use Rattle.domain_controller.specs.declared.hearing.Heard.TheVariants as heard

-- ---- a unit

abbrev AnswerFits : Answered → Type 0
AnswerFits one = IfThere IsJudgedInRange one.judging

opening_fits : (channel : Option ChannelIdentity) (w : Where) (number kind : ℕ) → AnswerFits (opening channel w number kind)
opening_fits None w number kind = tt
opening_fits (Some channel) w number kind = tt

passing_fits : (channel : Option ChannelIdentity) (j : Judging) → IsJudgedInRange j → AnswerFits (passing channel j)
passing_fits None j is = is
passing_fits (Some channel) j is = is

judging_fits : (passed : Bool) (j : Judging) → IsJudgedInRange j → AnswerFits (judging_by passed j)
judging_fits false j is = is
judging_fits true j is = passing_fits (channel_in j.controller (computer_named j.asked) j.checks) j is

answer_fits : (what : Heard) (w : Where) (before : Desk) (after : Option Desk) → IsName w.name → w.moment < 2 ^ 64 → InRangeTable before.table → AnswerFits (heard_answer what w before after)
answer_fits (heard.Close cause) w before after name moment table = tt
answer_fits (heard.Answer bytes talk) w before after name moment table = tt
answer_fits (heard.Waits talk) w before after name moment table = tt
answer_fits (heard.Asked line (call.Challenge c) talk) w before after name moment table = tt
answer_fits (heard.Asked line (call.Authenticate c) talk) w before after name moment table = opening_fits (opened_by w.controller c before) w line.call c.channel
answer_fits (heard.Asked line (call.Judged c) talk) w before after name moment table =
    let j : Judging = judging_of w line c before after in
    judging_fits (has_passed j.how) j (record { table = table; name = name; moment = moment })

-- ---- the units of a piece

abbrev AllFit : ℕ → Where → List (ServedUnit Desk Talk) → Type 0
AllFit link w units = AllByRecursion AnswerFits (map (answer_on link w) units)

units_fit : (link : ℕ) (w : Where) (units : List (List ℕ)) (d : Desk) (talk : Talk) (left : List (List ℕ)) → IsName w.name → w.moment < 2 ^ 64 → InRangeDesk d → InRangeTalk talk → AreChallenges left →
    AllFit link w (served_units (controller_server w.name w.moment link) units d talk left)
units_fit link w units d talk left name moment fits limit eight =
    all_mapped AnswerFits (answer_on link w) (served_units (controller_server w.name w.moment link) units d talk left)
    (served_such (controller_server w.name w.moment link) InRangePart (λ (served : ServedUnit Desk Talk). AnswerFits (answer_on link w served))
    (λ bytes before said some range. (
      answer_fits (hear link bytes said) w before (work_after ((controller_server w.name w.moment link).unit bytes before said some)) name moment range.0.table,
      sends_are_whole.unit w.name w.moment link bytes before said some name moment range.0 range.1 range.2,
    ))
    units d talk left (fits, limit, eight))

-- ---- a step

module _ (at controller : ℕ) (source : Source) (link : ℕ) (piece : List ℕ) (c : ControllerState) (now : ℕ) (left : List (List ℕ)) where
  abbrev here : Where
  here = standing_at at controller source c now

  at_fits : (found : Option (LinkState Talk)) (running : Running) → IfThere (λ (link : LinkState Talk). InRangeTalk link.talk) found → InRangeState c → now < 2 ^ 64 → AreChallenges left →
      AllFit link here (units_at found link piece c running now left)
  at_fits None running limit is moment eight = tt
  at_fits (Some there) running limit is moment eight =
      units_fit link here (cut_stream (there.rest ++ piece)).units (first_desk c.table running) there.talk left is.name moment (record { sends = tt; table = is.table }) limit eight

  by_fits : (running : Option Running) → InRangeRunning running → InRangeState c → now < 2 ^ 64 → AreChallenges left → AllFit link here (units_by running link piece c now left)
  by_fits None range is moment eight = tt
  by_fits (Some running) range is moment eight = at_fits (lookup same_number link running.links) running (found_link link running.links range) is moment eight

  taken_fits : (answer : Result (List Action) StepRefused) (units : List (ServedUnit Desk Talk)) → AllFit link here units → AllFit link here (units_if_taken answer units)
  taken_fits (Err why) units fit = tt
  taken_fits (Ok actions) units fit = fit

judgings_in_range : (c : ControllerState) (at controller : ℕ) (source : Source) (link : ℕ) (piece : List ℕ) (now : ℕ) (left : List (List ℕ)) → InRangeState c → now < 2 ^ 64 → AreChallenges left →
    AllFit link (standing_at at controller source c now) (units_of_controller c link piece now left)
judgings_in_range c at controller source link piece now left is moment eight =
    taken_fits at controller source link piece c now left (step_of c (event.Bytes link piece) now left).answer (units_by c.running link piece c now left)
    (by_fits at controller source link piece c now left c.running is.running is moment eight)

-- ---- a reply is read

-- the stub of the reply to a network logon is that reply as it is written
stub_is : (j : Judging) (c : LogonCall) (channel : SecureChannelState) (given : Authenticator) → j.asked ≡ Network c → stub_passed j channel given ≡ written_reply (reply_passed j c channel given)
stub_is j c channel given is =
    let key : List ℕ = key_of_channel channel in
    ap (λ (asked : JudgedCall). reply_stub asked key (return_of key channel.seed given.timestamp) (done_by asked channel j.name j.table j.moment j.sessions)) is

-- the stub of a reply has room in one piece of a link, whatever is asked
few_set : (place : Option ℕ) (hash credential : List ℕ) (table : AccountTable) (sessions : List Session) → IsBlock 8 credential →
    length (written_set_reply (record { returned = returned_with credential; status = (set_so place hash table sessions).status })) ≤ short_reply_limit
few_set None hash credential table sessions block =
    omega (arith, (set_stub (record { returned = returned_with credential; status = no_trust_sam_account }) (record { returned = record { credential = block; timestamp = omega arith }; status = omega arith })).short)
few_set (Some place) hash credential table sessions block =
    omega (arith, (set_stub (record { returned = returned_with credential; status = 0 }) (record { returned = record { credential = block; timestamp = omega arith }; status = omega arith })).short)

module _ (channel : SecureChannelState) (given : Authenticator) (name : List ℕ) (table : AccountTable) (now : ℕ) (sessions : List Session) (range : InRangeTable table) (is_name : IsName name)
    (moment : now < 2 ^ 64) where
  abbrev key : List ℕ
  key = key_of_channel channel

  abbrev credential : List ℕ
  credential = return_of key channel.seed given.timestamp

  few_of : (asked : JudgedCall) → HasLevel asked → length (reply_stub asked key credential (done_by asked channel name table now sessions)) ≤ short_reply_limit
  few_of (Network c) small = (replies_are_read_back.passed table name now c.info c.validation key channel.seed given.timestamp range is_name moment small).few
  few_of (Interactive c) small =
      let full : Bool = length sessions == session_limit in
      let judgement = judge_interactive table name now c.info c.validation key in
      (passed_few (admitted full judgement.verdict) c.validation key credential (cred_block key (next_seed channel.seed given.timestamp))
      (admitted_has full judgement.verdict Fits (interactive_fit table name now range is_name moment c.info c.validation key))
      (admitted_has full judgement.verdict (λ granted. IsServedLevel c.validation) (interactive_served table name now c.info c.validation key))).few
  few_of (Logoff c) small = (logoff_few (Some (returned_with credential)) _ (cred_block key (next_seed channel.seed given.timestamp))).few
  few_of (NetworkLogoff c) small = (logoff_few (Some (returned_with credential)) _ (cred_block key (next_seed channel.seed given.timestamp))).few
  few_of (Set c) small =
      few_set (machine_in table.accounts c.account c.channel c.computer) (show_of key c.hidden) credential table sessions (cred_block key (next_seed channel.seed given.timestamp))

module _ (j : Judging) (bytes : List ℕ) (is : IsItsReply j bytes) (frames : List RpcUnit) (unit : RpcUnit) (range : IsJudgedInRange j) (heard : IsHeard bytes frames unit) where
  abbrev stub : List ℕ
  stub = stub_passed j is.next.channel is.next.given

  back_of : (c : LogonCall) → c.validation < 2 ^ 16 → IsReadBack (reply_passed j c is.next.channel is.next.given)
  back_of c small =
      replies_are_read_back.passed j.table j.name j.moment c.info c.validation (key_of_channel is.next.channel) is.next.channel.seed is.next.given.timestamp range.table range.name range.moment small

  reply_read : HasLevel j.asked → IsReadAsMade j bytes is unit
  reply_read small = record {
    unit_is = replies_are_read_back.alone j.number is.context is.limit stub frames unit (few_of is.next.channel is.next.given j.name j.table j.moment j.sessions range.table range.name range.moment j.asked small) (subst (λ (b : List ℕ). IsHeard b frames unit) is.frames heard);
    read = if_network (λ (c : LogonCall). reply_of 2 (stub_of unit.body) ≡ Ok (reply_passed j c is.next.channel is.next.given)) j.asked
        (λ c asks.
        replies_are_read_back.reads j.number is.context is.limit (reply_passed j c is.next.channel is.next.given) frames unit
        (back_of c (of_network (λ (call : LogonCall). call.validation < 2 ^ 16) j.asked c asks small))
        (subst (λ (b : List ℕ). IsHeard b frames unit) (is.frames ∙ ap (λ (s : List ℕ). bytes_of_call (response_of j.number is.context s) is.limit) (stub_is j c is.next.channel is.next.given asks)) heard));
  }

pub replies_are_read : PassedRepliesAreRead
replies_are_read = record { judged = judgings_in_range; read = λ j bytes is frames unit range small heard. reply_read j bytes is frames unit range heard small }

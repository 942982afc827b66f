-- What a station sends: on each link the bind of its call, and once that is accepted the call's request (MS-NRPC 3.5.4,
-- 3.1.4.1 to 3.1.4.5, 2.2.1.1.4; C706 12.6.3). The numbers of binds and requests are this project's own choice.
use Rattle.std.specs.Prelude.{ℕ, ◌≡◌, ◌+◌, ◌++◌, false, List, [], ◌∷◌, replicate, Option, Some, None}
use Rattle.std.specs.List.{flat_map}
use Rattle.wire_base.specs.declared.authenticator.Authenticator.{Authenticator}
use Rattle.rc4_stream.specs.Rc4.{applied}
use Rattle.channel_keys.specs.Credentials.{cred_of}
use Rattle.channel_keys.specs.SessionKeys.{key_of}
use Rattle.authenticators.specs.SecureChannels.{SecureChannelState, key_of_channel}
use Rattle.outside.specs.declared.action.Action.{Action}
use Rattle.outside.specs.declared.action.Action.TheVariants as action
use Rattle.outside.specs.declared.event.Event.{Event}
use Rattle.outside.specs.declared.event.Event.TheVariants as event
use Rattle.rpc_units.specs.Calls.{bytes_of_call}
use Rattle.rpc_units.specs.Stream.{cut_stream}
use Rattle.rpc_units.specs.Writing.{written}
use Rattle.logon_stubs.specs.declared.calls.Call.TheVariants as call
use Rattle.logon_stubs.specs.Interface.{netlogon_syntax}
use Rattle.logon_stubs.specs.Writing.{written_call}
use Rattle.end_loop.specs.Runs.{taken_actions}
use Rattle.end_links.specs.Binding.{bind_of}
use Rattle.end_links.specs.Links.{LinkState}
use Rattle.end_links.specs.Sending.{request_of}
use Rattle.interactive_logon.specs.declared.calls.InteractiveCall.{InteractiveCall}
use Rattle.interactive_logon.specs.Writing.{written_interactive}
use Rattle.interactive_station.specs.declared.plan.StationPlan.{StationPlan}
use Rattle.interactive_station.specs.declared.state.StationCall.{StationCall}
use Rattle.interactive_station.specs.declared.state.StationCall.TheVariants.{Challenge, Authenticate, Logon, Logoff}
use Rattle.interactive_station.specs.declared.state.StationLink.TheVariants.{Dialling, On}
use Rattle.interactive_station.specs.declared.state.StationRunning.{StationRunning}
use Rattle.interactive_station.specs.declared.state.StationStep.TheVariants.{Bound}
use Rattle.interactive_station.specs.declared.state.StationTalk.{StationTalk}
use Rattle.interactive_station.specs.Machine.{step_of}
use Rattle.interactive_station.specs.Replies.{Course, StepsAs, brings_in, is_dialled, is_heard}
use Rattle.interactive_station.specs.State.{StationState}

-- ---- what a step sends, each with its link

abbrev pub sent_by : Action → List (ℕ × List ℕ)
sent_by (action.Send link bytes) = (link, bytes) ∷ []
sent_by (action.Keep bytes) = []
sent_by (action.Dial peer) = []
sent_by (action.Close link cause) = []
sent_by (action.Told link how) = []
sent_by (action.Judged judged) = []

abbrev pub sent_in : List Action → List (ℕ × List ℕ)
sent_in actions = flat_map sent_by actions

abbrev pub sent_at : StationState → Event → (now : ℕ) → List (List ℕ) → List (ℕ × List ℕ)
sent_at s what now left = sent_in (taken_actions (step_of s what now left).answer)

-- ---- what the Logon and the Logoff carry

-- The logon of a plan's user, with the names of the plan, whose computer is the workstation too, 16 zeros as the LM
-- hash, and the plan's hash under the channel's key.
abbrev pub interactive_request : StationPlan → SecureChannelState → Authenticator → (validation : ℕ) → InteractiveCall
interactive_request plan o authenticator validation = record {
  server = None;
  computer = Some plan.computer;
  authenticator = Some authenticator;
  returned = Some (record { credential = replicate 8 0; timestamp = 0 });
  info = record {
    domain = plan.domain;
    control = 0;
    logon_id = 0;
    user = plan.user;
    workstation = plan.computer;
    lm = replicate 16 0;
    nt = applied (key_of_channel o) 0 plan.hash;
  };
  validation = validation;
}

-- ---- the law

-- A link opens that was dialled for a call: its bind goes out, and the answer to that is waited for.
abbrev pub bind_course : StationCall → (number link : ℕ) → Course
bind_course c number link = record {
  actions = action.Send link (written (bind_of netlogon_syntax number)) ∷ [];
  outcome = None;
  standing = On (record { rest = []; talk = record { link = link; joiner = None; step = Bound c } });
}

-- How a call goes out, by the number of its bind, which that of its request follows, by its operation, and by the stub
-- that it has of a plan.
pub record GoesOut (c : StationCall) (number opnum : ℕ) (stub : StationPlan → List ℕ) : Type 0 where
  -- the link of the call opens
  pub bind : (s : StationState) (running : StationRunning) (link now : ℕ) (left : List (List ℕ)) → s.running ≡ Some running → s.outcome ≡ None →
      running.standing ≡ Dialling (Some c) → StepsAs (step_of s (event.Dialled link) now left) running.task (bind_course c number link)
  -- the bind is accepted, by a peer that takes fragments of at most that limit: the request goes out on context 0
  pub request : (s : StationState) (running : StationRunning) (own : LinkState StationTalk) (piece : List ℕ) (now : ℕ) (left : List (List ℕ)) (limit : ℕ) →
      s.running ≡ Some running → s.outcome ≡ None → running.standing ≡ On own → own.talk.step ≡ Bound c →
      (brings_in (cut_stream (own.rest ++ piece)) own.talk).limit ≡ Some limit →
      sent_at s (event.Bytes own.talk.link piece) now left
      ≡ (own.talk.link, bytes_of_call (request_of (number + 1) 0 opnum (stub running.task)) limit) ∷ []

pub record SendsItsCalls : Type 0 where
  -- the first link opens: the call is made with the challenge that is drawn
  pub first : (s : StationState) (running : StationRunning) (link now : ℕ) (client : List ℕ) (left : List (List ℕ)) → s.running ≡ Some running → s.outcome ≡ None →
      running.standing ≡ Dialling None → StepsAs (step_of s (event.Dialled link) now (client ∷ left)) running.task (bind_course (Challenge client) 1 link)
  pub challenge : (client : List ℕ) → GoesOut (Challenge client) 1 4
      (λ plan. written_call (call.Challenge (record { primary = None; computer = plan.computer; challenge = client })))
  -- the account is the computer's name and a dollar sign, the channel a workstation's (2), and the flags are 000041FF
  pub authenticate : (client server : List ℕ) → GoesOut (Authenticate client server) 3 15 (λ plan. written_call (call.Authenticate (record {
    primary = None;
    account = plan.computer ++ 0x24 ∷ [];
    channel = 2;
    computer = plan.computer;
    credential = cred_of (key_of plan.secret client server 0x41FF) client;
    flags = 0x41FF;
  })))
  -- at level 1, asking for validation of level 3
  pub logon : (o : SecureChannelState) (authenticator : Authenticator) → GoesOut (Logon o authenticator) 5 2
      (λ plan. written_interactive 2 (interactive_request plan o authenticator 3))
  -- the Logoff carries the request of the logon, and asks for no validation
  pub logoff : (o : SecureChannelState) (authenticator : Authenticator) (domain user : List ℕ) → GoesOut (Logoff o authenticator domain user) 7 3
      (λ plan. written_interactive 3 (interactive_request plan o authenticator 0))
  -- where bytes bring no acceptance of a bind, nothing is sent
  pub none : (s : StationState) (running : StationRunning) (own : LinkState StationTalk) (piece : List ℕ) (now : ℕ) (left : List (List ℕ)) →
      s.running ≡ Some running → s.outcome ≡ None → running.standing ≡ On own →
      (brings_in (cut_stream (own.rest ++ piece)) own.talk).limit ≡ None → sent_at s (event.Bytes own.talk.link piece) now left ≡ []

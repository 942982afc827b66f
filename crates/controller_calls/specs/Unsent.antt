-- A call on a secure channel before its reply is sent, by its stub: what is done and told, and the stub, or the logon
-- that is handed on (MS-NRPC 3.1.4.5; this project's own choice). It is for replies that don't go out as they are, but
-- are sealed. A credential has 8 bytes, a key 16.
use Rattle.std.specs.Prelude.{ℕ, ◌≡◌, Bool, true, false, List, [], ◌∷◌, ◌++◌, Option, Some, None}
use Rattle.wire_base.specs.Maps.{lookup}
use Rattle.wire_base.specs.Names.{same_name}
use Rattle.wire_base.specs.declared.authenticator.Authenticator.{Authenticator}
use Rattle.authenticators.specs.SecureChannels.{SecureChannelState, channel_by, key_of_channel, passes_on, return_by}
use Rattle.outside.specs.declared.action.Action.TheVariants as action
use Rattle.outside.specs.declared.action.Judged.{Judged}
use Rattle.outside.specs.declared.action.Judged.TheVariants as judged
use Rattle.logon_stubs.specs.declared.info.Verdict.TheVariants.{Status}
use Rattle.logon_stubs.specs.Status.{no_logon_servers}
use Rattle.logon_stubs.specs.Writing.{written_reply}
use Rattle.controller_calls.specs.Calls.{asked_of, computer_named, given_in}
use Rattle.controller_calls.specs.Desk.{Desk, desk, put_channel, send_stub, take_channel, tell}
use Rattle.controller_calls.specs.Doing.{Done, done_asked, kept_asked, refused_stub, stub_asked}
use Rattle.controller_calls.specs.Forwarded.{ForwardedState}
use Rattle.controller_calls.specs.Handing.{CallPlace, Handing, forwarded_reply, hand_on, judge_call, trust_asked}
use Rattle.controller_calls.specs.declared.calls.Asked.{Asked}
use Rattle.controller_calls.specs.declared.calls.JudgedCall.{JudgedCall}
use Rattle.controller_calls.specs.declared.handing.HandOn.{HandOn}
use Rattle.controller_calls.specs.declared.line.Line.{Line}
use Rattle.controller_calls.specs.declared.state.Work.{Work}

-- what the controller has then; the stub of the reply, unless the logon is handed on; and the logon, where it is
abbrev pub Unsent : Type 0
Unsent = Desk × (Option (List ℕ) × Option HandOn)

abbrev pub replies : Desk → (stub : List ℕ) → Unsent
replies d stub = (d, (Some stub, None))

abbrev pub refuse_unsent : Asked → Judged → Desk → Unsent
refuse_unsent what how d = replies (desk d.table (tell d.work (action.Judged how))) (refused_stub what)

-- ---- where its authenticator passes

-- what is asked is done: a text is kept before it is told that the call passed
abbrev pub work_done : Asked → Done → Work → Work
work_done what done work = record work {
  computers = record work.computers { sessions = done.sessions };
  actions = work.actions ++ (kept_asked what done ++ action.Judged (judged.Passed done.status) ∷ []);
}

abbrev pub pass_done : Asked → Done → (key credential : List ℕ) (d : Desk) → Unsent
pass_done what done key credential d = replies (desk done.table (work_done what done d.work)) (stub_asked what key credential done)

abbrev pub pass_unsent : Asked → CallPlace → (computer key credential : List ℕ) (d : Desk) → Unsent
pass_unsent what at computer key credential d =
    pass_done what (done_asked what computer key at.name d.table at.now d.work.computers.sessions) key credential d

abbrev pub pass_or_hand_unsent : (trust : Option ℕ) → Asked → CallPlace → (computer key credential : List ℕ) (d : Desk) → Unsent
pass_or_hand_unsent None what at computer key credential d = pass_unsent what at computer key credential d
pass_or_hand_unsent (Some trust) what at computer key credential d =
    (d, (None, hand_on what trust at.line key credential))

-- ---- how it is judged, as in `Handing`

abbrev pub returned_unsent : Option (List ℕ) → SecureChannelState → Asked → CallPlace → List ℕ → Desk → Unsent
returned_unsent None channel what at computer d = refuse_unsent what judged.Barred d
returned_unsent (Some credential) channel what at computer d =
    pass_or_hand_unsent (trust_asked what channel.kind d.table at.trusts) what at computer (key_of_channel channel) credential d

abbrev pub on_unsent : Option SecureChannelState → Authenticator → Asked → CallPlace → List ℕ → Desk → Unsent
on_unsent None given what at computer d = refuse_unsent what judged.NoChannel d
on_unsent (Some channel) given what at computer d =
    returned_unsent (return_by (passes_on channel given) channel given) channel what at computer
    (desk d.table (put_channel computer (channel_by (passes_on channel given) channel given) d.work))

abbrev pub named_unsent : Option (List ℕ) → Option Authenticator → Asked → CallPlace → Desk → Unsent
named_unsent None given what at d = refuse_unsent what judged.NoChannel d
named_unsent (Some computer) None what at d = refuse_unsent what judged.NoChannel d
named_unsent (Some computer) (Some given) what at d =
    on_unsent (lookup same_name computer d.work.computers.channels) given what at computer (desk d.table (take_channel computer d.work))

abbrev pub call_unsent : JudgedCall → CallPlace → Desk → Unsent
call_unsent c at d = named_unsent (computer_named c) (given_in c) (asked_of c) at d

-- one that came on a link of another channel is refused, and its channel stays as it was
abbrev pub owned_unsent : (is_own : Bool) (c : JudgedCall) (at : CallPlace) (d : Desk) → Unsent
owned_unsent true c at d = call_unsent c at d
owned_unsent false c at d = refuse_unsent (asked_of c) judged.NoChannel d

-- ---- a logon that was handed on

-- nobody can be asked for it, where its reply isn't sent yet
abbrev pub told_unasked : Work → Work
told_unasked work = tell work (action.Judged (judged.Passed no_logon_servers))

abbrev pub unasked_stub : ForwardedState → List ℕ
unasked_stub f = written_reply (forwarded_reply f (Status no_logon_servers))

-- ---- a reply goes out as where nothing is sealed

abbrev pub send_unsent : Option (List ℕ) → Line → Work → Work
send_unsent None line work = work
send_unsent (Some stub) line work = send_stub work line stub

abbrev pub sent_on : Line → Unsent → Handing
sent_on line u = (desk u.0.table (send_unsent u.1.0 line u.0.work), u.1.1)

-- The reply that is sent then is that of a call that is answered at once.
pub record UnsentAreSent : Type 0 where
  pub sent : (c : JudgedCall) (at : CallPlace) (d : Desk) → sent_on at.line (call_unsent c at d) ≡ judge_call c at d

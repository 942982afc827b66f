-- Which logons a controller hands on to the controller of a domain that it trusts, and what becomes of them
-- (MS-NRPC 3.5.4.5.3 and 3.3.5.1 for the way to another domain; which channels hand on, in one hop, and the order of
-- checks are this project's own choice). A credential has 8 bytes, a key 16. Trusts are numbered from 0, in the table's
-- order.
use Rattle.std.specs.Prelude.{ℕ, ◌≡◌, ◌==◌, ◌||◌, Bool, true, false, nat_lt, List, Option, Some, None}
use Rattle.wire_base.specs.Maps.{lookup}
use Rattle.wire_base.specs.Names.{same_name}
use Rattle.wire_base.specs.declared.authenticator.Authenticator.{Authenticator}
use Rattle.channel_keys.specs.ChannelTypes.{backup_controller_channel, workstation_channel}
use Rattle.authenticators.specs.SecureChannels.{SecureChannelState, channel_by, key_of_channel, passes_on, return_by}
use Rattle.outside.specs.declared.action.Action.TheVariants as action
use Rattle.outside.specs.declared.action.Judged.{Judged}
use Rattle.outside.specs.declared.action.Judged.TheVariants as judged
use Rattle.logon_stubs.specs.declared.calls.Reply.{Reply}
use Rattle.logon_stubs.specs.declared.info.NetworkInfo.{NetworkInfo}
use Rattle.logon_stubs.specs.declared.info.Verdict.{Verdict}
use Rattle.logon_stubs.specs.declared.info.Verdict.TheVariants.{Status}
use Rattle.logon_stubs.specs.Status.{no_logon_servers}
use Rattle.account_table.specs.AccountTable.{AccountTable}
use Rattle.account_table.specs.LookUps.{route_in}
use Rattle.account_table.specs.declared.table.Route.{Route}
use Rattle.account_table.specs.declared.table.Route.TheVariants as route
use Rattle.controller_calls.specs.Asking.{answer_judged, pass_asked, refuse_asked}
use Rattle.controller_calls.specs.Calls.{asked_of, computer_named, given_in}
use Rattle.controller_calls.specs.Desk.{Desk, desk, put_channel, send_reply, take_channel, tell}
use Rattle.controller_calls.specs.Forwarded.{ForwardedState, forwarded_call}
pub use Rattle.controller_calls.specs.Forwarded.{ForwardedState, call_without}
use Rattle.controller_calls.specs.Logons.{IsServedLevel, pass_logon, reply_to, serves_level, status_of}
use Rattle.controller_calls.specs.declared.calls.Asked.{Asked}
use Rattle.controller_calls.specs.declared.calls.Asked.TheVariants as asked
use Rattle.controller_calls.specs.declared.calls.JudgedCall.{JudgedCall}
use Rattle.controller_calls.specs.declared.handing.HandOn.{HandOn}
use Rattle.controller_calls.specs.declared.line.Line.{Line}
use Rattle.controller_calls.specs.declared.state.Work.{Work}

-- ---- which logons are handed on

-- The channels of workstations and of backup controllers. A logon that comes on a trust's channel is judged here, so
-- that no logon takes more than one hop.
abbrev pub hands_on : Option ℕ → Bool
hands_on None = false
hands_on (Some kind) = (kind == workstation_channel) || (kind == backup_controller_channel)

-- the trust of that number, where its controller can be asked
abbrev pub trust_below : (is_asked : Bool) → ℕ → Option ℕ
trust_below false trust = None
trust_below true trust = Some trust

-- the trust of a route, where it is among the first `trusts`, which can be asked
abbrev pub trust_by : (hands : Bool) → (serves : Bool) → Route → (trusts : ℕ) → Option ℕ
trust_by true true (route.Trust trust) trusts = trust_below (nat_lt trust trusts) trust
trust_by _ _ _ trusts = None

-- the trust whose controller is asked, of a logon at that level that passed on a channel of that type
abbrev pub trust_for : Option ℕ → ℕ → AccountTable → NetworkInfo → ℕ → Option ℕ
trust_for kind validation table info trusts =
    trust_by (hands_on kind) (serves_level validation) (route_in table info.domain) trusts

-- network logons alone are handed on
abbrev pub trust_asked : Asked → Option ℕ → AccountTable → ℕ → Option ℕ
trust_asked (asked.Network info validation) kind table trusts = trust_for kind validation table info trusts
trust_asked (asked.Interactive info validation) kind table trusts = None
trust_asked (asked.Logoff info) kind table trusts = None
trust_asked asked.NetworkLogoff kind table trusts = None
trust_asked (asked.Set account type hidden) kind table trusts = None

-- a logon that is handed on asks for a level that is served
abbrev pub IsAskedLevel : Asked → Type 0
IsAskedLevel (asked.Network info validation) = IsServedLevel validation
IsAskedLevel (asked.Interactive info validation) = Unit {0}
IsAskedLevel (asked.Logoff info) = Unit {0}
IsAskedLevel asked.NetworkLogoff = Unit {0}
IsAskedLevel (asked.Set account type hidden) = Unit {0}

-- the logon, with what its answer needs, which goes there
abbrev pub hand_on : Asked → ℕ → Line → List ℕ → List ℕ → Option HandOn
hand_on (asked.Network info validation) trust line key credential =
    Some (record { trust = trust; info = info; call = forwarded_call line validation key credential })
hand_on (asked.Interactive info validation) trust line key credential = None
hand_on (asked.Logoff info) trust line key credential = None
hand_on asked.NetworkLogoff trust line key credential = None
hand_on (asked.Set account type hidden) trust line key credential = None

-- ---- a call on a secure channel, at a controller that can ask the first so many trusts

-- what is the same for all of a call: the controller's name, the moment, where it is answered, and how many trusts can
-- be asked
pub record CallPlace : Type 0 where
  pub name : List ℕ
  pub now : ℕ
  pub line : Line
  pub trusts : ℕ

-- what the controller has then, and the logon, where it is handed on: of it nothing is told and nothing is sent yet
abbrev pub Handing : Type 0
Handing = Desk × Option HandOn

-- a call that passes: it is judged here, or the controller of that trust is asked, with the credential that is returned
abbrev pub pass_or_hand : (trust : Option ℕ) → Asked → CallPlace → (computer key credential : List ℕ) → Desk → Handing
pass_or_hand None what at computer key credential d = (pass_asked what at.name at.now at.line computer key credential d, None)
pass_or_hand (Some trust) what at computer key credential d = (d, hand_on what trust at.line key credential)

abbrev pub refuse_here : Asked → Judged → CallPlace → Desk → Handing
refuse_here what how at d = (desk d.table (refuse_asked what how at.line d.work), None)

-- by the credential that is returned, where the authenticator passes, and by the channel as it stood
abbrev pub judge_returned : Option (List ℕ) → SecureChannelState → Asked → CallPlace → List ℕ → Desk → Handing
judge_returned None channel what at computer d = refuse_here what judged.Barred at d
judge_returned (Some credential) channel what at computer d =
    pass_or_hand (trust_asked what channel.kind d.table at.trusts) what at computer (key_of_channel channel) credential d

abbrev pub judge_on : Option SecureChannelState → Authenticator → Asked → CallPlace → List ℕ → Desk → Handing
judge_on None given what at computer d = refuse_here what judged.NoChannel at d
judge_on (Some channel) given what at computer d =
    judge_returned (return_by (passes_on channel given) channel given) channel what at computer
    (desk d.table (put_channel computer (channel_by (passes_on channel given) channel given) d.work))

abbrev pub judge_named : Option (List ℕ) → Option Authenticator → Asked → CallPlace → Desk → Handing
judge_named None given what at d = refuse_here what judged.NoChannel at d
judge_named (Some computer) None what at d = refuse_here what judged.NoChannel at d
judge_named (Some computer) (Some given) what at d =
    judge_on (lookup same_name computer d.work.computers.channels) given what at computer (desk d.table (take_channel computer d.work))

abbrev pub judge_call : JudgedCall → CallPlace → Desk → Handing
judge_call c at d = judge_named (computer_named c) (given_in c) (asked_of c) at d

-- ---- what becomes of a logon that is handed on

-- nobody can be asked for it: where it came on this line, it passed with NO_LOGON_SERVERS
abbrev pub answer_unasked : ForwardedState → Line → Work → Work
answer_unasked f line work = pass_logon (Status no_logon_servers) line f.validation f.key f.credential work

-- the reply with the credential that was kept, at the level that was asked for, with what is granted, its key hidden
-- under the key that was kept
abbrev pub forwarded_reply : ForwardedState → Verdict → Reply
forwarded_reply f verdict = reply_to verdict f.validation f.key f.credential

-- to nobody where its link has closed
abbrev pub reply_if : Option Line → Reply → Work → Work
reply_if None answer work = work
reply_if (Some line) answer work = send_reply work line answer

-- the verdict is told, and goes back
abbrev pub answer_forwarded : Verdict → ForwardedState → Work → Work
answer_forwarded verdict f work =
    reply_if f.line (forwarded_reply f verdict) (tell work (action.Judged (judged.Answered (status_of verdict))))

-- ---- laws

-- the call as it is answered where no trust is asked
abbrev pub IsJudgedHere : JudgedCall → CallPlace → Desk → Type 0
IsJudgedHere c at d = judge_call c at d ≡ (answer_judged c at.name at.now at.line d, None)

-- A controller that can ask no trust hands nothing on: each call is judged here.
pub record JudgesHere : Type 0 where
  pub alone : (c : JudgedCall) (name : List ℕ) (now : ℕ) (line : Line) (d : Desk) →
      IsJudgedHere c (record { name = name; now = now; line = line; trusts = 0 }) d

-- What holds of the steps of a controller that trusts other domains, whatever comes (this project's own choice).
use Rattle.std.specs.Prelude.{ℕ, ◌≡◌, ◌+◌, ◌≤◌, ◌<◌, ◌==◌, ◌↔◌, Bool, true, false, List, [], ◌∷◌, ◌++◌, length, map, Option, Some, None, is_some, Ok, Err, slice_get, slice_set}
use Rattle.std.specs.List.{AllByRecursion}
use Rattle.wire_base.specs.Maps.{IsMap, lookup, same_number}
use Rattle.wire_base.specs.declared.authenticator.Authenticator.{Authenticator}
use Rattle.authenticators.specs.Sequences.{return_of}
use Rattle.authenticators.specs.SecureChannels.{SecureChannelState, key_of_channel}
use Rattle.logon_stubs.specs.declared.info.NetworkInfo.{NetworkInfo}
use Rattle.logon_stubs.specs.declared.info.Verdict.TheVariants.{Status}
use Rattle.logon_stubs.specs.Status.{no_logon_servers}
use Rattle.logon_stubs.specs.Writing.{written_reply}
use Rattle.rpc_units.specs.Calls.{bytes_of_call}
use Rattle.account_table.specs.AccountTable.{AccountTable}
use Rattle.account_table.specs.LookUps.{route_in}
use Rattle.account_table.specs.declared.table.Route.TheVariants as route
use Rattle.outside.specs.declared.action.Action.{Action}
use Rattle.outside.specs.declared.action.Action.TheVariants as action
use Rattle.outside.specs.declared.action.Judged.{Judged}
use Rattle.outside.specs.declared.action.Judged.TheVariants as judged
use Rattle.outside.specs.declared.event.Event.{Event}
use Rattle.outside.specs.declared.event.Event.TheVariants as event
use Rattle.end_links.specs.Sending.{response_of}
use Rattle.end_loop.specs.Acts.{is_made, most_made_by}
use Rattle.end_loop.specs.Runs.{actions_of}
use Rattle.channel_client.specs.Machine.{ask_of}
use Rattle.channel_client.specs.State.{Requester}
use Rattle.channel_client.specs.Turns.{is_out}
use Rattle.channel_turns.specs.Turning.{is_on}
use Rattle.channel_turns.specs.declared.state.Dialling.{Dialling}
use Rattle.controller_calls.specs.Asking.{answer_judged}
use Rattle.controller_calls.specs.Calls.{asked_of, computer_named, given_in}
use Rattle.controller_calls.specs.Doing.{how_refused, move_on, refused_stub}
use Rattle.controller_calls.specs.Forwarded.{ForwardedState, forwarded_call}
use Rattle.controller_calls.specs.Handing.{hands_on}
use Rattle.controller_calls.specs.Logons.{reply_to, serves_level}
use Rattle.controller_calls.specs.Passing.{IsKeep, IsNext, is_passed, judges_call}
use Rattle.controller_calls.specs.declared.calls.Asked.TheVariants as asked
use Rattle.controller_calls.specs.declared.calls.ControllerCall.TheVariants as call
use Rattle.controller_calls.specs.declared.calls.JudgedCall.{JudgedCall}
use Rattle.controller_calls.specs.declared.line.Line.{Line}
use Rattle.controller_calls.specs.declared.state.Computers.{Computers}
use Rattle.domain_controller.specs.Forwarding.{TrustDesk, answer_trust_call, base_desk, by_trust_heard, fits_on, with_queues}
use Rattle.domain_controller.specs.State.{State}
use Rattle.domain_controller.specs.Step.{LinkMap, first_state, halted, step_of}
use Rattle.domain_controller.specs.TrustStep.{TrustPart, first_trust_state, is_idle, trust_halted, trust_step_of, trust_step_part, trusting_after, trusting_weight}
use Rattle.domain_controller.specs.Trusting.{ForwardedCalls, no_trusting}
use Rattle.domain_controller.specs.declared.hearing.Heard.TheVariants as heard
use Rattle.domain_controller.specs.declared.state.Talk.{Talk}
use Rattle.domain_controller.specs.declared.trusting.Trusting.{Trusting}
use Rattle.domain_controller.specs.declared.state.Running.{Running}

-- ---- a controller that can ask nobody

-- A controller that can ask nobody steps as one that trusts no domain, and hands nothing on, and each step leaves it
-- so. One that is made without requesters can ask nobody, and so can each over a table without trusted domains.
pub record StepsAlone : Type 0 where
  pub step : (s : State) (what : Event) (now : ℕ) (left : List (List ℕ)) → s.trusting ≡ no_trusting →
      trust_step_of s what now left ≡ step_of s what now left
  pub stays : (s : State) (what : Event) (now : ℕ) (left : List (List ℕ)) → s.trusting ≡ no_trusting →
      (trust_step_of s what now left).state.trusting ≡ no_trusting
  pub halts : (s : State) → s.trusting ≡ no_trusting → trust_halted s ≡ halted s
  pub first : (table : AccountTable) (name : List ℕ) → (first_state table name).trusting ≡ no_trusting
  pub without_trusts : (table : AccountTable) (name : List ℕ) → table.trusts ≡ [] → first_trust_state table name ≡ first_state table name

-- ---- what follows a link that was closed, or a dial's answer

-- an action that closes no link
abbrev pub ClosesNoLink : Action → Type 0
ClosesNoLink (action.Close link cause) = ⊥
ClosesNoLink (action.Keep bytes) = Unit {0}
ClosesNoLink (action.Send link bytes) = Unit {0}
ClosesNoLink (action.Dial peer) = Unit {0}
ClosesNoLink (action.Told link outcome) = Unit {0}
ClosesNoLink (action.Judged how) = Unit {0}

pub record ClosesNone : Type 0 where
  pub made : (s : State) (what : Event) (now : ℕ) (left : List (List ℕ)) → is_made what ≡ true →
      AllByRecursion ClosesNoLink (actions_of (trust_step_of s what now left))

-- ---- events that a controller's steps make come to an end

-- what a step makes, and what is left to be made after it, is no more than `most`
abbrev pub IsWithin : TrustPart → (most : ℕ) → Type 0
IsWithin (Err why) most = Unit {0}
IsWithin (Ok part) most =
    most_made_by part.value.parts.work.work.actions + trusting_weight (trusting_after part.value.parts) ≤ most

abbrev pub Settles : Type 0
Settles =
    (s : State) (running : Running) (what : Event) (now : ℕ) (left : List (List ℕ)) → is_made what ≡ true →
    IsWithin (trust_step_part running s what now left) (trusting_weight s.trusting)

-- ---- which logon is handed on

-- A network logon whose authenticator is the next one of the computer's channel. The channel is of a type that hands
-- on, the level that it asks for is served, and its domain is one that the table trusts, whose controller can be asked.
pub record IsForTrust (c : JudgedCall) (d : TrustDesk) : Type 0 where
  pub next : IsNext d.work.work.computers (computer_named c) (given_in c)
  pub info : NetworkInfo
  pub validation : ℕ
  pub asks : asked_of c ≡ asked.Network info validation
  pub hands : hands_on next.channel.kind ≡ true
  pub level : serves_level validation ≡ true
  pub trust : ℕ
  pub routed : route_in d.table info.domain ≡ route.Trust trust
  pub requester : Requester
  pub at : slice_get d.work.queues.requesters trust ≡ Some requester

-- there is room at that requester, and its texts and responses aren't too long
pub record IsToBeForwarded (c : JudgedCall) (d : TrustDesk) : Type 0 where
  pub goes : IsForTrust c d
  pub room : length goes.requester.waiting < 64
  pub fits : fits_on goes.info ≡ true

-- what the answer to a logon needs that came on a channel: its line, the validation level that was asked for, the
-- channel's session key, and the credential that is returned, by the channel's seed as it stood
abbrev pub kept_call : (line : Line) (validation : ℕ) (channel : SecureChannelState) (given : Authenticator) → ForwardedState
kept_call line validation channel given =
    forwarded_call line validation (key_of_channel channel)
    (return_of (key_of_channel channel) channel.seed given.timestamp)

-- what is kept of computers once a call has passed: the seed of its channel has moved on
abbrev pub moved_computers : {named : Option (List ℕ)} {given : Option Authenticator} → (d : TrustDesk) →
    IsNext d.work.work.computers named given → Computers
moved_computers d next = (move_on next.computer next.channel next.given (base_desk d)).work.computers

-- A logon that is handed on: it is told so, and nothing is sent; the accounts stay, and the channel has moved on. The
-- logon waits at that requester alone, at its next place, and is answered by what is kept with that place.
pub record IsForwarded (c : JudgedCall) (line : Line) (before after : TrustDesk) (is : IsToBeForwarded c before) : Type 0 where
  pub table : after.table ≡ before.table
  pub computers : after.work.work.computers ≡ moved_computers before is.goes.next
  pub actions : after.work.work.actions ≡ before.work.work.actions ++ action.Judged judged.Forwarded ∷ []
  pub requesters : after.work.queues.requesters
      ≡ slice_set before.work.queues.requesters is.goes.trust (ask_of is.goes.requester is.goes.info).state
  pub forwarded : after.work.queues.forwarded
      ≡ before.work.queues.forwarded
      ++ ((is.goes.trust, is.goes.requester.next_place), kept_call line is.goes.validation is.goes.next.channel is.goes.next.given)
      ∷ []

-- the stub of the reply to a logon for which nobody is asked
abbrev pub unasked_stub : ForwardedState → List ℕ
unasked_stub f = written_reply (reply_to (Status no_logon_servers) f.validation f.key f.credential)

-- Nobody is asked for it: it passed with NO_LOGON_SERVERS, and that is its reply, at the level that was asked for and
-- with the credential that is returned. The accounts stay, and the channel has moved on.
pub record IsLeftUnasked (c : JudgedCall) (line : Line) (before after : TrustDesk) (goes : IsForTrust c before) : Type 0 where
  pub table : after.table ≡ before.table
  pub computers : after.work.work.computers ≡ moved_computers before goes.next
  pub actions : after.work.work.actions
      ≡ before.work.work.actions
      ++ action.Judged (judged.Passed no_logon_servers)
      ∷ action.Send line.link
      (bytes_of_call
      (response_of line.call line.context (unasked_stub (kept_call line goes.validation goes.next.channel goes.next.given)))
      line.limit)
      ∷ []
  pub queues : after.work.queues ≡ before.work.queues

abbrev pub is_forwarded : Judged → Bool
is_forwarded (judged.Passed status) = false
is_forwarded judged.Forwarded = true
is_forwarded (judged.Answered status) = false
is_forwarded judged.Barred = false
is_forwarded judged.NoChannel = false

-- A call that is answered here: it is told otherwise how it was judged, and its reply is sent; nobody is asked. Its
-- authenticator passes exactly where it is the next one of the channel of the computer that it names; where it doesn't,
-- it is told whether that computer has a channel.
pub record IsAnsweredHere (c : JudgedCall) (line : Line) (before after : TrustDesk) : Type 0 where
  pub kept : List Action
  pub texts : AllByRecursion IsKeep kept
  pub how : Judged
  pub judges : judges_call how ≡ true
  pub not : is_forwarded how ≡ false
  pub passes : (is_passed how ≡ true) ↔ IsNext before.work.work.computers (computer_named c) (given_in c)
  pub refused : is_passed how ≡ false → how ≡ how_refused (computer_named c) (given_in c) before.work.work.computers
  pub answer : List ℕ
  pub actions : after.work.work.actions
      ≡ before.work.work.actions ++ (kept ++ action.Judged how ∷ action.Send line.link answer ∷ [])
  pub queues : after.work.queues ≡ before.work.queues

-- A call on a secure channel is handed on exactly where it is to be. Nobody is asked for one that would be, but that it
-- finds no room or is too long. Any other comes to what it comes to at a controller that trusts no domain.
pub record ForwardsByTrust : Type 0 where
  pub forwards : (c : JudgedCall) (name : List ℕ) (now : ℕ) (line : Line) (d : TrustDesk) (is : IsToBeForwarded c d) →
      IsForwarded c line d (answer_trust_call c name now line d) is
  pub other : (c : JudgedCall) (name : List ℕ) (now : ℕ) (line : Line) (d : TrustDesk) → (IsToBeForwarded c d → ⊥) →
      IsAnsweredHere c line d (answer_trust_call c name now line d)
  pub full : (c : JudgedCall) (name : List ℕ) (now : ℕ) (line : Line) (d : TrustDesk) (goes : IsForTrust c d) →
      (IsToBeForwarded c d → ⊥) → IsLeftUnasked c line d (answer_trust_call c name now line d) goes
  pub here : (c : JudgedCall) (name : List ℕ) (now : ℕ) (line : Line) (d : TrustDesk) → (IsForTrust c d → ⊥) →
      answer_trust_call c name now line d ≡ with_queues d.work.queues (answer_judged c name now line (base_desk d))
  -- one whose authenticator isn't the next is told `Barred` where the computer that it names has a channel, else
  -- `NoChannel`, and its reply returns no authenticator
  pub denied : (c : JudgedCall) (name : List ℕ) (now : ℕ) (line : Line) (d : TrustDesk) →
      (IsNext d.work.work.computers (computer_named c) (given_in c) → ⊥) →
      (answer_trust_call c name now line d).work.work.actions
      ≡ d.work.work.actions
      ++ action.Judged (how_refused (computer_named c) (given_in c) d.work.work.computers)
      ∷ action.Send line.link (bytes_of_call (response_of line.call line.context (refused_stub (asked_of c))) line.limit)
      ∷ []
  -- a call is heard as one unit of an accepted link, which stays open
  pub heard : (c : JudgedCall) (line : Line) (talk : Talk) (link : ℕ) (name : List ℕ) (now : ℕ) (d : TrustDesk) (left : List (List ℕ)) →
      by_trust_heard (heard.Asked line (call.Judged c) talk) link name now d left
      ≡ Ok (record { value = (answer_trust_call c name now line d, Some talk); left = left })

-- ---- how many logons are answered

-- how it is told that a logon was answered that was asked of another controller
abbrev pub answers_judged : Judged → ℕ
answers_judged (judged.Passed status) = 0
answers_judged judged.Forwarded = 0
answers_judged (judged.Answered status) = 1
answers_judged judged.Barred = 0
answers_judged judged.NoChannel = 0

abbrev pub answers_in : Action → ℕ
answers_in (action.Close link cause) = 0
answers_in (action.Keep bytes) = 0
answers_in (action.Send link bytes) = 0
answers_in (action.Dial peer) = 0
answers_in (action.Told link outcome) = 0
answers_in (action.Judged how) = answers_judged how

abbrev pub told_answers : List Action → ℕ
told_answers [] = 0
told_answers (what ∷ actions) = answers_in what + told_answers actions

-- At most one logon that was asked is answered in a step: that of the turn which ended.
pub record AnswersOnce : Type 0 where
  pub once : (s : State) (what : Event) (now : ℕ) (left : List (List ℕ)) →
      told_answers (actions_of (trust_step_of s what now left)) ≤ 1

-- ---- one turn is out at a time, over all trusts

-- whether a turn of each requester is out
abbrev pub outs : List Requester → List Bool
outs requesters = map (λ (s : Requester). is_out s) requesters

-- of none, and of the one of that number alone
abbrev pub none_out : List Requester → List Bool
none_out requesters = map (λ (s : Requester). false) requesters

abbrev pub one_out : (idle : Bool) → ℕ → List Requester → List Bool
one_out true turn requesters = none_out requesters
one_out false turn requesters = slice_set (none_out requesters) turn true

-- A turn is out exactly while its dial waits or its link is open, and then of that requester alone.
pub record OneIsOut (t : Trusting) : Type 0 where
  pub outs : outs t.queues.requesters ≡ one_out (is_idle t.dialling) t.turn_of t.queues.requesters
  pub inside : is_idle t.dialling ≡ false → t.turn_of < length t.queues.requesters

-- One turn is out at most at first, and each step leaves it so.
pub record OneTurnIsOut : Type 0 where
  pub first : (table : AccountTable) (name : List ℕ) → OneIsOut (first_trust_state table name).trusting
  pub keeps : (s : State) (what : Event) (now : ℕ) (left : List (List ℕ)) → OneIsOut s.trusting →
      OneIsOut (trust_step_of s what now left).state.trusting

-- ---- each link has a number of its own

-- no two accepted links have one, and none has that of the link of the turn
pub record AreApart (links : LinkMap) (how : Dialling) : Type 0 where
  pub distinct : IsMap same_number links
  pub turn : (number : ℕ) → is_on number how ≡ true → lookup same_number number links ≡ None

abbrev pub ApartUnlessStopped : Option Running → Trusting → Type 0
ApartUnlessStopped None t = Unit {0}
ApartUnlessStopped (Some running) t = AreApart running.links t.dialling

-- Accepted links and that of the turn are apart at first, and each step leaves them so, as one turn is out at a time.
pub record LinksAreApart : Type 0 where
  pub first : (table : AccountTable) (name : List ℕ) →
      ApartUnlessStopped (first_trust_state table name).running (first_trust_state table name).trusting
  pub keeps : (s : State) (what : Event) (now : ℕ) (left : List (List ℕ)) → OneIsOut s.trusting →
      ApartUnlessStopped s.running s.trusting →
      ApartUnlessStopped (trust_step_of s what now left).state.running (trust_step_of s what now left).state.trusting

-- ---- a logon that was asked is answered on the link on which it came, or nowhere

-- that link is open
abbrev pub IsLineOpen : Option Line → LinkMap → Type 0
IsLineOpen None links = Unit {0}
IsLineOpen (Some line) links = is_some (lookup same_number line.link links) ≡ true

abbrev pub AreLinesOpen : ForwardedCalls → LinkMap → Type 0
AreLinesOpen calls links = AllByRecursion (λ (entry : (ℕ × ℕ) × ForwardedState). IsLineOpen entry.1.line links) calls

abbrev pub OpenUnlessStopped : Option Running → Trusting → Type 0
OpenUnlessStopped None t = Unit {0}
OpenUnlessStopped (Some running) t = AreLinesOpen t.queues.forwarded running.links

-- that of the number isn't theirs
abbrev pub IsNotOn : ℕ → Option Line → Type 0
IsNotOn number None = Unit {0}
IsNotOn number (Some line) = (line.link == number) ≡ false

abbrev pub AreNotOn : ℕ → ForwardedCalls → Type 0
AreNotOn number calls = AllByRecursion (λ (entry : (ℕ × ℕ) × ForwardedState). IsNotOn number entry.1.line) calls

-- Logons that are asked of others wait for answers on open links alone, at first and behind each step: a logon whose
-- link closes has no line any more. Behind a step for a link that opens no logon waits for an answer there, also where
-- another link had its number: its reply goes to no later link of that number.
pub record AnswersOpenLinks : Type 0 where
  pub first : (table : AccountTable) (name : List ℕ) →
      OpenUnlessStopped (first_trust_state table name).running (first_trust_state table name).trusting
  pub keeps : (s : State) (what : Event) (now : ℕ) (left : List (List ℕ)) → OpenUnlessStopped s.running s.trusting →
      OpenUnlessStopped (trust_step_of s what now left).state.running (trust_step_of s what now left).state.trusting
  pub opens : (s : State) (running : Running) (number now : ℕ) (left : List (List ℕ)) → s.running ≡ Some running →
      AreApart running.links s.trusting.dialling → AreLinesOpen s.trusting.queues.forwarded running.links →
      AreNotOn number (trust_step_of s (event.Opened number) now left).state.trusting.queues.forwarded

-- In every run the NetrServerAuthenticate2 that waits for its bind at a member is the one of who asks, with the names
-- of its plan. It serves `Proved.never_apart`, `Proved.whole`.
use Rattle.std.proofs.Common.{◌≡◌, ℕ, zero, suc, Bool, true, false, List, [], ◌∷◌, ◌++◌, length, map, Option, Some, None, Ok, Err, slice_get, slice_set, refl, subst, nat_le}
use Rattle.std.specs.List.{AllByRecursion}
use Rattle.outside.specs.declared.action.Action.TheVariants as action
use Rattle.outside.specs.declared.action.CloseCause.TheVariants as close
use Rattle.outside.specs.declared.action.DropCause.{DropCause}
use Rattle.outside.specs.declared.action.DropCause.TheVariants as drop_cause
use Rattle.outside.specs.declared.event.Event.{Event}
use Rattle.outside.specs.declared.event.Event.TheVariants as event
use Rattle.rpc_units.specs.declared.unit.Unit.{Unit as RpcUnit}
use Rattle.rpc_units.specs.Stream.{cut_stream}
use Rattle.logon_stubs.specs.declared.calls.Call.TheVariants as call
use Rattle.logon_stubs.specs.declared.info.NetworkInfo.{NetworkInfo}
use Rattle.channel_client.specs.declared.caller.Caller.{Caller}
use Rattle.channel_client.specs.declared.hearing.Hearing.{Hearing}
use Rattle.channel_client.specs.declared.hearing.Hearing.TheVariants as hearing
use Rattle.channel_client.specs.declared.hearing.SetHearing.TheVariants as set_hearing
use Rattle.channel_client.specs.declared.judging.Judgement.{Judgement}
use Rattle.channel_client.specs.declared.judging.Judgement.TheVariants as judgement
use Rattle.channel_client.specs.declared.state.Pending.{Pending}
use Rattle.channel_client.specs.declared.state.Standing.{Standing}
use Rattle.channel_client.specs.declared.state.SetStep.TheVariants as set_step
use Rattle.channel_client.specs.declared.state.Standing.TheVariants as standing
use Rattle.channel_client.specs.declared.state.Step.{Step}
use Rattle.channel_client.specs.declared.state.Step.TheVariants as step
use Rattle.channel_client.specs.declared.state.Waiting.{Waiting}
use Rattle.channel_client.specs.Effects.{step_in}
use Rattle.channel_client.specs.Machine.{SetOutcome, act, ask_by, ask_of, auth_call, begin_with, can_start, hear, judge, judge_set, lose_of, settle, settle_set, start_by, take_of, waiting_limit}
use Rattle.channel_client.specs.State.{Requester}
use Rattle.channel_turns.specs.declared.state.TurnEnd.{TurnEnd}
use Rattle.channel_turns.specs.declared.state.TurnEnd.TheVariants as turn_end
use Rattle.member_server.specs.declared.outcomes.Ending.{Ending}
use Rattle.member_server.specs.declared.plan.MemberPlan.{MemberPlan}
use Rattle.member_server.specs.declared.state.Logons.{Logons}
use Rattle.member_server.specs.declared.state.Running.{Running}
use Rattle.member_server.specs.declared.state.Work.{Work}
use Rattle.member_server.specs.Machine.{fresh_member, step_of}
use Rattle.member_server.specs.Messages.{info_of}
use Rattle.member_server.specs.Outcomes.{end_logon, tell_at, without_link}
use Rattle.member_server.specs.State.{State as MemberState}
use Rattle.member_server.specs.Turns.{end_turn, keep_ended, lose_turn, with_requester}
use Rattle.member_server.proofs.EventSteps.{end_fine}
use Rattle.member_server.proofs.LogonFrame.{KeepsLogons, logons_keep}
use Rattle.member_server.proofs.StepFrame.{KeepsEvent, KeepsNext, KeepsTurn, StepHolds, WorkFact, dialled_keeps, each_taken, given_channel, part_keeps, step_keeps, taken_at, turn_ended}
use Rattle.member_server.proofs.StepRules.{Holds as RuleHolds, LinkRules}
use Rattle.step_notes.specs.CallLogons.{AsksUnlessStopped}
use Rattle.step_notes.specs.Records.{Book}
use Rattle.step_notes.proofs.Members.CallKeptLaws.{change_asks, fresh_asks, step_asks}
use Rattle.world_moves.proofs.ChangeLaws.{member_begun}
use Rattle.domain_world.proofs.Frames.MemberFrameLaws.{AmongMembers, KeepsMembers, MembersFact, members_written}
use Rattle.domain_world.proofs.Frames.FrameLaws.{Fact, StaysWritten}

-- ---- the opening that waits

abbrev pub IsItsOpening : Option Step → Standing → Caller → Type 0
IsItsOpening (Some (step.Bind (call.Authenticate c))) (standing.Half client server) caller = call.Authenticate c ≡ auth_call caller client server
IsItsOpening _ _ _ = Unit {0}

abbrev pub BindsItsOpening : Requester → Type 0
BindsItsOpening s = IsItsOpening (step_in s.turn) s.standing s.caller

none_bound : (how : Standing) (caller : Caller) → IsItsOpening None how caller
none_bound standing.Nothing caller = tt
none_bound (standing.Half client server) caller = tt
none_bound (standing.Open o) caller = tt

reply_bound : (q : _) (how : Standing) (caller : Caller) → IsItsOpening (Some (step.Reply q)) how caller
reply_bound q standing.Nothing caller = tt
reply_bound q (standing.Half client server) caller = tt
reply_bound q (standing.Open o) caller = tt

set_bound : (st : _) (how : Standing) (caller : Caller) → IsItsOpening (Some (step.Set st)) how caller
set_bound st standing.Nothing caller = tt
set_bound st (standing.Half client server) caller = tt
set_bound st (standing.Open o) caller = tt

open_bound : (st : Option Step) (o : _) (caller : Caller) → IsItsOpening st (standing.Open o) caller
open_bound None o caller = tt
open_bound (Some (step.Bind (call.Logon c))) o caller = tt
open_bound (Some (step.Bind (call.Logoff c))) o caller = tt
open_bound (Some (step.Bind (call.Challenge c))) o caller = tt
open_bound (Some (step.Bind (call.Authenticate c))) o caller = tt
open_bound (Some (step.Reply q)) o caller = tt
open_bound (Some (step.Set st)) o caller = tt

settled_bound : (j : Judgement) (s : Requester) → BindsItsOpening (settle j s).state
settled_bound (judgement.Half client server) s = none_bound (standing.Half client server) s.caller
settled_bound (judgement.Opened o) s = none_bound (standing.Open o) s.caller
settled_bound (judgement.Answer o v) s = none_bound (standing.Open o) s.caller
settled_bound (judgement.Drop cause) s = none_bound standing.Nothing s.caller

set_settled_bound : (judged : SetOutcome) (s : Requester) → BindsItsOpening (settle_set judged s).state
set_settled_bound (Ok o) s = none_bound (standing.Open o) s.caller
set_settled_bound (Err cause) s = settled_bound (judgement.Drop cause) s

acted_bound : (h : Hearing) (s : Requester) → BindsItsOpening s → BindsItsOpening (act h s).state
acted_bound hearing.Skip s bound = bound
acted_bound (hearing.Next q frames) s bound = reply_bound q s.standing s.caller
acted_bound (hearing.Reply q r) s bound = settled_bound (judge q r s.standing s.caller.secret) s
acted_bound (hearing.Drop cause) s bound = settled_bound (judgement.Drop cause) s
acted_bound (hearing.Set (set_hearing.Next frames)) s bound = set_bound set_step.Reply s.standing s.caller
acted_bound (hearing.Set (set_hearing.Reply r)) s bound = set_settled_bound (judge_set r s.standing) s

taken_bound : (s : Requester) (unit : RpcUnit) → BindsItsOpening s → BindsItsOpening (take_of s unit).state
taken_bound s unit bound = acted_bound (hear s.turn unit s.next_call) s bound

asked_bound : (full : Bool) (s : Requester) (info : NetworkInfo) → BindsItsOpening s → BindsItsOpening (ask_by full s info).state
asked_bound true s info bound = bound
asked_bound false s info bound = bound

asks_bound : (s : Requester) (info : NetworkInfo) → BindsItsOpening s → BindsItsOpening (ask_of s info).state
asks_bound s info bound = asked_bound (nat_le waiting_limit (length s.waiting)) s info bound

-- a turn that starts binds the call of who asks
begun_bound : (how : Standing) (next : Option (List ℕ)) (caller : Caller) (info : NetworkInfo) (timestamp : ℕ) (challenge : List ℕ) →
    IsItsOpening (Some (begin_with how next caller info timestamp challenge).step) (begin_with how next caller info timestamp challenge).standing caller
begun_bound standing.Nothing next caller info timestamp challenge = tt
begun_bound (standing.Half client server) next caller info timestamp challenge = refl
begun_bound (standing.Open o) None caller info timestamp challenge = tt
begun_bound (standing.Open o) (Some secret) caller info timestamp challenge = tt

start_bound : (turn : Option Pending) (logons : List Waiting) (s : Requester) (timestamp : ℕ) (challenge : List ℕ) → can_start turn logons ≡ true →
    BindsItsOpening (start_by turn logons s timestamp challenge).state
start_bound (Some p) logons s timestamp challenge can = absurd (let never = can in cc)
start_bound None [] s timestamp challenge can = absurd (let never = can in cc)
start_bound None (logon ∷ logons) s timestamp challenge can = begun_bound s.standing s.next s.caller logon.info timestamp challenge

-- ---- a step of a member

abbrev OfLogons : Logons → Type 0
OfLogons l = BindsItsOpening l.channel

abbrev OfWork : Work → Type 0
OfWork w = OfLogons w.logons

abbrev Bound : RuleHolds
Bound l a = OfLogons l

link_bound : LinkRules Bound
link_bound = record {
  tells = λ l a what nobody bound. bound;
  waits = λ l a info place logon answers bound. asks_bound l.channel info bound;
  full = λ l a info answers bound. asks_bound l.channel info bound;
}

logon_ends : (place : ℕ) (ends : Ending) (w : Work) → OfWork w → OfWork (end_logon place ends w)
logon_ends place ends w bound = (end_fine ⊥ Bound link_bound place ends w (record { silent = bound; told = λ logon kept. bound }) (λ never. absurd never)).good

turn_ends : (how : TurnEnd) (w : Work) → OfWork w → OfWork (end_turn how w)
turn_ends how w bound = turn_ended how w OfWork (λ none. bound) (λ place ends some. logon_ends place ends w bound)

turn_bound : KeepsTurn (λ units at. OfWork at.work) OfWork
turn_bound = record {
  skips = λ right unit units at is bound. taken_bound at.work.logons.channel unit bound;
  sends = λ right frames unit units at is bound. taken_bound at.work.logons.channel unit bound;
  ends = λ how unit units at is bound.
      turn_ends how (tell_at (keep_ended how (taken_at at unit).work) (action.Close at.link close.CallDone)) (taken_bound at.work.logons.channel unit bound);
  breaks = λ cause at bound.
      turn_ends (turn_end.Dropped (lose_of at.work.logons.channel).place drop_cause.BadReply)
      (tell_at (with_requester at.work (lose_of at.work.logons.channel).state) (action.Close at.link cause)) (none_bound standing.Nothing at.work.logons.channel.caller);
}

logons_bound : KeepsLogons OfLogons
logons_bound = record {
  asks = λ l place logon answers bound. asks_bound l.channel (info_of logon.message logon.agreed logon.challenge) bound;
  full = λ l info answers bound. asks_bound l.channel info bound;
}

abbrev Fine : WorkFact
Fine how w left = OfWork w

lose_bound : (cause : DropCause) (w : Work) → OfWork (lose_turn cause w)
lose_bound cause w =
    turn_ends (turn_end.Dropped (lose_of w.logons.channel).place cause)
    (keep_ended (turn_end.Dropped (lose_of w.logons.channel).place cause) (with_requester w (lose_of w.logons.channel).state)) (none_bound standing.Nothing w.logons.channel.caller)

event_bound : (what : Event) → KeepsEvent what Fine Fine
event_bound what = record {
  still = λ how w left bound. bound;
  closes = λ link how w left bound. bound;
  loses = λ cause how w left lost none bound. lose_bound cause w;
  full = λ link how w left at bound. bound;
  opens = λ link how w left at bound. bound;
  answers = λ link turn frames w left at bound. bound;
  link = λ number piece link how w left at found bound.
      logons_keep (λ dial l. OfLogons l) (cut_stream (link.rest ++ piece)) number link.talk how (without_link number w) left logons_bound bound;
  turn = λ number piece said w left at bound.
      dialled_keeps (λ units at. OfWork at.work) OfWork Fine (each_taken (λ units at. OfWork at.work) OfWork turn_bound) (cut_stream (said.rest ++ piece)) number said.talk w left
      (λ rest later one holds. holds) (λ later holds. holds) bound;
}

next_bound : (now : ℕ) → KeepsNext now Fine Fine
next_bound now = record {
  still = λ how w left can bound. bound;
  starts = λ turn frames challenge how w before after can drawn answer bound.
      start_bound (given_channel w).turn (given_channel w).waiting (given_channel w) _ challenge can;
}

abbrev pub BoundIf : Option Running → Type 0
BoundIf None = Unit {0}
BoundIf (Some running) = BindsItsOpening running.logons.channel

step_bound : (m : MemberState) (what : Event) (now : ℕ) (left : List (List ℕ)) → BoundIf m.running → BoundIf (step_of m what now left).state.running
step_bound m what now left bound =
    step_keeps BoundIf what now left m tt bound
    (λ running runs. part_keeps Fine Fine (StepHolds BoundIf what now left) running what now left (event_bound what) (next_bound now) (subst BoundIf runs bound))

-- ---- of all members in a run

abbrev pub AsksSo : MemberState → Type 0
AsksSo m = AsksUnlessStopped m.running × BoundIf m.running

abbrev pub AllAskSo : List MemberState → Type 0
AllAskSo members = AllByRecursion AsksSo members

pub one_asks_so : (members : List MemberState) (at : ℕ) (m : MemberState) → slice_get members at ≡ Some m → AllAskSo members → AsksSo m
one_asks_so [] at m there all = absurd cc
one_asks_so (first ∷ members) zero m there all = let is : first ≡ m = cc in subst AsksSo is all.0
one_asks_so (first ∷ members) (suc at) m there all = one_asks_so members at m there all.1

set_asks_so : (members : List MemberState) (at : ℕ) (new : MemberState) → AsksSo new → AllAskSo members → AllAskSo (slice_set members at new)
set_asks_so [] at new asks all = tt
set_asks_so (first ∷ members) zero new asks all = (asks, all.1)
set_asks_so (first ∷ members) (suc at) new asks all = (all.0, set_asks_so members at new asks all.1)

fresh_so : (plan : MemberPlan) → AsksSo (fresh_member plan)
fresh_so plan = (fresh_asks plan, tt)

pub all_fresh_so : (plans : List MemberPlan) → AllAskSo (map fresh_member plans)
all_fresh_so [] = tt
all_fresh_so (plan ∷ plans) = (fresh_so plan, all_fresh_so plans)

abbrev pub no_part : Book → Unit {0}
no_part b = tt

abbrev AskSo : Unit {0} → MembersFact
AskSo nothing members chances links = AllAskSo members

hear_asks_so : (m : MemberState) (at : ℕ) (what : Event) (now : ℕ) (members : List MemberState) (left : List (List ℕ)) → slice_get members at ≡ Some m → AllAskSo members →
    AllAskSo (slice_set members at (step_of m what now left).state)
hear_asks_so m at what now members left is all =
    let was : AsksSo m = one_asks_so members at m is all in
    set_asks_so members at (step_of m what now left).state (step_asks m what now left was.0, step_bound m what now left was.1) all

pub ask_so_on : KeepsMembers no_part AskSo
ask_so_on = record {
  of = record {
    controllers = λ answers w s after b. refl;
    every = λ c at w piece s after b. refl;
    clients = λ c at w piece s b. refl;
  };
  given = λ at given after b. refl;
  draws = λ nothing members chances later links on all. all;
  hears = λ nothing m at what now members chances links quiet is all. hear_asks_so m at what now members chances.left is all;
  opens = λ nothing route members chances links all. all;
  accepts = λ nothing m at route now members chances links accepts is all. hear_asks_so m at (event.Opened (length links)) now members chances.left is all;
  comes = λ m at w piece s after b is all. hear_asks_so m at (event.Bytes w.link piece) s.moment s.ends.members s.chances.left is all;
  changes = λ nothing secret running at members chances links is none all.
      let was : AsksSo (record { running = Some running }) = one_asks_so members at (record { running = Some running }) is all in
      set_asks_so members at (member_begun secret running) (change_asks secret running none was.0, was.1) all;
  anew = λ nothing plan at members chances links all. set_asks_so members at (fresh_member plan) (fresh_so plan) all;
}

-- what members ask for, as a fact of the ends
abbrev pub AsksWell : Unit {0} → Fact
AsksWell = AmongMembers no_part AskSo ask_so_on

pub asks_written : StaysWritten no_part AsksWell
asks_written = members_written no_part AskSo ask_so_on

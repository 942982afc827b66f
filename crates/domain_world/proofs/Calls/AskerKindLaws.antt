-- In every run who asks names its own type of channel: a member's computer is a workstation, and a controller asks as a
-- domain that the other one trusts. It serves `Proved.askers`.
use Rattle.std.proofs.Common.{◌≡◌, ◌++◌, ℕ, Bool, true, false, List, [], ◌∷◌, length, map, nat_le, Option, Some, None, Ok, Err, refl, ap, subst, ◌∙◌, slice_get, slice_set}
use Rattle.std.specs.List.{AllByRecursion}
use Rattle.channel_keys.specs.ChannelTypes.{trusted_domain_channel, workstation_channel}
use Rattle.outside.specs.declared.action.Action.TheVariants as action
use Rattle.outside.specs.declared.action.CloseCause.TheVariants as close
use Rattle.outside.specs.declared.action.DropCause.{DropCause}
use Rattle.outside.specs.declared.action.DropCause.TheVariants as drop_cause
use Rattle.outside.specs.declared.event.Event.{Event}
use Rattle.outside.specs.declared.event.Event.TheVariants as event
use Rattle.rpc_units.specs.declared.unit.Unit.{Unit as RpcUnit}
use Rattle.rpc_units.specs.Stream.{cut_stream}
use Rattle.logon_stubs.specs.declared.info.NetworkInfo.{NetworkInfo}
use Rattle.account_table.specs.AccountTable.{AccountTable}
use Rattle.account_table.specs.declared.account.Trust.{Trust}
use Rattle.channel_client.specs.Machine.{SetOutcome, act, ask_by, ask_of, fresh_requester, hear, judge, judge_set, lose_of, settle, settle_set, start_by, start_of, take_of, waiting_limit}
use Rattle.channel_client.specs.State.{Requester}
use Rattle.channel_client.specs.declared.caller.Caller.{Caller}
use Rattle.channel_client.specs.declared.hearing.Hearing.{Hearing}
use Rattle.channel_client.specs.declared.hearing.Hearing.TheVariants as hearing
use Rattle.channel_client.specs.declared.hearing.SetHearing.TheVariants as set_hearing
use Rattle.channel_client.specs.declared.judging.Judgement.{Judgement}
use Rattle.channel_client.specs.declared.judging.Judgement.TheVariants as judgement
use Rattle.channel_client.specs.declared.state.Pending.{Pending}
use Rattle.channel_client.specs.declared.state.Waiting.{Waiting}
use Rattle.channel_turns.specs.declared.state.TurnEnd.{TurnEnd}
use Rattle.channel_turns.specs.declared.state.TurnEnd.TheVariants as turn_end
use Rattle.domain_controller.specs.State.{State as ControllerState}
use Rattle.domain_controller.specs.TrustStep.{trust_step_of}
use Rattle.domain_controller.specs.Trusting.{trust_caller}
use Rattle.member_server.specs.declared.outcomes.Ending.{Ending}
use Rattle.member_server.specs.declared.state.Logons.{Logons}
use Rattle.member_server.specs.declared.state.Running.{Running}
use Rattle.member_server.specs.declared.state.Work.{Work}
use Rattle.member_server.specs.Machine.{fresh_member, step_of}
use Rattle.member_server.specs.Messages.{info_of}
use Rattle.member_server.specs.Outcomes.{end_logon, tell_at, without_link}
use Rattle.member_server.specs.State.{State as MemberState}
use Rattle.member_server.specs.Turns.{end_turn, keep_ended, lose_turn, with_requester}
use Rattle.member_server.proofs.EventSteps.{end_fine}
use Rattle.member_server.proofs.LogonFrame.{KeepsLogons, logons_keep}
use Rattle.member_server.proofs.StepFrame.{KeepsEvent, KeepsNext, KeepsTurn, StepHolds, WorkFact, dialled_keeps, each_taken, given_channel, part_keeps, step_keeps, taken_at, turn_ended}
use Rattle.member_server.proofs.StepRules.{Holds as RuleHolds, LinkRules}
use Rattle.step_notes.specs.Records.{Book}
use Rattle.world_moves.specs.declared.moves.Move.{Move}
use Rattle.world_moves.specs.declared.plan.Plan.{Plan}
use Rattle.world_moves.specs.Ends.{fresh_controller}
use Rattle.world_moves.specs.Plain.{IsPlainPlan}
use Rattle.world_moves.proofs.ChangeLaws.{member_begun}
use Rattle.domain_world.specs.Claims.ChannelKinds.{AskersNameTheirKind}
use Rattle.domain_world.specs.Past.{past}
use Rattle.domain_world.proofs.Frames.AloneStepLaws.{fresh_by}
use Rattle.domain_world.proofs.Frames.ControllerFrameLaws.{ControllersFact}
use Rattle.domain_world.proofs.Frames.MemberFrameLaws.{KeepsMembers, MembersFact, members_after}
use Rattle.domain_world.proofs.Frames.TrustingFrameLaws.{KeepsTrusting, controllers_after}
use Rattle.domain_world.proofs.Judgements.Openings.OpeningRunLaws.{each_fresh}
use Rattle.domain_world.proofs.Messages.MessageOnceLaws.{each_put}
use Rattle.domain_world.proofs.Moves.MarkPlaceLaws.{got_map}
use Rattle.domain_world.proofs.Moves.TrustAskerLaws.{KeepsAsker, askers_fit}

-- ---- who asks stays who it is

settled_caller : (j : Judgement) (s : Requester) → (settle j s).state.caller ≡ s.caller
settled_caller (judgement.Half client server) s = refl
settled_caller (judgement.Opened o) s = refl
settled_caller (judgement.Answer o v) s = refl
settled_caller (judgement.Drop cause) s = refl

set_settled_caller : (judged : SetOutcome) (s : Requester) → (settle_set judged s).state.caller ≡ s.caller
set_settled_caller (Ok o) s = refl
set_settled_caller (Err cause) s = settled_caller (judgement.Drop cause) s

acted_caller : (h : Hearing) (s : Requester) → (act h s).state.caller ≡ s.caller
acted_caller hearing.Skip s = refl
acted_caller (hearing.Next q frames) s = refl
acted_caller (hearing.Reply q r) s = settled_caller (judge q r s.standing s.caller.secret) s
acted_caller (hearing.Drop cause) s = settled_caller (judgement.Drop cause) s
acted_caller (hearing.Set (set_hearing.Next frames)) s = refl
acted_caller (hearing.Set (set_hearing.Reply r)) s = set_settled_caller (judge_set r s.standing) s

asked_caller : (full : Bool) (s : Requester) (info : NetworkInfo) → (ask_by full s info).state.caller ≡ s.caller
asked_caller true s info = refl
asked_caller false s info = refl

started_caller : (turn : Option Pending) (logons : List Waiting) (s : Requester) (timestamp : ℕ) (challenge : List ℕ) → (start_by turn logons s timestamp challenge).state.caller ≡ s.caller
started_caller (Some p) logons s timestamp challenge = refl
started_caller None [] s timestamp challenge = refl
started_caller None (logon ∷ logons) s timestamp challenge = refl

-- the requester names that type of channel
abbrev Names : (type : ℕ) (s : Requester) → Type 0
Names type s = s.caller.kind ≡ type

taken_names : (type : ℕ) (s : Requester) (unit : RpcUnit) → Names type s → Names type (take_of s unit).state
taken_names type s unit names = ap (λ (c : Caller). c.kind) (acted_caller (hear s.turn unit s.next_call) s) ∙ names

asked_names : (type : ℕ) (s : Requester) (info : NetworkInfo) → Names type s → Names type (ask_of s info).state
asked_names type s info names = ap (λ (c : Caller). c.kind) (asked_caller (nat_le waiting_limit (length s.waiting)) s info) ∙ names

started_names : (type : ℕ) (s : Requester) (timestamp : ℕ) (challenge : List ℕ) → Names type s → Names type (start_of s timestamp challenge).state
started_names type s timestamp challenge names = ap (λ (c : Caller). c.kind) (started_caller s.turn s.waiting s timestamp challenge) ∙ names

-- ---- controllers

abbrev AsksForDomain : Requester → Type 0
AsksForDomain s = Names trusted_domain_channel s

domains_keep : KeepsAsker AsksForDomain
domains_keep = record {
  takes = λ s unit names. taken_names trusted_domain_channel s unit names;
  loses = λ s names. names;
  starts = λ s timestamp challenge names. started_names trusted_domain_channel s timestamp challenge names;
  asks = λ s info names. asked_names trusted_domain_channel s info names;
}

abbrev AllAsk : ControllerState → Type 0
AllAsk c = AllByRecursion AsksForDomain c.trusting.queues.requesters

trusts_ask : (table : AccountTable) (name : List ℕ) (trusts : List Trust) → AllByRecursion AsksForDomain (map (λ (trust : Trust). fresh_requester (trust_caller table name trust)) trusts)
trusts_ask table name [] = tt
trusts_ask table name (trust ∷ trusts) = (refl, trusts_ask table name trusts)

abbrev ControllersAsk : Unit {0} → ControllersFact
ControllersAsk nothing controllers chances = (at : ℕ) (c : ControllerState) → slice_get controllers at ≡ Some c → AllAsk c

abbrev no_part : Book → Unit {0}
no_part b = tt

controllers_ask : KeepsTrusting no_part ControllersAsk
controllers_ask = record {
  of = record { members = λ m at w piece s after b. refl; clients = λ c at w piece s b. refl };
  given = λ at given after b. refl;
  draws = λ nothing controllers chances later on all. all;
  hears = λ nothing c at what now controllers chances none is all.
      each_put (λ (k : ℕ) (one : ControllerState). AllAsk one) controllers at (trust_step_of c what now chances.left).state (λ k one differs there. all k one there)
      (askers_fit AsksForDomain domains_keep c what now chances.left (all at c is));
  comes = λ c at w piece s after b is all.
      each_put (λ (k : ℕ) (one : ControllerState). AllAsk one) s.ends.controllers at (trust_step_of c (event.Bytes w.link piece) s.moment s.chances.left).state
      (λ k one differs there. all k one there) (askers_fit AsksForDomain domains_keep c (event.Bytes w.link piece) s.moment s.chances.left (all at c is));
  anew = λ nothing c at hands_on controllers chances is all.
      each_put (λ (k : ℕ) (one : ControllerState). AllAsk one) controllers at (fresh_controller hands_on false c.table c.name) (λ k one differs there. all k one there)
      (fresh_by AllAsk c.table c.name tt (trusts_ask c.table c.name c.table.trusts) hands_on);
}

-- ---- a step of a member

abbrev AsksAsWorkstation : Requester → Type 0
AsksAsWorkstation s = Names workstation_channel s

abbrev OfLogons : Logons → Type 0
OfLogons l = AsksAsWorkstation l.channel

abbrev OfWork : Work → Type 0
OfWork w = OfLogons w.logons

abbrev Fine : RuleHolds
Fine l a = OfLogons l

link_names : LinkRules Fine
link_names = record {
  tells = λ l a what nobody names. names;
  waits = λ l a info place logon answers names. asked_names workstation_channel l.channel info names;
  full = λ l a info answers names. asked_names workstation_channel l.channel info names;
}

logon_ends : (place : ℕ) (ends : Ending) (w : Work) → OfWork w → OfWork (end_logon place ends w)
logon_ends place ends w names = (end_fine ⊥ Fine link_names place ends w (record { silent = names; told = λ logon kept. names }) (λ never. absurd never)).good

turn_ends : (how : TurnEnd) (w : Work) → OfWork w → OfWork (end_turn how w)
turn_ends how w names = turn_ended how w OfWork (λ none. names) (λ place ends some. logon_ends place ends w names)

turn_names : KeepsTurn (λ units at. OfWork at.work) OfWork
turn_names = record {
  skips = λ right unit units at is names. taken_names workstation_channel at.work.logons.channel unit names;
  sends = λ right frames unit units at is names. taken_names workstation_channel at.work.logons.channel unit names;
  ends = λ how unit units at is names.
      turn_ends how (tell_at (keep_ended how (taken_at at unit).work) (action.Close at.link close.CallDone)) (taken_names workstation_channel at.work.logons.channel unit names);
  breaks = λ cause at names.
      turn_ends (turn_end.Dropped (lose_of at.work.logons.channel).place drop_cause.BadReply)
      (tell_at (with_requester at.work (lose_of at.work.logons.channel).state) (action.Close at.link cause)) names;
}

logons_name : KeepsLogons OfLogons
logons_name = record {
  asks = λ l place logon answers names. asked_names workstation_channel l.channel (info_of logon.message logon.agreed logon.challenge) names;
  full = λ l info answers names. asked_names workstation_channel l.channel info names;
}

abbrev Named : WorkFact
Named how w left = OfWork w

lose_names : (cause : DropCause) (w : Work) → OfWork w → OfWork (lose_turn cause w)
lose_names cause w names =
    turn_ends (turn_end.Dropped (lose_of w.logons.channel).place cause)
    (keep_ended (turn_end.Dropped (lose_of w.logons.channel).place cause) (with_requester w (lose_of w.logons.channel).state)) names

event_names : (what : Event) → KeepsEvent what Named Named
event_names what = record {
  still = λ how w left names. names;
  closes = λ link how w left names. names;
  loses = λ cause how w left lost none names. lose_names cause w names;
  full = λ link how w left at names. names;
  opens = λ link how w left at names. names;
  answers = λ link turn frames w left at names. names;
  link = λ number piece link how w left at found names.
      logons_keep (λ dial l. OfLogons l) (cut_stream (link.rest ++ piece)) number link.talk how (without_link number w) left logons_name names;
  turn = λ number piece said w left at names.
      dialled_keeps (λ units at. OfWork at.work) OfWork Named (each_taken (λ units at. OfWork at.work) OfWork turn_names) (cut_stream (said.rest ++ piece)) number said.talk w left
      (λ rest later one holds. holds) (λ later holds. holds) names;
}

next_names : (now : ℕ) → KeepsNext now Named Named
next_names now = record {
  still = λ how w left can names. names;
  starts = λ turn frames challenge how w before after can drawn answer names. started_names workstation_channel (given_channel w) _ challenge names;
}

abbrev NamesIf : Option Running → Type 0
NamesIf None = Unit {0}
NamesIf (Some running) = AsksAsWorkstation running.logons.channel

step_names : (m : MemberState) (what : Event) (now : ℕ) (left : List (List ℕ)) → NamesIf m.running → NamesIf (step_of m what now left).state.running
step_names m what now left names =
    step_keeps NamesIf what now left m tt names
    (λ running runs. part_keeps Named Named (StepHolds NamesIf what now left) running what now left (event_names what) (next_names now) (subst NamesIf runs names))

-- ---- all members

abbrev MembersAsk : Unit {0} → MembersFact
MembersAsk nothing members chances links = (at : ℕ) (m : MemberState) → slice_get members at ≡ Some m → NamesIf m.running

hear_asks : (m : MemberState) (at : ℕ) (what : Event) (now : ℕ) (members : List MemberState) (left : List (List ℕ)) → slice_get members at ≡ Some m →
    ((k : ℕ) (one : MemberState) → slice_get members k ≡ Some one → NamesIf one.running) →
    (k : ℕ) (one : MemberState) → slice_get (slice_set members at (step_of m what now left).state) k ≡ Some one → NamesIf one.running
hear_asks m at what now members left is all =
    each_put (λ (k : ℕ) (one : MemberState). NamesIf one.running) members at (step_of m what now left).state (λ k one differs there. all k one there)
    (step_names m what now left (all at m is))

members_ask : KeepsMembers no_part MembersAsk
members_ask = record {
  of = record {
    controllers = λ answers w s after b. refl;
    every = λ c at w piece s after b. refl;
    clients = λ c at w piece s b. refl;
  };
  given = λ at given after b. refl;
  draws = λ nothing members chances later links on all. all;
  hears = λ nothing m at what now members chances links quiet is all. hear_asks m at what now members chances.left is all;
  opens = λ nothing route members chances links all. all;
  accepts = λ nothing m at route now members chances links accepts is all. hear_asks m at (event.Opened (length links)) now members chances.left is all;
  comes = λ m at w piece s after b is all. hear_asks m at (event.Bytes w.link piece) s.moment s.ends.members s.chances.left is all;
  changes = λ nothing secret running at members chances links is none all.
      each_put (λ (k : ℕ) (one : MemberState). NamesIf one.running) members at (member_begun secret running) (λ k one differs there. all k one there)
      (all at (record { running = Some running }) is);
  anew = λ nothing plan at members chances links all.
      each_put (λ (k : ℕ) (one : MemberState). NamesIf one.running) members at (fresh_member plan) (λ k one differs there. all k one there) refl;
}

-- ---- in every run

pub askers_name : (plan : Plan) (moves : List Move) → IsPlainPlan plan → AskersNameTheirKind (past plan moves)
askers_name plan moves nothing =
    let members = members_after no_part MembersAsk members_ask plan moves nothing
    (λ at m is. let made = got_map fresh_member plan.members at m is in subst (λ (one : MemberState). NamesIf one.running) made.2 refl) in
    let controllers = controllers_after no_part ControllersAsk controllers_ask plan moves nothing
    (λ at c there. each_fresh AllAsk (λ table name. tt) (λ table name. trusts_ask table name table.trusts) plan.hands_on plan.tables plan.controllers at c there) in
    record {
      members = λ at m running there runs. subst NamesIf runs (members at m there);
      controllers = controllers;
    }

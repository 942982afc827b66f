-- In every run each member that runs has the names of its plan, there are as many ends as at first, and plans stay but
-- for their secrets. It serves `Proved.never_apart`.
use Rattle.std.proofs.Common.{◌≡◌, ℕ, suc, ◌+◌, Bool, false, List, [], ◌∷◌, ◌++◌, length, inl, inr, Option, Some, None, slice_get, slice_set, refl, sym, ap, subst, ◌∙◌}
use Rattle.std.proofs.lemmas.List.{length-map, length-set}
use Rattle.outside.specs.declared.action.Action.TheVariants as action
use Rattle.outside.specs.declared.action.CloseCause.TheVariants as close
use Rattle.outside.specs.declared.action.DropCause.{DropCause}
use Rattle.outside.specs.declared.action.DropCause.TheVariants as drop_cause
use Rattle.outside.specs.declared.event.Event.{Event}
use Rattle.outside.specs.declared.event.Event.TheVariants as event
use Rattle.rpc_units.specs.Stream.{cut_stream}
use Rattle.channel_client.specs.Machine.{lose_of}
use Rattle.channel_turns.specs.declared.state.TurnEnd.{TurnEnd}
use Rattle.channel_turns.specs.declared.state.TurnEnd.TheVariants as turn_end
use Rattle.logon_client.specs.Machine.{begin_of, fresh_client}
use Rattle.member_server.specs.declared.outcomes.Ending.{Ending}
use Rattle.member_server.specs.declared.plan.MemberPlan.{MemberPlan}
use Rattle.member_server.specs.declared.state.Logons.{Logons}
use Rattle.member_server.specs.declared.state.Running.{Running}
use Rattle.member_server.specs.declared.state.Work.{Work}
use Rattle.account_table.specs.AccountTable.{AccountTable}
use Rattle.member_server.specs.Machine.{fresh_member, step_of}
use Rattle.member_server.specs.SealStep.{sealing_member}
use Rattle.member_server.specs.Outcomes.{end_logon, tell_at, without_link}
use Rattle.member_server.specs.State.{State as MemberState}
use Rattle.member_server.specs.Turns.{end_turn, keep_ended, lose_turn, with_requester}
use Rattle.member_server.proofs.EventSteps.{end_fine}
use Rattle.member_server.proofs.LogonFrame.{KeepsLogons, logons_keep}
use Rattle.member_server.proofs.StepFrame.{KeepsEvent, KeepsNext, KeepsTurn, StepHolds, WorkFact, dialled_keeps, each_taken, part_keeps, step_keeps, taken_at, turn_ended}
use Rattle.member_server.proofs.StepRules.{Holds as RuleHolds, LinkRules}
use Rattle.step_notes.specs.Records.{Book, blank}
use Rattle.world_moves.specs.declared.links.EndId.{EndId}
use Rattle.world_moves.specs.declared.plan.Plan.{Plan}
use Rattle.world_moves.specs.declared.state.State.{State}
use Rattle.world_moves.specs.Acting.{Given}
use Rattle.world_moves.specs.Ends.{EndStates, EndStep}
use Rattle.world_moves.specs.Links.{acceptor_of}
use Rattle.world_moves.specs.MemberPlans.{AreAlikeButSecrets, but_secret}
use Rattle.world_moves.specs.Moving.{begun, changed, with_link}
use Rattle.world_moves.proofs.ChangeLaws.{by_change, member_begun}
use Rattle.world_moves.proofs.KeptLaws.{plans_alike}
use Rattle.wire_base.proofs.ListLaws.{some_is}
use Rattle.domain_world.proofs.Acceptance.Turns.TurnFactLaws.{SameEnds}
use Rattle.domain_world.proofs.Acceptance.Turns.TurnQuietLaws.{change_same, hear_same, renew_same, same_ends}
use Rattle.domain_world.proofs.Messages.MessageOnceLaws.{set_cases}
use Rattle.domain_world.proofs.Moves.MarkPlaceLaws.{got_map}
use Rattle.domain_world.proofs.Moves.MemberPlanLaws.{found_but_secret}
use Rattle.domain_world.proofs.Frames.StepFrameLaws.{AnyAction, HasHeard, StepKeeps, NoFact, RunFact, all_any}
use Rattle.world_moves.specs.Alone.{hear_alone as hear}
use Rattle.world_moves.specs.Plain.{plain_world}
use Rattle.world_moves.specs.World.{first_controllers, first_ends}
use Rattle.domain_world.proofs.Frames.AloneStepLaws.{alone_by as step_by, renew_alone_by as renew_by, renewed_alone as renewed}

-- ---- a step of a member leaves the names of its plan

module _ (name : List ℕ) where
  abbrev OfLogons : Logons → Type 0
  OfLogons l = l.plan.computer ≡ name

  abbrev OfWork : Work → Type 0
  OfWork w = OfLogons w.logons

  abbrev Fine : RuleHolds
  Fine l a = OfLogons l

  link_named : LinkRules Fine
  link_named = record { tells = λ l a what plain is. is; waits = λ l a info place logon answers is. is; full = λ l a info answers is. is }

  logon_ends : (place : ℕ) (ends : Ending) (w : Work) → OfWork w → OfWork (end_logon place ends w)
  logon_ends place ends w is = (end_fine ⊥ Fine link_named place ends w (record { silent = is; told = λ logon kept. is }) (λ never. absurd never)).good

  turn_ends : (how : TurnEnd) (w : Work) → OfWork w → OfWork (end_turn how w)
  turn_ends how w is = turn_ended how w OfWork (λ none. is) (λ place ends some. logon_ends place ends w is)

  turn_named : KeepsTurn (λ units at. OfWork at.work) OfWork
  turn_named = record {
    skips = λ right unit units at is named. named;
    sends = λ right frames unit units at is named. named;
    ends = λ how unit units at is named. turn_ends how (tell_at (keep_ended how (taken_at at unit).work) (action.Close at.link close.CallDone)) named;
    breaks = λ cause at named.
        turn_ends (turn_end.Dropped (lose_of at.work.logons.channel).place drop_cause.BadReply)
        (tell_at (with_requester at.work (lose_of at.work.logons.channel).state) (action.Close at.link cause)) named;
  }

  logons_named : KeepsLogons OfLogons
  logons_named = record { asks = λ l place logon answers is. is; full = λ l info answers is. is }

  abbrev Fact : WorkFact
  Fact how w left = OfWork w

  lose_named : (cause : DropCause) (w : Work) → OfWork w → OfWork (lose_turn cause w)
  lose_named cause w is =
      turn_ends (turn_end.Dropped (lose_of w.logons.channel).place cause)
      (keep_ended (turn_end.Dropped (lose_of w.logons.channel).place cause) (with_requester w (lose_of w.logons.channel).state)) is

  event_named : (what : Event) → KeepsEvent what Fact Fact
  event_named what = record {
    still = λ how w left is. is;
    closes = λ link how w left is. is;
    loses = λ cause how w left lost none is. lose_named cause w is;
    full = λ link how w left at is. is;
    opens = λ link how w left at is. is;
    answers = λ link turn frames w left at is. is;
    link = λ number piece link how w left at found is.
        logons_keep (λ dial l. OfLogons l) (cut_stream (link.rest ++ piece)) number link.talk how (without_link number w) left logons_named is;
    turn = λ number piece said w left at is.
        dialled_keeps (λ units at. OfWork at.work) OfWork Fact (each_taken (λ units at. OfWork at.work) OfWork turn_named) (cut_stream (said.rest ++ piece)) number said.talk w left
        (λ rest later one holds. holds) (λ later holds. holds) is;
  }

  next_named : (now : ℕ) → KeepsNext now Fact Fact
  next_named now = record { still = λ how w left can is. is; starts = λ turn frames challenge how w before after can drawn answer is. is }

  abbrev pub IsNamed : Option Running → Type 0
  IsNamed None = Unit {0}
  IsNamed (Some running) = OfLogons running.logons

  pub step_named : (m : MemberState) (what : Event) (now : ℕ) (left : List (List ℕ)) → IsNamed m.running → IsNamed (step_of m what now left).state.running
  step_named m what now left is =
      step_keeps IsNamed what now left m tt is
      (λ running runs.
      part_keeps Fact Fact (StepHolds IsNamed what now left) running what now left (event_named what) (next_named now) (subst IsNamed runs is))

-- ---- in a world

-- each member that runs has the name of its plan
abbrev pub AllNamed : List MemberPlan → List MemberState → Type 0
AllNamed plans members =
    (k : ℕ) (m : MemberState) (own : MemberPlan) → slice_get members k ≡ Some m → slice_get plans k ≡ Some own → IsNamed own.computer m.running

pub record NamesStand (plan : Plan) (s : State) : Type 0 where
  pub plans : AreAlikeButSecrets plan.members s.member_plans
  pub ends : SameEnds (plain_world plan).state.ends s.ends
  pub named : AllNamed plan.members s.ends.members

abbrev pub NamesFact : Plan → RunFact
NamesFact plan n s given b = NamesStand plan s

-- as many controllers are made, whether they can seal or not
same_many : (hands_on one other : Bool) (tables : List AccountTable) (names : List (List ℕ)) →
    length (first_controllers hands_on one tables names) ≡ length (first_controllers hands_on other tables names)
same_many hands_on one other [] names = refl
same_many hands_on one other (table ∷ tables) [] = refl
same_many hands_on one other (table ∷ tables) (name ∷ names) = ap suc (same_many hands_on one other tables names)

-- a world has as many ends, whether they seal or not
pub plain_same : (plan : Plan) → SameEnds (plain_world plan).state.ends (first_ends plan)
plain_same plan = record {
  controllers = same_many plan.hands_on false plan.seals plan.tables plan.controllers;
  members = length-map plan.members fresh_member ∙ sym (length-map plan.members sealing_member);
  clients = refl;
  stations = refl;
}

ends_on : (one other third : EndStates) → SameEnds one other → SameEnds other third → SameEnds one third
ends_on one other third first second = record {
  controllers = first.controllers ∙ second.controllers;
  members = first.members ∙ second.members;
  clients = first.clients ∙ second.clients;
  stations = first.stations ∙ second.stations;
}

put_named : (plans : List MemberPlan) (members : List MemberState) (at : ℕ) (new : MemberState) → ((own : MemberPlan) → slice_get plans at ≡ Some own → IsNamed own.computer new.running) →
    AllNamed plans members → AllNamed plans (slice_set members at new)
put_named plans members at new here named k m own is there = elim (set_cases members at k new m is) [
  | inl same ↦
      subst (λ (x : MemberState). IsNamed own.computer x.running) same.1 (here own (subst (λ (j : ℕ). slice_get plans j ≡ Some own) same.0 there))
  | inr other ↦ named k m own other.1 there
]

module _ (plan : Plan) where
  step_stands : (what : Event) (s : State) (end : EndId) → AllNamed plan.members s.ends.members → AllNamed plan.members (hear end what s).state.ends.members
  step_stands what s end named =
      step_by (λ (one : EndId) (step : EndStep). AllNamed plan.members step.ends.members) what s.moment s.ends s.chances (λ one. named) (λ at c is. named)
      (λ at m is.
      put_named plan.members s.ends.members at (step_of m what s.moment s.chances.left).state
      (λ own there. step_named own.computer m what s.moment s.chances.left (named at m own is there)) named) (λ at c is. named) end

  heard_stands : (n : ℕ) (end : EndId) (what : Event) (s : State) (given : Given) (b now : Book) → NamesStand plan s → HasHeard (NamesFact plan) AnyAction (n + 1) end (hear end what s) given now
  heard_stands n end what s given b now stands = record {
    holds = record {
      plans = stands.plans;
      ends = ends_on (plain_world plan).state.ends s.ends (hear end what s).state.ends stands.ends (hear_same end what s);
      named = step_stands what s end stands.named;
    };
    fine = all_any (hear end what s).actions;
  }

  -- by the name of the plan in its place
  same_name : (plans later : List MemberPlan) (k : ℕ) (own new : MemberPlan) → AreAlikeButSecrets plans later → slice_get plans k ≡ Some own → slice_get later k ≡ Some new → new.computer ≡ own.computer
  same_name plans later k own new alike is there =
      ap (λ (p : MemberPlan). p.computer)
      (some_is (but_secret new) (but_secret own)
      (sym (found_but_secret later k new there) ∙ ap (λ (all : List MemberPlan). slice_get all k) alike ∙ found_but_secret plans k own is))

  renewed_named : (end : EndId) (s : State) → NamesStand plan s → AllNamed plan.members (renewed end s).ends.members
  renewed_named end s stands =
      renew_by (λ (one : EndId) (ends : EndStates). AllNamed plan.members ends.members) s (λ one. stands.named) (λ at c is. stands.named)
      (λ at new is.
      put_named plan.members s.ends.members at (fresh_member new) (λ own there. same_name plan.members s.member_plans at own new stands.plans there is) stands.named) (λ at new is. stands.named) end

  changed_named : (at : ℕ) (secret : List ℕ) (s : State) → AllNamed plan.members s.ends.members → AllNamed plan.members (changed at secret s).state.ends.members
  changed_named at secret s named =
      by_change (λ (ends : EndStates) (actions : List _). AllNamed plan.members ends.members) at secret s.ends named
      (λ running is none.
      put_named plan.members s.ends.members at (member_begun secret running) (λ own there. named at (record { running = Some running }) own is there) named)

  pub names_keep : StepKeeps NoFact (NamesFact plan) AnyAction
  names_keep = record {
    calm = λ n end what s given b calm none stands. heard_stands n end what s given b b stands;
    dialled = λ n end link s given b at none stands. heard_stands n end (event.Dialled link) s given b b stands;
    opens = λ n route s given b none stands.
        heard_stands n (acceptor_of route) (event.Opened (length s.links)) (with_link route s) given b b (record { plans = stands.plans; ends = stands.ends; named = stands.named });
    begins = λ n client own s given b is none stands. record {
      holds = record {
        plans = stands.plans;
        ends = record { controllers = stands.ends.controllers; members = stands.ends.members; clients = stands.ends.clients ∙ sym (length-set s.ends.clients client (begin_of (fresh_client own)).state); stations = stands.ends.stations };
        named = stands.named;
      };
      fine = all_any (begun client own s).actions;
    };
    comes = λ n end w piece s given b at came bytes marked none stands. heard_stands n end (event.Bytes w.link piece) s given b _ stands;
    acts = λ n end what s given b fine none stands.
        record { plans = plans_alike end what s.member_plans ∙ stands.plans; ends = stands.ends; named = stands.named };
    shuts = λ n link s given b none stands. record { plans = stands.plans; ends = stands.ends; named = stands.named };
    answers = λ n link there s given b is none stands. record { plans = stands.plans; ends = stands.ends; named = stands.named };
    forgets = λ n end s given b none stands. record { plans = stands.plans; ends = stands.ends; named = stands.named };
    settles = λ n number s given b none stands. record { plans = stands.plans; ends = stands.ends; named = stands.named };
    dials = λ n s given b none stands. record { plans = stands.plans; ends = stands.ends; named = stands.named };
    renews = λ n end s given b none stands. record {
      plans = stands.plans;
      ends = ends_on (plain_world plan).state.ends s.ends (renewed end s).ends stands.ends (renew_same end s);
      named = renewed_named end s stands;
    };
    changes = λ n member secret s given b none stands. record {
      holds = record {
        plans = stands.plans;
        ends = ends_on (plain_world plan).state.ends s.ends (changed member secret s).state.ends stands.ends (change_same member secret s);
        named = changed_named member secret s stands.named;
      };
      fine = all_any (changed member secret s).actions;
    };
    ticks = λ n more s given b none stands. record { plans = stands.plans; ends = stands.ends; named = stands.named };
    over = λ n at s given b none stands. record { plans = stands.plans; ends = stands.ends; named = stands.named };
  }

  pub first_names : NamesFact plan 0 (plain_world plan).state [] blank
  first_names = record {
    plans = refl;
    ends = same_ends (plain_world plan).state.ends;
    named = λ k m own is there.
        let made = got_map fresh_member plan.members k m is in
        subst (λ (x : MemberState). IsNamed own.computer x.running) made.2 (ap (λ (p : MemberPlan). p.computer) (some_is made.0 own (sym made.1 ∙ there)));
  }

-- One step of a member keeps what is known of the calls of its turns: with no unit on the link of its turn, or one
-- whole unit there. It serves `Proved.sequences`.
use Rattle.std.proofs.Common.{◌≡◌, ℕ, List, [], ◌++◌, Option, Some, None, Result, Ok, Err, slice_get, refl, sym, ap, subst, ◌∙◌}
use Rattle.outside.specs.Machine.{Part, step_by}
use Rattle.outside.specs.declared.action.StepRefused.{StepRefused}
use Rattle.outside.specs.declared.event.Event.{Event}
use Rattle.outside.specs.declared.event.Event.TheVariants as event
use Rattle.authenticators.specs.Channels.{ChannelIdentity}
use Rattle.rpc_units.specs.Calls.{IsHeard}
use Rattle.rpc_units.specs.declared.unit.Unit.{Unit as RpcUnit}
use Rattle.end_links.specs.Links.{LinkState}
use Rattle.channel_client.specs.Effects.{view_of}
use Rattle.channel_client.specs.Machine.{take_of}
use Rattle.channel_client.specs.State.{Requester}
use Rattle.channel_events.specs.Marks.{Mark, Calling}
use Rattle.member_server.specs.ChannelSteps.{ComesCalmly, StepsIfTaken}
use Rattle.member_server.specs.Dials.{IsWaiting, TurnSteps, TurnStepsIfTaken}
use Rattle.member_server.specs.Laws.{IsInOrder, heard_in, is_dialled}
use Rattle.member_server.specs.Machine.{actions_in, by_event, event_part, halted_state, state_in, step_of, work_of}
use Rattle.member_server.specs.Turns.{DialWork}
use Rattle.channel_turns.specs.declared.state.Dialling.TheVariants as dialling
use Rattle.member_server.specs.declared.state.Running.{Running}
use Rattle.channel_turns.specs.declared.state.TurnTalk.{TurnTalk}
use Rattle.member_server.proofs.ChannelStepLaws.{channel_steps}
use Rattle.member_server.proofs.DialLaws.{turns_dialled}
use Rattle.step_notes.specs.MemberNotes.{request_note, taking_note, turn_of}
use Rattle.step_notes.specs.Records.{ChannelTurn, RequesterId}
use Rattle.world_moves.specs.Acting.{Given, given_by}
use Rattle.world_moves.specs.Ends.{actions_by}
use Rattle.domain_world.specs.Accepting.SeenSteps.{Differ, IsPlaced, Placed}
use Rattle.domain_world.proofs.Sequences.CalledStepLaws.{OwnCalls, step_calls}
use Rattle.domain_world.proofs.Sequences.CallTakenLaws.{IsAnswer, taken_knows}
use Rattle.domain_world.proofs.Sequences.CallTurnLaws.{KnowsCalls, calm_knows}
use Rattle.domain_world.proofs.Sequences.Own.OwnTurnLaws.{mine}
use Rattle.domain_world.proofs.Sequences.WaitStepLaws.{same_turn}
use Rattle.domain_world.proofs.Moves.RequesterLaws.{asking_end}

-- what is known of a member, if it runs
abbrev pub OwnIf : (ℕ → Type 0) → List Mark → List (List ℕ) → List ChannelTurn → Given → ℕ → RequesterId → Option Running → Type 0
OwnIf Done marks drawn turns given controller who None = Unit {0}
OwnIf Done marks drawn turns given controller who (Some running) = OwnCalls Done marks drawn turns given controller who running

ok_same : (one other : Part DialWork) (first : Result (Part DialWork) StepRefused) → first ≡ Ok one → first ≡ Ok other → one ≡ other
ok_same one other first is also = let both : Ok one ≡ Ok other = sym is ∙ also in cc

module _ (Done Later : ℕ → Type 0) (marks now_marks : List Mark) (drawn : List (List ℕ)) (turns : List ChannelTurn) (given : Given) (controller : ℕ) (who : RequesterId) (running : Running)
    (what : Event) (now : ℕ) (left : List (List ℕ)) (order : IsInOrder (is_dialled running.dialling) running.logons) (old : OwnCalls Done marks drawn turns given controller who running)
    (from : Requester) (known : KnowsCalls Later now_marks old.own controller from) where
  stepped_by : (part : Result (Part DialWork) StepRefused) → event_part running what now left ≡ part →
      TurnStepsIfTaken running.logons.channel (by_event what running.dialling (work_of running) left) now part →
      StepsIfTaken (by_event what running.dialling (work_of running) left) (ComesCalmly from) now part → Differ (drawn ++ (step_by actions_in state_in halted_state left part).drawn) →
      OwnIf Later now_marks (drawn ++ (step_by actions_in state_in halted_state left part).drawn) turns
      (given ++ given_by (asking_end who) (actions_by (step_by actions_in state_in halted_state left part).answer)) controller who (step_by actions_in state_in halted_state left part).state.running
  stepped_by (Err why) is turn_steps calm_steps differ = tt
  stepped_by (Ok part) is turn_steps calm_steps differ =
      let steps : TurnSteps running.logons.channel (by_event what running.dialling (work_of running) left) now part = turn_steps in
      let same : calm_steps.part ≡ steps.part = ok_same calm_steps.part steps.part (by_event what running.dialling (work_of running) left) calm_steps.is steps.is in
      let calm : ComesCalmly from steps.part.value.0.logons.channel = subst (λ (x : Part DialWork). ComesCalmly from x.value.0.logons.channel) same calm_steps.mid in
      let calls : KnowsCalls Later now_marks old.own controller steps.part.value.0.logons.channel =
      subst (λ (x : Requester). KnowsCalls Later now_marks old.own controller x) (sym calm.is) (calm_knows Later now_marks old.own controller calm.doings from calm.calm known) in
      step_calls Later now_marks drawn turns given controller who running what now left part old.own steps old.before old.none
      (λ none was waits.
      let kept : IsWaiting running.dialling × (turn_of controller who part.value.0.logons.channel ≡ turn_of controller who running.logons.channel) =
      same_turn controller who running what now left part is steps order none waits in
      old.one was kept.0 ∙ ap (λ (l : List ChannelTurn). mine who turns ++ l) (sym kept.1)) order.coherent old.turned calls differ

-- no whole unit comes on the link of the turn
pub own_quiet : (Done : ℕ → Type 0) (marks : List Mark) (drawn : List (List ℕ)) (turns : List ChannelTurn) (given : Given) (controller : ℕ) (who : RequesterId) (running : Running)
    (what : Event) (now : ℕ) (left : List (List ℕ)) → heard_in what running.dialling ≡ [] → IsInOrder (is_dialled running.dialling) running.logons →
    OwnCalls Done marks drawn turns given controller who running →
    let step = step_of (record { running = Some running }) what now left in
    Differ (drawn ++ step.drawn) → OwnIf Done marks (drawn ++ step.drawn) turns (given ++ given_by (asking_end who) (actions_by step.answer)) controller who step.state.running
own_quiet Done marks drawn turns given controller who running what now left none order old differ =
    stepped_by Done Done marks marks drawn turns given controller who running what now left order old running.logons.channel old.calls (event_part running what now left) refl
    (turns_dialled.starts running what now left) (channel_steps.other running what now left none) differ

-- the bytes of one whole unit come on it, and nothing is open there
pub own_whole : (Done Later : ℕ → Type 0) → ((n : ℕ) → Done n → Later n) → (marks more : List Mark) (drawn : List (List ℕ)) (turns : List ChannelTurn)
    (given : Given) (controller : ℕ) (who : RequesterId) (running : Running) (number : ℕ) (said : LinkState TurnTalk) (bytes : List ℕ) (frames : List RpcUnit) (unit : RpcUnit) (now : ℕ) (left : List (List ℕ)) →
    running.dialling ≡ dialling.On number said → said.rest ≡ [] → said.talk.joiner ≡ None → IsHeard bytes frames unit → IsInOrder (is_dialled running.dialling) running.logons →
    ((challenge : List ℕ) → (view_of controller running.logons.channel).opening ≡ Some challenge → (n number timestamp : ℕ) (d : ChannelIdentity) → slice_get marks n ≡ Some (Calling d number timestamp) →
    d.client ≡ challenge → ⊥) →
    Placed (taking_note (Some (take_of running.logons.channel unit)) controller running.logons.channel).sends
    (taking_note (Some (take_of running.logons.channel unit)) controller running.logons.channel).mark more →
    ((c : ChannelIdentity) (number timestamp : ℕ) (called : Option ℕ) → taking_note (Some (take_of running.logons.channel unit)) controller running.logons.channel
    ≡ request_note (Calling c number timestamp) called → IsPlaced more (Calling c number timestamp)) →
    ((c : ChannelIdentity) (number : ℕ) → IsAnswer (take_of running.logons.channel unit).taken → (view_of controller running.logons.channel).stands ≡ Some c →
    (view_of controller running.logons.channel).asking ≡ Some number → (n timestamp : ℕ) → slice_get marks n ≡ Some (Calling c number timestamp) → Later n) →
    OwnCalls Done marks drawn turns given controller who running →
    let step = step_of (record { running = Some running }) (event.Bytes number bytes) now left in
    Differ (drawn ++ step.drawn) → OwnIf Later (marks ++ more) (drawn ++ step.drawn) turns (given ++ given_by (asking_end who) (actions_by step.answer)) controller who step.state.running
own_whole Done Later so marks more drawn turns given controller who running number said bytes frames unit now left on rest none heard order fresh placed written done old differ =
    stepped_by Done Later marks (marks ++ more) drawn turns given controller who running (event.Bytes number bytes) now left order old (take_of running.logons.channel unit).state
    (taken_knows Done Later so marks more old.own drawn controller running.logons.channel old.turned fresh old.calls unit order.coherent placed written done)
    (event_part running (event.Bytes number bytes) now left) refl (turns_dialled.starts running (event.Bytes number bytes) now left)
    (channel_steps.whole running number said bytes frames unit now left on rest none heard) differ

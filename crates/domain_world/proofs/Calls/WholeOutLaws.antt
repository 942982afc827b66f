-- What a member keeps, and that its call that is out is that of its message, through a step at which a whole unit comes
-- on the link of its turn; and what the others keep then. It serves `runs_stand_so`.
use Rattle.std.proofs.Common.{◌≡◌, ◌⊎◌, ℕ, ◌==◌, Bool, true, false, List, [], ◌∷◌, ◌++◌, inl, inr, Option, Some, None, Result, Ok, Err, refl, sym, ap, ◌∙◌, subst, slice_get}
use Rattle.std.specs.Prelude.{flat_map}
use Rattle.std.specs.List.{AllByRecursion}
use Rattle.std.proofs.lemmas.Bool.{eqb-true}
use Rattle.std.proofs.lemmas.Bool.Decides.{Decides-eqb}
use Rattle.wire_base.specs.Maps.{lookup, same_number}
use Rattle.outside.specs.Machine.{Part, step_by, then_part}
use Rattle.outside.specs.declared.action.StepRefused.{StepRefused}
use Rattle.outside.specs.declared.event.Event.TheVariants as event
use Rattle.authenticators.specs.Channels.{ChannelIdentity}
use Rattle.authenticators.specs.SecureChannels.{channel_of}
use Rattle.rpc_units.specs.Calls.{IsHeard}
use Rattle.rpc_units.specs.declared.unit.Unit.{Unit as RpcUnit}
use Rattle.end_links.specs.Links.{LinkState}
use Rattle.channel_client.specs.declared.hearing.SetHearing.TheVariants as set_hearing
use Rattle.channel_client.specs.declared.state.SetStep.TheVariants as set_step
use Rattle.channel_client.specs.Effects.{IsCoherent, MatchesStep, stands_in, step_in}
use Rattle.channel_client.specs.Machine.{act, can_start, hear, judge, place_of, settle, take_of, SetOutcome, judge_set, settle_set}
use Rattle.channel_client.specs.State.{Requester}
use Rattle.channel_client.specs.declared.hearing.Hearing.{Hearing}
use Rattle.channel_client.specs.declared.hearing.Hearing.TheVariants as hearing
use Rattle.channel_client.specs.declared.judging.Judgement.{Judgement}
use Rattle.channel_client.specs.declared.judging.Judgement.TheVariants as judgement
use Rattle.channel_client.specs.declared.state.Pending.{Pending}
use Rattle.channel_client.specs.declared.state.Question.{Question}
use Rattle.channel_client.specs.declared.state.Question.TheVariants as question
use Rattle.channel_client.specs.declared.state.Standing.{Standing}
use Rattle.channel_client.specs.declared.state.Standing.TheVariants as standing
use Rattle.channel_client.specs.declared.state.Step.TheVariants as step
use Rattle.channel_client.proofs.EffectLaws.{steps_have_effects}
use Rattle.wire_base.specs.Lists.{OneOf}
use Rattle.channel_events.specs.Marks.{Calling}
use Rattle.wire_base.proofs.ListLaws.{one_found, one_weaker, one_with}
use Rattle.member_server.specs.ChannelSteps.{ComesCalmly, StepsIfTaken}
use Rattle.member_server.proofs.ChannelStepLaws.{taken_part, whole_comes}
use Rattle.member_server.proofs.StepFrame.{PartHolds, WorkFact, next_keeps}
use Rattle.member_server.specs.Machine.{actions_in, at_turn, by_event, event_part, halted_state, state_in, step_of, work_of}
use Rattle.member_server.specs.Turns.{AtTurn, DialWork, dial_work_part, next_turn, take_by}
use Rattle.channel_turns.specs.declared.state.Dialling.{Dialling}
use Rattle.channel_turns.specs.declared.state.Dialling.TheVariants as dialling
use Rattle.member_server.specs.declared.state.Logon.{Logon}
use Rattle.member_server.specs.declared.state.Logons.{Logons}
use Rattle.member_server.specs.declared.state.Running.{Running}
use Rattle.channel_turns.specs.declared.state.TurnTalk.{TurnTalk}
use Rattle.member_server.specs.declared.state.Work.{Work}
use Rattle.member_server.proofs.ChannelStepLaws.{channel_steps}
use Rattle.step_notes.specs.ChannelNames.{standing_channel}
use Rattle.step_notes.specs.MemberNotes.{LinkAt, TurnNote, asked_note, link_of_logon, link_of_place, link_units, message_note, no_note, request_note, taking_note, timestamp_bound}
use Rattle.step_notes.specs.Records.{MessageTaken, Sent}
use Rattle.step_notes.proofs.Members.CallKeptLaws.{step_asks}
use Rattle.step_notes.proofs.Members.KeptLogonLaws.{KeptIn, each_found, kept_so, one_before}
use Rattle.world_moves.specs.declared.links.EndId.TheVariants.{Member}
use Rattle.world_moves.specs.declared.links.Route.{Route}
use Rattle.world_moves.specs.Links.{acceptor_of}
use Rattle.domain_world.specs.Past.{change_if, change_message, with_answer, with_call}
use Rattle.domain_world.proofs.Acceptance.LetInStepLaws.{IsAcceptedBy, IsDialledBy}
use Rattle.domain_world.proofs.Messages.MessageNoteLaws.{changed, map_one}
use Rattle.domain_world.proofs.Calls.OutStepLaws.{HasOne, IsOf, IsOutIn, MemberHolds, OutFor, OutSteps, StaysKnown, bytes_accepts, bytes_kept, none_out, out_steps, same_channel}

-- ---- what the unit is taken for, where the turn waits for the answer to a Logon call afterwards

-- nothing happened
pub record StaysSo (c t : Requester) (note : TurnNote) : Type 0 where
  pub same : t ≡ c
  pub none : note ≡ no_note

-- the call went out
pub record CallsOut (controller : ℕ) (t : Requester) (note : TurnNote) (pending : Pending) : Type 0 where
  pub channel : ChannelIdentity
  pub timestamp : ℕ
  pub is : note ≡ request_note (Calling channel pending.number timestamp) (Some pending.place)
  pub stands : standing_channel controller t ≡ Some channel

module _ (controller : ℕ) (c : Requester) where
  abbrev Case : Hearing → Pending → Type 0
  Case h pending =
      StaysSo c (act h c).state (taking_note (Some (act h c)) controller c) ⊎ CallsOut controller (act h c).state (taking_note (Some (act h c)) controller c) pending

  pub settled_none : (j : Judgement) (pending : Pending) → (settle j c).state.turn ≡ Some pending → ⊥
  settled_none (judgement.Half client server) pending out = none_out pending out
  settled_none (judgement.Opened o) pending out = none_out pending out
  settled_none (judgement.Answer o v) pending out = none_out pending out
  settled_none (judgement.Drop cause) pending out = none_out pending out

  pub set_none : (judged : SetOutcome) (pending : Pending) → (settle_set judged c).state.turn ≡ Some pending → ⊥
  set_none (Ok o) pending out = none_out pending out
  set_none (Err cause) pending out = none_out pending out

  -- the call waits for its answer
  abbrev asking : Pending
  asking = record { number = c.next_call; place = place_of c.turn; step = step.Reply question.Logon }

  logon_case : (how : Standing) (frames : List (List ℕ)) → c.standing ≡ how → MatchesStep how (Some (step.Reply question.Logon)) → Case (hearing.Next question.Logon frames) asking
  logon_case standing.Nothing frames is matches = absurd matches
  logon_case (standing.Half client server) frames is matches = absurd matches
  logon_case (standing.Open o) frames is matches = inr (record {
    channel = channel_of controller c.caller.computer o;
    timestamp = timestamp_bound (step_in c.turn);
    is = ap (λ (how : Standing). asked_note (Some (step.Reply question.Logon)) how controller c (act (hearing.Next question.Logon frames) c).state) is;
    stands = ap (λ (how : Standing). stands_in controller c.caller.computer how) is;
  })

  next_case : (q : Question) (frames : List (List ℕ)) (pending : Pending) → (act (hearing.Next q frames) c).state.turn ≡ Some pending → pending.step ≡ step.Reply question.Logon →
      IsCoherent (act (hearing.Next q frames) c).state → Case (hearing.Next q frames) pending
  next_case (question.Challenge client) frames pending out reply coherent =
      let same : record { number = c.next_call; place = place_of c.turn; step = step.Reply (question.Challenge client) } ≡ pending = (let x = out in cc) in
      let never : step.Reply (question.Challenge client) ≡ step.Reply question.Logon = ap (λ (p : Pending). p.step) same ∙ reply in
      absurd (let x = never in cc)
  next_case question.Authenticate frames pending out reply coherent =
      let same : record { number = c.next_call; place = place_of c.turn; step = step.Reply question.Authenticate } ≡ pending = (let x = out in cc) in
      let never : step.Reply question.Authenticate ≡ step.Reply question.Logon = ap (λ (p : Pending). p.step) same ∙ reply in
      absurd (let x = never in cc)
  next_case question.Logon frames pending out reply coherent =
      let same : asking ≡ pending = (let x = out in cc) in
      subst (λ (p : Pending). Case (hearing.Next question.Logon frames) p) same (logon_case c.standing frames refl coherent.matches)

  pub acted_case : (h : Hearing) (pending : Pending) → (act h c).state.turn ≡ Some pending → pending.step ≡ step.Reply question.Logon → IsCoherent (act h c).state → Case h pending
  acted_case hearing.Skip pending out reply coherent = inl (record { same = refl; none = refl })
  acted_case (hearing.Next q frames) pending out reply coherent = next_case q frames pending out reply coherent
  acted_case (hearing.Reply q r) pending out reply coherent = absurd (settled_none (judge q r c.standing c.caller.secret) pending out)
  acted_case (hearing.Drop cause) pending out reply coherent = absurd (settled_none (judgement.Drop cause) pending out)
  acted_case (hearing.Set (set_hearing.Next frames)) pending out reply coherent =
      let same : record { number = c.next_call; place = place_of c.turn; step = step.Set set_step.Reply } ≡ pending = (let x = out in cc) in
      let never : step.Set set_step.Reply ≡ step.Reply question.Logon = ap (λ (p : Pending). p.step) same ∙ reply in
      absurd (let x = never in cc)
  acted_case (hearing.Set (set_hearing.Reply r)) pending out reply coherent = absurd (set_none (judge_set r c.standing) pending out)

  -- the logons are kept
  acted_asked : (h : Hearing) (pending : Pending) (at : AtTurn) → (act h c).state.turn ≡ Some pending → (take_by (act h c) None at).0.work.logons.asked ≡ at.work.logons.asked
  acted_asked hearing.Skip pending at out = refl
  acted_asked (hearing.Next q frames) pending at out = refl
  acted_asked (hearing.Reply q r) pending at out = absurd (settled_none (judge q r c.standing c.caller.secret) pending out)
  acted_asked (hearing.Drop cause) pending at out = absurd (settled_none (judgement.Drop cause) pending out)
  acted_asked (hearing.Set (set_hearing.Next frames)) pending at out = refl
  acted_asked (hearing.Set (set_hearing.Reply r)) pending at out = absurd (set_none (judge_set r c.standing) pending out)

-- ---- the step: the unit is taken, and no turn starts

event_same : (first : Result (Part DialWork) StepRefused) (now : ℕ) (before part : Part DialWork) → first ≡ Ok before →
    can_start before.value.0.logons.channel.turn before.value.0.logons.channel.waiting ≡ false → then_part first (next_turn now) ≡ Ok part → part.value.0.logons ≡ before.value.0.logons
event_same first now before part is none done =
    let Same : WorkFact = λ how w left. w.logons ≡ before.value.0.logons in
    subst (PartHolds Same) (sym (ap (λ (p : Result (Part DialWork) StepRefused). then_part p (next_turn now)) is) ∙ done)
    (next_keeps now Same Same (record {
      still = λ how w left can same. same;
      starts = λ turn frames challenge how w old left can drawn answer same.
          absurd (let x = sym can ∙ ap (λ (l : Logons). can_start l.channel.turn l.channel.waiting) same ∙ none in cc);
    }) before.value.1 before.value.0 before.left refl)

logons_of : (part : Part DialWork) (w : Work) (how : Dialling) (left : List (List ℕ)) → dial_work_part w how left ≡ Ok part → part.value.0.logons ≡ w.logons
logons_of part w how left is =
    let same : record { value = (w, how); left = left } ≡ part = (let x = is in cc) in
    sym (ap (λ (p : Part DialWork). p.value.0.logons) same)

-- ---- what is written down of it

-- what becomes of the messages
abbrev pub noted : TurnNote → Logons → Option ℕ → Option ℕ → List MessageTaken → List MessageTaken
noted note logons carried number messages =
    change_message (link_of_place note.answered logons) (with_answer carried) (change_message (link_of_place note.called logons) (with_call number) messages)

-- a request that goes out has that number among these units, and its mark
pub record IsSentAs (note : TurnNote) (number : Option ℕ) (units : List Sent) : Type 0 where
  pub request : ℕ
  pub unit : Sent
  pub numbered : number ≡ Some request
  pub there : slice_get units request ≡ Some unit
  pub mark : unit.mark ≡ note.mark

out_answer : (units : List Sent) (member : ℕ) (pending : Pending) (logon : Logon) (standing : Option ChannelIdentity) (carried : Option ℕ) (message : MessageTaken) →
    IsOutIn units member pending logon standing message → IsOutIn units member pending logon standing (with_answer carried message)
out_answer units member pending logon standing carried message is = record {
  link = is.link;
  by = is.by;
  request = is.request;
  call = is.call;
  unit = is.unit;
  there = is.there;
  channel = is.channel;
  timestamp = is.timestamp;
  stands = is.stands;
  mark = is.mark;
}

-- a call that is out stays out as units come, on the same channel
pub out_more : (units more : List Sent) (member : ℕ) (pending : Pending) (logon : Logon) (old new : Option ChannelIdentity) (message : MessageTaken) →
    ((k : ℕ) (unit : Sent) → slice_get units k ≡ Some unit → slice_get more k ≡ Some unit) → old ≡ new → IsOutIn units member pending logon old message → IsOutIn more member pending logon new message
out_more units more member pending logon old new message grown same is = record {
  link = is.link;
  by = is.by;
  request = is.request;
  call = is.call;
  unit = is.unit;
  there = grown is.request is.unit is.there;
  channel = is.channel;
  timestamp = is.timestamp;
  stands = sym same ∙ is.stands;
  mark = is.mark;
}

has_noted : (note : TurnNote) (logons : Logons) (carried number : Option ℕ) (member place : ℕ) (logon : Logon) (messages : List MessageTaken) → HasOne member messages place logon →
    HasOne member (noted note logons carried number messages) place logon
has_noted note logons carried number member place logon messages one =
    changed (IsOf member place logon) (link_of_place note.answered logons) (with_answer carried)
    (λ message is. record { same_member = is.same_member; same_place = is.same_place; same_logon = is.same_logon; link = is.link })
    (change_message (link_of_place note.called logons) (with_call number) messages)
    (changed (IsOf member place logon) (link_of_place note.called logons) (with_call number)
    (λ message is. record { same_member = is.same_member; same_place = is.same_place; same_logon = is.same_logon; link = is.link }) messages one)

-- the message of the logon whose call went out
called_out : (more : List Sent) (member : ℕ) (pending : Pending) (logon : Logon) (standing : Option ChannelIdentity) (note : TurnNote) (logons : Logons) (carried number : Option ℕ) (messages : List MessageTaken)
    (channel : ChannelIdentity) (timestamp : ℕ) → note ≡ request_note (Calling channel pending.number timestamp) (Some pending.place) → standing ≡ Some channel →
    lookup same_number pending.place logons.asked ≡ Some logon → IsSentAs note number more → HasOne member messages pending.place logon →
    OneOf (IsOutIn more member pending logon standing) (noted note logons carried number messages)
called_out more member pending logon standing note logons carried number messages channel timestamp is stands there sent one =
    let link : link_of_place note.called logons ≡ Some logon.link =
    ap (λ (n : TurnNote). link_of_place n.called logons) is ∙ ap link_of_logon there in
    changed (IsOutIn more member pending logon standing) (link_of_place note.answered logons) (with_answer carried) (out_answer more member pending logon standing carried)
    (change_message (link_of_place note.called logons) (with_call number) messages)
    (subst (λ (l : Option ℕ). OneOf (IsOutIn more member pending logon standing) (change_message l (with_call number) messages)) (sym link)
    (map_one (IsOf member pending.place logon) (IsOutIn more member pending logon standing) (λ (message : MessageTaken). change_if (message.link == logon.link) (with_call number) message)
    (λ message its.
    subst (λ (hit : Bool). IsOutIn more member pending logon standing (change_if hit (with_call number) message)) (sym ((Decides-eqb message.link logon.link).1 its.link)) (record {
      link = its.link;
      by = its.same_member;
      request = sent.request;
      call = sent.numbered;
      unit = sent.unit;
      there = sent.there;
      channel = channel;
      timestamp = timestamp;
      stands = stands;
      mark = sent.mark ∙ ap (λ (n : TurnNote). n.mark) is;
    })) messages one))

module _ (units more : List Sent) (grown : (k : ℕ) (unit : Sent) → slice_get units k ≡ Some unit → slice_get more k ≡ Some unit) (messages after : List MessageTaken)
    (onward : (P : MessageTaken → Type 0) → OneOf P messages → OneOf P after) (controller member : ℕ) (carried number : Option ℕ) where
  -- nothing happened
  still_out : (pending : Pending) (logon : Logon) (old new : Option ChannelIdentity) (note : TurnNote) (logons : Logons) → note ≡ no_note → old ≡ new →
      OneOf (IsOutIn units member pending logon old) messages → OneOf (IsOutIn more member pending logon new) (noted note logons carried number after)
  still_out pending logon old new note logons none same one =
      subst (λ (n : TurnNote). OneOf (IsOutIn more member pending logon new) (noted n logons carried number after)) (sym none)
      (onward (IsOutIn more member pending logon new)
      (one_weaker (IsOutIn units member pending logon old) (IsOutIn more member pending logon new) messages
      (λ message is. out_more units more member pending logon old new message grown same is) one))

  whole_out : (part : Result (Part DialWork) StepRefused) (running : Running) (link : ℕ) (said : LinkState TurnTalk) (bytes : List ℕ) (frames : List RpcUnit) (unit : RpcUnit) (now : ℕ)
      (left : List (List ℕ)) (Own : ℕ → Type 0) → running.dialling ≡ dialling.On link said → said.rest ≡ [] → said.talk.joiner ≡ None → IsHeard bytes frames unit →
      event_part running (event.Bytes link bytes) now left ≡ part → IsCoherent running.logons.channel → KeptIn (HasOne member messages) Own (Some running) →
      OutFor units messages controller member (Some running) →
      ((after : Part DialWork) → part ≡ Ok after → (taking_note (Some (take_of running.logons.channel unit)) controller running.logons.channel).sends ≡ true →
      IsSentAs (taking_note (Some (take_of running.logons.channel unit)) controller running.logons.channel) number more) →
      OutFor more (noted (taking_note (Some (take_of running.logons.channel unit)) controller running.logons.channel) running.logons carried number after) controller member
      (step_by actions_in state_in halted_state left part).state.running
  whole_out (Err why) running link said bytes frames unit now left Own on rest none heard is coherent kept out sent = tt
  whole_out (Ok part) running link said bytes frames unit now left Own on rest none heard is coherent kept out sent = λ pending logon turn reply there.
      let c : Requester = running.logons.channel in
      let t : Requester = (take_of c unit).state in
      let new : Requester = part.value.0.logons.channel in
      let note : TurnNote = taking_note (Some (take_of c unit)) controller c in
      let w : Work = work_of running in
      let first : Result (Part DialWork) StepRefused = by_event (event.Bytes link bytes) running.dialling w left in
      let known : StepsIfTaken first (ComesCalmly t) now (Ok part) =
      subst (λ (p : Result (Part DialWork) StepRefused). StepsIfTaken first (ComesCalmly t) now p) is (channel_steps.whole running link said bytes frames unit now left on rest none heard) in
      let so : OutSteps t first new pending = out_steps t first now new part.left pending question.Logon known turn reply in
      let same : taken_part link bytes unit w left ≡ Ok so.part = sym (whole_comes running.dialling link said bytes frames unit w left on rest none heard) ∙ so.is in
      let logons : so.part.value.0.logons ≡ (take_by (take_of c unit) None (at_turn link w)).0.work.logons = logons_of so.part (take_by (take_of c unit) None (at_turn link w)).0.work _ left same in
      let asked : part.value.0.logons.asked ≡ running.logons.asked =
      ap (λ (l : Logons). l.asked) (event_same first now so.part part so.is so.none is ∙ logons)
      ∙ acted_asked controller c (hear c.turn unit c.next_call) pending (at_turn link w) so.stays.turn in
      let before : lookup same_number pending.place running.logons.asked ≡ Some logon = subst (λ (a : List (ℕ × Logon)). lookup same_number pending.place a ≡ Some logon) asked there in
      let stands : standing_channel controller t ≡ standing_channel controller new = same_channel controller t new pending so.stays in
      elim (acted_case controller c (hear c.turn unit c.next_call) pending so.stays.turn reply (steps_have_effects.take controller c unit coherent).1) [
        | inl stays ↦
            still_out pending logon (standing_channel controller c) (standing_channel controller new) note running.logons stays.none
            (ap (λ (x : Requester). standing_channel controller x) (sym stays.same) ∙ stands)
            (out pending logon (subst (λ (x : Requester). x.turn ≡ Some pending) stays.same so.stays.turn) reply before)
        | inr calls ↦
            called_out more member pending logon (standing_channel controller new) note running.logons carried number after calls.channel calls.timestamp calls.is (sym stands ∙ calls.stands) before
            (sent part refl (ap (λ (n : TurnNote). n.sends) calls.is))
            (onward (IsOf member pending.place logon) (each_found (HasOne member messages) pending.place running.logons.asked logon before kept.0))
      ]

-- ---- the member whose turn it is

-- with what is written down of the unit
pub whole_holds : (links : List Route) (units more : List Sent) (messages : List MessageTaken) (controller : ℕ) (w : LinkAt) (running : Running) (said : LinkState TurnTalk)
    (bytes : List ℕ) (frames : List RpcUnit) (unit : RpcUnit) (now : ℕ) (left : List (List ℕ)) (carried number : Option ℕ) →
    ((k : ℕ) (one : Sent) → slice_get units k ≡ Some one → slice_get more k ≡ Some one) → running.dialling ≡ dialling.On w.link said → said.rest ≡ [] → said.talk.joiner ≡ None →
    IsHeard bytes frames unit →
    ((after : Part DialWork) → event_part running (event.Bytes w.link bytes) now left ≡ Ok after → (taking_note (Some (take_of running.logons.channel unit)) controller running.logons.channel).sends ≡ true →
    IsSentAs (taking_note (Some (take_of running.logons.channel unit)) controller running.logons.channel) number more) →
    MemberHolds links units messages controller w.member (Some running) →
    MemberHolds links more
    (noted (taking_note (Some (take_of running.logons.channel unit)) controller running.logons.channel) running.logons carried number
    (messages ++ flat_map (message_note w) (link_units (record { running = Some running }) w.link bytes now left))) controller w.member
    (step_of (record { running = Some running }) (event.Bytes w.link bytes) now left).state.running
whole_holds links units more messages controller w running said bytes frames unit now left carried number grown on rest none heard sent holds =
    let new : List MessageTaken = flat_map (message_note w) (link_units (record { running = Some running }) w.link bytes now left) in
    let note : TurnNote = taking_note (Some (take_of running.logons.channel unit)) controller running.logons.channel in
    let own : ℕ → Type 0 = λ number. IsDialledBy links w.member number in
    record {
      asks = step_asks (record { running = Some running }) (event.Bytes w.link bytes) now left holds.asks;
      kept = kept_so (HasOne w.member (messages ++ new)) (HasOne w.member (noted note running.logons carried number (messages ++ new))) own own
          (λ place logon one. has_noted note running.logons carried number w.member place logon (messages ++ new) one) (λ number is. is)
          (step_of (record { running = Some running }) (event.Bytes w.link bytes) now left).state.running
          (bytes_kept links messages w (Some running) bytes now left holds.accepts holds.kept);
      accepts = bytes_accepts links w (Some running) bytes now left holds.accepts;
      out = whole_out units more grown messages (messages ++ new) (λ P one. one_before P messages new one) controller w.member carried number
          (event_part running (event.Bytes w.link bytes) now left) running w.link said bytes frames unit now left own on rest none heard refl holds.asks.coherent holds.kept holds.out sent;
    }

-- ---- the other members

-- each message came on a link that its member accepted
abbrev pub AreAccepted : List Route → List MessageTaken → Type 0
AreAccepted links messages = AllByRecursion (λ (message : MessageTaken). IsAcceptedBy links message.member message.link) messages

pub one_acceptor : (links : List Route) (one other link : ℕ) → IsAcceptedBy links one link → IsAcceptedBy links other link → one ≡ other
one_acceptor links one other link first second =
    let both : Some first.route ≡ Some second.route = sym first.at ∙ second.at in
    let route : first.route ≡ second.route = (let x = both in cc) in
    let ends : Member one ≡ Member other = sym first.acceptor ∙ ap acceptor_of route ∙ second.acceptor in
    (let x = ends in cc)

-- the link on which a call is written down
pub record IsNamed (logons : Logons) (called : Option ℕ) (link : ℕ) : Type 0 where
  pub place : ℕ
  pub logon : Logon
  pub kept : lookup same_number place logons.asked ≡ Some logon
  pub link_is : logon.link ≡ link

named_by : (logons : Logons) (place : ℕ) (found : Option Logon) (link : ℕ) → lookup same_number place logons.asked ≡ found → link_of_logon found ≡ Some link → IsNamed logons (Some place) link
named_by logons place None link is there = let x = there in cc
named_by logons place (Some logon) link is there = record { place = place; logon = logon; kept = is; link_is = (let x = there in cc) }

named_of : (logons : Logons) (called : Option ℕ) (link : ℕ) → link_of_place called logons ≡ Some link → IsNamed logons called link
named_of logons None link is = let x = is in cc
named_of logons (Some place) link is = named_by logons place (lookup same_number place logons.asked) link refl is

if_other : (hit : Bool) (P : MessageTaken → Type 0) (change : MessageTaken → MessageTaken) (message : MessageTaken) → (hit ≡ true → ⊥) → P message → P (change_if hit change message)
if_other false P change message differs is = is
if_other true P change message differs is = absurd (differs refl)

others_by : (P Q : MessageTaken → Type 0) (found : Option ℕ) (change : MessageTaken → MessageTaken) (messages : List MessageTaken) → ((message : MessageTaken) → Q message → P message) →
    ((link : ℕ) (message : MessageTaken) → found ≡ Some link → Q message → message.link ≡ link → ⊥) → OneOf Q messages → OneOf P (change_message found change messages)
others_by P Q None change messages so differ one = one_weaker Q P messages so one
others_by P Q (Some link) change messages so differ one =
    map_one Q P (λ (message : MessageTaken). change_if (message.link == link) change message)
    (λ message is. if_other (message.link == link) P change message (λ hit. differ link message refl is (eqb-true message.link link hit)) (so message is)) messages one

-- what is known of another member stays known: no message of it came on a link of this one
pub others_known : (links : List Route) (units more : List Sent) (messages after : List MessageTaken) (controller member other : ℕ) (note : TurnNote) (running : Running) (carried number : Option ℕ)
    (Own : ℕ → Type 0) → ((k : ℕ) (one : Sent) → slice_get units k ≡ Some one → slice_get more k ≡ Some one) → ((P : MessageTaken → Type 0) → OneOf P messages → OneOf P after) →
    (other ≡ member → ⊥) → AreAccepted links after → KeptIn (HasOne member messages) Own (Some running) →
    StaysKnown links links units more messages (noted note running.logons carried number after) other
others_known links units more messages after controller member other note running carried number Own grown onward differ accepted kept = record {
  dialled = λ number is. is;
  accepted = λ number is. is;
  has = λ place logon one. has_noted note running.logons carried number other place logon after (onward (IsOf other place logon) one);
  out = λ pending logon standing one.
      let out : MessageTaken → Type 0 = IsOutIn units other pending logon standing in
      let known : MessageTaken → Type 0 = λ (message : MessageTaken). out message × IsAcceptedBy links message.member message.link in
      changed (IsOutIn more other pending logon standing) (link_of_place note.answered running.logons) (with_answer carried) (out_answer more other pending logon standing carried)
      (change_message (link_of_place note.called running.logons) (with_call number) after)
      (others_by (IsOutIn more other pending logon standing) known (link_of_place note.called running.logons) (with_call number) after
      (λ message is. out_more units more other pending logon standing standing message grown refl is.0)
      (λ link message is its there.
      let named : IsNamed running.logons note.called link = named_of running.logons note.called link is in
      let found = one_found (IsOf member named.place named.logon) (λ (message : MessageTaken). IsAcceptedBy links message.member message.link) after accepted
      (onward (IsOf member named.place named.logon) (each_found (HasOne member messages) named.place running.logons.asked named.logon named.kept kept.0)) in
      let mine : IsAcceptedBy links member link =
      subst (λ (n : ℕ). IsAcceptedBy links n link) found.1.same_member (subst (λ (l : ℕ). IsAcceptedBy links found.0.member l) (found.1.link ∙ named.link_is) found.2) in
      let others : IsAcceptedBy links other link =
      subst (λ (n : ℕ). IsAcceptedBy links n link) its.0.by (subst (λ (l : ℕ). IsAcceptedBy links message.member l) there its.1) in
      differ (one_acceptor links other member link others mine))
      (one_with (λ (message : MessageTaken). IsAcceptedBy links message.member message.link) out known after (λ message is also. (also, is)) accepted (onward out one)));
}

-- ---- what came on accepted links

pub changed_all : (P : MessageTaken → Type 0) (change : MessageTaken → MessageTaken) → ((message : MessageTaken) → P message → P (change message)) → (messages : List MessageTaken) → AllByRecursion P messages →
    (found : Option ℕ) → AllByRecursion P (change_message found change messages)
changed_all P change so messages all None = all
changed_all P change so [] all (Some link) = tt
changed_all P change so (message ∷ messages) all (Some link) = (if_so (message.link == link) message all.0, changed_all P change so messages all.1 (Some link))
  where
    if_so : (hit : Bool) (message : MessageTaken) → P message → P (change_if hit change message)
    if_so false message is = is
    if_so true message is = so message is

-- the messages stay on links that were accepted
pub noted_accepted : (links : List Route) (note : TurnNote) (logons : Logons) (carried number : Option ℕ) (messages : List MessageTaken) → AreAccepted links messages →
    AreAccepted links (noted note logons carried number messages)
noted_accepted links note logons carried number messages all =
    let accepted : MessageTaken → Type 0 = λ (message : MessageTaken). IsAcceptedBy links message.member message.link in
    changed_all accepted (with_answer carried) (λ message is. is) (change_message (link_of_place note.called logons) (with_call number) messages)
    (changed_all accepted (with_call number) (λ message is. is) messages all (link_of_place note.called logons)) (link_of_place note.answered logons)

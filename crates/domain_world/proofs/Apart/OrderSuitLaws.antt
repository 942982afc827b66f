-- What a member takes in a whole unit suits the order of what was accepted: a channel that opens is that of the mark of
-- the unit, which is the reply to an opening that was accepted or to a call on it; and it calls in its own name.
use Rattle.std.proofs.Common.{◌≡◌, ◌≢◌, ℕ, ◌==◌, Bool, true, false, List, [], ◌∷◌, length, inl, inr, Option, Some, Result, Ok, Err, slice_get, refl, sym, ap, subst, ◌∙◌}
use Rattle.std.proofs.lemmas.Bool.Decides.{Decides-eqb}
use Rattle.wire_base.specs.Names.{SameName}
use Rattle.outside.specs.Machine.{Part}
use Rattle.outside.specs.declared.action.StepRefused.{StepRefused}
use Rattle.outside.specs.declared.event.Event.TheVariants as event
use Rattle.authenticators.specs.Channels.{ChannelIdentity, SameChannel}
use Rattle.channel_client.specs.Effects.{Answers, Begins, Calls, Changes, Counts, Drops, Effect, Moves, Opens, Stays, effect_of_take, stands_in, view_of}
use Rattle.channel_client.specs.Machine.{take_of}
use Rattle.channel_client.specs.State.{Requester}
use Rattle.channel_client.specs.declared.caller.Caller.{Caller}
use Rattle.channel_client.specs.declared.state.Standing.{Standing}
use Rattle.channel_client.specs.declared.state.Standing.TheVariants as standing
use Rattle.channel_client.proofs.EffectLaws.{steps_have_effects}
use Rattle.channel_events.specs.AcceptedOrder.{Accepted, IsAcceptedIn, IsOf}
use Rattle.wire_base.specs.Lists.{OneOf}
use Rattle.channel_events.specs.Marks.{Calling, Mark, Opened, Opening, Plain, ReplyTo}
use Rattle.channel_events.specs.OrderSteps.{Asker, InOrder, IsItsOrElsewhere}
use Rattle.channel_events.specs.Requests.{Requests}
use Rattle.wire_base.proofs.ListLaws.{no_some, one_weaker, some_is}
use Rattle.channel_events.proofs.SameLaws.{same_back, same_on}
use Rattle.member_server.specs.Machine.{event_part}
use Rattle.member_server.specs.Turns.{DialWork}
use Rattle.member_server.specs.declared.state.Running.{Running}
use Rattle.step_notes.specs.EffectNotes.{IsNotedBy, opening_out_of}
use Rattle.step_notes.specs.Marking.{clashes, mark_channel}
use Rattle.step_notes.specs.MemberNotes.{TurnNote, taking_note}
use Rattle.step_notes.specs.Records.{Book, ChannelAccepted, OfMember, Sent, unit_in}
use Rattle.step_notes.proofs.Channels.EffectNoteLaws.{steps_are_noted}
use Rattle.world_moves.specs.declared.bag.BagUnit.{BagUnit}
use Rattle.world_moves.specs.declared.links.EndId.TheVariants.{Member}
use Rattle.world_moves.specs.declared.state.State.{State}
use Rattle.domain_world.specs.Accepting.Answered.{IsItsWay}
use Rattle.domain_world.specs.Claims.AcceptedOpenings.{accepted_in, is_in_unit}
use Rattle.domain_world.specs.Claims.OpeningReplies.{IsAcceptedIn as IsAcceptedReply, IsReplyOfOpening}
use Rattle.domain_world.specs.Claims.OrderedSteps.{Suits, SuitsIfTaken}
use Rattle.domain_world.specs.Past.{Delivery, controller_asked, note_member, note_messages, note_turns}
use Rattle.domain_world.proofs.Acceptance.LetInStepLaws.{IsDialledBy}
use Rattle.domain_world.proofs.Acceptance.Turns.TurnNotedLaws.{IsMadeFor, turn_noted, unclashed}
use Rattle.domain_world.proofs.Acceptance.Turns.TurnSideLaws.{comes_back}
use Rattle.domain_world.proofs.Apart.OrderFrameLaws.{AllSuit}
use Rattle.domain_world.proofs.Apart.OrderToldLaws.{IsAnsweredIn, IsCallingOf, Told, asked, member_earlier, told_before}
use Rattle.domain_world.proofs.Moves.ComingLaws.{CameFrom, CameInUnit, IsPieceOf, came_in_unit}
use Rattle.domain_world.proofs.Moves.OpenMadeLaws.{IsAtSide}
use Rattle.domain_world.proofs.Frames.StepFrameLaws.{RunFact}
use Rattle.domain_world.proofs.Calls.CallComesLaws.{IsWhole, numbers, taken}
use Rattle.domain_world.proofs.Calls.CallFrameLaws.{dialled_on}
use Rattle.domain_world.proofs.Calls.CallHoldsLaws.{mark_there, marks_in, requests_at}
use Rattle.domain_world.proofs.Calls.OutStepLaws.{MemberHolds}

-- ---- what is known beside the calls

pub record SuitsKnown (base : Asker) (s : State) (b : Book) : Type 0 where
  -- a unit that is marked as the reply to an opening is that of one that was accepted
  pub opened : (n : ℕ) (one : Sent) → slice_get b.sent n ≡ Some one → IsReplyOfOpening b.accepted n one.mark
  -- each unit goes the way of its mark
  pub ways : (n : ℕ) (unit : BagUnit) (one : Sent) → slice_get s.bag n ≡ Some unit → slice_get b.sent n ≡ Some one → IsItsWay unit.back one.mark
  -- the unit of a call that was judged has a mark
  pub requests : (n request : ℕ) → OneOf (IsAnsweredIn request n) b.judged → (mark : Mark) × (slice_get (marks_in b.sent) request ≡ Some mark)
  -- no other member runs under the name of the computer
  pub others : (k : ℕ) (running : Running) → slice_get s.ends.members k ≡ Some (record { running = Some running }) → k ≢ base.who → SameName running.logons.plan.computer base.computer → ⊥

abbrev pub SuitSide : Asker → RunFact
SuitSide base n s given b = length b.sent ≡ length s.bag → SuitsKnown base s b

-- ---- a channel that opens

same_accepted : (accepted : List Accepted) (c d : ChannelIdentity) → SameChannel c d → IsAcceptedIn accepted c → IsAcceptedIn accepted d
same_accepted accepted c d same is =
    one_weaker (λ (one : Accepted). (one.in_unit ≡ true) × SameChannel c one.channel) (λ (one : Accepted). (one.in_unit ≡ true) × SameChannel d one.channel) accepted
    (λ one its. (its.0, same_on d c one.channel (same_back c d same) its.1)) is

-- the opening was accepted, on that channel
reply_accepted : (accepted : List ChannelAccepted) (channel : ChannelIdentity) (number request reply : ℕ) → OneOf (IsAcceptedReply channel number request reply) accepted → (c : ChannelIdentity) →
    SameChannel channel c → IsAcceptedIn (accepted_in accepted) c
reply_accepted [] channel number request reply is c same = absurd is
reply_accepted (one ∷ older) channel number request reply (inl here) c same =
    inl (ap is_in_unit here.came, subst (λ (x : ChannelIdentity). SameChannel c x) (sym here.opened) (same_back channel c same))
reply_accepted (one ∷ older) channel number request reply (inr later) c same = inr (reply_accepted older channel number request reply later c same)

module _ (base : Asker) (r : Requests ℕ) (s : State) (b : Book) (known : SuitsKnown base s b) (told : Told b) (order : InOrder r (asked base b.accepted)) (marks : r.marks ≡ marks_in b.sent) where
  by_mark : (mark : Mark) (n : ℕ) (named c : ChannelIdentity) → slice_get (marks_in b.sent) n ≡ Some mark → mark_channel mark ≡ Some named → SameChannel named c → IsItsWay true mark →
      IsReplyOfOpening b.accepted n mark → IsAcceptedIn (accepted_in b.accepted) c
  by_mark Plain n named c there of same way reply = absurd (no_some named of)
  by_mark (Opening channel number) n named c there of same way reply = absurd (let never = way in cc)
  by_mark (Opened channel number request) n named c there of same way reply =
      reply_accepted b.accepted channel number request n reply c (subst (λ (x : ChannelIdentity). SameChannel x c) (sym (some_is channel named of)) same)
  by_mark (Calling channel number timestamp) n named c there of same way reply = absurd (let never = way in cc)
  by_mark (ReplyTo channel number request) n named c there of same way reply =
      let at = known.requests n request (told.judged n number request channel there) in
      let call : IsCallingOf at.0 channel = told.replies n number request channel at.0 there at.1 in
      let also : SameChannel channel c = subst (λ (x : ChannelIdentity). SameChannel x c) (sym (some_is channel named of)) same in
      same_accepted (accepted_in b.accepted) call.named c (same_on call.named channel c call.same also)
      (order.called request call.number call.timestamp call.named
      (subst (λ (all : List Mark). slice_get all request ≡ Some (Calling call.named call.number call.timestamp)) (sym marks) (at.1 ∙ ap (λ (m : Mark). Some m) call.is)))

  -- an opening suits where it doesn't clash with the mark of the unit that comes back
  opens_suit : (n : ℕ) (unit : BagUnit) (c : ChannelIdentity) → slice_get s.bag n ≡ Some unit → unit.back ≡ true → clashes (Some c) (Some n) b.sent ≡ false → IsAcceptedIn (accepted_in b.accepted) c
  opens_suit n unit c there back none =
      let made : IsMadeFor c n b.sent = unclashed c n b.sent none in
      by_mark made.sent.mark n made.named c (mark_there b.sent n made.sent made.noted) made.made made.same
      (subst (λ (hit : Bool). IsItsWay hit made.sent.mark) back (known.ways n unit made.sent there made.noted)) (known.opened n made.sent made.noted)

-- ---- a call

-- the channel that stands is one of who asks
pub stands_named : (controller : ℕ) (computer : List ℕ) (how : Standing) (c : ChannelIdentity) → stands_in controller computer how ≡ Some c → c.computer ≡ computer
stands_named controller computer standing.Nothing c is = absurd (no_some c is)
stands_named controller computer (standing.Half client server) c is = absurd (no_some c is)
stands_named controller computer (standing.Open o) c is = ap (λ (x : ChannelIdentity). x.computer) (sym (some_is _ c is))

its_or_elsewhere : (hit : Bool) (a : Asker) (at : ℕ) (c : ChannelIdentity) → (at == a.who) ≡ hit → (at ≢ a.who → SameName c.computer a.computer → ⊥) → IsItsOrElsewhere a at c
its_or_elsewhere true a at c is others = inl ((Decides-eqb at a.who).0 is)
its_or_elsewhere false a at c is others =
    inr (λ (of : IsOf a.controller a.computer c).
    others (λ same. let both : true ≡ false = sym ((Decides-eqb at a.who).1 same) ∙ is in absurd (let never = both in cc)) of.computer_is)

-- ---- a unit is taken

module _ (base : Asker) (n at : ℕ) (w : Delivery) (piece : List ℕ) (s after : State) (b : Book) (running : Running) (whole : IsWhole w.link piece running)
    (there : slice_get s.ends.members at ≡ Some (record { running = Some running })) (known : SuitsKnown base s b) (told : Told b)
    (order : InOrder (requests_at n s.member_plans s.ends s.chances.drawn b.sent) (asked base b.accepted))
    (own : MemberHolds s.links b.sent b.messages (controller_asked (OfMember at) s) at (Some running)) where
  abbrev its : ℕ
  its = controller_asked (OfMember at) s

  abbrev channel : Requester
  channel = running.logons.channel

  abbrev note : TurnNote
  note = taking_note (Some (take_of channel whole.unit)) its channel

  -- no credential passed on a unit of another channel
  clash_here : (part : Part DialWork) → event_part running (event.Bytes w.link piece) s.moment s.chances.left ≡ Ok part →
      (note_member (Some (record { running = Some running })) at w piece s after b).clash ≡ false → clashes note.checked (unit_in w.source) b.sent ≡ false
  clash_here part is none =
      ((turn_noted its running w.link piece whole.unit s.chances.left (unit_in w.source) (numbers n at w piece s after b running whole)
      (note_messages at (record { running = Some running }) w piece s b)
      (record { said = whole.said; on = whole.on; rest = whole.rest; none = whole.none; frames = whole.frames; heard = whole.heard })).clash
      (subst (λ (p : Result (Part DialWork) StepRefused).
      (note_turns its (taken n at w piece s after b running whole p) (unit_in w.source) (numbers n at w piece s after b running whole)
      (note_messages at (record { running = Some running }) w piece s b)).clash ≡ false) is none)).1

  effect_suits : (effect : Effect) → Changes effect (view_of its channel) (view_of its (take_of channel whole.unit).state) →
      IsNotedBy effect note (view_of its channel) (view_of its (take_of channel whole.unit).state) (opening_out_of channel) (opening_out_of (take_of channel whole.unit).state) →
      (unit : BagUnit) (number : ℕ) → slice_get s.bag number ≡ Some unit → unit.back ≡ true → clashes note.checked (Some number) b.sent ≡ false → Suits (asked base b.accepted) at effect
  effect_suits Stays change noted unit number bag back none = tt
  effect_suits Counts change noted unit number bag back none = tt
  effect_suits (Begins client) change noted unit number bag back none = tt
  effect_suits (Opens c) change noted unit number bag back none =
      opens_suit base (requests_at n s.member_plans s.ends s.chances.drawn b.sent) s b known told order refl number unit c bag back
      (subst (λ (it : TurnNote). clashes it.checked (Some number) b.sent ≡ false) noted none)
  effect_suits (Moves c timestamp) change noted unit number bag back none = tt
  effect_suits (Calls c called) change noted unit number bag back none =
      let computer : c.computer ≡ running.logons.plan.computer =
      stands_named its channel.caller.computer channel.standing c change.0 ∙ ap (λ (x : Caller). x.computer) own.asks.caller in
      its_or_elsewhere (at == base.who) (asked base b.accepted) at c refl
      (λ differ same. known.others at running there differ (subst (λ (name : List ℕ). SameName name base.computer) computer same))
  effect_suits (Answers c called) change noted unit number bag back none = tt
  effect_suits Drops change noted unit number bag back none = tt

  suits_by : (part : Result (Part DialWork) StepRefused) → event_part running (event.Bytes w.link piece) s.moment s.chances.left ≡ part → IsAtSide s.links w.link w.back (Member at) →
      CameFrom w.source s w piece → (note_member (Some (record { running = Some running })) at w piece s after b).clash ≡ false →
      SuitsIfTaken part (asked base b.accepted) at (effect_of_take its channel whole.unit)
  suits_by (Err why) is side came none = tt
  suits_by (Ok part) is side came none =
      let dialled : IsDialledBy s.links at w.link =
      dialled_on _ (λ number. IsDialledBy s.links at number) (Some running) w.link (record { running = running; runs = refl; said = whole.said; on = whole.on }) own.kept in
      let in_unit : CameInUnit w.source s w piece = came_in_unit w.source s w piece at dialled.controller came dialled.at in
      let piece_of : IsPieceOf s in_unit.number w piece = in_unit.piece_of in
      effect_suits (effect_of_take its channel whole.unit) (steps_have_effects.take its channel whole.unit own.asks.coherent).0
      (steps_are_noted.take its channel whole.unit own.asks.coherent) piece_of.unit in_unit.number piece_of.there (piece_of.back ∙ comes_back s.links at w.link w.back dialled side)
      (subst (λ (unit : Option ℕ). clashes note.checked unit b.sent ≡ false) (ap unit_in in_unit.is) (clash_here part is none))

-- what any member takes suits
pub all_suit : (base : Asker) → AllSuit base (SuitSide base)
all_suit base n at w piece s after given b running whole there side came even holds known told order =
    suits_by base n at w piece s after b running whole there (known even) (told_before b (note_member (Some (record { running = Some running })) at w piece s after b)
    (member_earlier (record { running = Some running }) at w piece s after b) told) order (holds.members at (record { running = Some running }) there)
    (event_part running (event.Bytes w.link piece) s.moment s.chances.left) refl side came told.clash

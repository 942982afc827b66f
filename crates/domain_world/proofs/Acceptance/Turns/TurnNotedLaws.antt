-- What is written down of bytes that a member hears: of those of a whole unit on the link of its turn, and of any
-- others. It serves `schedules_are_heard`.
use Rattle.std.proofs.Common.{◌≡◌, ◌⊎◌, ℕ, ◌+◌, ◌<◌, ◌==◌, ◌||◌, Bool, true, false, List, [], ◌∷◌, ◌++◌, map, inl, inr, Option, Some, None, refl, sym, ap, subst, ◌∙◌, slice_get, arith}
use Rattle.std.specs.Prelude.{flat_map, not}
use Rattle.std.specs.List.{AllByRecursion}
use Rattle.std.proofs.lemmas.Bool.{eqb-true}
use Rattle.std.proofs.lemmas.Bool.Decides.{Decides-eqb}
use Rattle.wire_base.specs.Maps.{lookup, same_number}
use Rattle.authenticators.specs.Channels.{ChannelIdentity, SameChannel}
use Rattle.authenticators.proofs.ChannelLaws.{same_channel-Decides}
use Rattle.outside.specs.declared.event.Event.TheVariants as event
use Rattle.rpc_units.specs.declared.unit.Unit.{Unit as RpcUnit}
use Rattle.end_links.specs.Serving.{ServedUnit}
use Rattle.channel_client.specs.declared.state.SetStep.TheVariants as set_step
use Rattle.channel_client.specs.Machine.{take_of}
use Rattle.channel_client.specs.State.{Requester}
use Rattle.channel_client.specs.declared.answers.Taken.{Taken}
use Rattle.channel_client.specs.declared.answers.Taken.TheVariants as taken
use Rattle.channel_client.specs.declared.state.Question.TheVariants as question
use Rattle.channel_client.specs.declared.state.Standing.{Standing}
use Rattle.channel_client.specs.declared.state.Standing.TheVariants as standing
use Rattle.channel_client.specs.declared.state.Step.{Step}
use Rattle.channel_client.specs.declared.state.Step.TheVariants as step
use Rattle.member_server.specs.Machine.{at_turn, step_of, work_of}
use Rattle.member_server.specs.State.{State as MemberState}
use Rattle.member_server.specs.declared.state.AtLink.{AtLink}
use Rattle.member_server.specs.Turns.{AtTurn}
use Rattle.member_server.specs.declared.state.Logon.{Logon}
use Rattle.member_server.specs.declared.state.Phase.{Phase}
use Rattle.member_server.specs.declared.state.Phase.TheVariants as phase
use Rattle.member_server.specs.declared.state.Running.{Running}
use Rattle.member_server.specs.declared.state.Talk.{Talk}
use Rattle.channel_turns.specs.declared.state.TurnTalk.{TurnTalk}
use Rattle.wire_base.specs.Lists.{OneOf}
use Rattle.wire_base.proofs.ListLaws.{one_with}
use Rattle.step_notes.specs.ChannelNames.{place_answered}
use Rattle.step_notes.specs.Marking.{clashes, is_channel, sent_channel}
use Rattle.step_notes.specs.MemberNotes.{LinkAt, TurnNote, asked_note, is_challenged, link_units, message_after, message_at, message_by, message_kept, message_note, taken_note, taking_note, turn_note, turn_units_in}
use Rattle.step_notes.specs.Records.{Book, MessageTaken, RequesterId, Sent}
use Rattle.step_notes.specs.Served.{talk_after, work_after}
use Rattle.step_notes.specs.TakenWhole.{TakesWhole}
use Rattle.step_notes.proofs.Members.KeptLogonLaws.{HasFor, IsFor, KeptIn, bytes_keep, kept_so}
use Rattle.step_notes.proofs.Members.UnservedLaws.{LinksIn}
use Rattle.domain_world.specs.Past.{answer_on_channel, answers_by, change_if, change_message, first_of, later_of, note_turn, note_turns}
use Rattle.domain_world.proofs.Acceptance.Heard.AnswerReadLaws.{HearsWhole}
use Rattle.domain_world.proofs.Acceptance.Turns.TurnFactLaws.{Any, HasFree, IsFree}
use Rattle.domain_world.proofs.Calls.WholeNotedLaws.{last_noted, note_for, whole_answers, whole_messages, whole_units}
use Rattle.domain_world.proofs.Calls.WholeOutLaws.{noted}
use Rattle.wire_base.proofs.AllLaws.{all_flat}

-- ---- a message that is taken then has no answer

abbrev IsNew : MessageTaken → Type 0
IsNew message = message.reply ≡ None

kept_new : (logon : Option Logon) (place : ℕ) (w : LinkAt) (bytes : List ℕ) → AllByRecursion IsNew (message_kept logon place w bytes)
kept_new None place w bytes = tt
kept_new (Some logon) place w bytes = (refl, tt)

at_new : (p : Phase) (after : Option AtLink) (w : LinkAt) (bytes : List ℕ) → AllByRecursion IsNew (message_at p after w bytes)
at_new phase.Fresh after w bytes = tt
at_new (phase.Challenged bound challenge flags) after w bytes = tt
at_new (phase.Asked bound place held) None w bytes = tt
at_new (phase.Asked bound place held) (Some after) w bytes = kept_new (lookup same_number place after.logons.asked) place w bytes
at_new (phase.In on) after w bytes = tt
at_new (phase.Out bound status) after w bytes = tt

after_new : (talk : Option Talk) (after : Option AtLink) (w : LinkAt) (bytes : List ℕ) → AllByRecursion IsNew (message_after talk after w bytes)
after_new None after w bytes = tt
after_new (Some talk) after w bytes = at_new talk.phase after w bytes

by_new : (challenged : Bool) (unit : ServedUnit AtLink Talk) (w : LinkAt) → AllByRecursion IsNew (message_by challenged unit w)
by_new false unit w = tt
by_new true unit w = after_new (talk_after unit.part) (work_after unit.part) w unit.bytes

pub units_new : (w : LinkAt) (units : List (ServedUnit AtLink Talk)) → AllByRecursion (λ (message : MessageTaken). message.reply ≡ None) (flat_map (message_note w) units)
units_new w units = all_flat IsNew (message_note w) (λ unit. by_new (is_challenged unit.talk.phase) unit w) units

-- ---- the logons that a member keeps are those of messages without an answer, also where bytes come

-- a message with its answer counts as taken later
abbrev late_if : Option ℕ → ℕ → ℕ
late_if None n = n
late_if (Some u) n = n + 1

abbrev timed : ℕ → MessageTaken → MessageTaken
timed n message = record message { at = late_if message.reply n }

free_none : (reply : Option ℕ) (n : ℕ) → (late_if reply n < n) ⊎ (Unit {0} × (late_if reply n ≡ n)) → reply ≡ None
free_none None n before = refl
free_none (Some u) n before = absurd (elim before [ inl lt ↦ omega (arith, lt) | inr same ↦ omega (arith, same.1) ])

timed_for : (n member place : ℕ) (logon : Logon) (messages : List MessageTaken) → HasFree member messages place logon → HasFor (Unit {0}) n member (map (timed n) messages) place logon
timed_for n member place logon [] one = absurd one
timed_for n member place logon (message ∷ messages) one = elim one [
  | inl is ↦ inl (record {
    same_member = is.same_member;
    same_place = is.same_place;
    same_logon = is.same_logon;
    link = is.link;
    before = inr (tt, ap (λ (reply : Option ℕ). late_if reply n) is.none);
  })
  | inr later ↦ inr (timed_for n member place logon messages later)
]

free_back : (n member place : ℕ) (logon : Logon) (messages new : List MessageTaken) → AllByRecursion (λ (message : MessageTaken). message.reply ≡ None) new →
    HasFor (Unit {0}) n member (map (timed n) messages ++ new) place logon → HasFree member (messages ++ new) place logon
free_back n member place logon [] new none one =
    one_with (λ (message : MessageTaken). message.reply ≡ None) (IsFor (Unit {0}) n member place logon) (IsFree member place logon) new
    (λ message free is. record { same_member = is.same_member; same_place = is.same_place; same_logon = is.same_logon; link = is.link; none = free }) none one
free_back n member place logon (message ∷ messages) new none one = elim one [
  | inl is ↦ inl (record {
    same_member = is.same_member;
    same_place = is.same_place;
    same_logon = is.same_logon;
    link = is.link;
    none = free_none message.reply n is.before;
  })
  | inr later ↦ inr (free_back n member place logon messages new none later)
]

pub bytes_free : (w : LinkAt) (m : MemberState) (piece : List ℕ) (now : ℕ) (left : List (List ℕ)) (messages : List MessageTaken) → LinksIn (λ (number : ℕ) (p : Phase). Any number) m.running →
    KeptIn (HasFree w.member messages) Any m.running →
    KeptIn (HasFree w.member (messages ++ flat_map (message_note w) (link_units m w.link piece now left))) Any (step_of m (event.Bytes w.link piece) now left).state.running
bytes_free w m piece now left messages links kept =
    let new : List MessageTaken = flat_map (message_note w) (link_units m w.link piece now left) in
    kept_so (HasFor (Unit {0}) w.at w.member (map (timed w.at) messages ++ new)) (HasFree w.member (messages ++ new)) Any Any
    (λ place logon. free_back w.at w.member place logon messages new (units_new w (link_units m w.link piece now left))) (λ number own. own) (step_of m (event.Bytes w.link piece) now left).state.running
    (bytes_keep Any Any w m piece now left (map (timed w.at) messages) links
    (kept_so (HasFree w.member messages) (HasFor (Unit {0}) w.at w.member (map (timed w.at) messages)) Any Any (λ place logon. timed_for w.at w.member place logon messages) (λ number own. own) m.running kept))

-- ---- the units that the turn takes

pub or_false : (one other : Bool) → (one || other) ≡ false → (one ≡ false) × (other ≡ false)
or_false false false is = (refl, refl)
or_false false true is = absurd (let x = is in cc)
or_false true other is = absurd (let x = is in cc)

-- what is written down of the turn of a member that takes a whole unit
pub record IsTurnNoted (controller : ℕ) (running : Running) (unit : RpcUnit) (carried number : Option ℕ) (before after : Book) : Type 0 where
  pub messages : after.messages ≡ noted (taking_note (Some (take_of running.logons.channel unit)) controller running.logons.channel) running.logons carried number before.messages
  pub clash : after.clash ≡ false →
      (before.clash ≡ false) × (clashes (taking_note (Some (take_of running.logons.channel unit)) controller running.logons.channel).checked carried before.sent ≡ false)

module _ (controller : ℕ) (at : AtTurn) (unit : RpcUnit) where
  clash_before : (before : List (ServedUnit AtTurn TurnTalk)) (last : ServedUnit AtTurn TurnTalk) (carried : Option ℕ) (numbers : List ℕ) (b : Book) →
      (note_turns controller (before ++ last ∷ []) carried numbers b).clash ≡ false → (b.clash ≡ false) × (clashes (turn_note controller last).checked carried b.sent ≡ false)
  clash_before [] last carried numbers b none = or_false b.clash (clashes (turn_note controller last).checked carried b.sent) none
  clash_before (served ∷ before) last carried numbers b none =
      let note : TurnNote = turn_note controller served in
      let later = clash_before before last carried (later_of note.sends numbers) (note_turn note served carried (first_of numbers) b) none in
      ((or_false b.clash (clashes note.checked carried b.sent) later.0).0, later.1)

  taken_clash : (left : List (List ℕ)) (units : List (ServedUnit AtTurn TurnTalk)) (carried : Option ℕ) (numbers : List ℕ) (b : Book) → TakesWhole at unit left units →
      (note_turns controller units carried numbers b).clash ≡ false → (b.clash ≡ false) × (clashes (note_for controller at unit).checked carried b.sent ≡ false)
  taken_clash left units carried numbers b whole none =
      let both = clash_before whole.before whole.last carried numbers b
      (subst (λ (all : List (ServedUnit AtTurn TurnTalk)). (note_turns controller all carried numbers b).clash ≡ false) whole.all none) in
      (both.0, subst (λ (note : TurnNote). clashes note.checked carried b.sent ≡ false) (last_noted controller at unit whole.last whole.work whole.takes) both.1)

pub turn_noted : (controller : ℕ) (running : Running) (number : ℕ) (bytes : List ℕ) (unit : RpcUnit) (left : List (List ℕ)) (carried : Option ℕ) (numbers : List ℕ) (b : Book) →
    HearsWhole running number bytes unit →
    IsTurnNoted controller running unit carried (first_of numbers) b (note_turns controller (turn_units_in (Some running) number bytes left) carried numbers b)
turn_noted controller running number bytes unit left carried numbers b hears =
    let at : AtTurn = at_turn number (work_of running) in
    let units : List (ServedUnit AtTurn TurnTalk) = turn_units_in (Some running) number bytes left in
    let whole : TakesWhole at unit left units = whole_units running number hears.said bytes hears.frames unit left hears.on hears.rest hears.none hears.heard in
    record {
      messages = whole_messages controller at unit left units carried numbers b whole;
      clash = taken_clash controller at unit left units carried numbers b whole;
    }

-- the answers that are written down of it
pub turn_answers : (controller : ℕ) (running : Running) (number : ℕ) (bytes : List ℕ) (unit : RpcUnit) (left : List (List ℕ)) (who : RequesterId) (n : ℕ) (carried : Option ℕ) (sent : List Sent) →
    HearsWhole running number bytes unit →
    flat_map (answers_by who n carried sent) (map (turn_note controller) (turn_units_in (Some running) number bytes left))
    ≡ answers_by who n carried sent (taking_note (Some (take_of running.logons.channel unit)) controller running.logons.channel)
turn_answers controller running number bytes unit left who n carried sent hears =
    whole_answers controller (at_turn number (work_of running)) unit who n carried sent left (turn_units_in (Some running) number bytes left)
    (whole_units running number hears.said bytes hears.frames unit left hears.on hears.rest hears.none hears.heard)

-- ---- which answer is written down

asked_none : (s : Option Step) (how : Standing) (controller : ℕ) (before after : Requester) → (asked_note s how controller before after).answered ≡ None
asked_none None how controller before after = refl
asked_none (Some (step.Bind c)) how controller before after = refl
asked_none (Some (step.Reply (question.Challenge client))) how controller before after = refl
asked_none (Some (step.Reply question.Authenticate)) standing.Nothing controller before after = refl
asked_none (Some (step.Reply question.Authenticate)) (standing.Half client server) controller before after = refl
asked_none (Some (step.Reply question.Authenticate)) (standing.Open o) controller before after = refl
asked_none (Some (step.Reply question.Logon)) standing.Nothing controller before after = refl
asked_none (Some (step.Reply question.Logon)) (standing.Half client server) controller before after = refl
asked_none (Some (step.Reply question.Logon)) (standing.Open o) controller before after = refl
asked_none (Some (step.Set (set_step.Bind c))) how controller before after = refl
asked_none (Some (step.Set set_step.Reply)) standing.Nothing controller before after = refl
asked_none (Some (step.Set set_step.Reply)) (standing.Half client server) controller before after = refl
asked_none (Some (step.Set set_step.Reply)) (standing.Open o) controller before after = refl

pub answered_is : (t : Taken) (controller : ℕ) (before after : Requester) → (taken_note t controller before after).answered ≡ place_answered t
answered_is (taken.Skip right) controller before after = refl
answered_is (taken.Next right frames) controller before after = asked_none _ after.standing controller before after
answered_is taken.Half controller before after = refl
answered_is taken.Opened controller before after = refl
answered_is (taken.Answer place verdict) controller before after = refl
answered_is (taken.Dropped place cause) controller before after = refl
answered_is taken.Set controller before after = refl

asked_no_reply : (s : Option Step) (how : Standing) (controller : ℕ) (before after : Requester) → (asked_note s how controller before after).replied ≡ None
asked_no_reply None how controller before after = refl
asked_no_reply (Some (step.Bind c)) how controller before after = refl
asked_no_reply (Some (step.Reply (question.Challenge client))) how controller before after = refl
asked_no_reply (Some (step.Reply question.Authenticate)) standing.Nothing controller before after = refl
asked_no_reply (Some (step.Reply question.Authenticate)) (standing.Half client server) controller before after = refl
asked_no_reply (Some (step.Reply question.Authenticate)) (standing.Open o) controller before after = refl
asked_no_reply (Some (step.Reply question.Logon)) standing.Nothing controller before after = refl
asked_no_reply (Some (step.Reply question.Logon)) (standing.Half client server) controller before after = refl
asked_no_reply (Some (step.Reply question.Logon)) (standing.Open o) controller before after = refl
asked_no_reply (Some (step.Set (set_step.Bind c))) how controller before after = refl
asked_no_reply (Some (step.Set set_step.Reply)) standing.Nothing controller before after = refl
asked_no_reply (Some (step.Set set_step.Reply)) (standing.Half client server) controller before after = refl
asked_no_reply (Some (step.Set set_step.Reply)) (standing.Open o) controller before after = refl

-- an answer was taken, of a logon or of a call that sets a secret
abbrev pub is_answer : Taken → Bool
is_answer (taken.Skip right) = false
is_answer (taken.Next right frames) = false
is_answer taken.Half = false
is_answer taken.Opened = false
is_answer (taken.Answer place verdict) = true
is_answer (taken.Dropped place cause) = false
is_answer taken.Set = true

-- what is none answers no call
no_reply : (t : Taken) (controller : ℕ) (before after : Requester) → is_answer t ≡ false → (taken_note t controller before after).replied ≡ None
no_reply (taken.Skip right) controller before after none = refl
no_reply (taken.Next right frames) controller before after none = asked_no_reply _ after.standing controller before after
no_reply taken.Half controller before after none = refl
no_reply taken.Opened controller before after none = refl
no_reply (taken.Answer place verdict) controller before after none = absurd (let x = none in cc)
no_reply (taken.Dropped place cause) controller before after none = refl
no_reply taken.Set controller before after none = absurd (let x = none in cc)

none_on : (checked : Option ChannelIdentity) (who : RequesterId) (at : ℕ) (unit : Option ℕ) (sent : List Sent) → answer_on_channel checked None who at unit sent ≡ []
none_on None who at unit sent = refl
none_on (Some channel) who at unit sent = refl

pub none_taken : (t : Taken) (controller : ℕ) (before after : Requester) (who : RequesterId) (at : ℕ) (unit : Option ℕ) (sent : List Sent) → is_answer t ≡ false →
    answers_by who at unit sent (taken_note t controller before after) ≡ []
none_taken t controller before after who at unit sent none =
    ap (λ (replied : Option ℕ). answer_on_channel (taken_note t controller before after).checked replied who at unit sent) (no_reply t controller before after none)
    ∙ none_on (taken_note t controller before after).checked who at unit sent

-- ---- no clash: the unit was made for that channel

pub record IsMadeFor (channel : ChannelIdentity) (unit : ℕ) (units : List Sent) : Type 0 where
  pub sent : Sent
  pub noted : slice_get units unit ≡ Some sent
  pub named : ChannelIdentity
  pub made : sent_channel (Some sent) ≡ Some named
  pub same : SameChannel named channel

not_false : (flag : Bool) → not flag ≡ false → flag ≡ true
not_false true is = refl
not_false false is = let x = is in cc

made_by : (channel named : ChannelIdentity) → is_channel (Some named) channel ≡ true → SameChannel named channel
made_by channel named is = (same_channel-Decides named channel).0 is

made_for : (channel : ChannelIdentity) (unit : ℕ) (units : List Sent) (sent : Sent) (named : Option ChannelIdentity) → slice_get units unit ≡ Some sent → sent_channel (Some sent) ≡ named → is_channel named channel ≡ true →
    IsMadeFor channel unit units
made_for channel unit units sent None there made is = let x = is in cc
made_for channel unit units sent (Some named) there made is = record { sent = sent; noted = there; named = named; made = made; same = made_by channel named is }

found_for : (channel : ChannelIdentity) (unit : ℕ) (units : List Sent) (found : Option Sent) → slice_get units unit ≡ found → is_channel (sent_channel found) channel ≡ true → IsMadeFor channel unit units
found_for channel unit units None there is = let x = is in cc
found_for channel unit units (Some sent) there is = made_for channel unit units sent (sent_channel (Some sent)) there refl is

pub unclashed : (channel : ChannelIdentity) (unit : ℕ) (units : List Sent) → clashes (Some channel) (Some unit) units ≡ false → IsMadeFor channel unit units
unclashed channel unit units none = found_for channel unit units (slice_get units unit) refl (not_false (is_channel (sent_channel (slice_get units unit)) channel) none)

-- ---- messages that are changed: those on one link

module _ (link : ℕ) (change : MessageTaken → MessageTaken) (P Q : MessageTaken → Type 0) (here : (message : MessageTaken) → message.link ≡ link → P message → Q (change message))
    (other : (message : MessageTaken) → (message.link ≡ link → ⊥) → P message → Q message) where
  if_changed : (hit : Bool) (message : MessageTaken) → (message.link == link) ≡ hit → P message → Q (change_if hit change message)
  if_changed true message is fits = here message (eqb-true message.link link is) fits
  if_changed false message is fits = other message (λ same. let both : true ≡ false = sym ((Decides-eqb message.link link).1 same) ∙ is in absurd (let x = both in cc)) fits

  pub each_changed : (messages : List MessageTaken) → AllByRecursion P messages → AllByRecursion Q (change_message (Some link) change messages)
  each_changed [] all = tt
  each_changed (message ∷ messages) all = (if_changed (message.link == link) message refl all.0, each_changed messages all.1)

  pub one_changed : (messages : List MessageTaken) → OneOf P messages → OneOf Q (change_message (Some link) change messages)
  one_changed [] one = absurd one
  one_changed (message ∷ messages) one = elim one [
    | inl fits ↦ inl (if_changed (message.link == link) message refl fits)
    | inr later ↦ inr (one_changed messages later)
  ]

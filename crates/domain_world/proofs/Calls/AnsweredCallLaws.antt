-- A message whose answer was taken has a call: a member takes an answer in a turn whose call is out, and one of the
-- messages on the link of the turn's logon has that call. It serves `Proved.have_calls`.
use Rattle.std.proofs.Common.{◌≡◌, ◌⊎◌, ℕ, ◌==◌, Bool, true, false, List, [], ◌∷◌, ◌++◌, map, inl, inr, Option, Some, None, refl, sym, ap, ◌∙◌, subst}
use Rattle.std.specs.List.{AllByRecursion}
use Rattle.std.proofs.lemmas.Bool.{eqb-true}
use Rattle.wire_base.specs.Maps.{lookup, same_number}
use Rattle.rpc_units.specs.declared.unit.Unit.{Unit as RpcUnit}
use Rattle.channel_client.specs.declared.state.SetStep.TheVariants as set_step
use Rattle.channel_client.specs.Machine.{take_of}
use Rattle.channel_client.specs.State.{Requester}
use Rattle.channel_client.specs.declared.answers.Taken.{Taken}
use Rattle.channel_client.specs.declared.answers.Taken.TheVariants as taken
use Rattle.logon_stubs.specs.declared.info.Verdict.{Verdict}
use Rattle.channel_client.specs.declared.state.Pending.{Pending}
use Rattle.channel_client.specs.declared.state.Question.TheVariants as question
use Rattle.channel_client.specs.declared.state.Standing.{Standing}
use Rattle.channel_client.specs.declared.state.Standing.TheVariants as standing
use Rattle.channel_client.specs.declared.state.Step.{Step}
use Rattle.channel_client.specs.declared.state.Step.TheVariants as step
use Rattle.wire_base.specs.Lists.{OneOf}
use Rattle.wire_base.proofs.ListLaws.{all_weaker, some_is}
use Rattle.member_server.specs.declared.state.Logon.{Logon}
use Rattle.member_server.specs.declared.state.Logons.{Logons}
use Rattle.member_server.specs.declared.state.Running.{Running}
use Rattle.step_notes.specs.ChannelNames.{place_answered}
use Rattle.step_notes.specs.MemberNotes.{TurnNote, asked_note, link_of_logon, link_of_place, taken_note, taking_note}
use Rattle.step_notes.specs.Records.{MessageTaken}
use Rattle.step_notes.proofs.Members.KeptLogonLaws.{one_before}
use Rattle.domain_world.specs.Past.{change_if, change_message, with_answer, with_call}
use Rattle.domain_world.proofs.Acceptance.Heard.AnswerReadLaws.{IsAnswerOf, answer_is}
use Rattle.domain_world.proofs.Messages.MessageNoteLaws.{changed}
use Rattle.domain_world.proofs.Acceptance.Turns.TurnNotedLaws.{answered_is}
use Rattle.wire_base.proofs.AllLaws.{all_join}
use Rattle.domain_world.proofs.Calls.OutStepLaws.{OutBy}
use Rattle.domain_world.proofs.Calls.WholeOutLaws.{changed_all, noted}

-- ---- what is to hold

-- the message came on that link and has a call
abbrev pub IsCalledOn : ℕ → MessageTaken → Type 0
IsCalledOn link message = (message.link ≡ link) × (n : ℕ) × (message.call ≡ Some n)

-- where the answer of a message was taken, one of those messages on its link has a call
abbrev pub IfAnswered : List MessageTaken → MessageTaken → Type 0
IfAnswered messages message = (u : ℕ) → message.reply ≡ Some u → OneOf (IsCalledOn message.link) messages

abbrev pub AreCalled : List MessageTaken → Type 0
AreCalled messages = AllByRecursion (IfAnswered messages) messages

-- where the turn waits for the answer to a Logon call, one of the messages on the link of its logon has a call
abbrev pub HasCalled : List MessageTaken → Pending → Logon → Requester → Type 0
HasCalled messages pending logon c = OneOf (IsCalledOn logon.link) messages

abbrev pub CalledAt : List MessageTaken → Logons → Type 0
CalledAt messages logons =
    (pending : Pending) (logon : Logon) → logons.channel.turn ≡ Some pending → pending.step ≡ step.Reply question.Logon →
    lookup same_number pending.place logons.asked ≡ Some logon → HasCalled messages pending logon logons.channel

abbrev pub CalledFor : List MessageTaken → Option Running → Type 0
CalledFor messages r = OutBy (HasCalled messages) r

-- the call that a unit comes to, if it comes to one, has a number
abbrev pub GoesNumbered : TurnNote → Option ℕ → Type 0
GoesNumbered note number = (note.called ≡ None) ⊎ ((request : ℕ) × (number ≡ Some request))

-- ---- it stays

no_reply : (reply : Option ℕ) (u : ℕ) → reply ≡ None → reply ≡ Some u → ⊥
no_reply reply u none is = let both : None ≡ Some u = sym none ∙ is in absurd (let x = both in cc)

-- messages that are new have no answer
pub called_more : (messages new : List MessageTaken) → AllByRecursion (λ (message : MessageTaken). message.reply ≡ None) new → AreCalled messages → AreCalled (messages ++ new)
called_more messages new free called =
    all_join (IfAnswered (messages ++ new)) messages new
    (all_weaker (IfAnswered messages) (IfAnswered (messages ++ new)) messages (λ message if_answered u reply. one_before (IsCalledOn message.link) messages new (if_answered u reply)) called)
    (all_weaker (λ (message : MessageTaken). message.reply ≡ None) (IfAnswered (messages ++ new)) new (λ message none u reply. absurd (no_reply message.reply u none reply)) free)

-- a call is written down
call_kept : (link request : ℕ) (found : Option ℕ) (messages : List MessageTaken) → OneOf (IsCalledOn link) messages →
    OneOf (IsCalledOn link) (change_message found (with_call (Some request)) messages)
call_kept link request found messages one = changed (IsCalledOn link) found (with_call (Some request)) (λ message is. (is.0, request, refl)) messages one

with_calls : (request : ℕ) (found : Option ℕ) (messages : List MessageTaken) → AreCalled messages → AreCalled (change_message found (with_call (Some request)) messages)
with_calls request found messages called =
    let after : List MessageTaken = change_message found (with_call (Some request)) messages in
    changed_all (IfAnswered after) (with_call (Some request)) (λ message is. is) messages
    (all_weaker (IfAnswered messages) (IfAnswered after) messages (λ message if_answered u reply. call_kept message.link request found messages (if_answered u reply)) called) found

-- an answer is
module _ (carried : Option ℕ) (link : ℕ) (after : List MessageTaken) (has : OneOf (IsCalledOn link) after) where
  answered_if : (hit : Bool) (message : MessageTaken) → (message.link == link) ≡ hit → IfAnswered after message → IfAnswered after (change_if hit (with_answer carried) message)
  answered_if false message is if_answered = if_answered
  answered_if true message is if_answered = λ u reply. subst (λ (l : ℕ). OneOf (IsCalledOn l) after) (sym (eqb-true message.link link is)) has

  all_answered : (messages : List MessageTaken) → AllByRecursion (IfAnswered after) messages →
      AllByRecursion (IfAnswered after) (map (λ (message : MessageTaken). change_if (message.link == link) (with_answer carried) message) messages)
  all_answered [] all = tt
  all_answered (message ∷ messages) all = (answered_if (message.link == link) message refl all.0, all_answered messages all.1)

with_answers : (carried found : Option ℕ) (messages : List MessageTaken) → ((link : ℕ) → found ≡ Some link → OneOf (IsCalledOn link) messages) → AreCalled messages →
    AreCalled (change_message found (with_answer carried) messages)
with_answers carried None messages has called = called
with_answers carried (Some link) messages has called =
    let after : List MessageTaken = change_message (Some link) (with_answer carried) messages in
    let kept : (l : ℕ) → OneOf (IsCalledOn l) messages → OneOf (IsCalledOn l) after = λ l one. changed (IsCalledOn l) (Some link) (with_answer carried) (λ message is. is) messages one in
    all_answered carried link after (kept link (has link refl)) messages
    (all_weaker (IfAnswered messages) (IfAnswered after) messages (λ message if_answered u reply. kept message.link (if_answered u reply)) called)

-- what is written down of a unit that the turn took: a call that goes out has its number
pub noted_called : (note : TurnNote) (logons : Logons) (carried number : Option ℕ) (messages : List MessageTaken) → GoesNumbered note number →
    ((link : ℕ) → link_of_place note.answered logons ≡ Some link → OneOf (IsCalledOn link) messages) → AreCalled messages → AreCalled (noted note logons carried number messages)
noted_called note logons carried number messages goes has called = elim goes [
  | inl none ↦
      subst (λ (place : Option ℕ). AreCalled (change_message (link_of_place note.answered logons) (with_answer carried) (change_message (link_of_place place logons) (with_call number) messages))) (sym none)
      (with_answers carried (link_of_place note.answered logons) messages has called)
  | inr out ↦
      let found : Option ℕ = link_of_place note.called logons in
      subst (λ (n : Option ℕ). AreCalled (change_message (link_of_place note.answered logons) (with_answer carried) (change_message found (with_call n) messages))) (sym out.1)
      (with_answers carried (link_of_place note.answered logons) (change_message found (with_call (Some out.0)) messages) (λ link is. call_kept link out.0 found messages (has link is))
      (with_calls out.0 found messages called))
]

-- a message that has a call keeps one
pub noted_stays : (link : ℕ) (note : TurnNote) (logons : Logons) (carried number : Option ℕ) (messages : List MessageTaken) → GoesNumbered note number → OneOf (IsCalledOn link) messages →
    OneOf (IsCalledOn link) (noted note logons carried number messages)
noted_stays link note logons carried number messages goes one = elim goes [
  | inl none ↦
      subst (λ (place : Option ℕ). OneOf (IsCalledOn link) (change_message (link_of_place note.answered logons) (with_answer carried) (change_message (link_of_place place logons) (with_call number) messages)))
      (sym none) (changed (IsCalledOn link) (link_of_place note.answered logons) (with_answer carried) (λ message is. is) messages one)
  | inr out ↦
      let found : Option ℕ = link_of_place note.called logons in
      subst (λ (n : Option ℕ). OneOf (IsCalledOn link) (change_message (link_of_place note.answered logons) (with_answer carried) (change_message found (with_call n) messages))) (sym out.1)
      (changed (IsCalledOn link) (link_of_place note.answered logons) (with_answer carried) (λ message is. is) (change_message found (with_call (Some out.0)) messages)
      (call_kept link out.0 found messages one))
]

-- ---- what a unit is taken for

-- a call that is written down goes out
asked_sends : (asked : Option Step) (how : Standing) (controller : ℕ) (before after : Requester) → (asked_note asked how controller before after).sends ≡ true
asked_sends None how controller before after = refl
asked_sends (Some (step.Bind c)) how controller before after = refl
asked_sends (Some (step.Reply (question.Challenge client))) how controller before after = refl
asked_sends (Some (step.Reply question.Authenticate)) standing.Nothing controller before after = refl
asked_sends (Some (step.Reply question.Authenticate)) (standing.Half client server) controller before after = refl
asked_sends (Some (step.Reply question.Authenticate)) (standing.Open o) controller before after = refl
asked_sends (Some (step.Reply question.Logon)) standing.Nothing controller before after = refl
asked_sends (Some (step.Reply question.Logon)) (standing.Half client server) controller before after = refl
asked_sends (Some (step.Reply question.Logon)) (standing.Open o) controller before after = refl
asked_sends (Some (step.Set (set_step.Bind c))) how controller before after = refl
asked_sends (Some (step.Set set_step.Reply)) standing.Nothing controller before after = refl
asked_sends (Some (step.Set set_step.Reply)) (standing.Half client server) controller before after = refl
asked_sends (Some (step.Set set_step.Reply)) (standing.Open o) controller before after = refl

pub calls_go_out : (t : Taken) (controller : ℕ) (before after : Requester) → ((taken_note t controller before after).called ≡ None) ⊎ ((taken_note t controller before after).sends ≡ true)
calls_go_out (taken.Skip right) controller before after = inl refl
calls_go_out (taken.Next right frames) controller before after = inr (asked_sends _ after.standing controller before after)
calls_go_out taken.Half controller before after = inl refl
calls_go_out taken.Opened controller before after = inl refl
calls_go_out (taken.Answer place verdict) controller before after = inl refl
calls_go_out (taken.Dropped place cause) controller before after = inl refl
calls_go_out taken.Set controller before after = inl refl

-- an answer, or none
taken_cases : (t : Taken) → ((place : ℕ) × (v : Verdict) × (t ≡ taken.Answer place v)) ⊎ (place_answered t ≡ None)
taken_cases (taken.Skip right) = inr refl
taken_cases (taken.Next right frames) = inr refl
taken_cases taken.Half = inr refl
taken_cases taken.Opened = inr refl
taken_cases (taken.Answer place v) = inl (place, v, refl)
taken_cases (taken.Dropped place cause) = inr refl
taken_cases taken.Set = inr refl

module _ (messages : List MessageTaken) (controller : ℕ) (logons : Logons) (unit : RpcUnit) (out : CalledAt messages logons) where
  abbrev c : Requester
  c = logons.channel

  logon_called : (place : ℕ) (v : Verdict) (found : Option Logon) (link : ℕ) → (take_of c unit).taken ≡ taken.Answer place v → lookup same_number place logons.asked ≡ found →
      link_of_logon found ≡ Some link → OneOf (IsCalledOn link) messages
  logon_called place v None link takes there is = absurd (let x = is in cc)
  logon_called place v (Some logon) link takes there is =
      let its : IsAnswerOf c unit place v = answer_is c unit place v takes in
      subst (λ (l : ℕ). OneOf (IsCalledOn l) messages) (some_is logon.link link is)
      (out its.pending logon its.turn its.asked (subst (λ (n : ℕ). lookup same_number n logons.asked ≡ Some logon) its.same_place there))

  -- the logon whose answer is taken has its call out
  pub answer_called : (link : ℕ) → link_of_place (taking_note (Some (take_of c unit)) controller c).answered logons ≡ Some link → OneOf (IsCalledOn link) messages
  answer_called link is =
      let place_is : link_of_place (place_answered (take_of c unit).taken) logons ≡ Some link =
      ap (λ (place : Option ℕ). link_of_place place logons) (sym (answered_is (take_of c unit).taken controller c (take_of c unit).state)) ∙ is in
      elim (taken_cases (take_of c unit).taken) [
        | inl answer ↦
            logon_called answer.0 answer.1 (lookup same_number answer.0 logons.asked) link answer.2 refl
            (ap (λ (t : Taken). link_of_place (place_answered t) logons) (sym answer.2) ∙ place_is)
        | inr none ↦ absurd (let never : None ≡ Some link = ap (λ (place : Option ℕ). link_of_place place logons) (sym none) ∙ place_is in let x = never in cc)
      ]

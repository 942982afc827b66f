-- Where a whole unit comes on the link of a member's turn: a call that goes out is on the channel that stands, and the
-- answer that is taken is to the call of that channel that has the number of the turn. It serves
-- `Proved.sequences`.
use Rattle.std.proofs.Common.{◌≡◌, ℕ, List, Option, Some, slice_get, refl, sym, ap, subst, ◌∙◌, Ok, Err, ◌⊎◌, inl, inr, None}
use Rattle.authenticators.specs.Channels.{ChannelIdentity, SameChannel}
use Rattle.authenticators.specs.SecureChannels.{channel_of}
use Rattle.outside.specs.Machine.{Part}
use Rattle.rpc_units.specs.declared.unit.Unit.{Unit as RpcUnit}
use Rattle.channel_client.specs.declared.hearing.SetHearing.TheVariants as set_hearing
use Rattle.channel_client.specs.declared.state.SetStep.TheVariants as set_step
use Rattle.channel_client.specs.Effects.{asking_in, number_in, stands_in, step_in, view_of}
use Rattle.channel_client.specs.Machine.{act, hear, judge, settle, take_of, SetOutcome, judge_set, settle_set}
use Rattle.channel_client.specs.State.{Requester}
use Rattle.channel_client.specs.declared.answers.Taken.{Taken}
use Rattle.channel_client.specs.declared.answers.Taken.TheVariants as taken
use Rattle.channel_client.specs.declared.hearing.Hearing.{Hearing}
use Rattle.channel_client.specs.declared.hearing.Hearing.TheVariants as hearing
use Rattle.channel_client.specs.declared.judging.Judgement.{Judgement}
use Rattle.channel_client.specs.declared.judging.Judgement.TheVariants as judgement
use Rattle.channel_client.specs.declared.state.Pending.{Pending}
use Rattle.channel_client.specs.declared.state.Question.{Question}
use Rattle.channel_client.specs.declared.state.Question.TheVariants as question
use Rattle.channel_client.specs.declared.state.Standing.{Standing}
use Rattle.channel_client.specs.declared.state.Standing.TheVariants as standing
use Rattle.channel_client.specs.declared.state.Step.TheVariants as step
use Rattle.logon_stubs.specs.declared.info.Verdict.{Verdict}
use Rattle.channel_events.specs.Marks.{Calling}
use Rattle.wire_base.proofs.ListLaws.{some_is}
use Rattle.channel_events.proofs.SameLaws.{same_self}
use Rattle.member_server.specs.Turns.{DialWork}
use Rattle.member_server.specs.declared.state.Running.{Running}
use Rattle.step_notes.specs.ChannelNames.{passed_note, place_answered, standing_channel}
use Rattle.step_notes.specs.MemberNotes.{asked_note, taking_note}
use Rattle.step_notes.specs.Records.{Book, MessageTaken, OfMember, Sent}
use Rattle.step_notes.proofs.Channels.ChannelNameLaws.{channels_are_named_alike}
use Rattle.world_moves.specs.declared.plan.Plan.{Plan}
use Rattle.world_moves.specs.declared.state.State.{State}
use Rattle.domain_world.specs.Accepting.Sequences.{IsTakenFor}
use Rattle.domain_world.proofs.Acceptance.Heard.AnswerReadLaws.{IsReplyRead, answer_is, logon_read, set_answer_is, set_read}
use Rattle.domain_world.proofs.Acceptance.Turns.TurnFactLaws.{past_at}
use Rattle.domain_world.specs.Accepting.Carried.{IsTakenInTurn}
use Rattle.domain_world.proofs.Acceptance.Turns.TurnWholeLaws.{ComesWhole, in_turn}
use Rattle.domain_world.proofs.Moves.MarkPlaceLaws.{got_map}
use Rattle.domain_world.proofs.Calls.CallHoldsLaws.{marks_in}
use Rattle.domain_world.proofs.Sequences.CallTakenLaws.{IsAnswer}

-- ---- a call that goes out

module _ (controller : ℕ) (s : Requester) (c : ChannelIdentity) (number timestamp : ℕ) where
  abbrev Stands : Type 0
  Stands = stands_in controller s.caller.computer s.standing ≡ Some c

  asked_by : (q : Question) (frames : List (List ℕ)) (how : Standing) → s.standing ≡ how →
      (asked_note (Some (step.Reply q)) how controller s (act (hearing.Next q frames) s).state).mark ≡ Calling c number timestamp → Stands
  asked_by (question.Challenge client) frames how is mark = absurd (let x = mark in cc)
  asked_by question.Authenticate frames standing.Nothing is mark = absurd (let x = mark in cc)
  asked_by question.Authenticate frames (standing.Half client server) is mark = absurd (let x = mark in cc)
  asked_by question.Authenticate frames (standing.Open o) is mark = absurd (let x = mark in cc)
  asked_by question.Logon frames standing.Nothing is mark = absurd (let x = mark in cc)
  asked_by question.Logon frames (standing.Half client server) is mark = absurd (let x = mark in cc)
  asked_by question.Logon frames (standing.Open o) is mark =
      let same : channel_of controller s.caller.computer o ≡ c = (let x = mark in cc) in
      ap (λ (how : Standing). stands_in controller s.caller.computer how) is ∙ ap (λ (x : ChannelIdentity). Some x) same

  settled_by : (j : Judgement) → (taking_note (Some (settle j s)) controller s).mark ≡ Calling c number timestamp → Stands
  settled_by (judgement.Half client server) mark = absurd (let x = mark in cc)
  settled_by (judgement.Opened o) mark = absurd (let x = mark in cc)
  settled_by (judgement.Answer o v) mark = absurd (let x = mark in cc)
  settled_by (judgement.Drop cause) mark = absurd (let x = mark in cc)

  set_by : (frames : List (List ℕ)) (how : Standing) → s.standing ≡ how →
      (asked_note (Some (step.Set set_step.Reply)) how controller s (act (hearing.Set (set_hearing.Next frames)) s).state).mark ≡ Calling c number timestamp → Stands
  set_by frames standing.Nothing is mark = absurd (let x = mark in cc)
  set_by frames (standing.Half client server) is mark = absurd (let x = mark in cc)
  set_by frames (standing.Open o) is mark =
      let same : channel_of controller s.caller.computer o ≡ c = (let x = mark in cc) in
      ap (λ (how : Standing). stands_in controller s.caller.computer how) is ∙ ap (λ (x : ChannelIdentity). Some x) same

  set_settled_by : (judged : SetOutcome) → (taking_note (Some (settle_set judged s)) controller s).mark ≡ Calling c number timestamp → Stands
  set_settled_by (Ok o) mark = absurd (let x = mark in cc)
  set_settled_by (Err cause) mark = absurd (let x = mark in cc)

  acted_by : (h : Hearing) → (taking_note (Some (act h s)) controller s).mark ≡ Calling c number timestamp → Stands
  acted_by hearing.Skip mark = absurd (let x = mark in cc)
  acted_by (hearing.Next q frames) mark = asked_by q frames s.standing refl mark
  acted_by (hearing.Reply q r) mark = settled_by (judge q r s.standing s.caller.secret) mark
  acted_by (hearing.Drop cause) mark = absurd (let x = mark in cc)
  acted_by (hearing.Set (set_hearing.Next frames)) mark = set_by frames s.standing refl mark
  acted_by (hearing.Set (set_hearing.Reply r)) mark = set_settled_by (judge_set r s.standing) mark

  -- a call that goes out is on the channel that stands
  pub called_on : (unit : RpcUnit) → (taking_note (Some (take_of s unit)) controller s).mark ≡ Calling c number timestamp → Stands
  called_on unit mark = acted_by (hear s.turn unit s.next_call) mark

-- ---- an answer that is taken

record AnswersPlace (t : Taken) : Type 0 where
  place : ℕ
  verdict : Verdict
  is : t ≡ taken.Answer place verdict

answer_of : (t : Taken) → IsAnswer t → AnswersPlace t ⊎ (t ≡ taken.Set)
answer_of (taken.Skip right) is = absurd is
answer_of (taken.Next right frames) is = absurd is
answer_of taken.Half is = absurd is
answer_of taken.Opened is = absurd is
answer_of (taken.Answer place v) is = inl (record { place = place; verdict = v; is = refl })
answer_of (taken.Dropped place cause) is = absurd is
answer_of taken.Set is = inr refl

module _ (plan : Plan) (k number u : ℕ) (s t : State) (b d : Book) (messages : List MessageTaken) (running : Running) (bytes : List ℕ) (unit : RpcUnit) (controller now : ℕ) (left : List (List ℕ))
    (part : Part DialWork) (comes : ComesWhole plan k number u s t b d messages running bytes unit controller now left part) where
  abbrev c : Requester
  c = running.logons.channel

  -- the call is answered by the unit
  abbrev pub TakenNow : ℕ → Type 0
  TakenNow call = IsTakenInTurn (past_at plan t d) (record { at = 0; requester = OfMember k; call = call; reply = u })

  -- by the reply that is read
  read_for : (its : IsReplyRead c unit) (of : Option ℕ) (on : ChannelIdentity) → standing_channel controller c ≡ Some on →
      taking_note (Some (take_of c unit)) controller c ≡ passed_note on of (Some (number_in c.turn)) → (channel : ChannelIdentity) (called : ℕ) → (view_of controller c).stands ≡ Some channel →
      (view_of controller c).asking ≡ Some called → (n timestamp : ℕ) → slice_get (marks_in b.sent) n ≡ Some (Calling channel called timestamp) → TakenNow n
  read_for its of on is_on is_note channel called stands asking n timestamp there =
      let asked : (view_of controller c).asking ≡ Some its.pending.number =
      ap (λ (how : Standing). asking_in how (step_in c.turn) (number_in c.turn)) its.stands
      ∙ ap (λ (turn : Option Pending). asking_in (standing.Open its.stood) (step_in turn) (number_in turn)) its.turn
      ∙ its.asks in
      let same : called ≡ its.pending.number = some_is called its.pending.number (sym asking ∙ asked) in
      let one : on ≡ channel = some_is on channel (sym is_on ∙ stands) in
      let out = got_map (λ (sent : Sent). sent.mark) b.sent n (Calling channel called timestamp) there in
      in_turn plan k number u s t b d messages running bytes unit controller now left part comes its of on is_on is_note 0 n timestamp out.0 channel out.1
      (out.2 ∙ ap (λ (i : ℕ). Calling channel i timestamp) same) (subst (λ (x : ChannelIdentity). SameChannel channel x) (sym one) (same_self channel))

  -- the call that is asked on the channel that stands has its answer
  pub turn_for : (channel : ChannelIdentity) (called : ℕ) → IsAnswer (take_of c unit).taken → (view_of controller c).stands ≡ Some channel → (view_of controller c).asking ≡ Some called → (n timestamp : ℕ) →
      slice_get (marks_in b.sent) n ≡ Some (Calling channel called timestamp) → TakenNow n
  turn_for channel called is stands asking n timestamp there = elim (answer_of (take_of c unit).taken is) [
    | inl answer ↦
        (let takes = channels_are_named_alike.calls.takes controller c unit answer.place (ap place_answered answer.is) in
        read_for (logon_read c unit answer.place answer.verdict (answer_is c unit answer.place answer.verdict answer.is)) (Some answer.place) takes.0 takes.1 takes.3 channel called stands asking n timestamp there)
    | inr set ↦
        (let sets = channels_are_named_alike.calls.sets controller c unit set in
        read_for (set_read c unit (set_answer_is c unit set)) None sets.0 sets.1 sets.3 channel called stands asking n timestamp there)
  ]

  pub taken_for : (channel : ChannelIdentity) (called : ℕ) → IsAnswer (take_of c unit).taken → (view_of controller c).stands ≡ Some channel → (view_of controller c).asking ≡ Some called → (n timestamp : ℕ) →
      slice_get (marks_in b.sent) n ≡ Some (Calling channel called timestamp) → IsTakenFor (past_at plan t d) n
  taken_for channel called is stands asking n timestamp there =
      record { taken = record { at = 0; requester = OfMember k; call = n; reply = u }; call = refl; turn = turn_for channel called is stands asking n timestamp there }

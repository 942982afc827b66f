-- What the call that a member sends sets: a Logon call sets no secret, and a call that sets one sets the next of the
-- member's secrets. It serves `Proved.never_apart`.
use Rattle.std.proofs.Common.{◌≡◌, ℕ, ◌≤◌, List, Option, Some, None, Ok, Err, refl, sym, ap, subst, ◌∙◌}
use Rattle.authenticators.specs.Channels.{ChannelIdentity}
use Rattle.authenticators.specs.SecureChannels.{channel_of, key_of_channel}
use Rattle.rpc_units.specs.declared.unit.Unit.{Unit as RpcUnit}
use Rattle.end_links.specs.Sending.{frames_of, joined_frames, request_of}
use Rattle.logon_stubs.specs.Calls.{opnum_of_call}
use Rattle.logon_stubs.specs.Writing.{written_call}
use Rattle.logon_stubs.specs.declared.calls.Call.{Call}
use Rattle.secret_change.specs.Calls.{set_opnum, written_set_call}
use Rattle.secret_change.specs.Hiding.{show_of}
use Rattle.secret_change.specs.Secrets.{AreSecrets, IsNextSecret, IsSecret, SecretsState, next_of}
use Rattle.secret_change.specs.declared.calls.SetCall.{SetCall}
use Rattle.secret_change.specs.declared.secrets.Next.{Next}
use Rattle.secret_change.proofs.HideLaws.{hidden_is_shown}
use Rattle.channel_client.specs.Effects.{step_in}
use Rattle.channel_client.specs.Machine.{SetOutcome, act, hear, judge, judge_set, question_of, settle, settle_set, take_of}
use Rattle.channel_client.specs.State.{Requester}
use Rattle.channel_client.specs.Whole.{InRangeRequester}
use Rattle.channel_client.specs.declared.hearing.Hearing.{Hearing}
use Rattle.channel_client.specs.declared.hearing.Hearing.TheVariants as hearing
use Rattle.channel_client.specs.declared.hearing.SetHearing.TheVariants as set_hearing
use Rattle.channel_client.specs.declared.judging.Judgement.{Judgement}
use Rattle.channel_client.specs.declared.judging.Judgement.TheVariants as judgement
use Rattle.channel_client.specs.declared.state.Pending.{Pending}
use Rattle.channel_client.specs.declared.state.Question.{Question}
use Rattle.channel_client.specs.declared.state.Question.TheVariants as question
use Rattle.channel_client.specs.declared.state.SetStep.TheVariants as set_step
use Rattle.channel_client.specs.declared.state.Standing.{Standing}
use Rattle.channel_client.specs.declared.state.Standing.TheVariants as standing
use Rattle.channel_client.specs.declared.state.Step.TheVariants as step
use Rattle.controller_calls.specs.declared.calls.JudgedCall.{JudgedCall}
use Rattle.controller_calls.specs.declared.calls.JudgedCall.TheVariants.{Interactive, Logoff, Network, NetworkLogoff, Set}
use Rattle.member_server.specs.Trying.{IsSetIn, SetsNext, TriesSecrets}
use Rattle.channel_events.specs.Marks.{Calling, Mark, Opened, Opening, Plain, ReplyTo}
use Rattle.wire_base.proofs.ListLaws.{no_some, some_is}
use Rattle.step_notes.specs.MemberNotes.{TurnNote, asked_note, taking_note, timestamp_bound}
use Rattle.step_notes.proofs.Channels.ChannelNameLaws.{bound_at, set_bound_at}
use Rattle.step_notes.proofs.Members.TurnRequestLaws.{IsOfTurn, of_turn}
use Rattle.domain_world.specs.Accepting.Carried.{IsWholeUnit, call_carried, call_judged}
use Rattle.domain_world.proofs.Acceptance.Heard.MarkSentLaws.{FitsWell, IsCallSent, IsOut, MakesIn, NamesWell, asked_out, IsNoSet, its_set_out, no_set_out, set_out}
use Rattle.domain_world.proofs.Apart.TogetherAsksLaws.{sent_asks, set_by}

-- the secret that is next has 16 bytes
next_has : (next : Option Next) (current secret : List ℕ) → IsNextSecret next → next_of (record { current = current; next = next }) ≡ Some secret → IsSecret secret
next_has None current secret are is = absurd (no_some secret is)
next_has (Some n) current secret are is = subst IsSecret (some_is n.secret secret is) are

none_set : (channel : ChannelIdentity) (asked : JudgedCall) → IsNoSet asked → set_by channel asked ≡ None
none_set channel (Network c) none = refl
none_set channel (Interactive c) none = refl
none_set channel (Logoff c) none = refl
none_set channel (NetworkLogoff c) none = refl
none_set channel (Set c) none = absurd none

-- by the place whose Logon call goes out: that one sets none, and a call of no place the next secret
abbrev pub sets_at : Option ℕ → Option (List ℕ) → Option (List ℕ)
sets_at (Some place) next = None
sets_at None next = next

-- a call that is sent for a mark sets that secret, or none where it is None
abbrev pub SetsMark : Option (List ℕ) → Mark → List ℕ → Type 0
SetsMark secret Plain bytes = Unit {0}
SetsMark secret (Opening channel number) bytes = Unit {0}
SetsMark secret (Opened channel number request) bytes = Unit {0}
SetsMark secret (Calling channel number timestamp) bytes =
    (whole : IsWholeUnit bytes) (asked : JudgedCall) → call_carried whole.unit.body ≡ Some (call_judged asked) → set_by channel asked ≡ secret
SetsMark secret (ReplyTo channel number request) bytes = Unit {0}

module _ (controller : ℕ) (s : Requester) (range : InRangeRequester s) (well : NamesWell s) (secrets : SecretsState) (are : AreSecrets secrets) (tries : TriesSecrets s secrets) (bytes : List ℕ) where
  abbrev Sets : TurnNote → Type 0
  Sets note = SetsMark (sets_at note.called (next_of secrets)) note.mark bytes

  settled_sets : (j : Judgement) → Sets (taking_note (Some (settle j s)) controller s)
  settled_sets (judgement.Half client server) = tt
  settled_sets (judgement.Opened o) = tt
  settled_sets (judgement.Answer o v) = tt
  settled_sets (judgement.Drop cause) = tt

  set_settled_sets : (judged : SetOutcome) → Sets (taking_note (Some (settle_set judged s)) controller s)
  set_settled_sets (Ok o) = tt
  set_settled_sets (Err cause) = tt

  -- ---- a Logon call

  asked_sets : (q : Question) (how : Standing) (after : Requester) (number place : ℕ) (c : Call) (limit : ℕ) → s.turn ≡ bound_at number place c → 1432 ≤ limit → limit ≤ 5840 → q ≡ question_of c → s.standing ≡ how →
      after.caller ≡ s.caller → bytes ≡ joined_frames (frames_of (request_of s.next_call 0 (opnum_of_call c) (written_call c)) limit) →
      Sets (asked_note (Some (step.Reply q)) how controller s after)
  asked_sets (question.Challenge client) how after number place c limit turn least most asks stands same is = tt
  asked_sets question.Authenticate standing.Nothing after number place c limit turn least most asks stands same is = tt
  asked_sets question.Authenticate (standing.Half client server) after number place c limit turn least most asks stands same is = tt
  asked_sets question.Authenticate (standing.Open o) after number place c limit turn least most asks stands same is = tt
  asked_sets question.Logon standing.Nothing after number place c limit turn least most asks stands same is = tt
  asked_sets question.Logon (standing.Half client server) after number place c limit turn least most asks stands same is = tt
  asked_sets question.Logon (standing.Open o) after number place c limit turn least most asks stands same is =
      λ whole asked carried.
      let channel : ChannelIdentity = channel_of controller after.caller.computer o in
      let sent : IsCallSent channel s.next_call (timestamp_bound (step_in s.turn)) bytes =
      asked_out controller s range well bytes question.Logon (standing.Open o) after number place c limit turn least most asks stands same is in
      ap (set_by channel) (sym (sent_asks channel s.next_call (timestamp_bound (step_in s.turn)) bytes sent whole asked carried))
      ∙ none_set channel sent.stamped.asked (no_set_out controller s range well bytes o after number place c limit turn least most asks stands same is)

  -- ---- a call that sets a secret

  set_sets : (how : Standing) (after : Requester) (number place : ℕ) (c : SetCall) (limit : ℕ) → s.turn ≡ set_bound_at number place c → 1432 ≤ limit → limit ≤ 5840 → s.standing ≡ how →
      after.caller ≡ s.caller → bytes ≡ joined_frames (frames_of (request_of s.next_call 0 set_opnum (written_set_call c)) limit) →
      Sets (asked_note (Some (step.Set set_step.Reply)) how controller s after)
  set_sets standing.Nothing after number place c limit turn least most stands same is = tt
  set_sets (standing.Half client server) after number place c limit turn least most stands same is = tt
  set_sets (standing.Open o) after number place c limit turn least most stands same is =
      λ whole asked carried.
      let channel : ChannelIdentity = channel_of controller after.caller.computer o in
      let sent : IsCallSent channel s.next_call (timestamp_bound (step_in s.turn)) bytes = set_out controller s range well bytes (standing.Open o) after number place c limit turn least most same is in
      let its : SetsNext o s.caller (next_of secrets) c =
      subst (λ (how : Standing). IsSetIn (Some (step.Set (set_step.Bind c))) how s.caller (next_of secrets)) stands
      (subst (λ (t : Option Pending). IsSetIn (step_in t) s.standing s.caller (next_of secrets)) turn tries.sets) in
      let formed : IsSecret its.secret = next_has secrets.next secrets.current its.secret are.1 its.is in
      ap (set_by channel) (sym (sent_asks channel s.next_call (timestamp_bound (step_in s.turn)) bytes sent whole asked carried))
      ∙ ap (set_by channel) (its_set_out controller s range well bytes o after number place c limit turn least most same is)
      ∙ ap (λ (hidden : List ℕ). Some (show_of (key_of_channel o) hidden)) its.hidden
      ∙ ap (λ (secret : List ℕ). Some secret) (hidden_is_shown (key_of_channel o) its.secret formed)
      ∙ sym its.is

  -- ---- whatever is heard

  acted_sets : (h : Hearing) → IsOfTurn s.turn s.next_call h → IsOut (act h s).taken bytes → Sets (taking_note (Some (act h s)) controller s)
  acted_sets hearing.Skip of out = tt
  acted_sets (hearing.Next q frames) of out =
      asked_sets q s.standing (act (hearing.Next q frames) s).state of.0 of.1 of.2 of.5 of.3 of.6 of.7 of.4 refl refl (out ∙ ap (λ (f : List (List ℕ)). joined_frames f) of.8)
  acted_sets (hearing.Reply q r) of out = settled_sets (judge q r s.standing s.caller.secret)
  acted_sets (hearing.Drop cause) of out = settled_sets (judgement.Drop cause)
  acted_sets (hearing.Set (set_hearing.Next frames)) of out =
      set_sets s.standing (act (hearing.Set (set_hearing.Next frames)) s).state of.0 of.1 of.2 of.4 of.3 of.5 of.6 refl refl (out ∙ ap (λ (f : List (List ℕ)). joined_frames f) of.7)
  acted_sets (hearing.Set (set_hearing.Reply r)) of out = set_settled_sets (judge_set r s.standing)

-- what goes out at a unit sets that
pub makes_sets : (controller : ℕ) (s : Requester) (fits : FitsWell s) (secrets : SecretsState) (are : AreSecrets secrets) (tries : TriesSecrets s secrets) (unit : RpcUnit) →
    MakesIn (λ mark bytes. SetsMark (sets_at (taking_note (Some (take_of s unit)) controller s).called (next_of secrets)) mark bytes) controller s unit
makes_sets controller s fits secrets are tries unit bytes out =
    acted_sets controller s fits.0 fits.1 secrets are tries bytes (hear s.turn unit s.next_call) (of_turn s.turn unit s.next_call) out

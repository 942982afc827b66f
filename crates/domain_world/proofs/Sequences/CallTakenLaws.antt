-- A unit that a requester takes keeps what is known of the calls of its turns.
-- It serves `Proved.sequences`.
use Rattle.std.proofs.Common.{◌≡◌, ℕ, List, ◌++◌, Option, Some, None, slice_get, refl, sym, ap, subst, ◌∙◌, Ok, Err}
use Rattle.authenticators.specs.Channels.{ChannelIdentity}
use Rattle.authenticators.specs.SecureChannels.{channel_of}
use Rattle.rpc_units.specs.declared.unit.Unit.{Unit as RpcUnit}
use Rattle.channel_client.specs.declared.hearing.SetHearing.TheVariants as set_hearing
use Rattle.channel_client.specs.declared.state.SetStep.TheVariants as set_step
use Rattle.channel_client.specs.Effects.{HasEffect, IsCoherent, MatchesStep, asking_in, effect_heard, effect_judged, number_in, stands_in, step_in, view_of, effect_judged_set}
use Rattle.channel_client.specs.Machine.{act, hear, judge, place_of, settle, take_of, SetOutcome, judge_set, settle_set}
use Rattle.channel_client.specs.State.{Requester}
use Rattle.channel_client.specs.declared.answers.Taken.{Taken}
use Rattle.channel_client.specs.declared.answers.Taken.TheVariants as taken
use Rattle.channel_client.specs.declared.hearing.Hearing.{Hearing}
use Rattle.channel_client.specs.declared.hearing.Hearing.TheVariants as hearing
use Rattle.channel_client.specs.declared.judging.Judgement.{Judgement}
use Rattle.channel_client.specs.declared.judging.Judgement.TheVariants as judgement
use Rattle.channel_client.specs.declared.state.Pending.{Pending}
use Rattle.channel_client.specs.declared.state.Question.{Question}
use Rattle.channel_client.specs.declared.state.Question.TheVariants as question
use Rattle.channel_client.specs.declared.state.Standing.{Standing}
use Rattle.channel_client.specs.declared.state.Standing.TheVariants as standing
use Rattle.channel_client.specs.declared.state.Step.{Step}
use Rattle.channel_client.specs.declared.state.Step.TheVariants as step
use Rattle.channel_client.proofs.EffectLaws.{steps_have_effects}
use Rattle.channel_events.specs.Marks.{Mark, Calling}
use Rattle.wire_base.proofs.ListLaws.{got_append, some_is}
use Rattle.step_notes.specs.MemberNotes.{TurnNote, asked_note, request_note, taking_note, timestamp_bound}
use Rattle.step_notes.specs.Records.{ChannelTurn}
use Rattle.step_notes.proofs.Members.TurnRequestLaws.{IsOfTurn, of_turn}
use Rattle.domain_world.specs.Accepting.SeenSteps.{IsPlaced, NoRequests, Placed}
use Rattle.domain_world.proofs.Calls.LooserLaws.{calls_before}
use Rattle.domain_world.proofs.Sequences.CallTurnLaws.{AreFarBy, CallsMade, KnowsCalls, LastIsOut, WaitsFor, answered_knows, called_knows, calls_still, opened_knows, set_called_knows}
use Rattle.domain_world.proofs.Sequences.SeedTurnLaws.{Turned, none_on}

-- the answer of a logon was taken, or that to a call that sets a secret
abbrev pub IsAnswer : Taken → Type 0
IsAnswer (taken.Skip right) = ⊥
IsAnswer (taken.Next right frames) = ⊥
IsAnswer taken.Half = ⊥
IsAnswer taken.Opened = ⊥
IsAnswer (taken.Answer place verdict) = Unit {0}
IsAnswer (taken.Dropped place cause) = ⊥
IsAnswer taken.Set = Unit {0}

-- the turn waits for a reply, where a call is out on the channel that stands
waits_by : (p : Pending) (st : Step) (how : Standing) (number : ℕ) → p.step ≡ st → asking_in how (Some st) p.number ≡ Some number → WaitsFor (Some p) number
waits_by p st standing.Nothing number is asking = absurd (let x = asking in cc)
waits_by p st (standing.Half client server) number is asking = absurd (let x = asking in cc)
waits_by p (step.Bind what) (standing.Open o) number is asking = absurd (let x = asking in cc)
waits_by p (step.Reply q) (standing.Open o) number is asking = λ Done marks c bound made stamps far.
    subst (λ (n : ℕ). LastIsOut Done marks c n made stamps) (some_is p.number number asking)
    (subst (λ (st : Step). AreFarBy Done marks c p.number st bound made stamps) is far)
waits_by p (step.Set (set_step.Bind what)) (standing.Open o) number is asking = absurd (let x = asking in cc)
waits_by p (step.Set set_step.Reply) (standing.Open o) number is asking = λ Done marks c bound made stamps far.
    subst (λ (n : ℕ). LastIsOut Done marks c n made stamps) (some_is p.number number asking)
    (subst (λ (st : Step). AreFarBy Done marks c p.number st bound made stamps) is far)

none_asked : (how : Standing) (n number : ℕ) → asking_in how None n ≡ Some number → ⊥
none_asked standing.Nothing n number asking = let x = asking in cc
none_asked (standing.Half client server) n number asking = let x = asking in cc
none_asked (standing.Open o) n number asking = let x = asking in cc

waits_reply : (turn : Option Pending) (how : Standing) (number : ℕ) → asking_in how (step_in turn) (number_in turn) ≡ Some number → WaitsFor turn number
waits_reply None how number asking = absurd (none_asked how 0 number asking)
waits_reply (Some p) how number asking = waits_by p p.step how number refl asking

module _ (Done Later : ℕ → Type 0) (so : (n : ℕ) → Done n → Later n) (marks more : List Mark) (own : List ChannelTurn) (drawn : List (List ℕ)) (controller : ℕ) (s : Requester)
    (turned : Turned (view_of controller s) own drawn)
    (fresh : (challenge : List ℕ) → (view_of controller s).opening ≡ Some challenge → (n number timestamp : ℕ) (d : ChannelIdentity) → slice_get marks n ≡ Some (Calling d number timestamp) → d.client ≡ challenge → ⊥)
    (knows : KnowsCalls Done marks own controller s) where
  abbrev noted : Hearing → TurnNote
  noted h = taking_note (Some (act h s)) controller s

  abbrev IsWritten : Hearing → Type 0
  IsWritten h = (c : ChannelIdentity) (number timestamp : ℕ) (called : Option ℕ) → noted h ≡ request_note (Calling c number timestamp) called → IsPlaced more (Calling c number timestamp)

  abbrev Now : Requester → Type 0
  Now t = KnowsCalls Later (marks ++ more) own controller t

  -- no call is written down
  with_none : NoRequests more → (t : Requester) → KnowsCalls Done marks own controller t → Now t
  with_none none t known = λ c is.
      calls_still Done Later so marks (marks ++ more) own c (λ k mark there. got_append marks more k mark there) (λ n number timestamp d there same. calls_before marks more none n number timestamp d there)
      t.turn (known c is)

  later_so : (some : List Mark) (c : ChannelIdentity) (turn : Option Pending) → CallsMade Done some own c turn → CallsMade Later some own c turn
  later_so some c turn calls = calls_still Done Later so some some own c (λ k mark there. there) (λ n number timestamp d there same. there) turn calls

  -- the call on the channel that stands is answered
  answer_knows : (its : ChannelIdentity) → (view_of controller s).stands ≡ Some its → (view_of controller s).asking ≡ Some (number_in s.turn) → NoRequests more →
      ((n timestamp : ℕ) → slice_get marks n ≡ Some (Calling its (number_in s.turn) timestamp) → Later n) → (c : ChannelIdentity) → Some its ≡ Some c → CallsMade Later (marks ++ more) own c None
  answer_knows its stands asking none done c is =
      let number : ℕ = number_in s.turn in
      let answered : CallsMade Later marks own its None =
      answered_knows Later marks own its s.turn number (waits_reply s.turn s.standing number asking) done (later_so marks its s.turn (knows its stands)) in
      subst (λ (x : ChannelIdentity). CallsMade Later (marks ++ more) own x None) (some_is its c is)
      (calls_still Later Later (λ n is. is) marks (marks ++ more) own its (λ k mark there. got_append marks more k mark there)
      (λ n number timestamp d there same. calls_before marks more none n number timestamp d there) None answered)

  judged_knows : (j : Judgement) → HasEffect controller (effect_judged controller j s.caller.computer (number_in s.turn)) s (settle j s).state → NoRequests more →
      ((c : ChannelIdentity) (number : ℕ) → IsAnswer (settle j s).taken → (view_of controller s).stands ≡ Some c → (view_of controller s).asking ≡ Some number → (n timestamp : ℕ) →
      slice_get marks n ≡ Some (Calling c number timestamp) → Later n) → Now (settle j s).state
  judged_knows (judgement.Half client server) has none done = λ c is. absurd (let x = is in cc)
  judged_knows (judgement.Drop cause) has none done = λ c is. absurd (let x = is in cc)
  judged_knows (judgement.Opened o) has none done = λ c is.
      let its : ChannelIdentity = channel_of controller s.caller.computer o in
      let same : its ≡ c = some_is its c is in
      subst (λ (x : ChannelIdentity). CallsMade Later (marks ++ more) own x None) same
      (opened_knows Later (marks ++ more) own its
      (λ n number timestamp d there client. fresh its.client has.0.0 n number timestamp d (calls_before marks more none n number timestamp d there) client)
      (none_on its own (turned.fresh its.client has.0.0)))
  judged_knows (judgement.Answer o v) has none done = λ c is. answer_knows (channel_of controller s.caller.computer o) has.0.0 has.0.1 none (λ n timestamp there. done (channel_of controller s.caller.computer o) (number_in s.turn) tt has.0.0 has.0.1 n timestamp there) c is

  set_knows : (judged : SetOutcome) → HasEffect controller (effect_judged_set controller judged s.caller.computer (number_in s.turn)) s (settle_set judged s).state → NoRequests more →
      ((c : ChannelIdentity) (number : ℕ) → IsAnswer (settle_set judged s).taken → (view_of controller s).stands ≡ Some c → (view_of controller s).asking ≡ Some number → (n timestamp : ℕ) →
      slice_get marks n ≡ Some (Calling c number timestamp) → Later n) → Now (settle_set judged s).state
  set_knows (Ok o) has none done = λ c is. answer_knows (channel_of controller s.caller.computer o) has.0.0 has.0.1 none (λ n timestamp there. done (channel_of controller s.caller.computer o) (number_in s.turn) tt has.0.0 has.0.1 n timestamp there) c is
  set_knows (Err cause) has none done = λ c is. absurd (let x = is in cc)

  -- the call goes out
  next_knows : (q : Question) (frames : List (List ℕ)) (how : Standing) → s.standing ≡ how → IsOfTurn s.turn s.next_call (hearing.Next q frames) → MatchesStep how (Some (step.Reply q)) →
      IsWritten (hearing.Next q frames) → Now (act (hearing.Next q frames) s).state
  next_knows q frames standing.Nothing stands of matches placed = λ c is.
      absurd (let none : None ≡ Some c = sym (ap (λ (how : Standing). stands_in controller s.caller.computer how) stands) ∙ is in let x = none in cc)
  next_knows q frames (standing.Half client server) stands of matches placed = λ c is.
      absurd (let none : None ≡ Some c = sym (ap (λ (how : Standing). stands_in controller s.caller.computer how) stands) ∙ is in let x = none in cc)
  next_knows (question.Challenge client) frames (standing.Open o) stands of matches placed = absurd matches
  next_knows question.Authenticate frames (standing.Open o) stands of matches placed = absurd matches
  next_knows question.Logon frames (standing.Open o) stands of matches placed = λ c is.
      let its : ChannelIdentity = channel_of controller s.caller.computer o in
      let same : its ≡ c = some_is its c (sym (ap (λ (how : Standing). stands_in controller s.caller.computer how) stands) ∙ is) in
      let stamp : ℕ = timestamp_bound (step_in s.turn) in
      let note : noted (hearing.Next question.Logon frames) ≡ request_note (Calling its s.next_call stamp) (Some (place_of s.turn)) =
      ap (λ (how : Standing). asked_note (Some (step.Reply question.Logon)) how controller s (act (hearing.Next question.Logon frames) s).state) stands in
      subst (λ (x : ChannelIdentity). CallsMade Later (marks ++ more) own x (act (hearing.Next question.Logon frames) s).state.turn) same
      (later_so (marks ++ more) its (act (hearing.Next question.Logon frames) s).state.turn
      (called_knows Done marks more own its s.next_call stamp (placed its s.next_call stamp (Some (place_of s.turn)) note) s.turn of.1 of.0 of.2 question.Logon (place_of s.turn) of.3 refl
      (knows its (ap (λ (how : Standing). stands_in controller s.caller.computer how) stands))))

  abbrev Answers : Hearing → Type 0
  Answers h =
      (c : ChannelIdentity) (number : ℕ) → IsAnswer (act h s).taken → (view_of controller s).stands ≡ Some c → (view_of controller s).asking ≡ Some number → (n timestamp : ℕ) →
      slice_get marks n ≡ Some (Calling c number timestamp) → Later n

  -- a call that sets a secret goes out
  set_next_knows : (frames : List (List ℕ)) (how : Standing) → s.standing ≡ how → IsOfTurn s.turn s.next_call (hearing.Set (set_hearing.Next frames)) →
      IsWritten (hearing.Set (set_hearing.Next frames)) → Now (act (hearing.Set (set_hearing.Next frames)) s).state
  set_next_knows frames standing.Nothing stands of placed = λ c is.
      absurd (let none : None ≡ Some c = sym (ap (λ (how : Standing). stands_in controller s.caller.computer how) stands) ∙ is in let x = none in cc)
  set_next_knows frames (standing.Half client server) stands of placed = λ c is.
      absurd (let none : None ≡ Some c = sym (ap (λ (how : Standing). stands_in controller s.caller.computer how) stands) ∙ is in let x = none in cc)
  set_next_knows frames (standing.Open o) stands of placed = λ c is.
      let its : ChannelIdentity = channel_of controller s.caller.computer o in
      let same : its ≡ c = some_is its c (sym (ap (λ (how : Standing). stands_in controller s.caller.computer how) stands) ∙ is) in
      let stamp : ℕ = timestamp_bound (step_in s.turn) in
      let after : Requester = (act (hearing.Set (set_hearing.Next frames)) s).state in
      let note : noted (hearing.Set (set_hearing.Next frames)) ≡ request_note (Calling its s.next_call stamp) None =
      ap (λ (how : Standing). asked_note (Some (step.Set set_step.Reply)) how controller s after) stands in
      subst (λ (x : ChannelIdentity). CallsMade Later (marks ++ more) own x after.turn) same
      (later_so (marks ++ more) its after.turn
      (set_called_knows Done marks more own its s.next_call stamp (placed its s.next_call stamp None note) s.turn of.1 of.0 of.2 (place_of s.turn) of.3 refl
      (knows its (ap (λ (how : Standing). stands_in controller s.caller.computer how) stands))))

  settled_none : (j : Judgement) → Placed (taking_note (Some (settle j s)) controller s).sends (taking_note (Some (settle j s)) controller s).mark more → NoRequests more
  settled_none (judgement.Half client server) placed = placed
  settled_none (judgement.Opened o) placed = placed
  settled_none (judgement.Answer o v) placed = placed
  settled_none (judgement.Drop cause) placed = placed

  settled_set_none : (judged : SetOutcome) → Placed (taking_note (Some (settle_set judged s)) controller s).sends (taking_note (Some (settle_set judged s)) controller s).mark more → NoRequests more
  settled_set_none (Ok o) placed = placed
  settled_set_none (Err cause) placed = placed

  acted_knows : (h : Hearing) → HasEffect controller (effect_heard controller h s) s (act h s).state → IsOfTurn s.turn s.next_call h → Placed (noted h).sends (noted h).mark more → IsWritten h → Answers h →
      Now (act h s).state
  acted_knows hearing.Skip has of placed written done = with_none placed s knows
  acted_knows (hearing.Next q frames) has of placed written done = next_knows q frames s.standing refl of has.1.matches written
  acted_knows (hearing.Reply q r) has of placed written done =
      judged_knows (judge q r s.standing s.caller.secret) has (settled_none (judge q r s.standing s.caller.secret) placed) done
  acted_knows (hearing.Drop cause) has of placed written done = λ c is. absurd (let x = is in cc)
  acted_knows (hearing.Set (set_hearing.Next frames)) has of placed written done = set_next_knows frames s.standing refl of written
  acted_knows (hearing.Set (set_hearing.Reply r)) has of placed written done =
      set_knows (judge_set r s.standing) has (settled_set_none (judge_set r s.standing) placed) done

  pub taken_knows : (unit : RpcUnit) → IsCoherent s →
      Placed (taking_note (Some (take_of s unit)) controller s).sends (taking_note (Some (take_of s unit)) controller s).mark more →
      ((c : ChannelIdentity) (number timestamp : ℕ) (called : Option ℕ) → taking_note (Some (take_of s unit)) controller s ≡ request_note (Calling c number timestamp) called → IsPlaced more (Calling c number timestamp)) →
      ((c : ChannelIdentity) (number : ℕ) → IsAnswer (take_of s unit).taken → (view_of controller s).stands ≡ Some c → (view_of controller s).asking ≡ Some number → (n timestamp : ℕ) →
      slice_get marks n ≡ Some (Calling c number timestamp) → Later n) → KnowsCalls Later (marks ++ more) own controller (take_of s unit).state
  taken_knows unit coherent placed written done =
      acted_knows (hear s.turn unit s.next_call) (steps_have_effects.take controller s unit coherent) (of_turn s.turn unit s.next_call) placed written done

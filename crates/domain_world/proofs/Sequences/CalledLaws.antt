-- What is known of the calls of a requester's turns says which calls were made on its open channel.
-- It serves `Proved.sequences`.
use Rattle.std.proofs.Common.{◌≡◌, ℕ, List, [], ◌∷◌, inl, inr, Option, Some, None, refl, sym, ap, subst, ◌∙◌}
use Rattle.std.specs.List.{AllByRecursion}
use Rattle.authenticators.specs.Channels.{ChannelIdentity}
use Rattle.channel_client.specs.declared.state.SetStep.TheVariants as set_step
use Rattle.channel_client.specs.Effects.{step_in}
use Rattle.channel_client.specs.declared.state.Pending.{Pending}
use Rattle.channel_client.specs.declared.state.Step.{Step}
use Rattle.channel_events.specs.Marks.{Mark, Calling}
use Rattle.member_server.specs.declared.state.Running.{Running}
use Rattle.wire_base.proofs.ListLaws.{no_some}
use Rattle.step_notes.specs.MemberNotes.{timestamp_bound}
use Rattle.step_notes.specs.Records.{Book, ChannelTurn, OfMember, OfTrust, RequesterId, Sent}
use Rattle.world_moves.specs.declared.state.State.{State}
use Rattle.domain_world.specs.Accepting.Sequences.{AreSoFar, CallsOfTurns, HasPassed, HavePassed, IsMadeOn, TurnsAreCalled}
use Rattle.domain_world.specs.Claims.SharedSequences.{timestamps_on}
use Rattle.domain_world.specs.Past.{Past, controller_asked}
use Rattle.domain_world.proofs.Moves.MarkPlaceLaws.{got_map}
use Rattle.domain_world.proofs.Calls.CallHoldsLaws.{mark_there, marks_in}
use Rattle.domain_world.proofs.Sequences.CallTurnLaws.{AllDone, AreFar, AreFarBy, CallsMade, IsCalled, KnowsCalls}
use Rattle.domain_world.proofs.Sequences.Own.OwnRunLaws.{own_stamps}
use Rattle.domain_world.proofs.Sequences.Own.OwnTurnLaws.{mine}
use Rattle.domain_world.proofs.Sequences.SeedTurnLaws.{stamps_on}
use Rattle.domain_world.proofs.Moves.NoTrustLaws.{NoneAsks}
use Rattle.domain_world.proofs.Moves.RequesterLaws.{asker_in, RunsWith, asker_runs, stands_open}
use Rattle.channel_client.specs.declared.state.Step.TheVariants as step

-- what is known of a requester, if its end runs
abbrev pub KnowsIf : (ℕ → Type 0) → List Mark → List ChannelTurn → ℕ → Option Running → Type 0
KnowsIf Done marks own controller None = Unit {0}
KnowsIf Done marks own controller (Some running) = KnowsCalls Done marks own controller running.logons.channel

-- of each member, after a move: its turns are those that are written down
abbrev pub AllKnow : (ℕ → Type 0) → State → Book → Type 0
AllKnow Done s b = (k : ℕ) → KnowsIf Done (marks_in b.sent) (mine (OfMember k) b.turns) (controller_asked (OfMember k) s) (asker_in k s.ends)

module _ (p : Past) (Done : ℕ → Type 0) (passed : (n : ℕ) → Done n → HasPassed p n) where
  abbrev marks : List Mark
  marks = marks_in p.book.sent

  have_passed : (made : List (ℕ × ℕ)) → AllDone Done made → HavePassed p made
  have_passed [] all = tt
  have_passed (one ∷ made) all = (passed one.0 all.0, have_passed made all.1)

  made_one : (c : ChannelIdentity) (one : ℕ × ℕ) → IsCalled marks c one → IsMadeOn p c one.0 one.1
  made_one c one is =
      let found = got_map (λ (sent : Sent). sent.mark) p.book.sent one.0 (Calling c is.number one.1) is.there in
      record { sent = found.0; there = found.1; number = is.number; mark = found.2 }

  made_each : (c : ChannelIdentity) (made : List (ℕ × ℕ)) → AllByRecursion (IsCalled marks c) made → AllByRecursion (λ (one : ℕ × ℕ). IsMadeOn p c one.0 one.1) made
  made_each c [] each = tt
  made_each c (one ∷ made) each = (made_one c one each.0, made_each c made each.1)

  far_step : (c : ChannelIdentity) (turn : Option Pending) (pending : Pending) (number : ℕ) (st : Step) (bound : ℕ) (made : List (ℕ × ℕ)) (stamps : List ℕ) → turn ≡ Some pending →
      AreFarBy Done marks c number st bound made stamps → AreSoFar p turn made stamps
  far_step c turn pending number (step.Bind what) bound made stamps is far =
      inr (inl (record { pending = pending; is_out = is; last = bound; all = far.0; passed = have_passed made far.1 }))
  far_step c turn pending number (step.Reply q) bound made stamps is far =
      inr (inr (record { pending = pending; is_out = is; earlier = far.earlier; last = far.last; split = far.split; all = far.all; passed = have_passed far.earlier far.answered }))
  far_step c turn pending number (step.Set (set_step.Bind what)) bound made stamps is far =
      inr (inl (record { pending = pending; is_out = is; last = bound; all = far.0; passed = have_passed made far.1 }))
  far_step c turn pending number (step.Set set_step.Reply) bound made stamps is far =
      inr (inr (record { pending = pending; is_out = is; earlier = far.earlier; last = far.last; split = far.split; all = far.all; passed = have_passed far.earlier far.answered }))

  so_far : (c : ChannelIdentity) (turn : Option Pending) (bound : ℕ) (made : List (ℕ × ℕ)) (stamps : List ℕ) → AreFar Done marks c turn bound made stamps → AreSoFar p turn made stamps
  so_far c None bound made stamps far = inl (far.0, have_passed made far.1)
  so_far c (Some pending) bound made stamps far = far_step c (Some pending) pending pending.number pending.step bound made stamps refl far

  of_turns : (c : ChannelIdentity) (turn : Option Pending) (own : List ChannelTurn) (timestamps : List ℕ) → stamps_on c own ≡ timestamps → CallsMade Done marks own c turn → CallsOfTurns p c turn timestamps
  of_turns c turn own timestamps same calls = record {
    made = calls.made;
    each = made_each c calls.made calls.each;
    apart = calls.apart;
    every = λ n number timestamp sent other there mark client. calls.every n number timestamp other (mark_there p.book.sent n sent there ∙ ap Some mark) client;
    far = subst (λ (stamps : List ℕ). AreSoFar p turn calls.made stamps) same (so_far c turn (timestamp_bound (step_in turn)) calls.made (stamps_on c own) calls.far);
  }

  -- where no controller asks another one
  pub turns_called : NoneAsks p.world.state → AllKnow Done p.world.state p.book → TurnsAreCalled p
  turns_called none all (OfTrust controller trust) channel o stands = absurd (no_some stands.requester (sym (none controller trust) ∙ stands.at))
  turns_called none all (OfMember k) channel o stands =
      let who : RequesterId = OfMember k in
      let c : ℕ = controller_asked who p.world.state in
      let own : List ChannelTurn = mine who p.book.turns in
      let with : RunsWith (asker_in k p.world.state.ends) stands.requester = asker_runs k p.world.state stands.requester stands.at in
      let known : KnowsCalls Done marks own c stands.requester =
      subst (KnowsCalls Done marks own c) with.is (subst (KnowsIf Done marks own c) with.runs (all k)) in
      of_turns channel stands.turn own (timestamps_on who channel p.book.turns) (own_stamps who channel p.book.turns)
      (subst (λ (turn : Option Pending). CallsMade Done marks own channel turn) stands.is_turn (known channel (stands_open p.world.state who channel o stands)))

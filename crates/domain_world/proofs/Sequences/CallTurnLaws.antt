-- The calls that were made on a requester's channel are those of its turns, each answered but for one that is out: each
-- step of the requester keeps that, with the call that goes out in it.
-- It serves `Proved.sequences`.
use Rattle.std.proofs.Common.{◌≡◌, ◌≢◌, ◌⊎◌, ℕ, zero, suc, ◌<◌, Bool, true, false, List, [], ◌∷◌, ◌++◌, length, inl, inr, Option, Some, None, slice_get, refl, sym, ap, subst, ◌∙◌, arith, length-append}
use Rattle.std.specs.List.{AllByRecursion}
use Rattle.std.proofs.lemmas.List.{map-append}
use Rattle.authenticators.specs.Channels.{ChannelIdentity}
use Rattle.authenticators.specs.SecureChannels.{channel_of}
use Rattle.secret_change.specs.declared.calls.SetCall.{SetCall}
use Rattle.channel_client.specs.declared.state.SetStep.TheVariants as set_step
use Rattle.channel_client.specs.Effects.{stands_in, step_in}
use Rattle.channel_client.specs.Machine.{ask_by, ask_of, can_start, lose_of, start_of}
use Rattle.channel_client.specs.State.{Requester}
use Rattle.channel_client.specs.declared.state.Pending.{Pending}
use Rattle.channel_client.specs.declared.state.Question.{Question}
use Rattle.channel_client.specs.declared.state.Sealing.{Sealing}
use Rattle.channel_client.specs.declared.state.Standing.{Standing}
use Rattle.channel_client.specs.declared.state.Standing.TheVariants as standing
use Rattle.channel_client.specs.declared.state.Step.{Step}
use Rattle.channel_client.specs.declared.state.Step.TheVariants as step
use Rattle.channel_client.specs.declared.state.Waiting.{Waiting}
use Rattle.channel_client.specs.declared.caller.Caller.{Caller}
use Rattle.logon_stubs.specs.declared.calls.Call.{Call}
use Rattle.wire_base.specs.Lists.{OneOf}
use Rattle.channel_events.specs.Marks.{Mark, Calling}
use Rattle.wire_base.proofs.ListLaws.{at_end, got_append, got_last, got_nothing, one_last, one_more, some_is}
use Rattle.member_server.specs.ChannelSteps.{IsCalm}
use Rattle.member_server.specs.Laws.{Asks, Doing, Loses, Starts, Takes, state_after}
use Rattle.step_notes.specs.MemberNotes.{timestamp_bound, turn_of}
use Rattle.step_notes.specs.Records.{ChannelTurn, RequesterId}
use Rattle.domain_world.specs.Accepting.SeenSteps.{IsPlaced}
use Rattle.domain_world.specs.Accepting.Sequences.{AreUnitsApart, stamps_of}
use Rattle.domain_world.proofs.Calls.LooserLaws.{calls_before, placed_as}
use Rattle.domain_world.proofs.Sequences.SeedTurnLaws.{stamps_last, stamps_on}

-- ---- what is known

-- the unit was made as a call on the channel, with that timestamp
pub record IsCalled (marks : List Mark) (c : ChannelIdentity) (one : ℕ × ℕ) : Type 0 where
  pub number : ℕ
  pub there : slice_get marks one.0 ≡ Some (Calling c number one.1)

abbrev pub AllDone : (ℕ → Type 0) → List (ℕ × ℕ) → Type 0
AllDone Done made = AllByRecursion (λ (one : ℕ × ℕ). Done one.0) made

-- all calls but the last are answered, and the last has that number
pub record LastIsOut (Done : ℕ → Type 0) (marks : List Mark) (c : ChannelIdentity) (number : ℕ) (made : List (ℕ × ℕ)) (stamps : List ℕ) : Type 0 where
  pub earlier : List (ℕ × ℕ)
  pub last : ℕ × ℕ
  pub split : made ≡ earlier ++ last ∷ []
  pub all : stamps ≡ stamps_of made
  pub answered : AllDone Done earlier
  pub out : slice_get marks last.0 ≡ Some (Calling c number last.1)

-- by what the turn waits for; a call that waits for its bind has the timestamp `bound`
abbrev pub AreFarBy : (Done : ℕ → Type 0) (marks : List Mark) (channel : ChannelIdentity) (number : ℕ) (step : Step) (bound : ℕ) (made : List (ℕ × ℕ)) (stamps : List ℕ) → Type 0
AreFarBy Done marks c number (step.Bind what) bound made stamps = (stamps ≡ stamps_of made ++ bound ∷ []) × AllDone Done made
AreFarBy Done marks c number (step.Reply q) bound made stamps = LastIsOut Done marks c number made stamps
AreFarBy Done marks c number (step.Set (set_step.Bind what)) bound made stamps = (stamps ≡ stamps_of made ++ bound ∷ []) × AllDone Done made
AreFarBy Done marks c number (step.Set set_step.Reply) bound made stamps = LastIsOut Done marks c number made stamps

abbrev pub AreFar : (ℕ → Type 0) → List Mark → ChannelIdentity → Option Pending → ℕ → List (ℕ × ℕ) → List ℕ → Type 0
AreFar Done marks c None bound made stamps = (stamps ≡ stamps_of made) × AllDone Done made
AreFar Done marks c (Some p) bound made stamps = AreFarBy Done marks c p.number p.step bound made stamps

pub record CallsMade (Done : ℕ → Type 0) (marks : List Mark) (own : List ChannelTurn) (c : ChannelIdentity) (turn : Option Pending) : Type 0 where
  pub made : List (ℕ × ℕ)
  pub each : AllByRecursion (IsCalled marks c) made
  pub apart : AreUnitsApart made
  pub every : (n number timestamp : ℕ) (d : ChannelIdentity) → slice_get marks n ≡ Some (Calling d number timestamp) → d.client ≡ c.client → OneOf (λ (one : ℕ × ℕ). one.0 ≡ n) made
  pub far : AreFar Done marks c turn (timestamp_bound (step_in turn)) made (stamps_on c own)

-- of the channel that stands, if one does
abbrev pub KnowsCalls : (ℕ → Type 0) → List Mark → List ChannelTurn → ℕ → Requester → Type 0
KnowsCalls Done marks own controller s = (c : ChannelIdentity) → stands_in controller s.caller.computer s.standing ≡ Some c → CallsMade Done marks own c s.turn

-- ---- units are written down that are no calls on the channel, and more are answered

module _ (Done Later : ℕ → Type 0) (so : (n : ℕ) → Done n → Later n) (marks later : List Mark) (own : List ChannelTurn) (c : ChannelIdentity)
    (still : (k : ℕ) (mark : Mark) → slice_get marks k ≡ Some mark → slice_get later k ≡ Some mark)
    (new : (n number timestamp : ℕ) (d : ChannelIdentity) → slice_get later n ≡ Some (Calling d number timestamp) → d.client ≡ c.client → slice_get marks n ≡ Some (Calling d number timestamp)) where
  each_still : (made : List (ℕ × ℕ)) → AllByRecursion (IsCalled marks c) made → AllByRecursion (IsCalled later c) made
  each_still [] each = tt
  each_still (one ∷ made) each = (record { number = each.0.number; there = still one.0 (Calling c each.0.number one.1) each.0.there }, each_still made each.1)

  done_still : (made : List (ℕ × ℕ)) → AllDone Done made → AllDone Later made
  done_still [] all = tt
  done_still (one ∷ made) all = (so one.0 all.0, done_still made all.1)

  last_still : (number : ℕ) (made : List (ℕ × ℕ)) (stamps : List ℕ) → LastIsOut Done marks c number made stamps → LastIsOut Later later c number made stamps
  last_still number made stamps far = record {
    earlier = far.earlier;
    last = far.last;
    split = far.split;
    all = far.all;
    answered = done_still far.earlier far.answered;
    out = still far.last.0 (Calling c number far.last.1) far.out;
  }

  far_step : (number : ℕ) (st : Step) (bound : ℕ) (made : List (ℕ × ℕ)) (stamps : List ℕ) → AreFarBy Done marks c number st bound made stamps → AreFarBy Later later c number st bound made stamps
  far_step number (step.Bind what) bound made stamps far = (far.0, done_still made far.1)
  far_step number (step.Reply q) bound made stamps far = last_still number made stamps far
  far_step number (step.Set (set_step.Bind what)) bound made stamps far = (far.0, done_still made far.1)
  far_step number (step.Set set_step.Reply) bound made stamps far = last_still number made stamps far

  far_still : (turn : Option Pending) (bound : ℕ) (made : List (ℕ × ℕ)) (stamps : List ℕ) → AreFar Done marks c turn bound made stamps → AreFar Later later c turn bound made stamps
  far_still None bound made stamps far = (far.0, done_still made far.1)
  far_still (Some p) bound made stamps far = far_step p.number p.step bound made stamps far

  pub calls_still : (turn : Option Pending) → CallsMade Done marks own c turn → CallsMade Later later own c turn
  calls_still turn calls = record {
    made = calls.made;
    each = each_still calls.made calls.each;
    apart = calls.apart;
    every = λ n number timestamp d there same. calls.every n number timestamp d (new n number timestamp d there same) same;
    far = far_still turn (timestamp_bound (step_in turn)) calls.made (stamps_on c own) calls.far;
  }

-- ---- what is known of a requester's calls

module _ (Done : ℕ → Type 0) (marks : List Mark) (own : List ChannelTurn) (controller : ℕ) where
  none_knows : (s : Requester) → ((c : ChannelIdentity) → stands_in controller s.caller.computer s.standing ≡ Some c → ⊥) → KnowsCalls Done marks own controller s
  none_knows s none = λ c is. absurd (none c is)

  asked_knows : (full : Bool) (s : Requester) (info : _) → KnowsCalls Done marks own controller s → KnowsCalls Done marks own controller (ask_by full s info).state
  asked_knows true s info knows = knows
  asked_knows false s info knows = knows

  -- logons are asked, or the turn is lost
  pub calm_knows : (doings : List Doing) (s : Requester) → AllByRecursion IsCalm doings → KnowsCalls Done marks own controller s → KnowsCalls Done marks own controller (state_after doings s)
  calm_knows [] s calm knows = knows
  calm_knows (Asks info ∷ doings) s calm knows = calm_knows doings (ask_of s info).state calm.1 (asked_knows _ s info knows)
  calm_knows (Starts timestamp challenge ∷ doings) s calm knows = absurd calm.0
  calm_knows (Takes unit ∷ doings) s calm knows = absurd calm.0
  calm_knows (Loses ∷ doings) s calm knows = calm_knows doings (lose_of s).state calm.1 (none_knows (lose_of s).state (λ c is. let x = is in cc))

  -- ---- a turn starts

  started_far : (c : ChannelIdentity) (turn : ChannelTurn) → turn.channel ≡ c → CallsMade Done marks own c None → (number place : ℕ) (what : Call) → timestamp_bound (Some (step.Bind what)) ≡ turn.timestamp →
      CallsMade Done marks (own ++ turn ∷ []) c (Some (record { number = number; place = place; step = step.Bind what }))
  started_far c turn on calls number place what is = record {
    made = calls.made;
    each = calls.each;
    apart = calls.apart;
    every = calls.every;
    far = (
      stamps_last own [] c turn on ∙ ap (λ (l : List ℕ). l ++ turn.timestamp ∷ []) calls.far.0 ∙ ap (λ (t : ℕ). stamps_of calls.made ++ t ∷ []) (sym is),
      calls.far.1,
    );
  }

  -- as a turn starts that sets a secret, the calls made are those of the turns so far
  set_started_far : (c : ChannelIdentity) (turn : ChannelTurn) → turn.channel ≡ c → CallsMade Done marks own c None → (number place : ℕ) (what : SetCall) → what.authenticator.timestamp ≡ turn.timestamp →
      CallsMade Done marks (own ++ turn ∷ []) c (Some (record { number = number; place = place; step = step.Set (set_step.Bind what) }))
  set_started_far c turn on calls number place what is = record {
    made = calls.made;
    each = calls.each;
    apart = calls.apart;
    every = calls.every;
    far = (
      stamps_last own [] c turn on ∙ ap (λ (l : List ℕ). l ++ turn.timestamp ∷ []) calls.far.0 ∙ ap (λ (t : ℕ). stamps_of calls.made ++ t ∷ []) (sym is),
      calls.far.1,
    );
  }

  start_by : (who : RequesterId) (timestamp : ℕ) (challenge : List ℕ) (caller : Caller) (how : Standing) (logons : List Waiting) (place next : ℕ) (turn : Option Pending) (secret : Option (List ℕ)) (sealing : Option Sealing) →
      let s : Requester = record { caller = caller; standing = how; waiting = logons; next_place = place; next_call = next; turn = turn; next = secret; sealing = sealing } in
      can_start turn logons ≡ true → KnowsCalls Done marks own controller s →
      KnowsCalls Done marks (own ++ turn_of controller who (start_of s timestamp challenge).state) controller (start_of s timestamp challenge).state
  start_by who timestamp challenge caller how logons place next (Some pending) secret sealing can knows = absurd (let x = can in cc)
  start_by who timestamp challenge caller how [] place next None secret sealing can knows = absurd (let x = can in cc)
  start_by who timestamp challenge caller standing.Nothing (logon ∷ logons) place next None secret sealing can knows = λ c is. absurd (let x = is in cc)
  start_by who timestamp challenge caller (standing.Half client server) (logon ∷ logons) place next None secret sealing can knows = λ c is. absurd (let x = is in cc)
  start_by who timestamp challenge caller (standing.Open o) (logon ∷ logons) place next None None sealing can knows = λ c is.
      started_far c (record { requester = who; channel = channel_of controller caller.computer o; timestamp = timestamp }) (some_is (channel_of controller caller.computer o) c is) (knows c is) next
      logon.place _ refl
  start_by who timestamp challenge caller (standing.Open o) (logon ∷ logons) place next None (Some secret) sealing can knows = λ c is.
      set_started_far c (record { requester = who; channel = channel_of controller caller.computer o; timestamp = timestamp }) (some_is (channel_of controller caller.computer o) c is) (knows c is) next
      logon.place _ refl

  pub start_knows : (who : RequesterId) (timestamp : ℕ) (challenge : List ℕ) (s : Requester) → can_start s.turn s.waiting ≡ true → KnowsCalls Done marks own controller s →
      KnowsCalls Done marks (own ++ turn_of controller who (start_of s timestamp challenge).state) controller (start_of s timestamp challenge).state
  start_knows who timestamp challenge s can knows = start_by who timestamp challenge s.caller s.standing s.waiting s.next_place s.next_call s.turn s.next s.sealing can knows

-- ---- a call goes out

got_within : (marks : List Mark) (k : ℕ) (mark : Mark) → slice_get marks k ≡ Some mark → k < length marks
got_within [] k mark there = absurd (got_nothing k mark there)
got_within (first ∷ marks) zero mark there = omega arith
got_within (first ∷ marks) (suc k) mark there = omega (arith, got_within marks k mark there)

module _ (Done : ℕ → Type 0) (marks more : List Mark) (own : List ChannelTurn) (c : ChannelIdentity) (number timestamp : ℕ) (placed : IsPlaced more (Calling c number timestamp)) where
  abbrev at : ℕ
  at = length (marks ++ placed.front)

  abbrev its : Mark
  its = Calling c number timestamp

  there_now : slice_get (marks ++ more) at ≡ Some its
  there_now =
      subst (λ (all : List Mark). slice_get all at ≡ Some its) (placed_as marks more its placed)
      (got_append ((marks ++ placed.front) ++ its ∷ []) placed.rest at its (got_last (marks ++ placed.front) its))

  old_or_it : (n other stamp : ℕ) (d : ChannelIdentity) → slice_get (marks ++ more) n ≡ Some (Calling d other stamp) → (slice_get marks n ≡ Some (Calling d other stamp)) ⊎ (n ≡ at)
  old_or_it n other stamp d there =
      let front : slice_get ((marks ++ placed.front) ++ its ∷ []) n ≡ Some (Calling d other stamp) =
      calls_before ((marks ++ placed.front) ++ its ∷ []) placed.rest placed.behind n other stamp d
      (subst (λ (all : List Mark). slice_get all n ≡ Some (Calling d other stamp)) (sym (placed_as marks more its placed)) there) in
      elim (at_end (marks ++ placed.front) its (Calling d other stamp) n front) [
        | inl old ↦ inl (calls_before marks placed.front placed.before n other stamp d old)
        | inr new ↦ inr new.0
      ]

  apart_last : (made : List (ℕ × ℕ)) → AllByRecursion (IsCalled marks c) made → AreUnitsApart made → AreUnitsApart (made ++ (at, timestamp) ∷ [])
  apart_last [] each apart = (tt, tt)
  apart_last (one ∷ made) each apart =
      (all_last made apart.0 (λ same. absurd (omega (arith, got_within marks one.0 (Calling c each.0.number one.1) each.0.there, same, length-append marks placed.front))), apart_last made each.1 apart.1)
    where
      all_last : (some : List (ℕ × ℕ)) → AllByRecursion (λ (other : ℕ × ℕ). one.0 ≢ other.0) some → one.0 ≢ at → AllByRecursion (λ (other : ℕ × ℕ). one.0 ≢ other.0) (some ++ (at, timestamp) ∷ [])
      all_last [] all differs = (differs, tt)
      all_last (other ∷ some) all differs = (all.0, all_last some all.1 differs)

  each_last : (made : List (ℕ × ℕ)) → AllByRecursion (IsCalled marks c) made → AllByRecursion (IsCalled (marks ++ more) c) (made ++ (at, timestamp) ∷ [])
  each_last [] each = (record { number = number; there = there_now }, tt)
  each_last (one ∷ made) each =
      (record { number = each.0.number; there = got_append marks more one.0 (Calling c each.0.number one.1) each.0.there }, each_last made each.1)

  -- where the turn waits for its bind, and then for the reply
  out_knows : (turn after : Option Pending) → timestamp ≡ timestamp_bound (step_in turn) → (calls : CallsMade Done marks own c turn) →
      (stamps_on c own ≡ stamps_of calls.made ++ timestamp_bound (step_in turn) ∷ []) × AllDone Done calls.made →
      ((some : List Mark) (bound : ℕ) (made : List (ℕ × ℕ)) (stamps : List ℕ) → LastIsOut Done some c number made stamps → AreFar Done some c after bound made stamps) →
      CallsMade Done (marks ++ more) own c after
  out_knows turn after stamp calls far waits =
      record {
        made = calls.made ++ (at, timestamp) ∷ [];
        each = each_last calls.made calls.each;
        apart = apart_last calls.made calls.each calls.apart;
        every = λ n other later d there same. elim (old_or_it n other later d there) [
          | inl old ↦ one_more (λ (one : ℕ × ℕ). one.0 ≡ n) calls.made (at, timestamp) (calls.every n other later d old same)
          | inr new ↦ one_last (λ (one : ℕ × ℕ). one.0 ≡ n) calls.made (at, timestamp) (sym new)
        ];
        far = waits (marks ++ more) _ (calls.made ++ (at, timestamp) ∷ []) (stamps_on c own) (record {
          earlier = calls.made;
          last = (at, timestamp);
          split = refl;
          all = far.0 ∙ ap (λ (t : ℕ). stamps_of calls.made ++ t ∷ []) (sym stamp) ∙ sym (map-append (λ (one : ℕ × ℕ). one.1) calls.made ((at, timestamp) ∷ []));
          answered = far.1;
          out = there_now;
        });
      }

  pub called_knows : (turn : Option Pending) (place bound_number : ℕ) (what : Call) (q : Question) (bound : ℕ) → turn ≡ Some (record { number = bound_number; place = place; step = step.Bind what }) →
      timestamp ≡ timestamp_bound (step_in turn) → CallsMade Done marks own c turn →
      CallsMade Done (marks ++ more) own c (Some (record { number = number; place = bound; step = step.Reply q }))
  called_knows turn place bound_number what q bound is stamp calls =
      out_knows turn (Some (record { number = number; place = bound; step = step.Reply q })) stamp calls
      (subst (λ (t : Option Pending). AreFar Done marks c t (timestamp_bound (step_in turn)) calls.made (stamps_on c own)) is calls.far) (λ some later made stamps out. out)

  -- the call of a turn that sets a secret, as it goes out, is that of the turn
  pub set_called_knows : (turn : Option Pending) (place bound_number : ℕ) (what : SetCall) (bound : ℕ) → turn ≡ Some (record { number = bound_number; place = place; step = step.Set (set_step.Bind what) }) →
      timestamp ≡ timestamp_bound (step_in turn) → CallsMade Done marks own c turn →
      CallsMade Done (marks ++ more) own c (Some (record { number = number; place = bound; step = step.Set set_step.Reply }))
  set_called_knows turn place bound_number what bound is stamp calls =
      out_knows turn (Some (record { number = number; place = bound; step = step.Set set_step.Reply })) stamp calls
      (subst (λ (t : Option Pending). AreFar Done marks c t (timestamp_bound (step_in turn)) calls.made (stamps_on c own)) is calls.far) (λ some later made stamps out. out)

-- ---- an answer is taken

done_last : (Done : ℕ → Type 0) (made : List (ℕ × ℕ)) (last : ℕ × ℕ) → AllDone Done made → Done last.0 → AllDone Done (made ++ last ∷ [])
done_last Done [] last all is = (is, tt)
done_last Done (one ∷ made) last all is = (all.0, done_last Done made last all.1 is)

-- the turn waits for the reply to the call of that number
abbrev pub WaitsFor : Option Pending → ℕ → Type 1
WaitsFor turn number = (Done : ℕ → Type 0) (marks : List Mark) (c : ChannelIdentity) (bound : ℕ) (made : List (ℕ × ℕ)) (stamps : List ℕ) → AreFar Done marks c turn bound made stamps →
    LastIsOut Done marks c number made stamps

pub answered_knows : (Done : ℕ → Type 0) (marks : List Mark) (own : List ChannelTurn) (c : ChannelIdentity) (turn : Option Pending) (number : ℕ) →
    WaitsFor turn number → ((n timestamp : ℕ) → slice_get marks n ≡ Some (Calling c number timestamp) → Done n) →
    CallsMade Done marks own c turn → CallsMade Done marks own c None
answered_knows Done marks own c turn number waits done calls =
    let far : LastIsOut Done marks c number calls.made (stamps_on c own) = waits Done marks c (timestamp_bound (step_in turn)) calls.made (stamps_on c own) calls.far in
    record {
      made = calls.made;
      each = calls.each;
      apart = calls.apart;
      every = calls.every;
      far = (
        far.all,
        subst (λ (l : List (ℕ × ℕ)). AllDone Done l) (sym far.split) (done_last Done far.earlier far.last far.answered (done far.last.0 far.last.1 far.out)),
      );
    }

-- ---- a channel opens

pub opened_knows : (Done : ℕ → Type 0) (marks : List Mark) (own : List ChannelTurn) (c : ChannelIdentity) → ((n number timestamp : ℕ) (d : ChannelIdentity) → slice_get marks n ≡ Some (Calling d number timestamp) → d.client ≡ c.client → ⊥) →
    stamps_on c own ≡ [] → CallsMade Done marks own c None
opened_knows Done marks own c none stamps =
    record { made = []; each = tt; apart = tt; every = λ n number timestamp d there same. absurd (none n number timestamp d there same); far = (stamps, tt) }

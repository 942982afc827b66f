-- After every run the seed of a requester's open channel is that of its turns on it.
-- It serves `Proved.own`.
use Rattle.std.proofs.Common.{◌≡◌, ℕ, zero, suc, ◌+◌, ◌≤◌, ◌&&◌, Bool, true, false, List, [], ◌∷◌, ◌++◌, drop, map, inl, inr, Option, Some, None, slice_get, slice_set, refl, sym, ap, subst, ◌∙◌, arith, ◌==◌, if◌then◌else◌}
use Rattle.std.specs.List.{filter}
use Rattle.std.proofs.lemmas.List.{append-nil, append_assoc, length-set}
use Rattle.std.proofs.lemmas.Bool.Decides.{Decides-eqb}
use Rattle.std.proofs.lemmas.List.Elements.{filter-append}
use Rattle.outside.specs.declared.action.Action.{Action}
use Rattle.outside.specs.declared.action.Action.TheVariants.{Keep, Send, Dial, Close, Told, Judged}
use Rattle.outside.specs.declared.event.Event.TheVariants as event
use Rattle.authenticators.specs.Channels.{ChannelIdentity}
use Rattle.wire_base.specs.declared.authenticator.Authenticator.{Authenticator}
use Rattle.authenticators.specs.SecureChannels.{SecureChannelState}
use Rattle.logon_client.specs.Machine.{begin_of, fresh_client}
use Rattle.channel_client.specs.declared.state.SetStep.TheVariants as set_step
use Rattle.channel_client.specs.Effects.{seed_in, stands_in, step_in, view_of}
use Rattle.channel_client.specs.declared.state.Step.{Step}
use Rattle.channel_client.specs.declared.state.Step.TheVariants as step
use Rattle.channel_client.specs.State.{Requester}
use Rattle.channel_events.specs.Seeds.{channel_seed}
use Rattle.wire_base.proofs.ListLaws.{some_is}
use Rattle.logon_stubs.specs.declared.calls.Call.TheVariants as call
use Rattle.member_server.specs.Machine.{fresh_member}
use Rattle.member_server.specs.declared.plan.MemberPlan.{MemberPlan}
use Rattle.member_server.specs.declared.state.Running.{Running}
use Rattle.member_server.proofs.AskedLaws.{asks_what_waits}
use Rattle.step_notes.specs.MemberNotes.{stamped, turn_by, turn_if, turn_in, turn_of}
use Rattle.step_notes.specs.Records.{ChannelTurn, OfMember, same_requester, RequesterId}
use Rattle.world_moves.specs.declared.links.EndId.{EndId}
use Rattle.world_moves.specs.declared.links.EndId.TheVariants.{Controller, Member, Client, Station}
use Rattle.world_moves.specs.declared.moves.Move.{Move}
use Rattle.world_moves.specs.declared.plan.Plan.{Plan}
use Rattle.world_moves.specs.declared.state.State.{State}
use Rattle.world_moves.specs.declared.state.WaitingDial.{WaitingDial}
use Rattle.world_moves.specs.Acting.{Given, forget, is_of_other, perform_quietly, plans_after}
use Rattle.world_moves.specs.Ends.{EndStates, with_client}
use Rattle.world_moves.proofs.EndKindLaws.{IfMember}
use Rattle.domain_world.specs.Claims.SharedSequences.{SequenceIsOwn, ChannelStands, timestamps_on}
use Rattle.domain_world.specs.Past.{asker_of, controller_asked, past, requester_at, requester_in, running_in, turn_for_trust, turns_by, turns_in}
use Rattle.domain_controller.specs.State.{State as ControllerState}
use Rattle.member_server.specs.Dials.{dial_of}
use Rattle.domain_world.proofs.Frames.ByKindLaws.{StepsByKind, every_kinds}
use Rattle.domain_world.proofs.Frames.MoveKeepLaws.{How, every}
use Rattle.domain_world.proofs.Moves.DrawnRunLaws.{draws_differ}
use Rattle.domain_world.proofs.Sequences.DialCountLaws.{counted, dials_out, done_same, forgotten_few, given_dials, gone_all, none_counted, one_if, waiting_dials}
use Rattle.domain_world.proofs.Sequences.DialWalkLaws.{AtState, KeepsDials, dials_after}
use Rattle.domain_world.proofs.Sequences.Own.OwnFrameLaws.{change_holds, TurnsHold, TurnsKnown, begin_holds, hear_holds, same_turns}
use Rattle.domain_world.proofs.Sequences.Own.OwnTurnLaws.{AreDrawn, TurnsIf, TurnsOf, both_drawn, mine, times, turn_drawn}
use Rattle.domain_world.proofs.Sequences.SeedTurnLaws.{Turned, on_channel, stamps_on, turned_blank}
use Rattle.domain_world.proofs.Moves.RequesterLaws.{asked_alike, asked_in, asked_now, asking_end, asks_at, asker_in, RunsWith, asker_runs, stands_open, asker_first, asker_same, asked_put}
use Rattle.domain_world.proofs.Calls.CallHoldsLaws.{SameNumbers}
use Rattle.world_moves.proofs.KeptLaws.{plans_alike}
use Rattle.world_moves.specs.Plain.{IsPlainPlan, plain_world, renew_plain_member as renew_member}

-- ---- dials

pub first_of_dials : (dials : List WaitingDial) (dial : WaitingDial) → slice_get dials 0 ≡ Some dial → dials ≡ dial ∷ drop 1 dials
first_of_dials [] dial is = absurd (let x = is in cc)
first_of_dials (first ∷ dials) dial is = let same : first ≡ dial = some_is first dial is in ap (λ (one : WaitingDial). one ∷ dials) same

-- of one that takes no step, where nothing was given: as many dials are out, or fewer
fewer_out : (who : RequesterId) (controller : ℕ) (d later : Option EndId) (dials waiting : List WaitingDial) (drawn : List (List ℕ)) (turns : List ChannelTurn) (r : Option Running) →
    dials_out (asking_end who) later [] waiting ≤ dials_out (asking_end who) d [] dials → TurnsIf who controller d [] dials drawn [] turns r → TurnsIf who controller later [] waiting drawn [] turns r
fewer_out who controller d later dials waiting drawn turns None few old = tt
fewer_out who controller d later dials waiting drawn turns (Some running) few old = record {
  order = old.order;
  out_once = omega (arith, few, old.out_once);
  out_waits = λ some. old.out_waits (omega (arith, few, some));
  given_once = omega arith;
  given_waits = λ some. absurd (omega (arith, some));
  turned = old.turned;
}

first_holds : (dial : WaitingDial) (s : State) (turns : List ChannelTurn) → slice_get s.dials 0 ≡ Some dial → TurnsKnown None [] s.member_plans s.ends s.dials s.chances [] turns →
    TurnsKnown (Some dial.end) [] s.member_plans s.ends (drop 1 s.dials) s.chances [] turns
first_holds dial s turns is known differ =
    let holds = known differ in
    record {
      before = holds.before;
      asks = λ k.
          let count : waiting_dials (Member k) s.dials ≡ one_if (asks_at (OfMember k) dial.end) + waiting_dials (Member k) (drop 1 s.dials) =
          ap (λ (l : List WaitingDial). waiting_dials (Member k) l) (first_of_dials s.dials dial is) in
          fewer_out (OfMember k) (asked_in k s.member_plans s.ends) None (Some dial.end) s.dials (drop 1 s.dials) s.chances.drawn turns (asker_in k s.ends) (omega (arith, count)) (holds.asks k);
    }

forgets_hold : (end : EndId) (s : State) (turns : List ChannelTurn) → TurnsKnown None [] s.member_plans s.ends s.dials s.chances [] turns →
    TurnsKnown None [] s.member_plans s.ends (filter (is_of_other end) s.dials) s.chances [] turns
forgets_hold end s turns known differ =
    let holds = known differ in
    record {
      before = holds.before;
      asks = λ k.
          fewer_out (OfMember k) (asked_in k s.member_plans s.ends) None None s.dials (filter (is_of_other end) s.dials) s.chances.drawn turns (asker_in k s.ends)
          (omega (arith, forgotten_few (Member k) end s.dials)) (holds.asks k);
    }

-- ---- an end is made anew

module _ (plans : List MemberPlan) (ends : EndStates) (dials : List WaitingDial) (drawn : List (List ℕ)) (turns : List ChannelTurn) where
  abbrev Now : EndStates → List WaitingDial → Type 0
  Now now waiting = TurnsHold None [] plans now waiting drawn [] turns

  anew : (who : RequesterId) (controller : ℕ) (plan : MemberPlan) (waiting : List WaitingDial) → waiting_dials (asking_end who) waiting ≡ 0 →
      TurnsIf who controller None [] waiting drawn [] turns (fresh_member plan).running
  anew who controller plan waiting none = record {
    order = asks_what_waits.fresh plan;
    out_once = omega (arith, none);
    out_waits = λ some. absurd (omega (arith, none, some));
    given_once = omega arith;
    given_waits = λ some. absurd (omega (arith, some));
    turned = turned_blank _ _ drawn refl refl;
  }

  other_renewed : (now : EndStates) → now.members ≡ ends.members → SameNumbers ends now → Now ends dials → Now now dials
  other_renewed now same numbers holds = record {
    before = holds.before;
    asks = λ k. asker_same (λ (c : ℕ) (r : Option Running). TurnsIf (OfMember k) c None [] dials drawn [] turns r) k plans ends now same numbers (holds.asks k);
  }

  -- none of its dials waits
  member_renewed : (plan : MemberPlan) (at : ℕ) → waiting_dials (Member at) dials ≡ 0 → Now ends dials → Now (renew_member (Some plan) at ends) dials
  member_renewed plan at none holds = record {
    before = holds.before;
    asks = asked_put (λ (k c : ℕ) (r : Option Running). TurnsIf (OfMember k) c None [] dials drawn [] turns r) plans at (fresh_member plan) ends (λ k c. tt)
        (anew (OfMember at) (asked_in at plans ends) plan dials none) (λ k differs. holds.asks k);
  }

renews_hold : (how : How) → StepsByKind how → (end : EndId) (s : State) (turns : List ChannelTurn) → AtState TurnsKnown None [] s [] turns →
    AtState TurnsKnown None [] (how.renews end (forget end s)) [] turns
renews_hold how kinds end s turns known =
    let dials : List WaitingDial = filter (is_of_other end) s.dials in
    let forgotten : AtState TurnsKnown None [] (forget end s) [] turns = forgets_hold end s turns known in
    kinds.renews (λ (one : EndId) (t : State). IfMember (λ (at : ℕ). waiting_dials (Member at) dials ≡ 0) one → AtState TurnsKnown None [] t [] turns) (forget end s) (λ one none. forgotten)
    (λ at c new is none differ.
    other_renewed s.member_plans s.ends dials s.chances.drawn turns (record s.ends { controllers = slice_set s.ends.controllers at new }) refl
    (record { controllers = length-set s.ends.controllers at new; members = refl; clients = refl; stations = refl }) (forgotten differ))
    (λ at plan is none differ. member_renewed s.member_plans s.ends dials s.chances.drawn turns plan at (none at refl) (forgotten differ))
    (λ at new none differ.
    other_renewed s.member_plans s.ends dials s.chances.drawn turns (with_client at new s.ends) refl
    (record { controllers = refl; members = refl; clients = length-set s.ends.clients at new; stations = refl }) (forgotten differ)) end
    (λ at is. subst (λ (one : EndId). waiting_dials (Member at) (filter (is_of_other one) s.dials) ≡ 0) (sym is) (gone_all (Member at) s.dials))

-- ---- the turns of a move are written down

pub times_more : (a b : ℕ) (turns : List ChannelTurn) → times (a + b) turns ≡ times a turns ++ times b turns
times_more zero b turns = let same : 0 + b ≡ b = omega arith in ap (λ (n : ℕ). times n turns) same
times_more (suc a) b turns =
    let same : suc a + b ≡ suc (a + b) = omega arith in
    ap (λ (n : ℕ). times n turns) same ∙ ap (λ (all : List ChannelTurn). turns ++ all) (times_more a b turns) ∙ sym (append_assoc turns (times a turns) (times b turns))

abbrev pub kept_if : Bool → List ChannelTurn → List ChannelTurn
kept_if false turns = []
kept_if true turns = turns

stamped_mine : (hit : Bool) (who other : RequesterId) (channel : Option ChannelIdentity) (stamp : Option Authenticator) → same_requester other who ≡ hit →
    mine who (stamped channel stamp other) ≡ kept_if hit (stamped channel stamp other)
stamped_mine false who other None stamp is = refl
stamped_mine true who other None stamp is = refl
stamped_mine false who other (Some channel) None is = refl
stamped_mine true who other (Some channel) None is = refl
stamped_mine false who other (Some channel) (Some stamp) is = ap (λ (hit : Bool). if hit then record { requester = other; channel = channel; timestamp = stamp.timestamp } ∷ [] else []) is
stamped_mine true who other (Some channel) (Some stamp) is = ap (λ (hit : Bool). if hit then record { requester = other; channel = channel; timestamp = stamp.timestamp } ∷ [] else []) is

none_mine : (hit : Bool) → [] ≡ kept_if hit []
none_mine false = refl
none_mine true = refl

by_mine : (hit : Bool) (who other : RequesterId) (st : Option Step) (channel : Option ChannelIdentity) → same_requester other who ≡ hit →
    mine who (turn_by st channel other) ≡ kept_if hit (turn_by st channel other)
by_mine hit who other None channel is = none_mine hit
by_mine hit who other (Some (step.Bind (call.Logon c))) channel is = stamped_mine hit who other channel c.authenticator is
by_mine hit who other (Some (step.Bind (call.Challenge c))) channel is = none_mine hit
by_mine hit who other (Some (step.Bind (call.Authenticate c))) channel is = none_mine hit
by_mine hit who other (Some (step.Bind (call.Logoff c))) channel is = none_mine hit
by_mine hit who other (Some (step.Reply q)) channel is = none_mine hit
by_mine hit who other (Some (step.Set (set_step.Bind c))) channel is = stamped_mine hit who other channel (Some c.authenticator) is
by_mine hit who other (Some (step.Set set_step.Reply)) channel is = none_mine hit

pub if_mine : (hit : Bool) (who other : RequesterId) (controller : ℕ) (found : Option Requester) → same_requester other who ≡ hit →
    mine who (turn_if controller other found) ≡ kept_if hit (turn_if controller other found)
if_mine hit who other controller None is = none_mine hit
if_mine hit who other controller (Some s) is = by_mine hit who other (step_in s.turn) (stands_in controller s.caller.computer s.standing) is

pub of_member : (controller j : ℕ) (r : Option Running) → turn_in controller j r ≡ turn_if controller (OfMember j) (requester_in r)
of_member controller j None = refl
of_member controller j (Some running) = refl

-- the turn for which a controller dials is no member's
none_of_member : (k at : ℕ) (found : Option ControllerState) (s : State) → mine (OfMember k) (turn_for_trust at found s) ≡ []
none_of_member k at None s = refl
none_of_member k at (Some c) s =
    if_mine false (OfMember k) (asker_of at c) (controller_asked (asker_of at c) s) (requester_at s (asker_of at c)) refl

pub times_drawn : (drawn : List (List ℕ)) (n : ℕ) (turns : List ChannelTurn) → AreDrawn drawn turns → AreDrawn drawn (times n turns)
times_drawn drawn zero turns all = tt
times_drawn drawn (suc n) turns all = both_drawn drawn turns (times n turns) all (times_drawn drawn n turns all)

module _ (s : State) where
  -- the turn of a member, as it is read after the move
  abbrev turn_now : ℕ → List ChannelTurn
  turn_now k = turn_if (asked_in k s.member_plans s.ends) (OfMember k) (requester_in (asker_in k s.ends))

  dial_mine : (hit : Bool) (k j : ℕ) (peer : List ℕ) → (j == k) ≡ hit → mine (OfMember k) (turn_now j) ≡ times (counted hit (Dial peer)) (turn_now k)
  dial_mine false k j peer is = if_mine false (OfMember k) (OfMember j) (asked_in j s.member_plans s.ends) (requester_in (asker_in j s.ends)) is
  dial_mine true k j peer is =
      if_mine true (OfMember k) (OfMember j) (asked_in j s.member_plans s.ends) (requester_in (asker_in j s.ends)) is ∙ ap turn_now ((Decides-eqb j k).0 is)
      ∙ sym (append-nil (turn_now k))

  no_dial : (k : ℕ) (hit : Bool) (what : Action) → (dial_of what ≡ 0) → [] ≡ times (counted hit what) (turn_now k)
  no_dial k hit what none = ap (λ (n : ℕ). times n (turn_now k)) (sym (none_counted hit what none))

  -- what is written down of an action: the turn that a member dials for is its turn, and nothing else is a member's
  one_mine : (k : ℕ) (end : EndId) (what : Action) → mine (OfMember k) (turns_by end what s) ≡ times (counted (asks_at (OfMember k) end) what) (turn_now k)
  one_mine k (Controller at) (Dial peer) = none_of_member k at (slice_get s.ends.controllers at) s
  one_mine k (Controller at) (Keep bytes) = refl
  one_mine k (Controller at) (Send link bytes) = refl
  one_mine k (Controller at) (Close link cause) = refl
  one_mine k (Controller at) (Told link outcome) = refl
  one_mine k (Controller at) (Judged how) = refl
  one_mine k (Client at) what = refl
  one_mine k (Station at) what = refl
  one_mine k (Member j) (Dial peer) =
      ap (mine (OfMember k)) (of_member (asked_in j s.member_plans s.ends) j (running_in (slice_get s.ends.members j))) ∙ dial_mine (j == k) k j peer refl
  one_mine k (Member j) (Keep bytes) = no_dial k (j == k) (Keep bytes) refl
  one_mine k (Member j) (Send link bytes) = no_dial k (j == k) (Send link bytes) refl
  one_mine k (Member j) (Close link cause) = no_dial k (j == k) (Close link cause) refl
  one_mine k (Member j) (Told link outcome) = no_dial k (j == k) (Told link outcome) refl
  one_mine k (Member j) (Judged how) = no_dial k (j == k) (Judged how) refl

  -- those of a member are its turn, as often as it dialled
  pub all_mine : (k : ℕ) (given : Given) → mine (OfMember k) (turns_in given s) ≡ times (given_dials (Member k) given) (turn_now k)
  all_mine k [] = refl
  all_mine k (one ∷ given) =
      filter-append (λ (turn : ChannelTurn). same_requester turn.requester (OfMember k)) (turns_by one.0 one.1 s) (turns_in given s)
      ∙ ap (λ (l : List ChannelTurn). l ++ mine (OfMember k) (turns_in given s)) (one_mine k one.0 one.1)
      ∙ ap (λ (l : List ChannelTurn). times (counted (asks_at (OfMember k) one.0) one.1) (turn_now k) ++ l) (all_mine k given)
      ∙ sym (times_more (counted (asks_at (OfMember k) one.0) one.1) (given_dials (Member k) given) (turn_now k))

  -- with those before
  more_turns : (k : ℕ) (turns : List ChannelTurn) (given : Given) →
      mine (OfMember k) (turns ++ turns_in given s) ≡ mine (OfMember k) turns ++ times (given_dials (Member k) given) (turn_now k)
  more_turns k turns given =
      filter-append (λ (one : ChannelTurn). same_requester one.requester (OfMember k)) turns (turns_in given s)
      ∙ ap (λ (l : List ChannelTurn). mine (OfMember k) turns ++ l) (all_mine k given)

  -- where it runs
  pub all_turns : (k : ℕ) (running : Running) (turns : List ChannelTurn) (given : Given) → asker_in k s.ends ≡ Some running →
      mine (OfMember k) (turns ++ turns_in given s)
      ≡ mine (OfMember k) turns ++ times (given_dials (Member k) given) (turn_of (asked_in k s.member_plans s.ends) (OfMember k) running.logons.channel)
  all_turns k running turns given runs =
      more_turns k turns given
      ∙ ap (λ (r : Option Running). mine (OfMember k) turns ++ times (given_dials (Member k) given) (turn_if (asked_in k s.member_plans s.ends) (OfMember k) (requester_in r))) runs

  -- ---- the turns that are written down were on channels whose client's challenge was drawn

  module _ (given : Given) (turns : List ChannelTurn) (holds : TurnsHold None [] s.member_plans s.ends s.dials s.chances.drawn given turns) where
    if_drawn : (who : RequesterId) (controller : ℕ) (r : Option Running) → TurnsIf who controller None [] s.dials s.chances.drawn given turns r →
        AreDrawn s.chances.drawn (turn_if controller who (requester_in r))
    if_drawn who controller None known = tt
    if_drawn who controller (Some running) known = turn_drawn controller who running.logons.channel _ s.chances.drawn known.turned

    all_drawn : (k : ℕ) → AreDrawn s.chances.drawn (mine (OfMember k) (turns ++ turns_in given s))
    all_drawn k =
        subst (AreDrawn s.chances.drawn) (sym (more_turns k turns given))
        (both_drawn s.chances.drawn (mine (OfMember k) turns) (times (given_dials (Member k) given) (turn_now k)) (holds.before k)
        (times_drawn s.chances.drawn (given_dials (Member k) given) (turn_now k) (if_drawn (OfMember k) (asked_in k s.member_plans s.ends) (asker_in k s.ends) (holds.asks k))))

    -- ---- what is known of turns stays known at the end of a move

    one_over : (k : ℕ) (r : Option Running) → asker_in k s.ends ≡ r → TurnsIf (OfMember k) (asked_in k s.member_plans s.ends) None [] s.dials s.chances.drawn given turns r →
        TurnsIf (OfMember k) (asked_in k s.member_plans s.ends) None [] s.dials s.chances.drawn [] (turns ++ turns_in given s) r
    one_over k None runs old = tt
    one_over k (Some running) runs old = record {
      order = old.order;
      out_once = old.out_once;
      out_waits = old.out_waits;
      given_once = omega arith;
      given_waits = λ some. absurd (omega (arith, some));
      turned = subst (λ (l : List ChannelTurn). Turned (view_of (asked_in k s.member_plans s.ends) running.logons.channel) l s.chances.drawn)
          (sym (append-nil (mine (OfMember k) (turns ++ turns_in given s)) ∙ all_turns k running turns given runs)) old.turned;
    }

    pub hold_over : TurnsHold None [] s.member_plans s.ends s.dials s.chances.drawn [] (turns ++ turns_in given s)
    hold_over = record { before = all_drawn; asks = λ k. one_over k (asker_in k s.ends) refl (holds.asks k) }

-- ---- an action is done

acts_hold : (d : Option EndId) (rest : Given) (end : EndId) (what : Action) (s : State) (given : Given) (turns : List ChannelTurn) →
    AtState TurnsKnown d ((end, what) ∷ rest) s given turns → AtState TurnsKnown d rest (perform_quietly end what s) given turns
acts_hold d rest end what s given turns known differ =
    let holds = known differ in
    record {
      before = holds.before;
      asks = λ k.
          subst (λ (c : ℕ). TurnsIf (OfMember k) c d rest (perform_quietly end what s).dials s.chances.drawn given turns (asker_in k s.ends))
          (sym (asked_alike k s.member_plans (plans_after end what s.member_plans) s.ends (plans_alike end what s.member_plans)))
          (same_turns (OfMember k) (asked_in k s.member_plans s.ends) d d ((end, what) ∷ rest) rest s.dials (perform_quietly end what s).dials s.chances.drawn s.chances.drawn given given
          turns (asker_in k s.ends) (omega (arith, done_same (Member k) d rest end what s)) (omega arith) refl (λ challenge is. is) (holds.asks k));
    }

-- ---- through a run

pub turns_keep : (how : How) → StepsByKind how → KeepsDials how TurnsKnown
turns_keep how kinds = record {
  closes = λ d rest end link s given turns known. hear_holds how kinds d d rest end (event.Closed link) s given turns (inl (tt, refl)) known;
  opens = λ d end link s given turns known. hear_holds how kinds d d [] end (event.Opened link) s given turns (inl (tt, refl)) known;
  comes = λ end link piece s given turns known. hear_holds how kinds None None [] end (event.Bytes link piece) s given turns (inl (tt, refl)) known;
  dialled = λ end link s given turns known. hear_holds how kinds (Some end) None [] end (event.Dialled link) s given turns (inr (refl, refl, refl)) known;
  fails = λ end s given turns known. hear_holds how kinds (Some end) None [] end event.DialFailed s given turns (inr (refl, refl, refl)) known;
  begins = λ client plan s turns known.
      begin_holds client (begin_of (fresh_client plan)).state (begin_of (fresh_client plan)).actions s.member_plans s.ends s.dials s.chances turns known;
  acts = λ d rest end what s given turns known. acts_hold d rest end what s given turns known;
  first = λ dial s turns is known. first_holds dial s turns is known;
  forgets = λ end s turns known. forgets_hold end s turns known;
  renews = λ end s turns known. renews_hold how kinds end s turns known;
  changes = λ at secret s turns known. change_holds at secret s turns known;
  over = λ s given turns known differ. hold_over s given turns (known differ);
}

-- at first
pub first_known : (plan : Plan) → AtState TurnsKnown None [] (plain_world plan).state [] []
first_known plan differ =
    let s : State = (plain_world plan).state in
    record {
      before = λ k. tt;
      asks = asker_first (λ (k : ℕ) (r : Option Running). TurnsIf (OfMember k) (asked_in k s.member_plans s.ends) None [] [] s.chances.drawn [] [] r) plan (λ k. tt)
          (λ k own. anew s.member_plans s.ends [] s.chances.drawn [] (OfMember k) (asked_in k s.member_plans s.ends) own [] refl);
    }

-- ---- the claim

and_filter : (one other : ChannelTurn → Bool) (turns : List ChannelTurn) → filter (λ (turn : ChannelTurn). one turn && other turn) turns ≡ filter other (filter one turns)
and_filter one other [] = refl
and_filter one other (turn ∷ turns) = and_one (one turn) turn (filter one turns) (filter (λ (t : ChannelTurn). one t && other t) turns) (and_filter one other turns)
  where
    and_one : (hit : Bool) (turn : ChannelTurn) (first both : List ChannelTurn) → both ≡ filter other first →
        (if hit && other turn then turn ∷ both else both) ≡ filter other (if hit then turn ∷ first else first)
    and_one true turn first both is = ap (λ (l : List ChannelTurn). if other turn then turn ∷ l else l) is
    and_one false turn first both is = is

-- the timestamps of its turns on a channel
pub own_stamps : (who : RequesterId) (channel : ChannelIdentity) (turns : List ChannelTurn) → stamps_on channel (mine who turns) ≡ timestamps_on who channel turns
own_stamps who channel turns = ap (λ (l : List ChannelTurn). map (λ (turn : ChannelTurn). turn.timestamp) l) (sym (and_filter (λ (turn : ChannelTurn). same_requester turn.requester who) (on_channel channel) turns))

-- of each member, with the controller that it asks
pub turns_at : (s : State) (given : Given) (turns : List ChannelTurn) → TurnsHold None [] s.member_plans s.ends s.dials s.chances.drawn given turns → (k : ℕ) →
    TurnsIf (OfMember k) (controller_asked (OfMember k) s) None [] s.dials s.chances.drawn given turns (asker_in k s.ends)
turns_at s given turns holds k = subst (λ (c : ℕ). TurnsIf (OfMember k) c None [] s.dials s.chances.drawn given turns (asker_in k s.ends)) (asked_now k s) (holds.asks k)

-- whoever asks, by what is known of it and of its turns
pub seed_turned : (s : State) (who : RequesterId) (channel : ChannelIdentity) (o : SecureChannelState) (turns : List ChannelTurn) (stands : ChannelStands s who channel o) →
    Turned (view_of (controller_asked who s) stands.requester) (mine who turns) s.chances.drawn → o.seed ≡ channel_seed channel (timestamps_on who channel turns)
seed_turned s who channel o turns stands turned =
    some_is o.seed (channel_seed channel (stamps_on channel (mine who turns))) (sym (ap seed_in stands.open_so) ∙ turned.seed channel (stands_open s who channel o stands))
    ∙ ap (channel_seed channel) (own_stamps who channel turns)

own_seed : (s : State) (k : ℕ) (channel : ChannelIdentity) (o : SecureChannelState) (turns : List ChannelTurn) → TurnsHold None [] s.member_plans s.ends s.dials s.chances.drawn [] turns →
    ChannelStands s (OfMember k) channel o → o.seed ≡ channel_seed channel (timestamps_on (OfMember k) channel turns)
own_seed s k channel o turns holds stands =
    let who : RequesterId = OfMember k in
    let c : ℕ = controller_asked who s in
    let with : RunsWith (asker_in k s.ends) stands.requester = asker_runs k s stands.requester stands.at in
    let known : TurnsOf who c None [] s.dials s.chances.drawn [] turns with.running =
    subst (TurnsIf who c None [] s.dials s.chances.drawn [] turns) with.runs (turns_at s [] turns holds k) in
    let turned : Turned (view_of c stands.requester) (mine who turns ++ []) s.chances.drawn =
    subst (λ (x : Requester). Turned (view_of c x) (mine who turns ++ []) s.chances.drawn) with.is known.turned in
    seed_turned s who channel o turns stands (subst (λ (l : List ChannelTurn). Turned (view_of c stands.requester) l s.chances.drawn) (append-nil (mine who turns)) turned)

-- what is known of turns holds after every run of a plain plan
pub turns_after : (plan : Plan) (moves : List Move) → IsPlainPlan plan → AtState TurnsKnown None [] (past plan moves).world.state [] (past plan moves).book.turns
turns_after plan moves nothing = dials_after TurnsKnown (turns_keep every every_kinds) plan moves nothing (first_known plan)

-- the sequence of each member is its own
pub members_own : (plan : Plan) (moves : List Move) → IsPlainPlan plan → (k : ℕ) → SequenceIsOwn (past plan moves) (OfMember k)
members_own plan moves nothing k channel o stands =
    own_seed (past plan moves).world.state k channel o (past plan moves).book.turns (turns_after plan moves nothing (draws_differ plan moves)) stands

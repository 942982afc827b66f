-- What is known of the calls of members' turns stays where no member takes a step, and where one does with no whole
-- unit on the link of its turn. It serves `Proved.sequences`.
use Rattle.std.proofs.Common.{◌≡◌, ◌≢◌, ℕ, List, ◌++◌, Option, Some, None, slice_get, refl, sym, ap, subst, ◌∙◌, arith}
use Rattle.outside.specs.declared.action.Action.{Action}
use Rattle.outside.specs.declared.event.Event.{Event}
use Rattle.authenticators.specs.Channels.{ChannelIdentity}
use Rattle.channel_client.specs.Effects.{stands_in}
use Rattle.channel_events.specs.Marks.{Mark, Calling}
use Rattle.member_server.specs.Laws.{InOrderUnlessStopped}
use Rattle.member_server.specs.Machine.{step_of}
use Rattle.member_server.specs.State.{State as MemberState}
use Rattle.member_server.specs.declared.state.Running.{Running}
use Rattle.member_server.proofs.AskedLaws.{asks_what_waits}
use Rattle.step_notes.specs.Records.{Book, ChannelTurn, Sent, OfMember, RequesterId}
use Rattle.world_moves.specs.declared.links.EndId.TheVariants.{Member}
use Rattle.world_moves.specs.declared.plan.Plan.{Plan}
use Rattle.world_moves.specs.declared.state.State.{State}
use Rattle.world_moves.specs.Acting.{Given, AfterHearing, given_by, heard_by}
use Rattle.world_moves.specs.Ends.{actions_by, with_member}
use Rattle.world_moves.specs.MemberPlans.{AreAlikeButSecrets}
use Rattle.world_moves.specs.Plain.{plain_member_step as member_step}
use Rattle.domain_world.specs.Accepting.SeenSteps.{Differ, HearsNone}
use Rattle.domain_world.specs.Accepting.Sequences.{IsTakenFor}
use Rattle.domain_world.specs.Past.{controller_asked, running_in}
use Rattle.domain_world.proofs.Acceptance.Turns.TurnFactLaws.{GrowsTo, past_at, taken_stays, world_in}
use Rattle.domain_world.proofs.Moves.MarkPlaceLaws.{got_map}
use Rattle.domain_world.proofs.Calls.CallHoldsLaws.{differ_front, mark_there, marks_in}
use Rattle.domain_world.proofs.Sequences.CalledStepLaws.{OwnCalls, own_grows}
use Rattle.domain_world.proofs.Sequences.DialCountLaws.{given_append, given_dials, given_other}
use Rattle.domain_world.proofs.Sequences.Own.OwnFrameLaws.{StillDrawn, still_drawn}
use Rattle.domain_world.proofs.Sequences.Own.OwnStepLaws.{OwnIf, own_quiet}
use Rattle.domain_world.proofs.Sequences.Own.OwnTurnLaws.{AreDrawn, mine}
use Rattle.domain_world.proofs.Sequences.SeedTurnLaws.{drawn_still}
use Rattle.domain_world.proofs.Moves.RequesterLaws.{asked_stays, asking_end, not_that, asker_in, asker_kept, asker_put}

-- ---- what is known

abbrev pub OwnBy : (ℕ → Type 0) → List Mark → List (List ℕ) → List ChannelTurn → Given → ℕ → RequesterId → Option Running → Type 0
OwnBy Done marks drawn turns given controller who r = InOrderUnlessStopped r × OwnIf Done marks drawn turns given controller who r

-- of a requester in that state
abbrev pub OwnOf : Plan → State → Given → Book → RequesterId → Option Running → Type 0
OwnOf plan s given b who r = OwnBy (IsTakenFor (past_at plan s b)) (marks_in b.sent) s.chances.drawn b.turns given (controller_asked who s) who r

-- The turns of members that are written down were on channels whose client's challenge was drawn, and `OwnOf` is known
-- of each member.
pub record OwnFacts (plan : Plan) (s : State) (given : Given) (b : Book) : Type 0 where
  pub before : (k : ℕ) → AreDrawn s.chances.drawn (mine (OfMember k) b.turns)
  pub asks : (k : ℕ) → OwnOf plan s given b (OfMember k) (asker_in k s.ends)

-- ---- what is written down grows

pub taken_for_stays : (plan : Plan) (s t : State) (b d : Book) → GrowsTo s t b d → (n : ℕ) → IsTakenFor (past_at plan s b) n → IsTakenFor (past_at plan t d) n
taken_for_stays plan s t b d grows n is =
    record { taken = is.taken; call = is.call; turn = taken_stays plan (world_in s) (world_in t) b d grows is.taken is.turn }

pub marks_still : (sent later : List Sent) → ((k : ℕ) (one : Sent) → slice_get sent k ≡ Some one → slice_get later k ≡ Some one) → (j : ℕ) (mark : Mark) → slice_get (marks_in sent) j ≡ Some mark →
    slice_get (marks_in later) j ≡ Some mark
marks_still sent later grown j mark there =
    let found = got_map (λ (one : Sent). one.mark) sent j mark there in mark_there later j found.0 (grown j found.0 found.1) ∙ ap Some found.2

-- each call was written down before
abbrev pub NoNewCalls : List Mark → List Mark → Type 0
NoNewCalls marks later =
    (n number timestamp : ℕ) (e : ChannelIdentity) → slice_get later n ≡ Some (Calling e number timestamp) → slice_get marks n ≡ Some (Calling e number timestamp)

-- each call on a channel with that one's client's challenge was
abbrev pub NoNewOn : List Mark → List Mark → ChannelIdentity → Type 0
NoNewOn marks later c =
    (n number timestamp : ℕ) (e : ChannelIdentity) → slice_get later n ≡ Some (Calling e number timestamp) → e.client ≡ c.client → slice_get marks n ≡ Some (Calling e number timestamp)

-- the channel that stands at the requester, if one does, is such
abbrev pub OnStanding : (ChannelIdentity → Type 0) → ℕ → Option Running → Type 0
OnStanding P controller None = Unit {0}
OnStanding P controller (Some running) = (c : ChannelIdentity) → stands_in controller running.logons.channel.caller.computer running.logons.channel.standing ≡ Some c → P c

module _ (plan : Plan) (s t : State) (b d : Book) (plans : AreAlikeButSecrets s.member_plans t.member_plans) (grows : GrowsTo s t b d) where
  -- of one that takes no step, by what is drawn, written down and given
  pub own_on : (k : ℕ) (drawn later : List (List ℕ)) (turns : List ChannelTurn) (given more : Given) (r : Option Running) → given_dials (Member k) more ≡ given_dials (Member k) given →
      StillDrawn drawn later → OnStanding (NoNewOn (marks_in b.sent) (marks_in d.sent)) (controller_asked (OfMember k) s) r →
      OwnBy (IsTakenFor (past_at plan s b)) (marks_in b.sent) drawn turns given (controller_asked (OfMember k) s) (OfMember k) r →
      OwnBy (IsTakenFor (past_at plan t d)) (marks_in d.sent) later turns more (controller_asked (OfMember k) t) (OfMember k) r
  own_on k drawn later turns given more None count still new old = (tt, tt)
  own_on k drawn later turns given more (Some running) count still new old = (
    old.0,
    subst (λ (c : ℕ). OwnCalls (IsTakenFor (past_at plan t d)) (marks_in d.sent) later turns more c (OfMember k) running) (sym (asked_stays k s t plans grows.ends))
        (own_grows (IsTakenFor (past_at plan s b)) (IsTakenFor (past_at plan t d)) (taken_for_stays plan s t b d grows) (marks_in b.sent) (marks_in d.sent) drawn later turns given more
        (controller_asked (OfMember k) s) (OfMember k) running (marks_still b.sent d.sent grows.sent) new count still old.1),
  )

  pub on_any : (controller : ℕ) (r : Option Running) → NoNewCalls (marks_in b.sent) (marks_in d.sent) → OnStanding (NoNewOn (marks_in b.sent) (marks_in d.sent)) controller r
  on_any controller None none = tt
  on_any controller (Some running) none = λ c stands n number timestamp e there client. none n number timestamp e there

  module _ (given more : Given) (drawn : StillDrawn s.chances.drawn t.chances.drawn) (turns : d.turns ≡ b.turns) where
    pub one_stays : (k : ℕ) (r : Option Running) → given_dials (Member k) more ≡ given_dials (Member k) given →
        OnStanding (NoNewOn (marks_in b.sent) (marks_in d.sent)) (controller_asked (OfMember k) s) r → OwnOf plan s given b (OfMember k) r → OwnOf plan t more d (OfMember k) r
    one_stays k r count new old =
        subst (λ (all : List ChannelTurn). OwnBy (IsTakenFor (past_at plan t d)) (marks_in d.sent) t.chances.drawn all more (controller_asked (OfMember k) t) (OfMember k) r) (sym turns)
        (own_on k s.chances.drawn t.chances.drawn b.turns given more r count drawn new old)

    pub before_stays : ((k : ℕ) → AreDrawn s.chances.drawn (mine (OfMember k) b.turns)) → (k : ℕ) → AreDrawn t.chances.drawn (mine (OfMember k) d.turns)
    before_stays all k =
        subst (λ (ts : List ChannelTurn). AreDrawn t.chances.drawn (mine (OfMember k) ts)) (sym turns)
        (still_drawn s.chances.drawn t.chances.drawn (mine (OfMember k) b.turns) drawn (all k))

    -- no member takes a step, and no call goes out
    pub all_stay : t.ends.members ≡ s.ends.members → ((k : ℕ) → given_dials (Member k) more ≡ given_dials (Member k) given) → NoNewCalls (marks_in b.sent) (marks_in d.sent) → OwnFacts plan s given b →
        OwnFacts plan t more d
    all_stay members count none old = record {
      before = before_stays old.before;
      asks = λ k.
          subst (OwnOf plan t more d (OfMember k)) (sym (asker_kept k s.ends t.ends members))
          (one_stays k (asker_in k s.ends) (count k) (on_any (controller_asked (OfMember k) s) (asker_in k s.ends) none) (old.asks k));
    }

    -- a member takes a step, and the others stay
    pub own_put : (at : ℕ) (new : MemberState) → OwnOf plan t more d (OfMember at) new.running → ((k : ℕ) → k ≢ at → given_dials (Member k) more ≡ given_dials (Member k) given) →
        ((k : ℕ) → k ≢ at → OnStanding (NoNewOn (marks_in b.sent) (marks_in d.sent)) (controller_asked (OfMember k) s) (asker_in k s.ends)) → OwnFacts plan s given b →
        (k : ℕ) → OwnOf plan t more d (OfMember k) (asker_in k (with_member at new s.ends))
    own_put at new own count none old =
        asker_put (λ (k : ℕ). OwnOf plan t more d (OfMember k)) at new s.ends (λ k. (tt, tt)) own
        (λ k differs. one_stays k (asker_in k s.ends) (count k differs) (none k differs) (old.asks k))

-- ---- a member takes a step

-- no whole unit comes on the link of its turn, if it runs
abbrev pub HearsIf : Option MemberState → Event → Type 0
HearsIf None what = Unit {0}
HearsIf (Some m) what = HearsNone m.running what

module _ (plan : Plan) (s : State) (given : Given) (b : Book) where
  -- one that runs, on the link of whose turn no whole unit comes
  quiet_own : (who : RequesterId) (controller : ℕ) (r : Option Running) (what : Event) → HearsNone r what →
      OwnBy (IsTakenFor (past_at plan s b)) (marks_in b.sent) s.chances.drawn b.turns given controller who r →
      let step = step_of (record { running = r }) what s.moment s.chances.left in
      Differ (s.chances.drawn ++ step.drawn) →
      OwnBy (IsTakenFor (past_at plan s b)) (marks_in b.sent) (s.chances.drawn ++ step.drawn) b.turns (given ++ given_by (asking_end who) (actions_by step.answer)) controller who
      step.state.running
  quiet_own who controller None what none old differ = (tt, tt)
  quiet_own who controller (Some running) what none old differ = (
    asks_what_waits.keeps (record { running = Some running }) running what s.moment s.chances.left refl old.0,
    own_quiet (IsTakenFor (past_at plan s b)) (marks_in b.sent) s.chances.drawn b.turns given controller who running what s.moment s.chances.left none old.0 old.1 differ,
  )

  abbrev HeardBy : MemberState → ℕ → Event → AfterHearing
  HeardBy m at what = heard_by (member_step (Some m) at what s.moment s.ends s.chances) s

  -- the other requesters stay as they are where a member hears
  pub member_hears : (m : MemberState) (at : ℕ) (what : Event) → slice_get s.ends.members at ≡ Some m → HearsNone m.running what → GrowsTo s (HeardBy m at what).state b b →
      (Differ s.chances.drawn → OwnFacts plan s given b) → Differ (HeardBy m at what).state.chances.drawn →
      OwnFacts plan (HeardBy m at what).state (given ++ given_by (Member at) (HeardBy m at what).actions) b
  member_hears m at what is none grows known differ =
      let step = step_of m what s.moment s.chances.left in
      let actions : List Action = actions_by step.answer in
      let t : State = (HeardBy m at what).state in
      let more : Given = given ++ given_by (Member at) actions in
      let still : StillDrawn s.chances.drawn t.chances.drawn = λ challenge was. drawn_still challenge s.chances.drawn step.drawn was in
      let old : OwnFacts plan s given b = known (differ_front s.chances.drawn step.drawn differ) in
      let its : ℕ = controller_asked (OfMember at) s in
      let was : OwnOf plan s given b (OfMember at) m.running = subst (λ (found : Option MemberState). OwnOf plan s given b (OfMember at) (running_in found)) is (old.asks at) in
      let own : OwnOf plan t more b (OfMember at) step.state.running =
      own_on plan s t b b refl grows at t.chances.drawn t.chances.drawn b.turns more more step.state.running refl (λ challenge drawn. drawn)
      (on_any plan s t b b refl grows its step.state.running (λ n number timestamp e there. there)) (quiet_own (OfMember at) its m.running what none was differ) in
      record {
        before = before_stays plan s t b b refl grows given more still refl old.before;
        asks = own_put plan s t b b refl grows given more still refl at step.state own
            (λ k differs. omega (arith, given_append (Member k) given (given_by (Member at) actions), given_other (Member k) (Member at) actions (not_that k at differs)))
            (λ k differs. on_any plan s t b b refl grows (controller_asked (OfMember k) s) (asker_in k s.ends) (λ n number timestamp e there. there)) old;
      }

-- What is known of the calls of members' turns is kept through all that happens in a run, where it is kept as bytes
-- come at a member. It serves `Proved.sequences`.
use Rattle.std.proofs.Common.{◌≡◌, ℕ, ◌+◌, ◌≤◌, false, List, [], ◌++◌, length, map, Option, Some, None, slice_get, refl, sym, subst, arith}
use Rattle.outside.specs.Drawing.{Drawing}
use Rattle.outside.specs.declared.event.Event.{Event}
use Rattle.channel_events.specs.Marks.{Mark, Calling}
use Rattle.member_server.specs.State.{State as MemberState}
use Rattle.member_server.specs.declared.state.Running.{Running}
use Rattle.step_notes.specs.Records.{Book, OfMember, Sent}
use Rattle.world_moves.specs.declared.links.EndId.{EndId}
use Rattle.world_moves.specs.declared.links.EndId.TheVariants.{Controller, Member, Client}
use Rattle.world_moves.specs.declared.plan.Plan.{Plan}
use Rattle.world_moves.specs.declared.state.State.{State}
use Rattle.world_moves.specs.Acting.{Given, given_by, heard_by}
use Rattle.world_moves.specs.Ends.{EndStep, client_step, no_step}
use Rattle.world_moves.specs.Alone.{alone_controller_step as controller_step, hear_alone as hear}
use Rattle.world_moves.proofs.EndKindLaws.{IfMember}
use Rattle.domain_world.specs.Accepting.SeenSteps.{Differ}
use Rattle.domain_world.specs.Accepting.Sequences.{IsTakenFor}
use Rattle.domain_world.specs.Past.{controller_asked, note_given, other_marks, sent_at, turns_in}
use Rattle.domain_world.proofs.Frames.AloneStepLaws.{alone_by as step_by}
use Rattle.domain_world.proofs.Acceptance.Turns.TurnFactLaws.{AreApart, MarksAreKnown, SameEnds, marks_before, past_at}
use Rattle.domain_world.proofs.Acceptance.Turns.TurnQuietLaws.{hear_grows, over_grows, step_same}
use Rattle.domain_world.proofs.Messages.MessageApartLaws.{links_in}
use Rattle.domain_world.proofs.Frames.StepFrameLaws.{RunFact}
use Rattle.domain_world.proofs.Moves.ComingLaws.{kept_same}
use Rattle.domain_world.proofs.Moves.LeftLaws.{DrawsOn, end_draws}
use Rattle.domain_world.proofs.Calls.CallFrameLaws.{other_calls}
use Rattle.domain_world.proofs.Calls.CallHoldsLaws.{differ_front, marks_append, marks_in}
use Rattle.domain_world.proofs.Calls.CallStepLaws.{most_steps}
use Rattle.domain_world.proofs.Calls.LooserLaws.{calls_before}
use Rattle.domain_world.proofs.Sequences.DialCountLaws.{given_append, given_dials, given_other}
use Rattle.domain_world.proofs.Sequences.DialWalkLaws.{AtState}
use Rattle.domain_world.proofs.Sequences.Own.OwnFrameLaws.{StillDrawn, TurnsHold, TurnsKnown}
use Rattle.domain_world.proofs.Sequences.Own.OwnOverLaws.{own_over}
use Rattle.domain_world.proofs.Sequences.Own.OwnRunLaws.{hold_over, turns_at}
use Rattle.domain_world.proofs.Sequences.Own.OwnStayLaws.{HearsIf, OwnFacts, all_stay, member_hears, OwnOf, own_on, on_any, NoNewCalls}
use Rattle.domain_world.proofs.Sequences.Own.OwnTurnLaws.{TurnsIf}
use Rattle.domain_world.proofs.Sequences.SeedTurnLaws.{drawn_still}
use Rattle.domain_world.proofs.Moves.RequesterLaws.{not_controller, not_client, asker_in}

-- ---- the fact

-- while few steps were taken, there was no clash, messages came on different links, what goes back was made by
-- controllers that are there, and the draws differ, which all hold of what is earlier where they hold of what is later
abbrev pub OwnHolds : Plan → RunFact
OwnHolds plan n s given b =
    n ≤ most_steps → b.clash ≡ false → AreApart (links_in b.messages) → MarksAreKnown s b → Differ s.chances.drawn → OwnFacts plan s given b

-- ---- what is drawn in a step

pub draws_still : (chances later : Drawing) → DrawsOn chances later → StillDrawn chances.drawn later.drawn
draws_still chances later on = subst (λ (all : List (List ℕ)). StillDrawn chances.drawn all) (sym on.is) (λ challenge was. drawn_still challenge chances.drawn on.more was)

pub draws_before : (chances later : Drawing) → DrawsOn chances later → Differ later.drawn → Differ chances.drawn
draws_before chances later on differ = differ_front chances.drawn on.more (subst Differ on.is differ)

-- ---- what is known of turns is kept

-- no whole unit comes on the link of its turn, where it is a member
abbrev pub HearsNoUnit : EndId → Event → State → Type 0
HearsNoUnit end what s = IfMember (λ (at : ℕ). HearsIf (slice_get s.ends.members at) what) end

module _ (plan : Plan) where
  -- an end that is no member
  others_hear : (end : EndId) (step : EndStep) (s : State) (given : Given) (b : Book) → step.ends.members ≡ s.ends.members → ((k : ℕ) → given_dials (Member k) (given_by end step.actions) ≡ 0) →
      SameEnds s.ends step.ends → DrawsOn s.chances step.chances → (Differ s.chances.drawn → OwnFacts plan s given b) → Differ step.chances.drawn →
      OwnFacts plan (heard_by step s).state (given ++ given_by end step.actions) b
  others_hear end step s given b members none same draws known differ =
      all_stay plan s (heard_by step s).state b b refl (record { bag = kept_same s.bag; sent = λ k one there. there; ends = same }) given (given ++ given_by end step.actions)
      (draws_still s.chances step.chances draws) refl members (λ k. omega (arith, given_append (Member k) given (given_by end step.actions), none k)) (λ n number timestamp e there. there)
      (known (draws_before s.chances step.chances draws differ))

  end_hears : (end : EndId) (what : Event) (s : State) (given : Given) (b : Book) → HearsNoUnit end what s → (Differ s.chances.drawn → OwnFacts plan s given b) →
      Differ (hear end what s).state.chances.drawn → OwnFacts plan (hear end what s).state (given ++ given_by end (hear end what s).actions) b
  end_hears end what s given b none known =
      step_by (λ (one : EndId) (step : EndStep).
      HearsNoUnit one what s → SameEnds s.ends step.ends → DrawsOn s.chances step.chances → Differ step.chances.drawn → OwnFacts plan (heard_by step s).state (given ++ given_by one step.actions) b)
      what s.moment s.ends s.chances (λ one its same draws. others_hear one (no_step s.ends s.chances) s given b refl (λ k. refl) same draws known)
      (λ at c is its same draws.
      others_hear (Controller at) (controller_step (Some c) at what s.moment s.ends s.chances) s given b refl (λ k. given_other (Member k) (Controller at) _ (not_controller k at)) same draws known)
      (λ at m is its same draws.
      member_hears plan s given b m at what is (subst (λ (found : Option MemberState). HearsIf found what) is (its at refl))
      (record { bag = kept_same s.bag; sent = λ k one there. there; ends = same }) known)
      (λ at c is its same draws. others_hear (Client at) (client_step (Some c) at what s.moment s.ends s.chances) s given b refl (λ k. given_other (Member k) (Client at) _ (not_client k at)) same draws known) end
      none (step_same end what s.moment s.ends s.chances) (end_draws end what s.moment s.ends s.chances)

  -- an end takes a step in which no whole unit comes on the link of a turn
  pub own_hears : (n : ℕ) (end : EndId) (what : Event) (s : State) (given : Given) (b : Book) → HearsNoUnit end what s → OwnHolds plan n s given b →
      OwnHolds plan (n + 1) (hear end what s).state (given ++ given_by end (hear end what s).actions) b
  own_hears n end what s given b none known few unclashed apart marks differ =
      end_hears end what s given b none
      (λ before. known (omega (arith, few)) unclashed apart (marks_before s (hear end what s).state b b (hear_grows end what s b b (λ k one there. there)) marks) before) differ

  -- ---- the move is over

  module _ (at : ℕ) (s : State) (given : Given) (b : Book) where
    abbrev d : Book
    d = note_given at given s b

    abbrev plain : List Sent
    plain = map (sent_at at) (other_marks b.forwards s (length b.sent))

    no_calls : NoNewCalls (marks_in b.sent) (marks_in d.sent)
    no_calls n number timestamp e there =
        calls_before (marks_in b.sent) (marks_in plain) (other_calls at b.forwards s (length b.sent)) n number timestamp e
        (subst (λ (all : List Mark). slice_get all n ≡ Some (Calling e number timestamp)) (marks_append b.sent plain) there)

    one_over : (k : ℕ) (r : Option Running) → asker_in k s.ends ≡ r → TurnsIf (OfMember k) (controller_asked (OfMember k) s) None [] s.dials s.chances.drawn given b.turns r →
        OwnOf plan s given b (OfMember k) r → OwnOf plan s [] d (OfMember k) r
    one_over k None runs turns old = (tt, tt)
    one_over k (Some running) runs turns old =
        own_on plan s s b d refl (over_grows at given s b) k s.chances.drawn s.chances.drawn (b.turns ++ turns_in given s) [] [] (Some running) refl (λ challenge drawn. drawn)
        (on_any plan s s b d refl (over_grows at given s b) (controller_asked (OfMember k) s) (Some running) no_calls)
        (old.0, own_over (IsTakenFor (past_at plan s b)) (marks_in b.sent) s given b.turns k running runs turns old.1)

    pub facts_over : TurnsHold None [] s.member_plans s.ends s.dials s.chances.drawn given b.turns → OwnFacts plan s given b → OwnFacts plan s [] d
    facts_over turns old = record {
      before = (hold_over s given b.turns turns).before;
      asks = λ k. one_over k (asker_in k s.ends) refl (turns_at s given b.turns turns k) (old.asks k);
    }

  pub own_ends : (n at : ℕ) (s : State) (given : Given) (b : Book) → AtState TurnsKnown None [] s given b.turns → OwnHolds plan n s given b → OwnHolds plan n s [] (note_given at given s b)
  own_ends n at s given b turns known few unclashed apart marks differ =
      facts_over at s given b (turns differ) (known few unclashed apart (marks_before s s b (note_given at given s b) (over_grows at given s b) marks) differ)

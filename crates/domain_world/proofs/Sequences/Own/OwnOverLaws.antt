-- At the end of a move, and after a run if each step keeps it, what is known of the calls of a member's turns is
-- known with the turns of the move written down: it dialled once at most, and then its dial waits.
-- It serves `Proved.sequences`.
use Rattle.std.proofs.Common.{◌≡◌, ℕ, ◌≤◌, List, [], ◌++◌, inl, inr, Some, None, sym, ◌∙◌, arith}
use Rattle.channel_events.specs.Marks.{Mark}
use Rattle.member_server.specs.declared.state.Running.{Running}
use Rattle.step_notes.specs.MemberNotes.{turn_of}
use Rattle.step_notes.specs.Records.{Book, ChannelTurn, OfMember, RequesterId, blank}
use Rattle.world_moves.specs.declared.moves.Move.{Move}
use Rattle.world_moves.specs.declared.plan.Plan.{Plan}
use Rattle.world_moves.specs.declared.state.State.{State}
use Rattle.world_moves.specs.Acting.{Given}
use Rattle.world_moves.specs.Alone.{IsPlainAlone}
use Rattle.world_moves.specs.Plain.{plain_world}
use Rattle.domain_world.specs.Past.{note_given, turns_in, controller_asked}
use Rattle.domain_world.proofs.Frames.ByKindLaws.{alone_kinds}
use Rattle.domain_world.proofs.Frames.MoveKeepLaws.{alone}
use Rattle.domain_world.proofs.Frames.StepFrameLaws.{ActionFact, HoldsAfterRun, KeepsWith, NoFact, RunFact, run_beside}
use Rattle.domain_world.proofs.Sequences.CalledStepLaws.{OwnCalls}
use Rattle.domain_world.proofs.Sequences.DialCountLaws.{given_dials}
use Rattle.domain_world.proofs.Sequences.DialWalkLaws.{AtState, OfDials, dials_keep}
use Rattle.domain_world.proofs.Sequences.Own.OwnFrameLaws.{TurnsKnown}
use Rattle.domain_world.proofs.Sequences.Own.OwnRunLaws.{first_known, turns_keep, all_turns}
use Rattle.domain_world.proofs.Sequences.Own.OwnTurnLaws.{TurnsOf, mine, no_times, none_or_one, one_time, times}
use Rattle.domain_world.proofs.Moves.PlacedLaws.{HasBytes}
use Rattle.domain_world.proofs.Moves.RequesterLaws.{asking_end, asker_in}

-- ---- of one member

pub own_over : (Done : ℕ → Type 0) (marks : List Mark) (s : State) (given : Given) (turns : List ChannelTurn) (k : ℕ) (running : Running) → asker_in k s.ends ≡ Some running →
    TurnsOf (OfMember k) (controller_asked (OfMember k) s) None [] s.dials s.chances.drawn given turns running →
    OwnCalls Done marks s.chances.drawn turns given (controller_asked (OfMember k) s) (OfMember k) running →
    OwnCalls Done marks s.chances.drawn (turns ++ turns_in given s) [] (controller_asked (OfMember k) s) (OfMember k) running
own_over Done marks s given turns k running runs dials old =
    let who : RequesterId = OfMember k in
    let turn : List ChannelTurn = turn_of (controller_asked who s) who running.logons.channel in
    let all : mine who (turns ++ turns_in given s) ≡ mine who turns ++ times (given_dials (asking_end who) given) turn = all_turns s k running turns given runs in
    let own : old.own ≡ mine who turns ++ times (given_dials (asking_end who) given) turn =
    elim (none_or_one (given_dials (asking_end who) given) dials.given_once) [
      | inl none ↦ old.none none ∙ sym (no_times (given_dials (asking_end who) given) turn (mine who turns) none)
      | inr one ↦
          (let some : 1 ≤ given_dials (asking_end who) given = omega (arith, one) in
          old.one one (dials.given_waits some).0 ∙ sym (one_time (given_dials (asking_end who) given) turn (mine who turns) one))
    ] in
    record {
      own = old.own;
      none = λ none. own ∙ sym all;
      one = λ one waits. absurd (let x = one in cc);
      before = old.before;
      turned = old.turned;
      calls = old.calls;
    }

-- ---- through a run

-- where a fact is kept by each step, and at the end of a move by what is known of its dials, it holds after the run
pub own_run : {Over : Type 0} → (Holds : RunFact) (Fine : ActionFact) → KeepsWith Over NoFact Holds Fine →
    ((n at : ℕ) (s : State) (given : Given) (b : Book) → AtState TurnsKnown None [] s given b.turns → Holds n s given b → Holds n s [] (note_given at given s b)) →
    (plan : Plan) (moves : List Move) → IsPlainAlone plan → HasBytes plan moves → Holds 0 (plain_world plan).state [] blank → HoldsAfterRun Holds plan moves
own_run Holds Fine keeps over plan moves nobody has first =
    run_beside Holds Fine keeps (OfDials TurnsKnown) (dials_keep alone alone_kinds TurnsKnown (turns_keep alone alone_kinds) (Unit {0}))
    (λ n at on s given b known holds. over n at s given b known holds) plan moves nobody has (λ on. first_known plan) first

-- What holds through the moves of every world of its controllers, of what was drawn and is left, and of a part of the
-- book that controllers' bytes change alone, whether controllers hand logons on or not: whatever holds through each
-- step of a controller, and as others draw. It is an instance of `EndFrameLaws`. It serves `Proved.grants`,
-- `Proved.tables` and `Proved.replays`.
use Rattle.std.proofs.Common.{false, ◌≡◌, ℕ, Bool, List, length, Some, slice_get, slice_set, sym, subst}
use Rattle.outside.specs.Drawing.{Drawing}
use Rattle.outside.specs.declared.action.Action.{Action}
use Rattle.outside.specs.declared.event.Event.{Event}
use Rattle.outside.specs.declared.event.Event.TheVariants as event
use Rattle.domain_controller.specs.State.{State as ControllerState}
use Rattle.domain_controller.specs.TrustStep.{trust_step_of as step_of}
use Rattle.step_notes.specs.Records.{Book, blank}
use Rattle.world_moves.specs.declared.links.EndId.{EndId}
use Rattle.world_moves.specs.declared.moves.Move.{Move}
use Rattle.world_moves.specs.declared.plan.Plan.{Plan}
use Rattle.world_moves.specs.declared.state.State.{State}
use Rattle.world_moves.specs.Acting.{Given}
use Rattle.world_moves.specs.Ends.{EndStates, EndStep, drawn_on, fresh_controller}
use Rattle.world_moves.specs.Links.{acceptor_of}
use Rattle.world_moves.specs.Moving.{with_link}
use Rattle.world_moves.proofs.ChangeLaws.{by_change}
use Rattle.world_moves.specs.Plain.{IsPlainPlan, hear_plain as hear, plain_world}
use Rattle.world_moves.proofs.PlainKindLaws.{plain_by as step_by, renew_plain_by as renew_by}
use Rattle.domain_world.specs.Past.{Delivery, note_at, note_controller, note_given, past}
use Rattle.domain_world.proofs.Frames.ControllerFrameLaws.{ControllersFact}
use Rattle.domain_world.proofs.Frames.EndFrameLaws.{EndFact, KeepsEndsBy, every_ends_after}
use Rattle.domain_world.proofs.Frames.EndNoteLaws.{OfControllers}
use Rattle.domain_world.proofs.Frames.EventLaws.{calm_no_bytes}
use Rattle.domain_world.proofs.Frames.EveryStepLaws.{act_plain as hear_and_act, every_draws, every_noted}
use Rattle.domain_world.proofs.Frames.MoveKeepLaws.{every}
use Rattle.domain_world.proofs.Moves.LeftLaws.{DrawsOn}
use Rattle.domain_world.proofs.Moves.NoBytesLaws.{IsNoBytes}

-- a fact of controllers, once a controller took a step
abbrev pub TrustingStepped : ControllersFact → ControllerState → ℕ → Event → ℕ → List ControllerState → Drawing → Type 0
TrustingStepped Fits c at what now controllers chances =
    Fits (slice_set controllers at (step_of c what now chances.left).state) (drawn_on chances (step_of c what now chances.left).drawn (step_of c what now chances.left).left)

pub record KeepsTrusting {X : Type 0} (part : Book → X) (Fits : X → ControllersFact) : Type 0 where
  -- the part is of controllers alone, also where a move is over
  pub of : OfControllers part
  pub given : (at : ℕ) (given : Given) (after : State) (b : Book) → part (note_given at given after b) ≡ part b
  -- others draw
  pub draws : (x : X) (controllers : List ControllerState) (chances later : Drawing) → DrawsOn chances later → Fits x controllers chances → Fits x controllers later
  -- a controller takes a step at which no bytes come
  pub hears : (x : X) (c : ControllerState) (at : ℕ) (what : Event) (now : ℕ) (controllers : List ControllerState) (chances : Drawing) → IsNoBytes what → slice_get controllers at ≡ Some c →
      Fits x controllers chances → TrustingStepped (Fits x) c at what now controllers chances
  -- a controller hears bytes
  pub comes : (c : ControllerState) (at : ℕ) (w : Delivery) (piece : List ℕ) (s after : State) (b : Book) → slice_get s.ends.controllers at ≡ Some c →
      Fits (part b) s.ends.controllers s.chances →
      TrustingStepped (Fits (part (note_controller (Some c) at w piece s after b))) c at (event.Bytes w.link piece) s.moment s.ends.controllers s.chances
  -- a controller is made anew
  pub anew : (x : X) (c : ControllerState) (at : ℕ) (hands_on : Bool) (controllers : List ControllerState) (chances : Drawing) → slice_get controllers at ≡ Some c → Fits x controllers chances →
      Fits x (slice_set controllers at (fresh_controller hands_on false c.table c.name)) chances

module _ {X : Type 0} (part : Book → X) (Fits : X → ControllersFact) (keeps : KeepsTrusting part Fits) where
  abbrev OfTrusting : EndFact
  OfTrusting at on now given b = Fits (part b) now.ends.controllers now.chances

  end_hears : (x : X) (end : EndId) (what : Event) (s : State) → IsNoBytes what → Fits x s.ends.controllers s.chances →
      Fits x (hear end what s).state.ends.controllers (hear end what s).state.chances
  end_hears x end what s none fits =
      step_by (λ (one : EndId) (step : EndStep). DrawsOn s.chances step.chances → Fits x step.ends.controllers step.chances) what s.moment s.ends s.chances (λ one draws. fits)
      (λ at c is draws. keeps.hears x c at what s.moment s.ends.controllers s.chances none is fits) (λ at m is draws. keeps.draws x s.ends.controllers s.chances _ draws fits)
      (λ at c is draws. keeps.draws x s.ends.controllers s.chances _ draws fits) end (every_draws end what s.moment s.ends s.chances)

  -- what holds of controllers is kept where another part is the same, and others draw
  others_keep : (x now : X) (controllers : List ControllerState) (chances later : Drawing) → now ≡ x → DrawsOn chances later → Fits x controllers chances → Fits now controllers later
  others_keep x now controllers chances later same draws fits =
      subst (λ (one : X). Fits one controllers later) (sym same) (keeps.draws x controllers chances later draws fits)

  end_comes : (end : EndId) (w : Delivery) (piece : List ℕ) (s after : State) (b : Book) → Fits (part b) s.ends.controllers s.chances →
      let heard = hear end (event.Bytes w.link piece) s in Fits (part (note_at (Some end) w piece s after b)) heard.state.ends.controllers heard.state.chances
  end_comes end w piece s after b fits =
      every_noted (λ (one : EndId) (step : EndStep) (now : Book). DrawsOn s.chances step.chances → Fits (part now) step.ends.controllers step.chances) w piece s after b (λ one draws. fits)
      (λ at c is draws. keeps.comes c at w piece s after b is fits)
      (λ at m is draws. others_keep (part b) _ s.ends.controllers s.chances _ (keeps.of.members m at w piece s after b) draws fits)
      (λ at c is draws. others_keep (part b) _ s.ends.controllers s.chances _ (keeps.of.clients c at w piece s b) draws fits) end
      (every_draws end (event.Bytes w.link piece) s.moment s.ends s.chances)

  trusting_keeps : KeepsEndsBy every OfTrusting
  trusting_keeps = record {
    calm = λ at on end what s given b calm fits. end_hears (part b) end what s (calm_no_bytes what calm) fits;
    dialled = λ at end link s given b side fits. end_hears (part b) end (event.Dialled link) s tt fits;
    opens = λ at route s given b fits. end_hears (part b) (acceptor_of route) (event.Opened (length s.links)) (with_link route s) tt fits;
    begins = λ at client plan s b is fits. fits;
    comes = λ end w piece s given b side came fits. end_comes end w piece s (hear_and_act end (event.Bytes w.link piece) s).state b fits;
    renews = λ at end s b fits.
        renew_by (λ (one : EndId) (ends : EndStates). Fits (part b) ends.controllers s.chances) s (λ one. fits)
        (λ k c is. keeps.anew (part b) c k s.hands_on s.ends.controllers s.chances is fits) (λ k plan is. fits) (λ k plan is. fits) end;
    changes = λ at member secret s b fits.
        by_change (λ (ends : EndStates) (actions : List Action). Fits (part b) ends.controllers s.chances) member secret s.ends fits (λ running is none. fits);
    over = λ at on next s given b fits. subst (λ (x : X). Fits x s.ends.controllers s.chances) (sym (keeps.given at given s b)) fits;
  }

  -- in every run of a plain plan
  pub controllers_after : (plan : Plan) (moves : List Move) → IsPlainPlan plan → Fits (part blank) (plain_world plan).state.ends.controllers (plain_world plan).state.chances →
      Fits (part (past plan moves).book) (past plan moves).world.state.ends.controllers (past plan moves).world.state.chances
  controllers_after plan moves nothing fits = every_ends_after OfTrusting trusting_keeps plan moves nothing (λ on. fits)

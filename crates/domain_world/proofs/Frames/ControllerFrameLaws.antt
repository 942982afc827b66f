-- What holds through the moves of a world of its controllers, of what was drawn and is left, and of a part of the book
-- that controllers' bytes change alone: whatever holds through each step of a controller, and as others draw. It is an
-- instance of `FrameLaws`. It serves `Proved.grants`, `Proved.openings`, `Proved.tables` and
-- `Proved.replays`.
use Rattle.std.proofs.Common.{◌≡◌, ℕ, List, length, Some, slice_get, slice_set, sym, subst}
use Rattle.outside.specs.Drawing.{Drawing}
use Rattle.outside.specs.declared.event.Event.{Event}
use Rattle.outside.specs.declared.event.Event.TheVariants as event
use Rattle.domain_controller.specs.State.{State as ControllerState}
use Rattle.domain_controller.specs.Step.{first_state, step_of}
use Rattle.step_notes.specs.Records.{Book}
use Rattle.world_moves.specs.declared.links.EndId.{EndId}
use Rattle.world_moves.specs.declared.state.State.{State}
use Rattle.world_moves.specs.Acting.{Given}
use Rattle.world_moves.specs.Ends.{EndStates, EndStep, drawn_on}
use Rattle.world_moves.specs.Links.{acceptor_of}
use Rattle.world_moves.specs.Alone.{alone_end_step as end_step}
use Rattle.domain_world.specs.Past.{Delivery, note_given}
use Rattle.domain_world.proofs.Frames.AloneNoteLaws.{note_alone as note_at, note_controller_alone as note_controller}
use Rattle.domain_world.proofs.Frames.AloneStepLaws.{alone_by as step_by}
use Rattle.domain_world.proofs.Frames.EndNoteLaws.{OfControllers, noted_by}
use Rattle.domain_world.proofs.Frames.FrameLaws.{Fact, HoldsAfter, HoldsIn, StaysWritten}
use Rattle.domain_world.proofs.Moves.LeftLaws.{DrawsOn, end_draws}
use Rattle.domain_world.proofs.Moves.NoBytesLaws.{IsNoBytes}
use Rattle.domain_world.proofs.Frames.EventLaws.{quiet_no_bytes}

-- of the controllers, and what was drawn and is left
abbrev pub ControllersFact : Type 1
ControllersFact = List ControllerState → Drawing → Type 0

-- a fact of controllers, once a controller took a step
abbrev pub ControllerStepped : ControllersFact → ControllerState → ℕ → Event → ℕ → List ControllerState → Drawing → Type 0
ControllerStepped Fits c at what now controllers chances =
    Fits (slice_set controllers at (step_of c what now chances.left).state) (drawn_on chances (step_of c what now chances.left).drawn (step_of c what now chances.left).left)

pub record KeepsControllers {X : Type 0} (part : Book → X) (Fits : X → ControllersFact) : Type 0 where
  -- the part is of controllers alone, also where a move is over
  pub of : OfControllers part
  pub given : (at : ℕ) (given : Given) (after : State) (b : Book) → part (note_given at given after b) ≡ part b
  -- others draw
  pub draws : (x : X) (controllers : List ControllerState) (chances later : Drawing) → DrawsOn chances later → Fits x controllers chances → Fits x controllers later
  -- a controller takes a step at which no bytes come
  pub hears : (x : X) (c : ControllerState) (at : ℕ) (what : Event) (now : ℕ) (controllers : List ControllerState) (chances : Drawing) → IsNoBytes what → slice_get controllers at ≡ Some c →
      Fits x controllers chances → ControllerStepped (Fits x) c at what now controllers chances
  -- a controller hears bytes
  pub comes : (c : ControllerState) (at : ℕ) (w : Delivery) (piece : List ℕ) (s after : State) (b : Book) → slice_get s.ends.controllers at ≡ Some c →
      Fits (part b) s.ends.controllers s.chances →
      ControllerStepped (Fits (part (note_controller (Some c) at w piece s after b))) c at (event.Bytes w.link piece) s.moment s.ends.controllers s.chances
  -- a controller is made anew
  pub anew : (x : X) (c : ControllerState) (at : ℕ) (controllers : List ControllerState) (chances : Drawing) → slice_get controllers at ≡ Some c → Fits x controllers chances →
      Fits x (slice_set controllers at (first_state c.table c.name)) chances

module _ {X : Type 0} (part : Book → X) (Fits : X → ControllersFact) (keeps : KeepsControllers part Fits) where
  -- a fact of controllers, as one of all ends
  abbrev pub AmongControllers : X → Fact
  AmongControllers x ends chances links = Fits x ends.controllers chances

  hear_keeps : (x : X) (end : EndId) (what : Event) (now : ℕ) (ends : EndStates) (chances : Drawing) → IsNoBytes what → Fits x ends.controllers chances →
      Fits x (end_step end what now ends chances).ends.controllers (end_step end what now ends chances).chances
  hear_keeps x end what now ends chances none fits =
      step_by (λ (one : EndId) (step : EndStep). DrawsOn chances step.chances → Fits x step.ends.controllers step.chances) what now ends chances (λ one draws. fits)
      (λ at c is draws. keeps.hears x c at what now ends.controllers chances none is fits) (λ at m is draws. keeps.draws x ends.controllers chances _ draws fits)
      (λ at c is draws. keeps.draws x ends.controllers chances _ draws fits) end (end_draws end what now ends chances)

  -- what holds of controllers is kept where another part is the same, and others draw
  others_keep : (x now : X) (controllers : List ControllerState) (chances later : Drawing) → now ≡ x → DrawsOn chances later → Fits x controllers chances → Fits now controllers later
  others_keep x now controllers chances later same draws fits =
      subst (λ (one : X). Fits one controllers later) (sym same) (keeps.draws x controllers chances later draws fits)

  bytes_keep : (end : EndId) (w : Delivery) (piece : List ℕ) (s after : State) (b : Book) → HoldsIn (AmongControllers (part b)) s →
      HoldsAfter (AmongControllers (part (note_at (Some end) w piece s after b))) (end_step end (event.Bytes w.link piece) s.moment s.ends s.chances) s.links
  bytes_keep end w piece s after b fits =
      noted_by (λ (one : EndId) (step : EndStep) (now : Book). DrawsOn s.chances step.chances → Fits (part now) step.ends.controllers step.chances) w piece s after b (λ one draws. fits)
      (λ at c is draws. keeps.comes c at w piece s after b is fits)
      (λ at m is draws. others_keep (part b) _ s.ends.controllers s.chances _ (keeps.of.members m at w piece s after b) draws fits)
      (λ at c is draws. others_keep (part b) _ s.ends.controllers s.chances _ (keeps.of.clients c at w piece s b) draws fits) end
      (end_draws end (event.Bytes w.link piece) s.moment s.ends s.chances)

  pub controllers_written : StaysWritten part AmongControllers
  controllers_written = record {
    stays = λ x. record {
      hears = λ end what now ends chances links quiet fits. hear_keeps x end what now ends chances (quiet_no_bytes what quiet) fits;
      opens = λ route now ends chances links fits. hear_keeps x (acceptor_of route) (event.Opened (length links)) now ends chances tt fits;
      controllers = λ c at ends chances links is fits. keeps.anew x c at ends.controllers chances is fits;
      members = λ plan at ends chances links fits. fits;
      changes = λ secret running at ends chances links is none fits. fits;
      clients = λ client at ends chances links fits. fits;
    };
    bytes = bytes_keep;
    given = keeps.given;
  }

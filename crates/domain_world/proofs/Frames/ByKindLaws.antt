-- What a step of an end comes to by its kind, where it doesn't matter what a controller does: in every plain world, and
-- in one whose controllers ask nobody besides. Whatever holds of each kind of step holds in both.
-- It serves `Proved.own` and the laws of members' turns.
use Rattle.std.proofs.Common.{◌≡◌, ℕ, false, List, Some, slice_get, slice_set}
use Rattle.outside.specs.Machine.{Stepped}
use Rattle.outside.specs.declared.event.Event.{Event}
use Rattle.domain_controller.specs.State.{State as ControllerState}
use Rattle.domain_controller.specs.Step.{first_state, step_of as alone_step_of}
use Rattle.domain_controller.specs.TrustStep.{trust_step_of}
use Rattle.logon_client.specs.Machine.{fresh_client, step_of as client_step_of}
use Rattle.logon_client.specs.State.{State as ClientState}
use Rattle.member_server.specs.Machine.{fresh_member, step_of as member_step_of}
use Rattle.member_server.specs.State.{State as MemberState}
use Rattle.member_server.specs.declared.plan.MemberPlan.{MemberPlan}
use Rattle.step_notes.specs.Records.{Book}
use Rattle.world_moves.specs.declared.links.EndId.{EndId}
use Rattle.world_moves.specs.declared.links.EndId.TheVariants.{Controller, Member, Client}
use Rattle.world_moves.specs.declared.state.State.{State}
use Rattle.world_moves.specs.Acting.{AfterHearing, heard_by}
use Rattle.world_moves.specs.Ends.{EndStates, EndStep, client_done, controller_done, fresh_controller, member_done, no_step, with_client, with_member}
use Rattle.world_moves.proofs.PlainKindLaws.{plain_by, renew_plain_by}
use Rattle.domain_world.specs.Past.{Delivery}
use Rattle.domain_world.proofs.Frames.AloneStepLaws.{alone_by, renew_alone_by}
use Rattle.domain_world.proofs.Frames.EndNoteLaws.{bytes_turns as alone_turns}
use Rattle.domain_world.proofs.Frames.EveryStepLaws.{bytes_turns as every_turns}
use Rattle.domain_world.proofs.Frames.MoveKeepLaws.{How, alone, every}

-- ---- what is known of each kind

-- the state with that controller in place of the one of that number
abbrev pub put_controller : ℕ → ControllerState → State → State
put_controller at new s = record s { ends = record s.ends { controllers = slice_set s.ends.controllers at new } }

-- An end that isn't there does nothing. A controller or a client takes some step in its own place; a member takes its
-- own machine's. What is written down of bytes leaves the turns that are written down.
pub record StepsByKind (how : How) : Type 1 where
  pub hears : (P : EndId → AfterHearing → Type 0) (what : Event) (s : State) → ((end : EndId) → P end (heard_by (no_step s.ends s.chances) s)) →
      ((at : ℕ) (c : ControllerState) (step : Stepped ControllerState) → slice_get s.ends.controllers at ≡ Some c →
      P (Controller at) (heard_by (controller_done step at s.ends s.chances) s)) →
      ((at : ℕ) (m : MemberState) → slice_get s.ends.members at ≡ Some m →
      P (Member at) (heard_by (member_done (member_step_of m what s.moment s.chances.left) at s.ends s.chances) s)) →
      ((at : ℕ) (c : ClientState) (step : Stepped ClientState) → slice_get s.ends.clients at ≡ Some c →
      P (Client at) (heard_by (client_done step at s.ends s.chances) s)) →
      (end : EndId) → P end (how.hears end what s)
  pub renews : (P : EndId → State → Type 0) (s : State) → ((end : EndId) → P end s) →
      ((at : ℕ) (c new : ControllerState) → slice_get s.ends.controllers at ≡ Some c → P (Controller at) (put_controller at new s)) →
      ((at : ℕ) (plan : MemberPlan) → slice_get s.member_plans at ≡ Some plan → P (Member at) (record s { ends = with_member at (fresh_member plan) s.ends })) →
      ((at : ℕ) (new : ClientState) → P (Client at) (record s { ends = with_client at new s.ends })) →
      (end : EndId) → P end (how.renews end s)
  pub turns : (end : EndId) (w : Delivery) (piece : List ℕ) (s after : State) (b : Book) → (how.notes (Some end) w piece s after b).turns ≡ b.turns

-- ---- in both kinds of world

pub every_kinds : StepsByKind every
every_kinds = record {
  hears = λ P what s none controllers members clients end.
      plain_by (λ (one : EndId) (step : EndStep). P one (heard_by step s)) what s.moment s.ends s.chances none
      (λ at c is. controllers at c (trust_step_of c what s.moment s.chances.left) is) members
      (λ at c is. clients at c (client_step_of c what s.moment s.chances.left) is) end;
  renews = λ P s none controllers members clients end.
      renew_plain_by (λ (one : EndId) (ends : EndStates). P one (record s { ends = ends })) s none
      (λ at c is. controllers at c (fresh_controller s.hands_on false c.table c.name) is) members (λ at plan is. clients at (fresh_client plan)) end;
  turns = every_turns;
}

pub alone_kinds : StepsByKind alone
alone_kinds = record {
  hears = λ P what s none controllers members clients end.
      alone_by (λ (one : EndId) (step : EndStep). P one (heard_by step s)) what s.moment s.ends s.chances none
      (λ at c is. controllers at c (alone_step_of c what s.moment s.chances.left) is) members
      (λ at c is. clients at c (client_step_of c what s.moment s.chances.left) is) end;
  renews = λ P s none controllers members clients end.
      renew_alone_by (λ (one : EndId) (ends : EndStates). P one (record s { ends = ends })) s none
      (λ at c is. controllers at c (first_state c.table c.name) is) members (λ at plan is. clients at (fresh_client plan)) end;
  turns = alone_turns;
}

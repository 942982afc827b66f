-- That the calls on secure channels which a controller judges are judged in ranges: by accounts and a name that are in
-- theirs, at a moment of 64 bits; and that the reply to one that passed is read as it was made (MS-NRPC 3.5.4.4.6,
-- 3.5.4.5.3, 3.5.4.5.4; what is claimed is this project's own choice, in the standard's terms).
use Rattle.std.specs.Prelude.{ℕ, ◌≡◌, ◌<◌, ◌^◌, List, Ok, map}
use Rattle.std.specs.List.{AllByRecursion}
use Rattle.wire_base.specs.Names.{IsName}
use Rattle.rpc_units.specs.declared.unit.Unit.{Unit as RpcUnit}
use Rattle.rpc_units.specs.Calls.{IsHeard}
use Rattle.rpc_units.specs.Joining.{stub_of}
use Rattle.logon_stubs.specs.Calls.{reply_of}
use Rattle.logon_stubs.specs.Parts.{IfThere}
use Rattle.logon_stubs.specs.declared.calls.LogonCall.{LogonCall}
use Rattle.domain_controller.specs.ReadBack.{heard_reply}
use Rattle.domain_controller.specs.State.{State as ControllerState}
use Rattle.domain_controller.specs.Whole.{AreChallenges, InRangeState, InRangeTable}
use Rattle.step_notes.specs.ControllerNotes.{Answered, answer_on, units_of_controller}
use Rattle.step_notes.specs.Records.{IfNetwork, Judging, Source}
use Rattle.controller_calls.specs.declared.calls.JudgedCall.{JudgedCall}
use Rattle.step_notes.specs.ReplySends.{IsItsReply, reply_passed, standing_at, stub_passed}

pub record IsJudgedInRange (j : Judging) : Type 0 where
  pub table : InRangeTable j.table
  pub name : IsName j.name
  pub moment : j.moment < 2 ^ 64

-- the level of a network logon has 16 bits: one of more would be written as another one
abbrev pub HasLevel : JudgedCall → Type 0
HasLevel asked = IfNetwork (λ (c : LogonCall). c.validation < 2 ^ 16) asked

-- The bytes of the reply to a call that passed, where they are those of one whole unit: that unit is the reply, and the
-- stub of the reply to a network logon is read as that reply.
pub record IsReadAsMade (j : Judging) (bytes : List ℕ) (is : IsItsReply j bytes) (unit : RpcUnit) : Type 0 where
  pub unit_is : unit ≡ heard_reply j.number is.context (stub_passed j is.next.channel is.next.given)
  pub read : IfNetwork (λ (c : LogonCall). reply_of 2 (stub_of unit.body) ≡ Ok (reply_passed j c is.next.channel is.next.given)) j.asked

pub record PassedRepliesAreRead : Type 0 where
  -- whatever bytes come at a controller that has its ranges
  pub judged : (c : ControllerState) (at controller : ℕ) (source : Source) (link : ℕ) (piece : List ℕ) (now : ℕ) (left : List (List ℕ)) →
      InRangeState c → now < 2 ^ 64 → AreChallenges left →
      AllByRecursion (λ (one : Answered). IfThere IsJudgedInRange one.judging)
      (map (answer_on link (standing_at at controller source c now)) (units_of_controller c link piece now left))
  pub read : (j : Judging) (bytes : List ℕ) (is : IsItsReply j bytes) (frames : List RpcUnit) (unit : RpcUnit) →
      IsJudgedInRange j → HasLevel j.asked → IsHeard bytes frames unit → IsReadAsMade j bytes is unit

-- The openings that controllers accepted, as they stand beside the requests that members made (MS-NRPC 3.5.4.4.3; what
-- is claimed is this project's own choice).
use Rattle.std.specs.Prelude.{ℕ, ◌≡◌, ◌≢◌, Bool, true, false, List, map, Some, slice_get}
use Rattle.std.specs.List.{AllByRecursion}
use Rattle.authenticators.specs.Channels.{ChannelIdentity}
use Rattle.wire_base.specs.Names.{SameName}
use Rattle.channel_events.specs.AcceptedOrder.{Accepted, AreInOrder, IsLast, IsMade, IsOf}
use Rattle.channel_events.specs.Requests.{Requests}
use Rattle.member_server.specs.declared.plan.MemberPlan.{MemberPlan}
use Rattle.step_notes.specs.Records.{ChannelAccepted, InUnit, OfMember, Outside, Sent, Source}
use Rattle.world_moves.specs.declared.plan.Plan.{Plan}
use Rattle.domain_world.specs.Accepting.Runs.{view_with}
use Rattle.domain_world.specs.Claims.Openings.{KeepsAt}
use Rattle.domain_world.specs.Past.{Past, controller_of, requester_at}

abbrev pub is_in_unit : Source → Bool
is_in_unit (InUnit number) = true
is_in_unit Outside = false

-- the channels, and whether the call came in a unit of the bag; the newest first
abbrev pub accepted_in : List ChannelAccepted → List Accepted
accepted_in accepted = map (λ (one : ChannelAccepted). record { channel = one.channel; in_unit = is_in_unit one.source }) accepted

-- the channel is of that computer, and was accepted last for it
pub record IsLastOf (controller : ℕ) (computer : List ℕ) (channel : ChannelIdentity) (accepted : List Accepted) : Type 0 where
  pub of : IsOf controller computer channel
  pub last : IsLast controller computer channel accepted

-- The channel that a controller keeps for a computer is the one that was accepted last for it.
abbrev pub KeptAreLast : Past → Type 0
KeptAreLast past =
    (controller : ℕ) (computer : List ℕ) (channel : ChannelIdentity) → KeepsAt past.world.state.ends.controllers controller computer channel →
    IsLastOf controller computer channel (accepted_in past.book.accepted)

-- Without a clash each opening that was accepted, and came in a unit of the bag, was made in one, for its channel.
abbrev pub OpeningsAreMade : Past → Type 0
OpeningsAreMade past =
    past.book.clash ≡ false → AllByRecursion (λ (one : Accepted). one.in_unit ≡ true → IsMade (map (λ (sent : Sent). sent.mark) past.book.sent) one.channel) (accepted_in past.book.accepted)

-- what members hold, and what units of the bag were made for, at the end of a run
abbrev pub requests_of : Past → Requests ℕ
requests_of past = record {
  views = λ k. view_with (controller_of k past.world.state) (requester_at past.world.state (OfMember k));
  marks = map (λ (sent : Sent). sent.mark) past.book.sent;
  drawn = past.world.state.chances.drawn;
  uses = 0;
}

-- no other member has that name of a computer
abbrev pub AsksAlone : Plan → ℕ → List ℕ → Type 0
AsksAlone plan member computer =
    (other : ℕ) (own : MemberPlan) → slice_get plan.members other ≡ Some own → other ≢ member → SameName own.computer computer → ⊥

-- Without a clash channels are accepted in the order in which a member opens them, whose name no other has, and with
-- whatever controller: none that was replaced has a call later.
abbrev pub MembersOpenInOrder : Past → Type 0
MembersOpenInOrder past =
    past.book.clash ≡ false → (member controller : ℕ) (own : MemberPlan) → slice_get past.plan.members member ≡ Some own → AsksAlone past.plan member own.computer →
    AreInOrder (requests_of past) member controller own.computer (accepted_in past.book.accepted)

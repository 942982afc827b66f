-- Channels with types, and calls on them, that were written down by hand (this project's own choice).
use Rattle.std.specs.Prelude.{ℕ, true, false, List, [], ◌∷◌, Option, Some, None, codes, replicate}
use Rattle.channel_keys.specs.ChannelTypes.{backup_controller_channel, trusted_domain_channel, workstation_channel}
use Rattle.authenticators.specs.SecureChannels.{SecureChannelState}
use Rattle.outside.specs.declared.action.Judged.TheVariants as judged
use Rattle.channel_client.specs.Machine.{fresh_requester}
use Rattle.channel_client.specs.State.{Requester}
use Rattle.channel_turns.specs.declared.state.Dialling.TheVariants as dialling
use Rattle.controller_calls.specs.declared.state.Computers.{Computers}
use Rattle.domain_controller.specs.State.{State as ControllerState}
use Rattle.domain_controller.specs.Trusting.{no_trusting}
use Rattle.member_server.specs.Machine.{caller_of}
use Rattle.member_server.specs.State.{State as MemberState}
use Rattle.channel_events.specs.Marks.{Calling, Mark, Opening, Plain}
use Rattle.step_notes.specs.Records.{ChannelAccepted, InUnit, Judging, Outside, blank}
use Rattle.world_moves.specs.declared.bag.BagUnit.{BagUnit}
use Rattle.world_moves.specs.declared.links.LinkKind.{LinkKind}
use Rattle.world_moves.specs.declared.links.LinkKind.TheVariants as kind
use Rattle.world_moves.specs.World.{World}
use Rattle.domain_world.specs.Claims.ChannelKinds.{AskersNameTheirKind, CallsFollowOpenings, KeptHaveKindsAsked, KindsFollowOpenings, OpeningsNameTheirKind, PassesAreCalls, TakesOneHop}
use Rattle.domain_world.specs.Past.{Past, sent_at}
use Rattle.claim_examples.specs.ClaimExamples.{judged_as, keeping_controller, on_channel, run_in, small_channel, small_member, small_name, small_world}
use Rattle.claim_examples.specs.OpeningExamples.{small_accepted}

-- ---- the channel of FILE1, with a type

abbrev pub typed_channel : Option ℕ → SecureChannelState
typed_channel type = record (small_channel []) { kind = type }

abbrev pub typed_computers : Option ℕ → Computers
typed_computers type = record { pending = []; channels = (codes "FILE1", typed_channel type) ∷ []; sessions = [] }

-- a world whose controller keeps FILE1's channel with that type, or with none, and whose bag holds those units
abbrev pub world_keeping : (type : Option ℕ) (bag : List BagUnit) → World
world_keeping type bag =
    let w : World = small_world in
    record w {
      state = record w.state {
        bag = bag;
        ends = record w.state.ends {
          controllers = record (keeping_controller []) { running = Some (record { computers = typed_computers type; links = [] }) } ∷ [];
        };
      };
    }

-- the opening of FILE1's channel, which named that type
abbrev pub opened_as : (type : ℕ) → ChannelAccepted
opened_as type = record small_accepted { kind = type }

-- a later opening of FILE1's channel, with another challenge of the server
abbrev pub later_as : (type : ℕ) → ChannelAccepted
later_as type = record (opened_as type) { channel = record small_name { server = replicate 8 9 } }

-- a run after which FILE1's channel is kept with that type, or with none; the openings stand the newest first
abbrev pub typed_run : (type : Option ℕ) (accepted : List ChannelAccepted) (judgings : List Judging) → Past
typed_run type accepted judgings =
    run_in (world_keeping type []) (record blank { accepted = accepted; judged = judgings })

-- a call on FILE1's channel, which had that type, or none, when the call was checked on it
abbrev pub call_on : (type : Option ℕ) → Judging
call_on type = record (on_channel 0) { checks = Some (typed_channel type) }

abbrev pub handed_on : Judging → Judging
handed_on j = judged_as judged.Forwarded j

-- FILE1's channel has the type that its opening named: not where it has another one or none, nor where a later opening
-- was accepted, nor where a call was checked on one of another type. A call on it is handed on where the opening named
-- a workstation's or a backup controller's type; not where it named a trusted domain's, on which a call is judged
-- there.
pub record OfKinds : Type 0 where
  pub meets : KindsFollowOpenings (typed_run (Some workstation_channel) (opened_as workstation_channel ∷ []) (handed_on (call_on (Some workstation_channel)) ∷ []))
  pub meets_backup : KindsFollowOpenings (typed_run (Some backup_controller_channel) (opened_as backup_controller_channel ∷ []) (handed_on (call_on (Some backup_controller_channel)) ∷ []))
  pub meets_trust : KindsFollowOpenings (typed_run (Some trusted_domain_channel) (opened_as trusted_domain_channel ∷ []) (call_on (Some trusted_domain_channel) ∷ []))
  pub fails_type : KindsFollowOpenings (typed_run (Some trusted_domain_channel) (opened_as workstation_channel ∷ []) []) → ⊥
  pub fails_none : KindsFollowOpenings (typed_run None (opened_as workstation_channel ∷ []) []) → ⊥
  pub fails_later : KindsFollowOpenings (typed_run (Some workstation_channel) (later_as trusted_domain_channel ∷ opened_as workstation_channel ∷ []) []) → ⊥
  pub fails_checked : KindsFollowOpenings (typed_run (Some workstation_channel) (opened_as workstation_channel ∷ []) (call_on (Some trusted_domain_channel) ∷ [])) → ⊥
  pub fails_handed : KindsFollowOpenings (typed_run (Some trusted_domain_channel) (opened_as trusted_domain_channel ∷ []) (handed_on (call_on (Some trusted_domain_channel)) ∷ [])) → ⊥

-- ---- who asked

-- a unit on a link of that kind, to the end that accepted the link
abbrev pub unit_over : (over : LinkKind) → BagUnit
unit_over over = record { bytes = []; link = 0; kind = over; back = false; is_settled = false }

-- a requester, by the type of channel that it names
abbrev pub asks_as : (type : ℕ) → Requester
asks_as type = fresh_requester (record (caller_of small_member) { kind = type })

-- a member at work, by the type of channel that it names
abbrev pub member_asking : (type : ℕ) → MemberState
member_asking type = record {
  running = Some (record {
    logons = record { plan = small_member; channel = asks_as type; asked = [] };
    links = [];
    dialling = dialling.Nothing;
    sealing = None;
  });
}

-- a controller that asks one other, by the type of channel that it names there
abbrev pub controller_asking : (type : ℕ) → ControllerState
controller_asking type =
    record (keeping_controller []) { trusting = record no_trusting { queues = record { requesters = asks_as type ∷ []; forwarded = [] } } }

-- a run with a member and a controller that ask, by the type of channel that each names
abbrev pub asking_as : (member controller : ℕ) → Past
asking_as member controller =
    let w : World = small_world in
    run_in
    (record w {
      state = record w.state {
        ends = record w.state.ends { members = member_asking member ∷ []; controllers = controller_asking controller ∷ [] };
      };
    })
    blank

-- A member names a workstation's type, and a controller that asks another one a trusted domain's, not the other way
-- round.
pub record OfAskers : Type 0 where
  pub meets : AskersNameTheirKind (asking_as workstation_channel trusted_domain_channel)
  pub fails_member : AskersNameTheirKind (asking_as trusted_domain_channel trusted_domain_channel) → ⊥
  pub fails_controller : AskersNameTheirKind (asking_as workstation_channel workstation_channel) → ⊥

-- a run in which FILE1's channel was opened in unit 0, which went over a link of that kind, with that type
abbrev pub asked_as : (over : LinkKind) (type : ℕ) → Past
asked_as over type =
    run_in (world_keeping (Some type) (unit_over over ∷ [])) (record blank { accepted = record (opened_as type) { source = InUnit 0 } ∷ [] })

-- a run with a clash of credentials written down besides
abbrev pub clashed : Past → Past
clashed past = record past { book = record past.book { clash = true } }

-- a run in which FILE1's channel was opened from outside, with that type
abbrev pub asked_outside : (type : ℕ) → Past
asked_outside type =
    run_in (world_keeping (Some type) (unit_over kind.Between ∷ [])) (record blank { accepted = record (opened_as type) { source = Outside } ∷ [] })

-- A member opens a workstation's channel, and a controller that of a trusted domain: not the other way round, nor is
-- that of a backup controller opened in a unit of either. Nothing is said where a credential clashed, nor of an opening
-- that came from outside. So a channel that is kept has the type of who asked for it.
pub record OfKindsAsked : Type 0 where
  pub meets_member : OpeningsNameTheirKind (asked_as kind.ToController workstation_channel)
  pub meets_controller : OpeningsNameTheirKind (asked_as kind.Between trusted_domain_channel)
  pub fails_member : OpeningsNameTheirKind (asked_as kind.ToController trusted_domain_channel) → ⊥
  pub fails_controller : OpeningsNameTheirKind (asked_as kind.Between workstation_channel) → ⊥
  pub fails_backup : OpeningsNameTheirKind (asked_as kind.ToController backup_controller_channel) → ⊥
  pub clash : OpeningsNameTheirKind (clashed (asked_as kind.Between workstation_channel))
  pub outside : OpeningsNameTheirKind (asked_outside workstation_channel)
  pub meets_kept : KeptHaveKindsAsked (asked_as kind.Between trusted_domain_channel)
  pub fails_kept : KeptHaveKindsAsked (asked_as kind.Between workstation_channel) → ⊥

-- ---- how far a call goes

-- a run in which the call came in unit 1, which went over a link of that kind
abbrev pub hop_over : (over : LinkKind) (j : Judging) → Past
hop_over over j =
    run_in (world_keeping None (unit_over over ∷ unit_over over ∷ [])) (record blank { judged = record j { source = InUnit 1 } ∷ [] })

-- A member's call may be handed on. A call of another controller isn't: it is judged there. Nothing is said where a
-- credential clashed.
pub record OfHops : Type 0 where
  pub meets_member : TakesOneHop (hop_over kind.ToController (handed_on (on_channel 0)))
  pub meets_controller : TakesOneHop (hop_over kind.Between (on_channel 0))
  pub fails : TakesOneHop (hop_over kind.Between (handed_on (on_channel 0))) → ⊥
  pub clash : TakesOneHop (clashed (hop_over kind.Between (handed_on (on_channel 0))))

-- a run in which unit 0 went over a link of the kind `opened`, and unit 1, in which a call passed, over one of the kind
-- `called`, and has the mark
abbrev pub called_over : (opened called : LinkKind) (mark : Mark) (accepted : List ChannelAccepted) → Past
called_over opened called mark accepted =
    run_in (world_keeping None (unit_over opened ∷ unit_over called ∷ []))
    (record blank {
      sent = sent_at 0 (Opening small_name 2) ∷ sent_at 1 mark ∷ [];
      accepted = accepted;
      judged = record (call_on (Some trusted_domain_channel)) { source = InUnit 1 } ∷ [];
    })

abbrev pub opened_in_unit : ChannelAccepted
opened_in_unit = record (opened_as trusted_domain_channel) { source = InUnit 0 }

-- A call follows an opening of its channel over a link of the same kind: not one over a link of another kind, nor of
-- another channel, nor from outside, nor none. What passed was made as a call: not for no channel, nor as an opening.
pub record OfCallsOpened : Type 0 where
  pub meets : CallsFollowOpenings (called_over kind.Between kind.Between (Calling small_name 3 0) (opened_in_unit ∷ []))
  pub fails_kind : CallsFollowOpenings (called_over kind.ToController kind.Between (Calling small_name 3 0) (opened_in_unit ∷ [])) → ⊥
  pub fails_channel : CallsFollowOpenings (called_over kind.Between kind.Between (Calling (record small_name { controller = 1 }) 3 0) (opened_in_unit ∷ [])) → ⊥
  pub fails_outside : CallsFollowOpenings (called_over kind.Between kind.Between (Calling small_name 3 0) (opened_as trusted_domain_channel ∷ [])) → ⊥
  pub fails_none : CallsFollowOpenings (called_over kind.Between kind.Between (Calling small_name 3 0) []) → ⊥
  pub meets_call : PassesAreCalls (called_over kind.Between kind.Between (Calling small_name 3 0) [])
  pub fails_plain : PassesAreCalls (called_over kind.Between kind.Between Plain []) → ⊥
  pub fails_opening : PassesAreCalls (called_over kind.Between kind.Between (Opening small_name 3) []) → ⊥

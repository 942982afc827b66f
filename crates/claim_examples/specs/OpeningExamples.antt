-- Openings that were written down by hand, of a run in which a controller keeps the channel of one computer, or a
-- challenge waits there (this project's own choice).
use Rattle.std.specs.Prelude.{ℕ, List, [], ◌∷◌, Some, None, codes, replicate}
use Rattle.channel_keys.specs.ChannelTypes.{workstation_channel}
use Rattle.controller_calls.specs.declared.state.Computers.{Computers}
use Rattle.channel_events.specs.Marks.{Mark, Opened, Opening, Plain}
use Rattle.step_notes.specs.Records.{ChannelAccepted, InUnit, Outside, blank}
use Rattle.world_moves.specs.World.{World}
use Rattle.domain_world.specs.Claims.OpeningReplies.{OpeningsAreMarked, RepliesAnswerOpenings}
use Rattle.domain_world.specs.Claims.Openings.{OpeningsAreInOrder}
use Rattle.domain_world.specs.Past.{Past, sent_at}
use Rattle.claim_examples.specs.ClaimExamples.{keeping_controller, run_in, run_open, small_name, small_run, small_seed, world_open}

-- the channel that is kept, as it was accepted; another one of its computer, and one of another computer
abbrev pub small_accepted : ChannelAccepted
small_accepted =
    record { at = 0; source = Outside; number = 2; channel = small_name; kind = workstation_channel; reply = None }

abbrev pub other_accepted : ChannelAccepted
other_accepted = record small_accepted { channel = record small_name { server = replicate 8 9 } }

abbrev pub accepted_elsewhere : ChannelAccepted
accepted_elsewhere = record small_accepted { channel = record small_name { computer = codes "FILE2"; server = replicate 8 9 } }

-- the controller keeps that channel, and these were accepted, the newest first
abbrev pub kept_after : List ChannelAccepted → Past
kept_after accepted = run_open (record blank { accepted = accepted }) None small_seed small_seed

-- a controller keeps no channel, and this challenge of the server waits for these computers
abbrev pub waiting_for : List ℕ → List (List ℕ) → Computers
waiting_for server [] = record { pending = []; channels = []; sessions = [] }
waiting_for server (name ∷ names) =
    let rest : Computers = waiting_for server names in
    record rest { pending = (name, record { client = []; server = server }) ∷ rest.pending }

abbrev pub world_waiting : List ℕ → List (List ℕ) → World
world_waiting server names =
    let w : World = world_open None small_seed small_seed in
    record w {
      state = record w.state {
        ends = record w.state.ends {
          controllers = record (keeping_controller small_seed) { running = Some (record { computers = waiting_for server names; links = [] }) } ∷ [];
        };
      };
    }

abbrev pub waits_after : List ℕ → List (List ℕ) → List ChannelAccepted → Past
waits_after server names accepted = run_in (world_waiting server names) (record blank { accepted = accepted })

-- The channel that is kept was accepted: not where it isn't written down, nor where a later one of its computer is, nor
-- where it is twice. A challenge that waits opened none: not where one with it was accepted, nor where it waits for two
-- computers.
pub record OfOpenings : Type 0 where
  pub meets : OpeningsAreInOrder (kept_after (small_accepted ∷ []))
  pub fails_none : OpeningsAreInOrder (kept_after []) → ⊥
  pub fails_elsewhere : OpeningsAreInOrder (kept_after (accepted_elsewhere ∷ [])) → ⊥
  pub fails_later : OpeningsAreInOrder (kept_after (other_accepted ∷ small_accepted ∷ [])) → ⊥
  pub fails_twice : OpeningsAreInOrder (kept_after (small_accepted ∷ small_accepted ∷ [])) → ⊥
  pub fails_used : OpeningsAreInOrder (waits_after [] (codes "FILE1" ∷ []) (small_accepted ∷ [])) → ⊥
  pub fails_two : OpeningsAreInOrder (waits_after [] (codes "FILE1" ∷ codes "FILE2" ∷ []) []) → ⊥

-- ---- the reply to an opening

-- an opening whose call came in unit 0 after four moves, and whose reply unit 1 carries
abbrev pub answered_opening : ChannelAccepted
answered_opening = record small_accepted { at = 4; source = InUnit 0; reply = Some 1 }

-- that opening was accepted, and unit 1 has that mark
abbrev pub marked_as : Mark → ChannelAccepted → Past
marked_as mark one =
    small_run (record blank { sent = sent_at 3 (Opening small_name 2) ∷ sent_at 4 mark ∷ []; accepted = one ∷ [] })

-- The reply to an opening is marked as that: not where its mark is none, or has another number or unit, nor where no
-- unit carries it, or one that was sent at another step. Nothing is asked of an opening that came from outside. A unit
-- with such a mark is that reply: not where the mark has another number, nor where another unit carries the reply.
-- Without a clash the call came in a unit that was made for the channel.
pub record OfOpenedReplies : Type 0 where
  pub meets : RepliesAnswerOpenings (marked_as (Opened small_name 2 0) answered_opening)
  pub meets_marks : OpeningsAreMarked (marked_as (Opened small_name 2 0) answered_opening)
  pub outside : OpeningsAreMarked (marked_as Plain small_accepted)
  pub fails_plain : OpeningsAreMarked (marked_as Plain answered_opening) → ⊥
  pub fails_number : OpeningsAreMarked (marked_as (Opened small_name 3 0) answered_opening) → ⊥
  pub fails_request : OpeningsAreMarked (marked_as (Opened small_name 2 7) answered_opening) → ⊥
  pub fails_unanswered : OpeningsAreMarked (marked_as (Opened small_name 2 0) (record answered_opening { reply = None })) → ⊥
  pub fails_step : OpeningsAreMarked (marked_as (Opened small_name 2 0) (record answered_opening { at = 3 })) → ⊥
  pub fails_other_number : RepliesAnswerOpenings (marked_as (Opened small_name 3 0) answered_opening) → ⊥
  pub fails_other_unit : RepliesAnswerOpenings (marked_as (Opened small_name 2 0) (record answered_opening { reply = Some 0 })) → ⊥
  pub fails_clash : RepliesAnswerOpenings (marked_as Plain (record answered_opening { source = InUnit 1 })) → ⊥

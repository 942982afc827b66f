-- How a member stands to the turns of every end that asks (this project's own choice): what comes of the link of its
-- turn is what comes of it for the channel, and then what follows where the turn ended.
use Rattle.std.specs.Prelude.{ℕ, ◌≡◌, true, List, None, Result, Ok}
use Rattle.outside.specs.declared.action.StepRefused.{StepRefused}
use Rattle.outside.specs.Machine.{Part, then_part}
use Rattle.rpc_units.specs.Stream.{Cut}
use Rattle.end_links.specs.Serving.{served_cut}
use Rattle.channel_turns.specs.declared.state.Dialling.{Dialling}
use Rattle.channel_turns.specs.declared.state.Turning.{Turning}
use Rattle.channel_turns.specs.declared.state.TurnTalk.{TurnTalk}
use Rattle.channel_turns.specs.Turning.{is_on, link_hears, next_dial}
use Rattle.channel_turns.specs.Turns.{turn_served}
use Rattle.member_server.specs.declared.state.Work.{Work}
use Rattle.member_server.specs.Machine.{bytes_on, drawless_part}
use Rattle.member_server.specs.Turns.{AtTurn, DialWork, after_turn_served, after_turned, next_turn, ready_channel, turn_server, turn_work, turning_of, with_requester}

abbrev pub turned_part : Work → Turning → List (List ℕ) → Result (Part DialWork) StepRefused
turned_part work turning left = drawless_part (after_turned (turning, None) work) left

pub record SharesTurns : Type 0 where
  -- the units of a stream that the member serves one after the other
  pub units : (cut : Cut) (at : AtTurn) (talk : TurnTalk) (left : List (List ℕ)) →
      served_cut turn_server cut at talk left
      ≡ Ok (record { value = after_turn_served (turn_served cut (turn_work at) talk) at; left = left })
  -- bytes on the link of the turn
  pub bytes : (how : Dialling) (number : ℕ) (piece : List ℕ) (work : Work) (left : List (List ℕ)) → is_on number how ≡ true →
      bytes_on how number piece work left ≡ drawless_part (after_turned (link_hears number piece (turning_of work how)) work) left
  -- the next turn of the channel that was given its secrets, whose controller is dialled
  pub next : (now : ℕ) (work : Work) (how : Dialling) (left : List (List ℕ)) →
      next_turn now (work, how) left
      ≡ then_part (next_dial now work.logons.plan.controller (turning_of (with_requester work (ready_channel work)) how) left) (turned_part work)

-- What the link of a turn and the next turn draw.
use Rattle.std.proofs.Common.{ℕ, Bool, true, false, List, [], ◌∷◌}
use Rattle.outside.specs.Drawing.{IsRest}
use Rattle.outside.specs.Machine.{left_by}
use Rattle.outside.proofs.DrawLaws.{DrawsSome-none, DrawsSome-one, IsRest-refl, IsRest-later, IsRest-nothing}
use Rattle.channel_turns.specs.declared.state.Dialling.{Dialling}
use Rattle.member_server.specs.declared.state.Work.{Work}
use Rattle.member_server.specs.Turns.{DialWork, next_turn, ready_channel, turn_by, with_requester}

pub ruleset drawing = (DrawsSome-none, DrawsSome-one, IsRest-refl, IsRest-later, IsRest-nothing)

turn_rest : (starts needs : Bool) (now : ℕ) (work : Work) (how : Dialling) (left : List (List ℕ)) → IsRest (left_by (turn_by starts needs now work how left)) left
turn_rest false needs now work how left = IsRest-refl left
turn_rest true false now work how left = IsRest-refl left
turn_rest true true now work how [] = IsRest-nothing []
turn_rest true true now work how (challenge ∷ left) = IsRest-later challenge left left (IsRest-refl left)

-- the next turn leaves a rest
pub next_turn_rest : (now : ℕ) (dial_work : DialWork) (left : List (List ℕ)) → IsRest (left_by (next_turn now dial_work left)) left
next_turn_rest now dial_work left =
    turn_rest _ _ now (with_requester dial_work.0 (ready_channel dial_work.0)) dial_work.1 left

-- Which sessions of users a controller keeps in a run: those that the calls left which it judged since it was started,
-- one after another (MS-NRPC 3.5.4.5.3, 3.5.4.5.4; that a controller keeps them, and loses them at a restart, is this
-- project's own choice).
use Rattle.std.specs.Prelude.{ℕ, ◌≡◌, ◌≤◌, ◌+◌, ◌==◌, ◌&&◌, nat_le, Bool, true, false, List, [], ◌∷◌, ◌++◌, length, Option, Some, None, slice_get}
use Rattle.authenticators.specs.SecureChannels.{SecureChannelState}
use Rattle.interactive_logon.specs.declared.sessions.Session.{Session}
use Rattle.interactive_logon.specs.Sessions.{session_limit}
use Rattle.domain_controller.specs.State.{State as ControllerState}
use Rattle.domain_controller.specs.declared.state.Running.{Running}
use Rattle.step_notes.specs.ControllerNotes.{has_passed}
use Rattle.step_notes.specs.Records.{Judging}
use Rattle.step_notes.specs.ReplySends.{done_on}
use Rattle.world_moves.specs.declared.links.EndId.{EndId}
use Rattle.world_moves.specs.declared.links.EndId.TheVariants.{Controller}
use Rattle.world_moves.specs.declared.moves.Move.{Move}
use Rattle.world_moves.specs.declared.moves.Move.TheVariants as move
use Rattle.world_moves.specs.declared.state.State.{State}
use Rattle.world_moves.specs.Choosing.{chosen_place}
use Rattle.world_moves.specs.Ends.{count_of, end_at}
use Rattle.world_moves.specs.World.{World, happens}
use Rattle.domain_world.specs.Past.{Past}

-- ---- controllers that are made anew

abbrev pub end_by : Option ℕ → State → Option EndId
end_by None s = None
end_by (Some number) s = end_at number s.ends

-- the end that a move makes anew, if it is a restart
abbrev pub restart_of : Move → State → Option EndId
restart_of (move.Restart number) s = end_by (chosen_place number (count_of s.ends)) s
restart_of _ s = None

-- A controller was made anew, by the last of `moves` moves.
pub record ControllerRenewed : Type 0 where
  pub moves : ℕ
  pub controller : ℕ

abbrev pub renewal_by : Option EndId → ℕ → List ControllerRenewed
renewal_by (Some (Controller controller)) moves = record { moves = moves; controller = controller } ∷ []
renewal_by _ moves = []

-- the controllers that these moves made anew from a world on, before the earlier ones, so that the newest is first
abbrev pub renewals : List Move → World → List ControllerRenewed → List ControllerRenewed
renewals [] w earlier = earlier
renewals (what ∷ moves) w earlier = renewals moves (happens w what) (renewal_by (restart_of what w.state) (w.moves + 1) ++ earlier)

-- ---- since when a controller keeps its sessions

abbrev pub start_if : (is_it : Bool) → ℕ → ℕ → ℕ
start_if false moves start = start
start_if true moves start = moves

-- after how many moves that controller was started last: 0 where it wasn't made anew
abbrev pub last_start : ℕ → List ControllerRenewed → ℕ
last_start controller [] = 0
last_start controller (one ∷ earlier) = start_if (one.controller == controller) one.moves (last_start controller earlier)

-- after how many moves that controller was started last, of its starts before a move
abbrev pub start_before : (controller at : ℕ) → List ControllerRenewed → ℕ
start_before controller at [] = 0
start_before controller at (one ∷ earlier) =
    start_if ((one.controller == controller) && nat_le one.moves at) one.moves (start_before controller at earlier)

-- ---- what the calls leave

-- the sessions behind a call that passed, by the channel that it is checked on: a granted interactive logon added one,
-- and its logoff took out the first that was its own
abbrev pub sessions_on : Option SecureChannelState → Judging → List Session
sessions_on None j = j.sessions
sessions_on (Some channel) j = (done_on j channel).sessions

-- the sessions behind a call that passed, and else those before it
abbrev pub sessions_if : (passed : Bool) → Judging → List Session
sessions_if false j = j.sessions
sessions_if true j = sessions_on j.checks j

abbrev pub sessions_behind : Judging → List Session
sessions_behind j = sessions_if (has_passed j.how) j

abbrev pub since_if : (is_one : Bool) → Judging → List Session → List Session
since_if false j before = before
since_if true j before = sessions_behind j

-- that controller judged the call, after `start` moves or more
abbrev pub is_since : (controller start : ℕ) → Judging → Bool
is_since controller start j = (j.controller == controller) && nat_le start j.at

-- the sessions of that controller behind these judged calls, the newest first, where it was started after `start` moves
abbrev pub sessions_since : (controller start : ℕ) → List Judging → List Session
sessions_since controller start [] = []
sessions_since controller start (j ∷ earlier) = since_if (is_since controller start j) j (sessions_since controller start earlier)

-- ---- what is claimed

-- each call was judged by the sessions as the earlier calls left them, since its controller's last start before it
abbrev pub AreBySince : List ControllerRenewed → List Judging → Type 0
AreBySince renewed [] = Unit {0}
AreBySince renewed (j ∷ earlier) =
    (j.sessions ≡ sessions_since j.controller (start_before j.controller j.at renewed) earlier) × AreBySince renewed earlier

-- that controller is at work, with these sessions
pub record HasSessions (past : Past) (controller : ℕ) (sessions : List Session) : Type 0 where
  pub state : ControllerState
  pub at : slice_get past.world.state.ends.controllers controller ≡ Some state
  pub running : Running
  pub runs : state.running ≡ Some running
  pub are : running.computers.sessions ≡ sessions

-- Sessions: each call that is written down as judged was judged by those that the earlier calls left, and each
-- controller keeps after the run those that all calls left, by the controllers that were made anew. No controller has
-- more than 10,000.
pub record SessionsFollow (past : Past) (renewed : List ControllerRenewed) : Type 0 where
  pub judged : AreBySince renewed past.book.judged
  pub stands : (controller : ℕ) (sessions : List Session) → HasSessions past controller sessions →
      sessions ≡ sessions_since controller (last_start controller renewed) past.book.judged
  pub few : (controller : ℕ) (sessions : List Session) → HasSessions past controller sessions → length sessions ≤ session_limit

-- The sessions of users who logged on interactively, as a controller keeps them (this project's own choice). Names are
-- texts of 16-bit units.
use Rattle.std.specs.Prelude.{ℕ, ◌==◌, ◌&&◌, Bool, List, [], ◌∷◌, ◌++◌, Option, Some, None}
use Rattle.std.specs.List.{position, remove}
use Rattle.wire_base.specs.Names.{same_name, upper_case}
use Rattle.interactive_logon.specs.declared.sessions.Session.{Session}

-- the most that are kept
abbrev pub session_limit : ℕ
session_limit = 10000

-- the session of a user at a computer, by what the logon was called; names are kept in upper case
abbrev pub session_of : List ℕ → List ℕ → ℕ → Session
session_of computer user logon_id = record { computer = upper_case computer; user = upper_case user; logon_id = logon_id }

-- a session is that of the computer, the user and the logon; names are the same in any case
abbrev pub is_session : List ℕ → List ℕ → ℕ → Session → Bool
is_session computer user logon_id session = same_name computer session.computer && same_name user session.user && (logon_id == session.logon_id)

-- the sessions once one more was added
abbrev pub added_to : List Session → List ℕ → List ℕ → ℕ → List Session
added_to sessions computer user logon_id = sessions ++ session_of computer user logon_id ∷ []

-- without the one at a place
abbrev pub without : Option ℕ → List Session → List Session
without None sessions = sessions
without (Some place) sessions = remove sessions place

-- the sessions once the first one of that computer, user and logon was taken out, if there is one
abbrev pub taken_from : List Session → List ℕ → List ℕ → ℕ → List Session
taken_from sessions computer user logon_id = without (position (λ session. is_session computer user logon_id session) sessions) sessions

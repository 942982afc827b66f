-- What a controller keeps of computers but for the seeds, and how each call changes it (MS-NRPC 3.5.4.4.1, 3.5.4.4.3,
-- 3.5.4.4.6, 3.5.4.5.3, 3.5.4.5.4): which server's challenge waits, which channel is kept, and what is forgotten.
use Rattle.std.specs.Prelude.{ℕ, ◌≡◌, ◌⊎◌, Bool, true, false, List, Option, Some, None}
use Rattle.wire_base.specs.Maps.{IsMap, lookup}
use Rattle.wire_base.specs.Names.{SameName, same_name}
use Rattle.authenticators.specs.Channels.{ChannelIdentity, SameChannel}
use Rattle.logon_stubs.specs.declared.calls.AuthCall.{AuthCall}
use Rattle.logon_stubs.specs.declared.calls.ChallengeCall.{ChallengeCall}
use Rattle.account_table.specs.AccountTable.{AccountTable}
use Rattle.account_table.specs.LookUps.{knows_in}
use Rattle.domain_controller.specs.Machine.{Desk, answer_authenticate, answer_challenge, answer_judged, desk}
use Rattle.controller_calls.specs.declared.calls.JudgedCall.{JudgedCall}
use Rattle.controller_calls.specs.declared.line.Line.{Line}
use Rattle.controller_calls.specs.declared.state.Computers.{Computers}
use Rattle.controller_calls.specs.declared.state.ChallengePair.{ChallengePair}
use Rattle.controller_calls.specs.declared.state.Work.{Work}
use Rattle.step_notes.specs.ControllerNotes.{identity_by, opened_by}

-- ---- what is kept

-- the server's challenge that waits for a computer, and its channel with the controller of that number
abbrev pub server_in : Option ChallengePair → Option (List ℕ)
server_in None = None
server_in (Some pair) = Some pair.server

abbrev pub waits_in : Computers → List ℕ → Option (List ℕ)
waits_in computers name = server_in (lookup same_name name computers.pending)

abbrev pub keeps_in : ℕ → Computers → List ℕ → Option ChannelIdentity
keeps_in controller computers name = identity_by controller name (lookup same_name name computers.channels)

-- ---- what a call changes

-- no challenge waits, and no channel is kept, that wasn't before
pub record KeepsNoMore (controller : ℕ) (before after : Computers) : Type 0 where
  pub waits : (name challenge : List ℕ) → waits_in after name ≡ Some challenge → waits_in before name ≡ Some challenge
  pub keeps : (name : List ℕ) (c : ChannelIdentity) → keeps_in controller after name ≡ Some c → keeps_in controller before name ≡ Some c

-- that challenge waits for that computer, in place of an older one, and none else that didn't before, and no channel is
-- kept more
pub record WaitsAnew (controller : ℕ) (computer server : List ℕ) (before after : Computers) : Type 0 where
  pub now : waits_in after computer ≡ Some server
  pub waits : (name challenge : List ℕ) → waits_in after name ≡ Some challenge →
      (SameName name computer × (challenge ≡ server)) ⊎ (waits_in before name ≡ Some challenge)
  pub keeps : (name : List ℕ) (c : ChannelIdentity) → keeps_in controller after name ≡ Some c → keeps_in controller before name ≡ Some c

-- by whether the accounts know the computer
abbrev pub WaitsIfKnown : Bool → ℕ → List ℕ → List ℕ → Computers → Computers → Type 0
WaitsIfKnown false controller computer server before after = after ≡ before
WaitsIfKnown true controller computer server before after = WaitsAnew controller computer server before after

-- the channel's challenge waited for that computer and waits no more, and the channel is kept, and none else that
-- wasn't before
pub record Accepts (controller : ℕ) (computer : List ℕ) (channel : ChannelIdentity) (before after : Computers) : Type 0 where
  pub controller_is : channel.controller ≡ controller
  pub computer_is : channel.computer ≡ computer
  pub waited : waits_in before computer ≡ Some channel.server
  pub now : keeps_in controller after computer ≡ Some channel
  pub served : (name challenge : List ℕ) → waits_in after name ≡ Some challenge →
      (waits_in before name ≡ Some challenge) × (SameName name computer → ⊥)
  pub kept : (name : List ℕ) (c : ChannelIdentity) → keeps_in controller after name ≡ Some c →
      SameChannel channel c ⊎ (keeps_in controller before name ≡ Some c)

-- by the channel that a call opens, if it does; either way no challenge waits for the computer any more
abbrev pub IsKeptBy : ℕ → List ℕ → Option ChannelIdentity → Computers → Computers → Type 0
IsKeptBy controller computer None before after = KeepsNoMore controller before after × (waits_in after computer ≡ None)
IsKeptBy controller computer (Some channel) before after = Accepts controller computer channel before after

-- What each call comes to: a NetrServerReqChallenge lets the challenge that was drawn wait where the accounts know the
-- computer, else it changes nothing; a NetrServerAuthenticate2 takes it out, and keeps the channel that is written down
-- of it, or none more; and a call on a secure channel, whatever it asks, keeps no more than was kept. Where something
-- changes, it isn't said of what else was kept that it stays.
pub record CallsAreKept : Type 0 where
  pub challenge : (controller : ℕ) (table : AccountTable) (line : Line) (c : ChallengeCall) (server : List ℕ) (work : Work) →
      WaitsIfKnown (knows_in table.accounts c.computer) controller c.computer server work.computers
      (answer_challenge table line c server work).computers
  pub authenticate : (controller : ℕ) (table : AccountTable) (line : Line) (c : AuthCall) (work : Work) → IsMap same_name work.computers.pending →
      IsKeptBy controller c.computer (opened_by controller c (desk table work)) work.computers (answer_authenticate table line c work).computers
  pub judged : (controller : ℕ) (c : JudgedCall) (name : List ℕ) (now : ℕ) (line : Line) (d : Desk) →
      KeepsNoMore controller d.work.computers (answer_judged c name now line d).work.computers

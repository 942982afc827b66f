-- The forms that the types of a plan give its parts: what a plan of the program has of itself, and a list of numbers
-- may lack (this project's own choice).
use Rattle.std.specs.Prelude.{ℕ, ◌<◌, ◌≤◌, ◌^◌, List, length, All, Option, Some, None}
use Rattle.wire_base.specs.Names.{IsName}
use Rattle.wire_base.specs.Sid.{SidParts}
use Rattle.account_table.specs.AccountTable.{AccountTable}
use Rattle.account_table.specs.declared.account.Account.{Account}
use Rattle.account_table.specs.declared.account.Trust.{Trust}
use Rattle.account_table.specs.TableForms as forms
use Rattle.interactive_station.specs.declared.plan.StationPlan.{StationPlan}
use Rattle.logon_client.specs.declared.plan.ClientPlan.{ClientPlan}
use Rattle.member_server.specs.declared.plan.MemberPlan.{MemberPlan}
use Rattle.member_server.specs.Secrets.{next_of, tried_of}
use Rattle.world_moves.specs.declared.moves.Move.{Move}
use Rattle.world_moves.specs.declared.moves.Move.TheVariants as move
use Rattle.world_moves.specs.declared.plan.Plan.{Plan}
use Rattle.world_moves.specs.World.{IsMove, IsPlan, move_limit}

-- what account_table says of the parts of a table: a byte, so many bytes, and an identifier whose numbers have 32 bits
abbrev pub IsByte : ℕ → Type 0
IsByte byte = forms.IsByte byte

abbrev pub IsBlock : ℕ → List ℕ → Type 0
IsBlock count bytes = forms.IsBlock count bytes

abbrev pub IsIdentifier : SidParts → Type 0
IsIdentifier sid = forms.IsIdentifier sid

-- the form of an account, of a trusted domain, and of a table
abbrev pub IsAccount : Account → Type 0
IsAccount account = forms.HasAccountForm account

abbrev pub IsTrust : Trust → Type 0
IsTrust trust = forms.HasTrustForm trust

abbrev pub IsTable : AccountTable → Type 0
IsTable table = forms.HasTableForm table

-- units of UTF-16
abbrev pub AreUnits : List ℕ → Type 0
AreUnits units = All (λ (unit : ℕ). unit < 2 ^ 16) units

-- a next secret is an NT hash, where one is kept
abbrev pub IsNextHash : Option (List ℕ) → Type 0
IsNextHash None = Unit {0}
IsNextHash (Some secret) = IsBlock 16 secret

-- the secret that is tried is an NT hash, and so is the next one; the controller's address has bytes
pub record IsMemberPlan (plan : MemberPlan) : Type 0 where
  pub computer : IsName plan.computer
  pub domain : IsName plan.domain
  pub secret : IsBlock 16 (tried_of plan.secrets)
  pub next : IsNextHash (next_of plan.secrets)
  pub controller : All IsByte plan.controller

-- names of users, domains and computers are in units of UTF-16; how many, `CanLogOn` says
pub record IsClientPlan (plan : ClientPlan) : Type 0 where
  pub server : All IsByte plan.server
  pub domain : AreUnits plan.domain
  pub user : AreUnits plan.user
  pub workstation : AreUnits plan.workstation
  pub hash : IsBlock 16 plan.hash

-- so are those of stations; how many, `CanStation` says
pub record IsStationPlan (plan : StationPlan) : Type 0 where
  pub controller : All IsByte plan.controller
  pub computer : IsName plan.computer
  pub secret : IsBlock 16 plan.secret
  pub domain : AreUnits plan.domain
  pub user : AreUnits plan.user
  pub hash : IsBlock 16 plan.hash

pub record HasForms (plan : Plan) : Type 0 where
  pub tables : All IsTable plan.tables
  pub controllers : All IsName plan.controllers
  pub members : All IsMemberPlan plan.members
  pub clients : All IsClientPlan plan.clients
  pub stations : All IsStationPlan plan.stations
  pub now : plan.now < 2 ^ 64
  pub seed : IsBlock 32 plan.seed

-- the numbers of a move are those of its type: below 2^32, a time below 2^64, and bytes
abbrev pub HasMoveForm : Move → Type 0
HasMoveForm (move.Start number) = number < 2 ^ 32
HasMoveForm (move.Stranger number) = number < 2 ^ 32
HasMoveForm move.Connect = Unit {0}
HasMoveForm move.FailDial = Unit {0}
HasMoveForm move.Onward = Unit {0}
HasMoveForm move.Lose = Unit {0}
HasMoveForm (move.Deliver unit link) = (unit < 2 ^ 32) × (link < 2 ^ 32)
HasMoveForm (move.Hand link back bytes) = (link < 2 ^ 32) × All IsByte bytes
HasMoveForm (move.Shut number) = number < 2 ^ 32
HasMoveForm (move.Restart number) = number < 2 ^ 32
HasMoveForm (move.Change member secret) = (member < 2 ^ 32) × IsBlock 16 secret
HasMoveForm (move.Tick more) = more < 2 ^ 64

-- A schedule: a world can be made from the plan, which has its types' forms; and it can make the moves, of which there
-- are at most 100,000.
pub record IsSchedule (plan : Plan) (moves : List Move) : Type 0 where
  pub start : IsPlan plan
  pub forms : HasForms plan
  pub few : length moves ≤ move_limit
  pub each : All IsMove moves
  pub move_forms : All HasMoveForm moves

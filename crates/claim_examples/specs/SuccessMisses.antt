-- Near misses of completeness beside those of `CompletenessExamples` (this project's own choice): what differs in one
-- thing more from what meets its parts, so that a part which leaves that thing out, or asks it besides, is told apart.
use Rattle.std.specs.Prelude.{ℕ, ◌≡◌, ◌≢◌, true, false, List, [], ◌∷◌, length, None, Some, codes}
use Rattle.std.specs.List.{AllByRecursion}
use Rattle.account_table.specs.AccountTable.{AccountTable}
use Rattle.outside.specs.declared.action.Judged.TheVariants as judged
use Rattle.outside.specs.declared.action.Outcome.{Outcome}
use Rattle.outside.specs.declared.action.Outcome.TheVariants as outcome
use Rattle.logon_client.specs.declared.outcome.ClientOutcome.{ClientOutcome}
use Rattle.logon_client.specs.declared.outcome.ClientOutcome.TheVariants as client_outcome
use Rattle.logon_client.specs.declared.outcome.RefusedCause.TheVariants as refused
use Rattle.logon_client.specs.declared.plan.AuthKind.{AuthKind}
use Rattle.logon_client.specs.declared.plan.AuthKind.TheVariants.{V2}
use Rattle.logon_client.specs.declared.plan.ClientPlan.{ClientPlan}
use Rattle.wire_base.specs.Lists.{OneOf}
use Rattle.logon_stubs.specs.declared.calls.LogonCall.{LogonCall}
use Rattle.step_notes.specs.Records.{IfNetwork, Judging, OutcomeTold}
use Rattle.controller_calls.specs.declared.calls.JudgedCall.TheVariants.{Network}
use Rattle.world_moves.specs.declared.links.Route.TheVariants.{ToMember}
use Rattle.world_moves.specs.declared.moves.Move.{Move}
use Rattle.world_moves.specs.declared.moves.Move.TheVariants as move
use Rattle.world_moves.specs.declared.plan.Plan.{Plan}
use Rattle.world_moves.specs.World.{outcome_of}
use Rattle.logon_runs.specs.FirstLogon.ExampleLogon as example
use Rattle.domain_world.specs.Claims.{TravelsAsZeros}
use Rattle.domain_world.specs.Claims.Completeness.{CanSucceed, ComesOneAtATime, EachSucceeds, IsMadeForClient, OwnKeysArrive, Succeeds, started_in}
use Rattle.domain_world.specs.Past.{Past, past}
use Rattle.claim_examples.specs.ClaimExamples.{small_hash, told_of_link}
use Rattle.claim_examples.specs.CompletenessExamples.{able_client, able_member, ann_plan, ann_run, ann_starts, able_table, ann_accounts, lost_client, lost_plan, machine_secret}

-- ---- what a client succeeds by

-- that outcome was told of her link
abbrev pub told_as : Outcome → List OutcomeTold
told_as what = record (told_of_link 0) { outcome = what } ∷ []

-- ann has the outcome `ended`, and it was told that she is in
abbrev pub run_ended : ClientOutcome → Past
run_ended ended =
    let one : Past = ann_run 16 (told_of_link 0 ∷ []) in
    record one {
      world = record one.world {
        state = record one.world.state {
          ends = record one.world.state.ends { clients = record { running = None; outcome = Some ended } ∷ [] };
        };
      };
    }

-- a run in which another client dialled the member too, and this was told
abbrev pub run_of_two : List OutcomeTold → Past
run_of_two told =
    let one : Past = ann_run 16 told in
    record one {
      world = record one.world {
        state = record one.world.state { links = ToMember 0 0 ∷ ToMember 1 0 ∷ [] };
      };
    }

-- She succeeds where another client has a link too. She doesn't where she is in by another name or with another key, or
-- is refused. Nor does she where the member told of her link another key, another user or another domain than hers, or
-- that she is refused; where another member told it; or where it was told of the other client's link alone.
pub record OfSucceeding : Type 0 where
  pub can : CanSucceed ann_plan ann_starts 0
  pub meets : Succeeds (run_of_two (told_of_link 1 ∷ told_of_link 0 ∷ [])) ann_starts 0 can
  pub fails_name : Succeeds (run_ended (client_outcome.In (codes "CORP\\anna") (1 ∷ []) 16)) ann_starts 0 can → ⊥
  pub fails_own_key : Succeeds (run_ended (client_outcome.In (codes "CORP\\ann") (2 ∷ []) 16)) ann_starts 0 can → ⊥
  pub fails_out : Succeeds (run_ended (client_outcome.Refused (refused.Nak 0))) ann_starts 0 can → ⊥
  pub fails_key : Succeeds (ann_run 16 (told_as (outcome.In (codes "CORP") (codes "ann") (2 ∷ [])))) ann_starts 0 can → ⊥
  pub fails_user : Succeeds (ann_run 16 (told_as (outcome.In (codes "CORP") (codes "anna") (1 ∷ [])))) ann_starts 0 can → ⊥
  pub fails_domain : Succeeds (ann_run 16 (told_as (outcome.In (codes "CORPS") (codes "ann") (1 ∷ [])))) ann_starts 0 can → ⊥
  pub fails_refused : Succeeds (ann_run 16 (told_as (outcome.Out 0xC000_006A))) ann_starts 0 can → ⊥
  pub fails_member : Succeeds (ann_run 16 (record (told_of_link 0) { member = 1 } ∷ [])) ann_starts 0 can → ⊥
  pub fails_other_link : Succeeds (run_of_two (told_of_link 1 ∷ [])) ann_starts 0 can → ⊥

-- ---- who can

-- ann asks for `echo` bytes of Echo, at that level, by that kind of response
abbrev pub asking_plan : (level : ℕ) (auth : AuthKind) (echo : ℕ) → Plan
asking_plan level auth echo = record ann_plan { clients = record (able_client small_hash) { level = level; auth = auth; echo = echo } ∷ [] }

-- a plan in which another controller has a member of the same name
abbrev pub beside_plan : Plan
beside_plan = record {
  tables = able_table ann_accounts ∷ able_table [] ∷ [];
  controllers = codes "PDC" ∷ codes "BDC" ∷ [];
  members = able_member machine_secret ∷ record (able_member machine_secret) { controller = 1 ∷ [] } ∷ [];
  clients = record (able_client small_hash) { server = 2 ∷ [] } ∷ lost_client ∷ [];
  stations = [];
  hands_on = false;
  seals = false;
  now = 0;
  seed = ann_plan.seed;
}

-- responses of 24 bytes are refused
abbrev pub strict_table : AccountTable
strict_table = record (able_table ann_accounts) { policy = record { lockout = 0; ntlmv2_only = true } }

abbrev pub strict_plan : Plan
strict_plan = record (asking_plan 2 V2 16) { tables = strict_table ∷ [] }

-- Ann can succeed by each kind of response, at each level, with each Echo; and though a member of another controller
-- has the name of hers, and another client no member. By NTLMv2 she can where responses of 24 bytes are refused.
pub record OfWhoCan : Type 0 where
  pub each : (level : ℕ) (auth : AuthKind) (echo : ℕ) → CanSucceed (asking_plan level auth echo) ann_starts 0
  pub beside : CanSucceed beside_plan ann_starts 0
  pub strict : CanSucceed strict_plan ann_starts 0

-- ---- moves

-- two clients whose server's address names no end
abbrev pub two_lost : Plan
two_lost = record lost_plan { clients = lost_client ∷ lost_client ∷ [] }

-- both clients start, time passes between, and moves find nothing to do
abbrev pub two_moves : List Move
two_moves = move.Start 0 ∷ move.Connect ∷ move.Tick 5 ∷ move.Start 3 ∷ move.Connect ∷ move.Onward ∷ []

-- the second starts before the first has its outcome
abbrev pub mixed_moves : List Move
mixed_moves = move.Start 0 ∷ move.Start 1 ∷ move.Connect ∷ move.Connect ∷ []

-- the first starts again, by another number
abbrev pub again_moves : List Move
again_moves = move.Start 0 ∷ move.Connect ∷ move.Start 2 ∷ move.Connect ∷ []

-- the bind of ann has been sent, and no more
abbrev pub bind_moves : List Move
bind_moves = move.Start 0 ∷ move.Connect ∷ []

-- the moves that aren't a start, an answered dial, a unit that comes, or time that passes
abbrev pub others : List Move
others =
    move.Stranger 0 ∷ move.FailDial ∷ move.Lose ∷ move.Deliver 0 0 ∷ move.Hand 0 false [] ∷ move.Shut 0 ∷ move.Restart 0
    ∷ []

-- Logons come one at a time where a second client starts once the first has its outcome, and time passes between. They
-- don't where it starts before, where the first starts again by another number, where a unit waits at the end, or where
-- a move is of another kind.
pub record OfMoves : Type 0 where
  pub comes : ComesOneAtATime (past two_lost two_moves) two_moves
  pub started : started_in two_moves (length two_lost.clients) ≡ 0 ∷ 1 ∷ []
  pub fails_mixed : ComesOneAtATime (past two_lost mixed_moves) mixed_moves → ⊥
  pub fails_again : ComesOneAtATime (past two_lost again_moves) again_moves → ⊥
  pub fails_unit : ComesOneAtATime (past example.ann_plan bind_moves) bind_moves → ⊥
  pub fails_others : AllByRecursion (λ (what : Move). (run : Past) → ComesOneAtATime run (what ∷ []) → ⊥) others

-- ---- the client's key

-- a Logon call that was made for the client passed with status 0, and its key travels as zeros
pub record LosesKey (task : ClientPlan) (computer : List ℕ) (controller : ℕ) (j : Judging) : Type 0 where
  pub how : j.how ≡ Some (judged.Passed 0)
  pub call : LogonCall
  pub asks : j.asked ≡ Network call
  pub own : IsMadeForClient task computer controller j call
  pub zeros : TravelsAsZeros j call.info

-- a call that isn't made for the client
abbrev pub IsOther : ClientPlan → List ℕ → ℕ → Judging → Type 0
IsOther task computer controller j = IfNetwork (λ (c : LogonCall). IsMadeForClient task computer controller j c → ⊥) j.asked

-- The key of the client's own logon doesn't arrive where a call that was granted and made for him travels as zeros. Of
-- calls that weren't granted nothing is asked. Nor is it of calls that weren't made for him, which are those of another
-- user, domain or workstation, by another computer or at another controller.
pub record OfOwnKeys : Type 0 where
  pub fails_zeros : (run : Past) (moves : List Move) (client : ℕ) (can : CanSucceed run.plan moves client) →
      OneOf (LosesKey can.task can.member_plan.computer can.controller) run.book.judged → OwnKeysArrive run moves client can → ⊥
  pub refused : (run : Past) (moves : List Move) (client : ℕ) (can : CanSucceed run.plan moves client) →
      AllByRecursion (λ (j : Judging). j.how ≡ Some (judged.Passed 0) → ⊥) run.book.judged → OwnKeysArrive run moves client can
  pub others : (run : Past) (moves : List Move) (client : ℕ) (can : CanSucceed run.plan moves client) →
      AllByRecursion (IsOther can.task can.member_plan.computer can.controller) run.book.judged → OwnKeysArrive run moves client can
  pub fails_user : (task : ClientPlan) (computer : List ℕ) (controller : ℕ) (j : Judging) (c : LogonCall) → c.info.user ≢ task.user → IsMadeForClient task computer controller j c → ⊥
  pub fails_domain : (task : ClientPlan) (computer : List ℕ) (controller : ℕ) (j : Judging) (c : LogonCall) → c.info.domain ≢ task.domain → IsMadeForClient task computer controller j c → ⊥
  pub fails_workstation : (task : ClientPlan) (computer : List ℕ) (controller : ℕ) (j : Judging) (c : LogonCall) → c.info.workstation ≢ task.workstation →
      IsMadeForClient task computer controller j c → ⊥
  pub fails_computer : (task : ClientPlan) (computer : List ℕ) (controller : ℕ) (j : Judging) (c : LogonCall) → c.computer ≢ Some computer → IsMadeForClient task computer controller j c → ⊥
  pub fails_controller : (task : ClientPlan) (computer : List ℕ) (controller : ℕ) (j : Judging) (c : LogonCall) → j.controller ≢ controller → IsMadeForClient task computer controller j c → ⊥

-- ---- each client

-- The claim fails where the second of two clients that start can succeed, its key arrives and it has no outcome,
-- whatever the first can.
pub record OfEachClient : Type 0 where
  pub fails_second : (run : Past) (moves : List Move) (first second : ℕ) → ComesOneAtATime run moves → (can : CanSucceed run.plan moves second) →
      OwnKeysArrive run moves second can → started_in moves (length run.plan.clients) ≡ first ∷ second ∷ [] → outcome_of run.world second ≡ None → EachSucceeds run moves → ⊥

-- ---- all of success

pub record SuccessTellsApart : Type 0 where
  pub succeeding : OfSucceeding
  pub who : OfWhoCan
  pub moves : OfMoves
  pub keys : OfOwnKeys
  pub each : OfEachClient

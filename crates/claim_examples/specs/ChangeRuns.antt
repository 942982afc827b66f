-- A run in which a member replaces its secret and never hears that the controller took it: what is proved of all runs
-- says of four of its states that the two are not apart. In the last one ann is in (this project's own choice).
use Rattle.std.specs.Prelude.{ℕ, ◌≡◌, false, List, [], ◌∷◌, ◌++◌, Option, Some, None, codes, slice_get}
use Rattle.std.specs.Option.{option_map}
use Rattle.account_table.specs.LookUps.{account_in, machine_name}
use Rattle.account_table.specs.declared.account.Account.{Account}
use Rattle.secret_change.specs.Secrets.{SecretsState, alone}
use Rattle.domain_controller.specs.State.{State as ControllerState}
use Rattle.logon_client.specs.declared.outcome.ClientOutcome.{ClientOutcome}
use Rattle.logon_client.specs.declared.outcome.ClientOutcome.TheVariants as outcome
use Rattle.member_server.specs.State.{State as MemberState}
use Rattle.member_server.specs.declared.state.Running.{Running as MemberRunning}
use Rattle.world_moves.specs.declared.counting.Report.{Report}
use Rattle.world_moves.specs.declared.moves.Move.{Move}
use Rattle.world_moves.specs.declared.moves.Move.TheVariants as move
use Rattle.world_moves.specs.declared.plan.Plan.{Plan}
use Rattle.world_moves.specs.Forms.{IsSchedule}
use Rattle.world_moves.specs.World.{kept_of, outcome_of, report_of}
use Rattle.domain_world.specs.Claims.{IsClear}
use Rattle.domain_world.specs.Claims.NeverApart.{BeginsAlike, IsNeverApart, has_foreign_set}
use Rattle.domain_world.specs.Headline.{Proved}
use Rattle.domain_world.specs.Past.{Past, past}
use Rattle.claim_examples.specs.ClaimExamples.{small_account, small_hash}
use Rattle.claim_examples.specs.CompletenessExamples.{able_plan, machine_account}
use Rattle.claim_examples.specs.NeverApartExamples.{both_secrets, new_secret, old_secret}

-- ---- the run

-- ann logs on at FILE1, whose account has the hash with which FILE1 begins
abbrev pub changing_accounts : List Account
changing_accounts = small_account ∷ record machine_account { hash = old_secret } ∷ []

abbrev pub changing_plan : Plan
changing_plan = able_plan changing_accounts old_secret small_hash

-- ann's client starts and dials; its bind, the answer, the AUTHENTICATE and a request come
abbrev pub message_moves : List Move
message_moves = move.Start 0 ∷ move.Connect ∷ move.Onward ∷ move.Onward ∷ move.Onward ∷ move.Onward ∷ []

-- a turn of FILE1: the bind, its answer, the call and the reply
abbrev pub turn_moves : List Move
turn_moves = move.Connect ∷ move.Onward ∷ move.Onward ∷ move.Onward ∷ move.Onward ∷ []

-- FILE1 is told to take another secret
abbrev pub begun_moves : List Move
begun_moves = move.Change 0 new_secret ∷ []

-- a turn whose reply is lost
abbrev pub set_moves : List Move
set_moves = move.Connect ∷ move.Onward ∷ move.Onward ∷ move.Onward ∷ move.Lose ∷ []

-- FILE1 opens its channel under its old secret
abbrev pub opened_moves : List Move
opened_moves = begun_moves ++ message_moves ++ turn_moves ++ turn_moves

-- FILE1 sets the new secret on that channel, and the reply that says so is lost
abbrev pub lost_moves : List Move
lost_moves = opened_moves ++ set_moves

-- the link of that turn is shut, ann hears that there is no answer, and FILE1 begins anew
abbrev pub anew_moves : List Move
anew_moves = move.Shut 1 ∷ move.Onward ∷ move.Restart 1 ∷ []

-- ann starts again, the channel is denied under the old secret, and she hears that there is no answer
abbrev pub denied_moves : List Move
denied_moves = lost_moves ++ anew_moves ++ message_moves ++ turn_moves ++ turn_moves ++ move.Onward ∷ []

-- ann starts once more, and FILE1's channel opens under the new secret
abbrev pub learned_moves : List Move
learned_moves = denied_moves ++ message_moves ++ turn_moves ++ turn_moves

-- ann's logon goes out on the new channel and is granted. She hears who she is, asks for an echo, and has it.
abbrev pub in_moves : List Move
in_moves = learned_moves ++ turn_moves ++ move.Onward ∷ move.Onward ∷ move.Onward ∷ []

-- ---- what FILE1 and its controller have

-- the hash of FILE1's account at the controller
abbrev pub hash_in : Option ControllerState → Option (List ℕ)
hash_in None = None
hash_in (Some c) = option_map (λ (account : Account). account.hash) (account_in c.table.accounts (machine_name (codes "FILE1")))

abbrev pub secrets_in : Option MemberRunning → Option SecretsState
secrets_in None = None
secrets_in (Some running) = Some running.logons.plan.secrets

-- the secrets that it holds, if it runs
abbrev pub held_in : Option MemberState → Option SecretsState
held_in None = None
held_in (Some m) = secrets_in m.running

-- how many bytes came back to a client that is in
abbrev pub echoed_in : Option ClientOutcome → Option ℕ
echoed_in (Some (outcome.In name key echoed)) = Some echoed
echoed_in _ = None

-- ---- what is said of a state

-- Behind these moves the controller has that hash, FILE1 holds these secrets, and they are what it kept.
pub record Has (run : Past) (at_controller : List ℕ) (secrets : SecretsState) : Type 0 where
  pub hash : hash_in (slice_get run.world.state.ends.controllers 0) ≡ Some at_controller
  pub held : held_in (slice_get run.world.state.ends.members 0) ≡ Some secrets
  pub kept : kept_of run.world 0 ≡ Some secrets

-- The moves are a clear schedule in which no stranger set a secret. So what is proved of all runs says of it, with no
-- premise left, that FILE1 and its controller are not apart.
pub record LeavesNoneApart (moves : List Move) (begins : BeginsAlike changing_plan 0) (at_controller : List ℕ) (secrets : SecretsState) : Type 0 where
  pub schedule : IsSchedule changing_plan moves
  pub clear : IsClear (past changing_plan moves).book
  pub own : has_foreign_set (past changing_plan moves).book.judged ≡ false
  pub has : Has (past changing_plan moves) at_controller secrets
  pub claimed : Proved changing_plan moves → IsNeverApart (past changing_plan moves) 0 begins

-- ann's first two logons have no answer, and the third one is granted; two calls passed, the Set and that logon's
abbrev pub in_report : Report
in_report = record { moves = 66; accepted = 1; refused = 0; no_controller = 2; passed = 2; barred = 0 }

-- A change leaves none apart where FILE1 keeps both secrets and the controller has the old one, where the new one is
-- set and the reply is lost, where FILE1 has learned of it and keeps the new one alone, and where ann is in.
pub record ChangeLeavesNoneApart : Type 0 where
  pub begins : BeginsAlike changing_plan 0
  pub begun : LeavesNoneApart begun_moves begins old_secret both_secrets
  pub lost : LeavesNoneApart lost_moves begins new_secret both_secrets
  pub learned : LeavesNoneApart learned_moves begins new_secret (alone new_secret)
  pub ended : LeavesNoneApart in_moves begins new_secret (alone new_secret)
  -- all 16 bytes of her echo came back
  pub counts : report_of (past changing_plan in_moves).world ≡ in_report
  pub echoed : echoed_in (outcome_of (past changing_plan in_moves).world 0) ≡ Some 16

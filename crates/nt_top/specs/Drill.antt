-- The command `drill`: a run of a world by the moves that a number makes, and what it counted (this project's own
-- choice). Names and texts are lists of bytes or of 16-bit units; a secret and a hash have 16 bytes.
use Rattle.std.specs.Prelude.{◌≡◌, ℕ, false, List, [], ◌∷◌, ◌++◌, replicate, codes, Result, Ok}
use Rattle.std.specs.Fmt.{decimal}
use Rattle.account_table.specs.AccountTable.{AccountTable}
use Rattle.account_table.specs.Document.{plain_account}
use Rattle.account_table.specs.declared.account.Account.{Account}
use Rattle.account_table.specs.declared.account.Kind.{Kind}
use Rattle.account_table.specs.declared.account.Kind.TheVariants.{User, Workstation}
use Rattle.logon_client.specs.declared.plan.AuthKind.{AuthKind}
use Rattle.logon_client.specs.declared.plan.AuthKind.TheVariants.{V1, V1Ess, V2}
use Rattle.logon_client.specs.declared.plan.ClientPlan.{ClientPlan}
use Rattle.member_server.specs.declared.plan.MemberPlan.{MemberPlan}
use Rattle.secret_change.specs.Secrets.{alone}
use Rattle.domain_world.specs.Generator.{moves_of}
use Rattle.world_moves.specs.Alone.{HandsNothingOn}
use Rattle.domain_world.specs.Headline.{Proved}
use Rattle.domain_world.specs.World.{report_of_run}
use Rattle.world_moves.specs.Forms.{IsSchedule}
use Rattle.world_moves.specs.Plain.{IsPlainPlan}
use Rattle.world_moves.specs.declared.counting.Report.{Report}
use Rattle.world_moves.specs.declared.plan.Plan.{Plan}
use Rattle.nt_words.specs.Roles.{job_of}
use Rattle.nt_words.specs.declared.job.Command.TheVariants as commands
use Rattle.nt_words.specs.declared.job.Job.TheVariants as jobs
use Rattle.nt_words.specs.declared.job.Role.{Role}
use Rattle.nt_top.specs.Show.{shown}
use Rattle.nt_top.specs.declared.answer.Answer.{Answer}
use Rattle.nt_top.specs.declared.exit.Exit.{Exit}

-- ---- the accounts of every drill

-- an account of the group of all users of the domain, which nothing keeps from logging on; each byte of its hash is
-- that one
abbrev pub drill_account : Kind → List ℕ → ℕ → ℕ → Account
drill_account kind name rid byte = plain_account kind name rid (replicate 16 byte)

-- the domain CORP, in which nobody is locked out, each response is taken and no other domain is trusted: users ann, bob
-- and eve, and the computers FILE1 and FILE2
abbrev pub drill_table : AccountTable
drill_table = record {
  domain = codes "CORP";
  sid = record { authority = 5; numbers = 21 ∷ 1 ∷ 2 ∷ 3 ∷ [] };
  policy = record { lockout = 0; ntlmv2_only = false };
  accounts =
      drill_account User (codes "ann") 1001 0x11 ∷
      drill_account User (codes "bob") 1002 0x22 ∷
      drill_account User (codes "eve") 1003 0x33 ∷
      drill_account Workstation (codes "FILE1$") 0 0x41 ∷
      drill_account Workstation (codes "FILE2$") 0 0x42 ∷ [];
  trusts = [];
}

-- ---- its plan: a controller, two members and three clients, of whom the last has a wrong hash

-- a member of CORP, whose controller is end 0
abbrev pub drill_member : List ℕ → ℕ → MemberPlan
drill_member computer byte =
    record { computer = computer; domain = codes "CORP"; secrets = alone (replicate 16 byte); controller = 0 ∷ []; sealed = false }

-- a client of CORP at the workstation WS, which dials that end and echoes 16 bytes
abbrev pub drill_client : ℕ → List ℕ → ℕ → ℕ → AuthKind → ClientPlan
drill_client server user byte level auth = record {
  server = server ∷ [];
  domain = codes "CORP";
  user = user;
  workstation = codes "WS";
  hash = replicate 16 byte;
  level = level;
  auth = auth;
  echo = 16;
}

abbrev pub drill_members : List MemberPlan
drill_members = drill_member (codes "FILE1") 0x41 ∷ drill_member (codes "FILE2") 0x42 ∷ []

-- at privacy by NTLMv2, at integrity by NTLMv1 with extended session security, at connect by NTLMv1
abbrev pub drill_clients : List ClientPlan
drill_clients =
    drill_client 1 (codes "ann") 0x11 6 V2 ∷ drill_client 1 (codes "bob") 0x22 5 V1Ess ∷ drill_client 2 (codes "eve") 0x34 2 V1 ∷ []

-- ends 0 to 5: PDC; FILE1 and FILE2; ann and bob at FILE1, eve at FILE2. It begins with the year 2000
abbrev pub drill_plan : Plan
drill_plan = record {
  tables = drill_table ∷ [];
  controllers = codes "PDC" ∷ [];
  members = drill_members;
  clients = drill_clients;
  stations = [];
  hands_on = false;
  seals = false;
  now = 125911584000000000;
  seed = replicate 32 0;
}

-- ---- what is put

-- a name, a space, and the count in decimal
abbrev pub count_line : List ℕ → ℕ → List ℕ
count_line name count = name ++ codes " " ++ decimal count ++ codes "\n"

unfoldable pub report_text : Report → List ℕ
report_text report =
    count_line (codes "moves") report.moves ++ count_line (codes "accepted") report.accepted ++ count_line (codes "refused") report.refused
    ++ count_line (codes "no controller") report.no_controller ++ count_line (codes "passed") report.passed ++ count_line (codes "barred") report.barred

-- what the run of `count` moves of the number counted
unfoldable pub drill_text : (number count : ℕ) → List ℕ
drill_text number count = report_text (report_of_run drill_plan (moves_of count number))

-- All that is proved of runs holds of the run of `count` moves of the number. The drill's plan and its moves are a
-- schedule, nothing seals, no station stands, and its controllers hand nothing on.
pub record IsProvedDrill (number count : ℕ) : Type 0 where
  pub schedule : IsSchedule drill_plan (moves_of count number)
  pub nobody : HandsNothingOn drill_plan
  pub plain : IsPlainPlan drill_plan
  pub proved : Proved drill_plan (moves_of count number)

-- what the command comes to: all of these lines
abbrev pub drill_answer : ℕ → ℕ → Result Answer Exit
drill_answer number count = Ok (shown (drill_text number count))

-- The words ask this program for a drill of so many moves of that number.
pub record AskedDrill (role : Role) (words : List (List ℕ)) : Type 0 where
  pub number : ℕ
  pub count : ℕ
  pub asks : job_of role words ≡ Ok (jobs.Command (commands.Drill (record { number = number; moves = count })))

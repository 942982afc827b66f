-- A world of one controller, one member and one client, in which the client's logon is granted: it meets what the first
-- logon in a world asks (this project's own choice).
use Rattle.std.specs.Prelude.{◌≡◌, List, [], ◌∷◌, replicate, false, Some, codes}
use Rattle.account_table.specs.AccountTable.{AccountTable}
use Rattle.account_table.specs.declared.account.Account.{Account}
use Rattle.account_table.specs.declared.account.Kind.TheVariants.{User, Workstation}
use Rattle.logon_client.specs.declared.outcome.ClientOutcome.TheVariants.{In}
use Rattle.logon_client.specs.declared.plan.AuthKind.TheVariants as auth
use Rattle.logon_client.specs.declared.plan.ClientPlan.{ClientPlan}
use Rattle.member_server.specs.declared.plan.MemberPlan.{MemberPlan}
use Rattle.secret_change.specs.Secrets.{alone}
use Rattle.world_moves.specs.declared.moves.Move.{Move}
use Rattle.world_moves.specs.declared.moves.Move.TheVariants as move
use Rattle.world_moves.specs.declared.plan.Plan.{Plan}
use Rattle.world_moves.specs.Forms.{IsSchedule}
use Rattle.world_moves.specs.World.{first_world, outcome_of, run}
use Rattle.logon_runs.specs.FirstLogon.FirstWorlds.{CanComeIn, IsLoggedOn, key_then}

-- the user ann, and the computer FILE1
abbrev pub ann : Account
ann = record {
  name = codes "ann";
  rid = 1000;
  hash = replicate 16 7;
  full_name = [];
  group = 513;
  groups = [];
  disabled = false;
  locked = false;
  must_change = false;
  expires = 0;
  password_set = 0;
  password_expires = 0;
  workstations = [];
  extra_sids = [];
  bad_count = 0;
  controllers = [];
  changed = false;
  kind = User;
}

abbrev pub file1 : Account
file1 = record ann { name = codes "FILE1$"; rid = 1001; hash = replicate 16 3; kind = Workstation }

abbrev pub corp : AccountTable
corp = record {
  domain = codes "CORP";
  sid = record { authority = 5; numbers = 21 ∷ [] };
  policy = record { lockout = 0; ntlmv2_only = false };
  accounts = ann ∷ file1 ∷ [];
  trusts = [];
}

-- ends are numbered from 0: the controller PDC, FILE1 and ann
abbrev pub file1_plan : MemberPlan
file1_plan = record { computer = codes "FILE1"; domain = codes "CORP"; secrets = alone (replicate 16 3); controller = 0 ∷ []; sealed = false }

-- at the level without signatures, by NTLMv2, and 16 bytes are echoed
abbrev pub ann_task : ClientPlan
ann_task = record {
  server = 1 ∷ [];
  domain = codes "CORP";
  user = codes "ann";
  workstation = codes "WS7";
  hash = replicate 16 7;
  level = 2;
  auth = auth.V2;
  echo = 16;
}

abbrev pub ann_plan : Plan
ann_plan = record {
  tables = corp ∷ [];
  controllers = codes "PDC" ∷ [];
  members = file1_plan ∷ [];
  clients = ann_task ∷ [];
  stations = [];
  hands_on = false;
  seals = false;
  now = 0;
  seed = replicate 32 0;
}

-- the start, the client's dial, and four units; three turns; the name, Echo and its answer
abbrev pub ann_moves : List Move
ann_moves =
    move.Start 0 ∷ move.Connect ∷ move.Onward ∷ move.Onward ∷ move.Onward ∷ move.Onward
    ∷ move.Connect ∷ move.Onward ∷ move.Onward ∷ move.Onward ∷ move.Onward
    ∷ move.Connect ∷ move.Onward ∷ move.Onward ∷ move.Onward ∷ move.Onward
    ∷ move.Connect ∷ move.Onward ∷ move.Onward ∷ move.Onward ∷ move.Onward
    ∷ move.Onward ∷ move.Onward ∷ move.Onward ∷ []

pub record AnnLogsOn : Type 0 where
  pub schedule : IsSchedule ann_plan ann_moves
  pub can : CanComeIn ann_plan 0 0 0
  pub comes : IsLoggedOn ann_plan 0 0 0 0 can
  pub outcome : outcome_of (run ann_moves (first_world ann_plan)) 0 ≡ Some (In (codes "CORP\\ann") (key_then ann_plan 0 0 0 can) 16)

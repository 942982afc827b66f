-- Logons one at a time: small runs in which a client succeeds or not (this project's own choice).
use Rattle.std.specs.Prelude.{ℕ, ◌≡◌, Bool, true, false, List, [], ◌∷◌, ◌++◌, length, replicate, Some, None, codes}
use Rattle.account_table.specs.AccountTable.{AccountTable}
use Rattle.account_table.specs.declared.account.Account.{Account}
use Rattle.account_table.specs.declared.account.Kind.TheVariants.{User, Workstation}
use Rattle.logon_client.specs.declared.outcome.ClientOutcome.{ClientOutcome}
use Rattle.logon_client.specs.declared.outcome.ClientOutcome.TheVariants as client_outcome
use Rattle.logon_client.specs.declared.outcome.NoAnswerCause.TheVariants as no_answer
use Rattle.logon_client.specs.declared.plan.ClientPlan.{ClientPlan}
use Rattle.member_server.specs.declared.plan.MemberPlan.{MemberPlan}
use Rattle.secret_change.specs.Secrets.{alone}
use Rattle.step_notes.specs.Records.{OutcomeTold, blank}
use Rattle.world_moves.specs.declared.links.Route.TheVariants.{ToMember}
use Rattle.world_moves.specs.declared.moves.Move.{Move}
use Rattle.world_moves.specs.declared.moves.Move.TheVariants as move
use Rattle.world_moves.specs.declared.plan.Plan.{Plan}
use Rattle.world_moves.specs.World.{World, first_world, outcome_of}
use Rattle.domain_world.specs.Claims.Completeness.{CanSucceed, ComesOneAtATime, EachSucceeds, OwnKeysArrive, Succeeds, name_of, started_in}
use Rattle.domain_world.specs.Claims.OneByOne.{HasOwnMember}
use Rattle.domain_world.specs.Past.{Past, past}
use Rattle.claim_examples.specs.ClaimExamples.{client_plan, small_account, small_hash, small_member, small_table, told_of_link}

-- the account of FILE1
abbrev pub machine_secret : List ℕ
machine_secret = replicate 16 3

abbrev pub machine_account : Account
machine_account = record small_account { name = codes "FILE1$"; hash = machine_secret; kind = Workstation }

abbrev pub able_member : List ℕ → MemberPlan
able_member secret = record small_member { secrets = alone secret }

abbrev pub able_client : List ℕ → ClientPlan
able_client hash = record client_plan { user = codes "ann"; hash = hash; echo = 16 }

abbrev pub able_table : List Account → AccountTable
able_table accounts = record small_table { accounts = accounts }

-- ann logs on at FILE1, by a table, the secret of FILE1 and her hash
abbrev pub table_plan : AccountTable → List ℕ → List ℕ → Plan
table_plan table secret hash = record {
  tables = table ∷ [];
  controllers = codes "PDC" ∷ [];
  members = able_member secret ∷ [];
  clients = able_client hash ∷ [];
  stations = [];
  hands_on = false;
  seals = false;
  now = 0;
  seed = replicate 32 0;
}

-- by these accounts, where nobody is locked out and each response is taken
abbrev pub able_plan : List Account → List ℕ → List ℕ → Plan
able_plan accounts secret hash = table_plan (able_table accounts) secret hash

abbrev pub ann_accounts : List Account
ann_accounts = small_account ∷ machine_account ∷ []

abbrev pub plan_by : Account → Account → Plan
plan_by user computer = able_plan (user ∷ computer ∷ []) machine_secret small_hash

abbrev pub ann_plan : Plan
ann_plan = able_plan ann_accounts machine_secret small_hash

-- by a policy of the table, and a count of bad passwords that she has
abbrev pub policy_table : ℕ → Bool → ℕ → AccountTable
policy_table lockout only count = record small_table {
  policy = record { lockout = lockout; ntlmv2_only = only };
  accounts = record small_account { bad_count = count } ∷ machine_account ∷ [];
}

abbrev pub policy_plan : ℕ → Bool → ℕ → Plan
policy_plan lockout only count = table_plan (policy_table lockout only count) machine_secret small_hash

-- a plan in which another member of the controller has the same name
abbrev pub alike_plan : Plan
alike_plan = record ann_plan {
  members = able_member machine_secret ∷ record (able_member machine_secret) { computer = codes "file1" } ∷ [];
}

-- FILE1 keeps two secrets, and tries the next one or the current one
abbrev pub two_member : (current next : List ℕ) → Bool → MemberPlan
two_member current next tried = record small_member { secrets = record { current = current; next = Some (record { secret = next; is_tried = tried }) } }

abbrev pub two_plan : (current next : List ℕ) → Bool → Plan
two_plan current next tried = record ann_plan { members = two_member current next tried ∷ [] }

abbrev pub ann_starts : List Move
ann_starts = move.Start 0 ∷ []

-- ann is in, with `echoed` bytes of her echo, and `told` was told
abbrev pub ann_run : (echoed : ℕ) (told : List OutcomeTold) → Past
ann_run echoed told =
    let w : World = first_world ann_plan in
    let ended : ClientOutcome = client_outcome.In (name_of small_table small_account) (1 ∷ []) echoed in
    record {
      plan = ann_plan;
      world = record w {
        state = record w.state {
          links = ToMember 0 0 ∷ [];
          ends = record w.state.ends { clients = record { running = None; outcome = Some ended } ∷ [] };
        };
      };
      book = record blank { told = told };
    }

-- Ann can succeed; not with another hash than hers, another secret of FILE1, her account or FILE1's disabled, FILE1's
-- of another kind, a second member of the controller of that name, or her account past its end at a later moment. FILE1
-- may keep two secrets, of which it tries that of its account. She does where she is in, with her whole echo, and the
-- member told so of her link.
pub record OfSuccess : Type 0 where
  pub can : CanSucceed ann_plan ann_starts 0
  pub fails_hash : CanSucceed (able_plan ann_accounts machine_secret (replicate 16 8)) ann_starts 0 → ⊥
  pub fails_secret : CanSucceed (able_plan ann_accounts (replicate 16 4) small_hash) ann_starts 0 → ⊥
  pub fails_disabled : CanSucceed (plan_by (record small_account { disabled = true }) machine_account) ann_starts 0 → ⊥
  pub fails_computer : CanSucceed (plan_by small_account (record machine_account { disabled = true })) ann_starts 0 → ⊥
  pub fails_kind : CanSucceed (plan_by small_account (record machine_account { kind = User })) ann_starts 0 → ⊥
  -- ann can't where her bad passwords have locked her out, or with her response of 24 bytes where none of them is taken
  pub fails_locked_out : CanSucceed (policy_plan 2 false 2) ann_starts 0 → ⊥
  pub fails_short : CanSucceed (policy_plan 0 true 0) ann_starts 0 → ⊥
  pub fails_alike : CanSucceed alike_plan ann_starts 0 → ⊥
  -- ann can where FILE1 keeps two secrets, of which its account has the one that FILE1 tries
  pub can_current : CanSucceed (two_plan machine_secret (replicate 16 4) false) ann_starts 0
  pub can_next : CanSucceed (two_plan (replicate 16 4) machine_secret true) ann_starts 0
  pub fails_untried : CanSucceed (two_plan (replicate 16 4) machine_secret false) ann_starts 0 → ⊥
  pub fails_later : CanSucceed (plan_by (record small_account { expires = 10 }) machine_account) (move.Start 0 ∷ move.Tick 10 ∷ []) 0 → ⊥
  pub meets : Succeeds (ann_run 16 (told_of_link 0 ∷ [])) ann_starts 0 can
  pub fails_echo : Succeeds (ann_run 15 (told_of_link 0 ∷ [])) ann_starts 0 can → ⊥
  pub fails_untold : Succeeds (ann_run 16 []) ann_starts 0 can → ⊥
  pub fails_elsewhere : Succeeds (ann_run 16 (told_of_link 1 ∷ [])) ann_starts 0 can → ⊥

-- a client whose server's address names no end
abbrev pub lost_client : ClientPlan
lost_client = record client_plan { server = 9 ∷ [] }

abbrev pub lost_plan : Plan
lost_plan = record {
  tables = small_table ∷ [];
  controllers = codes "PDC" ∷ [];
  members = [];
  clients = lost_client ∷ [];
  stations = [];
  hands_on = false;
  seals = false;
  now = 0;
  seed = replicate 32 0;
}

-- ann's plan by these accounts, of which she has her own, and with that secret of FILE1
abbrev pub plan_beside : List Account → List ℕ → Plan
plan_beside others secret = able_plan (small_account ∷ others) secret small_hash

-- The premise on members of logons that come one at a time: the secret of FILE1 is its account's, whatever ann's hash
-- is. It is met too where FILE1 has no account, or one that is disabled or a user's, whatever its secret is; and where
-- there is no member. It isn't with another secret than the account's, or with a second member of that controller and
-- name.
pub record OfOwnMembers : Type 0 where
  pub meets : HasOwnMember (able_plan ann_accounts machine_secret (replicate 16 8)) 0
  pub unknown : (secret : List ℕ) → HasOwnMember (plan_beside [] secret) 0
  pub disabled : (secret : List ℕ) → HasOwnMember (plan_beside (record machine_account { disabled = true } ∷ []) secret) 0
  pub kind : (secret : List ℕ) → HasOwnMember (plan_beside (record machine_account { kind = User } ∷ []) secret) 0
  pub nobody : HasOwnMember lost_plan 0
  pub fails_secret : HasOwnMember (able_plan ann_accounts (replicate 16 4) small_hash) 0 → ⊥
  pub fails_alike : HasOwnMember alike_plan 0 → ⊥

-- the moves of a client whose dial fails
abbrev pub lost_moves : List Move
lost_moves = move.Start 0 ∷ move.Connect ∷ []

-- Logons that come one at a time: not where a dial still waits, a client starts twice, or a move is of another kind. A
-- client that can't succeed has another outcome. The claim doesn't hold where the one client that was started can
-- succeed, its key arrives and it has none.
pub record OfCompleteness : Type 0 where
  pub meets : (plan : Plan) → EachSucceeds (past plan []) []
  pub comes : ComesOneAtATime (past lost_plan lost_moves) lost_moves
  pub started : started_in lost_moves (length lost_plan.clients) ≡ 0 ∷ []
  pub ended : outcome_of (past lost_plan lost_moves).world 0 ≡ Some (client_outcome.NoAnswer no_answer.DialFailed)
  pub meets_started : EachSucceeds (past lost_plan lost_moves) lost_moves
  pub fails_waiting : ComesOneAtATime (past lost_plan (move.Start 0 ∷ [])) (move.Start 0 ∷ []) → ⊥
  pub fails_twice : ComesOneAtATime (past lost_plan (lost_moves ++ lost_moves)) (lost_moves ++ lost_moves) → ⊥
  pub fails_other_move : ComesOneAtATime (past lost_plan (move.Lose ∷ lost_moves)) (move.Lose ∷ lost_moves) → ⊥
  pub fails : (run : Past) (moves : List Move) (client : ℕ) → ComesOneAtATime run moves → (can : CanSucceed run.plan moves client) →
      OwnKeysArrive run moves client can → started_in moves (length run.plan.clients) ≡ client ∷ [] → outcome_of run.world client ≡ None → EachSucceeds run moves → ⊥

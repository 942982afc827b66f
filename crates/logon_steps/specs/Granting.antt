-- What comes of the answer of a client whose hash is the stored one, and who may log on: it is
-- granted, and both ends have one key (MS-NLMP 3.2.5.1.2, 3.4.5.1).
use Rattle.std.specs.Prelude.{ℕ, ◌≡◌, ◌⊎◌, ◌↔◌, List, [], ◌∷◌, ◌++◌, length, replicate, Option, Some, None}
use Rattle.channel_keys.specs.Hidden.{crypt_key}
use Rattle.account_table.specs.AccountTable.{AccountTable}
use Rattle.account_table.specs.Changes.{DifferInCounts, with_bad_count}
use Rattle.account_table.specs.LookUps.{account_in, place_in}
use Rattle.account_table.specs.declared.account.Account.{Account}
use Rattle.ntlm_messages.specs.declared.messages.Authenticate.{Authenticate}
use Rattle.ntlm_responses.specs.Verification.{base_key_of}
use Rattle.logon_stubs.specs.declared.info.NetworkInfo.{NetworkInfo}
use Rattle.logon_stubs.specs.declared.info.SamInfo.{SamInfo}
use Rattle.logon_stubs.specs.declared.info.Verdict.TheVariants.{Granted}
use Rattle.sam_logon.specs.Granting.{at_level, sam_info_of}
use Rattle.sam_logon.specs.MayLogOn.{MayLogOn}
use Rattle.sam_logon.specs.Verdict.{table_after, verdict_of}
use Rattle.authenticators.specs.Sequences.{return_of}
use Rattle.authenticators.specs.SecureChannels.{SecureChannelState, key_of_channel}
use Rattle.channel_client.specs.Machine.{level_asked}
use Rattle.domain_controller.specs.Machine.{judge_info}
use Rattle.logon_client.specs.declared.answering.Answer.{Answer}
use Rattle.logon_client.specs.declared.plan.AuthKind.{AuthKind}
use Rattle.logon_client.specs.declared.plan.AuthKind.TheVariants.{V1, V1Ess, V2}
use Rattle.logon_client.specs.declared.plan.ClientPlan.{ClientPlan}
use Rattle.logon_client.specs.Plans.{CanLogOn}
use Rattle.member_server.specs.declared.plan.MemberPlan.{MemberPlan}
use Rattle.member_server.specs.Messages.{info_of}
use Rattle.member_server.specs.Outcomes.{key_in, name_in, session_in}
use Rattle.logon_steps.specs.Answers.{AreDraws, HasUnits, answer_for, drawn_of, logon_for, terms_for}
use Rattle.logon_steps.specs.Asking.{info_at}
use Rattle.logon_steps.specs.ControllerTurns.{passed_reply}
use Rattle.logon_steps.specs.Meeting.{flags_agreed}
use Rattle.logon_steps.specs.MemberAnswers.{granting}
use Rattle.logon_steps.specs.MemoCalls.{AreSessions}

-- A response of as many bytes as the NT response of its kind has at least (MS-NLMP 3.3.1, 3.3.2): whether it has 24 is
-- all that is asked of it here.
abbrev pub response_told : AuthKind → List ℕ
response_told V1 = replicate 24 0
response_told V1Ess = replicate 24 0
response_told V2 = replicate 44 0

-- what the logon of a client is judged by, as far as its account and the policy go
abbrev pub info_told : ClientPlan → NetworkInfo
info_told task = record {
  domain = task.domain;
  control = 0;
  logon_id = 0;
  user = task.user;
  workstation = task.workstation;
  challenge = [];
  nt = response_told task.auth;
  lm = [];
}

-- the session base key of what the client answers
abbrev pub base_key : ClientPlan → Authenticate → List ℕ
base_key task message = base_key_of task.hash task.user task.domain message.nt

-- the table with a count of 0 bad passwords for the account of that name
abbrev pub cleared_at : Option ℕ → AccountTable → AccountTable
cleared_at None table = table
cleared_at (Some place) table = with_bad_count place 0 table

abbrev pub cleared : AccountTable → List ℕ → AccountTable
cleared table user = cleared_at (place_in table.accounts user) table

pub record LogonsAreGranted : Type 0 where
  -- the client's NT response has 24 bytes exactly where it is one of NTLMv1 (MS-NLMP 3.3.1, 3.3.2)
  pub response : (plan : MemberPlan) (task : ClientPlan) (challenge one two three : List ℕ) (then_now : ℕ) → AreDraws one two three →
      (length (answer_for plan task challenge then_now (drawn_of one two three)).message.nt ≡ 24) ↔ ((task.auth ≡ V1) ⊎ (task.auth ≡ V1Ess))
  -- the verdict, at any moment at which the account may log on
  pub verdict : (plan : MemberPlan) (task : ClientPlan) (challenge one two three : List ℕ) (then_now place now : ℕ) (table : AccountTable) (name : List ℕ) (account : Account) →
      CanLogOn task → HasUnits task → AreDraws one two three → account_in table.accounts task.user ≡ Some account → account.hash ≡ task.hash →
      MayLogOn table (info_told task) now →
      let message : Authenticate = (answer_for plan task challenge then_now (drawn_of one two three)).message in
      verdict_of table name (info_at place (info_of message (flags_agreed task) challenge)) now
      ≡ Granted (sam_info_of table name account (base_key task message) now)
  -- the table afterwards has a count of 0 for the account
  pub table : (plan : MemberPlan) (task : ClientPlan) (challenge one two three : List ℕ) (then_now place now : ℕ) (table : AccountTable) (account : Account) →
      CanLogOn task → HasUnits task → AreDraws one two three → account_in table.accounts task.user ≡ Some account → account.hash ≡ task.hash →
      MayLogOn table (info_told task) now →
      let message : Authenticate = (answer_for plan task challenge then_now (drawn_of one two three)).message in
      table_after table (info_at place (info_of message (flags_agreed task) challenge)) now ≡ cleared table task.user
  pub counts : (table : AccountTable) (user : List ℕ) → DifferInCounts table (cleared table user)
  -- the controller judges by it
  pub granted : (plan : MemberPlan) (task : ClientPlan) (challenge one two three : List ℕ) (then_now place now : ℕ) (table : AccountTable) (name : List ℕ) (account : Account) →
      CanLogOn task → HasUnits task → AreDraws one two three → account_in table.accounts task.user ≡ Some account → account.hash ≡ task.hash →
      MayLogOn table (info_told task) now →
      let message : Authenticate = (answer_for plan task challenge then_now (drawn_of one two three)).message in
      judge_info table name now (info_at place (info_of message (flags_agreed task) challenge)) level_asked
      ≡ record { verdict = Granted (sam_info_of table name account (base_key task message) now); table = cleared table task.user }
  -- the level that is asked carries all of what is granted, so that the reply grants it with its key hidden
  pub carried : (info : SamInfo) → at_level level_asked info ≡ info
  pub reply : (o : SecureChannelState) (timestamp : ℕ) (info : SamInfo) →
      passed_reply (key_of_channel o) (return_of (key_of_channel o) o.seed timestamp) (Granted info)
      ≡ granting o timestamp 0 1 (record info { key = crypt_key (key_of_channel o) info.key })
  -- who has the base key finds the client's key
  pub key : (plan : MemberPlan) (task : ClientPlan) (challenge one two three : List ℕ) (then_now link : ℕ) (sam : SamInfo) → AreDraws one two three →
      let answer : Answer = answer_for plan task challenge then_now (drawn_of one two three) in
      sam.key ≡ base_key task answer.message → key_in sam (logon_for link task challenge answer.message) ≡ answer.key
  -- the sessions of both are in step
  pub sessions : (plan : MemberPlan) (task : ClientPlan) (challenge one two three : List ℕ) (then_now : ℕ) → CanLogOn task →
      let answer : Answer = answer_for plan task challenge then_now (drawn_of one two three) in
      AreSessions 1 task.level (terms_for plan task challenge then_now (drawn_of one two three)).session (session_in answer.key (flags_agreed task))
  -- what is granted has the key, and the name is the domain's, a backslash and the account's
  pub has_key : (table : AccountTable) (name : List ℕ) (account : Account) (key : List ℕ) (now : ℕ) → (sam_info_of table name account key now).key ≡ key
  pub name : (table : AccountTable) (name : List ℕ) (account : Account) (key shown : List ℕ) (now : ℕ) →
      name_in (record (sam_info_of table name account key now) { key = shown }) ≡ table.domain ++ 0x5C ∷ account.name

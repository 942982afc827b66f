-- That what a controller grants by its accounts can be told, and what the member has of it: the name, the key and the
-- session (MS-NRPC 2.2.1.4.13, 3.5.4.5.3; MS-NLMP 3.2.5.1.2).
use Rattle.std.specs.Prelude.{true, ℕ, ◌≡◌, ◌≤◌, ◌<◌, ◌^◌, List, ◌∷◌, ◌++◌, length}
use Rattle.wire_base.specs.Names.{IsName}
use Rattle.wire_base.specs.Units.{AreUnits}
use Rattle.authenticators.specs.SecureChannels.{SecureChannelState, key_of_channel}
use Rattle.account_table.specs.AccountTable.{AccountTable}
use Rattle.account_table.specs.Ranges.{InRangeAccount, InRangeSid}
use Rattle.account_table.specs.declared.account.Account.{Account}
use Rattle.channel_client.specs.declared.state.Question.TheVariants as question
use Rattle.unit_security.specs.Levels.{is_signed}
use Rattle.logon_client.specs.Plans.{CanLogOn}
use Rattle.member_server.specs.Outcomes.{name_in}
use Rattle.member_server.specs.Turns.{timestamp_of}
use Rattle.logon_steps.specs.Answers.{AreDraws, answer_for, drawn_of, terms_for}
use Rattle.logon_steps.specs.Calling.{TravelsAsZeros}
use Rattle.logon_steps.specs.Granting.{base_key}
use Rattle.logon_steps.specs.MemberAnswers.{granting, sam_shown}
use Rattle.logon_steps.specs.MemoCalls.{AreSessions}
use Rattle.logon_steps.specs.Turning.{IsTurnReply}
use Rattle.logon_runs.specs.Scenes.LinkScenes.{Meeting}
use Rattle.logon_runs.specs.Runs.{ClientAnswer, hidden, message_for, on_for, sam_for}

-- the reply can be written, joined and read; the name that the member finds in it is the domain's, a backslash and the
-- account's
pub record CanBeTold (g : Meeting) (a : ClientAnswer) (o : SecureChannelState) (table : AccountTable) (name : List ℕ) (account : Account) (moment : ℕ) : Type 0 where
  pub reply : IsTurnReply question.Logon (granting o (timestamp_of moment) 0 1 (hidden o (sam_for g a table name account moment)))
  pub found : name_in (sam_shown o (hidden o (sam_for g a table name account moment))) ≡ table.domain ++ 0x5C ∷ account.name
  pub short : length (name_in (sam_shown o (hidden o (sam_for g a table name account moment)))) ≤ 129
  pub units : AreUnits (name_in (sam_shown o (hidden o (sam_for g a table name account moment))))

-- where units are signed, the session base key doesn't travel as zeros
abbrev pub KeyArrives : Meeting → ClientAnswer → SecureChannelState → Type 0
KeyArrives g a o = is_signed g.task.level ≡ true → TravelsAsZeros (key_of_channel o) (base_key g.task (message_for g a)) → ⊥

pub record GrantsAreTold : Type 0 where
  -- of accounts and names in their ranges
  pub told : (g : Meeting) (a : ClientAnswer) (o : SecureChannelState) (table : AccountTable) (name : List ℕ) (account : Account) (moment : ℕ) → IsName table.domain → InRangeSid table.sid →
      IsName name → InRangeAccount account → moment < 2 ^ 64 → CanBeTold g a o table name account moment
  -- the member's key is the client's, unless the session base key travels as zeros
  pub key : (g : Meeting) (a : ClientAnswer) (o : SecureChannelState) (table : AccountTable) (name : List ℕ) (account : Account) (moment : ℕ) → AreDraws a.one a.two a.three →
      (TravelsAsZeros (key_of_channel o) (base_key g.task (message_for g a)) → ⊥) →
      (on_for g a o (sam_for g a table name account moment)).key ≡ (answer_for g.plan g.task a.challenge a.then_now (drawn_of a.one a.two a.three)).key
  -- the sessions of both are in step: without signatures there is none at the client
  pub sessions : (g : Meeting) (a : ClientAnswer) (o : SecureChannelState) (table : AccountTable) (name : List ℕ) (account : Account) (moment : ℕ) → CanLogOn g.task → AreDraws a.one a.two a.three →
      KeyArrives g a o →
      AreSessions 1 g.task.level (terms_for g.plan g.task a.challenge a.then_now (drawn_of a.one a.two a.three)).session (on_for g a o (sam_for g a table name account moment)).session

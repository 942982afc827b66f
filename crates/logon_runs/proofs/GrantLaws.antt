-- That what a controller grants by its accounts can be told.
-- Of `grants_are_told`.
use Rattle.std.proofs.Common.{◌≡◌, ℕ, ◌≤◌, Bool, true, false, refl, List, ◌∷◌, ◌++◌, length, sym, subst, arith, length-append, inl, inr}
use Rattle.account_table.specs.AccountTable.{AccountTable}
use Rattle.account_table.specs.declared.account.Account.{Account}
use Rattle.logon_runs.specs.Scenes.LinkScenes.{Meeting}
use Rattle.logon_runs.specs.Runs.{ClientAnswer, sam_for, message_for, hidden}
use Rattle.std.proofs.Common.{ap, ◌∙◌}
use Rattle.std.specs.Prelude.{◌&&◌}
use Rattle.ntlm_flags.specs.Flags.{has_flag, negotiate_extended_sessionsecurity}
use Rattle.unit_security.specs.Levels.{is_plain, is_signed}
use Rattle.logon_client.specs.Securing.{session_for, session_if}
use Rattle.member_server.specs.Outcomes.{session_in}
use Rattle.logon_steps.specs.Answers.{AreDraws, answer_for, drawn_of}
use Rattle.logon_steps.specs.Calling.{TravelsAsZeros}
use Rattle.logon_steps.specs.Meeting.{flags_agreed, offer_for}
use Rattle.logon_steps.specs.MemoCalls.{AreSessions}
use Rattle.logon_runs.specs.Runs.{on_for}
use Rattle.std.specs.Prelude.{All}
use Rattle.std.proofs.lemmas.Bool.{cases_lt}
use Rattle.std.proofs.lemmas.List.{get_or_past}
use Rattle.std.proofs.lemmas.List.Elements.{All-append, All-cons, All-get_or}
use Rattle.wire_base.specs.Names.{IsName, IsNameByte}
use Rattle.wire_base.specs.Units.{AreUnits}
use Rattle.wire_base.proofs.NumberLaws.{bytes_from_all}
use Rattle.channel_keys.specs.Hidden.{crypt_key}
use Rattle.authenticators.specs.SecureChannels.{SecureChannelState, key_of_channel}
use Rattle.ntlm_messages.specs.declared.messages.Authenticate.{Authenticate}
use Rattle.ntlm_responses.proofs.ResponseLaws.{All-base_key_of, length-base_key_of}
use Rattle.logon_stubs.specs.Ranges.{IsBlock}
use Rattle.logon_stubs.specs.declared.info.SamInfo.{SamInfo}
use Rattle.channel_client.specs.declared.state.Question.TheVariants as question
use Rattle.logon_client.specs.declared.plan.ClientPlan.{ClientPlan}
use Rattle.member_server.specs.Outcomes.{name_in}
use Rattle.member_server.specs.Turns.{timestamp_of}
use Rattle.logon_steps.specs.Granting.{base_key}
use Rattle.logon_steps.specs.MemberAnswers.{granting, sam_shown}
use Rattle.logon_steps.specs.Turning.{IsTurnReply}
use Rattle.logon_steps.proofs.CallingLaws.{calls_can_go}
use Rattle.logon_steps.proofs.GrantingLaws.{logons_are_granted}
use Rattle.logon_runs.specs.Grants.{GrantsAreTold}
use Rattle.logon_runs.specs.Runs.{hidden, message_for, sam_for}

-- the bytes of names are units
are_units : (bytes : List ℕ) → All IsNameByte bytes → AreUnits bytes
are_units bytes all place =
    elim (cases_lt place (length bytes)) [
      | inl within ↦ omega (arith, (All-get_or IsNameByte bytes place 0 within all).1)
      | inr past ↦ rw (get_or_past bytes place 0 past) (omega arith)
    ]

base_block : (task : ClientPlan) (message : Authenticate) → IsBlock 16 (base_key task message)
base_block task message =
    (length-base_key_of task.hash task.user task.domain message.nt, bytes_from_all (base_key task message) (All-base_key_of task.hash task.user task.domain message.nt))

name_bytes : (domain account : List ℕ) → IsName domain → IsName account → All IsNameByte (domain ++ 0x5C ∷ account)
name_bytes domain account is_domain is_account =
    All-append IsNameByte domain (0x5C ∷ account) is_domain.1 (All-cons IsNameByte 0x5C account (omega arith, omega arith) is_account.1)

name_short : (domain account : List ℕ) → IsName domain → IsName account → length (domain ++ 0x5C ∷ account) ≤ 129
name_short domain account is_domain is_account = omega (arith, length-append domain (0x5C ∷ account), is_domain.0, is_account.0)

-- ---- the member's key and session

key_so : (g : Meeting) (a : ClientAnswer) (o : SecureChannelState) (table : AccountTable) (name : List ℕ) (account : Account) (moment : ℕ) → AreDraws a.one a.two a.three →
    (TravelsAsZeros (key_of_channel o) (base_key g.task (message_for g a)) → ⊥) →
    (on_for g a o (sam_for g a table name account moment)).key ≡ (answer_for g.plan g.task a.challenge a.then_now (drawn_of a.one a.two a.three)).key
key_so g a o table name account moment draws arrives =
    logons_are_granted.key g.plan g.task a.challenge a.one a.two a.three a.then_now g.link (sam_shown o (hidden o (sam_for g a table name account moment))) draws
    (ap (λ (k : List ℕ). crypt_key (key_of_channel o) (crypt_key (key_of_channel o) k)) (logons_are_granted.has_key table name account (base_key g.task (message_for g a)) moment)
    ∙ calls_can_go.shown (key_of_channel o) (base_key g.task (message_for g a)) arrives)

-- where units aren't signed, no session stands on the key
sessions_so : (signed : Bool) (level : ℕ) (key found : List ℕ) (flags agreed : ℕ) → is_signed level ≡ signed → (signed ≡ true → found ≡ key) →
    AreSessions 1 level (session_for level key flags) (session_in key agreed) → AreSessions 1 level (session_for level key flags) (session_in found agreed)
sessions_so true level key found flags agreed signed same are = subst (λ (k : List ℕ). AreSessions 1 level (session_for level key flags) (session_in k agreed)) (sym (same refl)) are
sessions_so false level key found flags agreed unsigned same are =
    let by : Bool → List ℕ → Type 0 = λ (b : Bool) (k : List ℕ). AreSessions 1 level (session_if (b && has_flag flags negotiate_extended_sessionsecurity) key flags) (session_in k agreed) in
    let plain : is_plain level ≡ true = subst (λ (b : Bool). by b key) unsigned are in
    subst (λ (b : Bool). by b found) (sym unsigned) plain

pub grants_are_told : GrantsAreTold
grants_are_told = record {
  told = λ g a o table name account moment is_domain is_sid is_name is_account below.
      let sam : SamInfo = sam_for g a table name account moment in
      let key : List ℕ = base_key g.task (message_for g a) in
      let found : name_in (sam_shown o (hidden o sam)) ≡ table.domain ++ 0x5C ∷ account.name =
      logons_are_granted.name table name account key (crypt_key (key_of_channel o) (crypt_key (key_of_channel o) sam.key)) moment in
      record {
        reply = subst (λ (k : List ℕ). IsTurnReply question.Logon (granting o (timestamp_of moment) 0 1 (record sam { key = crypt_key (key_of_channel o) k })))
            (sym (logons_are_granted.has_key table name account key moment))
            (calls_can_go.granted o (timestamp_of moment) table name account key moment is_domain is_sid is_name is_account (base_block g.task (message_for g a)) below);
        found = found;
        short = subst (λ (n : List ℕ). length n ≤ 129) (sym found) (name_short table.domain account.name is_domain is_account.name);
        units = subst AreUnits (sym found) (are_units (table.domain ++ 0x5C ∷ account.name) (name_bytes table.domain account.name is_domain is_account.name));
      };
  key = key_so;
  sessions = λ g a o table name account moment can draws arrives.
      sessions_so (is_signed g.task.level) g.task.level (answer_for g.plan g.task a.challenge a.then_now (drawn_of a.one a.two a.three)).key
      (on_for g a o (sam_for g a table name account moment)).key (offer_for g.plan g.task a.challenge a.then_now).flags (flags_agreed g.task) refl
      (λ signed. key_so g a o table name account moment draws (arrives signed))
      (logons_are_granted.sessions g.plan g.task a.challenge a.one a.two a.three a.then_now can);
}

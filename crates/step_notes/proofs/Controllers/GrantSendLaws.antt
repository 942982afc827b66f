-- What a controller sends where it grants a Logon call.
-- It serves `grants_carry_their_key`.
use Rattle.std.proofs.Common.{◌≡◌, ℕ, true, List, [], ◌∷◌, Option, Some, refl, sym, ap, subst, ◌∙◌}
use Rattle.wire_base.specs.declared.authenticator.Authenticator.{Authenticator}
use Rattle.authenticators.specs.Sequences.{return_of}
use Rattle.outside.specs.declared.action.Action.{Action}
use Rattle.outside.specs.declared.action.Action.TheVariants as action
use Rattle.outside.specs.declared.action.Judged.TheVariants as judged
use Rattle.rpc_units.specs.Calls.{bytes_of_call}
use Rattle.logon_stubs.specs.Writing.{written_reply}
use Rattle.end_links.specs.Sending.{response_of}
use Rattle.domain_controller.specs.ReadBack.{passed_reply}
use Rattle.logon_stubs.specs.declared.calls.LogonCall.{LogonCall}
use Rattle.logon_stubs.specs.declared.info.Verdict.{Verdict}
use Rattle.logon_stubs.specs.declared.info.Verdict.TheVariants.{Granted}
use Rattle.ntlm_responses.specs.Verification.{base_key_of}
use Rattle.account_table.specs.AccountTable.{AccountTable}
use Rattle.account_table.specs.declared.account.Account.{Account}
use Rattle.sam_logon.specs.Granting.{granting_reply, sam_info_of}
use Rattle.channel_keys.specs.Hidden.{crypt_key}
use Rattle.authenticators.specs.SecureChannels.{key_of_channel}
use Rattle.domain_controller.specs.Machine.{Desk, status_of}
use Rattle.controller_calls.specs.declared.line.Line.{Line}
use Rattle.step_notes.specs.ControllerNotes.{Where, has_passed, judged_in, judging_of, new_actions}
use Rattle.step_notes.specs.GrantSends.{GrantsCarryTheirKey, IsSentAsGranted, actions_granting}
use Rattle.step_notes.specs.Judged.{base_key_asked, hash_in}
use Rattle.step_notes.specs.Records.{Judging}
use Rattle.controller_calls.specs.declared.calls.JudgedCall.TheVariants.{Network}
use Rattle.step_notes.specs.ReplySends.{verdict_passed}
use Rattle.step_notes.proofs.Controllers.GrantVerdictLaws.{IsServedGrant, served_grant}
use Rattle.step_notes.proofs.Controllers.JudgedStepLaws.{same_status}
use Rattle.step_notes.proofs.Controllers.ReplySendLaws.{IsSentAsPassed, passed_sends}

-- what a network logon comes to that passes: its one judgement, and the frames of its reply
abbrev pub actions_passing : Line → List ℕ → List ℕ → ℕ → Verdict → List Action
actions_passing line key credential validation verdict =
    action.Judged (judged.Passed (status_of verdict))
    ∷ action.Send line.link (bytes_of_call (response_of line.call line.context (written_reply (passed_reply key credential validation verdict))) line.limit)
    ∷ []

granted_actions : (line : Line) (key credential : List ℕ) (level : ℕ) (table : AccountTable) (name : List ℕ) (account : Account) (base : List ℕ) (now : ℕ) →
    actions_passing line key credential level (Granted (sam_info_of table name account base now))
    ≡ actions_granting line (granting_reply (Some (record { credential = credential; timestamp = 0 })) level (sam_info_of table name account base now) (crypt_key key base) 1 0)
unfolding sam_info_of
granted_actions line key credential level table name account base now = refl

-- what is sent where the call passed is what is sent where it is granted, if it was told so
granted_so : (w : Where) (line : Line) (c : LogonCall) (d after : Desk) → IsSentAsPassed (judging_of w line (Network c) d (Some after)) line (new_actions (Some after) d) →
    (judging_of w line (Network c) d (Some after)).how ≡ Some (judged.Passed 0) → IsSentAsGranted (judging_of w line (Network c) d (Some after)) c line (new_actions (Some after) d)
granted_so w line c d after sent is =
    let j : Judging = judging_of w line (Network c) d (Some after) in
    let key : List ℕ = key_of_channel sent.next.channel in
    let status : status_of (verdict_passed j c) ≡ 0 = same_status _ 0 (sym (ap judged_in sent.actions) ∙ is) in
    let served : IsServedGrant d.table w.name w.moment c.info c.validation (verdict_passed j c) = served_grant d.table w.name w.moment c.info c.validation status in
    let account : Account = served.grant.account in
    let returned : Authenticator = record { credential = return_of key sent.next.channel.seed sent.next.given.timestamp; timestamp = 0 } in
    let base : base_key_of account.hash c.info.user c.info.domain c.info.nt ≡ base_key_asked j c.info =
    ap (λ (found : Option Account). base_key_of (hash_in found) c.info.user c.info.domain c.info.nt) (sym served.grant.stored) in
    record {
      next = sent.next;
      account = account;
      stored = served.grant.stored;
      actions = sent.actions
          ∙ ap (λ (v : Verdict). actions_passing line key returned.credential c.validation v) served.grant.is
          ∙ granted_actions line key returned.credential c.validation d.table w.name account (base_key_of account.hash c.info.user c.info.domain c.info.nt) w.moment
          ∙ ap (λ (k : List ℕ). actions_granting line (granting_reply (Some returned) c.validation (sam_info_of d.table w.name account k w.moment) (crypt_key key k) 1 0)) base;
    }

pub grants_carry_their_key : GrantsCarryTheirKey
grants_carry_their_key w line c d after is how =
    granted_so w line c d after
    (subst (λ (one : Desk). has_passed (judging_of w line (Network c) d (Some one)).how ≡ true → IsSentAsPassed (judging_of w line (Network c) d (Some one)) line (new_actions (Some one) d)) (sym is)
    (passed_sends w line (Network c) d) (ap has_passed how))
    how

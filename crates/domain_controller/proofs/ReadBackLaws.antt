-- For the law `replies_are_read_as_made`: each status has 32 bits, and what is granted has its ranges.
use Rattle.std.proofs.Common.{◌≡◌, ◌∙◌, ap, ℕ, ◌<◌, ◌^◌, Bool, true, false, List, [], ◌∷◌, Option, Some, None, Ok, arith}
use Rattle.std.specs.List.{AllByRecursion}
use Rattle.std.proofs.lemmas.Nat.{and_le_r}
use Rattle.wire_base.specs.declared.authenticator.Authenticator.{Authenticator}
use Rattle.channel_keys.specs.Credentials.{cred_of}
use Rattle.channel_keys.specs.Flags.{supported_flags}
use Rattle.channel_keys.specs.Hidden.{crypt_key, is_zero}
use Rattle.authenticators.specs.Sequences.{next_seed, return_of}
use Rattle.authenticators.proofs.BlockLaws.{cred_block}
use Rattle.rpc_units.specs.declared.unit.Unit.{Unit as RpcUnit}
use Rattle.rpc_units.specs.Calls.{IsHeard, bytes_of_call}
use Rattle.rpc_units.specs.Joining.{stub_of}
use Rattle.logon_stubs.specs.declared.calls.Reply.{Reply}
use Rattle.logon_stubs.specs.declared.info.NetworkInfo.{NetworkInfo}
use Rattle.logon_stubs.specs.declared.info.SamInfo.{SamInfo}
use Rattle.logon_stubs.specs.declared.info.Verdict.{Verdict}
use Rattle.logon_stubs.specs.declared.info.Verdict.TheVariants.{Granted, Status}
use Rattle.logon_stubs.specs.Calls.{opnum_of_reply, reply_of}
use Rattle.logon_stubs.specs.Ranges.{InRangeReply, IsBlock}
use Rattle.logon_stubs.specs.Writing.{CanWriteReply, written_reply}
use Rattle.logon_stubs.proofs.WrittenLaws.{reply_of-written_reply}
use Rattle.interactive_logon.specs.declared.calls.InteractiveInfo.{InteractiveInfo}
use Rattle.secret_change.specs.Calls.{set_reply as set_stub, set_reply_of}
use Rattle.secret_change.proofs.SetLaws.{reply_stub, stub_again}
use Rattle.account_table.specs.AccountTable.{AccountTable}
use Rattle.account_table.specs.LookUps.{account_in, route_in}
use Rattle.account_table.specs.declared.account.Account.{Account}
use Rattle.account_table.specs.declared.account.Policy.{Policy}
use Rattle.account_table.specs.declared.table.Route.{Route}
use Rattle.account_table.specs.declared.table.Route.TheVariants.{Own, Trust, Elsewhere}
use Rattle.sam_logon.specs.Rules.{Rule, Shown, first_refusal, refusal_by, rules_for, shown_by_hash, shown_by_response}
use Rattle.sam_logon.specs.Verdict.{IfGranted, interactive_judgement_of, interactive_verdict_of, judgement_of, verdict_by, verdict_of, verdict_routed, verdict_shown}
use Rattle.sam_logon.proofs.GrantedLaws.{granting-CanWrite, granting-InRange}
use Rattle.end_links.specs.Sending.{response_of}
use Rattle.controller_calls.specs.Interactive.{admitted, judge_interactive, judge_interactive_level, shown_hash}
use Rattle.controller_calls.specs.Logons.{IsServedLevel, judge_info, judge_level, serves_level, status_of}
use Rattle.domain_controller.specs.ReadBack.{IsReadBack, IsSetReadBack, RepliesAreReadBack, logged_off_reply, opened_reply, passed_reply, set_reply}
use Rattle.domain_controller.proofs.AloneLaws.{number_fits, reply_alone}
use Rattle.domain_controller.proofs.WholeParts.{Fits, IsRoomy, admitted_has, crypt_block, interactive_fit, interactive_served, judged_fits, judged_served, logoff_few, opened_few, passed_few, reply_can, reply_heard}

-- ---- each status has 32 bits

abbrev HasStatus : Verdict → Type 0
HasStatus verdict = status_of verdict < 2 ^ 32

by_rule : (refuses : Bool) (rule : Rule) (later : Option _) (info : SamInfo) → rule.1.status < 2 ^ 32 → HasStatus (verdict_by later info) → HasStatus (verdict_by (refusal_by refuses rule.1 later) info)
by_rule true rule later info small is = small
by_rule false rule later info small is = is

by_rules : (rules : List Rule) (info : SamInfo) → AllByRecursion (λ (rule : Rule). rule.1.status < 2 ^ 32) rules → HasStatus (verdict_by (first_refusal rules) info)
by_rules [] info all = omega arith
by_rules (rule ∷ rules) info all = by_rule rule.0 rule (first_refusal rules) info all.0 (by_rules rules info all.1)

rules_small : (policy : Policy) (account : Account) (shown : Shown) (workstation : List ℕ) (now : ℕ) → AllByRecursion (λ (rule : Rule). rule.1.status < 2 ^ 32) (rules_for policy account shown workstation now)
rules_small policy account shown workstation now = (omega arith, (omega arith, (omega arith, (omega arith, (omega arith, (omega arith, (omega arith, (omega arith, (omega arith, (omega arith, (omega arith, tt)))))))))))

shown_small : (found : Option Account) (shown : Shown) (table : AccountTable) (name workstation : List ℕ) (now : ℕ) → HasStatus (verdict_shown found shown table name workstation now)
shown_small None shown table name workstation now = omega arith
shown_small (Some account) shown table name workstation now = by_rules (rules_for table.policy account shown workstation now) _ (rules_small table.policy account shown workstation now)

routed_small : (route : Route) (shown : Shown) (table : AccountTable) (name user workstation : List ℕ) (now : ℕ) → HasStatus (verdict_routed route shown table name user workstation now)
routed_small Own shown table name user workstation now = shown_small (account_in table.accounts user) shown table name workstation now
routed_small (Trust place) shown table name user workstation now = omega arith
routed_small Elsewhere shown table name user workstation now = omega arith

level_small : (served : Bool) (table : AccountTable) (name : List ℕ) (info : NetworkInfo) (now : ℕ) → HasStatus (judge_level served table name info now).verdict
unfolding judgement_of verdict_of
level_small false table name info now = omega arith
level_small true table name info now = routed_small (route_in table info.domain) (shown_by_response info) table name info.user info.workstation now

interactive_level_small : (served : Bool) (table : AccountTable) (name : List ℕ) (now : ℕ) (info : InteractiveInfo) (key : List ℕ) → HasStatus (judge_interactive_level served table name now info key).verdict
unfolding interactive_judgement_of interactive_verdict_of
interactive_level_small false table name now info key = omega arith
interactive_level_small true table name now info key =
    routed_small (route_in table info.domain) (shown_by_hash (shown_hash key info)) table name info.user info.workstation now

admitted_small : (full : Bool) (verdict : Verdict) → HasStatus verdict → HasStatus (admitted full verdict)
admitted_small false verdict small = small
admitted_small true (Granted info) small = omega arith
admitted_small true (Status status) small = small

-- ---- the reply is read as it was written

read_from : (answer : Reply) → CanWriteReply answer → InRangeReply answer → IsRoomy (written_reply answer) → IsReadBack answer
read_from answer can range roomy = record { read = reply_of-written_reply answer can range; few = roomy.few; bytes = roomy.are }

passed_read : (verdict : Verdict) (level : ℕ) (session credential : List ℕ) → level < 2 ^ 16 → IsBlock 8 credential → HasStatus verdict → IfGranted verdict Fits → IfGranted verdict (λ info. IsServedLevel level) →
    IsReadBack (passed_reply session credential level verdict)
passed_read (Status status) level session credential small block status_is fits served =
    read_from (passed_reply session credential level (Status status)) tt (record {
      returned = record { credential = block; timestamp = omega arith };
      level = small;
      info = tt;
      authoritative = omega arith;
      status = status_is;
    }) (passed_few (Status status) level session credential block fits served)
passed_read (Granted info) level session credential small block status_is fits served =
    let returned : Option Authenticator = Some (record { credential = credential; timestamp = 0 }) in
    let key : List ℕ = crypt_key session info.key in
    read_from (passed_reply session credential level (Granted info)) (granting-CanWrite returned level info key 1 0 served fits.can)
    (granting-InRange returned level info key 1 0 small fits.range (crypt_block (is_zero info.key) session info.key fits.range.key) (record { credential = block; timestamp = omega arith }) (omega arith) (omega arith))
    (passed_few (Granted info) level session credential block fits served)

logged_off_read : (credential : List ℕ) (status : ℕ) → IsBlock 8 credential → status < 2 ^ 32 → IsReadBack (logged_off_reply credential status)
logged_off_read credential status block small =
    read_from (logged_off_reply credential status) tt (record { returned = record { credential = block; timestamp = omega arith }; status = small })
    (logoff_few (Some (record { credential = credential; timestamp = 0 })) status block)

set_read : (credential : List ℕ) (status : ℕ) → IsBlock 8 credential → status < 2 ^ 32 → IsSetReadBack (set_reply credential status)
unfolding set_reply_of
set_read credential status block small =
    let stub = reply_stub (set_reply credential status) (record { returned = record { credential = block; timestamp = omega arith }; status = small }) in
    record { read = stub_again set_stub (set_reply credential status) _ _ stub; few = omega (arith, stub.short); bytes = stub.are_bytes }

opened_read : (key server : List ℕ) (offered : ℕ) → IsReadBack (opened_reply (cred_of key server) offered)
opened_read key server offered =
    read_from (opened_reply (cred_of key server) offered) tt
    (record { credential = cred_block key server; flags = omega (arith, and_le_r offered supported_flags); status = omega arith })
    (opened_few _ (cred_block key server))

reply_read : (call context limit : ℕ) (answer : Reply) (frames : List RpcUnit) (unit : RpcUnit) → IsReadBack answer →
    IsHeard (bytes_of_call (response_of call context (written_reply answer)) limit) frames unit → reply_of (opnum_of_reply answer) (stub_of unit.body) ≡ Ok answer
reply_read call context limit answer frames unit is heard =
    ap (λ (u : RpcUnit). reply_of (opnum_of_reply answer) (stub_of u.body)) (reply_alone call context limit (written_reply answer) frames unit is.few heard) ∙ is.read

pub replies_are_read_back : RepliesAreReadBack
replies_are_read_back = record {
  frames = reply_heard;
  can = reply_can;
  alone = reply_alone;
  reads = reply_read;
  number = number_fits;
  passed = λ table name now info validation key seed timestamp range is_name moment small.
      passed_read (judge_info table name now info validation).verdict validation key (return_of key seed timestamp) small (cred_block key (next_seed seed timestamp))
      (level_small (serves_level validation) table name info now) (judged_fits table name now range is_name moment info validation) (judged_served table name now info validation);
  interactive = λ table name now info validation full key seed timestamp range is_name moment small.
      passed_read (admitted full (judge_interactive table name now info validation key).verdict) validation key (return_of key seed timestamp) small (cred_block key (next_seed seed timestamp))
      (admitted_small full _ (interactive_level_small (serves_level validation) table name now info key))
      (admitted_has full _ Fits (interactive_fit table name now range is_name moment info validation key))
      (admitted_has full _ (λ granted. IsServedLevel validation) (interactive_served table name now info validation key));
  logged_off = λ key seed timestamp status small. logged_off_read (return_of key seed timestamp) status (cred_block key (next_seed seed timestamp)) small;
  set = λ key seed timestamp status small. set_read (return_of key seed timestamp) status (cred_block key (next_seed seed timestamp)) small;
  opened = opened_read;
}

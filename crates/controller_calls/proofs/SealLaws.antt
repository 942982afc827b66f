-- What a controller that can seal does as one that can't. It serves `supported_flags_open_as_before` and
-- `replies_may_be_sent_later`.
use Rattle.std.proofs.Common.{◌≡◌, ℕ, ◌==◌, Bool, true, false, List, [], ◌∷◌, Option, Some, None, bytes_eq, length, refl}
use Rattle.std.proofs.lemmas.List.{append_assoc}
use Rattle.wire_base.specs.declared.authenticator.Authenticator.{Authenticator}
use Rattle.ntlm_flags.specs.Flags.{has_flag}
use Rattle.channel_keys.specs.Credentials.{cred_of}
use Rattle.channel_keys.specs.Flags.{rc4_flag, supported_flags}
use Rattle.logon_stubs.specs.declared.calls.AuthCall.{AuthCall}
use Rattle.logon_stubs.specs.declared.info.Verdict.{Verdict}
use Rattle.logon_stubs.specs.declared.info.Verdict.TheVariants.{Granted, Status}
use Rattle.interactive_logon.specs.declared.calls.InteractiveInfo.{InteractiveInfo}
use Rattle.interactive_logon.specs.Sessions.{session_limit}
use Rattle.outside.specs.declared.action.Action.TheVariants as action
use Rattle.outside.specs.declared.action.Judged.{Judged}
use Rattle.outside.specs.declared.action.Judged.TheVariants as judged
use Rattle.secret_change.specs.Hiding.{show_of}
use Rattle.account_table.specs.declared.account.Account.{Account}
use Rattle.account_table.specs.AccountTable.{AccountTable}
use Rattle.account_table.specs.Changes.{with_hash}
use Rattle.account_table.specs.LookUps.{machine_in}
use Rattle.account_table.specs.Secrets.{secrets_of}
use Rattle.authenticators.specs.SecureChannels.{SecureChannelState, channel_by, key_of_channel, passes_on, return_by}
use Rattle.controller_calls.specs.Asking.{pass_asked}
use Rattle.controller_calls.specs.Calls.{asked_of, computer_named, given_in}
use Rattle.controller_calls.specs.Desk.{Desk, desk, put_channel, take_channel}
use Rattle.controller_calls.specs.Doing.{sessions_after, set_so}
use Rattle.controller_calls.specs.Logons.{status_of}
use Rattle.controller_calls.specs.Granting.{GrantsAsOpened, answer_opened, opened_for, opened_if, opened_offer, opened_with}
use Rattle.controller_calls.specs.Handing.{CallPlace, judge_named, judge_on, judge_returned, pass_or_hand, refuse_here, trust_asked}
use Rattle.controller_calls.specs.Interactive.{admitted, judge_interactive, pass_admitted}
use Rattle.controller_calls.specs.Opening.{account_for, channel_with, judge_account, judge_offer_with, judge_pair_with, open_channel}
use Rattle.controller_calls.specs.Setting.{set_at}
use Rattle.controller_calls.specs.Unsent.{UnsentAreSent, named_unsent, on_unsent, pass_done, pass_or_hand_unsent, pass_unsent, refuse_unsent, returned_unsent, sent_on}
use Rattle.controller_calls.specs.declared.calls.Asked.{Asked}
use Rattle.controller_calls.specs.declared.calls.Asked.TheVariants as asked
use Rattle.controller_calls.specs.declared.line.Line.{Line}
use Rattle.controller_calls.specs.declared.state.ChallengePair.{ChallengePair}
use Rattle.controller_calls.specs.declared.state.Work.{Work}

-- ---- channels that open

its_or_not : (is_its : Bool) (channel : SecureChannelState) (line : Line) (c : AuthCall) (work : Work) →
    answer_opened (opened_if is_its channel) supported_flags line c work ≡ open_channel is_its channel line c work
its_or_not false channel line c work = refl
its_or_not true channel line c work = refl

by_pair : (pair : Option ChallengePair) (hash : List ℕ) (line : Line) (c : AuthCall) (work : Work) →
    answer_opened (opened_with pair supported_flags hash c) supported_flags line c work ≡ judge_pair_with pair hash line c work
by_pair None hash line c work = refl
by_pair (Some pair) hash line c work =
    let channel : SecureChannelState = channel_with hash pair c in
    its_or_not (bytes_eq c.credential (cred_of (key_of_channel channel) channel.client)) channel line c work

by_offer : (offers : Bool) (pair : Option ChallengePair) (hash : List ℕ) (line : Line) (c : AuthCall) (work : Work) →
    answer_opened (opened_offer offers pair supported_flags hash c) supported_flags line c work ≡ judge_offer_with offers pair hash line c work
by_offer false pair hash line c work = refl
by_offer true pair hash line c work = by_pair pair hash line c work

by_account : (account : Option Account) (pair : Option ChallengePair) (line : Line) (c : AuthCall) (work : Work) →
    answer_opened (opened_for account pair supported_flags c) supported_flags line c work ≡ judge_account account pair line c work
by_account None pair line c work = refl
by_account (Some account) pair line c work = by_offer (has_flag c.flags rc4_flag) pair account.hash line c work

pub grants_as_opened : GrantsAsOpened
grants_as_opened = record { plain = λ table line c work. by_account (account_for table c) _ line c _ }

-- ---- replies that are sent later

refuses : (what : Asked) (how : Judged) (at : CallPlace) (d : Desk) → sent_on at.line (refuse_unsent what how d) ≡ refuse_here what how at d
refuses (asked.Network info validation) how at d = refl
refuses (asked.Interactive info validation) how at d = refl
refuses (asked.Logoff info) how at d = refl
refuses asked.NetworkLogoff how at d = refl
refuses (asked.Set account kind hidden) how at d = refl

admits : (verdict : Verdict) (table : AccountTable) (at : CallPlace) (info : InteractiveInfo) (validation : ℕ) (computer key credential : List ℕ) (d : Desk) →
    sent_on at.line (pass_done (asked.Interactive info validation) (record {
      status = status_of verdict;
      verdict = Some verdict;
      table = table;
      sessions = sessions_after verdict computer info d.work.computers.sessions;
    }) key credential d)
    ≡ (pass_admitted verdict table at.line info validation computer key credential d.work, None)
admits (Granted granted) table at info validation computer key credential d = refl
admits (Status status) table at info validation computer key credential d = refl

sets : (place : Option ℕ) (account : List ℕ) (kind : ℕ) (hidden hash : List ℕ) (at : CallPlace) (key credential : List ℕ) (d : Desk) →
    sent_on at.line (pass_done (asked.Set account kind hidden) (set_so place hash d.table d.work.computers.sessions) key credential d)
    ≡ (set_at place hash at.line credential d, None)
sets None account kind hidden hash at key credential d = refl
sets (Some place) account kind hidden hash at key credential d =
    rw (append_assoc d.work.actions (action.Keep (secrets_of (with_hash place hash d.table).accounts) ∷ []) (action.Judged (judged.Passed 0) ∷ [])) refl

passes_later : (what : Asked) (at : CallPlace) (computer key credential : List ℕ) (d : Desk) →
    sent_on at.line (pass_unsent what at computer key credential d) ≡ (pass_asked what at.name at.now at.line computer key credential d, None)
passes_later (asked.Network info validation) at computer key credential d = refl
passes_later (asked.Interactive info validation) at computer key credential d =
    admits
    (admitted (length d.work.computers.sessions == session_limit) (judge_interactive d.table at.name at.now info validation key).verdict)
    (judge_interactive d.table at.name at.now info validation key).table at info validation computer key credential d
passes_later (asked.Logoff info) at computer key credential d = refl
passes_later asked.NetworkLogoff at computer key credential d = refl
passes_later (asked.Set account kind hidden) at computer key credential d =
    sets (machine_in d.table.accounts account kind computer) account kind hidden (show_of key hidden) at key credential d

hands_or_passes : (trust : Option ℕ) (what : Asked) (at : CallPlace) (computer key credential : List ℕ) (d : Desk) →
    sent_on at.line (pass_or_hand_unsent trust what at computer key credential d) ≡ pass_or_hand trust what at computer key credential d
hands_or_passes None what at computer key credential d = passes_later what at computer key credential d
hands_or_passes (Some trust) what at computer key credential d = refl

returns : (credential : Option (List ℕ)) (channel : SecureChannelState) (what : Asked) (at : CallPlace) (computer : List ℕ) (d : Desk) →
    sent_on at.line (returned_unsent credential channel what at computer d) ≡ judge_returned credential channel what at computer d
returns None channel what at computer d = refuses what judged.Barred at d
returns (Some credential) channel what at computer d =
    hands_or_passes (trust_asked what channel.kind d.table at.trusts) what at computer (key_of_channel channel) credential d

on_channel : (found : Option SecureChannelState) (given : Authenticator) (what : Asked) (at : CallPlace) (computer : List ℕ) (d : Desk) →
    sent_on at.line (on_unsent found given what at computer d) ≡ judge_on found given what at computer d
on_channel None given what at computer d = refuses what judged.NoChannel at d
on_channel (Some channel) given what at computer d =
    returns (return_by (passes_on channel given) channel given) channel what at computer
    (desk d.table (put_channel computer (channel_by (passes_on channel given) channel given) d.work))

named : (computer : Option (List ℕ)) (given : Option Authenticator) (what : Asked) (at : CallPlace) (d : Desk) →
    sent_on at.line (named_unsent computer given what at d) ≡ judge_named computer given what at d
named None given what at d = refuses what judged.NoChannel at d
named (Some computer) None what at d = refuses what judged.NoChannel at d
named (Some computer) (Some given) what at d = on_channel _ given what at computer (desk d.table (take_channel computer d.work))

pub unsent_are_sent : UnsentAreSent
unsent_are_sent = record { sent = λ c at d. named (computer_named c) (given_in c) (asked_of c) at d }

-- A controller's verdict on a logon, from the network or interactive (MS-NRPC 3.5.4.5.3; the rules and their order are
-- this project's own choice): of the domain first, then of the user's name, then by the rules of the account.
use Rattle.std.specs.Prelude.{ℕ, Bool, true, false, List, Option, Some, None}
use Rattle.account_table.specs.AccountTable.{AccountTable}
use Rattle.account_table.specs.Changes.{at_place, with_count}
use Rattle.account_table.specs.LookUps.{account_in, place_in, route_in}
use Rattle.account_table.specs.declared.account.Account.{Account}
use Rattle.account_table.specs.declared.account.Policy.{Policy}
use Rattle.account_table.specs.declared.table.Route.{Route}
use Rattle.account_table.specs.declared.table.Route.TheVariants.{Own, Trust, Elsewhere}
use Rattle.logon_stubs.specs.declared.info.NetworkInfo.{NetworkInfo}
use Rattle.logon_stubs.specs.declared.info.SamInfo.{SamInfo}
use Rattle.logon_stubs.specs.declared.info.Verdict.{Verdict}
use Rattle.logon_stubs.specs.declared.info.Verdict.TheVariants.{Granted, Status}
use Rattle.logon_stubs.specs.Status.{no_such_user, no_such_domain}
pub use Rattle.logon_stubs.specs.Verdicts.{IfGranted}
use Rattle.sam_logon.specs.Granting.{sam_info_of}
use Rattle.sam_logon.specs.Rules.{Shown, count_after, first_refusal, rules_for, shown_by_hash, shown_by_response}
use Rattle.sam_logon.specs.declared.rules.Refusal.{Refusal}

-- the refusal of the first rule that refuses, else what is granted
abbrev pub verdict_by : Option Refusal → SamInfo → Verdict
verdict_by (Some refused) info = Status refused.status
verdict_by None info = Granted info

-- ---- by what is shown of the account's password

-- on the account that the user's name finds, by the computer that the user is at
abbrev pub verdict_shown : Option Account → Shown → AccountTable → List ℕ → List ℕ → ℕ → Verdict
verdict_shown None shown table controller workstation now = Status no_such_user
verdict_shown (Some account) shown table controller workstation now =
    verdict_by
    (first_refusal (rules_for table.policy account shown workstation now))
    (sam_info_of table controller account (shown.key account.hash) now)

-- by where the domain's accounts are, and the user's name
abbrev pub verdict_routed : Route → Shown → AccountTable → List ℕ → List ℕ → List ℕ → ℕ → Verdict
verdict_routed Own shown table controller user workstation now =
    verdict_shown (account_in table.accounts user) shown table controller workstation now
verdict_routed (Trust place) shown table controller user workstation now = Status no_such_domain
verdict_routed Elsewhere shown table controller user workstation now = Status no_such_domain

-- the account with the count of bad passwords that its rules leave
abbrev pub judged_account : Policy → Shown → List ℕ → ℕ → Account → Account
judged_account policy shown workstation now account =
    with_count (count_after (first_refusal (rules_for policy account shown workstation now)) account.bad_count) account

-- the table afterwards, by the place of the account of the user's name
abbrev pub table_shown : Option ℕ → Shown → AccountTable → List ℕ → ℕ → AccountTable
table_shown None shown table workstation now = table
table_shown (Some place) shown table workstation now =
    record table { accounts = at_place place (judged_account table.policy shown workstation now) table.accounts }

-- by where the domain's accounts are
abbrev pub table_routed : Route → Shown → AccountTable → List ℕ → List ℕ → ℕ → AccountTable
table_routed Own shown table user workstation now = table_shown (place_in table.accounts user) shown table workstation now
table_routed (Trust place) shown table user workstation now = table
table_routed Elsewhere shown table user workstation now = table

-- what a controller makes of a logon: the verdict, and the account table afterwards
pub record Judgement : Type 0 where
  pub verdict : Verdict
  pub table : AccountTable

-- ---- a network logon

abbrev pub verdict_on : Option Account → AccountTable → List ℕ → NetworkInfo → ℕ → Verdict
verdict_on found table controller info now = verdict_shown found (shown_by_response info) table controller info.workstation now

abbrev pub verdict_at : Route → AccountTable → List ℕ → NetworkInfo → ℕ → Verdict
verdict_at route table controller info now =
    verdict_routed route (shown_by_response info) table controller info.user info.workstation now

-- by the table, the controller's name, what the logon asks, and now
unfoldable pub verdict_of : AccountTable → List ℕ → NetworkInfo → ℕ → Verdict
verdict_of table controller info now = verdict_at (route_in table info.domain) table controller info now

abbrev pub table_on : Option ℕ → AccountTable → NetworkInfo → ℕ → AccountTable
table_on place table info now = table_shown place (shown_by_response info) table info.workstation now

abbrev pub table_at : Route → AccountTable → NetworkInfo → ℕ → AccountTable
table_at route table info now = table_routed route (shown_by_response info) table info.user info.workstation now

-- the table after the logon was judged
unfoldable pub table_after : AccountTable → NetworkInfo → ℕ → AccountTable
table_after table info now = table_at (route_in table info.domain) table info now

unfoldable pub judgement_of : AccountTable → List ℕ → NetworkInfo → ℕ → Judgement
judgement_of table controller info now = record { verdict = verdict_of table controller info now; table = table_after table info now }

-- ---- an interactive logon: by the names of the domain, the user and the computer, and the NT hash. It isn't passed on
-- to another domain

unfoldable pub interactive_verdict_of : AccountTable → List ℕ → List ℕ → List ℕ → List ℕ → List ℕ → ℕ → Verdict
interactive_verdict_of table controller domain user workstation nt now =
    verdict_routed (route_in table domain) (shown_by_hash nt) table controller user workstation now

unfoldable pub interactive_table_after : AccountTable → List ℕ → List ℕ → List ℕ → List ℕ → ℕ → AccountTable
interactive_table_after table domain user workstation nt now =
    table_routed (route_in table domain) (shown_by_hash nt) table user workstation now

unfoldable pub interactive_judgement_of : AccountTable → List ℕ → List ℕ → List ℕ → List ℕ → List ℕ → ℕ → Judgement
interactive_judgement_of table controller domain user workstation nt now = record {
  verdict = interactive_verdict_of table controller domain user workstation nt now;
  table = interactive_table_after table domain user workstation nt now;
}

-- ---- granted

abbrev pub is_granted : Verdict → Bool
is_granted (Granted info) = true
is_granted (Status status) = false

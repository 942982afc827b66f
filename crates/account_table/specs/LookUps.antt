-- Look-ups in an account table (this project's own choice). Names are lists of bytes or 16-bit units, compared without
-- regard to the case of a to z; places are counted from 0.
use Rattle.std.specs.Prelude.{ℕ, ◌==◌, ◌&&◌, ◌||◌, Bool, true, false, not, List, ◌++◌, length, Option, Some, None, codes, slice_get, if◌then◌else◌}
use Rattle.std.specs.List.{list_any}
use Rattle.std.specs.Option.{option_and_then}
use Rattle.channel_keys.specs.ChannelTypes.{workstation_channel, trusted_domain_channel, backup_controller_channel}
use Rattle.wire_base.specs.Maps.{place_of}
use Rattle.wire_base.specs.Names.{same_name}
use Rattle.account_table.specs.declared.account.Account.{Account}
use Rattle.account_table.specs.declared.account.Kind.{Kind as KindOf}
use Rattle.account_table.specs.declared.account.Kind.TheVariants.{User, Workstation, Backup, Trust}
use Rattle.account_table.specs.declared.account.Trust.{Trust as TrustOf}
use Rattle.account_table.specs.declared.table.Route.{Route}
use Rattle.account_table.specs.declared.table.Route.TheVariants as route
use Rattle.account_table.specs.AccountTable.{AccountTable}
use Rattle.account_table.specs.Document.{has_name}

-- the place of the account of a name
unfoldable pub place_in : List Account → List ℕ → Option ℕ
place_in accounts name = place_of (has_name name) accounts

-- the account of a name
abbrev pub account_in : List Account → List ℕ → Option Account
account_in accounts name = option_and_then (slice_get accounts) (place_in accounts name)

-- the name of a computer's account: the computer's and a dollar sign (MS-NRPC 3.5.4.4.3)
abbrev pub machine_name : List ℕ → List ℕ
machine_name computer = computer ++ codes "$"

-- the computer is among the controllers of the account
abbrev pub lists_controller : Account → List ℕ → Bool
lists_controller account computer = list_any (λ controller. same_name controller computer) account.controllers

-- which channels an account of a kind opens for a computer (MS-NRPC 2.2.1.3.13): a workstation's and a backup
-- controller's where it is named after the computer, a trust's where it lists the computer
abbrev pub opens : KindOf → ℕ → Bool → Bool → Bool
opens User channel named listed = false
opens Workstation channel named listed = channel == workstation_channel && named
opens Backup channel named listed = channel == backup_controller_channel && named
opens Trust channel named listed = channel == trusted_domain_channel && listed

-- the account isn't disabled, and opens that channel for that computer, whose account's name is the computer's and a
-- dollar sign
abbrev pub is_machine_for : ℕ → List ℕ → Account → Bool
is_machine_for channel computer account =
    not account.disabled
    && opens account.kind channel (same_name account.name (machine_name computer)) (lists_controller account computer)

-- the place of an account that has that name and opens that channel for that computer
unfoldable pub machine_in : List Account → List ℕ → ℕ → List ℕ → Option ℕ
machine_in accounts name channel computer =
    place_of (λ account. has_name name account && is_machine_for channel computer account) accounts

abbrev pub is_machine : KindOf → Bool
is_machine User = false
is_machine Workstation = true
is_machine Backup = true
is_machine Trust = false

abbrev pub is_trust : KindOf → Bool
is_trust User = false
is_trust Workstation = false
is_trust Backup = false
is_trust Trust = true

-- the account is a trust's, and lists the computer
abbrev pub is_trust_for : List ℕ → Account → Bool
is_trust_for computer account = is_trust account.kind && lists_controller account computer

-- some account is a workstation's or a backup controller's and has the computer's name and a dollar sign
abbrev pub knows_named : List Account → List ℕ → Bool
knows_named accounts computer =
    list_any (λ account. has_name (machine_name computer) account && is_machine account.kind) accounts

-- some account is that computer's as a workstation or a backup controller, or a trust's that lists the computer
unfoldable pub knows_in : List Account → List ℕ → Bool
knows_in accounts computer = knows_named accounts computer || list_any (is_trust_for computer) accounts

-- the trusted domain has that name
abbrev pub is_domain : List ℕ → TrustOf → Bool
is_domain domain trust = same_name trust.domain domain

-- with the trusted domain at that place, or elsewhere
abbrev pub route_by : Option ℕ → Route
route_by (Some place) = route.Trust place
route_by None = route.Elsewhere

-- where a domain's accounts are: here for no name and for the table's own, with the trusted domain of that name, else
-- elsewhere
unfoldable pub route_in : AccountTable → List ℕ → Route
route_in table domain =
    if (length domain == 0) || same_name table.domain domain then route.Own
    else route_by (place_of (is_domain domain) table.trusts)

-- The limits and the default group of an account table (this project's own choice, but for the last).
use Rattle.std.specs.Prelude.{ℕ}

-- the most accounts and trusted domains of a table together
abbrev pub account_limit : ℕ
account_limit = 10000

-- the most groups of an account
abbrev pub group_limit : ℕ
group_limit = 256

-- the most workstations of an account
abbrev pub workstation_limit : ℕ
workstation_limit = 8

-- the most identifiers of an account beside its groups
abbrev pub extra_sid_limit : ℕ
extra_sid_limit = 16

-- the most controllers of a trust's account
abbrev pub controller_limit : ℕ
controller_limit = 8

-- the most bytes of an address
abbrev pub address_limit : ℕ
address_limit = 255

-- the most bytes of a name
abbrev pub name_limit : ℕ
name_limit = 64

-- the most numbers of a domain's identifier: an account's has one more, and at most 15
abbrev pub domain_sid_limit : ℕ
domain_sid_limit = 14

-- the highest count of bad passwords from which on accounts are locked out
abbrev pub last_lockout : ℕ
last_lockout = 1000

-- the last relative identifier
abbrev pub last_rid : ℕ
last_rid = 4294967295

-- the last moment, in units of 100 ns since 1601
abbrev pub last_moment : ℕ
last_moment = 9223372036854775807

-- the relative identifier of the group of all users of a domain (MS-DTYP 2.4.2.4, DOMAIN_USERS)
abbrev pub domain_users : ℕ
domain_users = 513

-- What a controller grants to an account's user (MS-NRPC 2.2.1.4.11; what stands in the fields is this project's own
-- choice). Times are in units of 100 ns since 1601.
use Rattle.std.specs.Prelude.{ℕ, ◌-◌, ◌*◌, ◌/◌, ◌%◌, ◌==◌, Bool, true, false, List, [], ◌∷◌, map, Option, Some, if◌then◌else◌}
use Rattle.wire_base.specs.Sid.{SidParts}
use Rattle.wire_base.specs.declared.authenticator.Authenticator.{Authenticator}
use Rattle.account_table.specs.AccountTable.{AccountTable}
use Rattle.account_table.specs.declared.account.Account.{Account}
use Rattle.logon_stubs.specs.declared.calls.Reply.{Reply}
use Rattle.logon_stubs.specs.declared.calls.Reply.TheVariants.{Logon}
use Rattle.logon_stubs.specs.declared.info.SamInfo.{SamInfo}
use Rattle.logon_stubs.specs.Structures.{has_extra}

-- the time that never comes
abbrev pub never : ℕ
never = 0x7FFFFFFFFFFFFFFF

-- the moment, or never where it is 0
abbrev pub or_never : ℕ → ℕ
or_never moment = if moment == 0 then never else moment

-- each group with its attributes, 7: SE_GROUP_MANDATORY 1, SE_GROUP_ENABLED_BY_DEFAULT 2 and SE_GROUP_ENABLED 4
-- (MS-SAMR 2.2.1.10)
abbrev pub groups_of : List ℕ → List (ℕ × ℕ)
groups_of groups = map (λ group. (group, 7)) groups

-- each identifier beside the groups with the same attributes
abbrev pub extra_of : List SidParts → List (SidParts × ℕ)
extra_of sids = map (λ sid. (sid, 7)) sids

-- LOGON_EXTRA_SIDS: there are identifiers beside the groups (UserFlags, MS-NRPC 2.2.1.4.11)
abbrev pub extra_sids_flag : ℕ
extra_sids_flag = 0x20

-- the flag, where there is an identifier
abbrev pub user_flags_of : List SidParts → ℕ
user_flags_of [] = 0
user_flags_of (sid ∷ sids) = extra_sids_flag

-- by the table, the controller's name, the account, the session base key and now
unfoldable pub sam_info_of : AccountTable → List ℕ → Account → List ℕ → ℕ → SamInfo
sam_info_of table controller account key now = record {
  logon_time = now;
  logoff_time = never;
  kickoff_time = never;
  password_set = account.password_set;
  password_can_change = account.password_set;
  password_must_change = or_never account.password_expires;
  effective_name = account.name;
  full_name = account.full_name;
  script = [];
  profile = [];
  home = [];
  home_drive = [];
  logon_count = 0;
  bad_count = account.bad_count;
  user_id = account.rid;
  group_id = account.group;
  groups = groups_of account.groups;
  user_flags = user_flags_of account.extra_sids;
  key = key;
  server = controller;
  domain = table.domain;
  sid = table.sid;
  extra = extra_of account.extra_sids;
}

-- ---- in a reply

-- the flags without that one
abbrev pub without_extra_flag : ℕ → ℕ
without_extra_flag flags = flags - extra_sids_flag * (flags / extra_sids_flag % 2)

-- without the identifiers beside the groups, and without their flag
abbrev pub without_extra : SamInfo → SamInfo
without_extra info = record info { user_flags = without_extra_flag info.user_flags; extra = [] }

abbrev pub with_extra_if : Bool → SamInfo → SamInfo
with_extra_if true info = info
with_extra_if false info = without_extra info

-- what a validation level carries of it: level 2 has no place for identifiers beside the groups
unfoldable pub at_level : ℕ → SamInfo → SamInfo
at_level level info = with_extra_if (has_extra level) info

-- the reply to a logon that carries what is granted at a validation level, with a key in place of its own, since a
-- controller hides it (MS-NRPC 3.5.4.5.3)
abbrev pub granting_reply : Option Authenticator → ℕ → SamInfo → List ℕ → ℕ → ℕ → Reply
granting_reply returned level info key authoritative status = Logon (record {
  returned = returned;
  level = level;
  info = Some (record (at_level level info) { key = key });
  authoritative = authoritative;
  status = status;
})

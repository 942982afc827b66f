-- What is granted has the ranges that a stub has room for.
use Rattle.std.proofs.Common.{◌≡◌, ◌⊎◌, ℕ, ◌<◌, ◌≤◌, ◌^◌, ◌==◌, Bool, true, false, List, [], ◌∷◌, Option, length, inl, inr, refl, arith}
use Rattle.std.specs.List.{AllByRecursion}
use Rattle.std.proofs.lemmas.Bool.{cases_Bool, cases_lt}
use Rattle.std.proofs.lemmas.List.{get_or_past, length-map}
use Rattle.std.proofs.lemmas.List.Elements.{All-get_or}
use Rattle.wire_base.specs.Names.{IsName, IsNameByte}
use Rattle.wire_base.specs.Units.{AreUnits}
use Rattle.wire_base.specs.Sid.{SidParts}
use Rattle.account_table.specs.AccountTable.{AccountTable}
use Rattle.account_table.specs.Changes.{with_count}
use Rattle.account_table.specs.Ranges.{AreLongs, InRangeAccount, InRangeSid}
use Rattle.account_table.specs.declared.account.Account.{Account}
use Rattle.wire_base.specs.declared.authenticator.Authenticator.{Authenticator}
use Rattle.logon_stubs.specs.Parts.{FitsText, IfThere}
use Rattle.logon_stubs.specs.declared.info.SamInfo.{SamInfo}
use Rattle.logon_stubs.specs.Ranges.{HasShortTexts, InRangeExtra, InRangeGroup, InRangeReply, InRangeSamInfo, IsAuthenticator, IsBlock}
use Rattle.logon_stubs.specs.Writing.{CanWriteReply, CanWriteSamInfo, HasLevel, written_reply}
use Rattle.logon_stubs.specs.Structures.{has_extra}
use Rattle.logon_stubs.proofs.WrittenLaws.{written_reply-joins}
use Rattle.sam_logon.specs.Granting.{at_level, extra_of, granting_reply, groups_of, or_never, sam_info_of, user_flags_of, with_extra_if}

-- the bytes of a name are units
name_units : (name : List ℕ) → IsName name → AreUnits name
name_units name is place =
    elim (cases_lt place (length name)) [
      | inl within ↦ omega (arith, (All-get_or IsNameByte name place 0 within is.1).1)
      | inr past ↦ rw (get_or_past name place 0 past) (omega arith)
    ]

no_units : AreUnits []
no_units place = omega arith

groups_in_range : (groups : List ℕ) → AreLongs groups → AllByRecursion InRangeGroup (groups_of groups)
groups_in_range [] are = tt
groups_in_range (group ∷ groups) are = ((are.0, omega arith), groups_in_range groups are.1)

extra_in_range : (sids : List SidParts) → AllByRecursion InRangeSid sids → AllByRecursion InRangeExtra (extra_of sids)
extra_in_range [] are = tt
extra_in_range (sid ∷ sids) are = ((are.0, omega arith), extra_in_range sids are.1)

flags_in_range : (sids : List SidParts) → user_flags_of sids < 2 ^ 32
flags_in_range [] = omega arith
flags_in_range (sid ∷ sids) = omega arith

moment_in_range : (moment : ℕ) → moment < 2 ^ 64 → or_never moment < 2 ^ 64
moment_in_range moment below =
    elim (cases_Bool (moment == 0)) [
      | inl unset ↦ rw unset (omega arith)
      | inr set ↦ rw set below
    ]

short_text : (name : List ℕ) → IsName name → FitsText name
short_text name is = omega (arith, is.0)

-- an account with another count of bad passwords
pub in_range-counted : (account : Account) (count : ℕ) → count < 2 ^ 16 → InRangeAccount account → InRangeAccount (with_count count account)
in_range-counted account count below of = record {
  name = of.name;
  rid = of.rid;
  full_name = of.full_name;
  group = of.group;
  groups = of.groups;
  few_groups = of.few_groups;
  extra_sids = of.extra_sids;
  few_extra_sids = of.few_extra_sids;
  bad_count = below;
  expires = of.expires;
  password_set = of.password_set;
  password_expires = of.password_expires;
}

module _ (table : AccountTable) (controller : List ℕ) (account : Account) (key : List ℕ) (now : ℕ) (domain : IsName table.domain) (server : IsName controller) (of : InRangeAccount account) where
  pub sam_info-CanWrite : CanWriteSamInfo (sam_info_of table controller account key now)
  unfolding sam_info_of
  sam_info-CanWrite = let with_attributes : ℕ → ℕ × ℕ = λ group. (group, 7) in let marked : SidParts → SidParts × ℕ = λ sid. (sid, 7) in record {
    effective_name = short_text account.name of.name;
    full_name = short_text account.full_name of.full_name;
    script = omega arith;
    profile = omega arith;
    home = omega arith;
    home_drive = omega arith;
    groups = omega (arith, length-map account.groups with_attributes, of.few_groups);
    server = short_text controller server;
    domain = short_text table.domain domain;
    extra = omega (arith, length-map account.extra_sids marked, of.few_extra_sids);
  }

  pub sam_info-IsShort : HasShortTexts (sam_info_of table controller account key now)
  unfolding sam_info_of
  sam_info-IsShort = record {
    effective_name = of.name.0;
    full_name = of.full_name.0;
    script = omega arith;
    profile = omega arith;
    home = omega arith;
    home_drive = omega arith;
    server = server.0;
    domain = domain.0;
  }

  pub sam_info-InRange : InRangeSid table.sid → IsBlock 16 key → now < 2 ^ 64 → InRangeSamInfo (sam_info_of table controller account key now)
  unfolding sam_info_of
  sam_info-InRange sid key_is below = record {
    times = (below, (omega arith, (omega arith, (of.password_set, (of.password_set, (moment_in_range account.password_expires of.password_expires, tt))))));
    texts = (name_units account.name of.name, (name_units account.full_name of.full_name, (no_units, (no_units, (no_units, (no_units, tt))))));
    numbers = record { logon_count = omega arith; bad_count = of.bad_count; user_id = of.rid; group_id = of.group };
    groups = groups_in_range account.groups of.groups;
    user_flags = flags_in_range account.extra_sids;
    key = key_is;
    server = name_units controller server;
    domain = name_units table.domain domain;
    sid = sid;
    extra = extra_in_range account.extra_sids of.extra_sids;
  }

-- ---- a reply that carries it at a level, with another key

can_write : (with_extra : Bool) (info : SamInfo) (key : List ℕ) → CanWriteSamInfo info → CanWriteSamInfo (record (with_extra_if with_extra info) { key = key })
can_write true info key can = record {
  effective_name = can.effective_name;
  full_name = can.full_name;
  script = can.script;
  profile = can.profile;
  home = can.home;
  home_drive = can.home_drive;
  groups = can.groups;
  server = can.server;
  domain = can.domain;
  extra = can.extra;
}
can_write false info key can = record {
  effective_name = can.effective_name;
  full_name = can.full_name;
  script = can.script;
  profile = can.profile;
  home = can.home;
  home_drive = can.home_drive;
  groups = can.groups;
  server = can.server;
  domain = can.domain;
  extra = omega arith;
}

is_short : (with_extra : Bool) (info : SamInfo) (key : List ℕ) → HasShortTexts info → HasShortTexts (record (with_extra_if with_extra info) { key = key })
is_short true info key short = record {
  effective_name = short.effective_name;
  full_name = short.full_name;
  script = short.script;
  profile = short.profile;
  home = short.home;
  home_drive = short.home_drive;
  server = short.server;
  domain = short.domain;
}
is_short false info key short = record {
  effective_name = short.effective_name;
  full_name = short.full_name;
  script = short.script;
  profile = short.profile;
  home = short.home;
  home_drive = short.home_drive;
  server = short.server;
  domain = short.domain;
}

in_range : (with_extra : Bool) (info : SamInfo) (key : List ℕ) → InRangeSamInfo info → IsBlock 16 key → InRangeSamInfo (record (with_extra_if with_extra info) { key = key })
in_range true info key is key_is = record {
  times = is.times;
  texts = is.texts;
  numbers = record {
    logon_count = is.numbers.logon_count;
    bad_count = is.numbers.bad_count;
    user_id = is.numbers.user_id;
    group_id = is.numbers.group_id;
  };
  groups = is.groups;
  user_flags = is.user_flags;
  key = key_is;
  server = is.server;
  domain = is.domain;
  sid = is.sid;
  extra = is.extra;
}
in_range false info key is key_is = record {
  times = is.times;
  texts = is.texts;
  numbers = record {
    logon_count = is.numbers.logon_count;
    bad_count = is.numbers.bad_count;
    user_id = is.numbers.user_id;
    group_id = is.numbers.group_id;
  };
  groups = is.groups;
  user_flags = omega (arith, is.user_flags);
  key = key_is;
  server = is.server;
  domain = is.domain;
  sid = is.sid;
  extra = tt;
}

module _ (returned : Option Authenticator) (level : ℕ) (info : SamInfo) (key : List ℕ) (authoritative status : ℕ) where
  has_level : (level ≡ 2) ⊎ (level ≡ 3) → HasLevel level (record (at_level level info) { key = key })
  unfolding at_level
  has_level (inl two) = inl (two, rw two refl)
  has_level (inr three) = inr three

  pub granting-CanWrite : (level ≡ 2) ⊎ (level ≡ 3) → CanWriteSamInfo info → CanWriteReply (granting_reply returned level info key authoritative status)
  unfolding at_level
  granting-CanWrite served can = (has_level served, can_write (has_extra level) info key can)

  pub granting-InRange : level < 2 ^ 16 → InRangeSamInfo info → IsBlock 16 key → IfThere IsAuthenticator returned → authoritative < 2 ^ 8 → status < 2 ^ 32 → InRangeReply (granting_reply returned level info key authoritative status)
  unfolding at_level
  granting-InRange level_is is key_is returned_is authoritative_is status_is = record {
    returned = returned_is;
    level = level_is;
    info = in_range (has_extra level) info key is key_is;
    authoritative = authoritative_is;
    status = status_is;
  }

  pub granting-joins : (level ≡ 2) ⊎ (level ≡ 3) → CanWriteSamInfo info → HasShortTexts info → InRangeReply (granting_reply returned level info key authoritative status) → length (written_reply (granting_reply returned level info key authoritative status)) ≤ 65536
  unfolding at_level
  granting-joins served can short range = written_reply-joins _ (granting-CanWrite served can) range (is_short (has_extra level) info key short)

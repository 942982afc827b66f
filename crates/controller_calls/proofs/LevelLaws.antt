-- What a reply carries at a validation level that is served.
use Rattle.std.proofs.Common.{inl, inr, ℕ, List, Some, None}
use Rattle.logon_stubs.specs.declared.info.SamInfo.{SamInfo}
use Rattle.logon_stubs.specs.Ranges.{HasShortTexts}
use Rattle.logon_stubs.specs.Writing.{CanWriteArm, CanWriteSamInfo}
use Rattle.sam_logon.specs.Granting.{at_level}
use Rattle.sam_logon.proofs.GrantedLaws.{granting-CanWrite}
use Rattle.controller_calls.specs.Logons.{IsServedLevel, reply_info}

pub can_write_at : (level : ℕ) (key : List ℕ) (info : SamInfo) → IsServedLevel level → CanWriteSamInfo info → CanWriteArm level (Some (reply_info level key info))
can_write_at level key info served can = granting-CanWrite None level info _ 0 0 served can

pub short_at : (level : ℕ) (key : List ℕ) (info : SamInfo) → IsServedLevel level → HasShortTexts info → HasShortTexts (reply_info level key info)
unfolding at_level
short_at level key info (inl two) short = rw two (record {
  effective_name = short.effective_name;
  full_name = short.full_name;
  script = short.script;
  profile = short.profile;
  home = short.home;
  home_drive = short.home_drive;
  server = short.server;
  domain = short.domain;
})
short_at level key info (inr three) short = rw three (record {
  effective_name = short.effective_name;
  full_name = short.full_name;
  script = short.script;
  profile = short.profile;
  home = short.home;
  home_drive = short.home_drive;
  server = short.server;
  domain = short.domain;
})

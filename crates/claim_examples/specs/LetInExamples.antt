-- Runs that were written down by hand on which `LetsInWhoAsked` holds of somebody who is let in, and near misses (this
-- project's own choice).
use Rattle.std.specs.Prelude.{ℕ, ◌+◌, List, [], ◌∷◌, replicate, Some, None, codes}
use Rattle.ntlm_flags.specs.Flags.{negotiate_key_exch, negotiate_unicode}
use Rattle.outside.specs.declared.action.Judged.TheVariants as judged
use Rattle.outside.specs.declared.action.Outcome.TheVariants as outcome
use Rattle.account_table.specs.declared.account.Account.{Account}
use Rattle.logon_stubs.specs.declared.info.SamInfo.{SamInfo}
use Rattle.member_server.specs.declared.outcomes.Ending.TheVariants as ending
use Rattle.member_server.specs.Outcomes.{outcome_of}
use Rattle.step_notes.specs.Records.{MessageTaken, OutcomeTold}
use Rattle.domain_world.specs.Claims.LetIn.{LetsInWhoAsked}
use Rattle.domain_world.specs.Claims.Names.{LetsInByName}
use Rattle.domain_world.specs.Past.{Past}
use Rattle.claim_examples.specs.ClaimExamples.{answered_by, by_accounts, judged_as, judging, message, message_of_link, one_logon, small_account, small_logon, small_message, small_run, taken_as, told_of_link}

-- what is granted to ann
abbrev pub small_info : SamInfo
small_info = record {
  logon_time = 0;
  logoff_time = 0;
  kickoff_time = 0;
  password_set = 0;
  password_can_change = 0;
  password_must_change = 0;
  effective_name = codes "ann";
  full_name = [];
  script = [];
  profile = [];
  home = [];
  home_drive = [];
  logon_count = 0;
  bad_count = 0;
  user_id = 1000;
  group_id = 513;
  groups = [];
  user_flags = 0;
  key = replicate 16 0;
  server = codes "PDC";
  domain = codes "CORP";
  sid = record { authority = 5; numbers = 21 ∷ [] };
  extra = [];
}

-- the member tells after nine moves that she is let in on that link, as her logon there comes to by that grant
abbrev pub told_by_grant : ℕ → OutcomeTold
told_by_grant link = record (told_of_link link) { outcome = outcome_of (ending.Granted small_info) (small_logon link) }

abbrev pub let_in_by : List MessageTaken → OutcomeTold → Past
let_in_by messages told = small_run (record one_logon { messages = messages; told = told ∷ [] })

-- keys are exchanged, and her message has one
abbrev pub message_with_key : MessageTaken
message_with_key = taken_as (record small_message { key = replicate 16 5 }) (negotiate_unicode + negotiate_key_exch) message

abbrev pub told_with_key : OutcomeTold
told_with_key = record (told_of_link 3) { outcome = outcome_of (ending.Granted small_info) message_with_key.logon }

-- Letting in who asked: she is let in on link 3, on which the member took her message, and unit 8 as its answer. Not on
-- another link, nor by another member, nor where no message or no answer was taken, or the message was taken at the
-- same move. Where keys are exchanged, not with a key of one byte, which her logon comes to by no validation. Nothing
-- is said of an outcome that lets nobody in. Where no key is exchanged and no extended session security is agreed, some
-- validation gives each outcome that lets somebody in.
pub record OfLettingIn : Type 0 where
  pub meets : LetsInWhoAsked (let_in_by (message ∷ []) (told_by_grant 3))
  pub meets_other : LetsInWhoAsked (let_in_by (message_of_link 4 ∷ message ∷ []) (told_by_grant 3))
  pub fails_elsewhere : LetsInWhoAsked (let_in_by (message ∷ []) (told_by_grant 4)) → ⊥
  pub fails_member : LetsInWhoAsked (let_in_by (message ∷ []) (record (told_by_grant 3) { member = 1 })) → ⊥
  pub fails_unasked : LetsInWhoAsked (let_in_by [] (told_by_grant 3)) → ⊥
  pub fails_unanswered : LetsInWhoAsked (let_in_by (record message { reply = None } ∷ []) (told_by_grant 3)) → ⊥
  pub fails_later : LetsInWhoAsked (let_in_by (record message { at = 9 } ∷ []) (told_by_grant 3)) → ⊥
  pub meets_key : LetsInWhoAsked (let_in_by (message_with_key ∷ []) told_with_key)
  pub fails_key : LetsInWhoAsked (let_in_by (message_with_key ∷ []) (told_of_link 3)) → ⊥
  pub refused : LetsInWhoAsked (let_in_by [] (record (told_by_grant 3) { outcome = outcome.Out 5 }))

-- ---- names

-- the member tells that somebody is let in by this domain and this name
abbrev pub told_named : List ℕ → List ℕ → Past
told_named domain user =
    small_run (record one_logon { told = record (told_of_link 3) { outcome = outcome.In domain user (1 ∷ []) } ∷ [] })

-- the table spells her name so
abbrev pub spelled_account : Account
spelled_account = record small_account { name = codes "Ann" }

abbrev pub spelled_by : List ℕ → Past
spelled_by user = record (told_named (codes "CORP") user) {
  book = record (told_named (codes "CORP") user).book { judged = by_accounts (spelled_account ∷ []) ∷ [] };
}

-- Letting in by name: ann is let in of CORP, as the table that granted spells her. Not by another name, of another
-- domain, as she spells herself, where the table doesn't know her, where her call was refused, where another answer was
-- taken, or at another member. Nothing is said of an outcome that lets nobody in.
pub record OfNames : Type 0 where
  pub meets : LetsInByName (small_run one_logon)
  pub meets_spelled : LetsInByName (spelled_by (codes "Ann"))
  pub fails_user : LetsInByName (told_named (codes "CORP") (codes "bob")) → ⊥
  pub fails_domain : LetsInByName (told_named (codes "LAB") (codes "ann")) → ⊥
  pub fails_spelled : LetsInByName (spelled_by (codes "ann")) → ⊥
  pub fails_unknown : LetsInByName (answered_by (by_accounts [])) → ⊥
  pub fails_refused : LetsInByName (answered_by (judged_as (judged.Passed 5) judging)) → ⊥
  pub fails_answer : LetsInByName (small_run (record one_logon { messages = record message { reply = Some 9 } ∷ [] })) → ⊥
  pub fails_member : LetsInByName (small_run (record one_logon { told = record (told_of_link 3) { member = 1 } ∷ [] })) → ⊥
  pub out : LetsInByName (small_run (record one_logon { told = record (told_of_link 3) { outcome = outcome.Out 5 } ∷ [] }))

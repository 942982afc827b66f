-- Interactive logons that were written down by hand, and the sessions that a controller has behind them: of which what
-- is claimed of both holds, and of which it doesn't (this project's own choice).
use Rattle.std.specs.Prelude.{ℕ, ◌≡◌, true, List, [], ◌∷◌, replicate, Some, None, codes}
use Rattle.rc4_stream.specs.Rc4.{applied}
use Rattle.authenticators.specs.SecureChannels.{SecureChannelState, key_of_channel}
use Rattle.authenticators.specs.Sequences.{authenticator_of}
use Rattle.outside.specs.declared.action.Judged.{Judged}
use Rattle.outside.specs.declared.action.Judged.TheVariants as judged
use Rattle.account_table.specs.AccountTable.{AccountTable}
use Rattle.logon_stubs.specs.Status.{insufficient_resources, no_logon_servers, no_such_logon_session, no_trust_sam_account, wrong_password}
use Rattle.interactive_logon.specs.declared.calls.InteractiveCall.{InteractiveCall}
use Rattle.interactive_logon.specs.declared.calls.InteractiveInfo.{InteractiveInfo}
use Rattle.interactive_logon.specs.declared.sessions.Session.{Session}
use Rattle.interactive_logon.specs.Sessions.{session_limit, session_of}
use Rattle.controller_calls.specs.declared.calls.JudgedCall.TheVariants.{Interactive, Logoff, Network, Set}
use Rattle.domain_controller.specs.State.{State as ControllerState}
use Rattle.domain_controller.specs.declared.state.Running.{Running as ControllerRunning}
use Rattle.step_notes.specs.Records.{Judging, blank}
use Rattle.world_moves.specs.World.{World}
use Rattle.world_moves.specs.declared.plan.Plan.{Plan}
use Rattle.domain_world.specs.Claims.{info_asked}
use Rattle.domain_world.specs.Claims.Grants.{GrantsWhoseHashIsStored}
use Rattle.domain_world.specs.Claims.Sessions.{ControllerRenewed, SessionsFollow, sessions_behind}
use Rattle.domain_world.specs.Claims.Statuses.{StatusesAreTold}
use Rattle.domain_world.specs.Past.{Past}
use Rattle.claim_examples.specs.ClaimExamples.{judged_as, keeping_controller, message, next_call, next_logon, run_in, small_channel, small_computers, small_hash, small_plan, small_table, small_world}
use Rattle.claim_examples.specs.CompletenessExamples.{able_table, ann_accounts}
use Rattle.claim_examples.specs.GrantExamples.{judged_all}

-- ---- which are granted

-- ann logs on at FILE1, which shows this hash under the key of its channel
abbrev pub hash_info : List ℕ → InteractiveInfo
hash_info hash = record {
  domain = (info_asked message).domain;
  control = 0;
  logon_id = 5;
  user = (info_asked message).user;
  workstation = (info_asked message).workstation;
  lm = replicate 16 0;
  nt = applied (key_of_channel (small_channel [])) 0 hash;
}

abbrev pub hash_logon : List ℕ → InteractiveCall
hash_logon hash = record {
  server = None;
  computer = Some (codes "FILE1");
  authenticator = next_logon.authenticator;
  returned = None;
  info = hash_info hash;
  validation = 3;
}

-- a logon that shows this hash, and was granted
abbrev pub hash_call : List ℕ → Judging
hash_call hash = record next_call { asked = Interactive (hash_logon hash) }

-- ann's hash, but for its first byte
abbrev pub other_hash : List ℕ
other_hash = 8 ∷ replicate 15 7

-- the call was judged while `count` sessions stood
abbrev pub with_sessions : ℕ → Judging → Judging
with_sessions count j = record j { sessions = replicate count (session_of (codes "FILE1") [] 0) }

-- Grants by hash: ann's logon with her hash is granted, also as the last session that may stand. It is refused where
-- 10,000 stand, or where the hash differs from hers in a byte.
pub record OfHashGrants : Type 0 where
  pub meets : GrantsWhoseHashIsStored (judged_all (hash_call small_hash ∷ []))
  pub last : GrantsWhoseHashIsStored (judged_all (with_sessions 9999 (hash_call small_hash) ∷ []))
  pub full : GrantsWhoseHashIsStored (judged_all (judged_as (judged.Passed insufficient_resources) (with_sessions session_limit (hash_call small_hash)) ∷ []))
  pub refused : GrantsWhoseHashIsStored (judged_all (judged_as (judged.Passed wrong_password) (hash_call other_hash) ∷ []))
  -- not where it was granted so, or with no channel, nor where it was refused though all is right
  pub fails_full : GrantsWhoseHashIsStored (judged_all (with_sessions session_limit (hash_call small_hash) ∷ [])) → ⊥
  pub fails_hash : GrantsWhoseHashIsStored (judged_all (hash_call other_hash ∷ [])) → ⊥
  pub fails_next : GrantsWhoseHashIsStored (judged_all (record (hash_call small_hash) { checks = None } ∷ [])) → ⊥
  pub fails_refused : GrantsWhoseHashIsStored (judged_all (judged_as (judged.Passed wrong_password) (hash_call small_hash) ∷ [])) → ⊥

-- ---- which sessions stand

-- PDC runs with these sessions
abbrev pub running_with : List Session → ControllerRunning
running_with sessions = record { computers = record (small_computers []) { sessions = sessions }; links = [] }

abbrev pub controller_with : List Session → ControllerState
controller_with sessions = record (keeping_controller []) { running = Some (running_with sessions) }

abbrev pub world_with : List Session → World
world_with sessions =
    let w : World = small_world in
    record w { state = record w.state { ends = record w.state.ends { controllers = controller_with sessions ∷ [] } } }

-- the run in which these sessions stand at the end, and these calls were judged, the newest first
abbrev pub run_with : List Session → List Judging → Past
run_with sessions calls = run_in (world_with sessions) (record blank { judged = calls })

-- ann's session
abbrev pub ann_session : List Session
ann_session = session_of (codes "FILE1") (info_asked message).user 5 ∷ []

-- ann's logon, which came at the move behind the sixth; and one that was barred later, by these sessions
abbrev pub ann_call : Judging
ann_call = hash_call small_hash

abbrev pub barred_by : List Session → Judging
barred_by sessions = record (judged_as judged.Barred ann_call) { at = 8; sessions = sessions }

-- PDC was made anew by the last of `moves` moves
abbrev pub renewed_by : (moves : ℕ) → List ControllerRenewed
renewed_by moves = record { moves = moves; controller = 0 } ∷ []

-- ann's logoff, judged by these sessions
abbrev pub logoff_call : List Session → Judging
logoff_call sessions = record ann_call { at = 8; asked = Logoff (hash_logon small_hash); sessions = sessions }

-- one more than may stand
abbrev pub too_many : List Session
too_many = replicate 10001 (session_of (codes "FILE1") [] 0)

-- Sessions: ann's logon opens hers, which then stands; behind a later restart or her logoff none does. It isn't so
-- where the session is lost without a restart, or kept over one or over the logoff, nor where a later call was judged
-- as if none stood. Nor is it where 10,001 stand, whatever was judged.
pub record OfSessions : Type 0 where
  pub opens : sessions_behind ann_call ≡ ann_session
  pub meets : SessionsFollow (run_with ann_session (ann_call ∷ [])) []
  pub earlier : SessionsFollow (run_with ann_session (ann_call ∷ [])) (renewed_by 6)
  pub later : SessionsFollow (run_with [] (ann_call ∷ [])) (renewed_by 7)
  pub again : SessionsFollow (run_with ann_session (barred_by ann_session ∷ ann_call ∷ [])) []
  pub logs_off : SessionsFollow (run_with [] (logoff_call ann_session ∷ ann_call ∷ [])) []
  pub fails_stays : SessionsFollow (run_with ann_session (logoff_call ann_session ∷ ann_call ∷ [])) [] → ⊥
  pub fails_many : (calls : List Judging) (renewed : List ControllerRenewed) → SessionsFollow (run_with too_many calls) renewed → ⊥
  pub fails_lost : SessionsFollow (run_with [] (ann_call ∷ [])) [] → ⊥
  pub fails_kept : SessionsFollow (run_with ann_session (ann_call ∷ [])) (renewed_by 7) → ⊥
  pub fails_judged : SessionsFollow (run_with ann_session (barred_by [] ∷ ann_call ∷ [])) [] → ⊥

-- ---- which statuses are told

-- FILE1's change of its secret, judged by a table; ann's own table has no account of FILE1
abbrev pub set_call : AccountTable → Judging
set_call table = record ann_call {
  at = 8;
  asked = Set (record {
    primary = None;
    account = codes "FILE1$";
    channel = 2;
    computer = codes "FILE1";
    authenticator = authenticator_of (key_of_channel (small_channel [])) [] 0;
    hidden = replicate 16 6;
  });
  table = table;
}

-- CORP trusts ROAM, whose controller is asked in a run of a plan whose controllers hand logons on
abbrev pub trusting_table : AccountTable
trusting_table = record small_table { trusts = record { domain = codes "ROAM"; hash = small_hash; address = 1 ∷ [] } ∷ [] }

abbrev pub handing_plan : Plan
handing_plan = record small_plan { hands_on = true }

abbrev pub handing_run : List Judging → Past
handing_run calls = record { plan = handing_plan; world = small_world; book = record blank { judged = calls } }

-- FILE1's channel, of that type
abbrev pub typed_channel : (kind : ℕ) → SecureChannelState
typed_channel kind = record (small_channel []) { kind = Some kind }

-- a user of ROAM logs on at FILE1, on a channel of that type
abbrev pub roam_call : (kind : ℕ) (how : Judged) → Judging
roam_call kind how = record next_call {
  asked = Network (record next_logon { info = record (info_asked message) { domain = codes "ROAM" } });
  checks = Some (typed_channel kind);
  table = trusting_table;
  how = Some how;
}

-- Statuses: the logoff of a session that stands was told with 0, and of one that doesn't with
-- STATUS_NO_SUCH_LOGON_SESSION; not the other way. The change of a secret was told with 0 where the computer has an
-- account, and with STATUS_NO_TRUST_SAM_ACCOUNT where it has none; not the other way. Of a call that was barred nothing
-- is asked. A logon for a trusted domain was told as handed on, or as passed with STATUS_NO_LOGON_SERVERS, and not as
-- granted here; not on the channel of a trust, nor where controllers don't hand on.
pub record OfStatuses : Type 0 where
  pub meets : StatusesAreTold (judged_all (logoff_call ann_session ∷ []))
  pub none : StatusesAreTold (judged_all (judged_as (judged.Passed no_such_logon_session) (logoff_call []) ∷ []))
  pub barred : StatusesAreTold (judged_all (judged_as judged.Barred (logoff_call []) ∷ []))
  pub fails_open : StatusesAreTold (judged_all (judged_as (judged.Passed no_such_logon_session) (logoff_call ann_session) ∷ [])) → ⊥
  pub fails_none : StatusesAreTold (judged_all (logoff_call [] ∷ [])) → ⊥
  pub set : StatusesAreTold (judged_all (set_call (able_table ann_accounts) ∷ []))
  pub set_none : StatusesAreTold (judged_all (judged_as (judged.Passed no_trust_sam_account) (set_call small_table) ∷ []))
  pub fails_set : StatusesAreTold (judged_all (judged_as (judged.Passed no_trust_sam_account) (set_call (able_table ann_accounts)) ∷ [])) → ⊥
  pub fails_set_none : StatusesAreTold (judged_all (set_call small_table ∷ [])) → ⊥
  pub handed_on : StatusesAreTold (handing_run (roam_call 2 judged.Forwarded ∷ []))
  pub full : StatusesAreTold (handing_run (roam_call 6 (judged.Passed no_logon_servers) ∷ []))
  pub fails_granted : StatusesAreTold (handing_run (roam_call 2 (judged.Passed 0) ∷ [])) → ⊥
  pub fails_trust : StatusesAreTold (handing_run (roam_call 4 judged.Forwarded ∷ [])) → ⊥
  pub fails_alone : StatusesAreTold (judged_all (roam_call 2 judged.Forwarded ∷ [])) → ⊥

-- Interactive logons that were written down by hand, and the sessions behind them: which meet the claims, and which
-- don't. It serves `sessions_tell_apart`.
use Rattle.std.proofs.Common.{◌≡◌, ◌⊎◌, ℕ, zero, suc, ◌≤◌, ◌<◌, true, false, inl, inr, List, [], ◌∷◌, length, replicate, get_or, Some, refl, sym, ap, subst, ◌∙◌, arith}
use Rattle.std.specs.Prelude.{codes}
use Rattle.std.proofs.lemmas.List.{length-replicate}
use Rattle.wire_base.specs.Names as names
use Rattle.wire_base.specs.Names.{same_name}
use Rattle.rc4_stream.proofs.Rc4Laws.{applied-applied}
use Rattle.wire_base.specs.Units.{units_of}
use Rattle.authenticators.specs.SecureChannels.{SecureChannelState, key_of_channel}
use Rattle.authenticators.specs.Sequences.{authenticator_of}
use Rattle.outside.specs.declared.action.Judged.{Judged}
use Rattle.outside.specs.declared.action.Judged.TheVariants as judged
use Rattle.logon_stubs.specs.Status.{insufficient_resources, no_logon_servers, no_such_logon_session, no_trust_sam_account, wrong_password}
use Rattle.logon_stubs.specs.declared.info.Verdict.{Verdict}
use Rattle.logon_stubs.specs.declared.info.Verdict.TheVariants.{Granted, Status}
use Rattle.interactive_logon.specs.declared.calls.InteractiveInfo.{InteractiveInfo}
use Rattle.interactive_logon.specs.declared.sessions.Session.{Session}
use Rattle.interactive_logon.specs.Sessions.{added_to, session_limit, session_of}
use Rattle.account_table.specs.LookUps.{machine_in, place_in, route_in}
use Rattle.account_table.specs.declared.table.Route.TheVariants as route
use Rattle.sam_logon.specs.MayLogOn.{HashIsStored}
use Rattle.sam_logon.specs.Verdict.{interactive_judgement_of, interactive_verdict_of, is_granted}
use Rattle.sam_logon.proofs.VerdictLaws.{interactive_verdict_of-Decides}
use Rattle.controller_calls.specs.Doing.{sessions_after}
use Rattle.controller_calls.specs.Handing.{hands_on}
use Rattle.controller_calls.specs.Interactive.{shown_hash}
use Rattle.domain_controller.specs.State.{State as ControllerState}
use Rattle.domain_controller.specs.declared.state.Running.{Running}
use Rattle.step_notes.specs.Judged.{IsNextOn}
use Rattle.step_notes.specs.Records.{Judging}
use Rattle.step_notes.specs.ReplySends.{done_on}
use Rattle.step_notes.proofs.Controllers.GrantVerdictLaws.{not_zero}
use Rattle.step_notes.proofs.Controllers.JudgedStepLaws.{same_status}
use Rattle.domain_world.specs.Claims.{info_asked}
use Rattle.domain_world.specs.Claims.Grants.{IsToBeLetOn}
use Rattle.domain_world.specs.Claims.Statuses.{IsForTrusted, IsToldRightly, TellsItsStatus}
use Rattle.domain_world.specs.Claims.Sessions.{AreBySince, ControllerRenewed, HasSessions, SessionsFollow, last_start, sessions_behind, sessions_since}
use Rattle.wire_base.proofs.ListLaws.{got_nothing, some_is}
use Rattle.claim_examples.specs.ClaimExamples.{judged_as, message, small_channel, small_hash, small_plan, small_table}
use Rattle.claim_examples.specs.CompletenessExamples.{able_table, ann_accounts}
use Rattle.claim_examples.specs.SessionExamples.{OfHashGrants, OfSessions, OfStatuses, ann_call, ann_session, barred_by, controller_with, handing_plan, hash_call, hash_info, hash_logon, logoff_call, other_hash, renewed_by, roam_call, run_with, running_with, set_call, too_many, trusting_table, typed_channel}
use Rattle.claim_examples.proofs.ClaimLaws.{no_channel}
use Rattle.claim_examples.proofs.GrantExampleLaws.{may_small}

-- ---- ann's hash

-- the hash that is stored for ann is hers
is_stored : (nt : List ℕ) → nt ≡ small_hash → HashIsStored small_table (info_asked message).user nt
unfolding place_in same_name names.upper_of units_of
is_stored nt is = is

stored_is : (nt : List ℕ) → HashIsStored small_table (info_asked message).user nt → nt ≡ small_hash
unfolding place_in same_name names.upper_of units_of
stored_is nt stored = stored

-- what is shown under the key is the hash
shown_is : (hash : List ℕ) → shown_hash (key_of_channel (small_channel [])) (hash_info hash) ≡ hash
shown_is hash = applied-applied (key_of_channel (small_channel [])) 0 hash

-- ---- which are granted

-- the authenticator of ann's call is the next one
abbrev next_here : IsNextOn (Some (small_channel [])) (Some (authenticator_of (key_of_channel (small_channel [])) [] 0))
next_here = record {
  channel = small_channel [];
  given = authenticator_of (key_of_channel (small_channel [])) [] 0;
  stands = refl;
  there = refl;
  passes = refl;
}

-- with at most 9,999 sessions ann's call is to be granted, however it was judged
met_with : (how : Judged) (sessions : List Session) → length sessions ≤ 9999 → IsToBeLetOn (record (judged_as how (hash_call small_hash)) { sessions = sessions }) (hash_logon small_hash)
met_with how sessions few = record {
  next = next_here;
  level = inr refl;
  may = (may_small 0).there;
  stored = is_stored (shown_hash (key_of_channel (small_channel [])) (hash_info small_hash)) (shown_is small_hash);
  room = omega (arith, few);
}

few_stood : (count : ℕ) → count ≤ 9999 → length (replicate count (session_of (codes "FILE1") [] 0)) ≤ 9999
few_stood count few = subst (λ (n : ℕ). n ≤ 9999) (sym (length-replicate count (session_of (codes "FILE1") [] 0))) few

not_full : (how : Judged) (sessions : List Session) → length sessions ≡ session_limit → IsToBeLetOn (record (judged_as how (hash_call small_hash)) { sessions = sessions }) (hash_logon small_hash) → ⊥
not_full how sessions all met = absurd (let room : length sessions < session_limit = met.room in omega (arith, room, all))

all_stood : length (replicate session_limit (session_of (codes "FILE1") [] 0)) ≡ session_limit
all_stood = length-replicate session_limit (session_of (codes "FILE1") [] 0)

not_hers : (how : Judged) → IsToBeLetOn (judged_as how (hash_call other_hash)) (hash_logon other_hash) → ⊥
not_hers how met =
    let channel : small_channel [] ≡ met.next.channel = some_is (small_channel []) met.next.channel met.next.stands in
    let shown : HashIsStored small_table (info_asked message).user (shown_hash (key_of_channel (small_channel [])) (hash_info other_hash)) =
    subst (λ c. HashIsStored small_table (info_asked message).user (shown_hash (key_of_channel c) (hash_info other_hash))) (sym channel) met.stored in
    let same : other_hash ≡ small_hash = sym (shown_is other_hash) ∙ stored_is (shown_hash (key_of_channel (small_channel [])) (hash_info other_hash)) shown in
    absurd (let never : 8 ≡ 7 = ap (λ (hash : List ℕ). get_or hash 0 0) same in omega (arith, never))

pub of_hash_grants : OfHashGrants
of_hash_grants = record {
  meets = ((λ is. met_with (judged.Passed 0) [] (omega arith), λ met. refl), tt);
  last = ((λ is. met_with (judged.Passed 0) _ (few_stood 9999 (omega arith)), λ met. refl), tt);
  full = ((λ is. absurd (not_zero insufficient_resources refl (same_status insufficient_resources 0 is)), λ met. absurd (not_full (judged.Passed insufficient_resources) _ all_stood met)), tt);
  refused = ((λ is. absurd (not_zero wrong_password refl (same_status wrong_password 0 is)), λ met. absurd (not_hers (judged.Passed wrong_password) met)), tt);
  fails_full = λ claim. not_full (judged.Passed 0) _ all_stood (claim.0.0 refl);
  fails_hash = λ claim. not_hers (judged.Passed 0) (claim.0.0 refl);
  fails_next = λ claim. let met = claim.0.0 refl in no_channel met.next.channel met.next.stands;
  fails_refused = λ claim. not_zero wrong_password refl (same_status wrong_password 0 (claim.0.1 (met_with (judged.Passed wrong_password) [] (omega arith))));
}

-- ---- which sessions stand

-- a grant opens a session
after_granted : (verdict : Verdict) (computer : List ℕ) (info : InteractiveInfo) (sessions : List Session) → is_granted verdict ≡ true →
    sessions_after verdict computer info sessions ≡ added_to sessions computer info.user info.logon_id
after_granted (Granted granted) computer info sessions is = refl
after_granted (Status status) computer info sessions is = absurd (let never : false ≡ true = is in cc)

ann_opens : sessions_behind ann_call ≡ ann_session
unfolding interactive_judgement_of
ann_opens =
    let info : InteractiveInfo = hash_info small_hash in
    let nt : List ℕ = shown_hash (key_of_channel (small_channel [])) info in
    after_granted (interactive_verdict_of small_table (codes "PDC") info.domain info.user info.workstation nt 0) (codes "FILE1") info []
    ((interactive_verdict_of-Decides small_table (codes "PDC") info.domain info.user info.workstation nt 0).1 ((may_small 0).there, is_stored nt (shown_is small_hash)))

-- there is one controller, which has those
has_of : (kept : List Session) (calls : List Judging) → HasSessions (run_with kept calls) 0 kept
has_of kept calls = record { state = controller_with kept; at = refl; running = running_with kept; runs = refl; are = refl }

is_of : (kept : List Session) (calls : List Judging) (controller : ℕ) (sessions : List Session) → HasSessions (run_with kept calls) controller sessions → (controller ≡ 0) × (kept ≡ sessions)
is_of kept calls zero sessions has =
    let state : controller_with kept ≡ has.state = some_is (controller_with kept) has.state has.at in
    let running : running_with kept ≡ has.running = some_is (running_with kept) has.running (ap ControllerState.running state ∙ has.runs) in
    (refl, ap (λ (r : Running). r.computers.sessions) running ∙ has.are)
is_of kept calls (suc k) sessions has = absurd (got_nothing k has.state has.at)

follow : (kept : List Session) (calls : List Judging) (renewed : List ControllerRenewed) → AreBySince renewed calls → kept ≡ sessions_since 0 (last_start 0 renewed) calls → length kept ≤ session_limit →
    SessionsFollow (run_with kept calls) renewed
follow kept calls renewed judged is few = record {
  judged = judged;
  stands = λ controller sessions has.
      let it = is_of kept calls controller sessions has in
      subst (λ (k : ℕ). sessions ≡ sessions_since k (last_start k renewed) calls) (sym it.0) (sym it.1 ∙ is);
  few = λ controller sessions has. subst (λ (s : List Session). length s ≤ session_limit) (is_of kept calls controller sessions has).1 few;
}

none_some : (sessions : List Session) → [] ≡ sessions → sessions ≡ ann_session → ⊥
none_some sessions none is = absurd (let never : [] ≡ ann_session = none ∙ is in cc)

-- ann's logoff takes her session out
ann_leaves : sessions_behind (logoff_call ann_session) ≡ []
unfolding same_name names.upper_of units_of
ann_leaves = refl

pub of_sessions : OfSessions
of_sessions = record {
  opens = ann_opens;
  meets = follow ann_session (ann_call ∷ []) [] (refl, tt) (sym ann_opens) (omega arith);
  earlier = follow ann_session (ann_call ∷ []) (renewed_by 6) (refl, tt) (sym ann_opens) (omega arith);
  later = follow [] (ann_call ∷ []) (renewed_by 7) (refl, tt) refl (omega arith);
  again = follow ann_session (barred_by ann_session ∷ ann_call ∷ []) [] (sym ann_opens, (refl, tt)) refl (omega arith);
  logs_off = follow [] (logoff_call ann_session ∷ ann_call ∷ []) [] (sym ann_opens, (refl, tt)) (sym ann_leaves) (omega arith);
  fails_stays = λ claim. none_some ann_session (sym (claim.stands 0 ann_session (has_of ann_session (logoff_call ann_session ∷ ann_call ∷ [])) ∙ ann_leaves)) refl;
  fails_many = λ calls renewed claim. absurd (let few : length too_many ≤ session_limit = claim.few 0 too_many (has_of too_many calls) in omega (arith, few, length-replicate 10001 (session_of (codes "FILE1") [] 0)));
  fails_lost = λ claim. none_some (sessions_behind ann_call) (claim.stands 0 [] (has_of [] (ann_call ∷ []))) ann_opens;
  fails_kept = λ claim. none_some ann_session (sym (claim.stands 0 ann_session (has_of ann_session (ann_call ∷ [])))) refl;
  fails_judged = λ claim. none_some (sessions_behind ann_call) claim.judged.0 ann_opens;
}

-- ---- which statuses are told

open_status : (done_on (logoff_call ann_session) (small_channel [])).status ≡ 0
unfolding same_name names.upper_of units_of
open_status = refl

none_status : (done_on (logoff_call []) (small_channel [])).status ≡ no_such_logon_session
none_status = refl

set_status : (done_on (set_call (able_table ann_accounts)) (small_channel [])).status ≡ 0
unfolding machine_in same_name names.upper_of
set_status = refl

set_none_status : (done_on (set_call small_table) (small_channel [])).status ≡ no_trust_sam_account
unfolding machine_in same_name names.upper_of
set_none_status = refl

-- a call on FILE1's channel with that status, told with it
tells_so : (status : ℕ) (j : Judging) → j.checks ≡ Some (small_channel []) → (done_on j (small_channel [])).status ≡ status → TellsItsStatus (judged_as (judged.Passed status) j)
tells_so status j checks is channel stands passed =
    ap (λ (n : ℕ). Some (judged.Passed n)) (sym is ∙ ap (λ (c : SecureChannelState). (done_on j c).status) (some_is (small_channel []) channel (sym checks ∙ stands)))

-- controllers of the small plan hand nothing on
none_for : (j : Judging) (channel : SecureChannelState) → IsForTrusted small_plan j channel → ⊥
none_for j channel for = absurd (let never : false ≡ true = for.hands in cc)

rightly : (j : Judging) → TellsItsStatus j → IsToldRightly small_plan j
rightly j tells channel stands passed = record { here = λ none. tells channel stands passed; elsewhere = λ for. absurd (none_for j channel for) }

its_status : (j : Judging) → IsToldRightly small_plan j → TellsItsStatus j
its_status j told channel stands passed = (told channel stands passed).here (λ for. none_for j channel for)

status_of_two : (told status : ℕ) (j : Judging) → j.checks ≡ Some (small_channel []) → (done_on j (small_channel [])).status ≡ status → IsToldRightly small_plan (judged_as (judged.Passed told) j) → told ≡ status
status_of_two told status j checks is tells =
    same_status told (done_on j (small_channel [])).status (its_status (judged_as (judged.Passed told) j) tells (small_channel []) checks refl) ∙ is

-- a logon for ROAM
roam_routed : route_in trusting_table (codes "ROAM") ≡ route.Trust 0
unfolding route_in same_name names.upper_of
roam_routed = refl

roam_for : (kind : ℕ) (how : Judged) → hands_on (Some kind) ≡ true → IsForTrusted handing_plan (roam_call kind how) (typed_channel kind)
roam_for kind how hands = record {
  hands = refl;
  kind = hands;
  info = record (info_asked message) { domain = codes "ROAM" };
  validation = 3;
  asks = refl;
  level = refl;
  trust = 0;
  routed = roam_routed;
}

-- a logon for ROAM is told rightly as handed on, and as passed with STATUS_NO_LOGON_SERVERS
roam_told : (kind : ℕ) (how : Judged) → hands_on (Some kind) ≡ true → (how ≡ judged.Forwarded) ⊎ (how ≡ judged.Passed no_logon_servers) → IsToldRightly handing_plan (roam_call kind how)
roam_told kind how hands either channel stands passed =
    let same : typed_channel kind ≡ channel = some_is (typed_channel kind) channel stands in
    record {
      here = λ none. absurd (none (subst (λ (c : SecureChannelState). IsForTrusted handing_plan (roam_call kind how) c) same (roam_for kind how hands)));
      elsewhere = λ for. elim either [
        | inl is ↦ inl (ap (λ (h : Judged). Some h) is)
        | inr is ↦ inr (ap (λ (h : Judged). Some h) is)
      ];
    }

not_granted : (Some (judged.Passed 0) ≡ Some judged.Forwarded) ⊎ (Some (judged.Passed 0) ≡ Some (judged.Passed no_logon_servers)) → ⊥
not_granted (inl is) = absurd (let x = is in cc)
not_granted (inr is) = not_zero no_logon_servers refl (sym (same_status 0 no_logon_servers is))

not_passed : (status : ℕ) → Some judged.Forwarded ≡ Some (judged.Passed status) → ⊥
not_passed status is = absurd (let x = is in cc)

pub of_statuses : OfStatuses
of_statuses = record {
  meets = (rightly (logoff_call ann_session) (tells_so 0 (logoff_call ann_session) refl open_status), tt);
  none = (rightly _ (tells_so no_such_logon_session (logoff_call []) refl none_status), tt);
  barred = ((λ channel stands passed. absurd (let never : false ≡ true = passed in cc)), tt);
  fails_open = λ claim. not_zero no_such_logon_session refl (status_of_two no_such_logon_session 0 (logoff_call ann_session) refl open_status claim.0);
  fails_none = λ claim. not_zero no_such_logon_session refl (sym (status_of_two 0 no_such_logon_session (logoff_call []) refl none_status claim.0));
  set = (rightly _ (tells_so 0 (set_call (able_table ann_accounts)) refl set_status), tt);
  set_none = (rightly _ (tells_so no_trust_sam_account (set_call small_table) refl set_none_status), tt);
  fails_set = λ claim. not_zero no_trust_sam_account refl (status_of_two no_trust_sam_account 0 (set_call (able_table ann_accounts)) refl set_status claim.0);
  fails_set_none = λ claim. not_zero no_trust_sam_account refl (sym (status_of_two 0 no_trust_sam_account (set_call small_table) refl set_none_status claim.0));
  handed_on = (roam_told 2 judged.Forwarded refl (inl refl), tt);
  full = (roam_told 6 (judged.Passed no_logon_servers) refl (inr refl), tt);
  fails_granted = λ claim. not_granted ((claim.0 (typed_channel 2) refl refl).elsewhere (roam_for 2 (judged.Passed 0) refl));
  fails_trust = λ claim.
      not_passed _ ((claim.0 (typed_channel 4) refl refl).here (λ for. absurd (let never : false ≡ true = for.kind in cc)));
  fails_alone = λ claim. not_passed _ ((claim.0 (typed_channel 2) refl refl).here (λ for. none_for (roam_call 2 judged.Forwarded) (typed_channel 2) for));
}

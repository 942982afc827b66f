-- What a controller answers to the calls of a member's turn, whatever it keeps.
-- Of `controllers_answer`.
use Rattle.std.proofs.Common.{◌≡◌, ℕ, zero, suc, ◌<◌, ◌≤◌, ◌^◌, Bool, true, false, List, [], ◌∷◌, ◌++◌, length-append, Option, Some, None, refl, ap, subst, ◌∙◌, arith, inr, length, sym}
use Rattle.std.specs.Prelude.{bytes_eq, replicate}
use Rattle.wire_base.specs.Maps.{lookup, put, take_out}
use Rattle.wire_base.specs.Names.{IsName, same_name}
use Rattle.wire_base.specs.Units.{AreUnits}
use Rattle.wire_base.specs.declared.authenticator.Authenticator.{Authenticator}
use Rattle.wire_base.proofs.MapLaws.{put_others, taken_others}
use Rattle.wire_base.proofs.NameLaws.{IsSameness-same_name}
use Rattle.channel_keys.specs.Credentials.{cred_of}
use Rattle.channel_keys.specs.Hidden.{crypt_key, is_zero}
use Rattle.authenticators.specs.Sequences.{authenticator_of, return_of}
use Rattle.outside.specs.declared.action.Judged.TheVariants as judged
use Rattle.outside.specs.declared.event.Event.TheVariants as event
use Rattle.outside.specs.Machine.{Stepped, whole_step}
use Rattle.outside.specs.declared.action.Action.{Action}
use Rattle.rpc_units.specs.Calls.{bytes_of_call}
use Rattle.logon_stubs.specs.Ranges.{InRangeReply, InRangeSamInfo, HasShortTexts, IsBlock}
use Rattle.logon_stubs.specs.Status.{access_denied, no_trust_sam_account}
use Rattle.logon_stubs.specs.Writing.{CanWriteReply}
use Rattle.logon_stubs.specs.declared.calls.LogonCall.{LogonCall}
use Rattle.logon_stubs.specs.declared.calls.Reply.{Reply}
use Rattle.logon_stubs.specs.declared.calls.Reply.TheVariants as reply
use Rattle.logon_stubs.specs.declared.info.NetworkInfo.{NetworkInfo}
use Rattle.logon_stubs.specs.declared.info.SamInfo.{SamInfo}
use Rattle.logon_stubs.specs.declared.info.Verdict.{Verdict}
use Rattle.logon_stubs.specs.declared.info.Verdict.TheVariants as verdict
use Rattle.logon_stubs.proofs.WrittenLaws.{written_reply-few}
use Rattle.account_table.specs.AccountTable.{AccountTable}
use Rattle.account_table.specs.Changes.{DifferInCounts}
use Rattle.account_table.specs.declared.account.Account.{Account}
use Rattle.account_table.proofs.ChangeLaws.{differs-none}
use Rattle.sam_logon.specs.Verdict.{IfGranted, judgement_of}
use Rattle.sam_logon.proofs.GrantedLaws.{granting-CanWrite, granting-InRange}
use Rattle.end_links.specs.Serving.{ServedPart}
use Rattle.channel_client.specs.declared.caller.Caller.{Caller}
use Rattle.channel_client.specs.declared.state.Question.TheVariants as question
use Rattle.channel_client.specs.Machine.{auth_call, challenge_call, level_asked, logon_call, offered_flags}
use Rattle.authenticators.specs.SecureChannels.{SecureChannelState, key_of_channel, channel_by, passes_on}
use Rattle.authenticators.proofs.BlockLaws.{cred_block, zeros_block}
use Rattle.domain_controller.specs.Hearing.{bound_talk}
use Rattle.domain_controller.specs.Machine.{Desk, account_for, channel_for, desk, goes_on, judge_account, judge_info, judge_pair, open_channel, reply_info, send_reply, status_of, take_pair}
use Rattle.domain_controller.specs.State.{State}
use Rattle.domain_controller.specs.Step.{after_units, first_desk, step_of}
use Rattle.domain_controller.specs.Whole.{InRangeTable}
use Rattle.controller_calls.specs.Asking.{answer_judged}
use Rattle.controller_calls.specs.declared.calls.JudgedCall.TheVariants.{Network}
use Rattle.controller_calls.specs.declared.line.Line.{Line}
use Rattle.controller_calls.specs.declared.state.Computers.{Computers}
use Rattle.controller_calls.specs.declared.state.ChallengePair.{ChallengePair}
use Rattle.domain_controller.specs.declared.state.Talk.{Talk}
use Rattle.controller_calls.specs.declared.state.Work.{Work}
use Rattle.controller_calls.proofs.LevelLaws.{short_at}
use Rattle.domain_controller.proofs.WholeParts.{Fits, crypt_block, judged_fits, judged_table}
use Rattle.controller_calls.proofs.DoneLaws.{channels_left}
use Rattle.controller_calls.proofs.OutcomeLaws.{JudgedComes, Passes, Refused, challenge_comes, judged_comes}
use Rattle.logon_steps.specs.Answering.{auth_value, pair_of}
use Rattle.logon_steps.specs.ControllerTurns.{controller_at, passed_reply, turn_link}
use Rattle.logon_steps.specs.Turning.{IsTurnCall, IsTurnReply, turn_agreed, turn_request}
use Rattle.logon_steps.proofs.ControllerTurnLaws.{asked_steps, running, stepped}
use Rattle.logon_steps.proofs.KnowingLaws.{computers_are_known}
use Rattle.logon_runs.specs.AnyAnswer.ControllerAnswers.{ControllersAnswer, FindsAccount, TellsShort, ToldChallenge, ToldLogon, ToldProof}
use Rattle.logon_runs.specs.OtherKeys.GrantRests.{HasShortName}
use Rattle.logon_runs.proofs.AnyAnswer.JudgingLaws.{IsLogonJudged, IsNamedIn, info_in, logon_judged}
use Rattle.logon_runs.proofs.Failing.TurnedAwayLaws.{IsRefusalOf, verdict_refuses}

-- ---- a call comes on the one link

-- the line of the call, and what is said on the link
abbrev line_at : ℕ → ℕ → Line
line_at link number = record { link = link; call = number; context = 0; limit = 5840 }

abbrev talk_at : Talk
talk_at = bound_talk None turn_agreed

-- the desk before it
abbrev desk_at : AccountTable → Computers → ℕ → Desk
desk_at table computers link = first_desk table (running computers (turn_link link))

-- what an answer makes of the controller
abbrev answered : AccountTable → List ℕ → Computers → ℕ → List (List ℕ) → ServedPart Desk Talk → Stepped State
answered table name computers link left part = stepped table name computers (turn_link link) left (after_units part [] link [])

-- ---- NetrServerReqChallenge

challenge_told : (table : AccountTable) (name : List ℕ) (computers : Computers) (link now number : ℕ) (caller : Caller) (client server : List ℕ) (left : List (List ℕ)) → number < 2 ^ 32 →
    IsTurnCall (challenge_call caller client) → ToldChallenge table name computers link now number caller client server left
challenge_told table name computers link now number caller client server left below is =
    challenge_comes (λ (after : Desk).
    step_of (controller_at table name computers (turn_link link)) (event.Bytes link (bytes_of_call (turn_request number (challenge_call caller client)) 5840)) now (server ∷ left)
    ≡ answered table name computers link (server ∷ left) (goes_on after talk_at left) → ToldChallenge table name computers link now number caller client server left)
    (line_at link number) (record { primary = None; computer = caller.computer; challenge = client }) server (desk_at table computers link) (record {
      unknown = λ unknown steps. record { later = computers; kept = refl; steps = steps };
      known = λ known steps.
          record { later = record computers { pending = put same_name caller.computer (pair_of client server) computers.pending }; kept = refl; steps = steps };
    }) (asked_steps table name computers link now number (challenge_call caller client) (server ∷ left) below is)

-- ---- NetrServerAuthenticate2

proof_goes : (credential : List ℕ) (status : ℕ) → IsBlock 8 credential → status < 2 ^ 32 →
    IsTurnReply question.Authenticate (reply.Authenticate (record { credential = credential; flags = offered_flags; status = status }))
proof_goes credential status block small =
    let r : Reply = reply.Authenticate (record { credential = credential; flags = offered_flags; status = status }) in
    let range : InRangeReply r = record { credential = block; flags = omega arith; status = small } in
    record { opnum = refl; writes = tt; range = range; short = omega (arith, written_reply-few r tt range tt) }

module _ (table : AccountTable) (name : List ℕ) (computers : Computers) (link now number : ℕ) (caller : Caller) (client server : List ℕ) (left : List (List ℕ)) where
  -- the computer's challenges are taken out
  abbrev proof_work : Work
  proof_work = take_pair caller.computer (desk_at table computers link).work

  abbrev IsProof : Work → Type 0
  IsProof work =
      step_of (controller_at table name computers (turn_link link)) (event.Bytes link (bytes_of_call (turn_request number (auth_call caller client server)) 5840)) now left
      ≡ answered table name computers link left (goes_on (desk table work) talk_at left)

  abbrev Finds : Type 0
  Finds = FindsAccount table caller client server

  denied : (status : ℕ) → status < 2 ^ 32 → (status ≡ 0 → Finds) →
      IsProof (send_reply proof_work (line_at link number) (reply.Authenticate (record { credential = replicate 8 0; flags = offered_flags; status = status }))) →
      ToldProof table name computers link now number caller client server left
  denied status small finds is = record {
    later = proof_work.computers;
    others = λ other apart. refl;
    credential = replicate 8 0;
    status = status;
    is = proof_goes (replicate 8 0) status zeros_block small;
    finds = finds;
    steps = is;
  }

  opened_told : (right : Bool) (channel : SecureChannelState) → Finds → IsProof (open_channel right channel (line_at link number) (auth_value caller client server) proof_work) →
      ToldProof table name computers link now number caller client server left
  opened_told false channel finds is = denied access_denied (omega arith) (λ zero. finds) is
  opened_told true channel finds is = record {
    later = record proof_work.computers { channels = put same_name caller.computer channel computers.channels };
    others = λ other apart. put_others same_name caller.computer other channel computers.channels IsSameness-same_name apart;
    credential = cred_of (key_of_channel channel) channel.server;
    status = 0;
    is = proof_goes (cred_of (key_of_channel channel) channel.server) 0 (cred_block _ _) (omega arith);
    finds = λ zero. finds;
    steps = is;
  }

  pair_told : (pair : Option ChallengePair) (account : Account) → Finds → IsProof (judge_pair pair account (line_at link number) (auth_value caller client server) proof_work) →
      ToldProof table name computers link now number caller client server left
  pair_told None account finds is = denied access_denied (omega arith) (λ zero. finds) is
  pair_told (Some pair) account finds is =
      let channel : SecureChannelState = channel_for account pair (auth_value caller client server) in
      opened_told (bytes_eq (auth_value caller client server).credential (cred_of (key_of_channel channel) channel.client)) channel finds is

  account_told : (found : Option Account) (pair : Option ChallengePair) → account_for table (auth_value caller client server) ≡ found → IsProof (judge_account found pair (line_at link number) (auth_value caller client server) proof_work) →
      ToldProof table name computers link now number caller client server left
  account_told None pair none is = denied no_trust_sam_account (omega arith) (λ zero. absurd (omega (arith, zero))) is
  account_told (Some account) pair found is = pair_told pair account (record { machine = account; found = found }) is

-- ---- NetrLogonSamLogon

-- without a channel and an authenticator that passes
abbrev refusal_reply : Reply
refusal_reply = reply.Logon (record { returned = None; level = level_asked; info = None; authoritative = 1; status = access_denied })

-- the name that is told

units_append : (one other : List ℕ) → AreUnits one → AreUnits other → AreUnits (one ++ other)
units_append [] other is that place = that place
units_append (first ∷ one) other is that zero = is zero
units_append (first ∷ one) other is that (suc place) = units_append one other (λ k. is (suc k)) that place

units_after : (unit : ℕ) (units : List ℕ) → unit < 2 ^ 16 → AreUnits units → AreUnits (unit ∷ units)
units_after unit units small is zero = small
units_after unit units small is (suc place) = is place

name_so : (sam : SamInfo) → HasShortTexts sam → InRangeSamInfo sam → HasShortName sam
name_so sam short range = record {
  short = omega (arith, short.domain, short.effective_name, length-append sam.domain (0x5C ∷ sam.effective_name));
  units = units_append sam.domain (0x5C ∷ sam.effective_name) range.domain (units_after 0x5C sam.effective_name (omega arith) range.texts.0);
}

-- where there is information, its names fit
abbrev IsShortIfThere : Option SamInfo → Type 0
IsShortIfThere None = Unit {0}
IsShortIfThere (Some info) = HasShortName info

short_from : (info : Option SamInfo) (sam : SamInfo) → IsShortIfThere info → IsNamedIn info sam → HasShortName sam
short_from info sam is named =
    let told : HasShortName named.told = subst IsShortIfThere named.is is in
    record {
      short = subst (λ (name : List ℕ). length name ≤ 129) (sym named.name) told.short;
      units = subst AreUnits (sym named.name) told.units;
    }

tells_short : (answer : Reply) → IsShortIfThere (info_in answer) → TellsShort answer
tells_short answer is = λ o state secret sam same. short_from (info_in answer) sam is (subst (IsLogonJudged (info_in answer) o) same (logon_judged answer o secret)).1

-- the replies

refusal_goes : IsTurnReply question.Logon refusal_reply
refusal_goes =
    let range : InRangeReply refusal_reply = record { returned = tt; level = omega arith; info = tt; authoritative = omega arith; status = omega arith } in
    record { opnum = refl; writes = tt; range = range; short = omega (arith, written_reply-few refusal_reply tt range tt) }

-- a reply that passes, by its verdict
record PassedGoes (key credential : List ℕ) (found : Verdict) : Type 0 where
  is : IsTurnReply question.Logon (passed_reply key credential found)
  names : TellsShort (passed_reply key credential found)

passed_goes : (key credential : List ℕ) (found : Verdict) → IsBlock 8 credential → IfGranted found Fits → IsRefusalOf found → PassedGoes key credential found
passed_goes key credential (verdict.Status status) block fits refuses =
    let r : Reply = passed_reply key credential (verdict.Status status) in
    let range : InRangeReply r = record { returned = record { credential = block; timestamp = omega arith }; level = omega arith; info = tt; authoritative = omega arith; status = refuses.small } in
    record {
      is = record { opnum = refl; writes = tt; range = range; short = omega (arith, written_reply-few r tt range tt) };
      names = tells_short r tt;
    }
passed_goes key credential (verdict.Granted info) block fits refuses =
    let r : Reply = passed_reply key credential (verdict.Granted info) in
    let returned : Option Authenticator = Some (record { credential = credential; timestamp = 0 }) in
    let hidden : List ℕ = crypt_key key info.key in
    let writes : CanWriteReply r = granting-CanWrite returned level_asked info hidden 1 0 (inr refl) fits.can in
    let range : InRangeReply r = granting-InRange returned level_asked info hidden 1 0 (omega arith) fits.range (crypt_block (is_zero info.key) key info.key fits.range.key)
    (record { credential = block; timestamp = omega arith }) (omega arith) (omega arith) in
    let short : HasShortTexts (reply_info level_asked key info) = short_at level_asked key info (inr refl) fits.short in
    record {
      is = record { opnum = refl; writes = writes; range = range; short = omega (arith, written_reply-few r writes range short) };
      names = tells_short r (name_so (reply_info level_asked key info) short range.info);
    }

module _ (table : AccountTable) (name : List ℕ) (computers : Computers) (link now number timestamp : ℕ) (caller : Caller) (o : SecureChannelState) (info : NetworkInfo) (left : List (List ℕ))
    (ranged : InRangeTable table) (is_name : IsName name) (below : now < 2 ^ 64) where
  abbrev given : Authenticator
  given = authenticator_of (key_of_channel o) o.seed timestamp

  abbrev call_asked : LogonCall
  call_asked = record {
    server = None;
    computer = Some caller.computer;
    authenticator = Some given;
    returned = Some (record { credential = replicate 8 0; timestamp = 0 });
    info = info;
    validation = level_asked;
  }

  abbrev IsLogon : Desk → Type 0
  IsLogon d =
      step_of (controller_at table name computers (turn_link link)) (event.Bytes link (bytes_of_call (turn_request number (logon_call caller o timestamp info)) 5840)) now left
      ≡ answered table name computers link left (goes_on d talk_at left)

  differs_so : DifferInCounts table (judge_info table name now info level_asked).table
  unfolding judgement_of
  differs_so = computers_are_known.judged table info now

  refuses_so : IsRefusalOf (judge_info table name now info level_asked).verdict
  unfolding judgement_of
  refuses_so = verdict_refuses table name info now

  -- by what is done then
  told_by : (after : Desk) (actions : List Action) → IsLogon after → after.work.actions ≡ actions →
      step_of (controller_at table name computers (turn_link link)) (event.Bytes link (bytes_of_call (turn_request number (logon_call caller o timestamp info)) 5840)) now left
      ≡ whole_step left left actions (controller_at after.table name after.work.computers (turn_link link))
  told_by after actions steps same = steps ∙ ap (λ (all : List Action). whole_step left left all (controller_at after.table name after.work.computers (turn_link link))) same

  logon_told : (after : Desk) → JudgedComes (Network call_asked) name now (line_at link number) (desk_at table computers link) after → IsLogon after →
      ToldLogon table name computers link now number timestamp caller o info left
  logon_told after (Refused how away) steps = record {
    later = after.work.computers;
    others = λ other apart. channels_left (Network call_asked) computers how after.work.computers.channels other away.why;
    accounts = after.table;
    differs = subst (DifferInCounts table) (sym away.table) (differs-none table);
    ranged = subst InRangeTable (sym away.table) ranged;
    how = how;
    answer = refusal_reply;
    is = refusal_goes;
    names = tells_short refusal_reply tt;
    steps = told_by after _ steps away.actions;
  }
  logon_told after (Passes next done) steps =
      let found : Verdict = (judge_info table name now info level_asked).verdict in
      let key : List ℕ = key_of_channel next.channel in
      let credential : List ℕ = return_of key next.channel.seed next.given.timestamp in
      let goes : PassedGoes key credential found =
      passed_goes key credential found (cred_block _ _) (judged_fits table name now ranged is_name below info level_asked) refuses_so in
      let own : caller.computer ≡ next.computer = let both : Some caller.computer ≡ Some next.computer = next.named in cc in
      let moved : SecureChannelState = channel_by (passes_on next.channel next.given) next.channel next.given in
      record {
        later = after.work.computers;
        others = λ other apart.
            let differs : same_name next.computer other ≡ false = subst (λ (computer : List ℕ). same_name computer other ≡ false) own apart in
            ap (lookup same_name other) done.channels
            ∙ put_others same_name next.computer other moved (take_out same_name next.computer computers.channels) IsSameness-same_name differs
            ∙ taken_others same_name next.computer other computers.channels IsSameness-same_name differs;
        accounts = after.table;
        differs = subst (DifferInCounts table) (sym done.table) differs_so;
        ranged = subst InRangeTable (sym done.table) (judged_table table name now info level_asked ranged);
        how = judged.Passed (status_of found);
        answer = passed_reply key credential found;
        is = goes.is;
        names = goes.names;
        steps = told_by after _ steps done.actions;
      }

pub controllers_answer : ControllersAnswer
controllers_answer = record {
  challenge = λ table name computers link now number caller client server left below is.
      challenge_told table name computers link now number caller client server left below is;
  proof = λ table name computers link now number caller client server left below is.
      account_told table name computers link now number caller client server left (account_for table (auth_value caller client server)) (lookup same_name caller.computer computers.pending) refl
      (asked_steps table name computers link now number (auth_call caller client server) left below is);
  logon = λ table name computers link now number timestamp caller o info left below is ranged is_name moment.
      let c : LogonCall = call_asked table name computers link now number timestamp caller o info left ranged is_name moment in
      logon_told table name computers link now number timestamp caller o info left ranged is_name moment (answer_judged (Network c) name now (line_at link number) (desk_at table computers link))
      (judged_comes (Network c) name now (line_at link number) (desk_at table computers link))
      (asked_steps table name computers link now number (logon_call caller o timestamp info) left below is);
}

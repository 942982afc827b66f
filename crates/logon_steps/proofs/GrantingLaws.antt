-- What comes of the answer of a client whose hash is the stored one, and who may log on.
-- Of `logons_are_granted`.
use Rattle.std.proofs.Common.{◌≡◌, ℕ, ◌==◌, Bool, true, false, List, [], ◌∷◌, ◌++◌, length, Option, Some, None, refl, sym, ap, ap₂, subst, ◌∙◌, inl, inr, slice_get, arith}
use Rattle.std.specs.Prelude.{◌&&◌, ◌||◌, ◌⊎◌, ◌↔◌, IsSomeAnd}
use Rattle.std.specs.Option.{option_and_then}
use Rattle.std.proofs.lemmas.Bool.Decides.{nat_tests}
use Rattle.ntlm_flags.specs.Flags.{agreed_flags, challenge_flags, has_flag, negotiate_extended_sessionsecurity}
use Rattle.channel_keys.specs.Hidden.{crypt_key}
use Rattle.ntlm_messages.specs.declared.messages.Authenticate.{Authenticate}
use Rattle.ntlm_responses.specs.Keys.{exchange_key_of, exported_key_of}
use Rattle.ntlm_responses.specs.Verification.{Verifies, base_key_of}
use Rattle.ntlm_responses.proofs.ResponseLaws.{length-response_ess_of, length-response_v1_of, length-response_v2_of}
use Rattle.ntlm_seal.specs.declared.side.Side.TheVariants.{Client}
use Rattle.ntlm_seal.proofs.TurnLaws.{paired_first}
use Rattle.account_table.specs.AccountTable.{AccountTable}
use Rattle.account_table.specs.Changes.{DifferInCounts, with_bad_count, with_count}
use Rattle.account_table.specs.LookUps.{account_in, place_in, route_in}
use Rattle.account_table.specs.declared.account.Account.{Account}
use Rattle.account_table.specs.declared.account.Policy.{Policy}
use Rattle.account_table.specs.declared.table.Route.{Route}
use Rattle.account_table.specs.declared.table.Route.TheVariants.{Own, Trust, Elsewhere}
use Rattle.account_table.proofs.ChangeLaws.{at_place-like, differs-none, with_bad_count-differs}
use Rattle.logon_stubs.specs.declared.info.NetworkInfo.{NetworkInfo}
use Rattle.logon_stubs.specs.declared.info.SamInfo.{SamInfo}
use Rattle.logon_stubs.specs.declared.info.Verdict.{Verdict}
use Rattle.logon_stubs.specs.declared.info.Verdict.TheVariants.{Granted}
use Rattle.sam_logon.specs.Granting.{at_level, sam_info_of}
use Rattle.sam_logon.specs.MayLogOn.{IsTakenResponse, MayLogOn, MayLogOnAt}
use Rattle.sam_logon.specs.Rules.{count_after, first_refusal, rules_of, shown_by_response}
use Rattle.sam_logon.specs.Verdict.{Judgement, is_granted, judged_account, judgement_of, table_after, table_at, table_on, verdict_at, verdict_by, verdict_of, verdict_on}
use Rattle.sam_logon.proofs.VerdictLaws.{verdict_of-Decides}
use Rattle.authenticators.specs.Sequences.{return_of}
use Rattle.authenticators.specs.SecureChannels.{SecureChannelState, key_of_channel}
use Rattle.channel_client.specs.Machine.{level_asked}
use Rattle.logon_client.specs.declared.answering.Answer.{Answer}
use Rattle.logon_client.specs.declared.answering.ServerOffer.{ServerOffer}
use Rattle.logon_client.specs.declared.plan.AuthKind.{AuthKind}
use Rattle.logon_client.specs.declared.plan.AuthKind.TheVariants.{V1, V1Ess, V2}
use Rattle.logon_client.specs.declared.plan.ClientPlan.{ClientPlan}
use Rattle.logon_client.specs.Answering.{nt_by, pairs_sent}
use Rattle.unit_security.specs.Levels.{is_plain, is_signed}
use Rattle.logon_client.specs.Plans.{CanLogOn, offer_of}
use Rattle.logon_client.specs.Securing.{session_if}
use Rattle.logon_client.proofs.AnswerLaws.{answers_verify, keys_found}
use Rattle.member_server.specs.declared.plan.MemberPlan.{MemberPlan}
use Rattle.member_server.specs.Messages.{info_of}
use Rattle.member_server.specs.Outcomes.{key_or, name_in, session_by}
use Rattle.logon_steps.specs.Answers.{AreDraws, HasUnits, answer_for, drawn_of}
use Rattle.logon_steps.specs.Asking.{info_at}
use Rattle.logon_steps.specs.ControllerTurns.{passed_reply}
use Rattle.logon_steps.specs.Granting.{LogonsAreGranted, base_key, cleared, cleared_at, info_told, response_told}
use Rattle.logon_steps.specs.Meeting.{flags_agreed, flags_answered, offer_for}
use Rattle.logon_steps.specs.MemberAnswers.{granting}
use Rattle.logon_steps.specs.MemoCalls.{AreSessions}
use Rattle.logon_steps.proofs.AnswersLaws.{answers_are_asked, draws_are}
use Rattle.logon_steps.proofs.MeetingLaws.{enough_agreed}

-- ---- the response

not_v2 : (V2 ≡ V1) ⊎ (V2 ≡ V1Ess) → ⊥
not_v2 (inl is) = cc
not_v2 (inr is) = cc

response_by : (auth : AuthKind) (task : ClientPlan) (offer : ServerOffer) (client : List ℕ) → length client ≡ 8 →
    (length (nt_by auth task offer client) ≡ 24) ↔ ((auth ≡ V1) ⊎ (auth ≡ V1Ess))
response_by V1 task offer client eight = (λ is. inl refl, λ which. length-response_v1_of task.hash offer.challenge)
response_by V1Ess task offer client eight = (λ is. inr refl, λ which. length-response_ess_of task.hash offer.challenge client)
response_by V2 task offer client eight = (
  λ is. absurd (omega (arith, is, eight, length-response_v2_of task.hash task.user task.domain offer.challenge offer.time client (pairs_sent (length offer.info == 0) offer.info))),
  λ which. absurd (not_v2 which),
)

told_by : (auth : AuthKind) → (auth ≡ V1) ⊎ (auth ≡ V1Ess) → length (response_told auth) ≡ 24
told_by V1 which = refl
told_by V1Ess which = refl
told_by V2 which = absurd (not_v2 which)

-- a response is taken where one is that has 24 bytes if it does
taken_from : (policy : Policy) (told nt : List ℕ) → (length nt ≡ 24 → length told ≡ 24) → IsTakenResponse policy told → IsTakenResponse policy nt
taken_from policy told nt like (inl off) = inl off
taken_from policy told nt like (inr other) = inr (λ is. other (like is))

-- ---- the verdict, and the table afterwards

none_by : (refusal : _) (info : SamInfo) → is_granted (verdict_by refusal info) ≡ true → refusal ≡ None
none_by None info is = refl
none_by (Some refused) info is = absurd (let never : false ≡ true = is in cc)

-- the domain's accounts are the table's own, and no rule refuses the account that is found
pub record IsOwnGrant (route : Route) (table : AccountTable) (info : NetworkInfo) (now : ℕ) (account : Account) : Type 0 where
  pub own : route ≡ Own
  pub passes : first_refusal (rules_of table.policy account info now) ≡ None

own_grant : (route : Route) (table : AccountTable) (name : List ℕ) (info : NetworkInfo) (now : ℕ) (account : Account) → account_in table.accounts info.user ≡ Some account →
    is_granted (verdict_at route table name info now) ≡ true → IsOwnGrant route table info now account
own_grant Own table name info now account found is = record {
  own = refl;
  passes = none_by (first_refusal (rules_of table.policy account info now)) _ (sym (ap (λ (f : Option Account). is_granted (verdict_on f table name info now)) found) ∙ is);
}
own_grant (Trust place) table name info now account found is = absurd (let never : false ≡ true = is in cc)
own_grant Elsewhere table name info now account found is = absurd (let never : false ≡ true = is in cc)

cleared_on : (place : Option ℕ) (table : AccountTable) (info : NetworkInfo) (now : ℕ) (account : Account) → option_and_then (slice_get table.accounts) place ≡ Some account →
    first_refusal (rules_of table.policy account info now) ≡ None → table_on place table info now ≡ cleared_at place table
unfolding with_bad_count
cleared_on None table info now account found passes = refl
cleared_on (Some place) table info now account found passes =
    ap (λ (accounts : List Account). let after : AccountTable = record table { accounts = accounts } in after)
    (at_place-like (judged_account table.policy (shown_by_response info) info.workstation now) (with_count 0) place table.accounts account found
    (ap (λ (refusal : _). with_count (count_after refusal account.bad_count) account) passes))

differs_cleared : (place : Option ℕ) (table : AccountTable) → DifferInCounts table (cleared_at place table)
differs_cleared None table = differs-none table
differs_cleared (Some place) table = with_bad_count-differs place 0 table

module _ (table : AccountTable) (name : List ℕ) (info : NetworkInfo) (now : ℕ) (account : Account) (found : account_in table.accounts info.user ≡ Some account)
    (is : is_granted (verdict_of table name info now) ≡ true) where
  granted_own : IsOwnGrant (route_in table info.domain) table info now account
  unfolding verdict_of
  granted_own = own_grant (route_in table info.domain) table name info now account found is

  granted_verdict : verdict_of table name info now ≡ Granted (sam_info_of table name account (base_key_of account.hash info.user info.domain info.nt) now)
  unfolding verdict_of
  granted_verdict =
      ap (λ (r : Route). verdict_at r table name info now) granted_own.own
      ∙ ap (λ (f : Option Account). verdict_on f table name info now) found
      ∙ ap (λ (refusal : _). verdict_by refusal (sam_info_of table name account (base_key_of account.hash info.user info.domain info.nt) now)) granted_own.passes

  granted_table : table_after table info now ≡ cleared table info.user
  unfolding table_after
  granted_table =
      ap (λ (r : Route). table_at r table info now) granted_own.own
      ∙ cleared_on (place_in table.accounts info.user) table info now account found granted_own.passes

judged_so : (table : AccountTable) (name : List ℕ) (info : NetworkInfo) (now : ℕ) (verdict : Verdict) (after : AccountTable) → verdict_of table name info now ≡ verdict →
    table_after table info now ≡ after → judgement_of table name info now ≡ record { verdict = verdict; table = after }
unfolding judgement_of
judged_so table name info now verdict after is then_table =
    ap₂ (λ (v : Verdict) (t : AccountTable). let judged : Judgement = record { verdict = v; table = t } in judged) is then_table

may_from : (table : AccountTable) (told info : NetworkInfo) (now : ℕ) → info.domain ≡ told.domain → info.user ≡ told.user → info.workstation ≡ told.workstation →
    IsTakenResponse table.policy info.nt → MayLogOn table told now → MayLogOn table info now
may_from table told info now domain user workstation taken may = record {
  there = subst (λ (d : List ℕ). MayLogOnAt table d info.user info.workstation now) (sym domain)
      (subst (λ (u : List ℕ). MayLogOnAt table told.domain u info.workstation now) (sym user)
      (subst (λ (w : List ℕ). MayLogOnAt table told.domain told.user w now) (sym workstation) may.there));
  taken_response = taken;
}

-- ---- the sessions

signed_not_plain : (level : ℕ) → is_signed level ≡ true → is_plain level ≡ false
signed_not_plain level signed = grind (arith, nat_tests)

true_alone : (b : Bool) → (b || false) ≡ true → b ≡ true
true_alone true is = refl
true_alone false is = is

unsigned_plain : (task : ClientPlan) → CanLogOn task → is_signed task.level ≡ false → is_plain task.level ≡ true
unsigned_plain task can unsigned = true_alone (is_plain task.level) (subst (λ (b : Bool). (is_plain task.level || b) ≡ true) unsigned can.level)

agreed_ess : (auth : AuthKind) (level : ℕ) → (auth ≡ V1 → level ≡ 2) → is_signed level ≡ true →
    has_flag (agreed_flags (offer_of auth) (challenge_flags (offer_of auth))) negotiate_extended_sessionsecurity ≡ true
agreed_ess V1 level plain signed = absurd (let never : false ≡ true = sym (ap is_signed (plain refl)) ∙ signed in cc)
agreed_ess V1Ess level plain signed = refl
agreed_ess V2 level plain signed = refl

sessions_by : (signed ess : Bool) (level : ℕ) (key : List ℕ) (flags : ℕ) → (signed ≡ true → ess ≡ true) → (signed ≡ true → is_plain level ≡ false) →
    (signed ≡ false → is_plain level ≡ true) → AreSessions 1 level (session_if (signed && ess) key flags) (session_by ess key flags)
sessions_by false ess level key flags has not_plain plain = plain refl
sessions_by true false level key flags has not_plain plain = absurd (let never : false ≡ true = has refl in cc)
sessions_by true true level key flags has not_plain plain = (not_plain refl, paired_first key flags Client, omega arith, omega arith)

key_of_sam : (table : AccountTable) (name : List ℕ) (account : Account) (key : List ℕ) (now : ℕ) → (sam_info_of table name account key now).key ≡ key
unfolding sam_info_of
key_of_sam table name account key now = refl

name_of_sam : (table : AccountTable) (name : List ℕ) (account : Account) (key shown : List ℕ) (now : ℕ) →
    name_in (record (sam_info_of table name account key now) { key = shown }) ≡ table.domain ++ 0x5C ∷ account.name
unfolding sam_info_of
name_of_sam table name account key shown now = refl

-- ---- the reply that carries it

carried_all : (info : SamInfo) → at_level level_asked info ≡ info
unfolding at_level
carried_all info = refl

reply_so : (o : SecureChannelState) (timestamp : ℕ) (info : SamInfo) →
    passed_reply (key_of_channel o) (return_of (key_of_channel o) o.seed timestamp) (Granted info)
    ≡ granting o timestamp 0 1 (record info { key = crypt_key (key_of_channel o) info.key })
unfolding at_level
reply_so o timestamp info = refl

-- ---- what a client answers

module _ (plan : MemberPlan) (task : ClientPlan) (challenge one two three : List ℕ) (then_now place now : ℕ) (table : AccountTable) (account : Account)
    (can : CanLogOn task) (units : HasUnits task) (are : AreDraws one two three) (found : account_in table.accounts task.user ≡ Some account) (hash : account.hash ≡ task.hash)
    (may : MayLogOn table (info_told task) now) where
  abbrev message : Authenticate
  message = (answer_for plan task challenge then_now (drawn_of one two three)).message

  abbrev info : NetworkInfo
  info = info_at place (info_of message (flags_agreed task) challenge)

  names : (info.domain ≡ task.domain) × (info.user ≡ task.user) × (info.workstation ≡ task.workstation)
  names = answers_are_asked.names plan task challenge one two three then_now can units

  same_found : account_in table.accounts info.user ≡ Some account
  same_found = ap (λ (u : List ℕ). account_in table.accounts u) names.1 ∙ found

  verified : Verifies account.hash info.user info.domain info.challenge info.nt
  verified =
      subst (λ (h : List ℕ). Verifies h info.user info.domain info.challenge info.nt) (sym hash)
      (answers_verify task (offer_for plan task challenge then_now) (drawn_of one two three)
      (record { server = flags_answered task; flags = refl; enough = enough_agreed task can }) are.client units.user units.domain)

  taken : IsTakenResponse table.policy info.nt
  taken =
      taken_from table.policy (response_told task.auth) info.nt
      (λ is. told_by task.auth ((response_by task.auth task (offer_for plan task challenge then_now) one are.client).0 is)) may.taken_response

  may_info : MayLogOn table info now
  may_info = may_from table (info_told task) info now names.0 names.1 names.2 taken may

  is_granted_so : (name : List ℕ) → is_granted (verdict_of table name info now) ≡ true
  is_granted_so name =
      (verdict_of-Decides table name info now).1 (
        may_info,
        subst (λ (f : Option Account). IsSomeAnd f (λ a. Verifies a.hash info.user info.domain info.challenge info.nt)) (sym same_found) verified,
      )

  verdict_so : (name : List ℕ) → verdict_of table name info now ≡ Granted (sam_info_of table name account (base_key task message) now)
  verdict_so name =
      granted_verdict table name info now account same_found (is_granted_so name)
      ∙ ap (λ (k : List ℕ). Granted (sam_info_of table name account k now))
      (ap₂ (λ (h u : List ℕ). base_key_of h u info.domain info.nt) hash names.1 ∙ ap (λ (d : List ℕ). base_key_of task.hash task.user d info.nt) names.0)

  table_so : table_after table info now ≡ cleared table task.user
  table_so = granted_table table [] info now account same_found (is_granted_so []) ∙ ap (λ (u : List ℕ). cleared table u) names.1

pub logons_are_granted : LogonsAreGranted
logons_are_granted = record {
  response = λ plan task challenge one two three then_now are. response_by task.auth task (offer_for plan task challenge then_now) one are.client;
  verdict = λ plan task challenge one two three then_now place now table name account can units are found hash may.
      verdict_so plan task challenge one two three then_now place now table account can units are found hash may name;
  table = λ plan task challenge one two three then_now place now table account can units are found hash may.
      table_so plan task challenge one two three then_now place now table account can units are found hash may;
  counts = λ table user. differs_cleared (place_in table.accounts user) table;
  granted = λ plan task challenge one two three then_now place now table name account can units are found hash may.
      judged_so table name _ now _ _ (verdict_so plan task challenge one two three then_now place now table account can units are found hash may name)
      (table_so plan task challenge one two three then_now place now table account can units are found hash may);
  carried = carried_all;
  reply = reply_so;
  key = λ plan task challenge one two three then_now link sam are is.
      let answer : Answer = answer_for plan task challenge then_now (drawn_of one two three) in
      let message : Authenticate = answer.message in
      let exchange_by : List ℕ → List ℕ = λ k. exchange_key_of k (flags_agreed task) challenge message.lm message.nt in
      ap (λ (k : List ℕ). key_or (exchange_by k) (exported_key_of (exchange_by k) (flags_agreed task) message.key)) is
      ∙ ap (λ (found : Option (List ℕ)). key_or (exchange_by (base_key task message)) found)
      (keys_found task (offer_for plan task challenge then_now) (drawn_of one two three) (draws_are task one two three are).chosen);
  sessions = λ plan task challenge one two three then_now can.
      let answer : Answer = answer_for plan task challenge then_now (drawn_of one two three) in
      sessions_by (is_signed task.level) (has_flag (flags_agreed task) negotiate_extended_sessionsecurity) task.level answer.key (flags_agreed task)
      (agreed_ess task.auth task.level can.plain) (signed_not_plain task.level) (unsigned_plain task can);
  has_key = key_of_sam;
  name = name_of_sam;
}

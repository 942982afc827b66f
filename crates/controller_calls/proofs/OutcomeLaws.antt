-- What a call comes to at a controller, said once for each kind. It serves `what_passes_is_done` and
-- `kept_channels_have_kinds`, and the laws of all steps.
use Rattle.std.proofs.Common.{◌≡◌, ◌≢◌, ◌==◌, ℕ, Bool, true, false, List, [], ◌∷◌, ◌++◌, length, Option, Some, None, refl, sym, ap, subst, ◌∙◌, bytes_eq, append_assoc}
use Rattle.std.specs.List.{AllByRecursion}
use Rattle.std.proofs.lemmas.Slice.Eq.{bytes_eq-Decides}
use Rattle.wire_base.specs.Maps.{lookup, put, take_out}
use Rattle.wire_base.specs.Names.{same_name}
use Rattle.wire_base.specs.declared.authenticator.Authenticator.{Authenticator}
use Rattle.ntlm_flags.specs.Flags.{has_flag}
use Rattle.channel_keys.specs.Credentials.{cred_of}
use Rattle.channel_keys.specs.Flags.{rc4_flag}
use Rattle.authenticators.specs.Sequences.{return_of}
use Rattle.authenticators.specs.SecureChannels.{SecureChannelState, channel_by, key_of_channel, passes_on, return_by}
use Rattle.outside.specs.declared.action.Action.TheVariants as action
use Rattle.outside.specs.declared.action.Judged.{Judged}
use Rattle.outside.specs.declared.action.Judged.TheVariants as judged
use Rattle.outside.specs.declared.action.Action.{Action}
use Rattle.rpc_units.specs.Calls.{bytes_of_call}
use Rattle.end_links.specs.Sending.{response_of}
use Rattle.logon_stubs.specs.Status.{access_denied, downgrade_detected, no_trust_sam_account}
use Rattle.logon_stubs.specs.declared.calls.AuthCall.{AuthCall}
use Rattle.logon_stubs.specs.declared.calls.ChallengeCall.{ChallengeCall}
use Rattle.logon_stubs.specs.declared.calls.Reply.{Reply}
use Rattle.logon_stubs.specs.declared.calls.Reply.TheVariants as reply
use Rattle.logon_stubs.specs.declared.info.Verdict.{Verdict}
use Rattle.logon_stubs.specs.declared.info.Verdict.TheVariants.{Granted, Status}
use Rattle.interactive_logon.specs.declared.calls.InteractiveInfo.{InteractiveInfo}
use Rattle.interactive_logon.specs.Sessions.{session_limit}
use Rattle.account_table.specs.AccountTable.{AccountTable}
use Rattle.account_table.specs.LookUps.{knows_in, machine_in}
use Rattle.account_table.specs.declared.account.Account.{Account}
use Rattle.secret_change.specs.Hiding.{show_of}
use Rattle.controller_calls.specs.Asking.{answer_judged, answers_to, pass_asked, refuse_asked}
use Rattle.controller_calls.specs.Calls.{asked_of, computer_named, given_in}
use Rattle.controller_calls.specs.Desk.{Desk, desk, put_pair, send_reply, take_channel}
use Rattle.controller_calls.specs.Doing.{Done, IsDoneAs, admitted_so, computer_or_none, done_asked, done_by, how_refused, kept_asked, kept_if, move_on, refused_stub, set_so}
use Rattle.controller_calls.specs.Interactive.{admitted, judge_interactive, pass_admitted}
use Rattle.controller_calls.specs.Judging.{answer_named, answer_on, answer_return}
use Rattle.controller_calls.specs.Opening.{account_for, answer_challenge, channel_for, deny_channel, judge_account, judge_offer, judge_pair, open_channel, put_pair_if}
use Rattle.controller_calls.specs.Passing.{IsKeep, IsNext, is_passed}
use Rattle.controller_calls.specs.Setting.{set_at}
use Rattle.controller_calls.specs.declared.calls.Asked.{Asked}
use Rattle.controller_calls.specs.declared.calls.Asked.TheVariants as asked
use Rattle.controller_calls.specs.declared.calls.JudgedCall.{JudgedCall}
use Rattle.controller_calls.specs.declared.line.Line.{Line}
use Rattle.controller_calls.specs.declared.state.ChallengePair.{ChallengePair}
use Rattle.controller_calls.specs.declared.state.Computers.{Computers}
use Rattle.controller_calls.specs.declared.state.Work.{Work}
use Rattle.controller_calls.proofs.RefusalLaws.{none_taken}

-- one action behind another
pub two : (old : List Action) (one other : Action) → (old ++ one ∷ []) ++ other ∷ [] ≡ old ++ one ∷ other ∷ []
two old one other = append_assoc old (one ∷ []) (other ∷ [])

pub three : (old : List Action) (one other third : Action) → ((old ++ one ∷ []) ++ other ∷ []) ++ third ∷ [] ≡ old ++ one ∷ other ∷ third ∷ []
three old one other third = two (old ++ one ∷ []) other third ∙ append_assoc old (one ∷ []) (other ∷ third ∷ [])

pub one_given : (given other : Authenticator) → Some given ≡ Some other → given ≡ other
one_given given other is = cc

pub one_channel : (computer other : List ℕ) (channel another : SecureChannelState) (computers : Computers) → Some computer ≡ Some other → lookup same_name computer computers.channels ≡ Some channel →
    lookup same_name other computers.channels ≡ Some another → channel ≡ another
one_channel computer other channel another computers is stands also =
    let same : computer ≡ other = cc in
    let both : Some channel ≡ Some another = sym stands ∙ ap (λ (n : List ℕ). lookup same_name n computers.channels) same ∙ also in
    cc

pub not_both : (channel other : SecureChannelState) (given more : Authenticator) → channel ≡ other → given ≡ more → passes_on channel given ≡ false → passes_on other more ≡ true → ⊥
not_both channel other given more same alike fails passes = absurd cc

-- ---- NetrServerReqChallenge: its pair waits where the computer is known

abbrev pub challenge_reply : List ℕ → Reply
challenge_reply server = reply.Challenge (record { challenge = server; status = 0 })

abbrev pub pair_for : ChallengeCall → List ℕ → ChallengePair
pair_for c server = record { client = c.challenge; server = server }

pub record ChallengeCases (Comes : Desk → Type 0) (line : Line) (c : ChallengeCall) (server : List ℕ) (before : Desk) : Type 0 where
  pub unknown : knows_in before.table.accounts c.computer ≡ false →
      Comes (desk before.table (send_reply before.work line (challenge_reply server)))
  pub known : knows_in before.table.accounts c.computer ≡ true →
      Comes (desk before.table (send_reply (put_pair c.computer (pair_for c server) before.work) line (challenge_reply server)))

module _ (Comes : Desk → Type 0) (line : Line) (c : ChallengeCall) (server : List ℕ) (before : Desk) (cases : ChallengeCases Comes line c server before) where
  challenge_by : (knows : Bool) → knows_in before.table.accounts c.computer ≡ knows →
      Comes (desk before.table (send_reply (put_pair_if knows c.computer (pair_for c server) before.work) line (challenge_reply server)))
  challenge_by false is = cases.unknown is
  challenge_by true is = cases.known is

  pub challenge_comes : Comes (desk before.table (answer_challenge before.table line c server before.work))
  challenge_comes = challenge_by (knows_in before.table.accounts c.computer) refl

-- ---- NetrServerAuthenticate2: the computer's pair is taken out, and a channel opens or doesn't

-- the account and the pair with which a channel opens
pub record Opens (found : Option Account) (waiting : Option ChallengePair) (c : AuthCall) : Type 0 where
  pub account : Account
  pub pair : ChallengePair
  pub is_account : found ≡ Some account
  pub is_pair : waiting ≡ Some pair
  pub offers : has_flag c.flags rc4_flag ≡ true
  pub proves : bytes_eq c.credential (cred_of (key_of_channel (channel_for account pair c)) pair.client) ≡ true

abbrev pub OpensAt : Desk → AuthCall → Type 0
OpensAt before c = Opens (account_for before.table c) (lookup same_name c.computer before.work.computers.pending) c

pub record OpeningCases (Comes : Work → Type 0) (found : Option Account) (waiting : Option ChallengePair) (line : Line) (c : AuthCall) (taken : Work) : Type 0 where
  pub denied : (status : ℕ) → status ≢ 0 → (Opens found waiting c → ⊥) → Comes (deny_channel taken line c.flags status)
  pub accepted : (opens : Opens found waiting c) → Comes (open_channel true (channel_for opens.account opens.pair c) line c taken)

module _ (Comes : Work → Type 0) (found : Option Account) (waiting : Option ChallengePair) (line : Line) (c : AuthCall) (taken : Work) (cases : OpeningCases Comes found waiting line c taken) where
  client_opens : (right : Bool) (account : Account) (pair : ChallengePair) → found ≡ Some account → waiting ≡ Some pair → has_flag c.flags rc4_flag ≡ true →
      bytes_eq c.credential (cred_of (key_of_channel (channel_for account pair c)) pair.client) ≡ right → Comes (open_channel right (channel_for account pair c) line c taken)
  client_opens false account pair here there offers is = cases.denied access_denied (λ zero. cc) (λ opens.
      let one : account ≡ opens.account = let both : Some account ≡ Some opens.account = sym here ∙ opens.is_account in cc in
      let other : pair ≡ opens.pair = let both : Some pair ≡ Some opens.pair = sym there ∙ opens.is_pair in cc in
      let proves : bytes_eq c.credential (cred_of (key_of_channel (channel_for account pair c)) pair.client) ≡ true =
      subst (λ (a : Account). bytes_eq c.credential (cred_of (key_of_channel (channel_for a pair c)) pair.client) ≡ true) (sym one)
      (subst (λ (p : ChallengePair). bytes_eq c.credential (cred_of (key_of_channel (channel_for opens.account p c)) p.client) ≡ true) (sym other) opens.proves) in
      absurd (let never : false ≡ true = sym is ∙ proves in cc))
  client_opens true account pair here there offers is = cases.accepted (record {
    account = account;
    pair = pair;
    is_account = here;
    is_pair = there;
    offers = offers;
    proves = is;
  })

  pair_opens : (pair : Option ChallengePair) (account : Account) → found ≡ Some account → waiting ≡ pair → has_flag c.flags rc4_flag ≡ true → Comes (judge_pair pair account line c taken)
  pair_opens None account here there offers = cases.denied access_denied (λ zero. cc) (λ opens. let none : None ≡ Some opens.pair = sym there ∙ opens.is_pair in absurd cc)
  pair_opens (Some pair) account here there offers =
      client_opens (bytes_eq c.credential (cred_of (key_of_channel (channel_for account pair c)) pair.client)) account pair here there offers refl

  offer_opens : (offers : Bool) (account : Account) → found ≡ Some account → has_flag c.flags rc4_flag ≡ offers → Comes (judge_offer offers waiting account line c taken)
  offer_opens false account here is = cases.denied downgrade_detected (λ zero. cc) (λ opens. absurd (let never : false ≡ true = sym is ∙ opens.offers in cc))
  offer_opens true account here is = pair_opens waiting account here refl is

  opening_by : (account : Option Account) → found ≡ account → Comes (judge_account account waiting line c taken)
  opening_by None here = cases.denied no_trust_sam_account (λ zero. cc) (λ opens. let none : None ≡ Some opens.account = sym here ∙ opens.is_account in absurd cc)
  opening_by (Some account) here = offer_opens (has_flag c.flags rc4_flag) account here refl

  pub opening_comes : Comes (judge_account found waiting line c taken)
  opening_comes = opening_by found refl

-- ---- what is asked, where it passes

admitted_done : (verdict : Verdict) (table : AccountTable) (line : Line) (info : InteractiveInfo) (validation : ℕ) (computer key credential : List ℕ) (d : Desk) →
    IsDoneAs (asked.Interactive info validation) line key credential (admitted_so verdict table computer info d.work.computers.sessions) d
    (pass_admitted verdict table line info validation computer key credential d.work)
admitted_done (Granted granted) table line info validation computer key credential d =
    record { table = refl; sessions = refl; pending = refl; channels = refl; actions = two d.work.actions _ _ }
admitted_done (Status status) table line info validation computer key credential d =
    record { table = refl; sessions = refl; pending = refl; channels = refl; actions = two d.work.actions _ _ }

set_done : (place : Option ℕ) (account : List ℕ) (kind : ℕ) (hidden hash : List ℕ) (line : Line) (key credential : List ℕ) (d : Desk) →
    IsDoneAs (asked.Set account kind hidden) line key credential (set_so place hash d.table d.work.computers.sessions) d (set_at place hash line credential d)
set_done None account kind hidden hash line key credential d =
    record { table = refl; sessions = refl; pending = refl; channels = refl; actions = two d.work.actions _ _ }
set_done (Some place) account kind hidden hash line key credential d = record {
  table = refl;
  sessions = refl;
  pending = refl;
  channels = refl;
  actions = three d.work.actions _ _ _;
}

pub asked_done : (what : Asked) (name : List ℕ) (now : ℕ) (line : Line) (computer key credential : List ℕ) (d : Desk) →
    IsDoneAs what line key credential (done_asked what computer key name d.table now d.work.computers.sessions) d (pass_asked what name now line computer key credential d)
asked_done (asked.Network info validation) name now line computer key credential d =
    record { table = refl; sessions = refl; pending = refl; channels = refl; actions = two d.work.actions _ _ }
asked_done (asked.Interactive info validation) name now line computer key credential d =
    admitted_done (admitted (length d.work.computers.sessions == session_limit) (judge_interactive d.table name now info validation key).verdict)
    (judge_interactive d.table name now info validation key).table line info validation computer key credential d
asked_done (asked.Logoff info) name now line computer key credential d =
    record { table = refl; sessions = refl; pending = refl; channels = refl; actions = two d.work.actions _ _ }
asked_done asked.NetworkLogoff name now line computer key credential d =
    record { table = refl; sessions = refl; pending = refl; channels = refl; actions = two d.work.actions _ _ }
asked_done (asked.Set account kind hidden) name now line computer key credential d =
    set_done (machine_in d.table.accounts account kind computer) account kind hidden (show_of key hidden) line key credential d

text_if : (set : Bool) (table : AccountTable) → AllByRecursion IsKeep (kept_if set table)
text_if false table = tt
text_if true table = (tt, tt)

-- what is kept first is a text
pub texts_kept : (what : Asked) (done : Done) → AllByRecursion IsKeep (kept_asked what done)
texts_kept (asked.Network info validation) done = tt
texts_kept (asked.Interactive info validation) done = tt
texts_kept (asked.Logoff info) done = tt
texts_kept asked.NetworkLogoff done = tt
texts_kept (asked.Set account kind hidden) done = text_if (done.status == 0) done.table

-- what holds of each text that is kept holds of them all
pub texts_have : (Has : Action → Type 0) → ((text : List ℕ) → Has (action.Keep text)) → (kept : List Action) → AllByRecursion IsKeep kept → AllByRecursion Has kept
texts_have Has has [] are = tt
texts_have Has has (action.Keep text ∷ kept) are = (has text, texts_have Has has kept are.1)
texts_have Has has (action.Send at more ∷ kept) are = absurd are.0
texts_have Has has (action.Dial peer ∷ kept) are = absurd are.0
texts_have Has has (action.Close at cause ∷ kept) are = absurd are.0
texts_have Has has (action.Told at outcome ∷ kept) are = absurd are.0
texts_have Has has (action.Judged how ∷ kept) are = absurd are.0

-- a call that is refused: it is judged so, and an answer goes out on its line
pub record IsRefusedAs (how : Judged) (line : Line) (before after : Work) : Type 0 where
  pub computers : after.computers ≡ before.computers
  pub answer : List ℕ
  pub actions : after.actions ≡ before.actions ++ action.Judged how ∷ action.Send line.link answer ∷ []

pub asked_refused : (what : Asked) (how : Judged) (line : Line) (work : Work) → IsRefusedAs how line work (refuse_asked what how line work)
asked_refused (asked.Network info validation) how line work = record { computers = refl; answer = _; actions = two work.actions _ _ }
asked_refused (asked.Interactive info validation) how line work = record { computers = refl; answer = _; actions = two work.actions _ _ }
asked_refused (asked.Logoff info) how line work = record { computers = refl; answer = _; actions = two work.actions _ _ }
asked_refused asked.NetworkLogoff how line work = record { computers = refl; answer = _; actions = two work.actions _ _ }
asked_refused (asked.Set account kind hidden) how line work = record { computers = refl; answer = _; actions = two work.actions _ _ }

pub asked_denied : (what : Asked) (how : Judged) (line : Line) (work : Work) →
    (refuse_asked what how line work).actions
    ≡ work.actions
    ++ action.Judged how
    ∷ action.Send line.link (bytes_of_call (response_of line.call line.context (refused_stub what)) line.limit)
    ∷ []
asked_denied (asked.Network info validation) how line work = two work.actions _ _
asked_denied (asked.Interactive info validation) how line work = two work.actions _ _
asked_denied (asked.Logoff info) how line work = two work.actions _ _
asked_denied asked.NetworkLogoff how line work = two work.actions _ _
asked_denied (asked.Set account kind hidden) how line work = two work.actions _ _

-- ---- a call on a secure channel: it passes or is refused, whatever it asks

-- the call's computer has a channel, on which the call's authenticator isn't the next one
pub record IsBarred (c : JudgedCall) (computers : Computers) : Type 0 where
  pub computer : List ℕ
  pub given : Authenticator
  pub channel : SecureChannelState
  pub named : computer_named c ≡ Some computer
  pub there : given_in c ≡ Some given
  pub stands : lookup same_name computer computers.channels ≡ Some channel
  pub fails : passes_on channel given ≡ false

-- the call's computer has no channel
abbrev pub HasNoChannel : JudgedCall → Computers → Type 0
HasNoChannel c computers =
    (computer : List ℕ) (given : Authenticator) → computer_named c ≡ Some computer → given_in c ≡ Some given → lookup same_name computer computers.channels ≡ None

-- why it is refused, how that is told, and the channels then: the one that barred it is put back last
pub data WhyRefused (c : JudgedCall) (computers : Computers) (how : Judged) (channels : List (List ℕ × SecureChannelState)) : Type 0 where
  Bare : HasNoChannel c computers → how ≡ judged.NoChannel → channels ≡ computers.channels → WhyRefused c computers how channels
  Barred : (by : IsBarred c computers) → how ≡ judged.Barred →
      channels ≡ put same_name by.computer by.channel (take_out same_name by.computer computers.channels) → WhyRefused c computers how channels

pub record IsTurnedAway (c : JudgedCall) (line : Line) (how : Judged) (before after : Desk) : Type 0 where
  pub not_passed : is_passed how ≡ false
  pub not_next : IsNext before.work.computers (computer_named c) (given_in c) → ⊥
  pub is_how : how ≡ how_refused (computer_named c) (given_in c) before.work.computers
  pub why : WhyRefused c before.work.computers how after.work.computers.channels
  pub table : after.table ≡ before.table
  pub sessions : after.work.computers.sessions ≡ before.work.computers.sessions
  pub pending : after.work.computers.pending ≡ before.work.computers.pending
  pub actions : after.work.actions
      ≡ before.work.actions
      ++ action.Judged how
      ∷ action.Send line.link (bytes_of_call (response_of line.call line.context (refused_stub (asked_of c))) line.limit)
      ∷ []

abbrev pub IsPassed : (c : JudgedCall) (name : List ℕ) (now : ℕ) (line : Line) (before : Desk) → IsNext before.work.computers (computer_named c) (given_in c) → Desk → Type 0
IsPassed c name now line before next after =
    IsDoneAs (asked_of c) line (key_of_channel next.channel) (return_of (key_of_channel next.channel) next.channel.seed next.given.timestamp)
    (done_by c next.channel name before.table now before.work.computers.sessions) (move_on next.computer next.channel next.given before) after

pub data JudgedComes (c : JudgedCall) (name : List ℕ) (now : ℕ) (line : Line) (before after : Desk) : Type 0 where
  Passes : (next : IsNext before.work.computers (computer_named c) (given_in c)) → IsPassed c name now line before next after → JudgedComes c name now line before after
  Refused : (how : Judged) → IsTurnedAway c line how before after → JudgedComes c name now line before after

module _ (c : JudgedCall) (name : List ℕ) (now : ℕ) (line : Line) (d : Desk) where
  -- at work whose channels are those
  turned_away : (how : Judged) (channels : List (List ℕ × SecureChannelState)) → is_passed how ≡ false → (IsNext d.work.computers (computer_named c) (given_in c) → ⊥) →
      how ≡ how_refused (computer_named c) (given_in c) d.work.computers → WhyRefused c d.work.computers how channels →
      JudgedComes c name now line d (desk d.table (refuse_asked (asked_of c) how line (record d.work { computers = record d.work.computers { channels = channels } })))
  turned_away how channels not none is why =
      let between : Work = record d.work { computers = record d.work.computers { channels = channels } } in
      let so : IsRefusedAs how line between (refuse_asked (asked_of c) how line between) = asked_refused (asked_of c) how line between in
      Refused how (record {
        not_passed = not;
        not_next = none;
        is_how = is;
        why = subst (λ (computers : Computers). WhyRefused c d.work.computers how computers.channels) (sym so.computers) why;
        table = refl;
        sessions = ap (λ (computers : Computers). computers.sessions) so.computers;
        pending = ap (λ (computers : Computers). computers.pending) so.computers;
        actions = asked_denied (asked_of c) how line between;
      })

  by_pass : (passes : Bool) (computer : List ℕ) (given : Authenticator) (channel : SecureChannelState) → computer_named c ≡ Some computer → given_in c ≡ Some given →
      lookup same_name computer d.work.computers.channels ≡ Some channel → passes_on channel given ≡ passes →
      JudgedComes c name now line d
      (answer_return (return_by passes channel given) (answers_to (asked_of c) name now line).refused ((answers_to (asked_of c) name now line).passed computer channel)
      (move_on computer channel given d))
  by_pass true computer given channel named there stands is =
      let next : IsNext d.work.computers (computer_named c) (given_in c) =
      record { computer = computer; given = given; channel = channel; named = named; there = there; stands = stands; passes = (bytes_eq-Decides _ _).0 is } in
      let key : List ℕ = key_of_channel channel in
      let credential : List ℕ = return_of key channel.seed given.timestamp in
      Passes next
      (subst (λ (n : Option (List ℕ)). IsDoneAs (asked_of c) line key credential
      (done_asked (asked_of c) (computer_or_none n) key name d.table now d.work.computers.sessions) (move_on computer channel given d)
      (pass_asked (asked_of c) name now line computer key credential (move_on computer channel given d))) (sym named)
      (asked_done (asked_of c) name now line computer key credential (move_on computer channel given d)))
  by_pass false computer given channel named there stands is =
      let back : List (List ℕ × SecureChannelState) = put same_name computer (channel_by (passes_on channel given) channel given) (take_out same_name computer d.work.computers.channels) in
      turned_away judged.Barred back refl
      (λ next.
      let same_name : computer ≡ next.computer = let both : Some computer ≡ Some next.computer = sym named ∙ next.named in cc in
      let same_given : given ≡ next.given = let both : Some given ≡ Some next.given = sym there ∙ next.there in cc in
      not_both channel next.channel given next.given (one_channel computer next.computer channel next.channel d.work.computers (sym named ∙ next.named) stands next.stands) same_given is
      ((bytes_eq-Decides _ _).1 next.passes))
      (sym (rw (named, there, stands) refl))
      (Barred (record { computer = computer; given = given; channel = channel; named = named; there = there; stands = stands; fails = is }) refl
      (ap (λ (passes : Bool). put same_name computer (channel_by passes channel given) (take_out same_name computer d.work.computers.channels)) is))

  by_channel : (found : Option SecureChannelState) (computer : List ℕ) (given : Authenticator) → computer_named c ≡ Some computer → given_in c ≡ Some given →
      lookup same_name computer d.work.computers.channels ≡ found →
      JudgedComes c name now line d (answer_on found computer given (answers_to (asked_of c) name now line) (desk d.table (take_channel computer d.work)))
  by_channel None computer given named there stands =
      let none : HasNoChannel c d.work.computers = λ other more also too.
      let same : computer ≡ other = let both : Some computer ≡ Some other = sym named ∙ also in cc in
      subst (λ (n : List ℕ). lookup same_name n d.work.computers.channels ≡ None) same stands in
      turned_away judged.NoChannel (take_out same_name computer d.work.computers.channels) refl
      (λ next. absurd (let never : None ≡ Some next.channel = sym (none next.computer next.given next.named next.there) ∙ next.stands in cc))
      (sym (rw (named, there, stands) refl)) (Bare none refl (none_taken computer d.work.computers.channels stands))
  by_channel (Some channel) computer given named there stands = by_pass (passes_on channel given) computer given channel named there stands refl

  bare : (how_refused (computer_named c) (given_in c) d.work.computers ≡ judged.NoChannel) → HasNoChannel c d.work.computers →
      JudgedComes c name now line d (desk d.table (refuse_asked (asked_of c) judged.NoChannel line d.work))
  bare is none =
      turned_away judged.NoChannel d.work.computers.channels refl
      (λ next. absurd (let never : None ≡ Some next.channel = sym (none next.computer next.given next.named next.there) ∙ next.stands in cc)) (sym is) (Bare none refl refl)

  by_names : (computer : Option (List ℕ)) (given : Option Authenticator) → computer_named c ≡ computer → given_in c ≡ given →
      JudgedComes c name now line d (answer_named computer given (answers_to (asked_of c) name now line) d)
  by_names None given named there =
      bare (rw named refl) (λ computer shown also too. absurd (let never : None ≡ Some computer = sym named ∙ also in cc))
  by_names (Some computer) None named there =
      bare (rw (named, there) refl) (λ other shown also too. absurd (let never : None ≡ Some shown = sym there ∙ too in cc))
  by_names (Some computer) (Some given) named there = by_channel (lookup same_name computer d.work.computers.channels) computer given named there refl

  pub judged_comes : JudgedComes c name now line d (answer_judged c name now line d)
  judged_comes = by_names (computer_named c) (given_in c) refl refl

-- a call with the next authenticator passed by that one, however this is known
pub passed_so : (c : JudgedCall) (name : List ℕ) (now : ℕ) (line : Line) (d after : Desk) (next : IsNext d.work.computers (computer_named c) (given_in c)) →
    JudgedComes c name now line d after → IsPassed c name now line d next after
passed_so c name now line d after next (Refused how away) = absurd (away.not_next next)
passed_so c name now line d after next (Passes other is) =
    let as_on : List ℕ → SecureChannelState → Authenticator → Type 0 = λ computer channel given.
    IsDoneAs (asked_of c) line (key_of_channel channel) (return_of (key_of_channel channel) channel.seed given.timestamp)
    (done_by c channel name d.table now d.work.computers.sessions) (move_on computer channel given d) after in
    let same_channel : other.channel ≡ next.channel =
    one_channel other.computer next.computer other.channel next.channel d.work.computers (sym other.named ∙ next.named) other.stands next.stands in
    let same_computer : other.computer ≡ next.computer = let both : Some other.computer ≡ Some next.computer = sym other.named ∙ next.named in cc in
    let same_given : other.given ≡ next.given = one_given other.given next.given (sym other.there ∙ next.there) in
    subst (λ (computer : List ℕ). as_on computer next.channel next.given) same_computer
    (subst (λ (channel : SecureChannelState). as_on other.computer channel next.given) same_channel
    (subst (λ (given : Authenticator). as_on other.computer other.channel given) same_given is))

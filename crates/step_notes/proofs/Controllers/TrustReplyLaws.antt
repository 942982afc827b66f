-- What a controller that may hand logons on sends when bytes come on an accepted link is, in order, what its units come
-- to; a unit that is marked as a reply carries what its call came to. It serves `replies_of_trusting_are_sent`.
use Rattle.std.proofs.Common.{◌≡◌, ℕ, Bool, true, false, List, [], ◌∷◌, ◌++◌, drop, length, Option, Some, None, Ok, inl, inr, refl, sym, ap, ◌∙◌, subst}
use Rattle.std.proofs.lemmas.List.{append-nil}
use Rattle.std.proofs.lemmas.List.Concat.{flat_map-append}
use Rattle.wire_base.specs.Maps.{lookup}
use Rattle.wire_base.specs.Names.{same_name}
use Rattle.wire_base.specs.declared.authenticator.Authenticator.{Authenticator}
use Rattle.authenticators.specs.Channels.{ChannelIdentity}
use Rattle.authenticators.specs.SecureChannels.{SecureChannelState}
use Rattle.outside.specs.declared.action.Action.{Action}
use Rattle.outside.specs.declared.action.Action.TheVariants as action
use Rattle.outside.specs.declared.action.Judged.{Judged}
use Rattle.outside.specs.declared.action.Judged.TheVariants as judged
use Rattle.logon_stubs.specs.Status.{no_logon_servers}
use Rattle.account_table.specs.declared.account.Account.{Account}
use Rattle.rpc_units.specs.Calls.{bytes_of_call}
use Rattle.end_links.specs.Sending.{response_of}
use Rattle.controller_calls.specs.Calls.{computer_named, given_in}
use Rattle.controller_calls.specs.declared.calls.JudgedCall.{JudgedCall}
use Rattle.controller_calls.specs.declared.line.Line.{Line}
use Rattle.controller_calls.specs.declared.state.ChallengePair.{ChallengePair}
use Rattle.controller_calls.proofs.ReplyLaws.{Replies, challenge_replies}
use Rattle.domain_controller.specs.Forwarding.{TrustDesk, answer_trust_call, base_desk}
use Rattle.domain_controller.specs.Machine.{account_for, answer_authenticate, answer_challenge, answer_judged, take_pair}
use Rattle.domain_controller.specs.TrustActions.{dial_of}
use Rattle.domain_controller.proofs.HandOnLaws.{CallGoes, GoesOn, IsLeft, StaysHere, call_goes}
use Rattle.channel_events.specs.Marks.{Mark, Plain, Opening, Opened, Calling, ReplyTo}
use Rattle.step_notes.specs.ChannelNames.{sends_in, sent_by}
use Rattle.step_notes.specs.ControllerNotes.{Answered, Where, channel_in, checked_on, has_passed, judged_answer, judged_in, judging_of, opened_account, opened_by, opening, passing, plain, reply_mark, silent}
use Rattle.step_notes.specs.Judged.{IsNextOn, channel_if}
use Rattle.step_notes.specs.Records.{InUnit, Judging, Outside, Source, unit_in}
use Rattle.step_notes.specs.ReplySends.{AreSentBy, AreSentFor, CarriesReply, IsSentBy, standing_at}
use Rattle.step_notes.specs.TrustNotes.{trust_judged_answer, trust_judging_by}
use Rattle.step_notes.specs.TrustReplies.{CarriesTrustReply, IsUnaskedReply, TrustRepliesAreSent, stub_unasked}
use Rattle.step_notes.proofs.Controllers.JudgedStepLaws.{dropped, on_next}
use Rattle.step_notes.proofs.Controllers.ReplyStepLaws.{SendsOpening, call_sent, further, one_more, opening_sends, opening_sent}
use Rattle.step_notes.proofs.Controllers.TrustNoteLaws.{call_alike}
use Rattle.step_notes.proofs.Controllers.TrustNotedLaws.{TrustNotedFact, TrustStaysThrough, trust_step_says}

-- ---- what a controller that asks nobody sends for a unit is what one that may hand on sends

one_carries : (mark : Mark) (j : Option Judging) (bytes : List ℕ) → CarriesReply mark j bytes → CarriesTrustReply mark j bytes
one_carries Plain j bytes is = tt
one_carries (Opening channel number) j bytes is = absurd is
one_carries (Opened channel number request) j bytes is = is
one_carries (Calling channel number timestamp) j bytes is = absurd is
one_carries (ReplyTo channel number request) None bytes is = absurd is
one_carries (ReplyTo channel number request) (Some j) bytes is = inl is

sent_if : (sends : Bool) (one : Answered) (sent : List (List ℕ)) → IsSentBy CarriesReply sends one sent (λ (rest : List (List ℕ)). AreSentBy CarriesReply [] rest) →
    IsSentBy CarriesTrustReply sends one sent (λ (rest : List (List ℕ)). AreSentBy CarriesTrustReply [] rest)
sent_if false one [] is = tt
sent_if false one (bytes ∷ sent) is = absurd is
sent_if true one [] is = absurd is
sent_if true one (bytes ∷ []) is = (one_carries one.mark one.judging bytes is.0, tt)
sent_if true one (bytes ∷ other ∷ sent) is = absurd is.1

one_sent : (one : Answered) (sent : List (List ℕ)) → AreSentFor (one ∷ []) sent → AreSentBy CarriesTrustReply (one ∷ []) sent
one_sent one sent is = sent_if one.sends one sent is

-- ---- a logon for a trust

-- how a logon is told, first behind the earlier actions, is how it is written down
told_first : (old all : List Action) (how : Judged) (new : List Action) → all ≡ old ++ action.Judged how ∷ new → judged_in (drop (length old) all) ≡ Some how
told_first old all how new is = ap (λ (actions : List Action). judged_in (drop (length old) actions)) is ∙ ap judged_in (dropped old (action.Judged how ∷ new))

-- a logon that is handed on sends nothing
handed_sent : (how : Option Judged) (j : Judging) → how ≡ Some judged.Forwarded → AreSentBy CarriesTrustReply (trust_judging_by how j ∷ []) []
handed_sent how j is = subst (λ (one : Option Judged). AreSentBy CarriesTrustReply (trust_judging_by one j ∷ []) []) (sym is) tt

reply_carries : (source : Source) (channel : ChannelIdentity) (j : Judging) (bytes : List ℕ) → j.source ≡ source → channel_if true j ≡ Some channel → has_passed j.how ≡ true → IsUnaskedReply j bytes →
    CarriesTrustReply (reply_mark (unit_in source) channel j.number) (Some j) bytes
reply_carries Outside channel j bytes came is passed carries = tt
reply_carries (InUnit unit) channel j bytes came is passed carries =
    inr (record { came = came; passed = ap (λ (b : Bool). channel_if b j) passed ∙ is; call = refl; carries = carries })

passing_sent : (channel : Option ChannelIdentity) (j : Judging) (bytes : List ℕ) → channel_if true j ≡ channel → has_passed j.how ≡ true → IsUnaskedReply j bytes →
    AreSentBy CarriesTrustReply (passing channel j ∷ []) (bytes ∷ [])
passing_sent None j bytes is passed carries = (tt, tt)
passing_sent (Some channel) j bytes is passed carries = (reply_carries j.source channel j bytes refl is passed carries, tt)

-- a logon that could be asked of nobody is answered
unasked_sent : (how : Option Judged) (j : Judging) (bytes : List ℕ) → j.how ≡ how → how ≡ Some (judged.Passed no_logon_servers) → IsUnaskedReply j bytes →
    AreSentBy CarriesTrustReply (trust_judging_by how j ∷ []) (bytes ∷ [])
unasked_sent how j bytes its is carries =
    subst (λ (one : Option Judged). AreSentBy CarriesTrustReply (trust_judging_by one j ∷ []) (bytes ∷ [])) (sym is)
    (passing_sent (channel_in j.controller (computer_named j.asked) j.checks) j bytes refl (ap has_passed (its ∙ is)) carries)

-- all frames of the reply to a logon that could be asked of nobody
abbrev unasked_bytes : Line → SecureChannelState → Authenticator → ℕ → List ℕ
unasked_bytes line channel given validation = bytes_of_call (response_of line.call line.context (stub_unasked channel given validation)) line.limit

-- ---- the units of a stream

abbrev Sent : TrustNotedFact
Sent answers d left = AreSentBy CarriesTrustReply answers (sends_in d.work.work.actions)

module _ (w : Where) (link : ℕ) where
  abbrev its_judging : Line → JudgedCall → TrustDesk → TrustDesk → Judging
  its_judging line c d after = judging_of w line c (base_desk d) (Some (base_desk after))

  judged_sent : (answers : List Answered) (line : Line) (c : JudgedCall) (d after : TrustDesk) (left : List (List ℕ)) → Sent answers d left → CallGoes c w.name w.moment line d after →
      Sent (answers ++ trust_judged_answer (its_judging line c d after) ∷ []) after left
  judged_sent answers line c d after left each (GoesOn is so) =
      let old : List Action = d.work.work.actions in
      let j : Judging = its_judging line c d after in
      further CarriesTrustReply answers (trust_judged_answer j) old after.work.work.actions [] each
      (ap sends_in so.actions ∙ flat_map-append sent_by old (action.Judged judged.Forwarded ∷ []))
      (handed_sent j.how j (told_first old after.work.work.actions judged.Forwarded [] so.actions))
  judged_sent answers line c d after left each (IsLeft goes so) =
      let old : List Action = d.work.work.actions in
      let j : Judging = its_judging line c d after in
      let told : j.how ≡ Some (judged.Passed no_logon_servers) =
      told_first old after.work.work.actions (judged.Passed no_logon_servers) (action.Send line.link (unasked_bytes line goes.next.channel goes.next.given goes.validation) ∷ []) so.actions in
      let on : IsNextOn (checked_on (computer_named c) d.work.work.computers) (given_in c) = on_next (computer_named c) d.work.work.computers (given_in c) goes.next in
      let bytes : List ℕ = unasked_bytes line goes.next.channel goes.next.given goes.validation in
      further CarriesTrustReply answers (trust_judged_answer j) old after.work.work.actions (bytes ∷ []) each
      (ap sends_in so.actions ∙ flat_map-append sent_by old (action.Judged (judged.Passed no_logon_servers) ∷ action.Send line.link bytes ∷ []))
      (unasked_sent j.how j bytes refl told (record {
        next = on;
        how = told;
        info = goes.info;
        validation = goes.validation;
        asks = goes.asks;
        kind = goes.hands;
        level = goes.level;
        trust = goes.trust;
        routed = goes.routed;
        context = line.context;
        limit = line.limit;
        frames = refl;
      }))
  judged_sent answers line c d after left each (StaysHere not is) =
      subst (λ (other : TrustDesk). Sent (answers ++ trust_judged_answer (its_judging line c d other) ∷ []) other left) (sym is)
      (let its = call_sent w line c (base_desk d) in
      let j : Judging = judging_of w line c (base_desk d) (Some (answer_judged c w.name w.moment line (base_desk d))) in
      subst (λ (one : Answered). AreSentBy CarriesTrustReply (answers ++ one ∷ []) (sends_in (answer_judged c w.name w.moment line (base_desk d)).work.actions))
      (sym (call_alike w c w.name w.moment line (base_desk d)))
      (further CarriesTrustReply answers (judged_answer j) d.work.work.actions (answer_judged c w.name w.moment line (base_desk d)).work.actions its.sent each its.is
      (one_sent (judged_answer j) its.sent its.each)))

  sent_stay : TrustStaysThrough w link w.name w.moment Sent
  sent_stay = record {
    closes = λ answers d left cause each.
        subst (λ (sent : List (List ℕ)). AreSentBy CarriesTrustReply answers sent)
        (sym (flat_map-append sent_by d.work.work.actions (action.Close link cause ∷ []) ∙ append-nil (sends_in d.work.work.actions))) each;
    waits = λ answers d left each.
        further CarriesTrustReply answers silent d.work.work.actions d.work.work.actions [] each (sym (append-nil (sends_in d.work.work.actions))) tt;
    sends = λ answers d left bytes each.
        further CarriesTrustReply answers plain d.work.work.actions (d.work.work.actions ++ action.Send link bytes ∷ []) (bytes ∷ []) each (one_more d.work.work.actions link bytes) (tt, tt);
    challenge = λ answers d left line c server on each.
        let its : Replies line d.work.work (answer_challenge d.table line c server d.work.work) = challenge_replies d.table line c server d.work.work in
        further CarriesTrustReply answers plain d.work.work.actions (answer_challenge d.table line c server d.work.work).actions (its.bytes ∷ []) each
        (ap sends_in its.actions ∙ one_more d.work.work.actions line.link its.bytes) (tt, tt);
    authenticate = λ answers d left line c on each.
        let found : Option Account = account_for d.table c in
        let waiting : Option ChallengePair = lookup same_name c.computer d.work.work.computers.pending in
        let its : SendsOpening (opened_account found waiting c) line (take_pair c.computer d.work.work) (answer_authenticate d.table line c d.work.work) =
        opening_sends found waiting line c (take_pair c.computer d.work.work) in
        let one : Answered = opening (opened_by w.controller c (base_desk d)) w line.call c.channel in
        further CarriesTrustReply answers one d.work.work.actions (answer_authenticate d.table line c d.work.work).actions (its.bytes ∷ []) each
        (ap sends_in its.actions ∙ one_more d.work.work.actions line.link its.bytes)
        (one_sent one (its.bytes ∷ []) (opening_sent (opened_account found waiting c) w c.computer line.call c.channel its.bytes its.opens));
    judged = λ answers d left line c on each.
        judged_sent answers line c d (answer_trust_call c w.name w.moment line d) left each (call_goes c w.name w.moment line d);
  }

-- ---- a step

dial_sends : (dial : Option (List ℕ)) → sends_in (dial_of dial) ≡ []
dial_sends None = refl
dial_sends (Some peer) = refl

pub trust_replies_sent : TrustRepliesAreSent
trust_replies_sent c at controller source link piece now left all off answered =
    let w : Where = standing_at at controller source c now in
    trust_step_says w link c piece now left (λ running. Sent)
    (λ answers stepped. (actions : List Action) → stepped.answer ≡ Ok actions → AreSentBy CarriesTrustReply answers (sends_in actions))
    (record {
      stays = λ running. sent_stay w link;
      first = λ running runs. tt;
      stopped = λ ends actions is. absurd cc;
      spent = λ actions is. absurd cc;
      turn = λ running actions last links t runs on all fewer other is. absurd (let never : false ≡ true = sym off ∙ on in cc);
      taken = λ running answers d rest last links dial t runs each fewer actions is.
          let same : d.work.work.actions ++ dial_of dial ≡ actions = cc in
          let sends : sends_in actions ≡ sends_in d.work.work.actions =
          ap sends_in (sym same)
          ∙ flat_map-append sent_by d.work.work.actions (dial_of dial)
          ∙ ap (λ (more : List (List ℕ)). sends_in d.work.work.actions ++ more) (dial_sends dial)
          ∙ append-nil (sends_in d.work.work.actions) in
          subst (λ (sent : List (List ℕ)). AreSentBy CarriesTrustReply answers sent) (sym sends) each;
    }) all answered

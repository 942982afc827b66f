-- Who is let in has the names of the accounts that granted it, where no credential clashed.
-- It serves `runs_are_heard`.
use Rattle.std.proofs.Common.{◌≡◌, ℕ, true, false, List, Some, slice_get, refl, sym, ap, ◌∙◌, subst}
use Rattle.std.specs.List.{AllByRecursion}
use Rattle.authenticators.specs.Channels.{channel_key}
use Rattle.outside.specs.declared.action.Judged.TheVariants as judged
use Rattle.outside.specs.declared.action.Outcome.{Outcome}
use Rattle.logon_stubs.specs.declared.info.NetworkInfo.{NetworkInfo}
use Rattle.logon_stubs.specs.declared.info.SamInfo.{SamInfo}
use Rattle.logon_stubs.specs.declared.info.Verdict.{Verdict}
use Rattle.logon_stubs.specs.declared.info.Verdict.TheVariants.{Granted, Status}
use Rattle.account_table.specs.LookUps.{account_in}
use Rattle.sam_logon.specs.Granting.{sam_info_of}
use Rattle.domain_controller.specs.Machine.{status_of}
use Rattle.domain_controller.proofs.TrustPlaceLaws.{got_all}
use Rattle.member_server.specs.Outcomes.{outcome_of}
use Rattle.member_server.specs.Turns.{ending_of}
use Rattle.member_server.specs.declared.state.Logon.{Logon}
use Rattle.wire_base.specs.Lists.{OneOf}
use Rattle.step_notes.specs.ControllerNotes.{has_passed}
use Rattle.logon_stubs.specs.declared.calls.LogonCall.{LogonCall}
use Rattle.step_notes.specs.Records.{InUnit, Judging, MessageTaken, OutcomeTold}
use Rattle.step_notes.specs.ReplySends.{IsReplyOfCall, verdict_passed}
use Rattle.world_moves.specs.Counting.{is_in}
use Rattle.domain_world.specs.Accepting.Answered.{AnswersAreHeard, AsksForIt, IsAnsweredIn, IsLetInAsRead, AnswersAreJudged, outcome_read, verdict_read}
use Rattle.domain_world.specs.Claims.Names.{HasNames, IsLetInByName, IsNamedBy, LetsInByName}
use Rattle.domain_world.specs.Claims.Replies.{IsReplyOfOne}
use Rattle.domain_world.specs.Past.{Past, plain_form}
use Rattle.step_notes.proofs.Controllers.GrantVerdictLaws.{IsServedGrant, served_grant}
use Rattle.step_notes.proofs.Controllers.JudgedCallLaws.{of_network, status_done}
use Rattle.domain_world.proofs.Acceptance.AnsweredLaws.{are_answers, passed_of, status_zero}
use Rattle.wire_base.proofs.ListPlaceLaws.{Placed, all_by_place, one_at, placed}
use Rattle.domain_world.proofs.Moves.MarkPlaceLaws.{got_beside}

-- the names of what was granted are told, whatever its key
named_by : (key : List ℕ) (verdict : Verdict) (logon : Logon) (info : SamInfo) → verdict ≡ Granted info →
    HasNames (outcome_of (ending_of (verdict_read key verdict)) logon) info.domain info.effective_name
named_by key (Granted granted) logon info is =
    let one : granted ≡ info = (let x = is in cc) in (ap (λ (i : SamInfo). i.domain) one, ap (λ (i : SamInfo). i.effective_name) one)
named_by key (Status status) logon info is = absurd (let x = is in cc)

module _ (past : Past) (known : AnswersAreJudged past) (heard : AnswersAreHeard past) (calm : past.book.clash ≡ false) where
  abbrev its_names : OutcomeTold → MessageTaken → Type 0
  its_names told message = IsLetInByName past.book.judged told message

  -- of the answer that was taken for the message
  named_so : (told : OutcomeTold) (place : ℕ) (message : MessageTaken) → slice_get past.book.messages place ≡ Some message → is_in told.outcome ≡ true → IsLetInAsRead past told message →
      its_names told message
  unfolding sam_info_of
  named_so told place message there is by =
      let answered : IsAnsweredIn past message by.unit =
      got_all (λ (m : MessageTaken). (u : ℕ) → m.reply ≡ Some u → IsAnsweredIn past m u) past.book.messages place message (heard.answers calm) there by.unit by.reply in
      let carrier = got_beside past.book.sent past.world.state.bag by.unit answered.sent known.marked answered.there in
      let one : OneOf (λ (j : Judging). (j.reply ≡ Some by.unit) × IsReplyOfCall answered.channel answered.number answered.request j (plain_form past.book.sent by.unit carrier.0)) past.book.judged =
      subst (λ (m : _). IsReplyOfOne past.book.judged by.unit (plain_form past.book.sent by.unit carrier.0) m) answered.mark (known.replies by.unit carrier.0 answered.sent carrier.1 answered.there) in
      let at = placed (λ (j : Judging). (j.reply ≡ Some by.unit) × IsReplyOfCall answered.channel answered.number answered.request j (plain_form past.book.sent by.unit carrier.0)) past.book.judged one in
      let j : Judging = at.item in
      let of : IsReplyOfCall answered.channel answered.number answered.request j (plain_form past.book.sent by.unit carrier.0) = at.is.1 in
      let passed : has_passed j.how ≡ true = passed_of (has_passed j.how) j answered.channel refl of.passed in
      let asks : AsksForIt message j =
      got_all (λ (i : Judging). (u : ℕ) → message.call ≡ Some u → i.source ≡ InUnit u → AsksForIt message i) past.book.judged at.place j
      (got_all (λ (m : MessageTaken). AllByRecursion (λ (i : Judging). (u : ℕ) → m.call ≡ Some u → i.source ≡ InUnit u → AsksForIt m i) past.book.judged) past.book.messages place message heard.asks there)
      at.there answered.request answered.call of.came in
      let c : LogonCall = asks.call in
      let outcome : told.outcome ≡ outcome_read answered.channel j message c =
      of_network (λ (call : LogonCall). told.outcome ≡ outcome_read answered.channel j message call) j.asked c asks.is
      (by.outcome carrier.0 answered.sent answered.channel answered.number answered.request at.place j carrier.1 answered.there at.there answered.mark of) in
      let nothing : status_of (verdict_passed j c) ≡ 0 = status_zero (channel_key answered.channel) (verdict_passed j c) message.logon (ap is_in (sym outcome) ∙ is) in
      let grant : IsServedGrant j.table j.name j.moment c.info c.validation (verdict_passed j c) = served_grant j.table j.name j.moment c.info c.validation nothing in
      record {
        link = by.link;
        member = by.member;
        named = one_at (IsNamedBy told message) past.book.judged at.place j at.there (record {
          answer = are_answers message j answered.request by.unit passed answered.call of.came by.reply at.is.0;
          granted = of.carries.how ∙ ap (λ (status : ℕ). Some (judged.Passed status)) (status_done j c of.carries.next.channel asks.is ∙ nothing);
          account = grant.grant.account;
          found = ap (λ (info : NetworkInfo). account_in j.table.accounts info.user) (sym asks.info) ∙ grant.grant.stored;
          names = subst (λ (how : Outcome). HasNames how j.table.domain grant.grant.account.name) (sym outcome)
              (named_by (channel_key answered.channel) (verdict_passed j c) message.logon _ grant.grant.is);
        });
      }

  pub lets_in_by_name : LetsInByName past
  lets_in_by_name =
      all_by_place (λ (told : OutcomeTold). is_in told.outcome ≡ true → OneOf (its_names told) past.book.messages) past.book.told
      (λ k told here is.
      let one : Placed (IsLetInAsRead past told) past.book.messages =
      placed (IsLetInAsRead past told) past.book.messages
      (got_all (λ (t : OutcomeTold). is_in t.outcome ≡ true → OneOf (IsLetInAsRead past t) past.book.messages) past.book.told k told (heard.let_in calm) here is) in
      one_at (its_names told) past.book.messages one.place one.item one.there (named_so told one.place one.item one.there is one.is))

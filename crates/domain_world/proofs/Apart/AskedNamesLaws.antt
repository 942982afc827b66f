-- What the call in a unit of a member names, as the units and marks of the last state tell: its computer, as of a
-- workstation. It serves `Proved.never_apart`.
use Rattle.std.proofs.Common.{◌≡◌, ℕ, List, Option, Some, slice_get, sym, ap, subst, ◌∙◌}
use Rattle.authenticators.specs.Channels.{ChannelIdentity}
use Rattle.rpc_units.specs.declared.unit.Unit.{Unit as RpcUnit}
use Rattle.logon_stubs.specs.declared.calls.AuthCall.{AuthCall}
use Rattle.end_links.specs.Sending.{request_of}
use Rattle.controller_calls.specs.declared.calls.ControllerCall.{ControllerCall}
use Rattle.controller_calls.specs.declared.calls.ControllerCall.TheVariants as call
use Rattle.controller_calls.specs.declared.calls.JudgedCall.{JudgedCall}
use Rattle.channel_events.specs.Marks.{Calling, Mark, Opening}
use Rattle.wire_base.proofs.ListLaws.{some_is}
use Rattle.step_notes.specs.Records.{Book, Sent}
use Rattle.world_moves.specs.declared.bag.BagUnit.{BagUnit}
use Rattle.domain_world.specs.Accepting.Carried.{IsWholeUnit, call_carried, call_judged}
use Rattle.domain_world.proofs.Acceptance.CarriedLaws.{one_whole}
use Rattle.domain_world.proofs.Acceptance.Heard.MarkSentLaws.{AreItsNames, HasItsNames, IsCallSent, IsOpeningSent}
use Rattle.domain_world.proofs.Acceptance.Heard.MarkWholeLaws.{MarksFit, OfMark}
use Rattle.domain_world.proofs.Apart.TogetherAsksLaws.{sent_asks}
use Rattle.domain_world.proofs.Frames.BagFrameLaws.{IsOfUnit}
use Rattle.domain_world.proofs.Moves.MarkPlaceLaws.{got_map}
use Rattle.domain_world.proofs.Calls.CallHoldsLaws.{marks_in}

module _ (bag : List BagUnit) (last : Book) (fits : MarksFit bag last) where
  -- what is known of a unit with that mark
  of_mark : (n : ℕ) (mark : Mark) → slice_get (marks_in last.sent) n ≡ Some mark → IsOfUnit OfMark tt bag n mark
  of_mark n mark marked =
      let sent = got_map (λ (one : Sent). one.mark) last.sent n mark marked in
      subst (λ (m : Mark). IsOfUnit OfMark tt bag n m) sent.2 (fits n sent.0 sent.1)

  -- a call of a turn
  pub asked_names : (n : ℕ) (d : ChannelIdentity) (number timestamp : ℕ) → slice_get (marks_in last.sent) n ≡ Some (Calling d number timestamp) → (unit : BagUnit) → slice_get bag n ≡ Some unit →
      (whole : IsWholeUnit unit.bytes) (asked : JudgedCall) → call_carried whole.unit.body ≡ Some (call_judged asked) → HasItsNames d asked
  asked_names n d number timestamp marked unit there whole asked carried =
      let of : IsOfUnit OfMark tt bag n (Calling d number timestamp) = of_mark n (Calling d number timestamp) marked in
      let same : of.unit ≡ unit = some_is of.unit unit (sym of.there ∙ there) in
      let sent : IsCallSent d number timestamp unit.bytes = subst (λ (u : BagUnit). IsCallSent d number timestamp u.bytes) same (of.holds (λ plain. plain)).1 in
      subst (HasItsNames d) (sent_asks d number timestamp unit.bytes sent whole asked carried) sent.names

  opening_is : (found : Option ControllerCall) (one other : AuthCall) → found ≡ Some (call.Authenticate one) → found ≡ Some (call.Authenticate other) → one ≡ other
  opening_is found one other is also = let both : Some (call.Authenticate one) ≡ Some (call.Authenticate other) = sym is ∙ also in cc

  -- an opening
  pub opening_names : (n : ℕ) (d : ChannelIdentity) (number : ℕ) → slice_get (marks_in last.sent) n ≡ Some (Opening d number) → (unit : BagUnit) → slice_get bag n ≡ Some unit →
      (whole : IsWholeUnit unit.bytes) (asked : AuthCall) → call_carried whole.unit.body ≡ Some (call.Authenticate asked) → AreItsNames d asked.account asked.computer asked.channel
  opening_names n d number marked unit there whole asked carried =
      let of : IsOfUnit OfMark tt bag n (Opening d number) = of_mark n (Opening d number) marked in
      let same : of.unit ≡ unit = some_is of.unit unit (sym of.there ∙ there) in
      let sent : IsOpeningSent d number unit.bytes = subst (λ (u : BagUnit). IsOpeningSent d number u.bytes) same (of.holds (λ plain. plain)).1 in
      let request : RpcUnit = request_of number 0 15 sent.sent.stub in
      let one : request ≡ whole.unit = one_whole unit.bytes sent.frames whole.frames request whole.unit sent.heard whole.heard in
      let its : sent.asked ≡ asked =
      opening_is (call_carried whole.unit.body) sent.asked asked (sym (ap (λ (u : RpcUnit). call_carried u.body) one) ∙ sent.read) carried in
      subst (λ (c : AuthCall). AreItsNames d c.account c.computer c.channel) its sent.names

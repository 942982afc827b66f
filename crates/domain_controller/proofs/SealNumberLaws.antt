-- What comes of a channel's end that has used up its numbers. It serves `used_up_numbers_close_links`.
use Rattle.std.proofs.Common.{◌≡◌, ◌==◌, ◌||◌, ◌+◌, ◌<◌, ◌≤◌, ℕ, suc, Bool, true, false, not, List, [], ◌∷◌, length, Option, Some, None, is_none, refl, sym, ap, ◌∙◌, arith}
use Rattle.std.proofs.lemmas.Bool.{false≢true}
use Rattle.std.proofs.lemmas.Bool.Decides.{nat_tests}
use Rattle.std.proofs.lemmas.Option.{none-some}
use Rattle.logon_stubs.specs.Writing.{written_reply}
use Rattle.netlogon_seal.specs.Channels.{NlState, expect_by, last_number, seal_by, verdict_by}
use Rattle.channel_sealing.proofs.LastLaws.{ends_stand_at_the_last}
use Rattle.channel_sealing.specs.Frames.{SealedFrames, behind, end_after, frame_with, range_of, seal_all, seal_in, then_end, then_frames}
use Rattle.channel_sealing.specs.Parts.{is_own_trailer}
use Rattle.end_links.specs.Sending.{joined_frames, response_of}
use Rattle.controller_calls.specs.Handing.{forwarded_reply}
use Rattle.controller_calls.specs.Seals.{open_found, opened_bytes, reply_bytes, reply_frames, seal_found, seal_reply, stands}
use Rattle.controller_calls.specs.declared.line.Line.{Line}
use Rattle.controller_calls.specs.declared.seals.ChannelSeals.{ChannelSeals}
use Rattle.controller_calls.specs.declared.seals.KeptSeal.{KeptSeal}
use Rattle.controller_calls.specs.declared.seals.LinkSeal.{LinkSeal}
use Rattle.controller_calls.specs.declared.seals.ReplySeal.{ReplySeal}
use Rattle.domain_controller.specs.SealHearing.{opens_channel}
use Rattle.domain_controller.specs.SealLaws.{is_refused, signed_range}
use Rattle.domain_controller.specs.SealNumbers.{AreLeft, AreUsedUp, HasWidths, IsEndOf, SpentClosesLinks}
use Rattle.domain_controller.specs.SealServing.{answered_by, send_sealed}
use Rattle.domain_controller.specs.Sealing.{with_seals}
use Rattle.domain_controller.proofs.SealRuleLaws.{by_rules}

-- ---- a request

last_is : (number : ℕ) → number ≡ last_number → (number == last_number) ≡ true
last_is number is = grind (arith, nat_tests)

spent_by : (is_spent names has_next same : Bool) (wanted : ℕ) (unit : List ℕ) → is_spent ≡ true →
    opened_bytes (verdict_by (expect_by is_spent names has_next wanted) same) unit ≡ None
spent_by true names has_next same wanted unit is = refl
spent_by false names has_next same wanted unit is = absurd (false≢true is)

spent_bytes : (kept : KeptSeal) (bytes : List ℕ) (from to : ℕ) (link : LinkSeal) (seals : ChannelSeals) → kept.seal.received ≡ last_number →
    (open_found (Some kept) link bytes from to seals).bytes ≡ None
spent_bytes kept bytes from to link seals is =
    spent_by (kept.seal.received == last_number) _ _ _ kept.seal.received _ (last_is kept.seal.received is)

spent_range : (range : Option (ℕ × ℕ)) (bytes : List ℕ) (link : LinkSeal) (seals : ChannelSeals) (kept : KeptSeal) → IsEndOf link.computer kept seals → kept.seal.received ≡ last_number →
    is_refused range bytes link seals ≡ true
spent_range None bytes link seals kept found is = refl
spent_range (Some range) bytes link seals kept found is =
    ap (λ (k : Option KeptSeal). is_none (open_found k link bytes range.0 range.1 seals).bytes) found
    ∙ ap is_none (spent_bytes kept bytes range.0 range.1 link seals is)

then_true : (has opens last : Bool) → last ≡ true → (not has || (opens || last)) ≡ true
then_true true true last is = refl
then_true true false last is = is
then_true false opens last is = refl

-- ---- frames

abbrev Never : (confounder : List ℕ) (frames : List (List ℕ)) → Type 0
Never confounder frames = (seal : NlState) → seal.sent ≤ last_number → last_number < seal.sent + length frames → seal_all seal confounder frames ≡ None

none_stays : (frame : List ℕ) (later : Option SealedFrames) → later ≡ None → behind frame later ≡ None
none_stays frame None is = refl
none_stays frame (Some later) is = absurd (none-some _ (sym is))

never_by : (is_spent : Bool) (seal : NlState) (frame : List ℕ) (from to : ℕ) (confounder : List ℕ) (frames : List (List ℕ)) → (seal.sent == last_number) ≡ is_spent →
    seal.sent ≤ last_number → last_number < seal.sent + suc (length frames) → Never confounder frames →
    then_frames (frame_with (seal_by is_spent seal frame from to confounder)) (λ next. seal_all next confounder frames) ≡ None
never_by true seal frame from to confounder frames is below many never = refl
never_by false seal frame from to confounder frames is below many never =
    let next : NlState = record seal { sent = seal.sent + 1 } in
    let left : seal.sent + 1 ≤ last_number = grind (arith, nat_tests) in
    none_stays _ _ (never next left (omega (arith, many)))

never_in : (range : Option (ℕ × ℕ)) (seal : NlState) (frame confounder : List ℕ) (frames : List (List ℕ)) →
    seal.sent ≤ last_number → last_number < seal.sent + suc (length frames) → Never confounder frames →
    then_frames (seal_in range seal confounder frame) (λ next. seal_all next confounder frames) ≡ None
never_in None seal frame confounder frames below many never = refl
never_in (Some range) seal frame confounder frames below many never =
    never_by (seal.sent == last_number) seal frame range.0 range.1 confounder frames refl below many never

never : (confounder : List ℕ) (frames : List (List ℕ)) → Never confounder frames
unfolding seal_all
never confounder [] seal below many = absurd (omega (arith, below, many))
never confounder (frame ∷ frames) seal below many = never_in (range_of frame) seal frame confounder frames below many (never confounder frames)

-- an end that refuses one of the frames has sealed fewer than all
abbrev Fewer : (confounder : List ℕ) (frames : List (List ℕ)) → Type 0
Fewer confounder frames = (seal : NlState) → seal_all seal confounder frames ≡ None → (end_after seal confounder frames).sent < seal.sent + length frames

none_behind : (frame : List ℕ) (later : Option SealedFrames) → behind frame later ≡ None → later ≡ None
none_behind frame None is = refl
none_behind frame (Some later) is = absurd (none-some _ (sym is))

fewer_by : (is_spent : Bool) (seal : NlState) (frame : List ℕ) (from to : ℕ) (confounder : List ℕ) (frames : List (List ℕ)) → Fewer confounder frames →
    then_frames (frame_with (seal_by is_spent seal frame from to confounder)) (λ next. seal_all next confounder frames) ≡ None →
    (then_end (frame_with (seal_by is_spent seal frame from to confounder)) seal (λ next. end_after next confounder frames)).sent < seal.sent + suc (length frames)
fewer_by true seal frame from to confounder frames fewer none = omega arith
fewer_by false seal frame from to confounder frames fewer none = omega (arith, fewer (record seal { sent = seal.sent + 1 }) (none_behind _ _ none))

fewer_in : (range : Option (ℕ × ℕ)) (seal : NlState) (frame confounder : List ℕ) (frames : List (List ℕ)) → Fewer confounder frames →
    then_frames (seal_in range seal confounder frame) (λ next. seal_all next confounder frames) ≡ None →
    (then_end (seal_in range seal confounder frame) seal (λ next. end_after next confounder frames)).sent < seal.sent + suc (length frames)
fewer_in None seal frame confounder frames fewer none = omega arith
fewer_in (Some range) seal frame confounder frames fewer none = fewer_by (seal.sent == last_number) seal frame range.0 range.1 confounder frames fewer none

fewer : (confounder : List ℕ) (frames : List (List ℕ)) → Fewer confounder frames
unfolding seal_all end_after
fewer confounder [] seal none = absurd (none-some _ (sym none))
fewer confounder (frame ∷ frames) seal none = fewer_in (range_of frame) seal frame confounder frames (fewer confounder frames) none

-- ---- replies

used_up : (kept : KeptSeal) (reply : ReplySeal) (line : Line) (stub : List ℕ) (seals : ChannelSeals) → IsEndOf reply.link.computer kept seals → kept.seal.sent ≤ last_number →
    AreUsedUp kept reply line stub → (seal_reply reply line stub seals).bytes ≡ None
used_up kept reply line stub seals found below many =
    ap (λ (k : Option KeptSeal). (seal_found k reply line stub seals).bytes) found
    ∙ ap reply_bytes (never reply.confounder (reply_frames reply.link line stub) kept.seal below many)

-- some of all frames, or none
left_by : (sealed : Option SealedFrames) (kept : KeptSeal) (reply : ReplySeal) (line : Line) (stub : List ℕ) → HasWidths reply line stub → AreLeft kept reply line stub →
    seal_all kept.seal reply.confounder (reply_frames reply.link line stub) ≡ sealed → (bytes : List ℕ) × (reply_bytes sealed ≡ Some bytes)
left_by (Some sealed) kept reply line stub has left is = (joined_frames sealed.frames, refl)
left_by None kept reply line stub has left none =
    let frames : List (List ℕ) = reply_frames reply.link line stub in
    let stands : end_after kept.seal reply.confounder frames ≡ record kept.seal { sent = last_number } =
    ends_stand_at_the_last.last kept.seal reply.confounder reply.link.context reply.link.receive (response_of line.call line.context stub)
    (record { stub = tt; first = refl; last = refl }) has.response has.context none in
    let at : (end_after kept.seal reply.confounder frames).sent ≡ last_number = ap (λ (s : NlState). s.sent) stands in
    absurd (omega (arith, fewer reply.confounder frames kept.seal none, at, left))

are_left : (kept : KeptSeal) (reply : ReplySeal) (line : Line) (stub : List ℕ) (seals : ChannelSeals) → IsEndOf reply.link.computer kept seals → HasWidths reply line stub →
    AreLeft kept reply line stub → (bytes : List ℕ) × ((seal_reply reply line stub seals).bytes ≡ Some bytes)
are_left kept reply line stub seals found has left =
    let one = left_by (seal_all kept.seal reply.confounder (reply_frames reply.link line stub)) kept reply line stub has left refl in
    (one.0, ap (λ (k : Option KeptSeal). (seal_found k reply line stub seals).bytes) found ∙ one.1)

pub spent_closes_links : SpentClosesLinks
spent_closes_links = record {
  request = λ number bytes unit hint context opnum stub talk link seals kept reads is found spent.
      by_rules.closes number bytes unit hint context opnum stub talk link seals reads is
      (then_true (stands link seals) (opens_channel opnum) _
      (spent_range (signed_range (is_own_trailer unit.trailer) (range_of bytes)) bytes link seals kept found spent));
  reply = λ reply line stub w s talk kept found below many.
      let sealed = seal_reply reply line stub s.seals in
      let none : sealed.bytes ≡ None = used_up kept reply line stub s.seals found below many in (
        ap (λ (bytes : Option (List ℕ)). (send_sealed bytes line w (with_seals sealed.seals s) talk).0.0) none,
        ap (λ (bytes : Option (List ℕ)). (send_sealed bytes line w (with_seals sealed.seals s) talk).1) none,
      );
  goes = λ reply line stub w s talk kept found has left.
      let sealed = seal_reply reply line stub s.seals in
      let some = are_left kept reply line stub s.seals found has left in (
        some.0,
        ap (λ (bytes : Option (List ℕ)). (send_sealed bytes line w (with_seals sealed.seals s) talk).0.0) some.1,
        ap (λ (bytes : Option (List ℕ)). (send_sealed bytes line w (with_seals sealed.seals s) talk).1) some.1,
      );
  answer = λ c line verdict w s kept found below many.
      let sealed = seal_reply c.reply line (written_reply (forwarded_reply c.call verdict)) s.seals in
      let none : sealed.bytes ≡ None = used_up kept c.reply line (written_reply (forwarded_reply c.call verdict)) s.seals found below many in (
        ap (λ (bytes : Option (List ℕ)). (answered_by bytes line w (with_seals sealed.seals s)).0.0) none,
        ap (λ (bytes : Option (List ℕ)). (answered_by bytes line w (with_seals sealed.seals s)).1) none,
      );
}

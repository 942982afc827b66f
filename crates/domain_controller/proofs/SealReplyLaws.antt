-- What goes out for logons from sealed links that were asked of other controllers, and under which numbers. It serves
-- `sealed_logons_are_answered_where_they_stand` and `replies_are_sealed_by_the_number_sent`.
use Rattle.std.proofs.Common.{◌≡◌, ◌==◌, ◌+◌, ℕ, zero, suc, Bool, true, false, List, [], ◌∷◌, ◌++◌, Option, Some, None, Result, Ok, Err, refl, sym, ap, ◌∙◌, slice_get, arith}
use Rattle.std.proofs.lemmas.Bool.Decides.{nat_tests}
use Rattle.wire_base.specs.Maps.{lookup}
use Rattle.outside.specs.declared.action.Action.TheVariants as action
use Rattle.outside.specs.declared.action.Judged.TheVariants as judged
use Rattle.logon_stubs.specs.Writing.{written_reply}
use Rattle.logon_stubs.specs.declared.info.Verdict.{Verdict}
use Rattle.netlogon_seal.specs.Channels.{NlState, Sealing as Sealed, last_number, seal_by, seal_of}
use Rattle.channel_client.specs.State.{Requester}
use Rattle.channel_sealing.specs.Frames.{SealedFrame, SealedFrames, behind, frame_with, range_of, seal_all, seal_frame, seal_in, then_frames}
use Rattle.end_links.specs.Sending.{joined_frames}
use Rattle.channel_turns.specs.Turning.{Turned}
use Rattle.channel_turns.specs.declared.state.Turning.{Turning}
use Rattle.controller_calls.specs.Forwarded.{ForwardedState, line_unless, line_without}
use Rattle.controller_calls.specs.Desk.{tell}
use Rattle.controller_calls.specs.Handing.{forwarded_reply, reply_if}
use Rattle.controller_calls.specs.Logons.{status_of}
use Rattle.controller_calls.specs.Seals.{reply_bytes, reply_frames, seal_reply, stands}
use Rattle.controller_calls.specs.declared.line.Line.{Line}
use Rattle.domain_controller.specs.Forwarding.{answer_found, answer_place}
use Rattle.domain_controller.specs.SealReplies.{EndsFor, RepliesWhereItStands, SealsBySent}
use Rattle.domain_controller.specs.SealServing.{answer_on_line, answer_sealed, answer_standing, answered_by}
use Rattle.domain_controller.specs.SealStep.{after_answered, answer_ended, end_verdict, seal_on_turn, seal_turn_at}
use Rattle.domain_controller.specs.Sealing.{with_seals, without_asked}
use Rattle.domain_controller.specs.TrustStep.{after_turned, on_turn, turn_at, turning_of}
use Rattle.domain_controller.specs.Trusting.{same_place}
use Rattle.domain_controller.specs.declared.sealed.SealedCall.{SealedCall}
use Rattle.domain_controller.specs.declared.sealed.Sealing.{Sealing}
use Rattle.domain_controller.specs.declared.trusting.Parts.{Parts}
use Rattle.domain_controller.specs.declared.trusting.TrustWork.{TrustWork}

-- ---- a turn that ended

same_link : (number : ℕ) → (number == number) ≡ true
same_link number = grind (arith, nat_tests)

module _ (happens : Turning → Turned) (parts : Parts) (s : Sealing) (is : EndsFor happens parts s) where
  abbrev its_turned : Turned
  its_turned = happens (turning_of is.channel parts)

  abbrev its_parts : Parts
  its_parts = after_turned parts.turn_of its_turned parts

  abbrev its_rest : Sealing
  its_rest = without_asked (parts.turn_of, is.place) s

  plain_so : on_turn happens parts ≡ its_parts
  plain_so = ap (λ (found : Option Requester). turn_at found happens parts) is.at

  abbrev Answered : Type 0
  Answered = (TrustWork × Sealing) × Option ℕ

  seal_so : seal_on_turn happens parts s ≡ after_answered (answer_on_line is.call.call.line is.call is.verdict its_parts.work its_rest) its_parts
  seal_so =
      ap (λ (found : Option Requester). seal_turn_at found happens parts s) is.at
      ∙ ap (λ (verdict : Option (ℕ × Verdict)). after_answered (answer_ended verdict parts.turn_of its_parts.work s) its_parts) is.ends
      ∙ ap (λ (found : Option SealedCall). after_answered (answer_sealed found (parts.turn_of, is.place) is.verdict its_parts.work s) its_parts) is.asked

  unlined_so : is.call.call.line ≡ None → seal_on_turn happens parts s ≡ (on_turn happens parts, its_rest)
  unlined_so none =
      seal_so
      ∙ ap (λ (line : Option Line). after_answered (answer_on_line line is.call is.verdict its_parts.work its_rest) its_parts) none
      ∙ ap (λ (p : Parts). (p, its_rest)) (sym plain_so)

  on_line : (line : Option Line) → stands is.call.reply.link s.seals ≡ false →
      after_answered (answer_on_line line is.call is.verdict its_parts.work its_rest) its_parts ≡ (its_parts, its_rest)
  on_line None fell = refl
  on_line (Some line) fell = ap (λ (has : Bool). after_answered (answer_standing has is.call line is.verdict its_parts.work its_rest) its_parts) fell

  replaced_so : stands is.call.reply.link s.seals ≡ false → seal_on_turn happens parts s ≡ (on_turn happens parts, its_rest)
  replaced_so fell = seal_so ∙ on_line is.call.call.line fell ∙ ap (λ (p : Parts). (p, its_rest)) (sym plain_so)

  stood_so : (line : Line) (bytes : List ℕ) → is.call.call.line ≡ Some line → stands is.call.reply.link s.seals ≡ true →
      (seal_reply is.call.reply line (written_reply (forwarded_reply is.call.call is.verdict)) s.seals).bytes ≡ Some bytes →
      (seal_on_turn happens parts s).0.work.work.actions ≡ (on_turn happens parts).work.work.actions ++ action.Send line.link bytes ∷ []
  stood_so line bytes there stood sealed =
      let reply = seal_reply is.call.reply line (written_reply (forwarded_reply is.call.call is.verdict)) s.seals in
      ap (λ (done : Parts × Sealing). done.0.work.work.actions) seal_so
      ∙ ap (λ (l : Option Line). (after_answered (answer_on_line l is.call is.verdict its_parts.work its_rest) its_parts).0.work.work.actions) there
      ∙ ap (λ (has : Bool). (after_answered (answer_standing has is.call line is.verdict its_parts.work its_rest) its_parts).0.work.work.actions) stood
      ∙ ap (λ (sent : Option (List ℕ)). (after_answered (answered_by sent line its_parts.work (with_seals reply.seals its_rest)) its_parts).0.work.work.actions) sealed
      ∙ ap (λ (p : Parts). p.work.work.actions ++ action.Send line.link bytes ∷ []) (sym plain_so)

told_so : (place : ℕ × ℕ) (verdict : Verdict) (w : TrustWork) (f : ForwardedState) → lookup same_place place w.queues.forwarded ≡ Some f → f.line ≡ None →
    (answer_place place verdict w).work.actions ≡ w.work.actions ++ action.Judged (judged.Answered (status_of verdict)) ∷ []
told_so place verdict w f found none =
    ap (λ (one : Option ForwardedState). (answer_found one place verdict w).work.actions) found
    ∙ ap (λ (line : Option Line). (reply_if line (forwarded_reply f verdict) (tell w.work (action.Judged (judged.Answered (status_of verdict))))).actions) none

pub replies_where_it_stands : RepliesWhereItStands
replies_where_it_stands = record {
  waits = λ place trust f reply line requesters w s talk is.
      ap (λ (l : Option Line). w.queues.forwarded ++ ((trust, place), record f { line = l }) ∷ [])
      (ap (λ (l : Option Line). line_without line.link l) is ∙ ap (λ (same : Bool). line_unless same line) (same_link line.link));
  told = λ place verdict w f found none. told_so place verdict w f found none;
  replaced = λ happens parts s is fell. replaced_so happens parts s is fell;
  closed = λ happens parts s is none. unlined_so happens parts s is none;
  stood = λ happens parts s is line bytes there stood sealed. stood_so happens parts s is line bytes there stood sealed;
}

-- ---- the number of the units that were sent

abbrev as_if : (number : ℕ) → NlState → NlState
as_if number s = record s { received = number }

abbrev moved_frame : (number : ℕ) → Option SealedFrame → Option SealedFrame
moved_frame number None = None
moved_frame number (Some one) = Some (record one { seal = as_if number one.seal })

by_spent : (spent : Bool) (s : NlState) (number : ℕ) (frame confounder : List ℕ) (from to : ℕ) →
    frame_with (seal_by spent (as_if number s) frame from to confounder) ≡ moved_frame number (frame_with (seal_by spent s frame from to confounder))
by_spent true s number frame confounder from to = refl
by_spent false s number frame confounder from to = refl

by_range : (range : Option (ℕ × ℕ)) (s : NlState) (number : ℕ) (frame confounder : List ℕ) →
    seal_in range (as_if number s) confounder frame ≡ moved_frame number (seal_in range s confounder frame)
by_range None s number frame confounder = refl
by_range (Some range) s number frame confounder = by_spent (s.sent == last_number) s number frame confounder range.0 range.1

abbrev frames_in : Option SealedFrames → Option (List (List ℕ))
frames_in None = None
frames_in (Some sealed) = Some sealed.frames

abbrev more_frames : (frame : List ℕ) → Option (List (List ℕ)) → Option (List (List ℕ))
more_frames frame None = None
more_frames frame (Some frames) = Some (frame ∷ frames)

behind_in : (frame : List ℕ) (later : Option SealedFrames) → frames_in (behind frame later) ≡ more_frames frame (frames_in later)
behind_in frame None = refl
behind_in frame (Some later) = refl

abbrev Alike : (number : ℕ) (confounder : List ℕ) (frames : List (List ℕ)) → Type 0
Alike number confounder frames = (s : NlState) → frames_in (seal_all (as_if number s) confounder frames) ≡ frames_in (seal_all s confounder frames)

then_alike : (one : Option SealedFrame) (number : ℕ) (confounder : List ℕ) (frames : List (List ℕ)) → Alike number confounder frames →
    frames_in (then_frames (moved_frame number one) (λ next. seal_all next confounder frames)) ≡ frames_in (then_frames one (λ next. seal_all next confounder frames))
then_alike None number confounder frames alike = refl
then_alike (Some one) number confounder frames alike =
    behind_in one.frame (seal_all (as_if number one.seal) confounder frames)
    ∙ ap (λ (all : Option (List (List ℕ))). more_frames one.frame all) (alike one.seal)
    ∙ sym (behind_in one.frame (seal_all one.seal confounder frames))

frames_alike : (number : ℕ) (confounder : List ℕ) (frames : List (List ℕ)) → Alike number confounder frames
unfolding seal_all
frames_alike number confounder [] s = refl
frames_alike number confounder (frame ∷ frames) s =
    ap (λ (one : Option SealedFrame). frames_in (then_frames one (λ next. seal_all next confounder frames))) (by_range (range_of frame) s number frame confounder)
    ∙ then_alike (seal_frame s confounder frame) number confounder frames (frames_alike number confounder frames)

abbrev joined : Option (List (List ℕ)) → Option (List ℕ)
joined None = None
joined (Some frames) = Some (joined_frames frames)

joined_in : (sealed : Option SealedFrames) → reply_bytes sealed ≡ joined (frames_in sealed)
joined_in None = refl
joined_in (Some sealed) = refl

pub seals_by_sent : SealsBySent
seals_by_sent = record {
  sent = λ reply line stub seals kept number.
      let frames = reply_frames reply.link line stub in
      joined_in (seal_all (as_if number kept.seal) reply.confounder frames)
      ∙ ap (λ (all : Option (List (List ℕ))). joined all) (frames_alike number reply.confounder frames kept.seal)
      ∙ sym (joined_in (seal_all kept.seal reply.confounder frames));
}

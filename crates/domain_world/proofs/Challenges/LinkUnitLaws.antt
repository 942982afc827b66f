-- What a unit on an accepted link comes to, by what is written down of it: what it sends and draws where nothing is
-- bound, and what is taken where a CHALLENGE had been sent.
-- It serves `members_leave_nothing_out`, `Proved.messages`, `runs_are_heard` and 3 more.
use Rattle.std.proofs.Common.{◌≡◌, ℕ, Bool, true, false, List, [], ◌∷◌, Option, Some, None, inl, inr, refl, ap}
use Rattle.std.proofs.lemmas.Bool.{eq-eqb}
use Rattle.std.proofs.lemmas.Option.{same_Some}
use Rattle.wire_base.specs.Maps.{lookup, put, same_number}
use Rattle.wire_base.proofs.MapLaws.{lookup-put_same}
use Rattle.rpc_units.specs.declared.unit.Unit.{Unit as RpcUnit}
use Rattle.end_links.specs.Serving.{ServedPart, ServedUnit}
use Rattle.member_server.specs.declared.state.AtLink.{AtLink}
use Rattle.member_server.specs.declared.state.Bound.{Bound}
use Rattle.member_server.specs.declared.state.Logon.{Logon}
use Rattle.member_server.specs.declared.state.Phase.{Phase}
use Rattle.member_server.specs.declared.state.Phase.TheVariants as phase
use Rattle.member_server.specs.declared.state.Talk.{Talk}
use Rattle.member_server.specs.Binds.{challenge_ack, challenge_trailer}
use Rattle.member_server.specs.Messages.{with_channel, with_logon}
use Rattle.member_server.specs.Units.{is_fresh, unit_by}
use Rattle.member_server.specs.Work.{Served, with_logons}
use Rattle.member_server.proofs.LinkView.{BoundView, Closes, Asks, Overflows, UnitView, Serves, Naks, Spends, Challenges, asking_at, bound_view, logon_at, unit_view}
use Rattle.step_notes.specs.MemberNotes.{LinkAt, challenge_after, challenge_by, message_after, message_kept, taken_after}
use Rattle.step_notes.specs.Records.{MessageTaken}
use Rattle.step_notes.specs.Served.{talk_after}
use Rattle.domain_world.specs.Claims.LeftOut.{Answers, DrawsFor, IfServed, IsTakenAs, SendsAt, Takes, TakesAt}

-- a unit that comes on a link in a phase
abbrev pub unit_at : (is_fresh : Bool) → Phase → List ℕ → Option RpcUnit → AtLink → List (List ℕ) → ServedUnit AtLink Talk
unit_at fresh p bytes joiner at left =
    record { bytes = bytes; work = at; talk = record { joiner = joiner; phase = p }; left = left; part = unit_by fresh p bytes joiner at left }

-- ---- a unit where nothing is bound

-- by what it comes to: what it sends and what it draws
abbrev pub AnswersPart : LinkAt → AtLink → List (List ℕ) → ServedPart AtLink Talk → Type 0
AnswersPart w at left part =
    IfServed (λ after talk. Answers w left (challenge_after (talk_after part) w at left) at after) part × DrawsFor left (challenge_after (talk_after part) w at left) part

module _ (w : LinkAt) where
  pub fresh_sends : {bytes : List ℕ} {joiner : Option RpcUnit} (at : AtLink) {left : List (List ℕ)} {part : ServedPart AtLink Talk} → UnitView bytes joiner at phase.Fresh left part →
      AnswersPart w at left part
  fresh_sends at (Serves (Closes cause may)) = (inl (cause, refl), refl)
  fresh_sends at (Naks call) = (inr (call, refl), refl)
  fresh_sends at Spends = (tt, tt)
  fresh_sends at (Challenges offer call receive contexts challenge taken) = (
    (
      _,
      record {
        ack = challenge_ack offer at.logons.plan call receive contexts challenge;
        trailer = challenge_trailer offer at.logons.plan challenge;
        flags = offer.flags;
        is = refl;
        kind = tt;
        has = refl;
        provider = refl;
        value = refl;
        message = refl;
        at = refl;
        member = refl;
        link = refl;
        draw = refl;
      },
      refl,
    ),
    refl,
  )

  pub unit_sends : (p : Phase) (bytes : List ℕ) (joiner : Option RpcUnit) (at : AtLink) (left : List (List ℕ)) → SendsAt p w (unit_at (is_fresh p) p bytes joiner at left)
  unit_sends phase.Fresh bytes joiner at left = (fresh_sends at (unit_view bytes joiner at phase.Fresh left)).0
  unit_sends (phase.Challenged bound challenge flags) bytes joiner at left = refl
  unit_sends (phase.Asked bound place held) bytes joiner at left = refl
  unit_sends (phase.In on) bytes joiner at left = refl
  unit_sends (phase.Out bound status) bytes joiner at left = refl

  pub unit_draws : (fresh : Bool) (p : Phase) (bytes : List ℕ) (joiner : Option RpcUnit) (at : AtLink) (left : List (List ℕ)) →
      DrawsFor left (challenge_by fresh (unit_at fresh p bytes joiner at left) w) (unit_by fresh p bytes joiner at left)
  unit_draws false p bytes joiner at left = refl
  unit_draws true p bytes joiner at left = (fresh_sends at (unit_view bytes joiner at phase.Fresh left)).1

-- ---- a unit where a CHALLENGE had been sent

-- by what it comes to
abbrev pub TakesServed : LinkAt → List ℕ → List ℕ → AtLink → Served → Type 0
TakesServed w bytes challenge at served =
    Takes served.1 w bytes challenge (message_after served.1 (Some served.0) w bytes) (taken_after served.1 w.link) at served.0

module _ (w : LinkAt) (bytes : List ℕ) where
  kept_one : (found : Option Logon) (place : ℕ) (logon : Logon) (after : AtLink) → lookup same_number place after.logons.asked ≡ found → found ≡ Some logon →
      (one : MessageTaken) × (message_kept found place w bytes ≡ one ∷ []) × IsTakenAs w bytes logon.challenge place after one
  kept_one None place logon after there is = absurd (let never : ◌≡◌ {A = Option Logon} None (Some logon) = is in cc)
  kept_one (Some other) place logon after there is = (
    _,
    refl,
    record {
      at = refl;
      member = refl;
      link = refl;
      bytes_are = refl;
      place_is = refl;
      kept = there;
      challenge_is = ap (λ (l : Logon). l.challenge) (same_Some other logon is);
    },
  )

  pub view_takes : {joiner : Option RpcUnit} (at : AtLink) {bound : Bound} {challenge : List ℕ} {flags : ℕ} {served : Served} →
      BoundView bytes joiner at (phase.Challenged bound challenge flags) served → TakesServed w bytes challenge at served
  view_takes at (Closes cause may) = (refl, refl, (cause, refl))
  view_takes at (Asks {challenge = challenge} {flags = flags} message place fit is) =
      let logon : Logon = logon_at at challenge flags message in (
        refl,
        kept_one (lookup same_number place (put same_number place logon at.logons.asked)) place logon
            (with_logons at (with_logon (with_channel at.logons (asking_at at challenge flags message).state) place logon)) refl
            (lookup-put_same same_number place logon at.logons.asked (eq-eqb place place refl)),
      )
  view_takes at (Overflows message fit is) = (refl, (refl, refl))

  pub unit_takes : (p : Phase) (joiner : Option RpcUnit) (at : AtLink) (left : List (List ℕ)) → TakesAt p w (unit_at (is_fresh p) p bytes joiner at left)
  unit_takes phase.Fresh joiner at left = (refl, refl)
  unit_takes (phase.Challenged bound challenge flags) joiner at left =
      view_takes at (bound_view bytes joiner at (phase.Challenged bound challenge flags))
  unit_takes (phase.Asked bound place held) joiner at left = (refl, refl)
  unit_takes (phase.In on) joiner at left = (refl, refl)
  unit_takes (phase.Out bound status) joiner at left = (refl, refl)

-- What bytes on an accepted link do to a member's logons, said once: an AUTHENTICATE asks a logon or finds no room, and
-- nothing else changes them. It serves laws of the crates above that speak of the logons that a member keeps.
use Rattle.std.proofs.Common.{◌≡◌, ℕ, List, Option, Some, None, Ok, Err}
use Rattle.logon_stubs.specs.declared.info.NetworkInfo.{NetworkInfo}
use Rattle.ntlm_flags.specs.Flags.{agreed_flags}
use Rattle.rpc_units.specs.declared.unit.Unit.{Unit as RpcUnit}
use Rattle.rpc_units.specs.Stream.{Cut}
use Rattle.end_links.specs.Serving.{ServedPart, served_cut}
use Rattle.end_links.proofs.KeepLaws.{StaysServing, served_stays}
use Rattle.channel_client.specs.declared.answers.AskRefused.TheVariants as ask_refused
use Rattle.channel_client.specs.Machine.{ask_of}
use Rattle.channel_turns.specs.declared.state.Dialling.{Dialling}
use Rattle.member_server.specs.declared.state.AtLink.{AtLink}
use Rattle.member_server.specs.declared.state.Logon.{Logon}
use Rattle.member_server.specs.declared.state.Logons.{Logons}
use Rattle.member_server.specs.declared.state.Phase.{Phase}
use Rattle.member_server.specs.declared.state.Talk.{Talk}
use Rattle.member_server.specs.declared.state.Work.{Work}
use Rattle.member_server.specs.Machine.{after_units, serve_alone}
use Rattle.member_server.specs.Messages.{info_of, with_channel, with_logon}
use Rattle.member_server.specs.Outcomes.{at_link}
use Rattle.member_server.specs.Units.{link_server}
use Rattle.member_server.specs.Work.{Served}
use Rattle.member_server.proofs.LinkView.{BoundView, Closes, Asks, Overflows, Keeps, Joins, Answers, Faults, UnitView, Serves, Naks, Spends, Challenges, logon_at, unit_view}
use Rattle.member_server.proofs.StepFrame.{PartHolds}

pub record KeepsLogons (Holds : Logons → Type 0) : Type 0 where
  pub asks : (l : Logons) (place : ℕ) (logon : Logon) → (ask_of l.channel (info_of logon.message logon.agreed logon.challenge)).answer ≡ Ok place → Holds l →
      Holds (with_logon (with_channel l (ask_of l.channel (info_of logon.message logon.agreed logon.challenge)).state) place logon)
  pub full : (l : Logons) (info : NetworkInfo) → (ask_of l.channel info).answer ≡ Err ask_refused.QueueFull → Holds l → Holds (with_channel l (ask_of l.channel info).state)

module _ (Holds : Logons → Type 0) (keeps : KeepsLogons Holds) where
  bound_keeps : (bytes : List ℕ) (joiner : Option RpcUnit) (at : AtLink) (p : Phase) (served : Served) → BoundView bytes joiner at p served → Holds at.logons → Holds served.0.logons
  bound_keeps bytes joiner at p served (Closes cause may) holds = holds
  bound_keeps bytes joiner at p served (Asks {challenge = challenge} {flags = flags} message place fit answers) holds =
      keeps.asks at.logons place (logon_at at challenge flags message) answers holds
  bound_keeps bytes joiner at p served (Overflows {challenge = challenge} {flags = flags} message fit answers) holds =
      keeps.full at.logons (info_of message (agreed_flags flags message.flags) challenge) answers holds
  bound_keeps bytes joiner at p served (Keeps is fits) holds = holds
  bound_keeps bytes joiner at p served (Joins unit session is joins) holds = holds
  bound_keeps bytes joiner at p served (Answers unit sent session is) holds = holds
  bound_keeps bytes joiner at p served (Faults call context) holds = holds

  abbrev pub LinkHolds : ServedPart AtLink Talk → Type 0
  LinkHolds (Err why) = Unit {0}
  LinkHolds (Ok part) = Holds part.value.0.logons

  view_keeps : (bytes : List ℕ) (joiner : Option RpcUnit) (at : AtLink) (p : Phase) (left : List (List ℕ)) (part : ServedPart AtLink Talk) → UnitView bytes joiner at p left part →
      Holds at.logons → LinkHolds part
  view_keeps bytes joiner at p left part (Serves {served = served} view) holds = bound_keeps bytes joiner at p served view holds
  view_keeps bytes joiner at p left part (Naks call) holds = holds
  view_keeps bytes joiner at p left part Spends holds = tt
  view_keeps bytes joiner at p left part (Challenges offer call receive contexts challenge is) holds = holds

  pub units_stay : StaysServing link_server LinkHolds
  units_stay = record {
    spent = λ why. tt;
    unit = λ bytes at talk left holds.
        view_keeps bytes talk.joiner at talk.phase left (link_server.unit bytes at talk left) (unit_view bytes talk.joiner at talk.phase left) holds;
    refusal = λ why at talk left holds. holds;
  }

-- a fact of them and of the dial
pub logons_keep : (Holds : Dialling → Logons → Type 0) (cut : Cut) (number : ℕ) (talk : Talk) (how : Dialling) (w : Work) (left : List (List ℕ)) → KeepsLogons (Holds how) →
    Holds how w.logons → PartHolds (λ how w left. Holds how w.logons) (serve_alone cut number talk how w left)
logons_keep Holds cut number talk how w left keeps holds =
    of_part (served_cut link_server cut (at_link number w) talk left)
    (served_stays link_server (LinkHolds (Holds how) keeps) (units_stay (Holds how) keeps) cut (at_link number w) talk left holds)
  where
    of_part : (part : ServedPart AtLink Talk) → LinkHolds (Holds how) keeps part → PartHolds (λ how w left. Holds how w.logons) (after_units part cut.rest number how w)
    of_part (Err why) holds = tt
    of_part (Ok part) holds = of_said part.value.1 part.value.0 holds
      where
        of_said : (said : Option Talk) (at : AtLink) → Holds how at.logons → PartHolds (λ how w left. Holds how w.logons) (after_units (Ok (record { value = (at, said); left = part.left })) cut.rest number how w)
        of_said None at holds = holds
        of_said (Some later) at holds = holds

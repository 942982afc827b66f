-- The logon for which a member's turn is out stays kept under its place while bytes come on an accepted link.
-- It serves `runs_stand_so`.
use Rattle.std.proofs.Common.{◌≡◌, ◌≢◌, ℕ, ◌==◌, Bool, true, false, List, [], ◌∷◌, ◌++◌, Some, Ok, Err, sym, ap, subst, ◌∙◌, nat_le, length}
use Rattle.std.specs.List.{AllByRecursion}
use Rattle.std.proofs.lemmas.Bool.{false_from_ne_true}
use Rattle.std.proofs.lemmas.Bool.Decides.{Decides-eqb}
use Rattle.wire_base.specs.Maps.{lookup, put, same_number}
use Rattle.wire_base.proofs.MapLaws.{put_others}
use Rattle.wire_base.proofs.NameLaws.{IsSameness-same_number}
use Rattle.rpc_units.specs.Stream.{cut_stream}
use Rattle.logon_stubs.specs.declared.info.NetworkInfo.{NetworkInfo}
use Rattle.channel_client.specs.Effects.{ArePlacesApart, IsCoherent, IsForFirst}
use Rattle.channel_client.specs.Machine.{ask_by as ask_channel, can_start, waiting_limit}
use Rattle.channel_client.specs.declared.answers.AskRefused.TheVariants as ask_refused
use Rattle.channel_client.specs.declared.state.Pending.{Pending}
use Rattle.channel_client.specs.declared.state.Waiting.{Waiting}
use Rattle.channel_client.proofs.EffectLaws.{steps_have_effects}
use Rattle.member_server.specs.Messages.{info_of, with_channel, with_logon}
use Rattle.member_server.specs.Outcomes.{without_link}
use Rattle.member_server.specs.declared.state.Logon.{Logon}
use Rattle.member_server.specs.declared.state.Logons.{Logons}
use Rattle.member_server.proofs.LogonFrame.{KeepsLogons, logons_keep}
use Rattle.member_server.proofs.StepFrame.{KeepsEvent, KeepsNext, PartHolds, WorkFact, bytes_lose_none, part_keeps}
use Rattle.member_server.specs.declared.state.Running.{Running}
use Rattle.member_server.specs.Machine.{event_part}
use Rattle.outside.specs.declared.event.Event.TheVariants as event
use Rattle.step_notes.specs.MemberNotes.{is_turn_link}

-- the turn is out, for that logon, which is kept
pub record Leads (pending : Pending) (logon : Logon) (l : Logons) : Type 0 where
  pub coherent : IsCoherent l.channel
  pub turn : l.channel.turn ≡ Some pending
  pub kept : lookup same_number pending.place l.asked ≡ Some logon

-- ---- a logon is asked

last_apart : (place : ℕ) (logons : List Waiting) (last : Waiting) → AllByRecursion (λ (later : Waiting). place ≢ later.place) (logons ++ last ∷ []) → place ≢ last.place
last_apart place [] last all = all.0
last_apart place (first ∷ logons) last all = last_apart place logons last all.1

-- the last logon that waits has another place than the first, for which the turn is
not_last : (pending : Pending) (logons : List Waiting) (last : Waiting) → IsForFirst (Some pending) logons → ArePlacesApart (logons ++ last ∷ []) → last.place ≢ pending.place
not_last pending [] last first apart = absurd first
not_last pending (logon ∷ logons) last first apart = λ is. last_apart logon.place logons last apart.0 (sym first.0 ∙ sym is)

differ_number : (one other : ℕ) → one ≢ other → same_number one other ≡ false
differ_number one other differ = false_from_ne_true (one == other) (λ is. differ ((Decides-eqb one other).0 is))

module _ (pending : Pending) (kept : Logon) where
  asked_leads : (full : Bool) (l : Logons) (info : NetworkInfo) (place : ℕ) (logon : Logon) → (ask_channel full l.channel info).answer ≡ Ok place →
      IsCoherent (ask_channel full l.channel info).state → Leads pending kept l → Leads pending kept (with_logon (with_channel l (ask_channel full l.channel info).state) place logon)
  asked_leads true l info place logon answers coherent leads = absurd (let x = answers in cc)
  asked_leads false l info place logon answers coherent leads =
      let next : ℕ = l.channel.next_place in
      let same : next ≡ place = (let x = answers in cc) in
      let differs : next ≢ pending.place =
      not_last pending l.channel.waiting (record { place = next; info = record info { logon_id = next } }) (subst (λ turn. IsForFirst turn l.channel.waiting) leads.turn leads.coherent.first)
      (steps_have_effects.places (ask_channel false l.channel info).state coherent) in
      record {
        coherent = coherent;
        turn = leads.turn;
        kept = ap (λ (n : ℕ). lookup same_number pending.place (put same_number n logon l.asked)) (sym same)
            ∙ put_others same_number next pending.place logon l.asked IsSameness-same_number (differ_number next pending.place differs)
            ∙ leads.kept;
      }

  full_leads : (full : Bool) (l : Logons) (info : NetworkInfo) → (ask_channel full l.channel info).answer ≡ Err ask_refused.QueueFull → Leads pending kept l →
      Leads pending kept (with_channel l (ask_channel full l.channel info).state)
  full_leads true l info answers leads = record { coherent = leads.coherent; turn = leads.turn; kept = leads.kept }
  full_leads false l info answers leads = absurd (let x = answers in cc)

  first_logons : KeepsLogons (Leads pending kept)
  first_logons = record {
    asks = λ l place logon answers leads.
        let info : NetworkInfo = info_of logon.message logon.agreed logon.challenge in
        asked_leads (nat_le waiting_limit (length l.channel.waiting)) l info place logon answers (steps_have_effects.ask 0 l.channel info leads.coherent).1 leads;
    full = λ l info answers leads. full_leads (nat_le waiting_limit (length l.channel.waiting)) l info answers leads;
  }

  -- ---- bytes on an accepted link

  -- the turn isn't on that link
  abbrev Elsewhere : ℕ → WorkFact
  Elsewhere number how w left = (is_turn_link how number ≡ false) × Leads pending kept w.logons

  abbrev pub LeadsAfter : WorkFact
  LeadsAfter how w left = Leads pending kept w.logons

  event_leads : (number : ℕ) (piece : List ℕ) → KeepsEvent (event.Bytes number piece) (Elsewhere number) LeadsAfter
  event_leads number piece = record {
    still = λ how w left so. so.1;
    closes = λ link how w left so. so.1;
    loses = λ cause how w left lost none so. absurd (bytes_lose_none number piece how lost);
    full = λ link how w left is leads. leads;
    opens = λ link how w left is leads. leads;
    answers = λ link turn frames w left is so. so.1;
    link = λ other bytes link how w left is there so.
        logons_keep (λ how l. Leads pending kept l) (cut_stream (link.rest ++ bytes)) other link.talk how (without_link other w) left first_logons so.1;
    turn = λ other bytes said w left is so.
        let same : number ≡ other = (let x = is in cc) in
        absurd (let x = sym so.0 ∙ (Decides-eqb other number).1 (sym same) in cc);
  }

  -- the turn is out, so none starts
  next_leads : (now : ℕ) → KeepsNext now LeadsAfter LeadsAfter
  next_leads now = record {
    still = λ how w left can leads. leads;
    starts = λ turn frames challenge how w before after can drawn answer leads.
        absurd (let x = sym (ap (λ turn. can_start turn w.logons.channel.waiting) leads.turn) ∙ can in cc);
  }

  pub bytes_lead : (running : Running) (number : ℕ) (piece : List ℕ) (now : ℕ) (left : List (List ℕ)) → is_turn_link running.dialling number ≡ false → Leads pending kept running.logons →
      PartHolds LeadsAfter (event_part running (event.Bytes number piece) now left)
  bytes_lead running number piece now left other leads =
      part_keeps (Elsewhere number) LeadsAfter LeadsAfter running (event.Bytes number piece) now left (event_leads number piece) (next_leads now) (other, leads)

-- A step of a member keeps what it and its controller have in common, with the marks that are written down of it; where
-- the step isn't taken, the member has stopped, and what it kept has the controller's hash.
-- It serves `Proved.never_apart`.
use Rattle.std.proofs.Common.{◌≡◌, ℕ, ◌+◌, ◌<◌, ◌^◌, List, [], ◌++◌, length, Option, Some, None, Result, Ok, Err, refl, subst, arith}
use Rattle.wire_base.specs.Names.{SameName}
use Rattle.outside.specs.Machine.{Part, step_by}
use Rattle.outside.specs.declared.action.StepRefused.{StepRefused}
use Rattle.outside.specs.declared.event.Event.{Event}
use Rattle.outside.specs.declared.event.Event.TheVariants as event
use Rattle.rpc_units.specs.Calls.{IsHeard}
use Rattle.rpc_units.specs.declared.unit.Unit.{Unit as RpcUnit}
use Rattle.end_links.specs.Links.{LinkState}
use Rattle.secret_change.specs.Agreement.{Holds as HoldsSecret}
use Rattle.secret_change.specs.Secrets.{SecretsState}
use Rattle.authenticators.specs.SecureChannels.{SecureChannelState}
use Rattle.channel_client.specs.Effects.{effect_heard, effect_judged, effect_of_take, number_in, view_of}
use Rattle.channel_client.specs.Machine.{hear, judge_set, take_of}
use Rattle.channel_client.specs.declared.hearing.Hearing.{Hearing}
use Rattle.channel_client.specs.declared.hearing.Hearing.TheVariants as hearing
use Rattle.channel_client.specs.declared.hearing.SetHearing.TheVariants as set_hearing
use Rattle.channel_client.specs.declared.judging.Judgement.{Judgement}
use Rattle.channel_client.specs.State.{Requester}
use Rattle.channel_turns.specs.declared.state.Dialling.TheVariants as dialling
use Rattle.channel_turns.specs.declared.state.TurnTalk.{TurnTalk}
use Rattle.channel_turns.proofs.KeepLaws.{end_of}
use Rattle.channel_events.specs.AcceptedOrder.{AreInOrder}
use Rattle.channel_events.specs.Marks.{Mark}
use Rattle.channel_events.specs.Requests.{CallsAreApart, Requests}
use Rattle.channel_events.specs.SecretOrder.{AreTogether, IsIn}
use Rattle.wire_base.proofs.ListLaws.{no_some}
use Rattle.channel_events.proofs.SecretOrderLaws.{stay_together}
use Rattle.member_server.specs.declared.state.Running.{Running}
use Rattle.member_server.specs.Laws.{heard_in}
use Rattle.member_server.specs.Machine.{actions_in, event_part, halted_state, state_in, step_of}
use Rattle.member_server.specs.Trying.{TriesSecrets}
use Rattle.member_server.specs.Turns.{DialWork}
use Rattle.member_server.proofs.StepFrame.{PartHolds}
use Rattle.step_notes.specs.MemberNotes.{taking_note}
use Rattle.domain_world.specs.Accepting.SeenSteps.{Differ, PlacedBy}
use Rattle.domain_world.specs.Claims.OrderedSteps.{Suits, SuitsIfTaken}
use Rattle.domain_world.proofs.Apart.StepOrderLaws.{order_with, taken_order}
use Rattle.domain_world.proofs.Apart.TogetherTakeLaws.{Basis, CallsWere, CarriesAsks, SetHeard, TakeFits, Ties, secrets_by, takes, with_held}
use Rattle.domain_world.proofs.Apart.TogetherTurnLaws.{TurnStands, TiesThen, asker_of, other_event, then_next, whole_event}
use Rattle.domain_world.proofs.Calls.LooserLaws.{calls_before}
use Rattle.domain_world.proofs.Calls.StepApartLaws.{StandsApart, seen_with, taken_so}

-- ---- a member that has stopped

-- nobody is seen
abbrev pub nobody : List Mark → Requests ℕ
nobody marks = record { views = λ j. None; marks = marks; drawn = []; uses = 0 }

abbrev pub TogetherAlone : Basis → List Mark → SecretsState → Type 0
TogetherAlone b marks kept = AreTogether (nobody marks) b.who b.controller b.computer b.accepted (with_held b kept None)

-- by what it holds, or by what it kept where it has stopped
abbrev pub TiesIf : Basis → List Mark → Option Running → SecretsState → Type 0
TiesIf b marks None kept = TogetherAlone b marks kept
TiesIf b marks (Some running) kept = Ties b marks running.logons.channel running.logons.plan.secrets

pub alone_calls : (b : Basis) (marks later : List Mark) (kept : SecretsState) → CallsWere later marks → TogetherAlone b marks kept → TogetherAlone b later kept
alone_calls b marks later kept were t = record {
  among = t.among;
  kept = t.kept;
  taken = t.taken;
  sets = λ unit number timestamp c keeps secret there. t.sets unit number timestamp c keeps secret (were unit number timestamp c there);
  opens = t.opens;
  asked = t.asked;
}

-- what it kept has each secret that it held
abbrev pub KeepsHeld : SecretsState → SecretsState → Type 0
KeepsHeld held kept = (secret : List ℕ) → HoldsSecret secret held → HoldsSecret secret kept

pub stops : (b : Basis) (marks : List Mark) (c : Requester) (secrets kept : SecretsState) → KeepsHeld secrets kept → Ties b marks c secrets → TogetherAlone b marks kept
stops b marks c secrets kept keeps ties =
    let t = (stay_together ℕ).goes_on (seen_with b.views b.who (view_of b.controller c) marks [] 0) b.who b.controller b.computer b.accepted (with_held b secrets ties.out) (λ j. None) kept None
    (λ v challenge at opening. absurd (no_some v at)) keeps (λ unit is. absurd (no_some unit is)) ties.together in
    record { among = t.among; kept = t.kept; taken = t.taken; sets = t.sets; opens = t.opens; asked = t.asked }

-- ---- what is to be known of the reply that is heard

-- what is to be known of a reply which says that a secret was set
abbrev pub SetFits : Basis → List Mark → Requester → Hearing → Type 0
SetFits b marks c (hearing.Set (set_hearing.Reply reply)) = (o : SecureChannelState) → judge_set reply c.standing ≡ Ok o → SetHeard b marks c
SetFits b marks c _ = Unit {0}

-- what is heard fits where it suits as an opening, and as a reply which says that a secret was set
fits_by : (b : Basis) (marks more : List Mark) (c : Requester) (secrets : SecretsState) (drawn : List (List ℕ)) (uses : ℕ) (ties : Ties b marks c secrets) (tries : TriesSecrets c secrets)
    (named : SameName c.caller.computer b.computer) (apart : CallsAreApart (seen_with b.views b.who (view_of b.controller c) marks drawn uses))
    (order : AreInOrder (seen_with b.views b.who (view_of b.controller c) marks drawn uses) b.who b.controller b.computer b.accepted) (took : (unit : ℕ) → IsIn unit b.sides.took → unit < length marks)
    (h : Hearing) → Suits (asker_of b) b.who (effect_heard b.controller h c) → SetFits b marks c h → TakeFits b marks more c secrets drawn uses ties tries named apart order took h
fits_by b marks more c secrets drawn uses ties tries named apart order took hearing.Skip suits set = tt
fits_by b marks more c secrets drawn uses ties tries named apart order took (hearing.Next q frames) suits set = tt
fits_by b marks more c secrets drawn uses ties tries named apart order took (hearing.Reply q reply) suits set =
    λ o is. subst (λ (j : Judgement). Suits (asker_of b) b.who (effect_judged b.controller j c.caller.computer (number_in c.turn))) is suits
fits_by b marks more c secrets drawn uses ties tries named apart order took (hearing.Drop cause) suits set = tt
fits_by b marks more c secrets drawn uses ties tries named apart order took (hearing.Set (set_hearing.Next frames)) suits set = tt
fits_by b marks more c secrets drawn uses ties tries named apart order took (hearing.Set (set_hearing.Reply reply)) suits set = set

-- ---- a step

-- of a unit that is taken: what the new call sets, and what the reply says
pub record TakenKnown (b : Basis) (marks more : List Mark) (c : Requester) (secrets : SecretsState) (drawn : List (List ℕ)) (uses : ℕ) (unit : RpcUnit) : Type 0 where
  pub tries : TriesSecrets c secrets
  pub named : SameName c.caller.computer b.computer
  pub took : (n : ℕ) → IsIn n b.sides.took → n < length marks
  pub carries : CarriesAsks b marks more c secrets drawn uses (taking_note (Some (take_of c unit)) b.controller c).called
  pub set : SetFits b marks c (hear c.turn unit c.next_call)

-- where the step is taken
abbrev pub KnownIf : Result (Part DialWork) StepRefused → Type 0 → Type 0
KnownIf (Err why) Known = Unit {0}
KnownIf (Ok part) Known = Known

module _ (b : Basis) where
  -- by what the event and the next turn come to
  taken_ties : (part : Result (Part DialWork) StepRefused) (marks : List Mark) (drawn : List (List ℕ)) (uses : ℕ) (few : uses + 2 < 2 ^ 32) (now : ℕ) (left : List (List ℕ)) (kept : SecretsState) →
      PartHolds (TiesThen b marks drawn uses few now left) part → TogetherAlone b marks kept → Differ (drawn ++ (step_by actions_in state_in halted_state left part).drawn) →
      TiesIf b marks (step_by actions_in state_in halted_state left part).state.running kept
  taken_ties (Err why) marks drawn uses few now left kept ties alone differ = alone
  taken_ties (Ok part) marks drawn uses few now left kept ties alone differ = ties differ

  -- no whole unit comes on the link of the turn
  pub other_ties : (marks : List Mark) (drawn : List (List ℕ)) (uses : ℕ) (few : uses + 2 < 2 ^ 32) (running : Running) (what : Event) (now : ℕ) (left : List (List ℕ)) (kept : SecretsState) →
      heard_in what running.dialling ≡ [] → KeepsHeld running.logons.plan.secrets kept → TurnStands b marks drawn uses running.logons.channel running.logons.plan.secrets →
      Differ (drawn ++ (step_of (record { running = Some running }) what now left).drawn) →
      TiesIf b marks (step_of (record { running = Some running }) what now left).state.running kept
  other_ties marks drawn uses few running what now left kept none keeps stands differ =
      taken_ties (event_part running what now left) marks drawn uses few now left kept
      (then_next b marks drawn uses few now left running what (other_event b marks drawn uses few running what left none stands))
      (stops b marks running.logons.channel running.logons.plan.secrets kept keeps stands.ties) differ

  -- one does, with the marks that are written down
  module _ (marks more : List Mark) (drawn : List (List ℕ)) (uses : ℕ) (few : uses + 3 < 2 ^ 32) (running : Running) (number : ℕ) (said : LinkState TurnTalk) (bytes : List ℕ)
      (frames : List RpcUnit) (unit : RpcUnit) (now : ℕ) (left : List (List ℕ)) (on : running.dialling ≡ dialling.On number said) (rest : said.rest ≡ []) (none : said.talk.joiner ≡ None)
      (heard : IsHeard bytes frames unit) where
    abbrev c : Requester
    c = running.logons.channel

    abbrev secrets : SecretsState
    secrets = running.logons.plan.secrets

    abbrev what : Event
    what = event.Bytes number bytes

    -- the unit was taken
    stands_after : (part : Part DialWork) → PlacedBy (Ok part) (taking_note (Some (take_of c unit)) b.controller c) more → Suits (asker_of b) b.who (effect_of_take b.controller c unit) →
        TakenKnown b marks more c secrets drawn uses unit → TurnStands b marks drawn uses c secrets →
        TurnStands b (marks ++ more) drawn (uses + 1) (take_of c unit).state (secrets_by (end_of (take_of c unit).taken) secrets)
    stands_after part placed suits known stands =
        let after : StandsApart b.views b.who b.controller (take_of c unit).state (marks ++ more) drawn (uses + 1) =
        taken_so b.views b.who b.controller c unit marks more drawn uses (omega (arith, few)) placed stands.apart in
        let order = order_with b.views b.who b.controller (asker_of b) c marks drawn uses stands.order in
        record {
          apart = after;
          order = taken_order b.views b.who b.controller (asker_of b) c unit marks more drawn uses (omega (arith, few)) placed suits stands.apart stands.order;
          ties = takes b marks more c secrets drawn uses stands.ties known.tries known.named stands.apart.apart order known.took unit placed
              (λ one other called d e is also client. after.apart.distinct one other called d e is also client)
              (fits_by b marks more c secrets drawn uses stands.ties known.tries known.named stands.apart.apart order known.took (hear c.turn unit c.next_call) suits known.set) known.carries;
        }

    whole_by : (part : Result (Part DialWork) StepRefused) → event_part running what now left ≡ part → (kept : SecretsState) →
        PlacedBy part (taking_note (Some (take_of c unit)) b.controller c) more → SuitsIfTaken part (asker_of b) b.who (effect_of_take b.controller c unit) →
        KnownIf part (TakenKnown b marks more c secrets drawn uses unit) → KeepsHeld secrets kept → TurnStands b marks drawn uses c secrets →
        Differ (drawn ++ (step_by actions_in state_in halted_state left part).drawn) → TiesIf b (marks ++ more) (step_by actions_in state_in halted_state left part).state.running kept
    whole_by (Err why) is kept placed suits known keeps stands differ =
        alone_calls b marks (marks ++ more) kept (calls_before marks more placed) (stops b marks c secrets kept keeps stands.ties)
    whole_by (Ok part) is kept placed suits known keeps stands differ =
        let ties : PartHolds (TiesThen b (marks ++ more) drawn (uses + 1) (omega (arith, few)) now left) (Ok part) =
        subst (PartHolds (TiesThen b (marks ++ more) drawn (uses + 1) (omega (arith, few)) now left)) is
        (then_next b (marks ++ more) drawn (uses + 1) (omega (arith, few)) now left running what
        (whole_event b (marks ++ more) drawn (uses + 1) (omega (arith, few)) running number said bytes frames unit left on rest none heard (stands_after part placed suits known stands))) in
        ties differ

    pub whole_ties : (kept : SecretsState) → PlacedBy (event_part running what now left) (taking_note (Some (take_of c unit)) b.controller c) more →
        SuitsIfTaken (event_part running what now left) (asker_of b) b.who (effect_of_take b.controller c unit) →
        KnownIf (event_part running what now left) (TakenKnown b marks more c secrets drawn uses unit) → KeepsHeld secrets kept → TurnStands b marks drawn uses c secrets →
        Differ (drawn ++ (step_of (record { running = Some running }) what now left).drawn) →
        TiesIf b (marks ++ more) (step_of (record { running = Some running }) what now left).state.running kept
    whole_ties kept placed suits known keeps stands differ = whole_by (event_part running what now left) refl kept placed suits known keeps stands differ

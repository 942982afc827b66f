-- Each step of an end at which no bytes come keeps what is known of calls, and so does an end that is made anew.
-- It serves `runs_stand_so`.
use Rattle.std.proofs.Common.{◌≡◌, ◌⊎◌, ℕ, ◌+◌, ◌*◌, ◌≤◌, ◌==◌, Bool, true, false, List, [], ◌++◌, inl, inr, Option, Some, None, slice_get, slice_set, refl, ap, subst, arith, ◌∙◌}
use Rattle.std.proofs.lemmas.Bool.Decides.{Decides-eqb}
use Rattle.std.proofs.lemmas.List.{append-nil, length-set}
use Rattle.outside.specs.Drawing.{Drawing}
use Rattle.outside.specs.declared.event.Event.{Event}
use Rattle.domain_controller.specs.State.{State as ControllerState}
use Rattle.domain_controller.specs.Step.{step_of as controller_step_of}
use Rattle.logon_client.specs.Machine.{step_of as client_step_of}
use Rattle.logon_client.specs.State.{State as ClientState}
use Rattle.channel_client.specs.Effects.{View}
use Rattle.channel_events.specs.Requests.{Requests}
use Rattle.channel_events.proofs.RequestLaws.{calls_stay_apart}
use Rattle.member_server.specs.Machine.{fresh_member, step_of}
use Rattle.member_server.specs.State.{State as MemberState}
use Rattle.member_server.specs.declared.plan.MemberPlan.{MemberPlan}
use Rattle.member_server.specs.declared.state.Running.{Running}
use Rattle.step_notes.specs.CallLogons.{AsksUnlessStopped}
use Rattle.step_notes.specs.Records.{MessageTaken, Sent}
use Rattle.step_notes.proofs.Members.CallKeptLaws.{fresh_asks, change_asks}
use Rattle.step_notes.proofs.Members.KeptLogonLaws.{Dials}
use Rattle.step_notes.proofs.Members.UnservedLaws.{Opens}
use Rattle.world_moves.specs.declared.links.Route.{Route}
use Rattle.world_moves.specs.Ends.{EndStates, client_step, with_client, with_member}
use Rattle.world_moves.specs.Alone.{alone_controller_step as controller_step}
use Rattle.domain_world.specs.Accepting.SeenSteps.{CoherentIf, Differ, HearsNone, requests_after, seen_or, seen_running}
use Rattle.domain_world.specs.Past.{controller_of_plan}
use Rattle.domain_world.proofs.Acceptance.LetInStepLaws.{IsAcceptedBy, IsDialledBy}
use Rattle.domain_world.proofs.Calls.CallHoldsLaws.{CallsHold, differ_front, ends_other, marks_in, member_changed, more_steps, requests_at, views_at}
use Rattle.domain_world.proofs.Calls.OutStepLaws.{MemberHolds, StaysKnown, none_out, not_bytes, quiet_holds}
use Rattle.domain_world.proofs.Calls.StepApartLaws.{other_apart, seen_member}
use Rattle.domain_world.proofs.Calls.LooserLaws.{looser}
use Rattle.world_moves.proofs.ChangeLaws.{member_begun}
use Rattle.world_moves.specs.Plain.{plain_member_step as member_step}

-- more steps than those of a schedule, and few enough that no number comes round
abbrev pub most_steps : ℕ
most_steps = 2000000

-- where so few steps were taken and the draws differ
abbrev pub KeptSo : ℕ → List MemberPlan → EndStates → List (List ℕ) → List Route → List Sent → List MessageTaken → Type 0
KeptSo n plans ends drawn links sent messages = n ≤ most_steps → Differ drawn → CallsHold n plans ends drawn links sent messages

-- a requester that asks for what is kept is coherent
pub coherent_if : (r : Option Running) → AsksUnlessStopped r → CoherentIf r
coherent_if None asks = tt
coherent_if (Some running) asks = asks.coherent

pub hears_none : (Own : ℕ → Type 0) (r : Option Running) (what : Event) → Dials Own what → HearsNone r what
hears_none Own None what dials = tt
hears_none Own (Some running) what dials = not_bytes Own what running.dialling dials

-- nothing is written down
pub nothing_new : (links : List Route) (sent : List Sent) (messages : List MessageTaken) (k : ℕ) → StaysKnown links links sent sent messages messages k
nothing_new links sent messages k =
    record { dialled = λ number is. is; accepted = λ number is. is; has = λ place logon one. one; out = λ pending logon standing one. one }

-- ---- ends that aren't members

module _ (n : ℕ) (plans : List MemberPlan) (ends : EndStates) (links : List Route) (sent : List Sent) (messages : List MessageTaken) where
  controllers_so : (later at : ℕ) (new : ControllerState) (drawn more : List (List ℕ)) → n ≤ later → KeptSo n plans ends drawn links sent messages →
      KeptSo later plans (record ends { controllers = slice_set ends.controllers at new }) (drawn ++ more) links sent messages
  controllers_so later at new drawn more onward kept few differ =
      ends_other n later onward plans ends (record ends { controllers = slice_set ends.controllers at new }) drawn more links sent messages refl
      (record { controllers = length-set ends.controllers at new; members = refl; clients = refl; stations = refl }) (kept (omega (arith, onward, few)) (differ_front drawn more differ))

  clients_so : (later at : ℕ) (new : ClientState) (drawn more : List (List ℕ)) → n ≤ later → KeptSo n plans ends drawn links sent messages →
      KeptSo later plans (record ends { clients = slice_set ends.clients at new }) (drawn ++ more) links sent messages
  clients_so later at new drawn more onward kept few differ =
      ends_other n later onward plans ends (record ends { clients = slice_set ends.clients at new }) drawn more links sent messages refl
      (record { controllers = refl; members = refl; clients = length-set ends.clients at new; stations = refl }) (kept (omega (arith, onward, few)) (differ_front drawn more differ))

  -- an end that isn't there takes no step
  pub none_so : (drawn : List (List ℕ)) → KeptSo n plans ends drawn links sent messages → KeptSo (n + 1) plans ends drawn links sent messages
  none_so drawn kept few differ = more_steps n (n + 1) plans ends drawn links sent messages (omega arith) (kept (omega (arith, few)) differ)

  -- nothing is drawn
  pub client_anew : (later at : ℕ) (new : ClientState) (drawn : List (List ℕ)) → n ≤ later → KeptSo n plans ends drawn links sent messages →
      KeptSo later plans (with_client at new ends) drawn links sent messages
  client_anew later at new drawn onward kept =
      subst (λ (d : List (List ℕ)). KeptSo later plans (with_client at new ends) d links sent messages) (append-nil drawn) (clients_so later at new drawn [] onward kept)

  -- a controller is made anew
  pub controller_anew : (at : ℕ) (new : ControllerState) (drawn : List (List ℕ)) → KeptSo n plans ends drawn links sent messages →
      KeptSo n plans (record ends { controllers = slice_set ends.controllers at new }) drawn links sent messages
  controller_anew at new drawn kept =
      subst (λ (d : List (List ℕ)). KeptSo n plans (record ends { controllers = slice_set ends.controllers at new }) d links sent messages) (append-nil drawn)
      (controllers_so n at new drawn [] (omega arith) kept)

  -- a step of a controller
  pub controller_hears : (c : ControllerState) (at : ℕ) (what : Event) (now : ℕ) (chances : Drawing) → KeptSo n plans ends chances.drawn links sent messages →
      KeptSo (n + 1) plans (controller_step (Some c) at what now ends chances).ends (controller_step (Some c) at what now ends chances).chances.drawn links sent messages
  controller_hears c at what now chances kept =
      controllers_so (n + 1) at (controller_step_of c what now chances.left).state chances.drawn (controller_step_of c what now chances.left).drawn (omega arith) kept

  -- a step of a client
  pub client_hears : (c : ClientState) (at : ℕ) (what : Event) (now : ℕ) (chances : Drawing) → KeptSo n plans ends chances.drawn links sent messages →
      KeptSo (n + 1) plans (client_step (Some c) at what now ends chances).ends (client_step (Some c) at what now ends chances).chances.drawn links sent messages
  client_hears c at what now chances kept =
      clients_so (n + 1) at (client_step_of c what now chances.left).state chances.drawn (client_step_of c what now chances.left).drawn (omega arith) kept

  -- ---- a member

  -- a step of a member at which no bytes come
  pub member_hears : (m : MemberState) (at : ℕ) (what : Event) (now : ℕ) (chances : Drawing) → slice_get ends.members at ≡ Some m → Dials (λ number. IsDialledBy links at number) what →
      Opens what (λ number p. IsAcceptedBy links at number) → KeptSo n plans ends chances.drawn links sent messages →
      KeptSo (n + 1) plans (member_step (Some m) at what now ends chances).ends (member_step (Some m) at what now ends chances).chances.drawn links sent messages
  member_hears m at what now chances is dials opens kept few differ =
      let controller : ℕ = controller_of_plan (slice_get plans at) ends in
      let drawn : List (List ℕ) = chances.drawn ++ (step_of m what now chances.left).drawn in
      let holds : CallsHold n plans ends chances.drawn links sent messages = kept (omega (arith, few)) (differ_front chances.drawn (step_of m what now chances.left).drawn differ) in
      let own : MemberHolds links sent messages controller at m.running = holds.members at m is in
      member_changed plans ends at (step_of m what now chances.left).state n (n + 1) (2 * n + 1) chances.drawn drawn links sent sent messages messages (omega arith) holds
      (other_apart (views_at plans ends) at controller m.running what now chances.left (marks_in sent) chances.drawn (2 * n) (omega (arith, few))
      (hears_none (λ number. IsDialledBy links at number) m.running what dials) (coherent_if m.running own.asks) (ap (λ (x : Option MemberState). seen_member controller x) is) holds.apart differ)
      (quiet_holds links sent messages controller at m.running what now chances.left dials opens own) (λ k other. nothing_new links sent messages k) holds.accepted

  -- a member that is made anew
  abbrev pub blank : View
  blank = record { stands = None; seed = None; opening = None; asking = None; call = 1 }

  pub seen_anew : (hit : Bool) (j at : ℕ) (old : Option View) (v : View) → (j == at) ≡ hit → seen_or hit (Some blank) old ≡ Some v → ((j ≡ at) × (v ≡ blank)) ⊎ (old ≡ Some v)
  seen_anew false j at old v is seen = inr seen
  seen_anew true j at old v is seen = inl ((Decides-eqb j at).0 is, (let x = seen in cc))

  pub member_anew : (plan : MemberPlan) (at : ℕ) (drawn : List (List ℕ)) → KeptSo n plans ends drawn links sent messages →
      KeptSo n plans (with_member at (fresh_member plan) ends) drawn links sent messages
  member_anew plan at drawn kept few differ =
      let controller : ℕ = controller_of_plan (slice_get plans at) ends in
      let holds : CallsHold n plans ends drawn links sent messages = kept few differ in
      let r : Requests ℕ = requests_at n plans ends drawn sent in
      member_changed plans ends at (fresh_member plan) n n (2 * n) drawn drawn links sent sent messages messages (omega arith) holds
      (calls_stay_apart.renewed r at (λ j. seen_or (j == at) (Some blank) (r.views j)) (λ j v seen. seen_anew (j == at) j at (r.views j) v refl seen) holds.apart)
      (record { asks = fresh_asks plan; kept = (tt, tt); accepts = tt; out = λ pending logon turn reply there. absurd (none_out pending turn) })
      (λ k other. nothing_new links sent messages k) holds.accepted

  -- a member that begins to change its secret is seen as it was
  pub seen_still : (secret : List ℕ) (running : Running) (at j : ℕ) (hit : Bool) (v : View) → slice_get ends.members at ≡ Some (record { running = Some running }) → (j == at) ≡ hit →
      seen_or hit (seen_running (controller_of_plan (slice_get plans at) ends) (member_begun secret running).running) (views_at plans ends j) ≡ Some v → views_at plans ends j ≡ Some v
  seen_still secret running at j false v there is seen = seen
  seen_still secret running at j true v there is seen =
      ap (λ (k : ℕ). views_at plans ends k) ((Decides-eqb j at).0 is) ∙ ap (λ (x : Option MemberState). seen_member (controller_of_plan (slice_get plans at) ends) x) there ∙ seen

  pub member_changes : (secret : List ℕ) (running : Running) (at : ℕ) (drawn : List (List ℕ)) → slice_get ends.members at ≡ Some (record { running = Some running }) →
      running.logons.plan.secrets.next ≡ None → KeptSo n plans ends drawn links sent messages → KeptSo (n + 1) plans (with_member at (member_begun secret running) ends) drawn links sent messages
  member_changes secret running at drawn is none kept few differ =
      let controller : ℕ = controller_of_plan (slice_get plans at) ends in
      let holds : CallsHold n plans ends drawn links sent messages = kept (omega (arith, few)) differ in
      let own : MemberHolds links sent messages controller at (Some running) = holds.members at (record { running = Some running }) is in
      member_changed plans ends at (member_begun secret running) n (n + 1) (2 * n) drawn drawn links sent sent messages messages (omega arith) holds
      (looser (requests_at n plans ends drawn sent) (requests_after (views_at plans ends) at controller (member_begun secret running).running (marks_in sent) drawn (2 * n)) (record {
        views = λ j v seen. seen_still secret running at j (j == at) v is refl seen;
        marks = λ unit number c mark asks there. there;
        drawn = λ challenge was. was;
        uses = omega arith;
      }) holds.apart)
      (record { asks = change_asks secret running none own.asks; kept = own.kept; accepts = own.accepts; out = own.out })
      (λ k other. nothing_new links sent messages k) holds.accepted

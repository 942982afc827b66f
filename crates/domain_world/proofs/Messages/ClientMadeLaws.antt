-- In every run each AUTHENTICATE that is written down as made is by the plan of its client, on a link that this client
-- dialled. It serves `Proved.made` and `Proved.clients`.
use Rattle.std.proofs.Common.{◌≡◌, ◌==◌, ℕ, Bool, true, false, List, [], ◌∷◌, ◌++◌, Option, Some, None, Result, Ok, Err, refl, sym, ap, subst, ◌∙◌, slice_get}
use Rattle.std.specs.Prelude.{flat_map}
use Rattle.std.specs.List.{AllByRecursion}
use Rattle.std.proofs.lemmas.Bool.Decides.{Decides-eqb}
use Rattle.outside.specs.Machine.{Part}
use Rattle.outside.specs.declared.action.Action.{Action}
use Rattle.outside.specs.declared.action.StepRefused.{StepRefused}
use Rattle.outside.specs.declared.event.Event.{Event}
use Rattle.outside.specs.declared.event.Event.TheVariants as event
use Rattle.ntlm_flags.specs.Flags.{has_flag, negotiate_key_exch}
use Rattle.ntlm_messages.specs.Authenticate.{authenticate_fields, written_authenticate}
use Rattle.ntlm_messages.specs.Fields.{form_of}
use Rattle.ntlm_messages.specs.declared.refused.WriteRefused.{WriteRefused}
use Rattle.rpc_units.specs.Stream.{cut_stream}
use Rattle.end_links.specs.Links.{LinkState}
use Rattle.end_links.specs.Serving.{ServedUnit, served_units}
use Rattle.logon_client.specs.Answering.{answer_of, drawn_for}
use Rattle.logon_client.specs.Machine.{client_server, hear, step_of, work_of}
use Rattle.logon_client.specs.State.{State as ClientState}
use Rattle.logon_client.specs.declared.answering.Answer.{Answer}
use Rattle.logon_client.specs.declared.answering.Drawn.{Drawn}
use Rattle.logon_client.specs.declared.answering.ServerOffer.{ServerOffer}
use Rattle.logon_client.specs.declared.hearing.Heard.{Heard}
use Rattle.logon_client.specs.declared.hearing.Heard.TheVariants as heard
use Rattle.logon_client.specs.declared.outcome.ClientOutcome.{ClientOutcome}
use Rattle.logon_client.specs.declared.plan.ClientPlan.{ClientPlan}
use Rattle.logon_client.specs.declared.state.ClientLink.{ClientLink}
use Rattle.logon_client.specs.declared.state.ClientLink.TheVariants.{Idle, Dialling, On}
use Rattle.logon_client.specs.declared.state.Running.{Running}
use Rattle.logon_client.specs.declared.state.Talk.{Talk}
use Rattle.logon_client.specs.declared.state.Work.{Work}
use Rattle.logon_client.proofs.SendLaws.{AtUnlessStopped, DialledAt, client_sends}
use Rattle.step_notes.specs.ClientNotes.{ClientAt, made_by, made_heard, made_note, made_of, units_by, units_if, units_of_client, units_standing}
use Rattle.step_notes.specs.MemberNotes.{message_in}
use Rattle.step_notes.specs.Records.{MessageMade}
use Rattle.step_notes.specs.Served.{units_if_taken}
use Rattle.step_notes.proofs.ServedLaws.{served_such}
use Rattle.world_moves.specs.declared.links.Route.{Route}
use Rattle.world_moves.specs.declared.links.Route.TheVariants.{ToMember}
use Rattle.world_moves.specs.declared.moves.Move.{Move}
use Rattle.world_moves.specs.declared.plan.Plan.{Plan}
use Rattle.world_moves.specs.Plain.{IsPlainPlan}
use Rattle.wire_base.proofs.ListLaws.{all_weaker, got_append}
use Rattle.domain_world.specs.Claims.WrittenDown.{IsOfItsClient, MessagesAreOfTheirClients}
use Rattle.domain_world.specs.Past.{Past, past}
use Rattle.domain_world.proofs.Messages.ClientOfferLaws.{HeardOf, heard_of}
use Rattle.domain_world.proofs.Messages.ClientPlanLaws.{GoesBy, TaskIn, served_goes, task_stays}
use Rattle.domain_world.proofs.Quiet.QuietRunLaws.{client_more, clients_route}
use Rattle.domain_world.proofs.Quiet.QuietStepLaws.{IsClients}
use Rattle.wire_base.proofs.AllLaws.{all_join, all_lists}
use Rattle.domain_world.proofs.Frames.ClientFrameLaws.{ClientFact, KeepsClients, MadeFact, MeetsClient, clients_after, made_at}

-- ---- what is written down of a unit

-- of that client, link and plan
abbrev IsOf : ClientAt → ClientPlan → MessageMade → Type 0
IsOf w plan one = (one.client ≡ w.client) × (one.link ≡ w.link) × (one.plan ≡ plan)

bytes_of : (bytes : Result (List ℕ) WriteRefused) (w : ClientAt) (plan : ClientPlan) (challenge key : List ℕ) → AllByRecursion (IsOf w plan) (made_of bytes w plan challenge key)
bytes_of (Err why) w plan challenge key = tt
bytes_of (Ok bytes) w plan challenge key = ((refl, refl, refl), tt)

answer_is : (answer : Answer) (w : ClientAt) (plan : ClientPlan) (challenge : List ℕ) →
    AllByRecursion (IsOf w plan) (made_of (form_of (authenticate_fields answer.message) (written_authenticate answer.message)) w plan challenge answer.key)
answer_is answer w plan challenge = bytes_of (form_of (authenticate_fields answer.message) (written_authenticate answer.message)) w plan challenge answer.key

drawn_is : (drawn : Result (Part Drawn) StepRefused) (offer : ServerOffer) (plan : ClientPlan) (w : ClientAt) (challenge : List ℕ) →
    AllByRecursion (IsOf w plan) (made_by drawn offer plan w challenge)
drawn_is (Err why) offer plan w challenge = tt
drawn_is (Ok part) offer plan w challenge = answer_is (answer_of plan offer part.value) w plan challenge

heard_is : (what : Heard) (plan : ClientPlan) (bytes : List ℕ) (left : List (List ℕ)) (w : ClientAt) → HeardOf plan bytes what → AllByRecursion (IsOf w plan) (made_heard what left w bytes)
heard_is (heard.Done work talk) plan bytes left w known = tt
heard_is (heard.Challenged work link offer) plan bytes left w known =
    let drawn : Result (Part Drawn) StepRefused = drawn_for (has_flag offer.flags negotiate_key_exch) left in
    subst (λ (p : ClientPlan). AllByRecursion (IsOf w p) (made_by drawn offer work.task w bytes)) known.0 (drawn_is drawn offer work.task w bytes)

units_are : (w : ClientAt) (plan : ClientPlan) (units : List (List ℕ)) (work : Work) (talk : Talk) (left : List (List ℕ)) → work.task ≡ plan →
    AllByRecursion (IsOf w plan) (flat_map (made_note w) (served_units client_server units work talk left))
units_are w plan units work talk left is =
    all_lists (IsOf w plan) (made_note w) (served_units client_server units work talk left)
    (served_such client_server (λ part. GoesBy plan part) (λ (served : ServedUnit Work Talk). AllByRecursion (IsOf w plan) (made_note w served))
    (λ bytes work talk left known. (
      heard_is (hear bytes talk work) plan (message_in bytes) left w
          (subst (λ (p : ClientPlan). HeardOf p (message_in bytes) (hear bytes talk work)) known (heard_of bytes talk work)),
      served_goes bytes plan work talk left known,
    ))
    units work talk left is)

-- ---- what is written down of a step

-- a message of that client, on a link of its own, by a plan of which `P` holds
abbrev pub IsBy : (ClientPlan → Type 0) → (ℕ → Type 0) → ℕ → MessageMade → Type 0
IsBy P Own client one = (one.client ≡ client) × Own one.link × P one.plan

module _ (P : ClientPlan → Type 0) (Own : ℕ → Type 0) (w : ClientAt) (piece : List ℕ) (now : ℕ) (left : List (List ℕ)) where
  abbrev pub AreBy : List MessageMade → Type 0
  AreBy made = AllByRecursion (IsBy P Own w.client) made

  if_by : (same : Bool) (own : LinkState Talk) (plan : ClientPlan) → (w.link == own.talk.link) ≡ same → Own own.talk.link → P plan →
      AreBy (flat_map (made_note w) (units_if same own piece plan now left))
  if_by false own plan is its goes = tt
  if_by true own plan is its goes =
      let link : w.link ≡ own.talk.link = (Decides-eqb w.link own.talk.link).0 is in
      all_weaker (IsOf w plan) (IsBy P Own w.client) (flat_map (made_note w) (units_if true own piece plan now left))
      (λ one of. (of.0, subst Own (sym (of.1 ∙ link)) its, subst P (sym of.2) goes))
      (units_are w plan (cut_stream (own.rest ++ piece)).units (work_of plan now) own.talk left refl)

  standing_by : (how : ClientLink) (plan : ClientPlan) → AtUnlessStopped Own (Some (record { task = plan; standing = how })) → P plan →
      AreBy (flat_map (made_note w) (units_standing how w.link piece plan now left))
  standing_by Idle plan its goes = tt
  standing_by Dialling plan its goes = tt
  standing_by (On own) plan its goes = if_by (w.link == own.talk.link) own plan refl its goes

  running_by : (outcome : Option ClientOutcome) (r : Option Running) → AtUnlessStopped Own r → TaskIn P r →
      AreBy (flat_map (made_note w) (units_by outcome r w.link piece now left))
  running_by (Some outcome) r its goes = tt
  running_by None None its goes = tt
  running_by None (Some running) its goes = standing_by running.standing running.task its goes

  taken_by : (answer : Result (List Action) StepRefused) (units : List (ServedUnit Work Talk)) → AreBy (flat_map (made_note w) units) →
      AreBy (flat_map (made_note w) (units_if_taken answer units))
  taken_by (Err why) units made = tt
  taken_by (Ok actions) units made = made

  pub client_by : (c : ClientState) → AtUnlessStopped Own c.running → TaskIn P c.running → AreBy (flat_map (made_note w) (units_of_client c w.link piece now left))
  client_by c its goes =
      taken_by (step_of c (event.Bytes w.link piece) now left).answer (units_by c.outcome c.running w.link piece now left) (running_by c.outcome c.running its goes)

-- ---- clients, and what is written down of them

-- a client goes by its plan, and its link is one that it dialled
pub record IsItself (plans : List ClientPlan) (links : List Route) (k : ℕ) (c : ClientState) : Type 0 where
  pub task : TaskIn (λ (plan : ClientPlan). slice_get plans k ≡ Some plan) c.running
  pub link : AtUnlessStopped (IsClients links k) c.running

-- a message is its client's own, as in `IsOfItsClient`, by plans and links
pub record IsOwnMade (plans : List ClientPlan) (links : List Route) (made : MessageMade) : Type 0 where
  pub plan : slice_get plans made.client ≡ Some made.plan
  pub link : IsClients links made.client made.link

module _ (plans : List ClientPlan) where
  abbrev Itself : ClientFact
  Itself links made k c = IsItself plans links k c

  abbrev OwnMade : MadeFact
  OwnMade links made = AllByRecursion (IsOwnMade plans links) made

  -- the link of an answered dial is the client's
  dialled_own : (links : List Route) (k : ℕ) (what : Event) → MeetsClient links k what → DialledAt (IsClients links k) what
  dialled_own links k (event.Bytes link piece) meets = tt
  dialled_own links k (event.Dialled link) meets = let route = clients_route meets.route k meets.side in (route.0, meets.made ∙ ap (λ (r : Route). Some r) route.1)
  dialled_own links k (event.Opened link) meets = tt
  dialled_own links k (event.Closed link) meets = tt
  dialled_own links k event.DialFailed meets = tt
  dialled_own links k event.Stop meets = tt

  stepped : (links : List Route) (k : ℕ) (c : ClientState) (what : Event) (now : ℕ) (left : List (List ℕ)) → DialledAt (IsClients links k) what → IsItself plans links k c →
      IsItself plans links k (step_of c what now left).state
  stepped links k c what now left dialled its = record {
    task = task_stays (λ (plan : ClientPlan). slice_get plans k ≡ Some plan) c what now left its.task;
    link = (client_sends (IsClients links k) c what now left dialled its.link).stands;
  }

  bytes_made : (links : List Route) (w : ClientAt) (c : ClientState) (piece : List ℕ) (now : ℕ) (left : List (List ℕ)) → IsItself plans links w.client c →
      AllByRecursion (IsOwnMade plans links) (made_at w c piece now left)
  bytes_made links w c piece now left its =
      let P : ClientPlan → Type 0 = λ (plan : ClientPlan). slice_get plans w.client ≡ Some plan in
      all_weaker (IsBy P (IsClients links w.client) w.client) (IsOwnMade plans links) (made_at w c piece now left)
      (λ one by. record {
        plan = ap (λ (n : ℕ). slice_get plans n) by.0 ∙ by.2;
        link = subst (λ (n : ℕ). IsClients links n one.link) (sym by.0) by.1;
      })
      (client_by P (IsClients links w.client) w piece now left c its.link its.task)

  itself_keeps : KeepsClients plans Itself OwnMade
  itself_keeps = record {
    hears = λ links made k c what now left meets its. stepped links k c what now left (dialled_own links k what meets) its;
    comes = λ links made w c piece now left its own. (
      stepped links w.client c (event.Bytes w.link piece) now left tt its,
      all_join (IsOwnMade plans links) made (made_at w c piece now left) own (bytes_made links w c piece now left its),
    );
    more = λ links made more k c its. its;
    opens = λ links route made k c its. record { task = its.task; link = client_more links route k c.running its.link };
    made_opens = λ links route made own.
        all_weaker (IsOwnMade plans links) (IsOwnMade plans (links ++ route ∷ [])) made
        (λ one its. record { plan = its.plan; link = (its.link.0, got_append links (route ∷ []) one.link (ToMember one.client its.link.0) its.link.1) }) own;
    begins = λ links made k plan is. record { task = is; link = tt };
    anew = λ links made k plan is. record { task = is; link = tt };
  }

-- in every run each message that is written down as made is of its client
pub messages_of_clients : (plan : Plan) (moves : List Move) → IsPlainPlan plan → MessagesAreOfTheirClients (past plan moves)
messages_of_clients plan moves nothing =
    let run : Past = past plan moves in
    all_weaker (IsOwnMade plan.clients run.world.state.links) (IsOfItsClient run) run.book.made
    (λ one its. record { plan = its.plan; server = its.link.0; link = its.link.1 })
    (clients_after plan moves nothing (Itself plan.clients) (OwnMade plan.clients) (itself_keeps plan.clients) tt).made

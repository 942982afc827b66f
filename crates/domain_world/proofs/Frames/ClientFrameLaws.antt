-- What holds of each client through the moves of a world, by its plan, the links and what is written down as made: what
-- holds through its own steps, whatever other clients make. It is an instance of `EndFrameLaws`.
-- It serves `Proved.clients` and `Proved.made`.
use Rattle.std.proofs.Common.{◌≡◌, ℕ, List, [], ◌∷◌, ◌++◌, length, map, Some, refl, sym, ap, subst, slice_get, slice_set}
use Rattle.std.specs.Prelude.{true, flat_map}
use Rattle.outside.specs.Drawing.{Drawing}
use Rattle.outside.specs.declared.event.Event.{Event}
use Rattle.outside.specs.declared.event.Event.TheVariants as event
use Rattle.logon_client.specs.Machine.{begin_of, fresh_client, step_of}
use Rattle.logon_client.specs.State.{State as ClientState}
use Rattle.logon_client.specs.declared.plan.ClientPlan.{ClientPlan}
use Rattle.step_notes.specs.ClientNotes.{ClientAt, made_note, units_of_client}
use Rattle.step_notes.specs.Records.{Book, MessageMade}
use Rattle.world_moves.specs.declared.links.EndId.{EndId}
use Rattle.world_moves.specs.declared.links.EndId.TheVariants.{Client}
use Rattle.world_moves.specs.declared.links.Route.{Route}
use Rattle.world_moves.specs.declared.moves.Move.{Move}
use Rattle.world_moves.specs.declared.plan.Plan.{Plan}
use Rattle.world_moves.specs.declared.state.State.{State}
use Rattle.world_moves.specs.Ends.{EndStates, EndStep, client_step}
use Rattle.world_moves.specs.Links.{acceptor_of}
use Rattle.world_moves.specs.Moving.{changed}
use Rattle.world_moves.proofs.EndKindLaws.{IfClient}
use Rattle.domain_world.specs.Past.{Delivery, note_at, note_client, past}
use Rattle.domain_world.proofs.Messages.MessageOnceLaws.{each_put}
use Rattle.domain_world.proofs.Frames.EndFrameLaws.{EndFact, IsCalm, KeepsEndsBy, by_calm, every_ends_after}
use Rattle.domain_world.proofs.Moves.MarkPlaceLaws.{got_map}
use Rattle.domain_world.proofs.Moves.OpenMadeLaws.{IsAtSide, IsOnSide}
use Rattle.domain_world.proofs.Frames.EndNoteLaws.{made_so}
use Rattle.domain_world.proofs.Frames.EveryStepLaws.{act_plain as hear_and_act, dialled_apart, every_noted as noted_by, is_asker}
use Rattle.domain_world.proofs.Frames.MoveKeepLaws.{every}
use Rattle.world_moves.proofs.ChangeLaws.{by_change}
use Rattle.world_moves.specs.Plain.{IsPlainPlan, plain_end_step as end_step, renewed_plain as renewed}
use Rattle.world_moves.proofs.PlainKindLaws.{clients_plain as clients_by, renew_plain_by as renew_by}
use Rattle.outside.specs.declared.action.Action.{Action}

-- ---- what is to hold

-- of a client by its number, the links, and what is written down as made
abbrev pub ClientFact : Type 1
ClientFact = List Route → List MessageMade → ℕ → ClientState → Type 0

-- of the links, and what is written down as made
abbrev pub MadeFact : Type 1
MadeFact = List Route → List MessageMade → Type 0

-- no bytes come; and the link of an answered dial is one that the client dialled
abbrev pub MeetsClient : List Route → ℕ → Event → Type 0
MeetsClient links k (event.Bytes link piece) = ⊥
MeetsClient links k (event.Dialled link) = IsAtSide links link true (Client k)
MeetsClient links k (event.Opened link) = Unit {0}
MeetsClient links k (event.Closed link) = Unit {0}
MeetsClient links k event.DialFailed = Unit {0}
MeetsClient links k event.Stop = Unit {0}

-- what is written down of bytes that come at a client
abbrev pub made_at : ClientAt → ClientState → List ℕ → ℕ → List (List ℕ) → List MessageMade
made_at w c piece now left = flat_map (made_note w) (units_of_client c w.link piece now left)

-- A fact of a client holds on where the client hears something, as other links are made and others make messages, and
-- where it is made anew from its plan and begun. What is written down of bytes goes with its step.
pub record KeepsClients (plans : List ClientPlan) (Fits : ClientFact) (Made : MadeFact) : Type 0 where
  pub hears : (links : List Route) (made : List MessageMade) (k : ℕ) (c : ClientState) (what : Event) (now : ℕ) (left : List (List ℕ)) → MeetsClient links k what → Fits links made k c →
      Fits links made k (step_of c what now left).state
  pub comes : (links : List Route) (made : List MessageMade) (w : ClientAt) (c : ClientState) (piece : List ℕ) (now : ℕ) (left : List (List ℕ)) → Fits links made w.client c → Made links made →
      Fits links (made ++ made_at w c piece now left) w.client (step_of c (event.Bytes w.link piece) now left).state × Made links (made ++ made_at w c piece now left)
  pub more : (links : List Route) (made more : List MessageMade) (k : ℕ) (c : ClientState) → Fits links made k c → Fits links (made ++ more) k c
  pub opens : (links : List Route) (route : Route) (made : List MessageMade) (k : ℕ) (c : ClientState) → Fits links made k c → Fits (links ++ route ∷ []) made k c
  pub made_opens : (links : List Route) (route : Route) (made : List MessageMade) → Made links made → Made (links ++ route ∷ []) made
  pub begins : (links : List Route) (made : List MessageMade) (k : ℕ) (plan : ClientPlan) → slice_get plans k ≡ Some plan → Fits links made k (begin_of (fresh_client plan)).state
  pub anew : (links : List Route) (made : List MessageMade) (k : ℕ) (plan : ClientPlan) → slice_get plans k ≡ Some plan → Fits links made k (fresh_client plan)

-- ---- clients among ends

module _ (plans : List ClientPlan) (Fits : ClientFact) (Made : MadeFact) (keeps : KeepsClients plans Fits Made) where
  pub record AreKept (clients : List ClientState) (links : List Route) (messages : List MessageMade) : Type 0 where
    pub each : (k : ℕ) (c : ClientState) → slice_get clients k ≡ Some c → Fits links messages k c
    pub made : Made links messages

  client_put : (clients : List ClientState) (links : List Route) (made : List MessageMade) (at : ℕ) (new : ClientState) → AreKept clients links made → Fits links made at new →
      AreKept (slice_set clients at new) links made
  client_put clients links made at new kept its =
      record { each = each_put (λ (k : ℕ) (c : ClientState). Fits links made k c) clients at new (λ k c differs there. kept.each k c there) its; made = kept.made }

  link_made : (clients : List ClientState) (links : List Route) (made : List MessageMade) (route : Route) → AreKept clients links made → AreKept clients (links ++ route ∷ []) made
  link_made clients links made route kept =
      record { each = λ k c there. keeps.opens links route made k c (kept.each k c there); made = keeps.made_opens links route made kept.made }

  -- ---- an end hears something but bytes

  abbrev Meets : EndId → List Route → Event → Type 0
  Meets end links what = IfClient (λ at. MeetsClient links at what) end

  end_hears : (what : Event) (now : ℕ) (ends : EndStates) (chances : Drawing) (links : List Route) (made : List MessageMade) (end : EndId) → Meets end links what →
      AreKept ends.clients links made → AreKept (end_step end what now ends chances).ends.clients links made
  end_hears what now ends chances links made end meets kept =
      clients_by what now ends chances (λ (one : EndId) (clients : List ClientState). Meets one links what → AreKept clients links made) (λ one its. kept)
      (λ at c is its.
      client_put ends.clients links made at (step_of c what now chances.left).state kept (keeps.hears links made at c what now chances.left (its at refl) (kept.each at c is)))
      end meets

  calm_meets : (end : EndId) (links : List Route) (what : Event) → IsCalm what → Meets end links what
  calm_meets end links what calm at is = by_calm (λ (one : Event). MeetsClient links at one) (λ link. tt) tt tt what calm

  dialled_meets : (end : EndId) (links : List Route) (link : ℕ) → IsOnSide links link true end → Meets end links (event.Dialled link)
  dialled_meets end links link side at is = subst (λ (one : EndId). IsAtSide links link true one) is (dialled_apart links link end (ap is_asker is) side)

  -- ---- bytes come

  client_comes : (c : ClientState) (at : ℕ) (w : Delivery) (piece : List ℕ) (s : State) (b : Book) → slice_get s.ends.clients at ≡ Some c → AreKept s.ends.clients s.links b.made →
      AreKept (client_step (Some c) at (event.Bytes w.link piece) s.moment s.ends s.chances).ends.clients s.links (note_client (Some c) at w piece s b).made
  client_comes c at w piece s b is kept =
      let l : ClientAt = record { at = w.at; client = at; link = w.link } in
      let new : List MessageMade = made_at l c piece s.moment s.chances.left in
      let its = keeps.comes s.links b.made l c piece s.moment s.chances.left (kept.each at c is) kept.made in
      record {
        each = each_put (λ (k : ℕ) (one : ClientState). Fits s.links (b.made ++ new) k one) s.ends.clients at (step_of c (event.Bytes w.link piece) s.moment s.chances.left).state
            (λ k one differs there. keeps.more s.links b.made new k one (kept.each k one there)) its.0;
        made = its.1;
      }

  end_comes : (end : EndId) (w : Delivery) (piece : List ℕ) (s after : State) (b : Book) → AreKept s.ends.clients s.links b.made →
      AreKept (end_step end (event.Bytes w.link piece) s.moment s.ends s.chances).ends.clients s.links (note_at (Some end) w piece s after b).made
  end_comes end w piece s after b kept =
      noted_by (λ (one : EndId) (step : EndStep) (now : Book). AreKept step.ends.clients s.links now.made) w piece s after b (λ one. kept) (λ at c is. kept)
      (λ at m is. subst (λ (made : List MessageMade). AreKept s.ends.clients s.links made) (sym (made_so.members m at w piece s after b)) kept)
      (λ at c is. client_comes c at w piece s b is kept) end

  -- ---- ends that are made anew

  end_anew : (end : EndId) (s : State) (made : List MessageMade) → s.client_plans ≡ plans → AreKept s.ends.clients s.links made → AreKept (renewed end s).ends.clients s.links made
  end_anew end s made same kept =
      renew_by (λ (one : EndId) (ends : EndStates). AreKept ends.clients s.links made) s (λ one. kept) (λ at c is. kept) (λ at plan is. kept)
      (λ at plan is.
      client_put s.ends.clients s.links made at (fresh_client plan) kept
      (keeps.anew s.links made at plan (subst (λ (all : List ClientPlan). slice_get all at ≡ Some plan) same is))) end

  change_keeps : (member : ℕ) (secret : List ℕ) (s : State) (made : List MessageMade) → AreKept s.ends.clients s.links made → AreKept (changed member secret s).state.ends.clients s.links made
  change_keeps member secret s made kept =
      by_change (λ (ends : EndStates) (actions : List Action). AreKept ends.clients s.links made) member secret s.ends kept (λ running is none. kept)

  -- ---- a run

  -- the clients' plans are these
  record ByPlans (now : List ClientPlan) (ends : EndStates) (links : List Route) (messages : List MessageMade) : Type 0 where
    same : now ≡ plans
    kept : AreKept ends.clients links messages

  abbrev OfClients : EndFact
  OfClients at on now given b = ByPlans now.client_plans now.ends now.links b.made

  of_keeps : KeepsEndsBy every OfClients
  of_keeps = record {
    calm = λ at on end what s given b calm holds. record {
      same = holds.same;
      kept = end_hears what s.moment s.ends s.chances s.links b.made end (calm_meets end s.links what calm) holds.kept;
    };
    dialled = λ at end link s given b side holds. record {
      same = holds.same;
      kept = end_hears (event.Dialled link) s.moment s.ends s.chances s.links b.made end (dialled_meets end s.links link side) holds.kept;
    };
    opens = λ at route s given b holds. record {
      same = holds.same;
      kept = end_hears (event.Opened (length s.links)) s.moment s.ends s.chances (s.links ++ route ∷ []) b.made (acceptor_of route)
          (λ at is. tt) (link_made s.ends.clients s.links b.made route holds.kept);
    };
    begins = λ at client plan s b is holds. record {
      same = holds.same;
      kept = client_put s.ends.clients s.links b.made client (begin_of (fresh_client plan)).state holds.kept
          (keeps.begins s.links b.made client plan (subst (λ (all : List ClientPlan). slice_get all client ≡ Some plan) holds.same is));
    };
    comes = λ end w piece s given b side came holds. record {
      same = holds.same;
      kept = end_comes end w piece s (hear_and_act end (event.Bytes w.link piece) s).state b holds.kept;
    };
    renews = λ at end s b holds. record { same = holds.same; kept = end_anew end s b.made holds.same holds.kept };
    changes = λ at member secret s b holds. record { same = holds.same; kept = change_keeps member secret s b.made holds.kept };
    over = λ at on next s given b holds. holds;
  }

  first_kept : Made [] [] → AreKept (map fresh_client plans) [] []
  first_kept made = record {
    each = λ k c there. let found = got_map fresh_client plans k c there in subst (λ (x : ClientState). Fits [] [] k x) found.2 (keeps.anew [] [] k found.0 found.1);
    made = made;
  }

-- after all moves of a run of a plain plan
pub clients_after : (plan : Plan) (moves : List Move) → IsPlainPlan plan → (Fits : ClientFact) (Made : MadeFact) (keeps : KeepsClients plan.clients Fits Made) → Made [] [] →
    AreKept plan.clients Fits Made keeps (past plan moves).world.state.ends.clients (past plan moves).world.state.links (past plan moves).book.made
clients_after plan moves nothing Fits Made keeps made =
    (every_ends_after (OfClients plan.clients Fits Made keeps) (of_keeps plan.clients Fits Made keeps) plan moves nothing (λ on. record { same = refl; kept = first_kept plan.clients Fits Made keeps made })).kept

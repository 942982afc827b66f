-- What holds through the moves of a world of its members, of what was drawn and is left, of the links, and of a part of
-- the book that members' bytes change alone: whatever holds through each step of a member, and as others draw. It is an
-- instance of `FrameLaws`, and of `EndFrameLaws` in every world. It serves `messages_are_made`, `Proved.messages`,
-- `Proved.kept` and others.
use Rattle.std.proofs.Common.{◌≡◌, ℕ, List, [], ◌∷◌, ◌++◌, length, Some, None, slice_get, slice_set, refl, sym, subst}
use Rattle.outside.specs.Drawing.{Drawing}
use Rattle.outside.specs.declared.action.Action.{Action}
use Rattle.outside.specs.declared.event.Event.{Event}
use Rattle.outside.specs.declared.event.Event.TheVariants as event
use Rattle.member_server.specs.State.{State as MemberState}
use Rattle.member_server.specs.Machine.{fresh_member, step_of}
use Rattle.member_server.specs.declared.plan.MemberPlan.{MemberPlan}
use Rattle.step_notes.specs.Records.{Book, blank}
use Rattle.world_moves.specs.declared.links.EndId.{EndId}
use Rattle.world_moves.specs.declared.links.EndId.TheVariants.{Member}
use Rattle.world_moves.specs.declared.links.Route.{Route}
use Rattle.world_moves.specs.declared.moves.Move.{Move}
use Rattle.world_moves.specs.declared.plan.Plan.{Plan}
use Rattle.world_moves.specs.declared.state.State.{State}
use Rattle.world_moves.specs.Acting.{Given}
use Rattle.world_moves.specs.Ends.{EndStates, EndStep, drawn_on}
use Rattle.world_moves.specs.Links.{acceptor_of}
use Rattle.world_moves.specs.Moving.{with_link}
use Rattle.world_moves.specs.Alone.{alone_end_step as end_step}
use Rattle.domain_world.specs.Past.{Delivery, note_at, note_given, note_member, past}
use Rattle.domain_world.proofs.Frames.AloneNoteLaws.{alone_answers, note_alone}
use Rattle.domain_world.proofs.Frames.AloneStepLaws.{alone_by as step_by}
use Rattle.domain_world.proofs.Frames.EndNoteLaws.{OfMembers, noted_by}
use Rattle.domain_world.proofs.Frames.EndFrameLaws.{EndFact, KeepsEndsBy, every_ends_after}
use Rattle.domain_world.proofs.Frames.EveryStepLaws.{act_plain as hear_and_act, every_draws, every_noted}
use Rattle.domain_world.proofs.Frames.MoveKeepLaws.{every}
use Rattle.domain_world.proofs.Frames.FrameLaws.{calm_quiet, Fact, HoldsAfter, HoldsIn, BringsNothing, StaysWritten}
use Rattle.domain_world.proofs.Moves.LeftLaws.{DrawsOn, end_draws}
use Rattle.world_moves.proofs.ChangeLaws.{by_change, member_begun}
use Rattle.world_moves.specs.Plain.{IsPlainPlan, hear_plain as hear, plain_world}
use Rattle.world_moves.proofs.PlainKindLaws.{plain_by as every_by, renew_plain_by as renew_by}
use Rattle.member_server.specs.declared.state.Running.{Running}

-- of the members, what was drawn and is left, and the links
abbrev pub MembersFact : Type 1
MembersFact = List MemberState → Drawing → List Route → Type 0

-- a fact of members, once a member took a step
abbrev pub MemberStepped : MembersFact → MemberState → ℕ → Event → ℕ → List MemberState → Drawing → List Route → Type 0
MemberStepped Fits m at what now members chances links =
    Fits (slice_set members at (step_of m what now chances.left).state) (drawn_on chances (step_of m what now chances.left).drawn (step_of m what now chances.left).left) links

pub record KeepsMembers {X : Type 0} (part : Book → X) (Fits : X → MembersFact) : Type 0 where
  -- the part is of members alone, also where a move is over
  pub of : OfMembers part
  pub given : (at : ℕ) (given : Given) (after : State) (b : Book) → part (note_given at given after b) ≡ part b
  -- others draw
  pub draws : (x : X) (members : List MemberState) (chances later : Drawing) (links : List Route) → DrawsOn chances later → Fits x members chances links → Fits x members later links
  -- a member takes a step at which no bytes come and no link opens
  pub hears : (x : X) (m : MemberState) (at : ℕ) (what : Event) (now : ℕ) (members : List MemberState) (chances : Drawing) (links : List Route) → BringsNothing what →
      slice_get members at ≡ Some m → Fits x members chances links → MemberStepped (Fits x) m at what now members chances links
  -- a link is made, which another end accepts, or a member
  pub opens : (x : X) (route : Route) (members : List MemberState) (chances : Drawing) (links : List Route) → Fits x members chances links → Fits x members chances (links ++ route ∷ [])
  pub accepts : (x : X) (m : MemberState) (at : ℕ) (route : Route) (now : ℕ) (members : List MemberState) (chances : Drawing) (links : List Route) → acceptor_of route ≡ Member at →
      slice_get members at ≡ Some m → Fits x members chances links → MemberStepped (Fits x) m at (event.Opened (length links)) now members chances (links ++ route ∷ [])
  -- a member hears bytes
  pub comes : (m : MemberState) (at : ℕ) (w : Delivery) (piece : List ℕ) (s after : State) (b : Book) → slice_get s.ends.members at ≡ Some m → Fits (part b) s.ends.members s.chances s.links →
      MemberStepped (Fits (part (note_member (Some m) at w piece s after b))) m at (event.Bytes w.link piece) s.moment s.ends.members s.chances s.links
  -- a member is made anew
  pub anew : (x : X) (plan : MemberPlan) (at : ℕ) (members : List MemberState) (chances : Drawing) (links : List Route) → Fits x members chances links →
      Fits x (slice_set members at (fresh_member plan)) chances links
  -- a member begins to change its secret
  pub changes : (x : X) (secret : List ℕ) (running : Running) (at : ℕ) (members : List MemberState) (chances : Drawing) (links : List Route) →
      slice_get members at ≡ Some (record { running = Some running }) → running.logons.plan.secrets.next ≡ None → Fits x members chances links →
      Fits x (slice_set members at (member_begun secret running)) chances links

module _ {X : Type 0} (part : Book → X) (Fits : X → MembersFact) (keeps : KeepsMembers part Fits) where
  -- a fact of members, as one of all ends
  abbrev pub AmongMembers : X → Fact
  AmongMembers x ends chances links = Fits x ends.members chances links

  hear_keeps : (x : X) (end : EndId) (what : Event) (now : ℕ) (ends : EndStates) (chances : Drawing) (links : List Route) → BringsNothing what → Fits x ends.members chances links →
      HoldsAfter (AmongMembers x) (end_step end what now ends chances) links
  hear_keeps x end what now ends chances links quiet fits =
      step_by (λ (one : EndId) (step : EndStep). DrawsOn chances step.chances → Fits x step.ends.members step.chances links) what now ends chances (λ one draws. fits)
      (λ at c is draws. keeps.draws x ends.members chances _ links draws fits) (λ at m is draws. keeps.hears x m at what now ends.members chances links quiet is fits)
      (λ at c is draws. keeps.draws x ends.members chances _ links draws fits) end (end_draws end what now ends chances)

  open_keeps : (x : X) (route : Route) (now : ℕ) (ends : EndStates) (chances : Drawing) (links : List Route) → Fits x ends.members chances links →
      HoldsAfter (AmongMembers x) (end_step (acceptor_of route) (event.Opened (length links)) now ends chances) (links ++ route ∷ [])
  open_keeps x route now ends chances links fits =
      let more : Fits x ends.members chances (links ++ route ∷ []) = keeps.opens x route ends.members chances links fits in
      step_by (λ (one : EndId) (step : EndStep). acceptor_of route ≡ one → DrawsOn chances step.chances → Fits x step.ends.members step.chances (links ++ route ∷ [])) (event.Opened (length links)) now
      ends chances (λ one accepts draws. more) (λ at c is accepts draws. keeps.draws x ends.members chances _ (links ++ route ∷ []) draws more)
      (λ at m is accepts draws. keeps.accepts x m at route now ends.members chances links accepts is fits)
      (λ at c is accepts draws. keeps.draws x ends.members chances _ (links ++ route ∷ []) draws more) (acceptor_of route) refl
      (end_draws (acceptor_of route) (event.Opened (length links)) now ends chances)

  -- what holds of members is kept where another part is the same, and others draw
  others_keep : (x now : X) (members : List MemberState) (chances later : Drawing) (links : List Route) → now ≡ x → DrawsOn chances later → Fits x members chances links →
      Fits now members later links
  others_keep x now members chances later links same draws fits =
      subst (λ (one : X). Fits one members later links) (sym same) (keeps.draws x members chances later links draws fits)

  bytes_keep : (end : EndId) (w : Delivery) (piece : List ℕ) (s after : State) (b : Book) → HoldsIn (AmongMembers (part b)) s →
      HoldsAfter (AmongMembers (part (note_alone (Some end) w piece s after b))) (end_step end (event.Bytes w.link piece) s.moment s.ends s.chances) s.links
  bytes_keep end w piece s after b fits =
      noted_by (λ (one : EndId) (step : EndStep) (now : Book). DrawsOn s.chances step.chances → Fits (part now) step.ends.members step.chances s.links) w piece s after b (λ one draws. fits)
      (λ at c is draws. others_keep (part b) _ s.ends.members s.chances _ s.links (keeps.of.controllers (alone_answers at c w piece s) w s after b) draws fits)
      (λ at m is draws. keeps.comes m at w piece s after b is fits)
      (λ at c is draws. others_keep (part b) _ s.ends.members s.chances _ s.links (keeps.of.clients c at w piece s b) draws fits) end
      (end_draws end (event.Bytes w.link piece) s.moment s.ends s.chances)

  pub members_written : StaysWritten part AmongMembers
  members_written = record {
    stays = λ x. record {
      hears = λ end what now ends chances links quiet fits. hear_keeps x end what now ends chances links quiet fits;
      opens = λ route now ends chances links fits. open_keeps x route now ends chances links fits;
      controllers = λ c at ends chances links is fits. fits;
      changes = λ secret running at ends chances links is none fits. keeps.changes x secret running at ends.members chances links is none fits;
      members = λ plan at ends chances links fits. keeps.anew x plan at ends.members chances links fits;
      clients = λ client at ends chances links fits. fits;
    };
    bytes = bytes_keep;
    given = keeps.given;
  }

  -- ---- in every world, whether its controllers ask others or not

  abbrev OfEvery : EndFact
  OfEvery at on now given b = Fits (part b) now.ends.members now.chances now.links

  every_hears : (x : X) (end : EndId) (what : Event) (s : State) → BringsNothing what → Fits x s.ends.members s.chances s.links →
      Fits x (hear end what s).state.ends.members (hear end what s).state.chances s.links
  every_hears x end what s quiet fits =
      every_by (λ (one : EndId) (step : EndStep). DrawsOn s.chances step.chances → Fits x step.ends.members step.chances s.links) what s.moment s.ends s.chances (λ one draws. fits)
      (λ at c is draws. keeps.draws x s.ends.members s.chances _ s.links draws fits) (λ at m is draws. keeps.hears x m at what s.moment s.ends.members s.chances s.links quiet is fits)
      (λ at c is draws. keeps.draws x s.ends.members s.chances _ s.links draws fits) end (every_draws end what s.moment s.ends s.chances)

  every_opens : (x : X) (route : Route) (s : State) → Fits x s.ends.members s.chances s.links →
      let heard = hear (acceptor_of route) (event.Opened (length s.links)) (with_link route s) in Fits x heard.state.ends.members heard.state.chances (s.links ++ route ∷ [])
  every_opens x route s fits =
      let more : Fits x s.ends.members s.chances (s.links ++ route ∷ []) = keeps.opens x route s.ends.members s.chances s.links fits in
      every_by (λ (one : EndId) (step : EndStep). acceptor_of route ≡ one → DrawsOn s.chances step.chances → Fits x step.ends.members step.chances (s.links ++ route ∷ []))
      (event.Opened (length s.links)) s.moment s.ends s.chances (λ one accepts draws. more) (λ at c is accepts draws. keeps.draws x s.ends.members s.chances _ (s.links ++ route ∷ []) draws more)
      (λ at m is accepts draws. keeps.accepts x m at route s.moment s.ends.members s.chances s.links accepts is fits)
      (λ at c is accepts draws. keeps.draws x s.ends.members s.chances _ (s.links ++ route ∷ []) draws more) (acceptor_of route) refl
      (every_draws (acceptor_of route) (event.Opened (length s.links)) s.moment s.ends s.chances)

  every_comes : (end : EndId) (w : Delivery) (piece : List ℕ) (s after : State) (b : Book) → Fits (part b) s.ends.members s.chances s.links →
      let heard = hear end (event.Bytes w.link piece) s in Fits (part (note_at (Some end) w piece s after b)) heard.state.ends.members heard.state.chances s.links
  every_comes end w piece s after b fits =
      every_noted (λ (one : EndId) (step : EndStep) (now : Book). DrawsOn s.chances step.chances → Fits (part now) step.ends.members step.chances s.links) w piece s after b (λ one draws. fits)
      (λ at c is draws. others_keep (part b) _ s.ends.members s.chances _ s.links (keeps.of.every c at w piece s after b) draws fits)
      (λ at m is draws. keeps.comes m at w piece s after b is fits)
      (λ at c is draws. others_keep (part b) _ s.ends.members s.chances _ s.links (keeps.of.clients c at w piece s b) draws fits) end
      (every_draws end (event.Bytes w.link piece) s.moment s.ends s.chances)

  every_keeps : KeepsEndsBy every OfEvery
  every_keeps = record {
    calm = λ at on end what s given b calm fits. every_hears (part b) end what s (calm_quiet what calm) fits;
    dialled = λ at end link s given b side fits. every_hears (part b) end (event.Dialled link) s tt fits;
    opens = λ at route s given b fits. every_opens (part b) route s fits;
    begins = λ at client plan s b is fits. fits;
    comes = λ end w piece s given b side came fits. every_comes end w piece s (hear_and_act end (event.Bytes w.link piece) s).state b fits;
    renews = λ at end s b fits.
        renew_by (λ (one : EndId) (ends : EndStates). Fits (part b) ends.members s.chances s.links) s (λ one. fits) (λ k c is. fits)
        (λ k plan is. keeps.anew (part b) plan k s.ends.members s.chances s.links fits) (λ k plan is. fits) end;
    changes = λ at member secret s b fits.
        by_change (λ (ends : EndStates) (actions : List Action). Fits (part b) ends.members s.chances s.links) member secret s.ends fits
        (λ running is none. keeps.changes (part b) secret running member s.ends.members s.chances s.links is none fits);
    over = λ at on next s given b fits. subst (λ (x : X). Fits x s.ends.members s.chances s.links) (sym (keeps.given at given s b)) fits;
  }

  -- in every run of a plain plan
  pub members_after : (plan : Plan) (moves : List Move) → IsPlainPlan plan → Fits (part blank) (plain_world plan).state.ends.members (plain_world plan).state.chances (plain_world plan).state.links →
      Fits (part (past plan moves).book) (past plan moves).world.state.ends.members (past plan moves).world.state.chances (past plan moves).world.state.links
  members_after plan moves nothing fits = every_ends_after OfEvery every_keeps plan moves nothing (λ on. fits)

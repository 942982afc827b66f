-- Another member's calls are of another computer. It serves `Proved.never_apart`.
use Rattle.std.proofs.Common.{◌≡◌, ◌≢◌, ℕ, ◌+◌, ◌≤◌, Bool, List, [], ◌∷◌, ◌++◌, length, drop, inl, inr, Option, Some, None, Result, Ok, Err, slice_get, sym, ap, subst, ◌∙◌, arith}
use Rattle.wire_base.specs.Names.{SameName}
use Rattle.outside.specs.Machine.{Part}
use Rattle.outside.specs.declared.action.StepRefused.{StepRefused}
use Rattle.outside.specs.declared.event.Event.TheVariants as event
use Rattle.authenticators.specs.Channels.{ChannelIdentity}
use Rattle.channel_client.specs.Effects.{Answers, Begins, Calls, Changes, Counts, Drops, Effect, Moves, Opens, Stays, View, effect_of_take, view_of}
use Rattle.channel_client.specs.Machine.{take_of}
use Rattle.channel_client.specs.State.{Requester}
use Rattle.channel_client.specs.declared.caller.Caller.{Caller}
use Rattle.channel_client.proofs.EffectLaws.{steps_have_effects}
use Rattle.channel_events.specs.AcceptedOrder.{IsOf}
use Rattle.channel_events.specs.Marks.{Calling, Mark, Opening, Plain}
use Rattle.wire_base.proofs.ListLaws.{at_end}
use Rattle.channel_turns.specs.declared.state.Dialling.TheVariants as dialling
use Rattle.member_server.specs.Machine.{event_part}
use Rattle.member_server.specs.State.{State as MemberState}
use Rattle.member_server.specs.Turns.{DialWork}
use Rattle.member_server.specs.declared.state.Running.{Running}
use Rattle.step_notes.specs.ChannelNames.{passed_note}
use Rattle.step_notes.specs.EffectNotes.{IsNotedBy, opening_out_of}
use Rattle.step_notes.specs.MemberNotes.{TurnNote, no_note, request_note, taking_note}
use Rattle.step_notes.specs.Records.{Book, OfMember}
use Rattle.step_notes.proofs.Channels.EffectNoteLaws.{steps_are_noted}
use Rattle.world_moves.specs.declared.links.EndId.TheVariants.{Member}
use Rattle.world_moves.specs.declared.plan.Plan.{Plan}
use Rattle.world_moves.specs.declared.state.State.{State}
use Rattle.world_moves.specs.Acting.{Given}
use Rattle.domain_world.specs.Accepting.Carried.{IsWholeUnit}
use Rattle.domain_world.specs.Accepting.Runs.{NothingIsOpen, IsQuietTurn}
use Rattle.domain_world.specs.Accepting.SeenSteps.{Differ, IfPlaced, Placed, PlacedBy}
use Rattle.domain_world.specs.Claims.NeverApart.{BeginsAlike}
use Rattle.domain_world.specs.Past.{Delivery, controller_asked, note_member}
use Rattle.domain_world.proofs.Acceptance.LetInStepLaws.{IsDialledBy}
use Rattle.domain_world.proofs.Quiet.QuietRunLaws.{is_quiet}
use Rattle.domain_world.proofs.Apart.NamedPlanLaws.{NamesStand}
use Rattle.domain_world.proofs.Apart.OrderMoveLaws.{has_plan}
use Rattle.domain_world.proofs.Apart.OrderSuitLaws.{stands_named}
use Rattle.domain_world.proofs.Apart.TogetherBookLaws.{Pairing}
use Rattle.domain_world.proofs.Apart.TogetherFrameLaws.{HasHelp, asker_for, elsewhere_marks, marks_of_step, noted_marks}
use Rattle.domain_world.proofs.Apart.TogetherRunLaws.{Beneath, asks_alone, pairing_of}
use Rattle.domain_world.proofs.Apart.TogetherStayLaws.{CallsElsewhere, basis_of, unseen}
use Rattle.domain_world.proofs.Apart.TogetherTakeLaws.{Basis, CallsWere, noted_calls}
use Rattle.domain_world.proofs.Moves.ComingLaws.{CameFrom}
use Rattle.domain_world.proofs.Moves.OpenMadeLaws.{IsAtSide}
use Rattle.domain_world.proofs.Calls.CallComesLaws.{IsWhole, served, turn, units_whole}
use Rattle.domain_world.proofs.Calls.CallFrameLaws.{came_whole, dialled_on, turn_case}
use Rattle.domain_world.proofs.Calls.CallHoldsLaws.{CallsHold, marks_in}
use Rattle.domain_world.proofs.Calls.CallStepLaws.{most_steps}
use Rattle.domain_world.proofs.Calls.LooserLaws.{calls_before, placed_as}
use Rattle.domain_world.proofs.Calls.OutStepLaws.{MemberHolds}
use Rattle.domain_world.proofs.Calls.WholeNotedLaws.{placed_part}
use Rattle.domain_world.proofs.Frames.MoveKeepLaws.{coming}

-- ---- by the marks that are written down

all_were : (b : Basis) (later marks : List Mark) → CallsWere later marks → CallsElsewhere b later marks
all_were b later marks were unit number timestamp c there = inl (were unit number timestamp c there)

call_placed : (b : Basis) (marks more : List Mark) (c : ChannelIdentity) (number timestamp : ℕ) → (IsOf b.controller b.computer c → ⊥) → IfPlaced (Calling c number timestamp) more →
    CallsElsewhere b (marks ++ more) marks
call_placed b marks more c number timestamp other (inl none) unit called stamp d there = inl (calls_before marks more none unit called stamp d there)
call_placed b marks more c number timestamp other (inr is) unit called stamp d there =
    elim (at_end (marks ++ is.front) (Calling c number timestamp) (Calling d called stamp) unit
    (calls_before ((marks ++ is.front) ++ Calling c number timestamp ∷ []) is.rest is.behind unit called stamp d
    (subst (λ (all : List Mark). slice_get all unit ≡ Some (Calling d called stamp)) (sym (placed_as marks more (Calling c number timestamp) is)) there))) [
      | inl old ↦ inl (calls_before marks is.front is.before unit called stamp d old)
      | inr new ↦
          let same : d ≡ c = (let its = new.1 in cc) in
          inr (λ of. other (subst (λ (x : ChannelIdentity). IsOf b.controller b.computer x) same of))
    ]

effect_elsewhere : (b : Basis) (effect : Effect) (note : TurnNote) (u v : View) (old new : Bool) (marks more : List Mark) → Changes effect u v → IsNotedBy effect note u v old new →
    ((c : ChannelIdentity) → u.stands ≡ Some c → IsOf b.controller b.computer c → ⊥) → Placed note.sends note.mark more → CallsElsewhere b (marks ++ more) marks
effect_elsewhere b Stays note u v old new marks more change noted other placed = all_were b (marks ++ more) marks (noted_calls note no_note marks more noted.0 tt placed)
effect_elsewhere b Counts note u v old new marks more change (inl plain) other placed =
    all_were b (marks ++ more) marks (noted_calls note (request_note Plain None) marks more plain.0 tt placed)
effect_elsewhere b Counts note u v old new marks more change (inr out) other placed =
    all_were b (marks ++ more) marks (noted_calls note (request_note (Opening out.channel u.call) None) marks more out.is tt placed)
effect_elsewhere b (Begins client) note u v old new marks more change noted other placed = absurd noted
effect_elsewhere b (Opens c) note u v old new marks more change noted other placed = all_were b (marks ++ more) marks (noted_calls note (passed_note c None None) marks more noted tt placed)
effect_elsewhere b (Moves c timestamp) note u v old new marks more change noted other placed = absurd noted
effect_elsewhere b (Calls c number) note u v old new marks more change noted other placed =
    call_placed b marks more c number noted.0 (other c change.0) (subst (λ (n : TurnNote). Placed n.sends n.mark more) noted.2 placed)
effect_elsewhere b (Answers c number) note u v old new marks more change noted other placed =
    all_were b (marks ++ more) marks (noted_calls note (passed_note c noted.0 (Some number)) marks more noted.1 tt placed)
effect_elsewhere b Drops note u v old new marks more change noted other placed = all_were b (marks ++ more) marks (noted_calls note no_note marks more noted tt placed)

part_elsewhere : (b : Basis) (part : Result (Part DialWork) StepRefused) (effect : Effect) (note : TurnNote) (u v : View) (old new : Bool) (marks more : List Mark) → Changes effect u v →
    IsNotedBy effect note u v old new → ((c : ChannelIdentity) → u.stands ≡ Some c → IsOf b.controller b.computer c → ⊥) → PlacedBy part note more → CallsElsewhere b (marks ++ more) marks
part_elsewhere b (Err why) effect note u v old new marks more change noted other placed = all_were b (marks ++ more) marks (calls_before marks more placed)
part_elsewhere b (Ok part) effect note u v old new marks more change noted other placed = effect_elsewhere b effect note u v old new marks more change noted other placed

-- ---- another member's step

module _ (plan : Plan) (member : ℕ) (begins : BeginsAlike plan member) (place : ℕ) (asks : ℕ → Option (List ℕ)) where
  abbrev p : Pairing
  p = pairing_of plan member begins place asks

  not_its : (at : ℕ) (running : Running) (s : State) (name : List ℕ) → at ≢ member → slice_get s.ends.members at ≡ Some (record { running = Some running }) → NamesStand plan s →
      name ≡ running.logons.plan.computer → SameName name begins.own.computer → ⊥
  not_its at running s name apart is names its same =
      let own = has_plan plan (asker_for p) (asks_alone plan member begins) s names at (record { running = Some running }) is in
      let named : running.logons.plan.computer ≡ own.0.computer = names.named at (record { running = Some running }) own.0 is own.1 in
      asks_alone plan member begins at own.0 own.1 apart (subst (λ (one : List ℕ). SameName one begins.own.computer) (its ∙ named) same)

  whole_elsewhere : (n at : ℕ) (running : Running) (w : Delivery) (piece : List ℕ) (s after : State) (b : Book) (whole : IsWhole w.link piece running) → at ≢ member →
      slice_get s.ends.members at ≡ Some (record { running = Some running }) → NamesStand plan s →
      MemberHolds s.links b.sent b.messages (controller_asked (OfMember at) s) at (Some running) →
      CallsElsewhere (basis_of p unseen b) (marks_in (note_member (Some (record { running = Some running })) at w piece s after b).sent) (marks_in b.sent)
  whole_elsewhere n at running w piece s after b whole apart is names own =
      let m : MemberState = record { running = Some running } in
      let c : Requester = running.logons.channel in
      let its : ℕ = controller_asked (OfMember at) s in
      let more : List Mark = marks_of_step p at m w piece s after in
      let other : (d : ChannelIdentity) → (view_of its c).stands ≡ Some d → IsOf p.controller p.computer d → ⊥ =
      λ d stands of. not_its at running s d.computer apart is names (stands_named its c.caller.computer c.standing d stands ∙ ap (λ (x : Caller). x.computer) own.asks.caller) of.computer_is in
      subst (λ (marks : List Mark). CallsElsewhere (basis_of p unseen b) marks (marks_in b.sent)) (sym (noted_marks p at m w piece s after b))
      (part_elsewhere (basis_of p unseen b) (event_part running (event.Bytes w.link piece) s.moment s.chances.left) (effect_of_take its c whole.unit)
      (taking_note (Some (take_of c whole.unit)) its c) (view_of its c) (view_of its (take_of c whole.unit).state) (opening_out_of c) (opening_out_of (take_of c whole.unit).state) (marks_in b.sent) more
      (steps_have_effects.take its c whole.unit own.asks.coherent).0 (steps_are_noted.take its c whole.unit own.asks.coherent) other
      (placed_part its (turn n at w piece s after b running whole) whole.unit (event_part running (event.Bytes w.link piece) s.moment s.chances.left) w.link (drop (length s.bag) after.bag) s.chances.left
      (served n at w piece s after b running whole) (units_whole n at w piece s after b running whole)))

  pub others_fit : (n at : ℕ) (m : MemberState) (w : Delivery) (piece : List ℕ) (s after : State) (given : Given) (b : Book) → at ≢ member → slice_get s.ends.members at ≡ Some m →
      IsAtSide s.links w.link w.back (Member at) → CameFrom w.source s w piece → length b.sent ≡ length s.bag → HasHelp p n [] s given b →
      Beneath plan member begins place asks n (coming w) s given b → n + 1 ≤ most_steps → Differ s.chances.drawn →
      CallsElsewhere (basis_of p unseen b) (marks_in (note_member (Some m) at w piece s after b).sent) (marks_in b.sent)
  others_fit n at m w piece s after given b apart is here came even help known few differ =
      let holds : CallsHold n s.member_plans s.ends s.chances.drawn s.links b.sent b.messages = help.calls (omega (arith, few)) differ in
      let quiet : NothingIsOpen s = is_quiet s known.0.0.0.1.0.0.0.0 in
      elim (turn_case m.running w.link) [
        | inl other ↦ all_were (basis_of p unseen b) (marks_in (note_member (Some m) at w piece s after b).sent) (marks_in b.sent) (elsewhere_marks p at m w piece s after b other)
        | inr on ↦
            let runs : MemberState = record { running = Some on.running } in
            let same : m ≡ runs = ap (λ (r : Option Running). record { running = r }) on.runs in
            let dialled : IsDialledBy s.links at w.link = dialled_on _ (λ number. IsDialledBy s.links at number) m.running w.link on (holds.members at m is).kept in
            let unit : IsWholeUnit piece = came_whole w.source s w piece at came dialled quiet.bag in
            let calm : IsQuietTurn (dialling.On w.link on.said) = subst IsQuietTurn on.on (quiet.members at m on.running is on.runs) in
            let whole : IsWhole w.link piece on.running =
            record { said = on.said; on = on.on; rest = calm.0; none = calm.1; frames = unit.frames; unit = unit.unit; heard = unit.heard } in
            let there : slice_get s.ends.members at ≡ Some runs = is ∙ ap (λ (x : MemberState). Some x) same in
            subst (λ (x : MemberState). CallsElsewhere (basis_of p unseen b) (marks_in (note_member (Some x) at w piece s after b).sent) (marks_in b.sent)) (sym same)
            (whole_elsewhere n at on.running w piece s after b whole apart there known.0.0.0.1.0.1 (holds.members at runs there))
      ]

-- Through all moves, the answer of each message was taken in its turn, its outcome is told, and whoever is let in is
-- let in by an answer that was taken in its turn: three of the facts of `UnitsAreHeard`. What they rest on is
-- `TurnSide` of TurnSideLaws. It serves `schedules_are_heard`.
use Rattle.std.proofs.Common.{◌≡◌, ℕ, zero, suc, ◌+◌, List, [], ◌∷◌, map, length, Some, refl, sym, subst, ◌∙◌, slice_get, true, false, ◌++◌}
use Rattle.std.proofs.lemmas.List.{append-nil, length-set}
use Rattle.std.specs.List.{AllByRecursion}
use Rattle.outside.specs.declared.event.Event.{Event}
use Rattle.outside.specs.declared.event.Event.TheVariants as event
use Rattle.logon_client.specs.declared.plan.ClientPlan.{ClientPlan}
use Rattle.member_server.specs.Machine.{fresh_member}
use Rattle.member_server.specs.State.{State as MemberState}
use Rattle.member_server.specs.declared.plan.MemberPlan.{MemberPlan}
use Rattle.wire_base.specs.Lists.{OneOf}
use Rattle.wire_base.proofs.ListLaws.{all_weaker, got_append, got_nothing, one_weaker, some_is, one_found}
use Rattle.step_notes.specs.Records.{Book, MessageTaken, OutcomeTold, Sent, blank, unit_in}
use Rattle.step_notes.proofs.Members.KeptLogonLaws.{Dials, KeptIn}
use Rattle.world_moves.specs.declared.bag.BagUnit.{BagUnit}
use Rattle.world_moves.specs.declared.links.EndId.{EndId}
use Rattle.world_moves.specs.declared.links.EndId.TheVariants.{Controller, Client, Member}
use Rattle.world_moves.specs.declared.moves.Move.{Move}
use Rattle.world_moves.specs.declared.plan.Plan.{Plan}
use Rattle.world_moves.specs.declared.state.State.{State}
use Rattle.world_moves.specs.Acting.{Given, forget, given_by, heard_by, perform_quietly, shut_link}
use Rattle.world_moves.specs.Counting.{is_in}
use Rattle.world_moves.specs.Ends.{EndStates, EndStep, client_step, no_step}
use Rattle.world_moves.specs.Links.{acceptor_of}
use Rattle.world_moves.specs.MemberPlans.{AreAlikeButSecrets}
use Rattle.world_moves.specs.Moving.{answered_link, begun, settle, tick, with_link, without_first, changed as change_begun}
use Rattle.world_moves.specs.World.{World}
use Rattle.world_moves.specs.Alone.{IsPlainAlone, alone_controller_step as controller_step, hear_alone as hear}
use Rattle.world_moves.specs.Plain.{plain_world}
use Rattle.domain_world.specs.Accepting.Carried.{IsAnswerFor, IsAnsweredInTurn, IsTakenInTurn}
use Rattle.domain_world.specs.Accepting.ReadBack.{IsLetInInTurn, IsToldInTurn, TurnsAreHeard}
use Rattle.domain_world.specs.Past.{Delivery, Past, any_clash, note_client, note_given, past, told_in}
use Rattle.domain_world.proofs.Frames.AloneNoteLaws.{alone_answers as answers_of, note_alone as note_at, note_controller_alone as note_controller}
use Rattle.domain_world.proofs.Frames.AloneStepLaws.{act_alone as hear_and_act, renewed_alone as renewed}
use Rattle.domain_world.proofs.Acceptance.Turns.TurnFactLaws.{Any, AreApart, GrowsTo, HasFree, IsAnswered, IsKnown, KeepFree, MarksAreKnown, SameEnds, TurnFacts, apart_from, let_in_stays, marks_before, past_at, taken_stays, told_stays, world_in}
use Rattle.domain_world.proofs.Acceptance.Turns.TurnNotedLaws.{or_false}
use Rattle.domain_world.proofs.Acceptance.Turns.TurnQuietLaws.{change_same, change_stays, action_still, acts_stay, changed_stays, hear_grows, others_hear, others_tell, over_grows, over_stays, quiet_hears, renew_same, renew_stays, same_ends, step_same, told_yet}
use Rattle.domain_world.proofs.Acceptance.Turns.TurnMarkLaws.{marks_known}
use Rattle.domain_world.proofs.Acceptance.Turns.TurnSideLaws.{TurnSide, member_comes}
use Rattle.domain_world.proofs.Messages.MessageApartLaws.{links_in, messages_apart}
use Rattle.domain_world.proofs.Moves.ComingLaws.{CameFrom, StillHas, kept_same, kept_settled}
use Rattle.domain_world.proofs.Moves.OpenMadeLaws.{IsAtSide}
use Rattle.domain_world.proofs.Frames.StepFrameLaws.{AnyAction, all_any, HasHeard, StepKeeps, RunFact}
use Rattle.domain_world.proofs.Frames.EndFrameLaws.{IsCalm, by_calm}
use Rattle.domain_world.proofs.Frames.EndNoteLaws.{noted_by}
use Rattle.world_moves.proofs.KeptLaws.{plans_alike}

-- ---- what is to hold

-- what it rests on
abbrev pub TurnsRestOn : Plan → RunFact
TurnsRestOn plan n s given b = TurnSide plan s b

-- The plans of the members stay but for their secrets; and where there was no clash, no two messages came on one link,
-- and what goes back was made by controllers that are there, which all hold of what is earlier where they hold of what
-- is later, the facts hold, of what was told also in this move.
abbrev pub TurnsHold : Plan → RunFact
TurnsHold plan n s given b = AreAlikeButSecrets plan.members s.member_plans × (b.clash ≡ false → AreApart (links_in b.messages) → MarksAreKnown s b → TurnFacts plan s b b.messages b.answers (told_yet given b))

calm_dials : (what : Event) → IsCalm what → Dials Any what
calm_dials = by_calm (Dials Any) (λ link. tt) tt tt

-- ---- through all moves

module _ (plan : Plan) where
  quietly : (n : ℕ) (end : EndId) (what : Event) (s : State) (given : Given) (b : Book) → Dials Any what → TurnsHold plan n s given b → HasHeard (TurnsHold plan) AnyAction (n + 1) end (hear end what s) given b
  quietly n end what s given b dials holds = record {
    holds = (
      holds.0,
      λ unclashed apart marks.
          quiet_hears plan end what s given b dials (holds.1 unclashed apart (marks_before s (hear end what s).state b b (hear_grows end what s b b (λ k one there. there)) marks)),
    );
    fine = all_any (hear end what s).actions;
  }

  changed : (n : ℕ) (s t : State) (given : Given) (b : Book) → AreAlikeButSecrets s.member_plans t.member_plans → StillHas s.bag t.bag → SameEnds s.ends t.ends →
      (TurnFacts plan s b b.messages b.answers (told_yet given b) → TurnFacts plan t b b.messages b.answers (told_yet given b)) → TurnsHold plan n s given b → TurnsHold plan n t given b
  changed n s t given b plans still same so holds =
      (plans ∙ holds.0, λ unclashed apart marks. so (holds.1 unclashed apart (marks_before s t b b (record { bag = still; sent = λ k one there. there; ends = same }) marks)))

  -- neither the bag nor an end is changed
  beside : (n : ℕ) (s t : State) (given : Given) (b : Book) → AreAlikeButSecrets s.member_plans t.member_plans → t.bag ≡ s.bag → t.ends ≡ s.ends → TurnsHold plan n s given b → TurnsHold plan n t given b
  beside n s t given b plans bag ends =
      let still : StillHas s.bag t.bag = subst (λ (x : List BagUnit). StillHas s.bag x) (sym bag) (kept_same s.bag) in
      let same : SameEnds s.ends t.ends = subst (λ (x : EndStates). SameEnds s.ends x) (sym ends) (same_ends s.ends) in
      changed n s t given b plans still same
      (λ facts. changed_stays plan s t given b still same (subst (λ (x : EndStates). KeepFree x.members b.messages) (sym ends) facts.free) facts)

  -- ---- bytes come

  -- at an end that tells of no logon
  others_come : (end : EndId) (step : EndStep) (s : State) (given : Given) (b d : Book) → step.ends.members ≡ s.ends.members → told_in (given_by end step.actions) 0 ≡ [] →
      ((k : ℕ) (one : Sent) → slice_get b.sent k ≡ Some one → slice_get d.sent k ≡ Some one) → d.told ≡ b.told → SameEnds s.ends step.ends →
      (MarksAreKnown s b → TurnFacts plan s b b.messages b.answers (told_yet given b)) → MarksAreKnown (heard_by step s).state d →
      TurnFacts plan (heard_by step s).state d b.messages b.answers (told_yet (given ++ given_by end step.actions) d)
  others_come end step s given b d members none sent told same facts marks =
      let grows : GrowsTo s (heard_by step s).state b d = record { bag = kept_same s.bag; sent = sent; ends = same } in
      others_hear plan s (heard_by step s).state b d given (given_by end step.actions) grows members told none (facts (marks_before s (heard_by step s).state b d grows marks))

  end_comes : (end : EndId) (n : ℕ) (w : Delivery) (piece : List ℕ) (s after : State) (given : Given) (b : Book) → IsAtSide s.links w.link w.back end → CameFrom w.source s w piece → TurnSide plan s b →
      TurnsHold plan n s given b → HasHeard (TurnsHold plan) AnyAction (n + 1) end (hear end (event.Bytes w.link piece) s) given (note_at (Some end) w piece s after b)
  end_comes end n w piece s after given b side came rests holds =
      let what : Event = event.Bytes w.link piece in
      noted_by (λ (one : EndId) (step : EndStep) (now : Book).
      IsAtSide s.links w.link w.back one → SameEnds s.ends step.ends → HasHeard (TurnsHold plan) AnyAction (n + 1) one (heard_by step s) given now) w piece s after b
      (λ one there same. record {
        holds = (
          holds.0,
          λ unclashed apart marks. others_come one (no_step s.ends s.chances) s given b b refl refl (λ k sent is. is) refl same (λ before. holds.1 unclashed apart before) marks,
        );
        fine = tt;
      })
      (λ at c is there same. record {
        holds = (
          holds.0,
          λ unclashed apart marks.
              others_come (Controller at) (controller_step (Some c) at what s.moment s.ends s.chances) s given b (note_controller (Some c) at w piece s after b) refl
              (others_tell (Controller at) refl (controller_step (Some c) at what s.moment s.ends s.chances).actions)
              (λ k sent got. got_append b.sent _ k sent got) refl same (λ before. holds.1 (or_false b.clash (any_clash (answers_of at c w piece s) (unit_in w.source) b.sent) unclashed).0 apart before) marks,
        );
        fine = all_any _;
      })
      (λ at m is there same. record {
        holds = (holds.0, λ unclashed apart marks. member_comes plan at w piece s after given b rests m is came there holds.0 unclashed apart marks holds.1);
        fine = all_any _;
      })
      (λ at c is there same. record {
        holds = (
          holds.0,
          λ unclashed apart marks.
              others_come (Client at) (client_step (Some c) at what s.moment s.ends s.chances) s given b (note_client (Some c) at w piece s b) refl
              (others_tell (Client at) refl (client_step (Some c) at what s.moment s.ends s.chances).actions)
              (λ k sent got. got) refl same (λ before. holds.1 unclashed apart before) marks,
        );
        fine = all_any _;
      }) end side (step_same end what s.moment s.ends s.chances)

  -- a client begins
  client_begins : (n client : ℕ) (own : ClientPlan) (s : State) (given : Given) (b : Book) → TurnsHold plan n s given b →
      HasHeard (TurnsHold plan) AnyAction (n + 1) (Client client) (begun client own s) given b
  client_begins n client own s given b holds = record {
    holds = (
      holds.0,
      λ unclashed apart marks.
          (let grows : GrowsTo s (begun client own s).state b b = record {
            bag = kept_same s.bag;
            sent = λ k one there. there;
            ends = record { controllers = refl; members = refl; clients = sym (length-set s.ends.clients client _); stations = refl };
          } in
          others_hear plan s (begun client own s).state b b given (given_by (Client client) (begun client own s).actions) grows refl refl (others_tell (Client client) refl (begun client own s).actions)
          (holds.1 unclashed apart (marks_before s (begun client own s).state b b grows marks))),
    );
    fine = all_any (begun client own s).actions;
  }

  -- a member begins to change its secret
  changing : (n member : ℕ) (secret : List ℕ) (s : State) (given : Given) (b : Book) → TurnsHold plan n s given b →
      HasHeard (TurnsHold plan) AnyAction (n + 1) (Member member) (change_begun member secret s) given b
  changing n member secret s given b holds = record {
    holds = (
      holds.0,
      λ unclashed apart marks.
          change_stays plan member secret s given b
          (holds.1 unclashed apart
          (marks_before s (change_begun member secret s).state b b (record { bag = kept_same s.bag; sent = λ k one there. there; ends = change_same member secret s }) marks)),
    );
    fine = all_any (change_begun member secret s).actions;
  }

  -- through all moves
  pub turns_keep : StepKeeps (TurnsRestOn plan) (TurnsHold plan) AnyAction
  turns_keep = record {
    calm = λ n end what s given b calm rests holds. quietly n end what s given b (calm_dials what calm) holds;
    dialled = λ n end link s given b side rests holds. quietly n end (event.Dialled link) s given b tt holds;
    opens = λ n route s given b rests holds.
        quietly n (acceptor_of route) (event.Opened (length s.links)) (with_link route s) given b tt (beside n s (with_link route s) given b refl refl refl holds);
    begins = λ n client own s given b is rests holds. client_begins n client own s given b holds;
    comes = λ n end w piece s given b side came bytes marked rests holds.
        end_comes end n w piece s (hear_and_act end (event.Bytes w.link piece) s).state given b side came rests holds;
    acts = λ n end what s given b fine rests holds.
        changed n s (perform_quietly end what s) given b (plans_alike end what s.member_plans) (action_still end what s) (same_ends s.ends) (acts_stay plan end what s given b) holds;
    shuts = λ n link s given b rests holds. beside n s (shut_link link s) given b refl refl refl holds;
    answers = λ n link there s given b is rests holds. beside n s (answered_link link there s) given b refl refl refl holds;
    forgets = λ n end s given b rests holds. beside n s (forget end s) given b refl refl refl holds;
    settles = λ n number s given b rests holds.
        changed n s (settle number s) given b refl (kept_settled number s.bag) (same_ends s.ends)
        (λ facts. changed_stays plan s (settle number s) given b (kept_settled number s.bag) (same_ends s.ends) facts.free facts) holds;
    dials = λ n s given b rests holds. beside n s (without_first s) given b refl refl refl holds;
    renews = λ n end s given b rests holds. changed n s (renewed end s) given b refl (kept_same s.bag) (renew_same end s) (renew_stays plan end s given b) holds;
    changes = λ n member secret s given b rests holds. changing n member secret s given b holds;
    ticks = λ n more s given b rests holds. beside n s (tick more s) given b refl refl refl holds;
    over = λ n at s given b rests holds.
        (holds.0, λ unclashed apart marks. over_stays plan at s given b (holds.1 unclashed apart (marks_before s s b (note_given at given s b) (over_grows at given s b) marks)));
  }

-- ---- the first world

fresh_kept : (plans : List MemberPlan) (Kept : MemberState → Type 0) → ((own : MemberPlan) → Kept (fresh_member own)) → (k : ℕ) (m : MemberState) → slice_get (map fresh_member plans) k ≡ Some m → Kept m
fresh_kept [] Kept fresh k m there = absurd (got_nothing k m there)
fresh_kept (own ∷ plans) Kept fresh zero m there = subst Kept (some_is (fresh_member own) m there) (fresh own)
fresh_kept (own ∷ plans) Kept fresh (suc k) m there = fresh_kept plans Kept fresh k m there

pub turns_begin : (plan : Plan) → TurnsHold plan 0 (plain_world plan).state [] blank
turns_begin plan = (
  refl,
  λ unclashed apart marks. record {
    taken = tt;
    answered = tt;
    let_in = tt;
    free = λ k m there. fresh_kept plan.members (λ (x : MemberState). KeptIn (HasFree k []) Any x.running) (λ own. (tt, tt)) k m there;
  },
)

-- ---- what it comes to

pub turns_of : (n : ℕ) (plan : Plan) (moves : List Move) → IsPlainAlone plan → TurnsHold plan n (past plan moves).world.state [] (past plan moves).book → TurnsAreHeard (past plan moves)
turns_of n plan moves nobody holds =
    let p : Past = past plan moves in
    let b : Book = p.book in
    let s : State = p.world.state in
    let v : World = world_in s in
    let grows : GrowsTo s s b b = record { bag = kept_same s.bag; sent = λ k one there. there; ends = same_ends s.ends } in
    let facts : b.clash ≡ false → TurnFacts plan s b b.messages b.answers b.told = λ unclashed.
    subst (λ (told : List OutcomeTold). TurnFacts plan s b b.messages b.answers told) (append-nil b.told) (holds.1 unclashed (apart_from b.messages (messages_apart plan moves nobody.plain)) (marks_known plan moves nobody)) in
    let taken : b.clash ≡ false → AllByRecursion (IsTakenInTurn p) b.answers = λ unclashed.
    all_weaker (IsTakenInTurn (past_at plan s b)) (IsTakenInTurn p) b.answers (taken_stays plan v p.world b b grows) (facts unclashed).taken in
    record {
      taken = taken;
      answered = λ unclashed.
          all_weaker (IsAnswered plan s b b.answers b.told) (λ (message : MessageTaken). (u : ℕ) → message.reply ≡ Some u → OneOf (IsAnswerFor message u) b.answers) b.messages
          (λ message answered u reply. (answered u reply).0) (facts unclashed).answered;
      turns = λ unclashed.
          all_weaker (IsAnswered plan s b b.answers b.told) (λ (message : MessageTaken). (u : ℕ) → message.reply ≡ Some u → IsAnsweredInTurn p message u) b.messages
          (λ message answered u reply.
          let found = one_found (IsAnswerFor message u) (IsTakenInTurn p) b.answers (taken unclashed) (answered u reply).0 in
          record { taken = found.0; is = found.1; turn = found.2 }) (facts unclashed).answered;
      told = λ unclashed.
          all_weaker (IsAnswered plan s b b.answers b.told)
          (λ (message : MessageTaken). (u : ℕ) → message.reply ≡ Some u → OneOf (λ (told : OutcomeTold). IsToldInTurn p message u told) b.told) b.messages
          (λ message answered u reply.
          one_weaker (λ (told : OutcomeTold). IsToldInTurn (past_at plan s b) message u told) (λ (told : OutcomeTold). IsToldInTurn p message u told) b.told
          (told_stays plan v p.world b b grows message u) (answered u reply).1) (facts unclashed).answered;
      let_in = λ unclashed.
          all_weaker (IsKnown plan s b b.messages) (λ (told : OutcomeTold). is_in told.outcome ≡ true → OneOf (λ (message : MessageTaken). IsLetInInTurn p told message) b.messages) b.told
          (λ told known is.
          one_weaker (λ (message : MessageTaken). IsLetInInTurn (past_at plan s b) told message) (λ (message : MessageTaken). IsLetInInTurn p told message) b.messages
          (let_in_stays plan v p.world b b grows told) (known is)) (facts unclashed).let_in;
    }

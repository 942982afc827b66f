-- What a step leaves, of what holds by the rules, and what is held then. P is a premise: that what was held before were
-- requests.
use Rattle.std.proofs.Common.{◌≡◌, ℕ, Bool, true, false, List, [], ◌∷◌, ◌++◌, Option, Some, None, Result, Ok, Err, refl, subst, if◌then◌else◌}
use Rattle.wire_base.specs.Maps.{put, take_out, has_key, same_number}
use Rattle.outside.specs.declared.action.Action.{Action}
use Rattle.outside.specs.declared.action.Action.TheVariants as action
use Rattle.outside.specs.declared.action.CloseCause.TheVariants as close
use Rattle.outside.specs.declared.action.DropCause.{DropCause}
use Rattle.outside.specs.declared.action.DropCause.TheVariants as drop_cause
use Rattle.outside.specs.declared.action.StepRefused.{StepRefused}
use Rattle.outside.specs.declared.event.Event.{Event}
use Rattle.outside.specs.Machine.{Part}
use Rattle.rpc_units.specs.declared.unit.Unit.{Unit as RpcUnit}
use Rattle.rpc_units.specs.Stream.{Cut, cut_stream}
use Rattle.rpc_units.specs.Writing.{written}
use Rattle.end_links.specs.Binding.{nak_of}
use Rattle.end_links.specs.Links.{LinkState}
use Rattle.end_links.specs.Sending.{joined_frames}
use Rattle.end_links.specs.Serving.{ServedPart, served_cut}
use Rattle.end_links.proofs.KeepLaws.{StaysServing, served_stays}
use Rattle.channel_client.specs.declared.answers.Taken.{Taken}
use Rattle.channel_client.specs.declared.answers.Taken.TheVariants as taken
use Rattle.channel_client.specs.Machine.{lose_of, take_of}
use Rattle.member_server.specs.declared.outcomes.Ending.{Ending}
use Rattle.member_server.specs.declared.outcomes.Ending.TheVariants as ending
use Rattle.member_server.specs.declared.state.AtLink.{AtLink}
use Rattle.member_server.specs.declared.state.Bound.{Bound}
use Rattle.channel_turns.specs.declared.state.Dialling.{Dialling}
use Rattle.member_server.specs.declared.state.Logon.{Logon}
use Rattle.member_server.specs.declared.state.Phase.{Phase}
use Rattle.member_server.specs.declared.state.Phase.TheVariants as phase
use Rattle.member_server.specs.declared.state.Running.{Running}
use Rattle.member_server.specs.declared.state.Talk.{Talk}
use Rattle.channel_turns.specs.declared.state.TurnEnd.{TurnEnd}
use Rattle.channel_turns.specs.declared.state.TurnEnd.TheVariants as turn_end
use Rattle.channel_turns.proofs.KeepLaws.{end_of}
use Rattle.member_server.specs.declared.state.Work.{Work}
use Rattle.member_server.specs.Binds.{bound_by, challenge_ack}
use Rattle.member_server.specs.Laws.{HoldRequests, HoldsAfter, HoldsRequests, heard_in, is_dialled}
use Rattle.member_server.specs.Machine.{after_units, by_event, event_part, fresh_link, work_of}
use Rattle.member_server.specs.Outcomes.{tell_at, after_link, at_link, end_logon, keep_link, phase_after, tell_outcome, reach_waiting, without_link, without_logon}
use Rattle.member_server.specs.Turns.{end_turn, AtTurn, DialWork, ending_of, keep_ended, lose_turn, timestamp_of, with_requester}
use Rattle.member_server.specs.Units.{is_fresh, link_server, serve_held, unit_by}
use Rattle.member_server.specs.Work.{Served}
use Rattle.member_server.proofs.LinkView.{UnitView, Serves, Naks, Spends, Challenges, Closes, unit_view}
use Rattle.member_server.proofs.OutcomeView.{EndView, Unknown, Tells, Reaches, end_view}
use Rattle.member_server.proofs.QuietLaws.{there}
use Rattle.member_server.proofs.StepFrame.{KeepsEvent, KeepsNext, KeepsTurn, PartHolds, WorkFact, dialled_keeps, each_taken, event_keeps, heard_on, lost_dialled, part_keeps, taken_at}
use Rattle.member_server.proofs.StepRules.{AfterTaken, Ends, EventRules, Holds, LinkRules, StepRules, TurnRules, events_of}
use Rattle.member_server.proofs.UnitSteps.{Fine, bound_fine, held_fine, put_fine, shut_fine}

-- ---- the links

taken_by : (b : Bool) (entry : ℕ × LinkState Talk) (links rest : List (ℕ × LinkState Talk)) → HoldsRequests entry.1.talk.phase → HoldRequests links → HoldRequests rest →
    HoldRequests (if b then links else entry ∷ rest)
taken_by true entry links rest one all more = all
taken_by false entry links rest one all more = (one, more)

taken_holds : (k : ℕ) (links : List (ℕ × LinkState Talk)) → HoldRequests links → HoldRequests (take_out same_number k links)
taken_holds k [] all = tt
taken_holds k (entry ∷ links) all = taken_by (has_key same_number k entry) entry links (take_out same_number k links) all.0 all.1 (taken_holds k links all.1)

put_by : (b : Bool) (k : ℕ) (v : LinkState Talk) (entry : ℕ × LinkState Talk) (links rest : List (ℕ × LinkState Talk)) → HoldsRequests v.talk.phase → HoldsRequests entry.1.talk.phase →
    HoldRequests links → HoldRequests rest → HoldRequests (if b then (k, v) ∷ links else entry ∷ rest)
put_by true k v entry links rest new one all more = (new, all)
put_by false k v entry links rest new one all more = (one, more)

put_holds : (k : ℕ) (v : LinkState Talk) (links : List (ℕ × LinkState Talk)) → HoldsRequests v.talk.phase → HoldRequests links → HoldRequests (put same_number k v links)
put_holds k v [] new all = (new, tt)
put_holds k v (entry ∷ links) new all =
    put_by (has_key same_number k entry) k v entry links (put same_number k v links) new all.0 all.1 (put_holds k v links new all.1)

phase_holds : (how : Ending) (logon : Logon) (bound : Bound) → HoldsRequests (phase_after how logon bound)
phase_holds (ending.Granted info) logon bound = tt
phase_holds (ending.Refused status) logon bound = tt
phase_holds (ending.NoController cause) logon bound = tt

-- what holds then, and what is held
pub record WorkFine (P : Type 0) (K : Holds) (w : Work) : Type 0 where
  pub good : K w.logons w.actions
  pub holds : P → HoldRequests w.links

abbrev pub LinkPart : Type 0 → Holds → ServedPart AtLink Talk → Type 0
LinkPart P K (Err why) = Unit {0}
LinkPart P K (Ok part) = Fine P K part.value

abbrev pub DialWorkPart : Type 0 → (Bool → Holds) → Result (Part DialWork) StepRefused → Type 0
DialWorkPart P G part = PartHolds (λ how w left. WorkFine P (G (is_dialled how)) w) part

-- ---- an accepted link, and the outcome of a logon

module _ (P : Type 0) (K : Holds) (rules : LinkRules K) where
  pub kept_fine : (talk : Option Talk) (rest : List ℕ) (number : ℕ) (at : AtLink) (w : Work) → K at.logons at.actions → (P → HoldsAfter talk) → (P → HoldRequests w.links) →
      WorkFine P K (keep_link talk rest number (after_link at w))
  kept_fine None rest number at w good holds all = record { good = good; holds = all }
  kept_fine (Some talk) rest number at w good holds all =
      record { good = good; holds = λ p. put_holds number (record { rest = rest; talk = talk }) w.links (holds p) (all p) }

  -- ---- an outcome

  waiting_fine : (x : Bound × List (List ℕ)) (link : LinkState Talk) (how : Ending) (logon : Logon) (w : Work) → K w.logons w.actions → (P → HoldRequests w.links) →
      WorkFine P K (reach_waiting x link how logon w)
  waiting_fine x link how logon w good all =
      let at : AtLink = at_link logon.link w in
      let talk : Talk = record { joiner = link.talk.joiner; phase = phase_after how logon x.0 } in
      let served : Served = serve_held x.1 at talk in
      let fine = held_fine P K rules x.1 at talk good (λ p. phase_holds how logon x.0) in
      kept_fine served.1 link.rest logon.link served.0 w fine.good fine.holds all

  ended_fine : (place : ℕ) (how : Ending) (w after : Work) → EndView place how w after → Ends K place how w.logons w.actions → (P → HoldRequests w.links) → WorkFine P K after
  ended_fine place how w after (Unknown none) ends all = record { good = ends.silent; holds = all }
  ended_fine place how w after (Tells logon kept) ends all = record { good = ends.told logon kept; holds = all }
  ended_fine place how w after (Reaches logon link bound held kept found is) ends all =
      waiting_fine (bound, held) link how logon (without_link logon.link (tell_outcome how logon (without_logon place w))) (ends.told logon kept)
      (λ p. taken_holds logon.link w.links (all p))

  pub end_fine : (place : ℕ) (how : Ending) (w : Work) → Ends K place how w.logons w.actions → (P → HoldRequests w.links) → WorkFine P K (end_logon place how w)
  end_fine place how w ends all = ended_fine place how w (end_logon place how w) (end_view place how w) ends all

  -- ---- an accepted link

  fresh_part : (bytes : List ℕ) (joiner : Option RpcUnit) (at : AtLink) (left : List (List ℕ)) (part : ServedPart AtLink Talk) → UnitView bytes joiner at phase.Fresh left part →
      K at.logons at.actions → LinkPart P K part
  fresh_part bytes joiner at left part (Serves (Closes cause may)) good = shut_fine P K rules cause at good
  fresh_part bytes joiner at left part (Naks call) good =
      put_fine P K rules (written (nak_of call)) (record { joiner = joiner; phase = phase.Fresh }) at good (λ p. tt)
  fresh_part bytes joiner at left part Spends good = tt
  fresh_part bytes joiner at left part (Challenges offer call receive contexts challenge is) good =
      put_fine P K rules (written (challenge_ack offer at.logons.plan call receive contexts challenge))
      (record { joiner = joiner; phase = phase.Challenged (bound_by offer receive contexts) challenge offer.flags }) at good (λ p. tt)

  unit_part : (p : Phase) (bytes : List ℕ) (joiner : Option RpcUnit) (at : AtLink) (left : List (List ℕ)) → K at.logons at.actions → (P → HoldsRequests p) →
      LinkPart P K (unit_by (is_fresh p) p bytes joiner at left)
  unit_part phase.Fresh bytes joiner at left good holds =
      fresh_part bytes joiner at left (unit_by true phase.Fresh bytes joiner at left) (unit_view bytes joiner at phase.Fresh left) good
  unit_part (phase.Challenged bound challenge flags) bytes joiner at left good holds = bound_fine P K rules (phase.Challenged bound challenge flags) bytes joiner at good holds
  unit_part (phase.Asked bound place held) bytes joiner at left good holds = bound_fine P K rules (phase.Asked bound place held) bytes joiner at good holds
  unit_part (phase.In on) bytes joiner at left good holds = bound_fine P K rules (phase.In on) bytes joiner at good holds
  unit_part (phase.Out bound status) bytes joiner at left good holds = bound_fine P K rules (phase.Out bound status) bytes joiner at good holds

  pub units_stay : StaysServing link_server (LinkPart P K)
  units_stay = record {
    spent = λ why. tt;
    unit = λ bytes at talk left fine. unit_part talk.phase bytes talk.joiner at left fine.good fine.holds;
    refusal = λ why at talk left fine. shut_fine P K rules close.BadUnit at fine.good;
  }

-- ---- the link of the turn

module _ (P : Type 0) (T : List RpcUnit → Holds) (K : Holds) (link_rules : LinkRules K) (rules : TurnRules T K) where
  lose_fine : (cause : DropCause) (w : Work) → T [] w.logons w.actions → (P → HoldRequests w.links) → WorkFine P K (lose_turn cause w)
  lose_fine cause w good all =
      let losing = lose_of w.logons.channel in
      let how : TurnEnd = turn_end.Dropped losing.place cause in
      let kept : Work = keep_ended how w in
      end_fine P K link_rules losing.place (ending.NoController cause) (keep_ended how (with_requester w losing.state))
      (rules.loses [] kept.logons kept.actions cause (rules.keeps [] w.logons w.actions how good)) all

  -- the turn ends with the unit that was taken
  taken_fine : (what : Taken) (how : TurnEnd) (units : List RpcUnit) (w : Work) → end_of what ≡ Some how → AfterTaken (T units) K what w.logons w.actions →
      (P → HoldRequests w.links) → WorkFine P K (end_turn how w)
  taken_fine (taken.Skip right) how units w is good all = absurd (let x = is in cc)
  taken_fine (taken.Next right frames) how units w is good all = absurd (let x = is in cc)
  taken_fine taken.Half how units w is good all =
      let same : turn_end.Half ≡ how = (let x = is in cc) in subst (λ h. WorkFine P K (end_turn h w)) same (record { good = good; holds = all })
  taken_fine taken.Opened how units w is good all =
      let same : turn_end.Opened ≡ how = (let x = is in cc) in subst (λ h. WorkFine P K (end_turn h w)) same (record { good = good; holds = all })
  taken_fine (taken.Answer place verdict) how units w is good all =
      let same : turn_end.Answer place verdict ≡ how = (let x = is in cc) in
      subst (λ h. WorkFine P K (end_turn h w)) same (end_fine P K link_rules place (ending_of verdict) w good all)
  taken_fine (taken.Dropped place cause) how units w is good all =
      let same : turn_end.Dropped place cause ≡ how = (let x = is in cc) in
      subst (λ h. WorkFine P K (end_turn h w)) same (end_fine P K link_rules place (ending.NoController cause) w good all)
  taken_fine taken.Set how units w is good all =
      let same : turn_end.Set ≡ how = (let x = is in cc) in subst (λ h. WorkFine P K (end_turn h w)) same (record { good = good; holds = all })

  -- what came of a unit that was taken
  took : (what : Taken) (unit : RpcUnit) (units : List RpcUnit) (at : AtTurn) → (take_of at.work.logons.channel unit).taken ≡ what → T (unit ∷ units) at.work.logons at.work.actions →
      AfterTaken (T units) K what (taken_at at unit).work.logons at.work.actions
  took what unit units at is good =
      subst (λ (t : Taken). AfterTaken (T units) K t (taken_at at unit).work.logons at.work.actions) is (rules.takes unit units at.work.logons at.work.actions good)

  turn_frame : KeepsTurn (λ units at. WorkFine P (T units) at.work) (WorkFine P K)
  turn_frame = record {
    skips = λ right unit units at is fine. record { good = took (taken.Skip right) unit units at is fine.good; holds = fine.holds };
    sends = λ right frames unit units at is fine. record {
      good = rules.tells units (taken_at at unit).work.logons at.work.actions (action.Send at.link (joined_frames frames)) tt
          (took (taken.Next right frames) unit units at is fine.good);
      holds = fine.holds;
    };
    ends = λ how unit units at is fine.
        let closes : Action = action.Close at.link close.CallDone in
        let kept : Work = keep_ended how at.work in
        taken_fine (take_of at.work.logons.channel unit).taken how units (tell_at (keep_ended how (taken_at at unit).work) closes) is
        (rules.takes unit units kept.logons (kept.actions ++ closes ∷ [])
        (rules.tells (unit ∷ units) kept.logons kept.actions closes tt (rules.keeps (unit ∷ units) at.work.logons at.work.actions how fine.good))) fine.holds;
    breaks = λ cause at fine.
        let closes : Action = action.Close at.link cause in
        lose_fine drop_cause.BadReply (tell_at at.work closes) (rules.tells [] at.work.logons at.work.actions closes tt fine.good) fine.holds;
  }

-- ---- an event, and then the next turn

-- a turn that is dialled is out, and these whole units come on its link
abbrev pub TurnOut : (List RpcUnit → Holds) → List RpcUnit → Dialling → Work → Type 0
TurnOut T units how w = is_dialled how ≡ true → T units w.logons w.actions

module _ (P : Type 0) (T : List RpcUnit → Holds) (G : Bool → Holds) where
  abbrev Now : WorkFact
  Now how w left = WorkFine P (G (is_dialled how)) w

  abbrev First : Event → WorkFact
  First what how w left = WorkFine P (G (is_dialled how)) w × TurnOut T (heard_in what how) how w

  module _ (rules : EventRules T G) where
    after_fine : (part : ServedPart AtLink Talk) (rest : List ℕ) (number : ℕ) (how : Dialling) (w : Work) → LinkPart P (G (is_dialled how)) part →
        (P → HoldRequests w.links) → PartHolds Now (after_units part rest number how w)
    after_fine (Err why) rest number how w fine all = tt
    after_fine (Ok part) rest number how w fine all =
        kept_fine P (G (is_dialled how)) (rules.link (is_dialled how)) part.value.1 rest number part.value.0 w fine.good fine.holds all

    event_frame : (what : Event) → KeepsEvent what (First what) Now
    event_frame what = record {
      still = λ how w left first. first.0;
      closes = λ link how w left first. record { good = first.0.good; holds = λ p. taken_holds link w.links (first.0.holds p) };
      loses = λ cause how w left lost none first.
          lose_fine P T (G false) (rules.link false) rules.turn cause w
          (subst (λ (units : List RpcUnit). T units w.logons w.actions) none (first.1 (lost_dialled what how lost))) first.0.holds;
      full = λ link how w left is fine. record {
        good = (rules.link (is_dialled how)).tells w.logons w.actions (action.Close link close.TooManyLinks) tt fine.good;
        holds = fine.holds;
      };
      opens = λ link how w left is fine. record { good = fine.good; holds = λ p. put_holds link fresh_link w.links tt (fine.holds p) };
      answers = λ link turn frames w left is first. record {
        good = (rules.link true).tells w.logons w.actions (action.Send link (joined_frames frames)) tt first.0.good;
        holds = λ p. taken_holds link w.links (first.0.holds p);
      };
      link = λ number piece link how w left is found first.
          let cut : Cut = cut_stream (link.rest ++ piece) in
          let at : AtLink = at_link number (without_link number w) in
          after_fine (served_cut link_server cut at link.talk left) cut.rest number how (without_link number w)
          (served_stays link_server (LinkPart P (G (is_dialled how))) (units_stay P (G (is_dialled how)) (rules.link (is_dialled how))) cut at link.talk left
          (record { good = first.0.good; holds = λ p. there number w.links link (first.0.holds p) found })) (λ p. taken_holds number w.links (first.0.holds p));
      turn = λ number piece said w left is first.
          dialled_keeps (λ units at. WorkFine P (T units) at.work) (WorkFine P (G false)) Now
          (each_taken (λ units at. WorkFine P (T units) at.work) (WorkFine P (G false)) (turn_frame P T (G false) (rules.link false) rules.turn))
          (cut_stream (said.rest ++ piece)) number said.talk w left
          (λ rest later at fine. record { good = rules.returns [] at.work.logons at.work.actions fine.good; holds = fine.holds })
          (λ w fine. fine)
          (record {
            good = subst (λ (units : List RpcUnit). T units w.logons w.actions) (heard_on what number piece said is) (first.1 refl);
            holds = first.0.holds;
          });
    }

    pub event_fine : (what : Event) (how : Dialling) (w : Work) (left : List (List ℕ)) → G (is_dialled how) w.logons w.actions → TurnOut T (heard_in what how) how w →
        (P → HoldRequests w.links) → DialWorkPart P G (by_event what how w left)
    event_fine what how w left good out all = event_keeps (First what) Now what (event_frame what) how w left (record { good = good; holds = all }, out)

  -- ---- the next turn

  module _ (rules : StepRules T G) where
    next_frame : (now : ℕ) → KeepsNext now Now Now
    next_frame now = record {
      still = λ how w left can fine. fine;
      starts = λ turn frames challenge how w before after can drawn answer fine. record {
        good = rules.starts (is_dialled how) w.logons w.actions (timestamp_of now) challenge can fine.good;
        holds = fine.holds;
      };
    }

    pub step_fine : (running : Running) (what : Event) (now : ℕ) (left : List (List ℕ)) → G (is_dialled running.dialling) running.logons [] →
        TurnOut T (heard_in what running.dialling) running.dialling (work_of running) → (P → HoldRequests running.links) → DialWorkPart P G (event_part running what now left)
    step_fine running what now left good out all =
        part_keeps (First what) Now Now running what now left (event_frame (events_of T G rules) what) (next_frame now) (record { good = good; holds = all }, out)

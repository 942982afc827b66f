-- A turn that starts is dialled once, and while its dial waits only the answer to it changes the turn.
-- It serves `turns_are_dialled`.
use Rattle.std.proofs.Common.{◌≡◌, ℕ, ◌+◌, Bool, true, false, List, [], ◌∷◌, ◌++◌, nat_le, length, is_some, Option, Some, None, Result, Ok, Err, refl, sym, ap, subst, ◌∙◌, arith}
use Rattle.std.specs.List.{AllByRecursion}
use Rattle.outside.specs.Machine.{Part}
use Rattle.outside.specs.declared.action.Action.{Action}
use Rattle.outside.specs.declared.action.Action.TheVariants as action
use Rattle.outside.specs.declared.action.CloseCause.TheVariants as close
use Rattle.outside.specs.declared.action.Outcome.{Outcome}
use Rattle.outside.specs.declared.action.StepRefused.{StepRefused}
use Rattle.outside.specs.declared.event.Event.{Event}
use Rattle.rpc_units.specs.Stream.{cut_stream}
use Rattle.end_links.specs.Serving.{ServedPart, served_cut}
use Rattle.end_links.proofs.KeepLaws.{served_stays}
use Rattle.channel_client.specs.declared.answers.Taken.{Taken}
use Rattle.channel_client.specs.declared.answers.Taken.TheVariants as taken
use Rattle.channel_client.specs.Machine.{ask_by, can_start, lose_of, take_of, waiting_limit}
use Rattle.channel_client.specs.State.{Requester}
use Rattle.channel_client.specs.Turns.{is_out}
use Rattle.channel_client.specs.declared.state.Pending.{Pending}
use Rattle.channel_client.specs.declared.state.Waiting.{Waiting}
use Rattle.member_server.specs.Dials.{ComesUnstarted, IsDialledBy, IsNoAnswer, IsNoStart, IsWaiting, StaysOut, StaysOutIfTaken, TurnSteps, TurnStepsIfTaken, TurnsAreDialled, dial_of, dials_in}
use Rattle.member_server.specs.Laws.{Asks, Doing, IsInOrder, Loses, Takes, state_after, state_done}
use Rattle.member_server.specs.Machine.{after_units, by_event, event_part, work_of}
use Rattle.member_server.specs.Outcomes.{at_link, without_link}
use Rattle.member_server.specs.Units.{link_server}
use Rattle.member_server.specs.declared.state.AtLink.{AtLink}
use Rattle.member_server.specs.Secrets.{SecretsState, changes_text, secrets_after, written_secrets}
use Rattle.member_server.specs.Turns.{DialWork, keep_if, timestamp_of}
use Rattle.channel_turns.specs.declared.state.Dialling.{Dialling}
use Rattle.channel_turns.specs.declared.state.Dialling.TheVariants as dialling
use Rattle.member_server.specs.declared.state.Logons.{Logons}
use Rattle.member_server.specs.declared.state.Running.{Running}
use Rattle.member_server.specs.declared.state.Talk.{Talk}
use Rattle.member_server.specs.declared.state.Work.{Work}
use Rattle.member_server.proofs.EventSteps.{DialWorkPart, LinkPart, event_fine, kept_fine, units_stay}
use Rattle.member_server.proofs.StepFrame.{IsLost, KeepsEvent, KeepsNext, PartHolds, WorkFact, dialling_at, next_follows, none_next, part_keeps, some_next}
use Rattle.member_server.proofs.StepRules.{AfterTaken, EventRules, Holds, IsPlainAction, LinkRules, TurnRules}

-- ---- counts

dials_more : (a : List Action) (what : Action) → dials_in (a ++ what ∷ []) ≡ dials_in a + dial_of what
dials_more [] what = omega arith
dials_more (first ∷ a) what = omega (arith, dials_more a what)

plain_none : (what : Action) → IsPlainAction what → dial_of what ≡ 0
plain_none (action.Keep bytes) plain = absurd plain
plain_none (action.Send link bytes) plain = refl
plain_none (action.Dial peer) plain = absurd plain
plain_none (action.Close link cause) plain = refl
plain_none (action.Told link outcome) plain = refl
plain_none (action.Judged how) plain = refl

still_none : (a : List Action) (what : Action) → IsPlainAction what → dials_in a ≡ 0 → dials_in (a ++ what ∷ []) ≡ 0
still_none a what plain none = omega (arith, dials_more a what, plain_none what plain, none)

-- a text is kept, or none
text_none : (changes : Bool) (secrets : SecretsState) (a : List Action) → dials_in a ≡ 0 → dials_in (keep_if changes secrets a) ≡ 0
text_none false secrets a none = none
text_none true secrets a none = omega (arith, dials_more a (action.Keep (written_secrets secrets)), none)

told_none : (a : List Action) (link : ℕ) (outcome : Outcome) → dials_in a ≡ 0 → dials_in (a ++ action.Told link outcome ∷ []) ≡ 0
told_none a link outcome none = omega (arith, dials_more a (action.Told link outcome), none)

-- ---- no turn starts in an event

done_append : (doings more : List Doing) (c : Requester) → state_after (doings ++ more) c ≡ state_after more (state_after doings c)
done_append [] more c = refl
done_append (doing ∷ doings) more c = done_append doings more (state_done doing c)

none_append : (doings : List Doing) (doing : Doing) → AllByRecursion IsNoStart doings → IsNoStart doing → AllByRecursion IsNoStart (doings ++ doing ∷ [])
none_append [] doing all is = (is, tt)
none_append (first ∷ doings) doing all is = (all.0, none_append doings doing all.1 is)

comes_then : (old new : Requester) (doing : Doing) → IsNoStart doing → ComesUnstarted old new → ComesUnstarted old (state_done doing new)
comes_then old new doing is comes = record {
  doings = comes.doings ++ doing ∷ [];
  none = none_append comes.doings doing comes.none is;
  is = ap (state_done doing) comes.is ∙ sym (done_append comes.doings (doing ∷ []) old);
}

module _ (old : Requester) where
  -- the channel comes from the one before without a turn that starts, and nothing is dialled
  abbrev Unstarted : Holds
  Unstarted l a = ComesUnstarted old l.channel × (dials_in a ≡ 0)

  unstarted_link : LinkRules (λ l a. ComesUnstarted old l.channel × (dials_in a ≡ 0))
  unstarted_link = record {
    tells = λ l a what plain so. (so.0, still_none a what plain so.1);
    waits = λ l a info place logon answers so. (comes_then old l.channel (Asks info) tt so.0, so.1);
    full = λ l a info answers so. (comes_then old l.channel (Asks info) tt so.0, so.1);
  }

  after_taken : (t : Taken) (l : Logons) (a : List Action) → Unstarted l a → AfterTaken Unstarted Unstarted t l a
  after_taken (taken.Skip turn) l a so = so
  after_taken (taken.Next turn frames) l a so = so
  after_taken taken.Half l a so = so
  after_taken taken.Opened l a so = so
  after_taken (taken.Answer place verdict) l a so = record { silent = so; told = λ logon kept. (so.0, told_none a logon.link _ so.1) }
  after_taken (taken.Dropped place cause) l a so = record { silent = so; told = λ logon kept. (so.0, told_none a logon.link _ so.1) }
  after_taken taken.Set l a so = so

  unstarted_turn : TurnRules (λ units. Unstarted) Unstarted
  unstarted_turn = record {
    tells = λ units l a what plain so. (so.0, still_none a what plain so.1);
    keeps = λ units l a how so. (so.0, text_none (changes_text how l.plan.secrets) (secrets_after how l.plan.secrets) a so.1);
    takes = λ unit units l a so.
        let taking = take_of l.channel unit in
        after_taken taking.taken (record l { channel = taking.state }) a (comes_then old l.channel (Takes unit) tt so.0, so.1);
    loses = λ units l a cause so.
        let lost : ComesUnstarted old (lose_of l.channel).state = comes_then old l.channel Loses tt so.0 in
        record { silent = (lost, so.1); told = λ logon kept. (lost, told_none a logon.link _ so.1) };
  }

  unstarted_event : EventRules (λ units. Unstarted) (λ dialled. Unstarted)
  unstarted_event = record { link = λ dialled. unstarted_link; turn = unstarted_turn; returns = λ units l a so. so }

-- ---- a step

-- what the event comes to, before the next turn
record Unstarts (old : Requester) (first : Result (Part DialWork) StepRefused) (how : Dialling) (w : Work) (left : List (List ℕ)) : Type 0 where
  is : first ≡ Ok (record { value = (w, how); left = left })
  comes : ComesUnstarted old w.logons.channel
  none : dials_in w.actions ≡ 0

module _ (old : Requester) (first : Result (Part DialWork) StepRefused) (now : ℕ) where
  abbrev Steps : WorkFact
  Steps how w left = TurnSteps old first now (record { value = (w, how); left = left })

  next_steps : KeepsNext now (Unstarts old first) Steps
  next_steps = record {
    still = λ how w left can so. record {
      part = record { value = (w, how); left = left };
      is = so.is;
      comes = so.comes;
      next = none_next now w left can;
      dials = subst (λ (b : Bool). IsDialledBy b how (w, how)) (sym can) (so.none, refl);
    };
    starts = λ turn frames challenge how w before after can drawn answer so. record {
      part = record { value = (w, how); left = before };
      is = so.is;
      comes = so.comes;
      next = some_next now w challenge before after can drawn;
      dials = subst (λ (b : Bool). IsDialledBy b how (dialling_at w (timestamp_of now) challenge, dialling.Waits turn frames)) (sym can)
          (omega (arith, dials_more w.actions (action.Dial w.logons.plan.controller), so.none), tt);
    };
  }

  if_taken : (found : Result (Part DialWork) StepRefused) → PartHolds Steps found → TurnStepsIfTaken old first now found
  if_taken (Err why) steps = tt
  if_taken (Ok part) steps = steps

unstarts : (old : Requester) (first found : Result (Part DialWork) StepRefused) → first ≡ found → DialWorkPart ⊥ (λ dialled. Unstarted old) found → PartHolds (Unstarts old first) found
unstarts old first (Err why) is fine = tt
unstarts old first (Ok part) is fine = record { is = is; comes = fine.good.0; none = fine.good.1 }

event_unstarted : (running : Running) (what : Event) (left : List (List ℕ)) → DialWorkPart ⊥ (λ dialled. Unstarted running.logons.channel) (by_event what running.dialling (work_of running) left)
event_unstarted running what left =
    let old : Requester = running.logons.channel in
    let now : ComesUnstarted old old = record { doings = []; none = tt; is = refl } in
    event_fine ⊥ (λ units. Unstarted old) (λ dialled. Unstarted old) (unstarted_event old) what running.dialling (work_of running) left (now, refl) (λ dialled. (now, refl)) (λ p. absurd p)

starts_so : (running : Running) (what : Event) (now : ℕ) (left : List (List ℕ)) →
    TurnStepsIfTaken running.logons.channel (by_event what running.dialling (work_of running) left) now (event_part running what now left)
starts_so running what now left =
    let old : Requester = running.logons.channel in
    let first : Result (Part DialWork) StepRefused = by_event what running.dialling (work_of running) left in
    if_taken old first now (event_part running what now left)
    (next_follows now (Unstarts old first) (Steps old first now) (next_steps old first now) first (unstarts old first first refl (event_unstarted running what left)))

-- ---- a dial that waits

-- the channel has what it had, but for what waits
record SameTurn (old new : Requester) : Type 0 where
  caller : new.caller ≡ old.caller
  standing : new.standing ≡ old.standing
  turn : new.turn ≡ old.turn

asked_same : (full : Bool) (old new : Requester) (info : _) → SameTurn old new → SameTurn old (ask_by full new info).state
asked_same true old new info same = same
asked_same false old new info same = record { caller = same.caller; standing = same.standing; turn = same.turn }

-- nothing is dialled, and the dial is the same
abbrev Kept : Requester → Dialling → WorkFact
Kept old how at w left = (at ≡ how) × SameTurn old w.logons.channel × (dials_in w.actions ≡ 0)

-- on an accepted link
kept_link : (old : Requester) → LinkRules (λ l a. SameTurn old l.channel × (dials_in a ≡ 0))
kept_link old = record {
  tells = λ l a what plain so. (so.0, still_none a what plain so.1);
  waits = λ l a info place logon answers so. (asked_same (nat_le waiting_limit (length l.channel.waiting)) old l.channel info so.0, so.1);
  full = λ l a info answers so. (asked_same (nat_le waiting_limit (length l.channel.waiting)) old l.channel info so.0, so.1);
}

never_lost : (what : Event) (how : Dialling) → IsWaiting how → IsNoAnswer what → IsLost what how → ⊥
never_lost what dialling.Nothing waits none lost = lost
never_lost what (dialling.On number said) waits none lost = waits
never_lost what (dialling.Waits turn frames) waits none lost = subst IsNoAnswer lost none

kept_part : (old : Requester) (how : Dialling) (part : ServedPart AtLink Talk) (rest : List ℕ) (number : ℕ) (w : Work) (at : Dialling) → at ≡ how →
    LinkPart ⊥ (λ l a. SameTurn old l.channel × (dials_in a ≡ 0)) part → PartHolds (Kept old how) (after_units part rest number at w)
kept_part old how (Err why) rest number w at same fine = tt
kept_part old how (Ok part) rest number w at same fine =
    let kept = kept_fine ⊥ (λ l a. SameTurn old l.channel × (dials_in a ≡ 0)) (kept_link old) part.value.1 rest number part.value.0 w fine.good fine.holds (λ p. absurd p) in
    (same, kept.good.0, kept.good.1)

none_starts : (turn : Option Pending) (logons : List Waiting) → is_some turn ≡ true → can_start turn logons ≡ true → ⊥
none_starts None logons some can = let x = some in cc
none_starts (Some p) logons some can = let x = can in cc

module _ (old : Requester) (how : Dialling) (what : Event) (waits : IsWaiting how) (none : IsNoAnswer what) where
  kept_event : KeepsEvent what (Kept old how) (Kept old how)
  kept_event = record {
    still = λ at w left so. so;
    closes = λ link at w left so. so;
    loses = λ cause at w left lost heard so. absurd (never_lost what at (subst IsWaiting (sym so.0) waits) none lost);
    full = λ link at w left is so. (so.0, so.1, still_none w.actions (action.Close link close.TooManyLinks) tt so.2);
    opens = λ link at w left is so. so;
    answers = λ link turn frames w left is so. absurd (subst IsNoAnswer is none);
    link = λ number piece link at w left is there so.
        let cut = cut_stream (link.rest ++ piece) in
        kept_part old how (served_cut link_server cut (at_link number (without_link number w)) link.talk left) cut.rest number (without_link number w) at so.0
        (served_stays link_server (LinkPart ⊥ (λ l a. SameTurn old l.channel × (dials_in a ≡ 0)))
        (units_stay ⊥ (λ l a. SameTurn old l.channel × (dials_in a ≡ 0)) (kept_link old)) cut (at_link number (without_link number w)) link.talk left
        (record { good = (so.1, so.2); holds = λ p. absurd p }));
    turn = λ number piece said w left is so. absurd (subst IsWaiting (sym so.0) waits);
  }

  -- no turn starts behind it
  kept_next : (now : ℕ) → is_out old ≡ true → KeepsNext now (Kept old how) (λ at w left. StaysOut old how (w, at))
  kept_next now out = record {
    still = λ at w left can so. record { none = so.2; dialling = so.0; caller = so.1.caller; standing = so.1.standing; turn = so.1.turn };
    starts = λ turn frames challenge at w before after can drawn answer so.
        absurd (none_starts w.logons.channel.turn w.logons.channel.waiting (ap (λ (turn : Option Pending). is_some turn) so.1.turn ∙ out) can);
  }

stays_out : (old : Requester) (how : Dialling) (found : Result (Part DialWork) StepRefused) → PartHolds (λ at w left. StaysOut old how (w, at)) found → StaysOutIfTaken old how found
stays_out old how (Err why) stays = tt
stays_out old how (Ok part) stays = stays

waits_so : (running : Running) (what : Event) (now : ℕ) (left : List (List ℕ)) → IsWaiting running.dialling → IsNoAnswer what → IsInOrder true running.logons →
    StaysOutIfTaken running.logons.channel running.dialling (event_part running what now left)
waits_so running what now left waits none order =
    let old : Requester = running.logons.channel in
    let how : Dialling = running.dialling in
    stays_out old how (event_part running what now left)
    (part_keeps (Kept old how) (Kept old how) (λ at w left. StaysOut old how (w, at)) running what now left (kept_event old how what waits none)
    (kept_next old how what waits none now order.out) (refl, record { caller = refl; standing = refl; turn = refl }, refl))

pub turns_dialled : TurnsAreDialled
turns_dialled = record { starts = starts_so; waits = waits_so }

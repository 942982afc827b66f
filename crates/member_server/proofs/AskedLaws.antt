-- The logons that are kept are those that wait, in their order.
use Rattle.std.proofs.Common.{◌≡◌, ◌≢◌, ℕ, Bool, true, false, List, [], ◌∷◌, ◌++◌, map, Option, Some, None, is_some, Result, Ok, Err, refl, sym, ap, subst, ◌∙◌, nat_le, length, if◌then◌else◌}
use Rattle.std.proofs.lemmas.Bool.{eqb-true}
use Rattle.std.proofs.lemmas.List.{map-append}
use Rattle.std.specs.List.{AllByRecursion}
use Rattle.outside.specs.declared.action.Action.{Action}
use Rattle.outside.specs.declared.action.StepRefused.{StepRefused}
use Rattle.outside.specs.Machine.{Part, step_by}
use Rattle.wire_base.specs.Maps.{put, take_out, same_number}
use Rattle.wire_base.proofs.NameLaws.{IsSameness-same_number}
use Rattle.logon_stubs.specs.declared.info.NetworkInfo.{NetworkInfo}
use Rattle.channel_client.specs.declared.answers.AskRefused.TheVariants as ask_refused
use Rattle.channel_client.specs.declared.hearing.Hearing.{Hearing}
use Rattle.channel_client.specs.declared.hearing.Hearing.TheVariants as hearing
use Rattle.channel_client.specs.declared.hearing.SetHearing.TheVariants as set_hearing
use Rattle.channel_client.specs.declared.judging.Judgement.{Judgement}
use Rattle.channel_client.specs.declared.judging.Judgement.TheVariants as judgement
use Rattle.channel_client.specs.declared.state.Pending.{Pending}
use Rattle.channel_client.specs.declared.state.Standing.{Standing}
use Rattle.channel_client.specs.declared.state.Standing.TheVariants as standing
use Rattle.channel_client.specs.declared.state.Waiting.{Waiting}
use Rattle.channel_client.specs.Effects.{ArePlacesApart, IsCoherent, IsForFirst}
use Rattle.channel_client.specs.Machine.{SetOutcome, act, ask_by, ask_of, hear, judge, judge_set, later_logons, lose_of, place_of, remove_first, settle, settle_set, start_by, waiting_limit}
use Rattle.channel_client.specs.State.{Requester}
use Rattle.channel_client.proofs.EffectLaws.{steps_have_effects}
use Rattle.channel_client.proofs.TurnLaws.{one_turn}
use Rattle.member_server.specs.declared.state.Logon.{Logon}
use Rattle.member_server.specs.declared.state.Logons.{Logons}
use Rattle.member_server.specs.declared.state.Running.{Running}
use Rattle.member_server.specs.Laws.{AreAsked, AsksWhatWaits, HoldRequests, InOrderUnlessStopped, IsInOrder}
use Rattle.member_server.specs.Machine.{actions_in, caller_of, event_part, halted_state, state_in, step_on}
use Rattle.member_server.specs.Messages.{with_channel, with_logon}
use Rattle.member_server.specs.Secrets.{SecretsState, give_secrets}
use Rattle.member_server.specs.Turns.{DialWork}
use Rattle.member_server.proofs.StepRules.{AfterTaken, LinkRules, StepRules, TurnRules, drop_logon}
use Rattle.member_server.proofs.EventSteps.{DialWorkPart, step_fine}

-- ---- places

abbrev pub places_of : List Waiting → List ℕ
places_of logons = map (λ (w : Waiting). w.place) logons

abbrev pub places_kept : List (ℕ × Logon) → List ℕ
places_kept entries = map (λ (entry : ℕ × Logon). entry.0) entries

abbrev pub IsAbsent : ℕ → List ℕ → Type 0
IsAbsent k places = AllByRecursion (λ (place : ℕ). place ≢ k) places

last_apart : (place : ℕ) (logons : List Waiting) (last : Waiting) → AllByRecursion (λ (later : Waiting). place ≢ later.place) (logons ++ last ∷ []) → place ≢ last.place
last_apart place [] last all = all.0
last_apart place (logon ∷ logons) last all = last_apart place logons last all.1

absent : (logons : List Waiting) (last : Waiting) → ArePlacesApart (logons ++ last ∷ []) → IsAbsent last.place (places_of logons)
absent [] last apart = tt
absent (logon ∷ logons) last apart = (last_apart logon.place logons last apart.0, absent logons last apart.1)

-- ---- what is kept

put_by : (b : Bool) (k : ℕ) (logon : Logon) (entry : ℕ × Logon) (entries rest : List (ℕ × Logon)) → same_number k entry.0 ≡ b → entry.0 ≢ k →
    places_kept rest ≡ places_kept entries ++ k ∷ [] →
    places_kept (if b then (k, logon) ∷ entries else entry ∷ rest) ≡ entry.0 ∷ (places_kept entries ++ k ∷ [])
put_by true k logon entry entries rest e differs is = absurd (differs (sym (eqb-true k entry.0 e)))
put_by false k logon entry entries rest e differs is = ap (λ (places : List ℕ). entry.0 ∷ places) is

put_places : (k : ℕ) (logon : Logon) (entries : List (ℕ × Logon)) → IsAbsent k (places_kept entries) →
    places_kept (put same_number k logon entries) ≡ places_kept entries ++ k ∷ []
put_places k logon [] away = refl
put_places k logon (entry ∷ entries) away =
    put_by (same_number k entry.0) k logon entry entries (put same_number k logon entries) refl away.0 (put_places k logon entries away.1)

taken_by : (b : Bool) (entry : ℕ × Logon) (entries rest : List (ℕ × Logon)) (places : List ℕ) → b ≡ true → places_kept entries ≡ places →
    places_kept (if b then entries else entry ∷ rest) ≡ places
taken_by true entry entries rest places e is = is
taken_by false entry entries rest places e is = absurd (let x = e in cc)

taken_places : (k : ℕ) (entries : List (ℕ × Logon)) (places : List ℕ) → places_kept entries ≡ k ∷ places → places_kept (take_out same_number k entries) ≡ places
taken_places k [] places e = absurd (let x = e in cc)
taken_places k (entry ∷ entries) places e =
    let first : entry.0 ≡ k = (let x = e in cc) in
    let others : places_kept entries ≡ places = (let x = e in cc) in
    taken_by (same_number k entry.0) entry entries (take_out same_number k entries) places
    (ap (λ (n : ℕ). same_number k n) first ∙ IsSameness-same_number.reflexive k) others

-- ---- a logon is asked

waiting_more : (full : Bool) (l : Logons) (info : NetworkInfo) (place : ℕ) (logon : Logon) → (ask_by full l.channel info).answer ≡ Ok place → AreAsked l →
    ArePlacesApart (ask_by full l.channel info).state.waiting → AreAsked (with_logon (with_channel l (ask_by full l.channel info).state) place logon)
waiting_more true l info place logon answers asked apart = absurd (let x = answers in cc)
waiting_more false l info place logon answers asked apart =
    let next : ℕ = l.channel.next_place in
    let same : next ≡ place = (let x = answers in cc) in
    let last : Waiting = record { place = next; info = record info { logon_id = next } } in
    let none : IsAbsent next (places_kept l.asked) = subst (IsAbsent next) (sym asked) (absent l.channel.waiting last apart) in
    ap (λ (n : ℕ). places_kept (put same_number n logon l.asked)) (sym same)
    ∙ put_places next logon l.asked none
    ∙ ap (λ (places : List ℕ). places ++ next ∷ []) asked
    ∙ sym (map-append (λ (w : Waiting). w.place) l.channel.waiting (last ∷ []))

waiting_full : (full : Bool) (l : Logons) (info : NetworkInfo) → (ask_by full l.channel info).answer ≡ Err ask_refused.QueueFull → AreAsked l →
    AreAsked (with_channel l (ask_by full l.channel info).state)
waiting_full true l info answers asked = asked
waiting_full false l info answers asked = absurd (let x = answers in cc)

-- ---- the rules

abbrev pub InOrder : Bool → Logons → List Action → Type 0
InOrder dialled l a = IsInOrder dialled l

order_link : (dialled : Bool) → LinkRules (InOrder dialled)
order_link dialled = record {
  tells = λ l a what nobody order. order;
  waits = λ l a info place logon answers order.
      let coherent : IsCoherent (ask_of l.channel info).state = (steps_have_effects.ask 0 l.channel info order.coherent).1 in
      record {
        coherent = coherent;
        asked = waiting_more (nat_le waiting_limit (length l.channel.waiting)) l info place logon answers order.asked
            (steps_have_effects.places (ask_of l.channel info).state coherent);
        out = one_turn.ask l.channel info ∙ order.out;
      };
  full = λ l a info answers order. record {
    coherent = (steps_have_effects.ask 0 l.channel info order.coherent).1;
    asked = waiting_full (nat_le waiting_limit (length l.channel.waiting)) l info answers order.asked;
    out = one_turn.ask l.channel info ∙ order.out;
  };
}

-- the turn is for the first logon that waits
first_is : (turn : Option Pending) (logons : List Waiting) → is_some turn ≡ true → IsForFirst turn logons → places_of logons ≡ place_of turn ∷ places_of (later_logons logons)
first_is None logons out first = absurd (let x = out in cc)
first_is (Some p) [] out first = absurd first
first_is (Some p) (logon ∷ logons) out first = ap (λ (place : ℕ). place ∷ places_of logons) (sym first.0)

-- the logon of the turn waits no more, and is kept no more
ended : (how : Standing) (place : ℕ) (l : Logons) → place ≡ place_of l.channel.turn → IsInOrder true l → IsCoherent (remove_first how l.channel) →
    IsInOrder false (drop_logon place (with_channel l (remove_first how l.channel)))
ended how place l is order coherent = record {
  coherent = coherent;
  asked = ap (λ (k : ℕ). places_kept (take_out same_number k l.asked)) is
      ∙ taken_places (place_of l.channel.turn) l.asked (places_of (later_logons l.channel.waiting))
      (order.asked ∙ first_is l.channel.turn l.channel.waiting order.out order.coherent.first);
  out = refl;
}

settled : (j : Judgement) (l : Logons) (a : List Action) → IsInOrder true l → IsCoherent (settle j l.channel).state →
    AfterTaken (InOrder true) (InOrder false) (settle j l.channel).taken (with_channel l (settle j l.channel).state) a
settled (judgement.Half client server) l a order coherent = record { coherent = coherent; asked = order.asked; out = refl }
settled (judgement.Opened o) l a order coherent = record { coherent = coherent; asked = order.asked; out = refl }
settled (judgement.Answer o v) l a order coherent =
    let end = ended (standing.Open o) (place_of l.channel.turn) l refl order coherent in record { silent = end; told = λ logon kept. end }
settled (judgement.Drop cause) l a order coherent =
    let end = ended standing.Nothing (place_of l.channel.turn) l refl order coherent in record { silent = end; told = λ logon kept. end }

settled_set : (judged : SetOutcome) (l : Logons) (a : List Action) → IsInOrder true l → IsCoherent (settle_set judged l.channel).state →
    AfterTaken (InOrder true) (InOrder false) (settle_set judged l.channel).taken (with_channel l (settle_set judged l.channel).state) a
settled_set (Ok o) l a order coherent = record { coherent = coherent; asked = order.asked; out = refl }
settled_set (Err cause) l a order coherent = settled (judgement.Drop cause) l a order coherent

acted : (h : Hearing) (l : Logons) (a : List Action) → IsInOrder true l → IsCoherent (act h l.channel).state →
    AfterTaken (InOrder true) (InOrder false) (act h l.channel).taken (with_channel l (act h l.channel).state) a
acted hearing.Skip l a order coherent = record { coherent = coherent; asked = order.asked; out = order.out }
acted (hearing.Next q frames) l a order coherent = record { coherent = coherent; asked = order.asked; out = refl }
acted (hearing.Reply q r) l a order coherent = settled (judge q r l.channel.standing l.channel.caller.secret) l a order coherent
acted (hearing.Drop cause) l a order coherent = settled (judgement.Drop cause) l a order coherent
acted (hearing.Set (set_hearing.Next frames)) l a order coherent = record { coherent = coherent; asked = order.asked; out = refl }
acted (hearing.Set (set_hearing.Reply r)) l a order coherent = settled_set (judge_set r l.channel.standing) l a order coherent

order_turn : TurnRules (λ units. InOrder true) (InOrder false)
order_turn = record {
  tells = λ units l a what nobody order. order;
  keeps = λ units l a how order. record { coherent = order.coherent; asked = order.asked; out = order.out };
  takes = λ unit units l a order.
      acted (hear l.channel.turn unit l.channel.next_call) l a order (steps_have_effects.take 0 l.channel unit order.coherent).1;
  loses = λ units l a cause order.
      let end = ended standing.Nothing (lose_of l.channel).place l refl order (steps_have_effects.lose 0 l.channel order.coherent).1 in
      record { silent = end; told = λ logon kept. end };
}

-- a turn that starts leaves what waits
start_waits : (turn : Option Pending) (logons : List Waiting) (s : Requester) (timestamp : ℕ) (challenge : List ℕ) →
    (start_by turn logons s timestamp challenge).state.waiting ≡ s.waiting
start_waits (Some p) logons s timestamp challenge = refl
start_waits None [] s timestamp challenge = refl
start_waits None (logon ∷ logons) s timestamp challenge = refl

-- a channel that is given its secrets
given_coherent : (secrets : SecretsState) (c : Requester) → IsCoherent c → IsCoherent (give_secrets true secrets c)
given_coherent secrets c coherent = record { matches = coherent.matches; first = coherent.first; places = coherent.places; few = coherent.few }

order_step : StepRules (λ units. InOrder true) InOrder
order_step = record {
  link = order_link;
  turn = order_turn;
  returns = λ units l a order. order;
  starts = λ dialled l a timestamp challenge can order.
      let given : Requester = give_secrets true l.plan.secrets l.channel in
      record {
        coherent = (steps_have_effects.start 0 given timestamp challenge (given_coherent l.plan.secrets l.channel order.coherent)).1;
        asked = order.asked ∙ sym (ap places_of (start_waits l.channel.turn l.channel.waiting given timestamp challenge));
        out = (one_turn.started given timestamp challenge can).1;
      };
}

-- ---- a step

step_orders : (P : Type 0) (part : Result (Part DialWork) StepRefused) (left : List (List ℕ)) → DialWorkPart P InOrder part →
    InOrderUnlessStopped (step_by actions_in state_in halted_state left part).state.running
step_orders P (Err why) left fine = tt
step_orders P (Ok part) left fine = fine.good

pub asks_what_waits : AsksWhatWaits
asks_what_waits = record {
  fresh = λ plan. record { coherent = steps_have_effects.fresh (caller_of plan); asked = refl; out = refl };
  keeps = λ s running what now left runs order.
      let P : Type 0 = HoldRequests running.links in
      subst (λ (r : Option Running). InOrderUnlessStopped (step_on r s what now left).state.running) (sym runs)
      (step_orders P (event_part running what now left) left
      (step_fine P (λ units. InOrder true) InOrder order_step running what now left order
      (λ is. subst (λ (b : Bool). IsInOrder b running.logons) is order) (λ p. p)));
}

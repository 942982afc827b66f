-- The seed of a requester's channel is the client's credential moved by the timestamps of its turns on it: each step of
-- the requester keeps that, with the turn that starts in it.
-- It serves `Proved.own`.
use Rattle.std.proofs.Common.{◌≡◌, ℕ, ◌+◌, Bool, true, false, List, [], ◌∷◌, ◌++◌, map, filter, inl, inr, Option, Some, None, refl, sym, ap, subst, ◌∙◌, arith, if◌then◌else◌, Ok, Err}
use Rattle.std.specs.List.{AllByRecursion}
use Rattle.std.proofs.lemmas.List.{append-nil, map-append}
use Rattle.std.proofs.lemmas.List.Elements.{filter-append}
use Rattle.authenticators.specs.Channels.{ChannelIdentity, same_channel}
use Rattle.authenticators.specs.Sequences.{moved_by}
use Rattle.authenticators.specs.SecureChannels.{channel_of}
use Rattle.channel_client.specs.declared.hearing.SetHearing.TheVariants as set_hearing
use Rattle.channel_client.specs.declared.caller.Caller.{Caller}
use Rattle.channel_client.specs.declared.state.Pending.{Pending}
use Rattle.channel_client.specs.declared.state.Sealing.{Sealing}
use Rattle.channel_client.specs.declared.state.Standing.{Standing}
use Rattle.channel_client.specs.declared.state.Standing.TheVariants as standing
use Rattle.channel_client.specs.declared.state.Waiting.{Waiting}
use Rattle.channel_client.specs.declared.hearing.Hearing.{Hearing}
use Rattle.channel_client.specs.declared.hearing.Hearing.TheVariants as hearing
use Rattle.channel_client.specs.declared.judging.Judgement.{Judgement}
use Rattle.channel_client.specs.declared.judging.Judgement.TheVariants as judgement
use Rattle.channel_client.specs.Effects.{Answers, Begins, Calls, Changes, Counts, Drops, Effect, HasEffect, IsCoherent, Moves, Opens, Stays, View, effect_heard, effect_judged, effect_next, effect_of_take, view_of, effect_judged_set}
use Rattle.channel_client.specs.Machine.{ask_of, can_start, hear, judge, lose_of, needs_challenge, start_of, take_of, SetOutcome, judge_set}
use Rattle.channel_client.specs.State.{Requester}
use Rattle.channel_client.proofs.EffectLaws.{steps_have_effects}
use Rattle.channel_events.specs.RequestSteps.{IsFreshIf, drawn_if}
use Rattle.channel_events.specs.Requests.{Holds, IsDrawn}
use Rattle.channel_events.specs.Seeds.{channel_seed}
use Rattle.channel_events.proofs.ChannelSeedLaws.{first_seed, next_is}
use Rattle.wire_base.proofs.ListLaws.{all_weaker, some_is}
use Rattle.channel_events.proofs.TimestampLaws.{moved_none, moved_one}
use Rattle.channel_events.proofs.SameLaws.{itself, one_channel}
use Rattle.member_server.specs.Dials.{ComesUnstarted, IsNoStart}
use Rattle.member_server.specs.Laws.{Asks, Doing, Loses, Starts, Takes, state_after}
use Rattle.step_notes.specs.MemberNotes.{turn_of}
use Rattle.step_notes.specs.Records.{ChannelTurn, RequesterId}

-- ---- turns

-- the timestamps of those on the channel, among the turns of one member
abbrev pub on_channel : ChannelIdentity → ChannelTurn → Bool
on_channel channel turn = same_channel turn.channel channel

abbrev pub stamps_on : ChannelIdentity → List ChannelTurn → List ℕ
stamps_on channel turns = map (λ (turn : ChannelTurn). turn.timestamp) (filter (on_channel channel) turns)

-- What is known of a requester and of the turns of its member: the challenges that it holds were drawn, no turn was on
-- a channel that is only being opened, and the seed is that of the turns on the channel that stands.
pub record Turned (v : View) (own : List ChannelTurn) (drawn : List (List ℕ)) : Type 0 where
  pub held : (challenge : List ℕ) → Holds v challenge → IsDrawn challenge drawn
  pub fresh : (challenge : List ℕ) → v.opening ≡ Some challenge → AllByRecursion (λ (turn : ChannelTurn). turn.channel.client ≡ challenge → ⊥) own
  pub seed : (c : ChannelIdentity) → v.stands ≡ Some c → v.seed ≡ Some (channel_seed c (stamps_on c own))

-- of another that is seen so, as far as it matters
pub turned_alike : (u v : View) (own : List ChannelTurn) (drawn : List (List ℕ)) → v.stands ≡ u.stands → v.seed ≡ u.seed → v.opening ≡ u.opening → Turned u own drawn → Turned v own drawn
turned_alike u v own drawn stands seed opening turned = record {
  held = λ challenge holds. turned.held challenge (record {
    how = elim holds.how [ inl is ↦ inl (sym opening ∙ is) | inr on ↦ inr (on.0, sym stands ∙ on.1, on.2) ];
  });
  fresh = λ challenge is. turned.fresh challenge (sym opening ∙ is);
  seed = λ c is. seed ∙ turned.seed c (sym stands ∙ is);
}

pub drawn_still : (challenge : List ℕ) (drawn more : List (List ℕ)) → IsDrawn challenge drawn → IsDrawn challenge (drawn ++ more)
drawn_still challenge [] more is = absurd is
drawn_still challenge (first ∷ drawn) more is = elim is [ inl here ↦ inl here | inr later ↦ inr (drawn_still challenge drawn more later) ]

drawn_last : (challenge : List ℕ) (drawn : List (List ℕ)) → IsDrawn challenge (drawn ++ challenge ∷ [])
drawn_last challenge [] = inl refl
drawn_last challenge (first ∷ drawn) = inr (drawn_last challenge drawn)

-- more was drawn
pub turned_later : (v : View) (own : List ChannelTurn) (drawn later : List (List ℕ)) → ((challenge : List ℕ) → IsDrawn challenge drawn → IsDrawn challenge later) → Turned v own drawn → Turned v own later
turned_later v own drawn later still turned = record { held = λ challenge holds. still challenge (turned.held challenge holds); fresh = turned.fresh; seed = turned.seed }

-- nothing is held
pub turned_blank : (v : View) (own : List ChannelTurn) (drawn : List (List ℕ)) → v.stands ≡ None → v.opening ≡ None → Turned v own drawn
turned_blank v own drawn stands opening = record {
  held = λ challenge holds.
      elim holds.how [
        | inl is ↦ absurd (let x : None ≡ Some challenge = sym opening ∙ is in cc)
        | inr on ↦ absurd (let x : None ≡ Some on.0 = sym stands ∙ on.1 in cc)
      ];
  fresh = λ challenge is. absurd (let x : None ≡ Some challenge = sym opening ∙ is in cc);
  seed = λ c is. absurd (let x : None ≡ Some c = sym stands ∙ is in cc);
}

-- ---- effects at which no turn starts

abbrev pub IsUnstarted : Effect → Type 0
IsUnstarted Stays = Unit {0}
IsUnstarted Counts = Unit {0}
IsUnstarted (Begins client) = ⊥
IsUnstarted (Opens c) = Unit {0}
IsUnstarted (Moves c timestamp) = ⊥
IsUnstarted (Calls c number) = Unit {0}
IsUnstarted (Answers c number) = Unit {0}
IsUnstarted Drops = Unit {0}

judged_unstarted : (controller : ℕ) (j : Judgement) (computer : List ℕ) (number : ℕ) → IsUnstarted (effect_judged controller j computer number)
judged_unstarted controller (judgement.Half client server) computer number = tt
judged_unstarted controller (judgement.Opened o) computer number = tt
judged_unstarted controller (judgement.Answer o v) computer number = tt
judged_unstarted controller (judgement.Drop cause) computer number = tt

set_unstarted : (controller : ℕ) (judged : SetOutcome) (computer : List ℕ) (number : ℕ) → IsUnstarted (effect_judged_set controller judged computer number)
set_unstarted controller (Ok o) computer number = tt
set_unstarted controller (Err cause) computer number = tt

next_unstarted : (controller : ℕ) (how : Standing) (computer : List ℕ) (next : ℕ) → IsUnstarted (effect_next controller how computer next)
next_unstarted controller standing.Nothing computer next = tt
next_unstarted controller (standing.Half client server) computer next = tt
next_unstarted controller (standing.Open o) computer next = tt

heard_unstarted : (controller : ℕ) (h : Hearing) (s : Requester) → IsUnstarted (effect_heard controller h s)
heard_unstarted controller hearing.Skip s = tt
heard_unstarted controller (hearing.Next q frames) s = next_unstarted controller s.standing s.caller.computer s.next_call
heard_unstarted controller (hearing.Reply q r) s = judged_unstarted controller (judge q r s.standing s.caller.secret) s.caller.computer _
heard_unstarted controller (hearing.Drop cause) s = tt
heard_unstarted controller (hearing.Set (set_hearing.Next frames)) s = next_unstarted controller s.standing s.caller.computer s.next_call
heard_unstarted controller (hearing.Set (set_hearing.Reply r)) s = set_unstarted controller (judge_set r s.standing) s.caller.computer _

-- a channel that opens has no turn
none_by : (hit : Bool) (c : ChannelIdentity) (turn : ChannelTurn) (own : List ChannelTurn) → same_channel turn.channel c ≡ hit → (turn.channel.client ≡ c.client → ⊥) → stamps_on c own ≡ [] →
    stamps_on c (turn ∷ own) ≡ []
none_by true c turn own is differs none = absurd (differs (one_channel turn.channel c is).client)
none_by false c turn own is differs none =
    ap (λ (hit : Bool). map (λ (t : ChannelTurn). t.timestamp) (if hit then turn ∷ filter (on_channel c) own else filter (on_channel c) own)) is ∙ none

pub none_on : (c : ChannelIdentity) (own : List ChannelTurn) → AllByRecursion (λ (turn : ChannelTurn). turn.channel.client ≡ c.client → ⊥) own → stamps_on c own ≡ []
none_on c [] all = refl
none_on c (turn ∷ own) all = none_by (same_channel turn.channel c) c turn own refl all.0 (none_on c own all.1)

module _ (own : List ChannelTurn) (drawn : List (List ℕ)) where
  opens_turned : (c : ChannelIdentity) (u v : View) → Changes (Opens c) u v → Turned u own drawn → Turned v own drawn
  opens_turned c u v change turned =
      let stands : v.stands ≡ Some c = ap (λ (w : View). w.stands) change.1 in
      let opening : v.opening ≡ None = ap (λ (w : View). w.opening) change.1 in
      record {
        held = λ challenge holds.
            elim holds.how [
              | inl is ↦ absurd (let x : None ≡ Some challenge = sym opening ∙ is in cc)
              | inr on ↦
                  let same : c ≡ on.0 = some_is c on.0 (sym stands ∙ on.1) in
                  turned.held challenge (record { how = inl (change.0 ∙ ap (λ (x : ChannelIdentity). Some x.client) same ∙ ap Some on.2) })
            ];
        fresh = λ challenge is. absurd (let x : None ≡ Some challenge = sym opening ∙ is in cc);
        seed = λ d is.
            let same : c ≡ d = some_is c d (sym stands ∙ is) in
            let none : stamps_on c own ≡ [] = none_on c own (turned.fresh c.client change.0) in
            ap (λ (w : View). w.seed) change.1
            ∙ ap Some (first_seed c (stamps_on c own) none)
            ∙ ap (λ (x : ChannelIdentity). Some (channel_seed x (stamps_on x own))) same;
      }

  alike : (u v w : View) → v ≡ w → w.stands ≡ u.stands → w.seed ≡ u.seed → w.opening ≡ u.opening → Turned u own drawn → Turned v own drawn
  alike u v w is stands seed opening turned =
      turned_alike u v own drawn (ap (λ (x : View). x.stands) is ∙ stands) (ap (λ (x : View). x.seed) is ∙ seed) (ap (λ (x : View). x.opening) is ∙ opening) turned

  changed : (e : Effect) (u v : View) → IsUnstarted e → Changes e u v → Turned u own drawn → Turned v own drawn
  changed Stays u v none change turned = alike u v u change refl refl refl turned
  changed Counts u v none change turned = alike u v _ change refl refl refl turned
  changed (Begins client) u v none change turned = absurd none
  changed (Opens c) u v none change turned = opens_turned c u v change turned
  changed (Moves c timestamp) u v none change turned = absurd none
  changed (Calls c number) u v none change turned = alike u v _ change.3 refl refl refl turned
  changed (Answers c number) u v none change turned = alike u v _ change.2 refl refl refl turned
  changed Drops u v none change turned = turned_blank v own drawn (ap (λ (w : View). w.stands) change) (ap (λ (w : View). w.opening) change)

  -- ---- an event, in which no turn starts

  record Comes (controller : ℕ) (s : Requester) : Type 0 where
    coherent : IsCoherent s
    turned : Turned (view_of controller s) own drawn

  by_effect : (controller : ℕ) (e : Effect) (s t : Requester) → IsUnstarted e → HasEffect controller e s t → Comes controller s → Comes controller t
  by_effect controller e s t none has comes = record { coherent = has.1; turned = changed e (view_of controller s) (view_of controller t) none has.0 comes.turned }

  doings_come : (controller : ℕ) (doings : List Doing) (s : Requester) → AllByRecursion IsNoStart doings → Comes controller s → Comes controller (state_after doings s)
  doings_come controller [] s none comes = comes
  doings_come controller (Asks info ∷ doings) s none comes =
      doings_come controller doings (ask_of s info).state none.1 (by_effect controller Stays s (ask_of s info).state tt (steps_have_effects.ask controller s info comes.coherent) comes)
  doings_come controller (Starts timestamp challenge ∷ doings) s none comes = absurd none.0
  doings_come controller (Takes unit ∷ doings) s none comes =
      doings_come controller doings (take_of s unit).state none.1
      (by_effect controller (effect_of_take controller s unit) s (take_of s unit).state (heard_unstarted controller (hear s.turn unit s.next_call) s)
      (steps_have_effects.take controller s unit comes.coherent) comes)
  doings_come controller (Loses ∷ doings) s none comes =
      doings_come controller doings (lose_of s).state none.1 (by_effect controller Drops s (lose_of s).state tt (steps_have_effects.lose controller s comes.coherent) comes)

  pub comes_so : (controller : ℕ) (s t : Requester) → ComesUnstarted s t → IsCoherent s → Turned (view_of controller s) own drawn → IsCoherent t × Turned (view_of controller t) own drawn
  comes_so controller s t comes coherent turned =
      let after : Comes controller (state_after comes.doings s) = doings_come controller comes.doings s comes.none (record { coherent = coherent; turned = turned }) in
      subst (λ (x : Requester). IsCoherent x × Turned (view_of controller x) own drawn) (sym comes.is) (after.coherent, after.turned)

  -- ---- a turn starts

  -- an opening begins, with a challenge that wasn't drawn before
  begins_turned : (client : List ℕ) (u v : View) → Changes (Begins client) u v → (IsDrawn client drawn → ⊥) → AllByRecursion (λ (turn : ChannelTurn). IsDrawn turn.channel.client drawn) own →
      Turned v own (drawn ++ client ∷ [])
  begins_turned client u v change new before =
      let opening : v.opening ≡ Some client = ap (λ (w : View). w.opening) change.1 in
      let stands : v.stands ≡ None = ap (λ (w : View). w.stands) change.1 in
      record {
        held = λ challenge holds.
            elim holds.how [
              | inl is ↦ subst (λ (x : List ℕ). IsDrawn x (drawn ++ client ∷ [])) (some_is client challenge (sym opening ∙ is)) (drawn_last client drawn)
              | inr on ↦ absurd (let x : None ≡ Some on.0 = sym stands ∙ on.1 in cc)
            ];
        fresh = λ challenge is.
            let same : client ≡ challenge = some_is client challenge (sym opening ∙ is) in
            all_weaker (λ (turn : ChannelTurn). IsDrawn turn.channel.client drawn) (λ (turn : ChannelTurn). turn.channel.client ≡ challenge → ⊥) own
            (λ turn was at. new (subst (λ (x : List ℕ). IsDrawn x drawn) (at ∙ sym same) was)) before;
        seed = λ c is. absurd (let x : None ≡ Some c = sym stands ∙ is in cc);
      }

  moved_last : (stamps : List ℕ) (timestamp : ℕ) → moved_by (stamps ++ timestamp ∷ []) ≡ moved_by stamps + (timestamp + 1)
  moved_last [] timestamp = omega (arith, moved_one timestamp [], moved_none)
  moved_last (first ∷ stamps) timestamp = omega (arith, moved_one first (stamps ++ timestamp ∷ []), moved_one first stamps, moved_last stamps timestamp)

  pub stamps_last : (c : ChannelIdentity) (turn : ChannelTurn) → turn.channel ≡ c → stamps_on c (own ++ turn ∷ []) ≡ stamps_on c own ++ turn.timestamp ∷ []
  stamps_last c turn is =
      let hit : same_channel turn.channel c ≡ true = ap (λ (x : ChannelIdentity). same_channel x c) is ∙ itself c in
      ap (λ (turns : List ChannelTurn). map (λ (t : ChannelTurn). t.timestamp) turns) (filter-append (on_channel c) own (turn ∷ []))
      ∙ map-append (λ (t : ChannelTurn). t.timestamp) (filter (on_channel c) own) (filter (on_channel c) (turn ∷ []))
      ∙ ap (λ (b : Bool). stamps_on c own ++ map (λ (t : ChannelTurn). t.timestamp) (if b then turn ∷ [] else [])) hit

  -- a turn on the channel that stands
  moves_turned : (turn : ChannelTurn) (u v : View) → Changes (Moves turn.channel turn.timestamp) u v → u.opening ≡ None → Turned u own drawn → Turned v (own ++ turn ∷ []) drawn
  moves_turned turn u v change none turned =
      let c : ChannelIdentity = turn.channel in
      let opening : v.opening ≡ None = ap (λ (w : View). w.opening) change.4 ∙ none in
      let stands : v.stands ≡ u.stands = ap (λ (w : View). w.stands) change.4 in
      record {
        held = λ challenge holds.
            elim holds.how [
              | inl is ↦ absurd (let x : None ≡ Some challenge = sym opening ∙ is in cc)
              | inr on ↦ turned.held challenge (record { how = inr (on.0, sym stands ∙ on.1, on.2) })
            ];
        fresh = λ challenge is. absurd (let x : None ≡ Some challenge = sym opening ∙ is in cc);
        seed = λ d is.
            let same : c ≡ d = some_is c d (sym change.1 ∙ sym stands ∙ is) in
            let stamps : List ℕ = stamps_on c own in
            let before : change.0 ≡ channel_seed c stamps = some_is change.0 (channel_seed c stamps) (sym change.2 ∙ turned.seed c change.1) in
            ap (λ (w : View). w.seed) change.4
            ∙ ap Some (next_is c change.0 turn.timestamp stamps (stamps_on c (own ++ turn ∷ [])) before
            (omega (arith, ap moved_by (stamps_last c turn refl), moved_last stamps turn.timestamp)))
            ∙ ap (λ (x : ChannelIdentity). Some (channel_seed x (stamps_on x (own ++ turn ∷ [])))) same;
      }

  -- where one can start, by how far the channel is
  start_by : (controller : ℕ) (who : RequesterId) (timestamp : ℕ) (challenge : List ℕ) (caller : Caller) (how : Standing) (logons : List Waiting) (place next : ℕ) (turn : Option Pending) (secret : Option (List ℕ)) (sealing : Option Sealing) →
      let s : Requester = record { caller = caller; standing = how; waiting = logons; next_place = place; next_call = next; turn = turn; next = secret; sealing = sealing } in
      can_start turn logons ≡ true → IsFreshIf (needs_challenge how) challenge drawn → AllByRecursion (λ (turn : ChannelTurn). IsDrawn turn.channel.client drawn) own → IsCoherent s →
      Turned (view_of controller s) own drawn →
      Turned (view_of controller (start_of s timestamp challenge).state) (own ++ turn_of controller who (start_of s timestamp challenge).state) (drawn_if (needs_challenge how) challenge drawn)
  start_by controller who timestamp challenge caller how logons place next (Some pending) secret sealing can new before coherent turned = absurd (let x = can in cc)
  start_by controller who timestamp challenge caller how [] place next None secret sealing can new before coherent turned = absurd (let x = can in cc)
  start_by controller who timestamp challenge caller standing.Nothing (logon ∷ logons) place next None secret sealing can new before coherent turned =
      let s : Requester = record { caller = caller; standing = standing.Nothing; waiting = logon ∷ logons; next_place = place; next_call = next; turn = None; next = secret; sealing = sealing } in
      subst (λ (all : List ChannelTurn). Turned (view_of controller (start_of s timestamp challenge).state) all (drawn ++ challenge ∷ [])) (sym (append-nil own))
      (begins_turned challenge (view_of controller s) (view_of controller (start_of s timestamp challenge).state) (steps_have_effects.start controller s timestamp challenge coherent).0 new before)
  start_by controller who timestamp challenge caller (standing.Half client server) (logon ∷ logons) place next None secret sealing can new before coherent turned =
      let s : Requester = record { caller = caller; standing = standing.Half client server; waiting = logon ∷ logons; next_place = place; next_call = next; turn = None; next = secret; sealing = sealing } in
      subst (λ (all : List ChannelTurn). Turned (view_of controller (start_of s timestamp challenge).state) all drawn) (sym (append-nil own))
      (changed Counts (view_of controller s) (view_of controller (start_of s timestamp challenge).state) tt (steps_have_effects.start controller s timestamp challenge coherent).0 turned)
  start_by controller who timestamp challenge caller (standing.Open o) (logon ∷ logons) place next None None sealing can new before coherent turned =
      let s : Requester = record { caller = caller; standing = standing.Open o; waiting = logon ∷ logons; next_place = place; next_call = next; turn = None; next = None; sealing = sealing } in
      let turn : ChannelTurn = record { requester = who; channel = channel_of controller caller.computer o; timestamp = timestamp } in
      moves_turned turn (view_of controller s) (view_of controller (start_of s timestamp challenge).state) (steps_have_effects.start controller s timestamp challenge coherent).0 refl turned
  start_by controller who timestamp challenge caller (standing.Open o) (logon ∷ logons) place next None (Some secret) sealing can new before coherent turned =
      let s : Requester = record { caller = caller; standing = standing.Open o; waiting = logon ∷ logons; next_place = place; next_call = next; turn = None; next = Some secret; sealing = sealing } in
      let turn : ChannelTurn = record { requester = who; channel = channel_of controller caller.computer o; timestamp = timestamp } in
      moves_turned turn (view_of controller s) (view_of controller (start_of s timestamp challenge).state) (steps_have_effects.start controller s timestamp challenge coherent).0 refl turned

  pub starts_so : (controller : ℕ) (who : RequesterId) (timestamp : ℕ) (challenge : List ℕ) (needs : Bool) (s : Requester) → can_start s.turn s.waiting ≡ true → needs_challenge s.standing ≡ needs →
      IsFreshIf needs challenge drawn → AllByRecursion (λ (turn : ChannelTurn). IsDrawn turn.channel.client drawn) own → IsCoherent s → Turned (view_of controller s) own drawn →
      Turned (view_of controller (start_of s timestamp challenge).state) (own ++ turn_of controller who (start_of s timestamp challenge).state) (drawn_if needs challenge drawn)
  starts_so controller who timestamp challenge needs s can need new before coherent turned =
      subst
      (λ (b : Bool). Turned (view_of controller (start_of s timestamp challenge).state) (own ++ turn_of controller who (start_of s timestamp challenge).state) (drawn_if b challenge drawn)) need
      (start_by controller who timestamp challenge s.caller s.standing s.waiting s.next_place s.next_call s.turn s.next s.sealing can (subst (λ (b : Bool). IsFreshIf b challenge drawn) (sym need) new) before
      coherent turned)

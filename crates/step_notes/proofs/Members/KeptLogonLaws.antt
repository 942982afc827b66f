-- The logons that a member keeps, through its steps: each is that of a message that it took. And the link of its turn
-- is one that it dialled. It serves `Proved.asked`, `Proved.let_in`, `Proved.sends`.
use Rattle.std.proofs.Common.{◌≡◌, ℕ, ◌<◌, Bool, true, false, List, [], ◌∷◌, ◌++◌, ◌⊎◌, inl, inr, Option, Some, None, Result, Ok, Err, refl, sym, subst, ◌∙◌, if◌then◌else◌}
use Rattle.std.specs.Prelude.{flat_map}
use Rattle.std.specs.List.{AllByRecursion}
use Rattle.std.proofs.lemmas.Bool.{eqb-true}
use Rattle.std.proofs.lemmas.List.{append_assoc}
use Rattle.wire_base.specs.Maps.{has_key, lookup, put, take_out, same_number}
use Rattle.wire_base.proofs.MapLaws.{lookup-put_same}
use Rattle.wire_base.proofs.NameLaws.{IsSameness-same_number}
use Rattle.outside.specs.declared.action.DropCause.TheVariants as drop_cause
use Rattle.outside.specs.declared.event.Event.{Event}
use Rattle.outside.specs.declared.event.Event.TheVariants as event
use Rattle.rpc_units.specs.declared.refused.UnitRefused.{UnitRefused}
use Rattle.rpc_units.specs.declared.unit.Unit.{Unit as RpcUnit}
use Rattle.rpc_units.specs.Reading.{unit_of}
use Rattle.rpc_units.specs.Stream.{Cut, cut_stream}
use Rattle.end_links.specs.Serving.{ServedPart, served_cut, ServedUnit, served_units}
use Rattle.end_links.proofs.KeepLaws.{unit_served}
use Rattle.channel_client.specs.Machine.{lose_of}
use Rattle.member_server.specs.declared.outcomes.Ending.{Ending}
use Rattle.member_server.specs.declared.outcomes.Ending.TheVariants as ending
use Rattle.member_server.specs.declared.state.AtLink.{AtLink}
use Rattle.member_server.specs.declared.state.Bound.{Bound}
use Rattle.channel_turns.specs.declared.state.Dialling.{Dialling}
use Rattle.channel_turns.specs.declared.state.Dialling.TheVariants as dialling
use Rattle.member_server.specs.declared.state.Logon.{Logon}
use Rattle.member_server.specs.declared.state.Logons.{Logons}
use Rattle.member_server.specs.declared.state.Phase.{Phase}
use Rattle.member_server.specs.declared.state.Phase.TheVariants as phase
use Rattle.member_server.specs.declared.state.Running.{Running}
use Rattle.member_server.specs.declared.state.Talk.{Talk}
use Rattle.channel_turns.specs.declared.state.TurnTalk.{TurnTalk}
use Rattle.member_server.specs.declared.state.Work.{Work}
use Rattle.member_server.specs.Machine.{serve_dialled, step_of, work_of}
use Rattle.member_server.specs.Outcomes.{after_link, at_link, end_logon, keep_link, phase_after, tell_outcome, without_link, without_logon}
use Rattle.member_server.specs.State.{State as MemberState}
use Rattle.member_server.specs.Turns.{AtTurn, TurnServed, turn_unit}
use Rattle.member_server.specs.Units.{bound_unit, first_unit, is_fresh, link_server, serve_held, unit_by}
use Rattle.member_server.specs.Work.{Served}
use Rattle.member_server.proofs.LinkView.{BoundView, Closes, Asks, Overflows, bound_view, logon_at}
use Rattle.member_server.proofs.OutcomeView.{EndView, Unknown, Tells, Reaches, end_view}
use Rattle.member_server.proofs.StepFrame.{KeepsEvent, KeepsNext, PartHolds, TakesTurn, TurnHolds, WorkFact, dialled_keeps, each_taken, part_keeps, step_keeps as step_holds, turn_ended, turn_keeps as turn_holds}
use Rattle.wire_base.specs.Lists.{OneOf}
use Rattle.step_notes.specs.MemberNotes.{LinkAt, is_challenged, link_units, message_after, message_by, message_kept, message_note}
use Rattle.step_notes.specs.Records.{MessageTaken}
use Rattle.step_notes.proofs.ServedLaws.{served_noted}
use Rattle.step_notes.proofs.Members.LinkBytesLaws.{bytes_hear, units_then}
use Rattle.step_notes.proofs.Members.SameLogonLaws.{IsIdle, IsIdlePart, bound_idle, first_idle, held_idle}
use Rattle.step_notes.proofs.Members.UnservedLaws.{IfUnserved, IfUnservedAfter, IfUnservedPart, LinksIn, bound_serves, ended_serves, found_known, none_so, part_known}

-- ---- one of a list

pub one_before : {T : Type 0} (Fits : T → Type 0) (items more : List T) → OneOf Fits items → OneOf Fits (items ++ more)
one_before Fits [] more one = absurd one
one_before Fits (item ∷ items) more one = elim one [ inl here ↦ inl here | inr later ↦ inr (one_before Fits items more later) ]

one_behind : {T : Type 0} (Fits : T → Type 0) (items more : List T) → OneOf Fits more → OneOf Fits (items ++ more)
one_behind Fits [] more one = one
one_behind Fits (item ∷ items) more one = inr (one_behind Fits items more one)

-- ---- what holds of each logon that is kept, by its place

abbrev pub OfEach : (ℕ → Logon → Type 0) → List (ℕ × Logon) → Type 0
OfEach Fits asked = AllByRecursion (λ (entry : ℕ × Logon). Fits entry.0 entry.1) asked

pub each_so : (Fits Later : ℕ → Logon → Type 0) → ((place : ℕ) (logon : Logon) → Fits place logon → Later place logon) → (asked : List (ℕ × Logon)) → OfEach Fits asked → OfEach Later asked
each_so Fits Later so [] all = tt
each_so Fits Later so (entry ∷ asked) all = (so entry.0 entry.1 all.0, each_so Fits Later so asked all.1)

out_if : (Fits : ℕ → Logon → Type 0) (hit : Bool) (entry : ℕ × Logon) (asked rest : List (ℕ × Logon)) → Fits entry.0 entry.1 → OfEach Fits asked → OfEach Fits rest →
    OfEach Fits (if hit then asked else entry ∷ rest)
out_if Fits true entry asked rest one all more = all
out_if Fits false entry asked rest one all more = (one, more)

each_out : (Fits : ℕ → Logon → Type 0) (place : ℕ) (asked : List (ℕ × Logon)) → OfEach Fits asked → OfEach Fits (take_out same_number place asked)
each_out Fits place [] all = tt
each_out Fits place (entry ∷ asked) all =
    out_if Fits (has_key same_number place entry) entry asked (take_out same_number place asked) all.0 all.1 (each_out Fits place asked all.1)

put_if : (Fits : ℕ → Logon → Type 0) (hit : Bool) (place : ℕ) (logon : Logon) (entry : ℕ × Logon) (asked rest : List (ℕ × Logon)) → Fits place logon → Fits entry.0 entry.1 →
    OfEach Fits asked → OfEach Fits rest → OfEach Fits (if hit then (place, logon) ∷ asked else entry ∷ rest)
put_if Fits true place logon entry asked rest new one all more = (new, all)
put_if Fits false place logon entry asked rest new one all more = (one, more)

each_put : (Fits : ℕ → Logon → Type 0) (place : ℕ) (logon : Logon) (asked : List (ℕ × Logon)) → Fits place logon → OfEach Fits asked → OfEach Fits (put same_number place logon asked)
each_put Fits place logon [] new all = (new, tt)
each_put Fits place logon (entry ∷ asked) new all =
    put_if Fits (has_key same_number place entry) place logon entry asked (put same_number place logon asked) new all.0 all.1 (each_put Fits place logon asked new all.1)

found_if : (hit : Bool) (Fits : ℕ → Logon → Type 0) (place : ℕ) (entry : ℕ × Logon) (found : Option Logon) (logon : Logon) → same_number place entry.0 ≡ hit →
    (if hit then Some entry.1 else found) ≡ Some logon → Fits entry.0 entry.1 → (found ≡ Some logon → Fits place logon) → Fits place logon
found_if true Fits place entry found logon is there one later =
    let here : entry.1 ≡ logon = cc in
    subst (λ (l : Logon). Fits place l) here (subst (λ (n : ℕ). Fits n entry.1) (sym (eqb-true place entry.0 is)) one)
found_if false Fits place entry found logon is there one later = later there

pub each_found : (Fits : ℕ → Logon → Type 0) (place : ℕ) (asked : List (ℕ × Logon)) (logon : Logon) → lookup same_number place asked ≡ Some logon → OfEach Fits asked → Fits place logon
each_found Fits place [] logon there all = absurd cc
each_found Fits place (entry ∷ asked) logon there all =
    found_if (same_number place entry.0) Fits place entry (lookup same_number place asked) logon refl there all.0 (λ later. each_found Fits place asked logon later all.1)

-- ---- what is kept of a member: of each of its logons, and of the link of its turn

abbrev pub IfDialled : (ℕ → Type 0) → Dialling → Type 0
IfDialled Own dialling.Nothing = Unit {0}
IfDialled Own (dialling.Waits turn frames) = Unit {0}
IfDialled Own (dialling.On number said) = Own number

-- a member that was halted keeps nothing
abbrev pub KeptIn : (ℕ → Logon → Type 0) → (ℕ → Type 0) → Option Running → Type 0
KeptIn Fits Own None = Unit {0}
KeptIn Fits Own (Some running) = OfEach Fits running.logons.asked × IfDialled Own running.dialling

dialled_so : (Own Later : ℕ → Type 0) → ((number : ℕ) → Own number → Later number) → (how : Dialling) → IfDialled Own how → IfDialled Later how
dialled_so Own Later so dialling.Nothing own = tt
dialled_so Own Later so (dialling.Waits turn frames) own = tt
dialled_so Own Later so (dialling.On number said) own = so number own

pub kept_so : (Fits Later : ℕ → Logon → Type 0) (Own More : ℕ → Type 0) → ((place : ℕ) (logon : Logon) → Fits place logon → Later place logon) → ((number : ℕ) → Own number → More number) →
    (r : Option Running) → KeptIn Fits Own r → KeptIn Later More r
kept_so Fits Later Own More so also None kept = tt
kept_so Fits Later Own More so also (Some running) kept =
    (each_so Fits Later so running.logons.asked kept.0, dialled_so Own More also running.dialling kept.1)

abbrev pub WorkKeeps : (ℕ → Logon → Type 0) → (ℕ → Type 0) → WorkFact
WorkKeeps Fits Own how w left = OfEach Fits w.logons.asked × IfDialled Own how

module _ (Fits : ℕ → Logon → Type 0) (Own : ℕ → Type 0) where
  -- ---- an outcome

  put_back : (said : Option Talk) (rest : List ℕ) (number : ℕ) (at : AtLink) (w : Work) → OfEach Fits at.logons.asked → OfEach Fits (keep_link said rest number (after_link at w)).logons.asked
  put_back None rest number at w all = all
  put_back (Some talk) rest number at w all = all

  ended_keeps : (place : ℕ) (how : Ending) (w after : Work) → EndView place how w after → OfEach Fits w.logons.asked → OfEach Fits after.logons.asked
  ended_keeps place how w after (Unknown none) all = each_out Fits place w.logons.asked all
  ended_keeps place how w after (Tells logon kept) all = each_out Fits place w.logons.asked all
  ended_keeps place how w after (Reaches logon link bound held kept there is) all =
      let alone : Work = without_link logon.link (tell_outcome how logon (without_logon place w)) in
      let at : AtLink = at_link logon.link alone in
      let talk : Talk = record { joiner = link.talk.joiner; phase = phase_after how logon bound } in
      let served : Served = serve_held held at talk in
      put_back served.1 link.rest logon.link served.0 alone
      (subst (λ (l : Logons). OfEach Fits l.asked) (sym (held_idle held at talk (ended_serves how logon bound)).0) (each_out Fits place w.logons.asked all))

  end_keeps : (place : ℕ) (how : Ending) (w : Work) → OfEach Fits w.logons.asked → OfEach Fits (end_logon place how w).logons.asked
  end_keeps place how w all = ended_keeps place how w (end_logon place how w) (end_view place how w) all

  -- ---- the turn

  turn_frame : TakesTurn (λ units at. OfEach Fits at.work.logons.asked) (λ w. OfEach Fits w.logons.asked)
  turn_frame = each_taken (λ units at. OfEach Fits at.work.logons.asked) (λ w. OfEach Fits w.logons.asked) (record {
    skips = λ right unit units at is all. all;
    sends = λ right frames unit units at is all. all;
    ends = λ how unit units at is all. turn_ended how _ (λ w. OfEach Fits w.logons.asked) (λ none. all) (λ place ends some. end_keeps place ends _ all);
    breaks = λ cause at all. end_keeps (lose_of at.work.logons.channel).place (ending.NoController drop_cause.BadReply) _ all;
  })

  served_keeps : (served : TurnServed) → TurnHolds (λ units at. OfEach Fits at.work.logons.asked) (λ w. OfEach Fits w.logons.asked) [] served →
      OfEach Fits served.0.work.logons.asked
  served_keeps (at, None) all = all
  served_keeps (at, Some talk) all = all

  pub turn_keeps : (unit : Result RpcUnit UnitRefused) (joiner : Option RpcUnit) (at : AtTurn) → OfEach Fits at.work.logons.asked →
      OfEach Fits (turn_unit unit joiner at).0.work.logons.asked
  turn_keeps unit joiner at all =
      served_keeps (turn_unit unit joiner at)
      (turn_holds (λ units at. OfEach Fits at.work.logons.asked) (λ w. OfEach Fits w.logons.asked) turn_frame unit joiner [] at all)

  turn_dialled : (cut : Cut) (number : ℕ) (talk : TurnTalk) (w : Work) (left : List (List ℕ)) → Own number → OfEach Fits w.logons.asked →
      PartHolds (WorkKeeps Fits Own) (serve_dialled cut number talk w left)
  turn_dialled cut number talk w left own all =
      dialled_keeps (λ units at. OfEach Fits at.work.logons.asked) (λ w. OfEach Fits w.logons.asked) (WorkKeeps Fits Own) turn_frame cut number talk w left (λ rest later at all. (all, own))
      (λ w all. (all, tt)) all

  -- ---- the next turn

  next_keeps : (now : ℕ) → KeepsNext now (WorkKeeps Fits Own) (WorkKeeps Fits Own)
  next_keeps now = record { still = λ how w left can kept. kept; starts = λ turn frames challenge how w before after can drawn is kept. (kept.0, tt) }

-- ---- a step at which no bytes come

-- what must be known of a link whose dial is answered; that no bytes come
abbrev pub Dials : (ℕ → Type 0) → Event → Type 0
Dials Own (event.Bytes link piece) = ⊥
Dials Own (event.Opened link) = Unit {0}
Dials Own (event.Closed link) = Unit {0}
Dials Own (event.Dialled link) = Own link
Dials Own event.DialFailed = Unit {0}
Dials Own event.Stop = Unit {0}

event_keeps : (Fits : ℕ → Logon → Type 0) (Own : ℕ → Type 0) (what : Event) → Dials Own what → KeepsEvent what (WorkKeeps Fits Own) (WorkKeeps Fits Own)
event_keeps Fits Own what dials = record {
  still = λ how w left kept. kept;
  closes = λ link how w left kept. kept;
  loses = λ cause how w left lost none kept. (end_keeps Fits Own (lose_of w.logons.channel).place (ending.NoController cause) _ kept.0, tt);
  full = λ link how w left is kept. kept;
  opens = λ link how w left is kept. kept;
  answers = λ link turn frames w left is kept. (kept.0, subst (Dials Own) is dials);
  link = λ number piece link how w left is there kept. absurd (subst (Dials Own) is dials);
  turn = λ number piece said w left is kept. absurd (subst (Dials Own) is dials);
}

pub step_keeps : (Fits : ℕ → Logon → Type 0) (Own : ℕ → Type 0) (what : Event) (m : MemberState) (now : ℕ) (left : List (List ℕ)) → Dials Own what → KeptIn Fits Own m.running →
    KeptIn Fits Own (step_of m what now left).state.running
step_keeps Fits Own what m now left dials kept =
    step_holds (KeptIn Fits Own) what now left m tt kept (λ running runs.
    part_keeps (WorkKeeps Fits Own) (WorkKeeps Fits Own) (WorkKeeps Fits Own) running what now left (event_keeps Fits Own what dials) (next_keeps Fits Own now)
    (subst (KeptIn Fits Own) runs kept))

-- ---- a message

-- The message is that of the logon of the place. The member took it before so many moves were made; or at the next one,
-- where the late fact holds.
pub record IsFor (Late : Type 0) (most member place : ℕ) (logon : Logon) (message : MessageTaken) : Type 0 where
  pub same_member : message.member ≡ member
  pub same_place : message.place ≡ place
  pub same_logon : message.logon ≡ logon
  pub link : message.link ≡ logon.link
  pub before : (message.at < most) ⊎ (Late × (message.at ≡ most))

abbrev pub HasFor : Type 0 → ℕ → ℕ → List MessageTaken → ℕ → Logon → Type 0
HasFor Late most member messages place logon = OneOf (λ (message : MessageTaken). IsFor Late most member place logon message) messages

each_more : (X : Type 0) (w : LinkAt) (messages more : List MessageTaken) (asked : List (ℕ × Logon)) → OfEach (HasFor X w.at w.member messages) asked → OfEach (HasFor X w.at w.member (messages ++ more)) asked
each_more X w messages more asked all =
    each_so (HasFor X w.at w.member messages) (HasFor X w.at w.member (messages ++ more))
    (λ place logon one. one_before (λ (message : MessageTaken). IsFor X w.at w.member place logon message) messages more one) asked all

-- a unit behind a CHALLENGE: a logon that it lets wait is that of the message that is written down
pub record Notes (X : Type 0) (w : LinkAt) (bytes : List ℕ) (at : AtLink) (served : Served) : Type 0 where
  pub link : served.0.link ≡ at.link
  pub keeps : (messages : List MessageTaken) → OfEach (HasFor X w.at w.member messages) at.logons.asked →
      OfEach (HasFor X w.at w.member (messages ++ message_after served.1 (Some served.0) w bytes)) served.0.logons.asked

noted : (X : Type 0) (w : LinkAt) (bytes : List ℕ) (place : ℕ) (logon : Logon) (asked : List (ℕ × Logon)) (messages : List MessageTaken) → logon.link ≡ w.link → X →
    HasFor X w.at w.member (messages ++ message_kept (lookup same_number place (put same_number place logon asked)) place w bytes) place logon
noted X w bytes place logon asked messages link late =
    subst (λ (found : Option Logon). HasFor X w.at w.member (messages ++ message_kept found place w bytes) place logon)
    (sym (lookup-put_same same_number place logon asked (IsSameness-same_number.reflexive place)))
    (one_behind (λ (message : MessageTaken). IsFor X w.at w.member place logon message) messages (message_kept (Some logon) place w bytes)
    (inl (record { same_member = refl; same_place = refl; same_logon = refl; link = sym link; before = inr (late, refl) })))

view_notes : (X : Type 0) (bytes : List ℕ) (joiner : Option RpcUnit) (w : LinkAt) (at : AtLink) (bound : Bound) (challenge : List ℕ) (flags : ℕ) (served : Served) →
    BoundView bytes joiner at (phase.Challenged bound challenge flags) served → at.link ≡ w.link → X → Notes X w bytes at served
view_notes X bytes joiner w at bound challenge flags served (Closes cause may) link late = record { link = refl; keeps = λ messages all. each_more X w messages [] at.logons.asked all }
view_notes X bytes joiner w at bound challenge flags served (Asks message place fit is) link late = record {
  link = refl;
  keeps = λ messages all.
      let logon : Logon = logon_at at challenge flags message in
      let more : List MessageTaken = message_kept (lookup same_number place (put same_number place logon at.logons.asked)) place w bytes in
      each_put (HasFor X w.at w.member (messages ++ more)) place logon at.logons.asked (noted X w bytes place logon at.logons.asked messages link late)
      (each_more X w messages more at.logons.asked all);
}
view_notes X bytes joiner w at bound challenge flags served (Overflows message fit is) link late =
    record { link = refl; keeps = λ messages all. each_more X w messages [] at.logons.asked all }

-- ---- the units of a stream

-- X is known where the challenge of the link hasn't served, and each logon that is kept has its message
abbrev pub AreNoted : Type 0 → LinkAt → List MessageTaken → ServedPart AtLink Talk → Type 0
AreNoted X w messages (Err why) = Unit {0}
AreNoted X w messages (Ok part) =
    IfUnservedAfter (λ (p : Phase). X) part.value.1 × (part.value.0.link ≡ w.link) × OfEach (HasFor X w.at w.member messages) part.value.0.logons.asked

module _ (X : Type 0) (w : LinkAt) where
  idle_notes : (messages : List MessageTaken) (part : ServedPart AtLink Talk) (at : AtLink) → IfUnservedPart (λ (p : Phase). X) part → IsIdlePart at part → at.link ≡ w.link →
      OfEach (HasFor X w.at w.member messages) at.logons.asked → AreNoted X w (messages ++ []) part
  idle_notes messages (Err refused) at known idle link all = tt
  idle_notes messages (Ok part) at known idle link all =
      (known, idle.1 ∙ link, subst (λ (l : Logons). OfEach (HasFor X w.at w.member (messages ++ [])) l.asked) (sym idle.0) (each_more X w messages [] at.logons.asked all))

  -- a unit on a link whose challenge has served
  bound_notes : (p : Phase) (bytes : List ℕ) (joiner : Option RpcUnit) (messages : List MessageTaken) (at : AtLink) (left : List (List ℕ)) → IfUnserved ⊥ p → at.link ≡ w.link →
      OfEach (HasFor X w.at w.member messages) at.logons.asked → AreNoted X w (messages ++ []) (unit_by false p bytes joiner at left)
  bound_notes p bytes joiner messages at left served link all =
      let idle : IsIdle at (bound_unit p bytes joiner at).0 = bound_idle p bytes joiner at served in
      idle_notes messages (unit_by false p bytes joiner at left) at (none_so (λ (p : Phase). X) (bound_unit p bytes joiner at).1 (bound_serves p bytes joiner at)) idle link all

  unit_notes : (p : Phase) (bytes : List ℕ) (joiner : Option RpcUnit) (talk : Talk) (messages : List MessageTaken) (at : AtLink) (left : List (List ℕ)) → IfUnserved X p → at.link ≡ w.link →
      OfEach (HasFor X w.at w.member messages) at.logons.asked →
      AreNoted X w
      (messages ++ message_by (is_challenged p) (record { bytes = bytes; work = at; talk = talk; left = left; part = unit_by (is_fresh p) p bytes joiner at left }) w)
      (unit_by (is_fresh p) p bytes joiner at left)
  unit_notes phase.Fresh bytes joiner talk messages at left known link all =
      let part : ServedPart AtLink Talk = first_unit (unit_of bytes) joiner at left in
      idle_notes messages part at (part_known X part known) (first_idle (unit_of bytes) joiner at left) link all
  unit_notes (phase.Challenged bound challenge flags) bytes joiner talk messages at left known link all =
      let served : Served = bound_unit (phase.Challenged bound challenge flags) bytes joiner at in
      let own : Notes X w bytes at served =
      view_notes X bytes joiner w at bound challenge flags served (bound_view bytes joiner at (phase.Challenged bound challenge flags)) link known in
      (none_so (λ (p : Phase). X) served.1 (bound_serves (phase.Challenged bound challenge flags) bytes joiner at), own.link ∙ link, own.keeps messages all)
  unit_notes (phase.Asked bound place held) bytes joiner talk messages at left known link all = bound_notes (phase.Asked bound place held) bytes joiner messages at left tt link all
  unit_notes (phase.In on) bytes joiner talk messages at left known link all = bound_notes (phase.In on) bytes joiner messages at left tt link all
  unit_notes (phase.Out bound status) bytes joiner talk messages at left known link all = bound_notes (phase.Out bound status) bytes joiner messages at left tt link all

  -- behind the messages that were taken before
  units_note : (cut : Cut) (messages : List MessageTaken) (at : AtLink) (talk : Talk) (left : List (List ℕ)) → IfUnserved X talk.phase → at.link ≡ w.link →
      OfEach (HasFor X w.at w.member messages) at.logons.asked →
      AreNoted X w (messages ++ flat_map (message_note w) (served_units link_server cut.units at talk left)) (served_cut link_server cut at talk left)
  units_note cut messages at talk left known link all =
      served_noted link_server (message_note w) (λ taken part. AreNoted X w (messages ++ taken) part) (record {
        unit = λ taken bytes at talk left noted.
            subst (λ (m : List MessageTaken). AreNoted X w m (link_server.unit bytes at talk left))
            (append_assoc messages taken (message_note w (unit_served link_server bytes at talk left)))
            (unit_notes talk.phase bytes talk.joiner talk (messages ++ taken) at left noted.0 noted.1 noted.2);
        refusal = λ taken why at talk left noted. (tt, noted.1, noted.2);
      }) cut at talk left (known, link, each_more X w messages [] at.logons.asked all)

-- ---- a step at which bytes come

kept_more : (X : Type 0) (Own : ℕ → Type 0) (w : LinkAt) (messages more : List MessageTaken) (r : Option Running) → KeptIn (HasFor X w.at w.member messages) Own r →
    KeptIn (HasFor X w.at w.member (messages ++ more)) Own r
kept_more X Own w messages more r kept =
    kept_so (HasFor X w.at w.member messages) (HasFor X w.at w.member (messages ++ more)) Own Own
    (λ place logon one. one_before (λ (message : MessageTaken). IsFor X w.at w.member place logon message) messages more one) (λ number own. own) r kept

-- with the messages that are written down as bytes come, on a link of which the fact is known where its challenge
-- hasn't served
pub bytes_keep : (May Own : ℕ → Type 0) (w : LinkAt) (m : MemberState) (piece : List ℕ) (now : ℕ) (left : List (List ℕ)) (messages : List MessageTaken) →
    LinksIn (λ (number : ℕ) (p : Phase). May number) m.running → KeptIn (HasFor (May w.link) w.at w.member messages) Own m.running →
    KeptIn (HasFor (May w.link) w.at w.member (messages ++ flat_map (message_note w) (link_units m w.link piece now left))) Own (step_of m (event.Bytes w.link piece) now left).state.running
bytes_keep May Own w m piece now left messages links kept =
    let Noted : List (ServedUnit AtLink Talk) → ℕ → Logon → Type 0 = λ units. HasFor (May w.link) w.at w.member (messages ++ flat_map (message_note w) units) in
    let more : KeptIn (Noted []) Own m.running = kept_more (May w.link) Own w messages [] m.running kept in
    bytes_hear w.link piece now left m (λ units. WorkKeeps (Noted units) Own) (λ units stepped. KeptIn (Noted units) Own stepped.state.running) (record {
      stopped = more;
      spent = tt;
      nowhere = λ running runs. subst (KeptIn (Noted []) Own) runs more;
      on_link = λ running link how runs is there.
          let cut : Cut = cut_stream (link.rest ++ piece) in
          let at : AtLink = at_link w.link (work_of running) in
          let units : List (ServedUnit AtLink Talk) = served_units link_server cut.units at link.talk left in
          let part : ServedPart AtLink Talk = served_cut link_server cut at link.talk left in
          let here : KeptIn (HasFor (May w.link) w.at w.member messages) Own (Some running) = subst (KeptIn (HasFor (May w.link) w.at w.member messages) Own) runs kept in
          let known = found_known (λ (number : ℕ) (p : Phase). May number) w.link running.links link there (subst (LinksIn (λ (number : ℕ) (p : Phase). May number)) runs links) in
          units_then (WorkKeeps (Noted units) Own) part cut.rest w.link how (without_link w.link (work_of running)) (λ after said rest comes.
          let noted = subst (AreNoted (May w.link) w (messages ++ flat_map (message_note w) units)) comes (units_note (May w.link) w cut messages at link.talk left known refl here.0) in
          (put_back (Noted units) Own said cut.rest w.link after (without_link w.link (work_of running)) noted.2, subst (IfDialled Own) is here.1));
      on_turn = λ running said runs is.
          let here : KeptIn (Noted []) Own (Some running) = subst (KeptIn (Noted []) Own) runs more in
          turn_dialled (Noted []) Own (cut_stream (said.rest ++ piece)) w.link said.talk (work_of running) left (subst (IfDialled Own) is here.1) here.0;
      next = λ units. record { still = λ how w left can kept. kept; starts = λ turn frames challenge how w before after can drawn is kept. (kept.0, tt) };
    })
